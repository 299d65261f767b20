use Rattle.std.proofs.Common.{◌≡◌, ◌≤◌, ◌-◌, length, take}
use Rattle.sys_procs.specs.inside.Packed.{split}
use Rattle.sys_procs.proofs.ArgsLemmas.{flat, joined, all_bytes}
use Rattle.sys_procs.proofs.arguments.read_list.Given as goal

-- the bytes that are read, before those that are still to be read, are all bytes of the list
abbrev pub invariant-loop-next : goal.invariant-loop-next
invariant-loop-next g l = record {
  fits : l.length ≤ 510;
  size : length l.bytes ≡ 512;
  number : l.count ≡ length (split (take l.length l.bytes));
  whole : joined (take l.length l.bytes) (flat (g.S.Space.image l.space) (510 - l.length) l.next) ≡ all_bytes (g.S.Space.image l.space) l.list;
}

abbrev pub decreases-loop-next : goal.decreases-loop-next
decreases-loop-next g l = 510 - l.length

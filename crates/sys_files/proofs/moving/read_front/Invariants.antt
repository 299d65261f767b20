use Rattle.std.proofs.Common.{◌≡◌, length, take}
use Rattle.fs_tree.specs.Name.{readable}
use Rattle.sys_files.proofs.moving.read_front.Given as goal

abbrev pub invariant-loop-i : goal.invariant-loop-i
invariant-loop-i g l = record {
  size : length l.into ≡ length l.fn.into;
  whole : length (readable (g.S.Space.image l.space) l.at l.i) ≡ l.i;
  front : take l.i l.into ≡ readable (g.S.Space.image l.space) l.at l.i;
}

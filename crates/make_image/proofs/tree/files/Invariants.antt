use Rattle.std.proofs.Common.{◌+◌, ◌*◌, ◌≤◌, ◌++◌, length}
use Rattle.std.specs.Prelude.{map}
use Rattle.std.specs.List.{range_with_len}
use Rattle.make_image.specs.Adding.{Holds}
use Rattle.make_image.specs.Files.{fixed_nodes, plain_file}
use Rattle.make_image.proofs.tree.files.Given as goal

abbrev pub invariant-loop-k : goal.invariant-loop-k
invariant-loop-k l = record {
  nodes : Holds (fixed_nodes l.n ++ map (plain_file l.n) (range_with_len 0 l.k)) l.files;
  few : length l.files.inodes.items ≤ 32 * (7 + l.k);
  small : length l.files.contents.items ≤ 4096 * (7 + l.k);
}

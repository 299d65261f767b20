use Rattle.std.proofs.Common.{◌≡◌, true, length}
use Rattle.fs_nodes.specs.FileSystem.{SameFiles}
use Rattle.fs_tree.specs.Name.{components, is_whole, begins}
use Rattle.fs_tree.specs.Path.{walk, way}
use Rattle.fs_tree.proofs.walk.walk.Given as goal

abbrev pub invariant-loop-last : goal.invariant-loop-last
invariant-loop-last g l = record {
  begins : begins l.name ≡ true;
  same : SameFiles l.fn.nodes l.nodes;
  walk : way l.fn.nodes.store l.mounts l.user l.fn.dir l.fn.name ≡ walk l.fn.nodes.store l.mounts l.user (is_whole l.name) l.at (components l.name);
}

abbrev pub decreases-loop-last : goal.decreases-loop-last
decreases-loop-last g l = length l.name

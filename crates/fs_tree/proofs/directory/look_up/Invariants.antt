use Rattle.std.proofs.Common.{◌≡◌, ◌≢◌, ◌/◌, ◌%◌, Some}
use Rattle.fs_codec.specs.Store.{Node}
use Rattle.fs_nodes.specs.Keys.{node_numbered}
use Rattle.fs_nodes.specs.FileSystem.{SameFiles}
use Rattle.fs_tree.specs.Directory.{HasBlock}
use Rattle.fs_tree.proofs.DirectoryLemmas.{Passed}
use Rattle.fs_tree.proofs.directory.look_up.Given as goal

abbrev pub invariant-loop-place : goal.invariant-loop-place
invariant-loop-place l = record {
  same : SameFiles l.fn.nodes l.nodes;
  passed : (node : Node) → node_numbered l.fn.nodes.store l.dir ≡ Some node → node.size ≡ l.size → Passed node l.name l.place l.empty;
  block : (node : Node) → node_numbered l.fn.nodes.store l.dir ≡ Some node → l.place % 32 ≢ 0 → HasBlock node (l.place / 32) l.block;
}

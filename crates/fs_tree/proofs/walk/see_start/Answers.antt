use Rattle.std.proofs.Common.{true, false, IsSome, Bool, ℕ, cond}
use Rattle.fs_nodes.specs.Keys.{Stores, node_numbered}
use Rattle.fs_tree.specs.Name.{is_rooted}
use Rattle.fs_tree.proofs.walk.see_start.Goals as goal

either : (store : Stores) (t : Bool) (dir : ℕ) → IsSome (node_numbered store 1) → IsSome (node_numbered store dir) → IsSome (node_numbered store (cond t 1 dir))
either store true dir root some = root
either store false dir root some = some

pub returns : goal.returns
returns c = record {
  start = λ bytes. either c.args.nodes.now.store (is_rooted bytes) c.args.dir c.see.ensures.root (c.see.ensures.used c.args.dir c.requires);
  second = c.see.ensures.second_root;
}

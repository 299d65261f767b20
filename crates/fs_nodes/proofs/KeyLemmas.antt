-- Nodes of two disks by keys.
use Rattle.std.proofs.Common.{◌≡◌, ◌-◌, ◌<◌, ◌&&◌, ℕ, true, false, cond, nat_lt, Option, Some, is_some, unwrap_or, ap, ◌∙◌, arith}
use Rattle.std.proofs.lemmas.Bool.Decides.{nat_tests}
use Rattle.fs_codec.specs.Store.{Store}
use Rattle.fs_codec.specs.Store as codec
use Rattle.fs_nodes.specs.Keys.{Stores, is_second, node_numbered}

pub node_root : (s : Stores) (key : ℕ) → is_second s key ≡ false → node_numbered s key ≡ codec.node_numbered s.root key
unfolding node_numbered
node_root s key low =
    ap (λ t. codec.node_numbered (cond t (unwrap_or s.second s.root) s.root) (cond t (key - s.root.count) key)) low

pub node_second : (s : Stores) (second : Store) (key : ℕ) → s.second ≡ Some second → s.root.count < key
    → node_numbered s key ≡ codec.node_numbered second (key - s.root.count)
unfolding node_numbered
node_second s second key is high =
    let there : is_second s key ≡ true = ap (λ (o : Option Store). is_some o && nat_lt s.root.count key) is ∙ (grind (arith, nat_tests)) in
    ap (λ t. codec.node_numbered (cond t (unwrap_or s.second s.root) s.root) (cond t (key - s.root.count) key)) there
    ∙ ap (λ (o : Option Store). codec.node_numbered (unwrap_or o s.root) (key - s.root.count)) is

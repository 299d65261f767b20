-- What becomes of the node of a key leaves the nodes of all other keys.
use Rattle.std.proofs.Common.{◌≡◌, ◌≢◌, ◌-◌, ◌==◌, ◌&&◌, ℕ, Bool, true, false, not, cond, nat_lt, Option, Some, None, refl, ap, ◌∙◌, arith}
use Rattle.std.proofs.lemmas.List.{get_or-set_other}
use Rattle.fs_codec.specs.Store.{Node, Store}
use Rattle.fs_codec.specs.Store as codec
use Rattle.fs_laws.specs.Numbers as numbers
use Rattle.fs_nodes.specs.Keys.{Stores, store_at, number_of, node_numbered, with_store_at, without_reference}
use Rattle.fs_nodes.proofs.JoinedLemmas.{above}
use Rattle.fs_nodes.proofs.CountLaws.{gone_count}

abbrev placed : Store → Store → Store → Bool → Stores
placed root y x t = cond {A = Stores} t (record { root = root; second = Some x }) (record { root = x; second = Some y })

module _ (root y x : Store) (key other : ℕ) (apart : other ≢ key) where
  -- the nodes of one disk are the same but for that of the key
  abbrev Rest : Bool → Type 0
  Rest t =
      (j : ℕ) → j ≢ cond {A = ℕ} t (key - root.count) key → codec.node_numbered x j ≡ codec.node_numbered
      (cond {A = Store} t y root) j

  in_second : nat_lt root.count key ≡ true → Rest true → (b : Bool) → nat_lt root.count other ≡ b
      → codec.node_numbered (cond {A = Store} b x root) (cond {A = ℕ} b (other - root.count) other)
      ≡ codec.node_numbered (cond {A = Store} b y root) (cond {A = ℕ} b (other - root.count) other)
  in_second is rest true e =
      let first = above root.count key is in
      let second = above root.count other e in
      rest (other - root.count) (λ same. let e : other - root.count ≡ key - root.count = same in apart (omega (arith, first, second, e)))
  in_second is rest false e = refl

  in_root : Rest false → (b : Bool)
      → codec.node_numbered (cond {A = Store} b y x) (cond {A = ℕ} b (other - root.count) other)
      ≡ codec.node_numbered (cond {A = Store} b y root) (cond {A = ℕ} b (other - root.count) other)
  in_root rest true = refl
  in_root rest false = rest other apart

  by_disk : (a : Bool) → nat_lt root.count key ≡ a → x.count ≡ (cond {A = Store} a y root).count → Rest a
      → node_numbered (placed root y x a) other ≡ node_numbered (record { root = root; second = Some y }) other
  unfolding node_numbered
  by_disk true is same rest = in_second is rest (nat_lt root.count other) refl
  by_disk false is same rest =
      ap (λ n. codec.node_numbered (cond {A = Store} (nat_lt n other) y x) (cond {A = ℕ} (nat_lt n other) (other - n) other)) same
      ∙ in_root rest (nat_lt root.count other)

one_disk : (root x : Store) (key other : ℕ) → other ≢ key
    → ((j : ℕ) → j ≢ key → codec.node_numbered x j ≡ codec.node_numbered root j)
    → node_numbered (with_store_at (record { root = root; second = None }) key x) other ≡ node_numbered (record { root = root; second = None }) other
unfolding node_numbered
one_disk root x key other apart rest = rest other apart

pub put_other : (root : Store) (o : Option Store) (key other : ℕ) (x : Store) → other ≢ key
    → x.count ≡ (store_at (record { root = root; second = o }) key).count
    → ((j : ℕ) → j ≢ number_of (record { root = root; second = o }) key
    → codec.node_numbered x j ≡ codec.node_numbered (store_at (record { root = root; second = o }) key) j)
    → node_numbered (with_store_at (record { root = root; second = o }) key x) other ≡ node_numbered (record { root = root; second = o }) other
put_other root None key other x apart same rest = one_disk root x key other apart rest
put_other root (Some y) key other x apart same rest = by_disk root y x key other apart (nat_lt root.count key) refl same rest

-- The last reference to a node goes.
gone_apart : (x : Store) (i j : ℕ) (node : Node) → j ≢ i
    → codec.node_numbered (numbers.without_reference x i node) j ≡ codec.node_numbered x j
gone_apart x i j node apart = by ((node.nlink == 0) && not (i == 1)) where
  by : (t : Bool) → codec.node_numbered (cond {A = Store} t (numbers.without_node x i node) x) j ≡ codec.node_numbered x j
  by true = get_or-set_other x.nodes i j None None apart
  by false = refl

pub gone_other : (s : Stores) (key other : ℕ) (node : Node) → other ≢ key
    → node_numbered (without_reference s key node) other ≡ node_numbered s other
unfolding without_reference
gone_other s key other node apart =
    put_other s.root s.second key other (numbers.without_reference (store_at s key) (number_of s key) node) apart
    (gone_count (store_at s key) (number_of s key) node)
    (λ j far. gone_apart (store_at s key) (number_of s key) j node far)

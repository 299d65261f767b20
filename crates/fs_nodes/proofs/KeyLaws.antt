-- What is so of a key once the node of one has changed.
use Rattle.std.proofs.Common.{◌≡◌, ◌≢◌, ◌⊎◌, ◌-◌, ◌==◌, ℕ, Bool, true, false, cond, nat_lt, length, slice_index_or, Option, Some, None, unwrap_or, inl, inr, refl, sym, ap, ◌∙◌, arith}
use Rattle.std.proofs.lemmas.Bool.{cases_lt}
use Rattle.std.proofs.lemmas.List.{get_or_past, set_past, get_or-set_same, get_or-set_other}
use Rattle.fs_codec.specs.Store.{Node, Store}
use Rattle.fs_codec.specs.Store as codec
use Rattle.fs_laws.specs.Numbers as numbers
use Rattle.fs_laws.specs.Numbers.{Draw}
use Rattle.fs_nodes.specs.Keys.{Stores, counts, store_at, number_of, node_numbered, room_at, in_place, with_store_at, with_node}
use Rattle.fs_nodes.specs.Numbers.{with_draw}
use Rattle.fs_nodes.proofs.JoinedLemmas.{above}

-- A store is where it was put, and the numbers of its disk are what they were.
pub record Stands (s : Stores) (key : ℕ) (x : Store) : Type 0 where
  pub store : store_at (with_store_at s key x) key ≡ x
  pub number : number_of (with_store_at s key x) key ≡ number_of s key
  pub counts : counts (with_store_at s key x) ≡ counts s

abbrev put : Store → Store → Store → Bool → Stores
put root s x t = cond {A = Stores} t (record { root = root; second = Some x }) (record { root = x; second = Some s })

pub stands : (root : Store) (o : Option Store) (key : ℕ) (x : Store)
    → x.count ≡ (store_at (record { root = root; second = o }) key).count
    → Stands (record { root = root; second = o }) key x
stands root None key x same = record { store = refl; number = refl; counts = ap (λ (n : ℕ). record { root = n; second = None }) same }
stands root (Some s) key x same = by (nat_lt root.count key) refl where
  by : (t : Bool) → nat_lt root.count key ≡ t → Stands (record { root = root; second = Some s }) key x
  by true is =
      let count : x.count ≡ s.count = same ∙ ap (λ t. (cond {A = Store} t s root).count) is in
      record {
        store = ap (λ t. store_at (put root s x t) key) is ∙ ap (λ t. cond {A = Store} t x root) is;
        number = ap (λ t. number_of (put root s x t) key) is;
        counts = ap (λ t. counts (put root s x t)) is ∙ ap (λ (n : ℕ). record { root = root.count; second = Some n }) count;
      }
  by false is =
      let count : x.count ≡ root.count = same ∙ ap (λ t. (cond {A = Store} t s root).count) is in
      record {
        store =
            ap (λ t. store_at (put root s x t) key) is ∙ ap (λ n. cond {A = Store} (nat_lt n key) s x) count
            ∙ ap (λ t. cond {A = Store} t s x) is;
        number = ap (λ t. number_of (put root s x t) key) is ∙ ap (λ n. cond {A = ℕ} (nat_lt n key) (key - n) key) count;
        counts = ap (λ t. counts (put root s x t)) is ∙ ap (λ (n : ℕ). record { root = n; second = Some s.count }) count;
      }

-- A store that is put where another was is there alone.
pub put_twice : (root : Store) (o : Option Store) (key : ℕ) (x y : Store)
    → x.count ≡ (store_at (record { root = root; second = o }) key).count
    → with_store_at (with_store_at (record { root = root; second = o }) key x) key y ≡ with_store_at (record { root = root; second = o }) key y
put_twice root None key x y same = refl
put_twice root (Some s) key x y same = by (nat_lt root.count key) refl where
  by : (t : Bool) → nat_lt root.count key ≡ t
      → with_store_at (put root s x (nat_lt root.count key)) key y ≡ put root s y (nat_lt root.count key)
  by true is =
      ap (λ t. with_store_at (put root s x t) key y) is ∙ ap (λ t. put root x y t) is ∙ sym (ap (λ t. put root s y t) is)
  by false is =
      let count : x.count ≡ root.count = same ∙ ap (λ t. (cond {A = Store} t s root).count) is in
      ap (λ t. with_store_at (put root s x t) key y) is
      ∙ ap (λ n. cond {A = Stores} (nat_lt n key) (record { root = x; second = Some y }) (record { root = y; second = Some s })) count
      ∙ ap (λ t. cond {A = Stores} t (record { root = x; second = Some y }) (record { root = y; second = Some s })) is
      ∙ sym (ap (λ t. put root s y t) is)

-- a node that was set
pub node_set : (s : Stores) (key room : ℕ) (node new : Node) → node_numbered s key ≡ Some node
    → node_numbered (with_node s key new room) key ≡ Some new
unfolding node_numbered with_node
node_set s key room node new there =
    let x : Store = numbers.with_node (store_at s key) (number_of s key) new room in
    let at = stands s.root s.second key x refl in
    (λ j. codec.node_numbered (at.store j) (at.number j))
    ∙ elim (cases_lt (number_of s key) (length (store_at s key).nodes)) [
      | inl low ↦ get_or-set_same (store_at s key).nodes (number_of s key) (Some new) None low
      | inr past ↦ (let none : Some node ≡ None = sym there ∙ get_or_past (store_at s key).nodes (number_of s key) None past in absurd (cc))
    ]

-- the same where there was none: it is set, or there is no place for it
pub node_put : (s : Stores) (key room : ℕ) (new : Node)
    → (node_numbered (with_node s key new room) key ≡ Some new) ⊎ (node_numbered (with_node s key new room) key ≡ node_numbered s key)
unfolding node_numbered with_node
node_put s key room new =
    let x : Store = numbers.with_node (store_at s key) (number_of s key) new room in
    let at = stands s.root s.second key x refl in
    let here : codec.node_numbered (store_at (with_store_at s key x) key) (number_of (with_store_at s key x) key)
    ≡ codec.node_numbered x (number_of s key) = (λ j. codec.node_numbered (at.store j) (at.number j)) in
    elim (cases_lt (number_of s key) (length (store_at s key).nodes)) [
      | inl low ↦ inl (here ∙ get_or-set_same (store_at s key).nodes (number_of s key) (Some new) None low)
      | inr past ↦ inr (here
          ∙ ap (λ l. slice_index_or l (number_of s key) None) (set_past (store_at s key).nodes (number_of s key) (Some new) past))
    ]

pub counts_set : (s : Stores) (key room : ℕ) (new : Node) → counts (with_node s key new room) ≡ counts s
unfolding with_node
counts_set s key room new =
    (stands s.root s.second key (numbers.with_node (store_at s key) (number_of s key) new room) refl).counts

pub room_set : (s : Stores) (key room : ℕ) (new : Node) → room_at (with_node s key new room) key ≡ room
unfolding with_node room_at
room_set s key room new =
    ap (λ (x : Store). x.room)
    (stands s.root s.second key (numbers.with_node (store_at s key) (number_of s key) new room) refl).store

-- Any other node stays.
set_apart : (x : Store) (i j room : ℕ) (new : Node) → j ≢ i
    → codec.node_numbered (numbers.with_node x i new room) j ≡ codec.node_numbered x j
set_apart x i j room new apart = get_or-set_other x.nodes i j (Some new) None apart

module _ (root x : Store) (key other room : ℕ) (new : Node) (apart : other ≢ key) where
  in_second : nat_lt root.count key ≡ true → (b : Bool) → nat_lt root.count other ≡ b
      → codec.node_numbered (cond b (numbers.with_node x (key - root.count) new room) root) (cond b (other - root.count) other)
      ≡ codec.node_numbered (cond b x root) (cond b (other - root.count) other)
  in_second is true e =
      let first = above root.count key is in
      let second = above root.count other e in
      set_apart x (key - root.count) (other - root.count) room new (λ same. apart (omega (arith, first, second, same)))
  in_second is false e = refl

  in_root : (b : Bool)
      → codec.node_numbered (cond b x (numbers.with_node root key new room)) (cond b (other - root.count) other)
      ≡ codec.node_numbered (cond b x root) (cond b (other - root.count) other)
  in_root true = refl
  in_root false = set_apart root key other room new apart

  abbrev set_on : Bool → Stores
  set_on a =
      put root x (numbers.with_node (cond {A = Store} a x root) (cond {A = ℕ} a (key - root.count) key) new room) a

  in_either : (a : Bool) → nat_lt root.count key ≡ a
      → node_numbered (set_on a) other ≡ node_numbered (record { root = root; second = Some x }) other
  unfolding node_numbered
  in_either true is = in_second is (nat_lt root.count other) refl
  in_either false is = in_root (nat_lt root.count other)

  in_both : node_numbered (with_node (record { root = root; second = Some x }) key new room) other
      ≡ node_numbered (record { root = root; second = Some x }) other
  unfolding with_node
  in_both = in_either (nat_lt root.count key) refl

one_apart : (root : Store) (key other room : ℕ) (new : Node) → other ≢ key
    → node_numbered (with_node (record { root = root; second = None }) key new room) other
    ≡ node_numbered (record { root = root; second = None }) other
unfolding node_numbered with_node
one_apart root key other room new apart = set_apart root key other room new apart

pub node_other : (s : Stores) (key other room : ℕ) (new : Node) → other ≢ key
    → node_numbered (with_node s key new room) other ≡ node_numbered s other
node_other s key other room new apart = by s.root s.second where
  by : (root : Store) (o : Option Store) → node_numbered (with_node (record { root = root; second = o }) key new room) other
      ≡ node_numbered (record { root = root; second = o }) other
  by root None = one_apart root key other room new apart
  by root (Some x) = in_both root x key other room new apart

-- The draw of a number leaves all nodes.
root_drawn : (root x : Store) (key : ℕ) (d : Draw) (b : Bool)
    → codec.node_numbered (cond b x (numbers.with_draw root d)) (cond b (key - root.count) key)
    ≡ codec.node_numbered (cond b x root) (cond b (key - root.count) key)
root_drawn root x key d true = refl
root_drawn root x key d false = refl

second_drawn : (root x : Store) (key : ℕ) (d : Draw) (b : Bool)
    → codec.node_numbered (cond b (numbers.with_draw x d) root) (cond b (key - root.count) key)
    ≡ codec.node_numbered (cond b x root) (cond b (key - root.count) key)
second_drawn root x key d true = refl
second_drawn root x key d false = refl

drawn_by : (root : Store) (o : Option Store) (key : ℕ) (d : Draw) (t : Bool)
    → node_numbered (cond {A = Stores} t (record { root = numbers.with_draw (cond {A = Store} t root (unwrap_or o root)) d; second = o })
    (record { root = root; second = in_place o (numbers.with_draw (cond {A = Store} t root (unwrap_or o root)) d) })) key
    ≡ node_numbered (record { root = root; second = o }) key
unfolding node_numbered
drawn_by root None key d true = refl
drawn_by root None key d false = refl
drawn_by root (Some x) key d true = root_drawn root x key d (nat_lt root.count key)
drawn_by root (Some x) key d false = second_drawn root x key d (nat_lt root.count key)

pub node_drawn : (s : Stores) (dev : ℕ) (d : Draw) (key : ℕ) → node_numbered (with_draw s dev d) key ≡ node_numbered s key
node_drawn s dev d key = drawn_by s.root s.second key d (dev == 0)

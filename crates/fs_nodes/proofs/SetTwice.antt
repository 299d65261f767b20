-- A node that is set once more, and one that is set to what it is.
use Rattle.std.proofs.Common.{◌≡◌, ◌≢◌, ◌⊎◌, ◌≤◌, ◌==◌, ◌||◌, ℕ, Bool, true, false, not, cond, nat_lt, slice_set, Option, Some, None, inl, inr, refl, sym, ap, ◌∙◌, arith}
use Rattle.std.proofs.lemmas.Bool.{cases_eq, eq-eqb, ne_eqb}
use Rattle.std.proofs.lemmas.List.{set-set, set-get_or}
use Rattle.fs_codec.specs.Store.{Node, Store}
use Rattle.fs_codec.specs.Store as codec
use Rattle.fs_laws.specs.Numbers as numbers
use Rattle.fs_nodes.specs.Keys.{Stores, store_at, number_of, node_numbered, room_at, with_store_at, with_node}
use Rattle.fs_nodes.proofs.KeyLaws.{stands, put_twice}

-- Where the number of free blocks falls twice, it differs in the end if it ever did.
mark_twice : (mark : Bool) (r s t : ℕ) → s ≤ r → t ≤ s → (mark || not (s == r)) || not (t == s) ≡ mark || not (t == r)
mark_twice mark r s t less least = by mark (cases_eq s r) (cases_eq t s)
  where
    by : (mark : Bool) → (s ≡ r) ⊎ (s ≡ r → ⊥) → (t ≡ s) ⊎ (t ≡ s → ⊥)
        → (mark || not (s == r)) || not (t == s) ≡ mark || not (t == r)
    by true a b = refl
    by false (inl same) b = ap (λ x. not (x == r) || not (t == x)) same ∙ ap (λ b. not b || not (t == r)) (eq-eqb r r refl)
    by false (inr other) (inl same) = ap (λ b. not b || not (t == s)) (ne_eqb s r other)
        ∙ sym (ap not (ne_eqb t r (λ e. other (omega (arith, e, same)))))
    by false (inr other) (inr different) =
        ap (λ b. not b || not (t == s)) (ne_eqb s r other)
        ∙ sym (ap not (ne_eqb t r (λ e. other (omega (arith, e, less, least)))))

-- A node is set twice, and the free blocks do not become more.
store_twice : (store : Store) (i : ℕ) (a b : Node) (r s : ℕ) → r ≤ store.room → s ≤ r
    → numbers.with_node (numbers.with_node store i a r) i b s ≡ numbers.with_node store i b s
store_twice store i a b r s less least =
    ap (λ nodes. record (numbers.with_node (numbers.with_node store i a r) i b s) { nodes = nodes })
    (set-set store.nodes i (Some a) (Some b))
    ∙ ap (λ mark. record (numbers.with_node store i b s) { mark = mark }) (mark_twice store.mark store.room r s less least)

pub node_twice : (store : Stores) (ino : ℕ) (a b : Node) (r s : ℕ) → r ≤ room_at store ino → s ≤ r
    → with_node (with_node store ino a r) ino b s ≡ with_node store ino b s
unfolding with_node room_at
node_twice store ino a b r s less least =
    let own : Store = store_at store ino in
    let i : ℕ = number_of store ino in
    let x : Store = numbers.with_node own i a r in
    let at = stands store.root store.second ino x refl in
    (λ j. with_store_at (with_store_at store ino x) ino (numbers.with_node (at.store j) (at.number j) b s))
    ∙ put_twice store.root store.second ino x (numbers.with_node x i b s) refl
    ∙ ap (λ (y : Store). with_store_at store ino y) (store_twice own i a b r s less least)

-- a store that is put where it was
own_store : (root : Store) (o : Option Store) (key : ℕ)
    → with_store_at (record { root = root; second = o }) key (store_at (record { root = root; second = o }) key)
    ≡ record { root = root; second = o }
own_store root None key = refl
own_store root (Some s) key = by (nat_lt root.count key)
  where
    by : (b : Bool) → cond {A = Stores} b (record { root = root; second = Some (cond {A = Store} b s root) })
        (record { root = cond {A = Store} b s root; second = Some s })
        ≡ record { root = root; second = Some s }
    by true = refl
    by false = refl

same_mark : (mark : Bool) (r : ℕ) → mark || not (r == r) ≡ mark
same_mark mark r = ap (λ b. mark || not b) (eq-eqb r r refl) ∙ by mark
  where
    by : (b : Bool) → b || false ≡ b
    by true = refl
    by false = refl

own_number : (x : Store) (i : ℕ) (node : Node) → codec.node_numbered x i ≡ Some node → numbers.with_node x i node x.room ≡ x
own_number x i node there =
    let nodes = ap (slice_set x.nodes i) (sym there) ∙ set-get_or x.nodes i None in
    λ j. record x { nodes = nodes j; mark = same_mark x.mark x.room j }

pub own_node : (store : Stores) (ino : ℕ) (node : Node) → node_numbered store ino ≡ Some node
    → with_node store ino node (room_at store ino) ≡ store
unfolding with_node room_at node_numbered
own_node store ino node there =
    ap (with_store_at store ino) (own_number (store_at store ino) (number_of store ino) node there)
    ∙ own_store store.root store.second ino

-- A change of a node leaves the store of the other disk alone.
use Rattle.std.proofs.Common.{◌≡◌, ℕ, Bool, true, false, cond, Option, Some, None, IsSome, refl, sym, ap, ◌∙◌, subst, arith}
use Rattle.fs_codec.specs.Store.{Node, Store}
use Rattle.fs_laws.specs.Numbers as numbers
use Rattle.fs_nodes.specs.Keys.{Stores, OnItsDisk, is_second, store_at, number_of, node_numbered, with_store_at, with_node, with_fields, with_truncated, without_reference, room_at}

pub at_key : (s : Stores) (key : ℕ) (x : Store) → OnItsDisk s (with_store_at s key x) key
at_key s key x = by (is_second s key) refl where
  by : (t : Bool) → is_second s key ≡ t → OnItsDisk s (with_store_at s key x) key
  by true is = record {
    second = λ on. (let one : 1 ≡ 0 = sym (ap (λ t. cond {A = ℕ} t 1 0) is) ∙ on in absurd (omega (arith, one)));
    root = λ on. ap (λ (t : Bool). (cond {A = Stores} t (record s { second = Some x }) (record s { root = x })).root) is;
  }
  by false is = record {
    second = λ on. ap (λ (t : Bool). (cond {A = Stores} t (record s { second = Some x }) (record s { root = x })).second) is;
    root = λ on. (let zero : 0 ≡ 1 = sym (ap (λ t. cond {A = ℕ} t 1 0) is) ∙ on in absurd (omega (arith, zero)));
  }

pub same_stores : (s : Stores) (key : ℕ) → OnItsDisk s s key
same_stores s key = record { second = λ on. refl; root = λ on. refl }

pub node_there : (s : Stores) (key : ℕ) (node : Node) (room : ℕ) → OnItsDisk s (with_node s key node room) key
unfolding with_node
node_there s key node room = at_key s key (numbers.with_node (store_at s key) (number_of s key) node room)

pub fields_there : (s : Stores) (key : ℕ) (node : Node) → OnItsDisk s (with_fields s key node) key
fields_there s key node = node_there s key node (room_at s key)

pub cut_there : (s : Stores) (key : ℕ) (node : Node) (time : ℕ) → OnItsDisk s (with_truncated s key node time) key
unfolding with_truncated
cut_there s key node time = at_key s key (numbers.with_truncated (store_at s key) (number_of s key) node time)

pub gone_there : (s : Stores) (key : ℕ) (node : Node) → OnItsDisk s (without_reference s key node) key
unfolding without_reference
gone_there s key node = at_key s key (numbers.without_reference (store_at s key) (number_of s key) node)

-- the same of a node that is there, whatever it becomes
pub moved_there : (old new : Stores) (key : ℕ) (node : Node → Node) (room : Node → ℕ) → IsSome (node_numbered old key)
    → ((n : Node) → node_numbered old key ≡ Some n → new ≡ with_node old key (node n) (room n)) → OnItsDisk old new key
moved_there old new key node room there does = by (node_numbered old key) refl there where
  by : (o : Option Node) → node_numbered old key ≡ o → IsSome o → OnItsDisk old new key
  by None is some = absurd (cc)
  by (Some n) is some = subst (λ (s : Stores). OnItsDisk old s key) (sym (does n is)) (node_there old key (node n) (room n))

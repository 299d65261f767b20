-- A new inode: its key is one that no node had, and of the disk that was asked for.
use Rattle.std.proofs.Common.{◌≡◌, ◌≢◌, ◌+◌, ◌-◌, ◌<◌, ◌≤◌, ◌&&◌, ℕ, zero, suc, Bool, true, false, cond, nat_le, nat_lt, Option, Some, None, IsSome, is_some, is_none, unwrap_or, slice_index, refl, sym, ap, ◌∙◌, subst, arith}
use Rattle.std.proofs.lemmas.Bool.{and_right, leb-true, le-leb, lt-leb, le-ltb}
use Rattle.fs_codec.specs.Store.{Node, Store}
use Rattle.fs_codec.specs.Store as codec
use Rattle.fs_laws.specs.Numbers.{is_free_number}
use Rattle.fs_nodes.specs.FileSystem.{FileSystem}
use Rattle.fs_nodes.specs.Numbers.{MakesNode}
use Rattle.fs_nodes.specs.Keys.{Stores, key_count, key_on, store_on, node_numbered, references_on}
use Rattle.fs_nodes.proofs.KeyLemmas.{node_root, node_second}
use Rattle.fs_nodes.proofs.NumbersMake.{draw_free}

-- A number that is free is one of its disk, and no node has it.
record IsFreeHere (s : Store) (ino : ℕ) : Type 0 where
  pub low : 1 ≤ ino
  pub high : ino ≤ s.count
  pub none : codec.node_numbered s ino ≡ None

free_here : (s : Store) (ino : ℕ) → is_free_number s ino ≡ true → IsFreeHere s ino
free_here s ino is = by (nat_le 1 ino) refl (nat_le ino s.count) refl (codec.node_numbered s ino) refl is where
  by : (a : Bool) → nat_le 1 ino ≡ a → (b : Bool) → nat_le ino s.count ≡ b → (o : Option Node) → codec.node_numbered s ino ≡ o
      → (a && b && is_none o) ≡ true → IsFreeHere s ino
  by true x true y None z p = record { low = leb-true 1 ino x; high = leb-true ino s.count y; none = z }
  by true x true y (Some node) z p = absurd (cc)
  by true x false y o z p = absurd (cc)
  by false x b y o z p = absurd (cc)

pub record IsNewKey (s : Stores) (dev key : ℕ) : Type 0 where
  pub none : node_numbered s key ≡ None
  pub low : 1 ≤ key
  pub high : key ≤ key_count s
  pub disk : cond {A = ℕ} (nat_le key s.root.count) 0 1 ≡ dev

new_on_root : (s : Stores) (ino : ℕ) → IsFreeHere s.root ino → IsNewKey s 0 ino
new_on_root s ino free =
    let high = free.high in
    let not_above : nat_lt s.root.count ino ≡ false = le-ltb s.root.count ino high in
    let below : nat_le ino s.root.count ≡ true = le-leb ino s.root.count high in
    record {
      none = node_root s ino (and_right (is_some s.second) (nat_lt s.root.count ino) not_above) ∙ free.none;
      low = free.low;
      high = omega (arith, high);
      disk = ap (λ t. cond {A = ℕ} t 0 1) below;
    }

new_on_second : (s : Stores) (x : Store) (ino : ℕ) → s.second ≡ Some x → IsFreeHere x ino → IsNewKey s 1 (s.root.count + ino)
new_on_second s x ino is free =
    let low = free.low in
    let high = free.high in
    let above : nat_le (s.root.count + ino) s.root.count ≡ false = lt-leb (s.root.count + ino) s.root.count (omega (arith, low)) in
    let number : s.root.count + ino - s.root.count ≡ ino = omega arith in
    let all : key_count s ≡ s.root.count + x.count = ap (λ (o : Option Store). key_count (record { root = s.root; second = o })) is in
    record {
      none = node_second s x (s.root.count + ino) is (omega (arith, low)) ∙ ap (codec.node_numbered x) number ∙ free.none;
      low = omega (arith, low);
      high = omega (arith, high, all);
      disk = ap (λ t. cond {A = ℕ} t 0 1) above;
    }

some_is : (o : Option Store) → IsSome o → (x : Store) × (o ≡ Some x)
some_is None some = absurd (cc)
some_is (Some x) some = (x, refl)

pub new_key : (s : Stores) (dev ino : ℕ) → dev < 2 → (dev ≢ 0 → IsSome s.second) → is_free_number (store_on s dev) ino ≡ true
    → IsNewKey s dev (key_on s dev ino)
new_key s zero ino small there free = new_on_root s ino (free_here s.root ino free)
new_key s (suc zero) ino small there free =
    let second = some_is s.second (there (λ e. let one : 1 ≡ 0 = e in omega (arith, one))) in
    let here : unwrap_or s.second s.root ≡ second.0 = ap (λ (o : Option Store). unwrap_or o s.root) second.1 in
    new_on_second s second.0 ino second.1 (free_here second.0 ino (subst (λ (x : Store). is_free_number x ino ≡ true) here free))
new_key s (suc (suc n)) ino small there free = absurd (omega (arith, small))

-- the same of an inode that has been made
pub made_key : (old new : FileSystem) (dev mode uid gid time key : ℕ) → dev < 2 → (dev ≢ 0 → IsSome old.store.second)
    → MakesNode old dev mode uid gid time key new → IsNewKey old.store dev key
made_key old new dev mode uid gid time key small there made =
    let free = draw_free (store_on old.store dev) (λ i. nat_lt 0 (slice_index (references_on old.store old.references dev) i)) made.ino made.number in
    subst (IsNewKey old.store dev) (sym made.known) (new_key old.store dev made.ino small there free)

-- A disk among those that there are: what all file systems say of a key, its own says of a number, and what becomes of all where
-- its own changes.
use Rattle.std.proofs.Common.{◌≡◌, ◌+◌, ◌-◌, ◌<◌, ◌≤◌, ◌&&◌, ◌==◌, ◌⊎◌, ℕ, zero, suc, Bool, true, false, cond, nat_lt, List, not, length, replicate, drop, slice_index, slice_set, Option, Some, None, IsSome, is_some, unwrap_or, Result, Ok, Err, MatchResult, refl, sym, ap, ◌∙◌, inl, inr, subst, arith}
use Rattle.std.specs.List.{count_by}
use Rattle.std.proofs.lemmas.Bool.{cases_lt}
use Rattle.std.proofs.lemmas.Bool.Decides.{nat_tests, leb_tells}
use Rattle.std.proofs.lemmas.List.{get_or_past, get_or_append_left, get_or-append_right, get_or-drop}
use Rattle.std.proofs.lemmas.List.Sums.{sum_by-set}
use Rattle.buf_cache.specs.Blocks.{WritesLate}
use Rattle.fs_blocks.proofs.LateLemmas.{late_stays}
use Rattle.fs_codec.specs.Store.{Node, Store}
use Rattle.fs_codec.specs.Store as codec
use Rattle.fs_laws.specs.Numbers as numbers
use Rattle.fs_laws.specs.Rest.{SameAround}
use Rattle.fs_codec.specs.Modes.{is_device}
use Rattle.fs_laws.specs.Truncation.{truncated, names_held}
use Rattle.fs_nodes.specs.one_disk.FileSystem as disk
use Rattle.fs_nodes.specs.Disks.{OfSecond}
use Rattle.fs_nodes.specs.Keys.{Stores, store_at, number_of, node_numbered, room_at, with_store_at, with_node, with_fields, with_truncated, without_reference, joined}
use Rattle.fs_nodes.proofs.JoinedLemmas.{at_root, at_second, set_root, set_second, counted}
use Rattle.v6_base.specs.declared.errno.Errno.{Errno}
use Rattle.v6_base.specs.declared.errno.Errno.TheVariants.{ENFILE}
use Rattle.fs_laws.specs.Pieces.{Moving}
use Rattle.fs_nodes.specs.one_disk.Moves as one_moves
use Rattle.fs_nodes.specs.FileSystem.{FileSystem, referenced, held_on_second, AreDisks, together, SameFiles, SameAroundEach, WritesLateEach}
use Rattle.fs_nodes.specs.Moves.{Moves}

-- the file systems of both disks with one of them changed
abbrev pub with_root : Option disk.FileSystem → disk.FileSystem → FileSystem
with_root o new = together (record { root = new; second = o })

abbrev pub with_second : disk.FileSystem → disk.FileSystem → FileSystem
with_second root new = together (record { root = root; second = Some new })

pub record Side (whole : FileSystem) (key : ℕ) (own : disk.FileSystem) (number : ℕ) (with_own : disk.FileSystem → FileSystem) : Type 0 where
  pub refs : slice_index whole.references key ≡ slice_index own.references number
  pub store : store_at whole.store key ≡ own.store
  pub place : number_of whole.store key ≡ number
  pub set : (new : disk.FileSystem) (x : ℕ) → new.references ≡ slice_set own.references number x
      → (with_own new).references ≡ slice_set whole.references key x
  pub same : (new : disk.FileSystem) → new.references ≡ own.references → (with_own new).references ≡ whole.references
  pub stores : (new : disk.FileSystem) → (with_own new).store ≡ with_store_at whole.store key new.store
  pub blocks : (new : disk.FileSystem) → new.blocks ≡ own.blocks → (with_own new).blocks ≡ whole.blocks
  pub rest : (new : disk.FileSystem) → SameAround own.blocks new.blocks → SameAroundEach whole.blocks (with_own new).blocks
  pub late : (new : disk.FileSystem) → WritesLate own.stored own.blocks new.stored
      → WritesLateEach whole.stored whole.blocks (with_own new).stored

rest_refl : (blocks : List (List ℕ)) → SameAround blocks blocks
rest_refl blocks = record { boot = refl; i_size = refl; f_size = refl; behind = λ n low. refl }

-- Nothing is written.
pub nothing_late : (root : disk.FileSystem) (o : Option disk.FileSystem) (fs : FileSystem)
    → together (record { root = root; second = o }) ≡ fs
    → WritesLateEach fs.stored fs.blocks fs.stored
nothing_late root o fs view = subst (λ (f : FileSystem). WritesLateEach f.stored f.blocks f.stored) view (by o) where
  by : (x : Option disk.FileSystem)
      → WritesLateEach (together (record { root = root; second = x })).stored (together (record { root = root; second = x })).blocks (together (record { root = root; second = x })).stored
  by None = record { root = late_stays root.stored root.blocks; second = refl }
  by (Some s) = record { root = late_stays root.stored root.blocks; second = late_stays s.stored s.blocks }

-- A disk has its blocks written late.
pub late_root : (root new : disk.FileSystem) (o : Option disk.FileSystem) (fs : FileSystem)
    → together (record { root = root; second = o }) ≡ fs → WritesLate root.stored root.blocks new.stored
    → WritesLateEach fs.stored fs.blocks (with_root o new).stored
late_root root new o fs view late = subst (λ (f : FileSystem). WritesLateEach f.stored f.blocks (with_root o new).stored) view (by o) where
  by : (x : Option disk.FileSystem)
      → WritesLateEach (together (record { root = root; second = x })).stored (together (record { root = root; second = x })).blocks (with_root x new).stored
  by None = record { root = late; second = refl }
  by (Some s) = record { root = late; second = late_stays s.stored s.blocks }

pub late_second : (root second new : disk.FileSystem) (o : Option disk.FileSystem) (fs : FileSystem) → o ≡ Some second
    → together (record { root = root; second = o }) ≡ fs → WritesLate second.stored second.blocks new.stored
    → WritesLateEach fs.stored fs.blocks (with_second root new).stored
late_second root second new o fs is view late =
    let both : together (record { root = root; second = Some second }) ≡ fs = ap (λ (x : Option disk.FileSystem). together (record { root = root; second = x })) (sym is) ∙ view in
    let P : FileSystem → Type 0 = λ f. WritesLateEach f.stored f.blocks (with_second root new).stored in
    subst P both (record { root = late_stays root.stored root.blocks; second = late })

-- A disk has the blocks that it had, and the same is stored of them.
pub same_root : (root new : disk.FileSystem) (o : Option disk.FileSystem) (fs : FileSystem)
    → together (record { root = root; second = o }) ≡ fs → new.blocks ≡ root.blocks → new.stored ≡ root.stored
    → ((with_root o new).blocks ≡ fs.blocks) × ((with_root o new).stored ≡ fs.stored)
same_root root new o fs view blocks stored =
    let P : FileSystem → Type 0 = λ f. ((with_root o new).blocks ≡ f.blocks) × ((with_root o new).stored ≡ f.stored) in
    subst P view (
      ap (λ (b : List (List ℕ)). record { root = b; second = (with_root o new).blocks.second }) blocks,
      ap (λ (b : List (List ℕ)). record { root = b; second = (with_root o new).stored.second }) stored,
    )

pub same_second : (root second new : disk.FileSystem) (o : Option disk.FileSystem) (fs : FileSystem) → o ≡ Some second
    → together (record { root = root; second = o }) ≡ fs → new.blocks ≡ second.blocks → new.stored ≡ second.stored
    → ((with_second root new).blocks ≡ fs.blocks) × ((with_second root new).stored ≡ fs.stored)
same_second root second new o fs is view blocks stored =
    let both : together (record { root = root; second = Some second }) ≡ fs = ap (λ (x : Option disk.FileSystem). together (record { root = root; second = x })) (sym is) ∙ view in
    let P : FileSystem → Type 0 = λ f. ((with_second root new).blocks ≡ f.blocks) × ((with_second root new).stored ≡ f.stored) in
    subst P both (
      ap (λ (b : List (List ℕ)). record { root = root.blocks; second = Some b }) blocks,
      ap (λ (b : List (List ℕ)). record { root = root.stored; second = Some b }) stored,
    )

-- the root's disk
pub root_side : (root : disk.FileSystem) (second : Option disk.FileSystem) (key : ℕ)
    → length root.references ≡ root.store.count + 1
    → (is_some second && nat_lt root.store.count key) ≡ false
    → Side (together (record { root = root; second = second })) key root key (with_root second)
root_side root None key long low = record {
  refs = refl;
  store = refl;
  place = refl;
  set = λ new x is. is;
  same = λ new is. is;
  stores = λ new. refl;
  blocks = λ new is. ap (λ (b : List (List ℕ)). record { root = b; second = None }) is;
  rest = λ new r. record { root = r; second = tt };
  late = λ new l. record { root = l; second = refl };
}
root_side root (Some second) key long low = record {
  refs = at_root root.references (Some second.references) root.store.count key long low;
  store = ap (λ t. cond t second.store root.store) low;
  place = ap (λ t. cond t (key - root.store.count) key) low;
  set =
      λ new x is. ap (λ (l : List ℕ). joined l (Some second.references)) is
      ∙ sym (set_root root.references (Some second.references) root.store.count key x long low);
  same = λ new is. ap (λ (l : List ℕ). joined l (Some second.references)) is;
  stores = λ new. sym (ap (λ t. cond t (record { root = root.store; second = Some new.store }) (record { root = new.store; second = Some second.store })) low);
  blocks = λ new is. ap (λ (b : List (List ℕ)). record { root = b; second = Some second.blocks }) is;
  rest = λ new r. record { root = r; second = rest_refl second.blocks };
  late = λ new l. record { root = l; second = late_stays second.stored second.blocks };
}

-- the second one
pub second_side : (root second : disk.FileSystem) (key : ℕ) → length root.references ≡ root.store.count + 1
    → root.store.count < key
    → Side (together (record { root = root; second = Some second })) key second (key - root.store.count)
    (with_second root)
second_side root second key long high =
    let there : nat_lt root.store.count key ≡ true = grind (arith, nat_tests) in
    record {
      refs = at_second root.references second.references root.store.count key long high;
      store = ap (λ t. cond t second.store root.store) there;
      place = ap (λ t. cond t (key - root.store.count) key) there;
      set =
          λ new x is. ap (λ (l : List ℕ). joined root.references (Some l)) is
          ∙ sym (set_second root.references second.references root.store.count key x long high);
      same = λ new is. ap (λ (l : List ℕ). joined root.references (Some l)) is;
      stores = λ new. sym (ap (λ t. cond t (record { root = root.store; second = Some new.store }) (record { root = new.store; second = Some second.store })) there);
      blocks = λ new is. ap (λ (b : List (List ℕ)). record { root = root.blocks; second = Some b }) is;
      rest = λ new r. record { root = rest_refl root.blocks; second = r };
      late = λ new l. record { root = late_stays root.stored root.blocks; second = l };
    }

low_is : (root : disk.FileSystem) (o : Option disk.FileSystem) (first key : ℕ) → AreDisks root o first
    → (o ≡ None) ⊎ (key ≤ first)
    → (is_some o && nat_lt root.store.count key) ≡ false
low_is root None first key are low = refl
low_is root (Some s) first key are (inl none) = absurd (cc)
low_is root (Some s) first key are (inr le) = let is = are.keys.0 in grind (arith, nat_tests)

-- the same from what a call has seen
pub root_here : (root : disk.FileSystem) (o : Option disk.FileSystem) (first key : ℕ) (fs : FileSystem) → AreDisks root o first
    → disk.IsFileSystem root → (o ≡ None) ⊎ (key ≤ first) → together (record { root = root; second = o }) ≡ fs
    → Side fs key root key (with_root o)
root_here root o first key fs are form low view =
    let P : FileSystem → Type 0 = λ f. Side f key root key (with_root o) in
    subst P view (root_side root o key form.references (low_is root o first key are low))

pub second_here : (root second : disk.FileSystem) (o : Option disk.FileSystem) (first key : ℕ) (fs : FileSystem)
    → AreDisks root o first
    → disk.IsFileSystem root → o ≡ Some second → first < key → together (record { root = root; second = o }) ≡ fs
    → Side fs key second (key - first) (with_second root)
second_here root second o first key fs are form is high view =
    let Are : Option disk.FileSystem → Type 0 = λ x. AreDisks root x first in
    let first_is : first ≡ root.store.count = (subst Are is are).keys.0 in
    let both : together (record { root = root; second = Some second }) ≡ fs = ap (λ (x : Option disk.FileSystem). together (record { root = root; second = x })) (sym is) ∙ view in
    let P : FileSystem → Type 0 = λ f. Side f key second (key - first) (with_second root) in
    let Q : ℕ → Type 0 = λ n. Side (together (record { root = root; second = Some second })) key second (key - n) (with_second root) in
    subst P both (subst Q (sym first_is) (second_side root second key form.references (omega (arith, first_is, high))))

-- both disks stay such where one has as many inodes as before, and refers to no more of them
pub root_kept : (root new : disk.FileSystem) (o : Option disk.FileSystem) (first : ℕ) → AreDisks root o first
    → new.store.count ≡ root.store.count → referenced new.references ≤ referenced root.references → AreDisks new o first
root_kept root new None first are count few = record { few = (let f = are.few in omega (arith, f, few)); keys = tt }
root_kept root new (Some s) first are count few = record {
  few = (let f = are.few in omega (arith, f, few));
  keys = ((let k = are.keys.0 in omega (arith, k, count)), (let k = are.keys.1 in omega (arith, k, count)));
}

pub second_kept : (root second new : disk.FileSystem) (o : Option disk.FileSystem) (first : ℕ) → AreDisks root o first
    → o ≡ Some second
    → new.store.count ≡ second.store.count → referenced new.references ≤ referenced second.references
    → AreDisks root (Some new) first
second_kept root second new o first are is count few =
    let Are : Option disk.FileSystem → Type 0 = λ x. AreDisks root x first in
    let are' = subst Are is are in
    record {
      few = (let f = are'.few in omega (arith, f, few));
      keys = (are'.keys.0, (let k = are'.keys.1 in omega (arith, k, count)));
    }

module _ {whole : FileSystem} {key : ℕ} {own : disk.FileSystem} {number : ℕ} {with_own : disk.FileSystem → FileSystem} (side : Side whole key own number with_own) where
  -- the node of the key
  pub node_is : node_numbered whole.store key ≡ codec.node_numbered own.store number
  unfolding node_numbered
  node_is = λ j. codec.node_numbered (side.store j) (side.place j)

  -- a change of its own store is a change of all at the key
  pub changes : (new : disk.FileSystem) (F : Store → ℕ → Store) → new.store ≡ F own.store number
      → (with_own new).store ≡ with_store_at whole.store key (F (store_at whole.store key) (number_of whole.store key))
  changes new F is = side.stores new ∙ ap (with_store_at whole.store key) (is ∙ sym (λ j. F (side.store j) (side.place j)))

  pub nothing_changes : with_store_at whole.store key (store_at whole.store key) ≡ whole.store
  nothing_changes = by whole.store.root whole.store.second (nat_lt whole.store.root.count key) where
    by : (root : Store) (o : Option Store) (t : Bool)
        → cond {A = Stores} (is_some o && t) (record { root = root; second = Some (cond (is_some o && t) (unwrap_or o root) root) }) (record { root = cond (is_some o && t) (unwrap_or o root) root; second = o })
        ≡ record { root = root; second = o }
    by root None t = refl
    by root (Some x) true = refl
    by root (Some x) false = refl

  -- a reference goes
  pub put_done : (new : disk.FileSystem)
      → ((node : Node) → codec.node_numbered own.store number ≡ Some node → new.store ≡ cond (slice_index own.references number == 1) (numbers.without_reference own.store number node) own.store)
      → (node : Node) → node_numbered whole.store key ≡ Some node
      → (with_own new).store ≡ cond (slice_index whole.references key == 1) (without_reference whole.store key node) whole.store
  unfolding without_reference
  put_done new does node found =
      changes new (λ store i. cond (slice_index own.references number == 1) (numbers.without_reference store i node) store) (does node (sym node_is ∙ found))
      ∙ by (slice_index own.references number == 1)
      ∙ ap (λ n. cond (n == 1) (with_store_at whole.store key (numbers.without_reference (store_at whole.store key) (number_of whole.store key) node)) whole.store) (sym side.refs) where
        by : (t : Bool)
            → with_store_at whole.store key (cond t (numbers.without_reference (store_at whole.store key) (number_of whole.store key) node) (store_at whole.store key))
            ≡ cond t (with_store_at whole.store key (numbers.without_reference (store_at whole.store key) (number_of whole.store key) node)) whole.store
        by true = refl
        by false = nothing_changes

  -- a reference comes
  pub more : (new : disk.FileSystem) (x : ℕ)
      → disk.SameFiles (record own { references = slice_set own.references number x }) new
      → SameFiles (record whole { references = slice_set whole.references key x }) (with_own new)
  more new x same = record {
    store = changes new (λ store i. store) same.store ∙ nothing_changes;
    references = side.set new x same.references;
    blocks = side.blocks new same.blocks;
  }

  -- nothing changes
  pub read : (new : disk.FileSystem) → disk.SameFiles own new → SameFiles whole (with_own new)
  read new same = record {
    store = changes new (λ store i. store) same.store ∙ nothing_changes;
    references = side.same new same.references;
    blocks = side.blocks new same.blocks;
  }

  -- a file moves
  pub moved : {Memory : Type 0} (new : disk.FileSystem) (run : Node → ℕ → Moving Memory) (bytes : Memory) (done : ℕ) (error : Option Errno)
      → ((node : Node) → codec.node_numbered own.store number ≡ Some node → one_moves.Moves own.store number new.store (run node own.store.room) bytes done error)
      → (node : Node) → node_numbered whole.store key ≡ Some node
      → Moves whole.store key (with_own new).store (run node (room_at whole.store key)) bytes done error
  unfolding with_node room_at
  moved new run bytes done error does node found =
      let m = does node (sym node_is ∙ found) in
      let room : own.store.room ≡ (store_at whole.store key).room = ap (λ (s : Store). s.room) (sym side.store) in
      record {
        store =
            changes new (λ store i. numbers.with_node store i (run node own.store.room).node (run node own.store.room).room)
            m.store
            ∙ (λ j. with_store_at whole.store key (numbers.with_node (store_at whole.store key) (number_of whole.store key) (run node (room j)).node (run node (room j)).room));
        memory = m.memory ∙ (λ j. (run node (room j)).memory);
        done = m.done ∙ (λ j. (run node (room j)).done);
        error = m.error ∙ (λ j. (run node (room j)).error);
      }

pub low_place : (l : List ℕ) (i : ℕ) → 0 < slice_index l i → i < length l
low_place l i some = elim (cases_lt i (length l)) [
  | inl low ↦ low
  | inr past ↦ (let none : slice_index l i ≡ 0 = get_or_past l i 0 past in absurd (omega (arith, none, some)))
]

abbrev one_of : ℕ → ℕ
one_of x = cond (nat_lt 0 x) 1 0

one_less : (x y : ℕ) → x ≤ y → one_of x ≤ one_of y
one_less x y le = elim (leb_tells 1 x) [
  | inl a ↦ elim (leb_tells 1 y) [
    | inl b ↦ (let p : one_of x ≡ 1 = ap (λ t. cond t 1 0) a.0 in let q : one_of y ≡ 1 = ap (λ t. cond t 1 0) b.0 in omega (arith, p, q))
    | inr b ↦ (let p = a.1 in let q = b.1 in absurd (omega (arith, p, q, le)))
  ]
  | inr a ↦ (let p : one_of x ≡ 0 = ap (λ t. cond t 1 0) a.0 in omega (arith, p))
]

one_most : (x : ℕ) → one_of x ≤ 1
one_most x = by (nat_lt 0 x) where
  by : (t : Bool) → cond t 1 0 ≤ 1
  by true = omega arith
  by false = omega arith

set_counts : (l : List ℕ) (i x : ℕ) → i < length l
    → count_by (nat_lt 0) (slice_set l i x) + one_of (slice_index l i) ≡ count_by (nat_lt 0) l + one_of x
set_counts l i x low = sum_by-set (λ y. cond (nat_lt 0 y) 1 0) l i x 0 low

-- no more inodes are referred to where one is less often
pub fewer : (own new : disk.FileSystem) (number x : ℕ) → 0 < slice_index own.references number
    → x ≤ slice_index own.references number
    → new.references ≡ slice_set own.references number x → referenced new.references ≤ referenced own.references
fewer own new number x some le is =
    let s = set_counts own.references number x (low_place own.references number some) in
    let o = one_less x (slice_index own.references number) le in
    let e : referenced new.references ≡ count_by (nat_lt 0) (slice_set own.references number x) = ap (count_by (nat_lt 0)) is in
    omega (arith, s, o, e)

-- and one more at most where one is more often
pub one_more : (own new : disk.FileSystem) (number x : ℕ) → number < length own.references
    → new.references ≡ slice_set own.references number x → referenced new.references ≤ referenced own.references + 1
one_more own new number x low is =
    let s = set_counts own.references number x low in
    let o = one_most x in
    let e : referenced new.references ≡ count_by (nat_lt 0) (slice_set own.references number x) = ap (count_by (nat_lt 0)) is in
    omega (arith, s, o, e)

pub as_many : (own new : disk.FileSystem) (number : ℕ) → 0 < slice_index own.references number
    → new.references ≡ slice_set own.references number (slice_index own.references number + 1)
    → referenced new.references ≤ referenced own.references
as_many own new number some is =
    let s = set_counts own.references number (slice_index own.references number + 1) (low_place own.references number some) in
    let a = one_less 1 (slice_index own.references number) (omega (arith, some)) in
    let b = one_most (slice_index own.references number + 1) in
    let e : referenced new.references ≡ count_by (nat_lt 0) (slice_set own.references number (slice_index own.references number + 1)) = ap (count_by (nat_lt 0)) is in
    let one : one_of 1 ≡ 1 = refl in
    omega (arith, s, a, b, e, one)

-- a store keeps its count where a reference goes
put_count : (own new : disk.FileSystem) (number : ℕ) → IsSome (codec.node_numbered own.store number)
    → ((node : Node) → codec.node_numbered own.store number ≡ Some node → new.store ≡ cond (slice_index own.references number == 1) (numbers.without_reference own.store number node) own.store)
    → new.store.count ≡ own.store.count
put_count own new number there does = by (codec.node_numbered own.store number) refl there where
  same : (s : Store) (node : Node) (t u : Bool) → (cond t (cond u (numbers.without_node s number node) s) s).count ≡ s.count
  same s node true true = refl
  same s node true false = refl
  same s node false u = refl

  by : (o : Option Node) → codec.node_numbered own.store number ≡ o → IsSome o → new.store.count ≡ own.store.count
  by None e some = absurd (cc)
  by (Some node) e some =
      ap (λ (x : Store). x.count) (does node e)
      ∙ same own.store node (slice_index own.references number == 1) ((node.nlink == 0) && not (number == 1))

-- What a put leaves of a disk: no other count, and no more inodes that are referred to.
pub record Lessens (own new : disk.FileSystem) : Type 0 where
  pub count : new.store.count ≡ own.store.count
  pub few : referenced new.references ≤ referenced own.references

pub put_lessens : (own new : disk.FileSystem) (number : ℕ) → disk.IsFileSystem own → 0 < slice_index own.references number
    → new.references ≡ slice_set own.references number (slice_index own.references number - 1)
    → ((node : Node) → codec.node_numbered own.store number ≡ Some node → new.store ≡ cond (slice_index own.references number == 1) (numbers.without_reference own.store number node) own.store)
    → Lessens own new
put_lessens own new number form some refs does = record {
  count = put_count own new number (form.used number some) does;
  few = fewer own new number (slice_index own.references number - 1) some (omega arith) refs;
}

-- Nothing refers to the number 0.
pub none_to_0 : (f : disk.FileSystem) → disk.IsFileSystem f → slice_index f.references 0 ≡ 0
none_to_0 f form = elim (cases_lt 0 (slice_index f.references 0)) [
  | inl some ↦ absurd (no_node (codec.node_numbered f.store 0) form.none (form.used 0 some))
  | inr none ↦ omega (arith, none)
] where
  no_node : (o : Option Node) → o ≡ None → IsSome o → ⊥
  no_node None is some = cc
  no_node (Some x) is some = cc

-- how many inodes of both disks are referred to
pub total_is : (root : disk.FileSystem) (o : Option disk.FileSystem) → OfSecond disk.IsFileSystem o
    → referenced (together (record { root = root; second = o })).references ≡ referenced root.references + held_on_second o
total_is root None form = omega arith
total_is root (Some s) form = counted root.references s.references (none_to_0 s form)

pub total_second : (root second : disk.FileSystem) (o : Option disk.FileSystem) (fs : FileSystem)
    → OfSecond disk.IsFileSystem o → o ≡ Some second
    → together (record { root = root; second = o }) ≡ fs
    → referenced fs.references ≡ referenced root.references + referenced second.references
total_second root second o fs form is view =
    ap (λ (f : FileSystem). referenced f.references) (sym view) ∙ total_is root o form ∙ ap (λ (x : Option disk.FileSystem). referenced root.references + held_on_second x) is

-- both disks stay such where one has as many inodes as before, and a hundred are referred to at most
pub root_changed : (root new : disk.FileSystem) (o : Option disk.FileSystem) (first : ℕ) → AreDisks root o first
    → new.store.count ≡ root.store.count → referenced new.references + held_on_second o ≤ 100 → AreDisks new o first
root_changed root new None first are count few = record { few = few; keys = tt }
root_changed root new (Some s) first are count few = record {
  few = few;
  keys = ((let k = are.keys.0 in omega (arith, k, count)), (let k = are.keys.1 in omega (arith, k, count)));
}

pub second_changed : (root second new : disk.FileSystem) (o : Option disk.FileSystem) (first : ℕ) → AreDisks root o first
    → o ≡ Some second
    → new.store.count ≡ second.store.count → referenced root.references + referenced new.references ≤ 100
    → AreDisks root (Some new) first
second_changed root second new o first are is count few =
    let Are : Option disk.FileSystem → Type 0 = λ x. AreDisks root x first in
    let are' = subst Are is are in
    record { few = few; keys = (are'.keys.0, (let k = are'.keys.1 in omega (arith, k, count))) }

no_node : (o : Option Node) → o ≡ None → IsSome o → ⊥
no_node None is some = cc
no_node (Some x) is some = cc

pub low_used : (f : disk.FileSystem) (number : ℕ) → disk.IsFileSystem f → IsSome (codec.node_numbered f.store number)
    → number < length f.references
low_used f number form there = elim (cases_lt number (length f.references)) [
  | inl low ↦ low
  | inr past ↦
      let a = form.nodes in let b = form.references in
      absurd (no_node (codec.node_numbered f.store number) (get_or_past f.store.nodes number None (omega (arith, a, b, past))) there)
]

-- one more is referred to, where there is room or it is referred to already
pub taken : (own new : disk.FileSystem) (number others : ℕ) → disk.IsFileSystem own
    → IsSome (codec.node_numbered own.store number)
    → (0 < slice_index own.references number) ⊎ (referenced own.references + others < 100)
    → referenced own.references + others ≤ 100
    → new.references ≡ slice_set own.references number (slice_index own.references number + 1)
    → referenced new.references + others ≤ 100
taken own new number others form there (inl some) most is = let m = as_many own new number some is in omega (arith, m, most)
taken own new number others form there (inr room) most is =
    let low : number < length own.references = low_used own number form there in
    let m = one_more own new number (slice_index own.references number + 1) low is in omega (arith, m, room)

-- what a refusal leaves too
pub taken_or_not : (own new : disk.FileSystem) (number others : ℕ) (r : Result (Unit {0}) Errno) → disk.IsFileSystem own
    → IsSome (codec.node_numbered own.store number)
    → (0 < slice_index own.references number) ⊎ (referenced own.references + others < 100)
    → referenced own.references + others ≤ 100
    → MatchResult r (λ u. ((0 < slice_index own.references number) ⊎ (referenced own.references < 100)) × disk.SameFiles (record own { references = slice_set own.references number (slice_index own.references number + 1) }) new)
    (λ e. (e ≡ ENFILE) × (slice_index own.references number ≡ 0) × (referenced own.references ≡ 100) × (new ≡ own))
    → (new.store.count ≡ own.store.count) × (referenced new.references + others ≤ 100)
taken_or_not own new number others (Ok u) form there room most m =
    (ap (λ (s : Store). s.count) m.1.store, taken own new number others form there room most m.1.references)
taken_or_not own new number others (Err e) form there room most m =
    (ap (λ (f : disk.FileSystem). f.store.count) m.3, (let same = ap (λ (f : disk.FileSystem). referenced f.references) m.3 in omega (arith, same, most)))

-- What taking answers of a key, from what it answers of a number, where a key is referred to or there is room.
module _ {whole : FileSystem} {key : ℕ} {own : disk.FileSystem} {number : ℕ} {with_own : disk.FileSystem → FileSystem} (side : Side whole key own number with_own) where
  pub room_of : (others : ℕ) → referenced whole.references ≡ referenced own.references + others
      → (0 < slice_index whole.references key) ⊎ (referenced whole.references < 100)
      → (0 < slice_index own.references number) ⊎ (referenced own.references + others < 100)
  room_of others total (inl some) = inl (let r = side.refs in omega (arith, r, some))
  room_of others total (inr few) = inr (omega (arith, total, few))

  pub takes : (new : disk.FileSystem) (r : Result (Unit {0}) Errno)
      → (0 < slice_index whole.references key) ⊎ (referenced whole.references < 100)
      → referenced own.references ≤ referenced whole.references
      → MatchResult r (λ u. ((0 < slice_index own.references number) ⊎ (referenced own.references < 100)) × disk.SameFiles (record own { references = slice_set own.references number (slice_index own.references number + 1) }) new)
      (λ e. (e ≡ ENFILE) × (slice_index own.references number ≡ 0) × (referenced own.references ≡ 100) × (new ≡ own))
      → MatchResult r (λ u. ((0 < slice_index whole.references key) ⊎ (referenced whole.references < 100)) × SameFiles (record whole { references = slice_set whole.references key (slice_index whole.references key + 1) }) (with_own new))
      (λ e. (e ≡ ENFILE) × (slice_index whole.references key ≡ 0) × (referenced whole.references ≡ 100) × (with_own new ≡ whole))
  takes new (Ok u) room part m = (
    room,
    (let same = more side new (slice_index own.references number + 1) m.1 in
        record { store = same.store; references = same.references ∙ ap (λ n. slice_set whole.references key (n + 1)) (sym side.refs); blocks = same.blocks }),
  )
  takes new (Err e) (inl some) part m = let r = side.refs in let z = m.1 in absurd (omega (arith, r, z, some))
  takes new (Err e) (inr few) part m = let z = m.2 in absurd (omega (arith, z, part, few))

  -- fields of a node change
  pub set_done : (new : disk.FileSystem) (change : Node → Node)
      → ((node : Node) → codec.node_numbered own.store number ≡ Some node → new.store ≡ numbers.with_node own.store number (change node) own.store.room)
      → (node : Node) → node_numbered whole.store key ≡ Some node
      → (with_own new).store ≡ with_fields whole.store key (change node)
  unfolding with_node room_at
  set_done new change does node found =
      changes side new (λ store i. numbers.with_node store i (change node) store.room) (does node (sym (node_is side) ∙ found))

  -- a file gives its blocks back
  pub cut_done : (new : disk.FileSystem) (time : ℕ)
      → ((node : Node) → codec.node_numbered own.store number ≡ Some node → new.store ≡ numbers.with_truncated own.store number node time)
      → (node : Node) → node_numbered whole.store key ≡ Some node
      → (with_own new).store ≡ with_truncated whole.store key node time
  unfolding with_truncated
  cut_done new time does node found =
      changes side new (λ store i. numbers.with_truncated store i node time) (does node (sym (node_is side) ∙ found))

pub cut_count : (s : Store) (number : ℕ) (node : Node) (time : ℕ) → (numbers.with_truncated s number node time).count ≡ s.count
cut_count s number node time = by (is_device node.mode) where
  by : (t : Bool)
      → (cond t s (numbers.with_node s number (record (truncated node) { modtime = time }) (s.room + names_held node))).count ≡ s.count
  by true = refl
  by false = refl

-- A disk keeps its count and what is referred to where a node of it changes.
pub node_lessens : (own new : disk.FileSystem) (number : ℕ) → disk.IsFileSystem own → 0 < slice_index own.references number
    → new.references ≡ own.references
    → ((node : Node) → codec.node_numbered own.store number ≡ Some node → new.store.count ≡ own.store.count) → Lessens own new
node_lessens own new number form some refs does = record {
  count = by (codec.node_numbered own.store number) refl (form.used number some);
  few = (let e : referenced new.references ≡ referenced own.references = ap referenced refs in omega (arith, e));
} where
  by : (o : Option Node) → codec.node_numbered own.store number ≡ o → IsSome o → new.store.count ≡ own.store.count
  by None e there = absurd (cc)
  by (Some node) e there = does node e

-- lists of zeros
zero_at : (n i : ℕ) → slice_index (replicate n 0) i ≡ 0
zero_at zero i = refl
zero_at (suc n) zero = refl
zero_at (suc n) (suc i) = zero_at n i

pub zeros_joined : (n m key : ℕ) → slice_index (joined (replicate n 0) (Some (replicate m 0))) key ≡ 0
zeros_joined n m key = elim (cases_lt key (length (replicate n 0))) [
  | inl low ↦ get_or_append_left (replicate n 0) (drop 1 (replicate m 0)) 0 key low ∙ zero_at n key
  | inr past ↦
      get_or-append_right (replicate n 0) (drop 1 (replicate m 0)) (length (replicate n 0)) key 0 refl past
      ∙ get_or-drop 1 (replicate m 0) (key - length (replicate n 0)) 0 ∙ zero_at m (1 + (key - length (replicate n 0)))
]

-- Who crosses comes to a node.
use Rattle.std.proofs.Common.{◌≡◌, ◌≢◌, ◌+◌, ◌-◌, ◌≤◌, ◌==◌, ℕ, nat_le, Bool, true, false, cond, Option, Some, None, IsSome, refl, sym, ap, ◌∙◌, subst, arith}
use Rattle.std.proofs.lemmas.Bool.{le-leb}
use Rattle.fs_codec.specs.Store.{Store}
use Rattle.fs_nodes.specs.Disks.{Disks}
use Rattle.fs_nodes.specs.Keys.{Stores, counts, second_count, key_count, node_numbered}
use Rattle.mount_tab.specs.Mounted.{MountTable, split_of, is_the}
use Rattle.fs_tree.specs.Mounting.{AreMounts}
use Rattle.fs_tree.proofs.PathLemmas.{CrossesToNodes}

pub crosses_of : (store : Stores) (mounts : MountTable) → AreMounts mounts store
    → (IsSome store.second → IsSome (node_numbered store (store.root.count + 1))) → CrossesToNodes store mounts
crosses_of store mounts are root key some = by mounts.covered are.covered where
  at : (t : Bool) → (t ≡ true → IsSome store.second) → IsSome (node_numbered store (cond t (mounts.first + 1) key))
  at true there = let P : ℕ → Type 0 = λ n. IsSome (node_numbered store (n + 1)) in subst P (sym are.first) (root (there refl))
  at false there = some

  by : (o : Option ℕ) → (IsSome o → IsSome store.second)
      → IsSome (node_numbered store (cond (is_the o key) (mounts.first + 1) key))
  by None there = some
  by (Some covered) there = at (covered == key) (λ is. there refl)

-- A mount table fits stores with as many inodes.
abbrev or_none : Option ℕ → ℕ
or_none None = 0
or_none (Some n) = n

count_is : (root : Store) (o : Option Store) → second_count o ≡ or_none (counts (record { root = root; second = o })).second
count_is root None = refl
count_is root (Some s) = refl

there_is : (root : Store) (o : Option Store) (c : Disks ℕ) → counts (record { root = root; second = o }) ≡ c → IsSome c.second
    → IsSome o
there_is root None c same some =
    let P : Disks ℕ → Type 0 = λ d. IsSome d.second in let none : false ≡ true = subst P (sym same) some in absurd (cc)
there_is root (Some s) c same some = refl

is_there : (root : Store) (o : Option Store) → IsSome o → IsSome (counts (record { root = root; second = o })).second
is_there root None some = some
is_there root (Some s) some = refl

pub mounts_stay : (mounts : MountTable) (old new : Stores) → counts new ≡ counts old → AreMounts mounts old
    → AreMounts mounts new
mounts_stay mounts old new same are = record {
  first = are.first ∙ ap (λ (c : Disks ℕ). c.root) (sym same);
  second =
      are.second ∙ count_is old.root old.second ∙ ap (λ (c : Disks ℕ). or_none c.second) (sym same)
      ∙ sym (count_is new.root new.second);
  covered = λ is. there_is new.root new.second (counts old) same (is_there old.root old.second (are.covered is));
}

-- The table of one disk fits it.
pub new_mounts : (mounts : MountTable) (store : Stores)
    → mounts ≡ record { first = store.root.count; second = 0; covered = None } → store.second ≡ None → AreMounts mounts store
new_mounts mounts store is none = record {
  first = ap (λ (m : MountTable). m.first) is;
  second = ap (λ (m : MountTable). m.second) is ∙ sym (ap second_count none);
  covered = λ some.
      let P : MountTable → Type 0 = λ m. IsSome m.covered in
      let covered : false ≡ true = subst P is some in absurd (cc);
}

-- One with the numbers of two disks fits them.
pub two_mounts : (mounts : MountTable) (store : Stores) (a b : Store) (n k : ℕ)
    → mounts ≡ record { first = n; second = k; covered = None } → store ≡ record { root = a; second = Some b }
    → n ≡ a.count → k ≡ b.count → AreMounts mounts store
two_mounts mounts store a b n k is stores first second = record {
  first = ap (λ (m : MountTable). m.first) is ∙ first ∙ sym (ap (λ (s : Stores). s.root.count) stores);
  second = ap (λ (m : MountTable). m.second) is ∙ second ∙ sym (ap (λ (s : Stores). second_count s.second) stores);
  covered = λ some.
      let P : MountTable → Type 0 = λ m. IsSome m.covered in
      let covered : false ≡ true = subst P is some in absurd (cc);
}

-- A table fits where a directory has been covered, and there is a second disk.
pub covered_mounts : (mounts new : MountTable) (store : Stores) (key : ℕ) → new ≡ record mounts { covered = Some key }
    → IsSome store.second → AreMounts mounts store → AreMounts new store
covered_mounts mounts new store key is there are = record {
  first = ap (λ (m : MountTable). m.first) is ∙ are.first;
  second = ap (λ (m : MountTable). m.second) is ∙ are.second;
  covered = λ some. there;
}

-- the disk of a key, as the table tells it
first_part : (t : Bool) (key d : ℕ) → (cond {A = ℕ × ℕ} t (0, key) (1, d)).0 ≡ cond {A = ℕ} t 0 1
first_part true key d = refl
first_part false key d = refl

pub disk_is : (mounts : MountTable) (store : Stores) (key : ℕ) → AreMounts mounts store
    → (split_of mounts key).0 ≡ cond {A = ℕ} (nat_le key store.root.count) 0 1
disk_is mounts store key are =
    first_part (nat_le key mounts.first) key (key - mounts.first) ∙ ap (λ n. cond {A = ℕ} (nat_le key n) 0 1) are.first

-- A key that is no one of the root's disk is one of a second disk.
pub disk_there : (mounts : MountTable) (store : Stores) (key : ℕ) → AreMounts mounts store → key ≤ key_count store
    → (split_of mounts key).0 ≢ 0 → IsSome store.second
disk_there mounts store key are within other = by store.second refl where
  by : (o : Option Store) → store.second ≡ o → IsSome o
  by (Some s) is = refl
  by None is =
      let none : second_count store.second ≡ 0 = ap second_count is in
      let first = are.first in
      let low : nat_le key mounts.first ≡ true = le-leb key mounts.first (omega (arith, within, none, first)) in
      absurd (other (ap (λ t. (cond {A = ℕ × ℕ} t (0, key) (1, key - mounts.first)).0) low))

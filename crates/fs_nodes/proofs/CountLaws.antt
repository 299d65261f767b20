-- How many inodes each disk has stays, whatever becomes of a node.
use Rattle.std.proofs.Common.{◌≡◌, ◌+◌, ◌==◌, ◌&&◌, ℕ, Bool, true, false, cond, not, Option, Some, None, unwrap_or, refl, sym, ap, ◌∙◌}
use Rattle.fs_codec.specs.Store.{Node, Store}
use Rattle.fs_laws.specs.Numbers as numbers
use Rattle.fs_laws.specs.Numbers.{Draw}
use Rattle.fs_nodes.specs.Disks.{Disks}
use Rattle.fs_nodes.specs.Keys.{Stores, counts, key_count, store_at, number_of, with_store_at, with_truncated, without_reference, in_place, synced}
use Rattle.fs_nodes.specs.Numbers.{with_draw}
use Rattle.fs_nodes.proofs.KeyLaws.{stands}
use Rattle.fs_nodes.proofs.SideLemmas.{cut_count}

pub counts_at : (s : Stores) (key : ℕ) (x : Store) → x.count ≡ (store_at s key).count
    → counts (with_store_at s key x) ≡ counts s
counts_at s key x same = (stands s.root s.second key x same).counts

-- a file gives its blocks back
pub counts_cut : (s : Stores) (key : ℕ) (node : Node) (time : ℕ) → counts (with_truncated s key node time) ≡ counts s
unfolding with_truncated
counts_cut s key node time =
    counts_at s key (numbers.with_truncated (store_at s key) (number_of s key) node time)
    (cut_count (store_at s key) (number_of s key) node time)

pub gone_count : (s : Store) (i : ℕ) (node : Node) → (numbers.without_reference s i node).count ≡ s.count
gone_count s i node = by ((node.nlink == 0) && not (i == 1)) where
  by : (t : Bool) → (cond t (numbers.without_node s i node) s).count ≡ s.count
  by true = refl
  by false = refl

-- the last reference to a node goes
pub counts_gone : (s : Stores) (key : ℕ) (node : Node) → counts (without_reference s key node) ≡ counts s
unfolding without_reference
counts_gone s key node =
    counts_at s key (numbers.without_reference (store_at s key) (number_of s key) node)
    (gone_count (store_at s key) (number_of s key) node)

-- a number is drawn on a disk
pub counts_drawn : (s : Stores) (dev : ℕ) (d : Draw) → counts (with_draw s dev d) ≡ counts s
counts_drawn s dev d = by s.root s.second (dev == 0) where
  by : (root : Store) (o : Option Store) (t : Bool)
      → counts (cond {A = Stores} t (record { root = numbers.with_draw (cond {A = Store} t root (unwrap_or o root)) d; second = o })
      (record { root = root; second = in_place o (numbers.with_draw (cond {A = Store} t root (unwrap_or o root)) d) }))
      ≡ counts (record { root = root; second = o })
  by root None true = refl
  by root None false = refl
  by root (Some s) true = refl
  by root (Some s) false = refl

-- the super-blocks are written
written_count : (s : Store) (time : ℕ) → (numbers.synced s time).count ≡ s.count
written_count s time = by s.mark where
  by : (t : Bool) → (cond {A = Store} t (record s { stamp = time; mark = false }) s).count ≡ s.count
  by true = refl
  by false = refl

pub counts_synced : (s : Stores) (time : ℕ) → counts (synced s time) ≡ counts s
counts_synced s time = by s.root s.second where
  by : (root : Store) (o : Option Store)
      → counts (synced (record { root = root; second = o }) time) ≡ counts (record { root = root; second = o })
  by root None = ap (λ (n : ℕ). record { root = n; second = None }) (written_count root time)
  by root (Some x) =
      ap (λ (n : ℕ). record { root = n; second = Some (numbers.synced x time).count }) (written_count root time)
      ∙ ap (λ (n : ℕ). record { root = root.count; second = Some n }) (written_count x time)

-- All keys are counted by the inodes of each disk.
abbrev all_of : Disks ℕ → ℕ
all_of n = n.root + unwrap_or n.second 0

keys_are : (s : Stores) → key_count s ≡ all_of (counts s)
keys_are s = by s.root s.second where
  by : (root : Store) (o : Option Store)
      → key_count (record { root = root; second = o }) ≡ all_of (counts (record { root = root; second = o }))
  by root None = refl
  by root (Some x) = refl

pub keys_counted : (a b : Stores) → counts a ≡ counts b → key_count a ≡ key_count b
keys_counted a b same = keys_are a ∙ ap all_of same ∙ sym (keys_are b)

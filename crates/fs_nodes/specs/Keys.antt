-- Inodes of two disks by one number each, their keys. Keys of the root's inodes are their numbers; the second disk's come after
-- all of those. With one disk, each of these words is the one of that name for a store.
use Rattle.std.specs.Prelude.{◌≡◌, ℕ, Bool, ◌+◌, ◌-◌, ◌==◌, ◌&&◌, nat_lt, if◌then◌else◌, List, ◌∷◌, ◌++◌, drop, take, Option, Some, None, is_some, unwrap_or}
use Rattle.fs_codec.specs.Store.{Node, Store}
use Rattle.fs_codec.specs.Store as codec
use Rattle.fs_laws.specs.Numbers as numbers
pub use Rattle.fs_laws.specs.Keys.{no_node}
use Rattle.fs_nodes.specs.Disks.{Disks, each}

-- the stores of the disks
abbrev pub Stores : Type 0
Stores = Disks Store

-- how many inodes each disk has, and how many keys there are
abbrev pub counts : Stores → Disks ℕ
counts s = each (λ (x : Store). x.count) s

abbrev pub second_count : Option Store → ℕ
second_count None = 0
second_count (Some store) = store.count

abbrev pub key_count : Stores → ℕ
key_count s = s.root.count + second_count s.second

-- whether a key is that of an inode of the second disk
abbrev pub is_second : Stores → ℕ → Bool
is_second s key = is_some s.second && nat_lt s.root.count key

-- the disk of a key, and the number that the inode has there
abbrev pub device_of : Stores → ℕ → ℕ
device_of s key = if is_second s key then 1 else 0

abbrev pub number_of : Stores → ℕ → ℕ
number_of s key = if is_second s key then key - s.root.count else key

-- the key of the inode of a number on a disk
abbrev pub key_on : Stores → ℕ → ℕ → ℕ
key_on s dev ino = if dev == 0 then ino else s.root.count + ino

-- the store of a disk, and that of the disk of a key
abbrev pub store_on : Stores → ℕ → Store
store_on s dev = if dev == 0 then s.root else unwrap_or s.second s.root

abbrev pub store_at : Stores → ℕ → Store
store_at s key = if is_second s key then unwrap_or s.second s.root else s.root

-- the same with another store there, where there is that disk
abbrev pub in_place : Option Store → Store → Option Store
in_place None store = None
in_place (Some old) store = Some store

abbrev pub with_store_on : Stores → ℕ → Store → Stores
with_store_on s dev store = if dev == 0 then record s { root = store } else record s { second = in_place s.second store }

abbrev pub with_store_at : Stores → ℕ → Store → Stores
with_store_at s key store = if is_second s key then record s { second = Some store } else record s { root = store }

-- the node of a key
unfoldable pub node_numbered : Stores → ℕ → Option Node
node_numbered s key = codec.node_numbered (store_at s key) (number_of s key)

abbrev pub node_in : Stores → ℕ → Node
node_in s key = unwrap_or (node_numbered s key) no_node

-- how many blocks are free on its disk
unfoldable pub room_at : Stores → ℕ → ℕ
room_at s key = (store_at s key).room

-- the stores with a node at a key, with so much room on its disk
unfoldable pub with_node : Stores → ℕ → Node → ℕ → Stores
with_node s key node room = with_store_at s key (numbers.with_node (store_at s key) (number_of s key) node room)

-- the same where its blocks stay
abbrev pub with_fields : Stores → ℕ → Node → Stores
with_fields s key node = with_node s key node (room_at s key)

-- A file gives all its blocks back, at a time.
unfoldable pub with_truncated : Stores → ℕ → Node → ℕ → Stores
with_truncated s key node time = with_store_at s key (numbers.with_truncated (store_at s key) (number_of s key) node time)

-- The last reference to a node goes. One that has no link is freed, but for inode 1 of a disk, which is its root.
unfoldable pub without_reference : Stores → ℕ → Node → Stores
without_reference s key node = with_store_at s key (numbers.without_reference (store_at s key) (number_of s key) node)

-- Each super-block is written with a time, where it has changed.
abbrev pub synced : Stores → ℕ → Stores
synced s time = each (λ store. numbers.synced store time) s

-- A change at a key leaves the other disk's store alone.
pub record OnItsDisk (old new : Stores) (key : ℕ) : Type 0 where
  pub second : device_of old key ≡ 0 → new.second ≡ old.second
  pub root : device_of old key ≡ 1 → new.root ≡ old.root

-- how often the inodes of a disk are referred to, by their numbers
abbrev pub references_on : Stores → List ℕ → ℕ → List ℕ
references_on s references dev =
    if dev == 0 then take (s.root.count + 1) references else 0 ∷ drop (s.root.count + 1) references

-- the references of two disks by keys
abbrev pub joined : List ℕ → Option (List ℕ) → List ℕ
joined first None = first
joined first (Some second) = first ++ drop 1 second

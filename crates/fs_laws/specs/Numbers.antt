-- Inodes are taken and given back, and the super-block is written: ialloc, ifree and update in Lions' Commentary, `alloc.c`,
-- and iput in `iget.c`.
use Rattle.std.specs.Prelude.{ℕ, Bool, false, not, ◌+◌, ◌&&◌, ◌||◌, ◌==◌, nat_le, nat_lt, min, if◌then◌else◌, List, [], ◌∷◌, ◌++◌, length, take, filter, reverse, slice_set, Option, Some, None, is_some, is_none, bit_or}
use Rattle.std.specs.List.{range_with_len}
use Rattle.fs_codec.specs.Modes.{is_device}
use Rattle.fs_codec.specs.Store.{Node, Store, node_numbered}
use Rattle.fs_codec.specs.declared.layout.TheConstants.{LIST_SIZE}
use Rattle.fs_codec.specs.declared.modes.TheConstants.{IALLOC}
use Rattle.fs_laws.specs.Truncation.{no_names, names_held, truncated}

-- the number of an inode that is not used
abbrev pub is_free_number : Store → ℕ → Bool
is_free_number store i = nat_le 1 i && nat_le i store.count && is_none (node_numbered store i)

-- a number that was drawn, and the list that is left
pub record Draw : Type 0 where
  pub number : Option ℕ
  pub spare : List ℕ

-- Numbers are drawn, from the first of these on, until one is free. The list that is left is of those that were not drawn,
-- in the other order.
abbrev pub drawn : Store → List ℕ → Draw
drawn store [] = record { number = None; spare = [] }
drawn store (i ∷ below) =
    if is_free_number store i then record { number = Some i; spare = reverse below } else drawn store below

-- An empty list is filled with the first hundred free numbers to which nothing refers, in rising order. A number in the list
-- is a word.
abbrev pub refill : Store → (ℕ → Bool) → List ℕ
refill store is_referenced =
    take LIST_SIZE (filter (λ i. is_free_number store i && not (is_referenced i)) (range_with_len 1 (min store.count 65535)))

-- The list of the super-block is drawn from its end, and once more when it has been filled.
abbrev pub draw : Store → (ℕ → Bool) → Draw
draw store is_referenced =
    let first : Draw = drawn store (reverse store.spare) in
    if is_some first.number then first else drawn store (reverse (refill store is_referenced))

-- the store after that
abbrev pub with_draw : Store → Draw → Store
with_draw store draw = record store {
  spare = draw.spare;
  mark = store.mark || nat_lt 0 (length store.spare) || is_some draw.number;
}

-- a new inode, for which the type and the permissions are given
abbrev pub new_node : ℕ → ℕ → ℕ → ℕ → Node
new_node mode uid gid time = record {
  mode = bit_or mode IALLOC;
  nlink = 0;
  uid = uid;
  gid = gid;
  size = 0;
  device = 0;
  actime = time;
  modtime = time;
  held = no_names;
  body = [];
}

-- the store with a node at a number, with so much room
abbrev pub with_node : Store → ℕ → Node → ℕ → Store
with_node store i node room = record store {
  nodes = slice_set store.nodes i (Some node);
  room = room;
  mark = store.mark || not (room == store.room);
}

-- A file gives all its blocks back, at a time.
abbrev pub with_truncated : Store → ℕ → Node → ℕ → Store
with_truncated store i node time =
    if is_device node.mode then store
    else with_node store i (record (truncated node) { modtime = time }) (store.room + names_held node)

-- An inode is freed, with all its blocks. Its number goes to the end of the super-block's list, where there is room.
abbrev pub without_node : Store → ℕ → Node → Store
without_node store i node = record store {
  nodes = slice_set store.nodes i None;
  room = store.room + names_held node;
  spare = if nat_lt (length store.spare) LIST_SIZE then store.spare ++ (i ∷ []) else store.spare;
  mark = store.mark || nat_lt 0 (names_held node) || nat_lt (length store.spare) LIST_SIZE;
}

-- The last reference to a node goes. One that has no link is freed, but for inode 1, which is the root.
abbrev pub without_reference : Store → ℕ → Node → Store
without_reference store i node = if (node.nlink == 0) && not (i == 1) then without_node store i node else store

-- The super-block is written with a time, where it has changed.
abbrev pub synced : Store → ℕ → Store
synced store time = if store.mark then record store { stamp = time; mark = false } else store

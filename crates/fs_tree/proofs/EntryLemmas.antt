-- The place of an entry that a search of names comes to.
use Rattle.std.proofs.Common.{◌≡◌, ◌+◌, ◌*◌, ◌%◌, ◌<◌, ◌≤◌, ◌&&◌, ◌||◌, ℕ, zero, suc, Bool, true, false, not, cond, List, [], ◌∷◌, Option, Some, None, is_some, IsSome, Result, Ok, Err, refl, sym, subst, arith}
use Rattle.std.specs.Option.{unwrap_or}
use Rattle.v6_base.specs.Access.{then_do}
use Rattle.v6_base.specs.declared.errno.Errno.{Errno}
use Rattle.v6_base.specs.declared.errno.Errno.TheVariants.{EACCES, EFAULT, ENOTDIR}
use Rattle.fs_codec.specs.Modes.{is_directory}
use Rattle.fs_codec.specs.Store.{Node}
use Rattle.fs_nodes.specs.Keys.{Stores, node_numbered}
use Rattle.fs_tree.specs.declared.user.User.{User}
use Rattle.fs_tree.specs.declared.user.Want.TheVariants.{Write, Execute}
use Rattle.fs_tree.specs.declared.directory.Looked.{Looked}
use Rattle.fs_tree.specs.declared.directory.Looked.TheVariants.{Entry, Room}
use Rattle.fs_tree.specs.declared.walk.Last.{Last}
use Rattle.fs_tree.specs.declared.walk.Way.{Way}
use Rattle.fs_tree.specs.declared.walk.Way.TheVariants.{Start, End}
use Rattle.fs_tree.specs.declared.made.Made.{Made}
use Rattle.fs_tree.specs.declared.made.Made.TheVariants as made
use Rattle.fs_tree.specs.Permission.{may_use}
use Rattle.fs_tree.specs.Name.{is_whole, components, start_of}
use Rattle.fs_tree.specs.Directory.{entry_count, first_below, is_empty, is_named, entry_or_room, looked}
use Rattle.mount_tab.specs.Mounted.{MountTable, crossed}
use Rattle.fs_tree.specs.Path.{with_node_of, entry_number, reached, looked_in, in_directory, is_last, walk, way, write_access, found_or_room, to_make, entry_to_remove, to_remove}
use Rattle.fs_tree.specs.Finding.{named_by_made}
use Rattle.fs_tree.proofs.PathLemmas.{CrossesToNodes, IsUsedWay, way_used, made_used, removed_used}

-- the search of a directory
pub record IsSearch (store : Stores) (last : Last) : Type 0 where
  pub found : Node
  pub is : node_numbered store last.dir ≡ Some found
  pub directory : is_directory found.mode ≡ true
  pub looked : last.looked ≡ looked found last.name

abbrev pub IsSearchWay : Stores → Way → Type 0
IsSearchWay store (Start ino) = Unit {0}
IsSearchWay store (End last) = IsSearch store last

module _ (store : Stores) (mounts : MountTable) (user : User) where
  tested : (dir : ℕ) (name : List ℕ) (node : Node) (a b c w : Bool) (last : Last) → node_numbered store dir ≡ Some node
      → is_directory node.mode ≡ a
      → cond (not a) (Err ENOTDIR)
      (cond (not b) (Err EACCES)
      (cond (not c) (Err EFAULT)
      (Ok (record { dir = dir; name = name; may_write = w; looked = looked node name })))) ≡ Ok last
      → IsSearch store last
  tested dir name node false b c w last there is_dir is = absurd (cc)
  tested dir name node true false c w last there is_dir is = absurd (cc)
  tested dir name node true true false w last there is_dir is = absurd (cc)
  tested dir name node true true true w last there is_dir is =
      let e : record { dir = dir; name = name; may_write = w; looked = looked node name } ≡ last = cc in
      let P : Last → Type 0 = IsSearch store in
      subst P e (record { found = node; is = there; directory = is_dir; looked = refl })

  searched : (dir : ℕ) (name : List ℕ) (r : Bool) (o : Option Node) (last : Last) → node_numbered store dir ≡ o
      → with_node_of o (looked_in user dir name r) ≡ Ok last → IsSearch store last
  searched dir name r None last there is = absurd (cc)
  searched dir name r (Some node) last there is =
      tested dir name node (is_directory node.mode) (may_use node user Execute) r (may_use node user Write) last there
      refl is

  module _ (later : List (List ℕ)) (whole : Bool) (w : Way)
      (next : (ino : ℕ) → walk store mounts user whole ino later ≡ Ok w → IsSearchWay store w) where
    on : (r : Result ℕ Errno) → then_do r (λ ino. walk store mounts user whole ino later) ≡ Ok w → IsSearchWay store w
    on (Err e) is = absurd (cc)
    on (Ok ino) is = next ino is

    last_of : (last : Last) (t : Bool) → IsSearch store last
        → cond t (Ok (End last)) (then_do (reached store mounts last.dir last.looked) (λ ino. walk store mounts user whole ino later))
        ≡ Ok w → IsSearchWay store w
    last_of last true search is =
        let e : End last ≡ w = cc in
        let P : Way → Type 0 = IsSearchWay store in
        subst P e search
    last_of last false search is = on (reached store mounts last.dir last.looked) is

    step : (dir : ℕ) (name : List ℕ) (r : Result Last Errno)
        → in_directory store user dir name (not (is_last later) || whole) ≡ r
        → then_do r (λ (last : Last).
        cond (is_last later) (Ok (End last))
        (then_do (reached store mounts last.dir last.looked) (λ ino. walk store mounts user whole ino later))) ≡ Ok w
        → IsSearchWay store w
    step dir name (Err e) r_is is = absurd (cc)
    step dir name (Ok last) r_is is =
        last_of last (is_last later)
        (searched dir name (not (is_last later) || whole) (node_numbered store dir) last refl r_is) is

  walk_searched : (names : List (List ℕ)) (whole : Bool) (dir : ℕ) (w : Way) → walk store mounts user whole dir names ≡ Ok w
      → IsSearchWay store w
  unfolding walk
  walk_searched [] whole dir w is = let e : Start dir ≡ w = cc in let P : Way → Type 0 =
      IsSearchWay store in subst P e tt
  walk_searched (name ∷ later) whole dir w is =
      step later whole w (λ ino next. walk_searched later whole ino w next) dir name
      (in_directory store user dir name (not (is_last later) || whole)) refl is

  way_when : (t whole : Bool) (dir : ℕ) (names : List (List ℕ)) (w : Way)
      → cond t (Err EFAULT) (walk store mounts user whole dir names) ≡ Ok w → IsSearchWay store w
  way_when true whole dir names w is = absurd (cc)
  way_when false whole dir names w is = walk_searched names whole dir w is

  pub way_searched : (dir : ℕ) (bytes : List ℕ) (w : Way) → way store mounts user dir bytes ≡ Ok w → IsSearchWay store w
  way_searched dir bytes w is =
      way_when (is_last (components bytes) && not (is_whole bytes)) (is_whole bytes) (crossed mounts (start_of dir bytes))
      (components bytes) w is

-- The place that a search of a directory comes to.
abbrev pub place_of : Looked → ℕ
place_of (Entry i ino) = i
place_of (Room i) = i

first_when : (test : ℕ → Bool) (n i : ℕ) (o : Option ℕ) (t : Bool) → ((j : ℕ) → o ≡ Some j → j < n)
    → cond (is_some o) o (cond t (Some n) None) ≡ Some i → i < n + 1
first_when test n i (Some j) t below is = let same : j ≡ i = cc in let low = below j refl in omega (arith, same, low)
first_when test n i None true below is = let same : n ≡ i = cc in omega (arith, same)
first_when test n i None false below is = absurd (cc)

first_low : (test : ℕ → Bool) (n i : ℕ) → first_below test n ≡ Some i → i < n
unfolding first_below
first_low test zero i is = absurd (cc)
first_low test (suc n) i is = let low : i < n + 1 =
    first_when test n i (first_below test n) (test n) (λ j there. first_low test n j there) is in omega (arith, low)

count_low : (size : ℕ) → entry_count size ≤ 4095
count_low size = omega arith

room_low : (count : ℕ) (o : Option ℕ) → count ≤ 4095 → ((i : ℕ) → o ≡ Some i → i < count) → unwrap_or o count ≤ 4095
room_low count None few below = few
room_low count (Some i) few below = let low = below i refl in omega (arith, few, low)

looked_low : (node : Node) (o : Option ℕ) → ((i : ℕ) → o ≡ Some i → i < entry_count node.size)
    → place_of (entry_or_room node o) ≤ 4095
looked_low node (Some i) below = let low = below i refl in let few = count_low node.size in omega (arith, few, low)
looked_low node None below =
    room_low (entry_count node.size) (first_below (is_empty node) (entry_count node.size)) (count_low node.size)
    (λ i. first_low (is_empty node) (entry_count node.size) i)

place_low : (node : Node) (name : List ℕ) → place_of (looked node name) ≤ 4095
unfolding looked
place_low node name =
    looked_low node (first_below (is_named node name) (entry_count node.size))
    (λ i. first_low (is_named node name) (entry_count node.size) i)

-- a byte of a directory where an entry may begin
pub record IsPlace (store : Stores) (dir offset : ℕ) : Type 0 where
  pub directory : (node : Node) → node_numbered store dir ≡ Some node → is_directory node.mode ≡ true
  pub begins : offset % 16 ≡ 0
  pub small : offset ≤ 65520

search_place : (store : Stores) (last : Last) → IsSearch store last → IsPlace store last.dir (16 * place_of last.looked)
search_place store last search = record {
  directory = λ node is.
      (let same : search.found ≡ node =
      (let s = search.is in cc) in subst (λ (n : Node). is_directory n.mode ≡ true) same search.directory);
  begins = omega arith;
  small = let low : place_of last.looked ≤ 4095 =
      subst (λ (l : Looked). place_of l ≤ 4095) (sym search.looked) (place_low search.found last.name) in
      omega (arith, low);
}

-- Room for an entry is at such a place.
abbrev pub IsMadePlace : Stores → Made → Type 0
IsMadePlace store (made.Found ino) = Unit {0}
IsMadePlace store (made.Room dir offset name) = IsPlace store dir offset

made_number : (store : Stores) (r : Result ℕ Errno) (m : Made) → then_do r (λ ino. Ok (made.Found ino)) ≡ Ok m
    → IsMadePlace store m
made_number store (Err e) m is = absurd (cc)
made_number store (Ok ino) m is = let e : made.Found ino ≡ m = cc in let P : Made → Type 0 =
    IsMadePlace store in subst P e tt

made_room : (store : Stores) (r : Result (Unit {0}) Errno) (dir offset : ℕ) (name : List ℕ) (m : Made)
    → IsPlace store dir offset → then_do r (λ may. Ok (made.Room dir offset name)) ≡ Ok m → IsMadePlace store m
made_room store (Err e) dir offset name m place is = absurd (cc)
made_room store (Ok may) dir offset name m place is = let e : made.Room dir offset name ≡ m = cc in let P : Made → Type 0 =
    IsMadePlace store in subst P e place

made_looked : (store : Stores) (mounts : MountTable) (marks : List Bool) (last : Last) (l : Looked) (m : Made) → IsPlace store last.dir (16 * place_of l)
    → found_or_room store mounts marks last l ≡ Ok m → IsMadePlace store m
made_looked store mounts marks last (Entry i j) m place is = made_number store (reached store mounts last.dir (Entry i j)) m is
made_looked store mounts marks last (Room i) m place is = made_room store (write_access marks last) last.dir (16 * i) last.name m place is

pub made_place : (store : Stores) (mounts : MountTable) (marks : List Bool) (w : Way) (m : Made) → IsSearchWay store w → to_make store mounts marks w ≡ Ok m
    → IsMadePlace store m
made_place store mounts marks (Start i) m search is = absurd (cc)
made_place store mounts marks (End last) m search is = made_looked store mounts marks last last.looked m (search_place store last search) is

-- An entry that is to be removed is at such a place.
entry_when : (store : Stores) (t : Result (Unit {0}) Errno) (r : Result ℕ Errno) (dir offset : ℕ) (e : ℕ × ℕ × ℕ)
    → IsPlace store dir offset → then_do t (λ may. then_do r (λ ino. Ok (dir, offset, ino))) ≡ Ok e
    → IsPlace store e.0 e.1
entry_when store (Err x) r dir offset e place is = absurd (cc)
entry_when store (Ok may) (Err x) dir offset e place is = absurd (cc)
entry_when store (Ok may) (Ok ino) dir offset e place is =
    let T : Type 0 = ℕ × ℕ × ℕ in
    let same : ◌≡◌ {A = T} (dir, offset, ino) e = cc in
    let P : ℕ × ℕ × ℕ → Type 0 = λ x. IsPlace store x.0 x.1 in
    subst P same place

entry_looked : (store : Stores) (mounts : MountTable) (marks : List Bool) (last : Last) (l : Looked) (e : ℕ × ℕ × ℕ) → IsPlace store last.dir (16 * place_of l)
    → entry_to_remove store mounts marks last l ≡ Ok e → IsPlace store e.0 e.1
entry_looked store mounts marks last (Entry i j) e place is =
    entry_when store (write_access marks last) (entry_number store mounts last.dir (Entry i j)) last.dir (16 * i) e place is
entry_looked store mounts marks last (Room i) e place is = absurd (cc)

pub removed_place : (store : Stores) (mounts : MountTable) (marks : List Bool) (w : Way) (e : ℕ × ℕ × ℕ) → IsSearchWay store w → to_remove store mounts marks w ≡ Ok e
    → IsPlace store e.0 e.1
removed_place store mounts marks (Start i) e search is = absurd (cc)
removed_place store mounts marks (End last) e search is = entry_looked store mounts marks last last.looked e (search_place store last search) is

made_after : (store : Stores) (mounts : MountTable) (marks : List Bool) (r : Result Way Errno) (m : Made) → ((w : Way) → r ≡ Ok w → IsSearchWay store w)
    → then_do r (to_make store mounts marks) ≡ Ok m → IsMadePlace store m
made_after store mounts marks (Err e) m search is = absurd (cc)
made_after store mounts marks (Ok w) m search is = made_place store mounts marks w m (search w refl) is

-- what a name that may be new comes to
pub made_at : (store : Stores) (mounts : MountTable) (marks : List Bool) (user : User) (dir : ℕ) (bytes : List ℕ) (m : Made)
    → then_do (way store mounts user dir bytes) (to_make store mounts marks) ≡ Ok m → IsMadePlace store m
made_at store mounts marks user dir bytes m is = made_after store mounts marks (way store mounts user dir bytes) m (way_searched store mounts user dir bytes) is

removed_after : (store : Stores) (mounts : MountTable) (marks : List Bool) (r : Result Way Errno) (e : ℕ × ℕ × ℕ) → ((w : Way) → r ≡ Ok w → IsSearchWay store w)
    → then_do r (to_remove store mounts marks) ≡ Ok e → IsPlace store e.0 e.1
removed_after store mounts marks (Err x) e search is = absurd (cc)
removed_after store mounts marks (Ok w) e search is = removed_place store mounts marks w e (search w refl) is

-- what a name that is to be removed comes to
pub removed_at : (store : Stores) (mounts : MountTable) (marks : List Bool) (user : User) (dir : ℕ) (bytes : List ℕ) (e : ℕ × ℕ × ℕ)
    → then_do (way store mounts user dir bytes) (to_remove store mounts marks) ≡ Ok e → IsPlace store e.0 e.1
removed_at store mounts marks user dir bytes e is =
    removed_after store mounts marks (way store mounts user dir bytes) e (way_searched store mounts user dir bytes) is

-- Both name inodes that are used, where a name starts at one.
made_used_after : (store : Stores) (mounts : MountTable) (crosses : CrossesToNodes store mounts) (marks : List Bool) (r : Result Way Errno) (m : Made) → ((w : Way) → r ≡ Ok w → IsUsedWay store w)
    → then_do r (to_make store mounts marks) ≡ Ok m → IsSome (node_numbered store (named_by_made m))
made_used_after store mounts crosses marks (Err e) m used is = absurd (cc)
made_used_after store mounts crosses marks (Ok w) m used is = made_used store mounts crosses marks w m (used w refl) (sym is)

pub made_used_at : (store : Stores) (mounts : MountTable) (crosses : CrossesToNodes store mounts) (marks : List Bool) (user : User) (dir : ℕ) (bytes : List ℕ) (m : Made)
    → IsSome (node_numbered store (start_of dir bytes)) → then_do (way store mounts user dir bytes) (to_make store mounts marks) ≡ Ok m
    → IsSome (node_numbered store (named_by_made m))
made_used_at store mounts crosses marks user dir bytes m start is =
    made_used_after store mounts crosses marks (way store mounts user dir bytes) m (λ w w_is. way_used store mounts crosses user dir bytes w (sym w_is) start) is

removed_used_after : (store : Stores) (mounts : MountTable) (marks : List Bool) (r : Result Way Errno) (e : ℕ × ℕ × ℕ) → ((w : Way) → r ≡ Ok w → IsUsedWay store w)
    → then_do r (to_remove store mounts marks) ≡ Ok e
    → IsSome (node_numbered store e.0) × IsSome (node_numbered store e.2)
removed_used_after store mounts marks (Err x) e used is = absurd (cc)
removed_used_after store mounts marks (Ok w) e used is = removed_used store mounts marks w e (used w refl) (sym is)

pub removed_used_at : (store : Stores) (mounts : MountTable) (crosses : CrossesToNodes store mounts) (marks : List Bool) (user : User) (dir : ℕ) (bytes : List ℕ) (e : ℕ × ℕ × ℕ)
    → IsSome (node_numbered store (start_of dir bytes)) → then_do (way store mounts user dir bytes) (to_remove store mounts marks) ≡ Ok e
    → IsSome (node_numbered store e.0) × IsSome (node_numbered store e.2)
removed_used_at store mounts crosses marks user dir bytes e start is =
    removed_used_after store mounts marks (way store mounts user dir bytes) e (λ w w_is. way_used store mounts crosses user dir bytes w (sym w_is) start)
    is

-- The search for a name, one step after another.
use Rattle.std.proofs.Common.{◌≡◌, ◌*◌, ◌||◌, ◌&&◌, ℕ, Bool, true, false, not, cond, List, [], ◌∷◌, Option, Some, None, is_some, IsSome, Result, Ok, Err, refl, sym, ap, ◌∙◌, subst}
use Rattle.v6_base.specs.Access.{then_do}
use Rattle.v6_base.specs.declared.errno.Errno.{Errno}
use Rattle.v6_base.specs.declared.errno.Errno.TheVariants.{ENOENT, EACCES, EFAULT, ENOTDIR}
use Rattle.fs_codec.specs.Modes.{is_directory}
use Rattle.fs_codec.specs.Store.{Node}
use Rattle.fs_nodes.specs.Keys.{Stores, node_numbered}
use Rattle.fs_codec.specs.declared.node.DiskNode.{DiskNode}
use Rattle.fs_nodes.specs.FileSystem.{Shows}
use Rattle.fs_tree.specs.declared.user.User.{User}
use Rattle.fs_tree.specs.declared.user.Want.{Want}
use Rattle.fs_tree.specs.declared.user.Want.TheVariants.{Write, Execute}
use Rattle.fs_tree.specs.declared.directory.Looked.{Looked}
use Rattle.fs_tree.specs.declared.directory.Looked.TheVariants.{Entry, Room}
use Rattle.fs_tree.specs.declared.walk.Last.{Last}
use Rattle.fs_tree.specs.declared.walk.Way.{Way}
use Rattle.fs_tree.specs.declared.walk.Way.TheVariants.{Start, End}
use Rattle.fs_tree.specs.Permission.{may, may_use}
use Rattle.fs_tree.specs.Name.{is_whole, components, start_of}
use Rattle.fs_tree.specs.Directory.{looked}
use Rattle.mount_tab.specs.Mounted.{MountTable, is_number, key_of, split_of, crossed}
use Rattle.fs_tree.specs.Path.{with_node_of, used_number, entry_number, reached, looked_in, in_directory, is_last, walk, way, found, write_access, found_or_room, to_make, entry_to_remove, to_remove}
use Rattle.fs_tree.specs.declared.made.Made.{Made}
use Rattle.fs_tree.specs.declared.made.Made.TheVariants as made
use Rattle.fs_tree.specs.Finding.{named_by_made}

-- An inode shows what a node says of it.
pub dir_shown : (node : Node) (inode : DiskNode) (r : Bool) → Shows inode node → r ≡ is_directory inode.mode → is_directory node.mode ≡ r
dir_shown node inode r s is = sym (is ∙ ap is_directory s.mode)

pub may_shown : (node : Node) (inode : DiskNode) (user : User) (want : Want) (r : Bool) → Shows inode node → r ≡ may inode.mode inode.uid inode.gid user want → may_use node user want ≡ r
may_shown node inode user want r s is = sym (is ∙ (λ i. may (s.mode i) (s.uid i) (s.gid i) user want))

third_fails : {A : Type 0} (a b c : Bool) (x y z w : A) → a ≡ true → b ≡ true → c ≡ false → cond (not a) x (cond (not b) y (cond (not c) z w)) ≡ z
third_fails a b c x y z w h k l =
    ap (λ t. cond (not t) x (cond (not b) y (cond (not c) z w))) h ∙ ap (λ t. cond (not t) y (cond (not c) z w)) k ∙ ap (λ t. cond (not t) z w) l

none_fails : {A : Type 0} (a b c : Bool) (x y z w : A) → a ≡ true → b ≡ true → c ≡ true → cond (not a) x (cond (not b) y (cond (not c) z w)) ≡ w
none_fails a b c x y z w h k l =
    ap (λ t. cond (not t) x (cond (not b) y (cond (not c) z w))) h ∙ ap (λ t. cond (not t) y (cond (not c) z w)) k ∙ ap (λ t. cond (not t) z w) l

module _ (store : Stores) (user : User) (dir : ℕ) (name : List ℕ) (r : Bool) where
  in_found : (node : Node) → node_numbered store dir ≡ Some node → in_directory store user dir name r ≡ looked_in user dir name r node
  in_found node is = ap (λ o. with_node_of o (looked_in user dir name r)) is

  pub in_unread : (node : Node) → node_numbered store dir ≡ Some node → is_directory node.mode ≡ true → may_use node user Execute ≡ true → r ≡ false → Err EFAULT ≡ in_directory store user dir name r
  in_unread node is d m f = sym (in_found node is ∙ third_fails (is_directory node.mode) (may_use node user Execute) r _ _ _ _ d m f)

  pub in_searched : (node : Node) (w : Bool) (l : Looked) → node_numbered store dir ≡ Some node → is_directory node.mode ≡ true → may_use node user Execute ≡ true → r ≡ true
      → may_use node user Write ≡ w → l ≡ looked node name
      → Ok (record { dir = dir; name = name; may_write = w; looked = l }) ≡ in_directory store user dir name r
  in_searched node w l is d m f may_w l_is =
      (λ i. Ok (record { dir = dir; name = name; may_write = sym may_w i; looked = l_is i }))
      ∙ sym (in_found node is ∙ none_fails (is_directory node.mode) (may_use node user Execute) r _ _ _ _ d m f)

after : Stores → MountTable → User → Bool → List (List ℕ) → Last → Result Way Errno
after store mounts user whole later last = cond (is_last later) (Ok (End last)) (then_do (reached store mounts last.dir last.looked) (λ ino. walk store mounts user whole ino later))

module _ (store : Stores) (mounts : MountTable) (user : User) (whole : Bool) (dir : ℕ) (names : List (List ℕ)) (name : List ℕ) (later : List (List ℕ)) (is : names ≡ name ∷ later) where
  walk_at : walk store mounts user whole dir names ≡ then_do (in_directory store user dir name (not (is_last later) || whole)) (after store mounts user whole later)
  unfolding walk after
  walk_at = ap (walk store mounts user whole dir) is

  pub stops : (e : Errno) → in_directory store user dir name (not (is_last later) || whole) ≡ Err e → walk store mounts user whole dir names ≡ Err e
  stops e refused = walk_at ∙ ap (λ r. then_do r (after store mounts user whole later)) refused

  walk_after : (last : Last) → in_directory store user dir name (not (is_last later) || whole) ≡ Ok last → walk store mounts user whole dir names ≡ after store mounts user whole later last
  walk_after last found = walk_at ∙ ap (λ r. then_do r (after store mounts user whole later)) found

  pub ends : (last : Last) → in_directory store user dir name (not (is_last later) || whole) ≡ Ok last → is_last later ≡ true → walk store mounts user whole dir names ≡ Ok (End last)
  unfolding after
  ends last found end = walk_after last found ∙ ap (λ t. cond t (Ok (End last)) (then_do (reached store mounts last.dir last.looked) (λ ino. walk store mounts user whole ino later))) end

  on : (last : Last) → in_directory store user dir name (not (is_last later) || whole) ≡ Ok last → is_last later ≡ false
      → walk store mounts user whole dir names ≡ then_do (reached store mounts last.dir last.looked) (λ ino. walk store mounts user whole ino later)
  unfolding after
  on last found more = walk_after last found ∙ ap (λ t. cond t (Ok (End last)) (then_do (reached store mounts last.dir last.looked) (λ ino. walk store mounts user whole ino later))) more

  pub misses : (last : Last) (e : Errno) → in_directory store user dir name (not (is_last later) || whole) ≡ Ok last → is_last later ≡ false → reached store mounts last.dir last.looked ≡ Err e
      → walk store mounts user whole dir names ≡ Err e
  misses last e found more refused = on last found more ∙ ap (λ r. then_do r (λ ino. walk store mounts user whole ino later)) refused

  pub goes : (last : Last) (ino : ℕ) → in_directory store user dir name (not (is_last later) || whole) ≡ Ok last → is_last later ≡ false → reached store mounts last.dir last.looked ≡ Ok ino
      → walk store mounts user whole dir names ≡ walk store mounts user whole ino later
  goes last ino found more passes = on last found more ∙ ap (λ r. then_do r (λ ino. walk store mounts user whole ino later)) passes

-- where a name begins
last_nil : (names : List (List ℕ)) → is_last names ≡ true → names ≡ []
last_nil [] is = refl
last_nil (name ∷ later) is = absurd (cc)

module _ (store : Stores) (mounts : MountTable) (user : User) (dir : ℕ) (bytes : List ℕ) where
  pub way_unread : is_last (components bytes) ≡ true → is_whole bytes ≡ false → Err EFAULT ≡ way store mounts user dir bytes
  way_unread l w = sym (ap (λ t. cond (t && not (is_whole bytes)) (Err EFAULT) (walk store mounts user (is_whole bytes) (crossed mounts (start_of dir bytes)) (components bytes))) l
      ∙ ap (λ t. cond (not t) (Err EFAULT) (walk store mounts user (is_whole bytes) (crossed mounts (start_of dir bytes)) (components bytes))) w)

  pub way_walks : is_last (components bytes) ≡ false → way store mounts user dir bytes ≡ walk store mounts user (is_whole bytes) (crossed mounts (start_of dir bytes)) (components bytes)
  way_walks l = ap (λ t. cond (t && not (is_whole bytes)) (Err EFAULT) (walk store mounts user (is_whole bytes) (crossed mounts (start_of dir bytes)) (components bytes))) l

  pub way_start : is_last (components bytes) ≡ true → is_whole bytes ≡ true → Ok (Start (crossed mounts (start_of dir bytes))) ≡ way store mounts user dir bytes
  unfolding walk
  way_start l w = sym (ap (λ t. cond (t && not (is_whole bytes)) (Err EFAULT) (walk store mounts user (is_whole bytes) (crossed mounts (start_of dir bytes)) (components bytes))) l
      ∙ ap (λ t. cond (not t) (Err EFAULT) (walk store mounts user (is_whole bytes) (crossed mounts (start_of dir bytes)) (components bytes))) w
      ∙ ap (walk store mounts user (is_whole bytes) (crossed mounts (start_of dir bytes))) (last_nil (components bytes) l))

-- The same names have the same first.
pub record Same (a b : List ℕ) (k l : List (List ℕ)) : Type 0 where
  pub name : b ≡ a
  pub later : l ≡ k

pub same_names : (names : List (List ℕ)) (name front : List ℕ) (later rest : List (List ℕ)) → names ≡ name ∷ later → names ≡ front ∷ rest → Same name front later rest
same_names names name front later rest is also = record { name = cc; later = cc }

pub none_read : (o : Option ℕ) (t : Bool) → is_some o ≡ not t → t ≡ true → None ≡ o
none_read None t is holds = refl
none_read (Some x) t is holds = let e : true ≡ false = is ∙ ap not holds in absurd (cc)

pub some_read : (o : Option ℕ) (t : Bool) → is_some o ≡ not t → t ≡ false → (x : ℕ) × (o ≡ Some x)
some_read None t is fails = let e : false ≡ true = is ∙ ap not fails in absurd (cc)
some_read (Some x) t is fails = (x, refl)

-- what a search of a directory for a component comes to, where others follow or a NUL
abbrev pub begins_on : Stores → User → ℕ → List ℕ → List (List ℕ) → Bool → Result Last Errno
begins_on store user dir name later whole = in_directory store user dir name (not (is_last later) || whole)

-- A name leads to an inode that is used, or to the search of one.
abbrev pub IsUsedWay : Stores → Way → Type 0
IsUsedWay store (Start ino) = IsSome (node_numbered store ino)
IsUsedWay store (End last) = IsSome (node_numbered store last.dir)

used_by : (store : Stores) (i ino : ℕ) (o : Option Node) → node_numbered store i ≡ o → ◌≡◌ {A = Result ℕ Errno} (cond (is_some o) (Ok i) (Err ENOENT)) (Ok ino) → IsSome (node_numbered store ino)
used_by store i ino None is ok = absurd (cc)
used_by store i ino (Some node) is ok =
    let same : i ≡ ino = cc in
    let P : Option Node → Type 0 = IsSome in
    subst P (sym is ∙ ap (node_numbered store) same) refl

pub number_used : (store : Stores) (i ino : ℕ) → used_number store i ≡ Ok ino → IsSome (node_numbered store ino)
number_used store i ino ok = used_by store i ino (node_numbered store i) refl ok

-- Who crosses from a node comes to a node.
abbrev pub CrossesToNodes : Stores → MountTable → Type 0
CrossesToNodes store mounts = (key : ℕ) → IsSome (node_numbered store key) → IsSome (node_numbered store (crossed mounts key))

key_used : (store : Stores) (mounts : MountTable) (dev i ino : ℕ) (t : Bool) → cond t (used_number store (key_of mounts dev i)) (Err ENOENT) ≡ Ok ino → IsSome (node_numbered store ino)
key_used store mounts dev i ino true ok = number_used store (key_of mounts dev i) ino ok
key_used store mounts dev i ino false ok = absurd (cc)

pub entry_used : (store : Stores) (mounts : MountTable) (dir : ℕ) (l : Looked) (ino : ℕ) → entry_number store mounts dir l ≡ Ok ino → IsSome (node_numbered store ino)
entry_used store mounts dir (Entry i j) ino ok = key_used store mounts (split_of mounts dir).0 j ino (is_number mounts (split_of mounts dir).0 j) ok
entry_used store mounts dir (Room i) ino ok = absurd (cc)

crossed_used : (store : Stores) (mounts : MountTable) (r : Result ℕ Errno) (ino : ℕ) → CrossesToNodes store mounts → ((key : ℕ) → r ≡ Ok key → IsSome (node_numbered store key))
    → then_do r (λ key. Ok (crossed mounts key)) ≡ Ok ino → IsSome (node_numbered store ino)
crossed_used store mounts (Err e) ino crosses used ok = absurd (cc)
crossed_used store mounts (Ok key) ino crosses used ok =
    let same : crossed mounts key ≡ ino = cc in
    let P : ℕ → Type 0 = λ n. IsSome (node_numbered store n) in subst P same (crosses key (used key refl))

pub reached_used : (store : Stores) (mounts : MountTable) (dir : ℕ) (l : Looked) (ino : ℕ) → CrossesToNodes store mounts → reached store mounts dir l ≡ Ok ino → IsSome (node_numbered store ino)
reached_used store mounts dir l ino crosses ok =
    crossed_used store mounts (entry_number store mounts dir l) ino crosses (λ key is. entry_used store mounts dir l key is) ok

module _ (store : Stores) (mounts : MountTable) (crosses : CrossesToNodes store mounts) (user : User) where
  tested_dir : (dir : ℕ) (name : List ℕ) (a b c w : Bool) (l : Looked) (last : Last)
      → cond (not a) (Err ENOTDIR) (cond (not b) (Err EACCES) (cond (not c) (Err EFAULT) (Ok (record { dir = dir; name = name; may_write = w; looked = l })))) ≡ Ok last → dir ≡ last.dir
  tested_dir dir name false b c w l last is = absurd (cc)
  tested_dir dir name true false c w l last is = absurd (cc)
  tested_dir dir name true true false w l last is = absurd (cc)
  tested_dir dir name true true true w l last is =
      let e : record { dir = dir; name = name; may_write = w; looked = l } ≡ last = cc in ap (λ (x : Last). x.dir) e

  looked_dir : (dir : ℕ) (name : List ℕ) (r : Bool) (o : Option Node) (last : Last) → with_node_of o (looked_in user dir name r) ≡ Ok last → dir ≡ last.dir
  looked_dir dir name r None last is = absurd (cc)
  looked_dir dir name r (Some node) last is =
      tested_dir dir name (is_directory node.mode) (may_use node user Execute) r (may_use node user Write) (looked node name) last is

  module _ (later : List (List ℕ)) (whole : Bool) (dir : ℕ) (w : Way) (some : IsSome (node_numbered store dir))
      (next : (ino : ℕ) → IsSome (node_numbered store ino) → walk store mounts user whole ino later ≡ Ok w → IsUsedWay store w) where
    on_used : (last : Last) (r : Result ℕ Errno) → reached store mounts last.dir last.looked ≡ r → then_do r (λ ino. walk store mounts user whole ino later) ≡ Ok w → IsUsedWay store w
    on_used last (Err e) r_is then_is = absurd (cc)
    on_used last (Ok ino) r_is then_is = next ino (reached_used store mounts last.dir last.looked ino crosses r_is) then_is

    last_used : (last : Last) (t : Bool) → dir ≡ last.dir → cond t (Ok (End last)) (then_do (reached store mounts last.dir last.looked) (λ ino. walk store mounts user whole ino later)) ≡ Ok w → IsUsedWay store w
    last_used last true d then_is =
        let e : End last ≡ w = cc in
        let P : Way → Type 0 = IsUsedWay store in
        let Q : ℕ → Type 0 = λ n. IsSome (node_numbered store n) in
        subst P e (subst Q d some)
    last_used last false d then_is = on_used last (reached store mounts last.dir last.looked) refl then_is

    step_used : (name : List ℕ) (r : Result Last Errno) → in_directory store user dir name (not (is_last later) || whole) ≡ r
        → then_do r (λ (last : Last). cond (is_last later) (Ok (End last)) (then_do (reached store mounts last.dir last.looked) (λ ino. walk store mounts user whole ino later))) ≡ Ok w → IsUsedWay store w
    step_used name (Err e) r_is then_is = absurd (cc)
    step_used name (Ok last) r_is then_is = last_used last (is_last later) (looked_dir dir name (not (is_last later) || whole) (node_numbered store dir) last r_is) then_is

  walk_used : (names : List (List ℕ)) (whole : Bool) (dir : ℕ) (w : Way) → IsSome (node_numbered store dir) → walk store mounts user whole dir names ≡ Ok w → IsUsedWay store w
  unfolding walk
  walk_used [] whole dir w some is =
      let e : Start dir ≡ w = cc in let P : Way → Type 0 = IsUsedWay store in subst P e some
  walk_used (name ∷ later) whole dir w some is =
      step_used later whole dir w some (λ ino used on. walk_used later whole ino w used on) name (in_directory store user dir name (not (is_last later) || whole)) refl is

  pub way_used : (dir : ℕ) (bytes : List ℕ) (w : Way) → Ok w ≡ way store mounts user dir bytes → IsSome (node_numbered store (start_of dir bytes)) → IsUsedWay store w
  way_used dir bytes w is some = by (is_last (components bytes) && not (is_whole bytes)) (sym is) where
    by : (t : Bool) → cond t (Err EFAULT) (walk store mounts user (is_whole bytes) (crossed mounts (start_of dir bytes)) (components bytes)) ≡ Ok w → IsUsedWay store w
    by true way_is = absurd (cc)
    by false way_is = walk_used (components bytes) (is_whole bytes) (crossed mounts (start_of dir bytes)) w (crosses (start_of dir bytes) some) way_is

-- What the three uses of a name find is used.
module _ (store : Stores) (mounts : MountTable) (crosses : CrossesToNodes store mounts) where
  pub found_used : (w : Way) (ino : ℕ) → IsUsedWay store w → Ok ino ≡ found store mounts w → IsSome (node_numbered store ino)
  found_used (Start i) ino some is = let e : i ≡ ino = cc in let P : ℕ → Type 0 = λ n. IsSome (node_numbered store n) in subst P e some
  found_used (End last) ino some is = reached_used store mounts last.dir last.looked ino crosses (sym is)

  entry_made : (r : Result ℕ Errno) (m : Made) → ((key : ℕ) → r ≡ Ok key → IsSome (node_numbered store key)) → Ok m ≡ then_do r (λ ino. Ok (made.Found ino)) → IsSome (node_numbered store (named_by_made m))
  entry_made (Err e) m used is = absurd (cc)
  entry_made (Ok ino) m used is =
      let e : made.Found ino ≡ m = cc in let P : Made → Type 0 = λ x. IsSome (node_numbered store (named_by_made x)) in subst P e (used ino refl)

  room_made : (r : Result (Unit {0}) Errno) (dir offset : ℕ) (name : List ℕ) (m : Made) → IsSome (node_numbered store dir) → Ok m ≡ then_do r (λ may. Ok (made.Room dir offset name)) → IsSome (node_numbered store (named_by_made m))
  room_made (Err e) dir offset name m some is = absurd (cc)
  room_made (Ok may) dir offset name m some is =
      let e : made.Room dir offset name ≡ m = cc in let P : Made → Type 0 = λ x. IsSome (node_numbered store (named_by_made x)) in subst P e some

  looked_made : (marks : List Bool) (last : Last) (l : Looked) (m : Made) → IsSome (node_numbered store last.dir) → Ok m ≡ found_or_room store mounts marks last l → IsSome (node_numbered store (named_by_made m))
  looked_made marks last (Entry i j) m some is =
      entry_made (reached store mounts last.dir (Entry i j)) m (λ key ok. reached_used store mounts last.dir (Entry i j) key crosses ok) is
  looked_made marks last (Room i) m some is = room_made (write_access marks last) last.dir (16 * i) last.name m some is

  pub made_used : (marks : List Bool) (w : Way) (m : Made) → IsUsedWay store w → Ok m ≡ to_make store mounts marks w → IsSome (node_numbered store (named_by_made m))
  made_used marks (Start i) m some is = absurd (cc)
  made_used marks (End last) m some is = looked_made marks last last.looked m some is

entry_removed : (store : Stores) (t : Result (Unit {0}) Errno) (r : Result ℕ Errno) (dir offset : ℕ) (e : ℕ × ℕ × ℕ) → ((key : ℕ) → r ≡ Ok key → IsSome (node_numbered store key)) → IsSome (node_numbered store dir)
    → Ok e ≡ then_do t (λ may. then_do r (λ ino. Ok (dir, offset, ino))) → IsSome (node_numbered store e.0) × IsSome (node_numbered store e.2)
entry_removed store (Err x) r dir offset e used some is = absurd (cc)
entry_removed store (Ok may) (Err x) dir offset e used some is = absurd (cc)
entry_removed store (Ok may) (Ok ino) dir offset e used some is =
    let T : Type 0 = ℕ × ℕ × ℕ in
    let same : ◌≡◌ {A = T} (dir, offset, ino) e = cc in
    let P : ℕ × ℕ × ℕ → Type 0 = λ x. IsSome (node_numbered store x.0) × IsSome (node_numbered store x.2) in
    subst P same (some, used ino refl)

looked_removed : (store : Stores) (mounts : MountTable) (marks : List Bool) (last : Last) (l : Looked) (e : ℕ × ℕ × ℕ) → IsSome (node_numbered store last.dir) → Ok e ≡ entry_to_remove store mounts marks last l
    → IsSome (node_numbered store e.0) × IsSome (node_numbered store e.2)
looked_removed store mounts marks last (Entry i j) e some is =
    entry_removed store (write_access marks last) (entry_number store mounts last.dir (Entry i j)) last.dir (16 * i) e (λ key ok. entry_used store mounts last.dir (Entry i j) key ok) some is
looked_removed store mounts marks last (Room i) e some is = absurd (cc)

pub removed_used : (store : Stores) (mounts : MountTable) (marks : List Bool) (w : Way) (e : ℕ × ℕ × ℕ) → IsUsedWay store w → Ok e ≡ to_remove store mounts marks w → IsSome (node_numbered store e.0) × IsSome (node_numbered store e.2)
removed_used store mounts marks (Start i) e some is = absurd (cc)
removed_used store mounts marks (End last) e some is = looked_removed store mounts marks last last.looked e some is

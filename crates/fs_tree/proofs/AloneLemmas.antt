-- While nothing is covered a search that starts on the root's disk stays there, and comes to what it comes to over that disk alone.
use Rattle.std.proofs.Common.{◌≡◌, ◌≤◌, ◌-◌, ◌*◌, ◌&&◌, ◌||◌, ℕ, nat_le, Bool, true, false, not, cond, List, [], ◌∷◌, Option, Some, None, is_some, Result, Ok, Err, refl, sym, ap, ◌∙◌, subst}
use Rattle.std.proofs.lemmas.Bool.{leb-true, le-leb, le-ltb}
use Rattle.v6_base.specs.Access.{then_do}
use Rattle.v6_base.specs.declared.errno.Errno.{Errno}
use Rattle.v6_base.specs.declared.errno.Errno.TheVariants.{ENOENT, EACCES, EFAULT, ENOTDIR, ENFILE}
use Rattle.fs_codec.specs.Modes.{is_directory}
use Rattle.fs_codec.specs.Store.{Node, Store}
use Rattle.fs_codec.specs.Store as codec
use Rattle.fs_nodes.specs.Keys.{Stores, node_numbered}
use Rattle.mount_tab.specs.Mounted.{MountTable, crossed}
use Rattle.fs_tree.specs.declared.user.User.{User}
use Rattle.fs_tree.specs.declared.user.Want.TheVariants.{Write, Execute}
use Rattle.fs_tree.specs.declared.directory.Looked.{Looked}
use Rattle.fs_tree.specs.declared.directory.Looked.TheVariants.{Entry, Room}
use Rattle.fs_tree.specs.declared.walk.Last.{Last}
use Rattle.fs_tree.specs.declared.walk.Way.{Way}
use Rattle.fs_tree.specs.declared.walk.Way.TheVariants.{Start, End}
use Rattle.fs_tree.specs.declared.made.Made.{Made}
use Rattle.fs_tree.specs.declared.made.Made.TheVariants as made
use Rattle.fs_tree.specs.Alone.{alone, table_alone, StartsOnRoot}
use Rattle.fs_tree.specs.Directory.{looked}
use Rattle.fs_tree.specs.Finding.{Inodes, Finding, can_refer, with_reference, refused, referring, finding, find_in, named_by_made, making, make_in, put_back, removing, remove_in}
use Rattle.fs_tree.specs.Mounting.{AreMounts}
use Rattle.fs_tree.specs.Name.{is_whole, components, start_of}
use Rattle.fs_tree.specs.Path.{with_node_of, used_number, used_key, entry_number, reached, looked_in, in_directory, is_last, walk, way, found, write_access, found_or_room, to_make, entry_to_remove, to_remove}
use Rattle.fs_tree.specs.Permission.{may_use}

-- Two answers are one, and what they give is so.
pub record Agree {A : Type 0} (In : A → Type 0) (r s : Result A Errno) : Type 0 where
  pub same : r ≡ s
  pub within : (a : A) → r ≡ Ok a → In a

agree_then : {A B : Type 0} (In : A → Type 0) (Next : B → Type 0) (r s : Result A Errno) (f g : A → Result B Errno)
    → Agree In r s → ((a : A) → In a → Agree Next (f a) (g a)) → Agree Next (then_do r f) (then_do s g)
agree_then In Next (Err e) s f g both next = record {
  same = ap (λ t. then_do t g) both.same;
  within = λ b is. absurd (cc is);
}
agree_then In Next (Ok a) s f g both next =
    let on = next a (both.within a refl) in
    record { same = on.same ∙ ap (λ t. then_do t g) both.same; within = on.within }

agree_err : {A : Type 0} (In : A → Type 0) (e : Errno) → Agree In (Err e) (Err e)
agree_err In e = record { same = refl; within = λ a is. absurd (cc is) }

agree_ok : {A : Type 0} (In : A → Type 0) (a : A) → In a → Agree In (Ok a) (Ok a)
agree_ok In a so = record { same = refl; within = λ b is. (let e : a ≡ b = cc is in subst In e so) }

agree_any : {A : Type 0} (r : Result A Errno) → Agree (λ a. Unit {0}) r r
agree_any r = record { same = refl; within = λ a is. tt }

agree_if : {A : Type 0} (In : A → Type 0) (b : Bool) (r s x y : Result A Errno) → (b ≡ true → Agree In r s) → Agree In x y
    → Agree In (cond b r x) (cond b s y)
agree_if In true r s x y one other = one refl
agree_if In false r s x y one other = other

both_hold : (a b : Bool) → a && b ≡ true → b ≡ true
both_hold true b is = is
both_hold false b is = absurd (cc is)

module _ (root : Store) (o : Option Store) (k : ℕ) where
  abbrev two : Stores
  two = record { root = root; second = o }

  abbrev one : Stores
  one = record { root = root; second = None }

  abbrev m : MountTable
  m = record { first = root.count; second = k; covered = None }

  abbrev t : MountTable
  t = record { first = root.count; second = 0; covered = None }

  abbrev OnRoot : ℕ → Type 0
  OnRoot key = key ≤ root.count

  abbrev InLast : Last → Type 0
  InLast last = OnRoot last.dir

  abbrev InWay : Way → Type 0
  InWay (Start ino) = OnRoot ino
  InWay (End last) = OnRoot last.dir

  abbrev InMade : Made → Type 0
  InMade answer = OnRoot (named_by_made answer)

  abbrev InEntry : ℕ × ℕ × ℕ → Type 0
  InEntry e = OnRoot e.0 × OnRoot e.2

  node_same : (key : ℕ) → OnRoot key → node_numbered two key ≡ node_numbered one key
  unfolding node_numbered
  node_same key low = by o
    where
      by : (p : Option Store) → node_numbered (record { root = root; second = p }) key ≡ node_numbered one key
      by None = refl
      by (Some x) =
          ap (λ b. codec.node_numbered (cond {A = Store} b x root) (cond {A = ℕ} b (key - root.count) key)) (le-ltb root.count key low)

  number_agree : (i : ℕ) → OnRoot i → Agree OnRoot (used_number two i) (used_number one i)
  number_agree i low =
      subst (λ (n : Option Node). Agree OnRoot (cond (is_some n) (Ok i) (Err ENOENT)) (used_number one i)) (sym (node_same i low))
      (agree_if OnRoot (is_some (node_numbered one i)) (Ok i) (Ok i) (Err ENOENT) (Err ENOENT) (λ is. agree_ok OnRoot i low)
      (agree_err OnRoot ENOENT))

  key_agree : (i : ℕ) → Agree OnRoot (used_key two m 0 i) (used_key one t 0 i)
  key_agree i =
      agree_if OnRoot (nat_le 1 i && nat_le i root.count) (used_number two i) (used_number one i) (Err ENOENT) (Err ENOENT)
      (λ is. number_agree i (leb-true i root.count (both_hold (nat_le 1 i) (nat_le i root.count) is))) (agree_err OnRoot ENOENT)

  entry_agree : (dir : ℕ) (l : Looked) → OnRoot dir → Agree OnRoot (entry_number two m dir l) (entry_number one t dir l)
  entry_agree dir (Entry p i) low =
      subst
      (λ b. Agree OnRoot (used_key two m (cond {A = ℕ × ℕ} b (0, dir) (1, dir - root.count)).0 i)
      (used_key one t (cond {A = ℕ × ℕ} b (0, dir) (1, dir - root.count)).0 i)) (sym (le-leb dir root.count low)) (key_agree i)
  entry_agree dir (Room i) low = agree_err OnRoot ENOENT

  reached_agree : (dir : ℕ) (l : Looked) → OnRoot dir → Agree OnRoot (reached two m dir l) (reached one t dir l)
  reached_agree dir l low =
      agree_then OnRoot OnRoot (entry_number two m dir l) (entry_number one t dir l) (λ key. Ok (crossed m key))
      (λ key. Ok (crossed t key)) (entry_agree dir l low) (λ key so. agree_ok OnRoot key so)

  module _ (user : User) where
    last_agree : (dir : ℕ) (name : List ℕ) (r : Bool) → OnRoot dir
        → Agree InLast (in_directory two user dir name r) (in_directory one user dir name r)
    last_agree dir name r low =
        subst (λ (n : Option Node). Agree InLast (with_node_of n (looked_in user dir name r)) (in_directory one user dir name r))
        (sym (node_same dir low)) (by (node_numbered one dir))
      where
        by : (n : Option Node) → Agree InLast (with_node_of n (looked_in user dir name r)) (with_node_of n (looked_in user dir name r))
        by None = agree_err InLast ENOENT
        by (Some node) =
            let last : Last = record { dir = dir; name = name; may_write = may_use node user Write; looked = looked node name } in
            let read : Result Last Errno = cond (not r) (Err EFAULT) (Ok last) in
            let may : Result Last Errno = cond (not (may_use node user Execute)) (Err EACCES) read in
            agree_if InLast (not (is_directory node.mode)) (Err ENOTDIR) (Err ENOTDIR) may may (λ is. agree_err InLast ENOTDIR)
            (agree_if InLast (not (may_use node user Execute)) (Err EACCES) (Err EACCES) read read (λ is. agree_err InLast EACCES)
            (agree_if InLast (not r) (Err EFAULT) (Err EFAULT) (Ok last) (Ok last) (λ is. agree_err InLast EFAULT)
            (agree_ok InLast last low)))

    walk_agree : (names : List (List ℕ)) (whole : Bool) (dir : ℕ) → OnRoot dir
        → Agree InWay (walk two m user whole dir names) (walk one t user whole dir names)
    unfolding walk
    walk_agree [] whole dir low = agree_ok InWay (Start dir) low
    walk_agree (name ∷ later) whole dir low =
        agree_then InLast InWay (in_directory two user dir name (not (is_last later) || whole))
        (in_directory one user dir name (not (is_last later) || whole))
        (λ last. cond (is_last later) (Ok (End last))
        (then_do (reached two m last.dir last.looked) (λ ino. walk two m user whole ino later)))
        (λ last. cond (is_last later) (Ok (End last))
        (then_do (reached one t last.dir last.looked) (λ ino. walk one t user whole ino later)))
        (last_agree dir name (not (is_last later) || whole) low)
        (λ last so. agree_if InWay (is_last later) (Ok (End last)) (Ok (End last))
        (then_do (reached two m last.dir last.looked) (λ ino. walk two m user whole ino later))
        (then_do (reached one t last.dir last.looked) (λ ino. walk one t user whole ino later))
        (λ is. agree_ok InWay (End last) so)
        (agree_then OnRoot InWay (reached two m last.dir last.looked) (reached one t last.dir last.looked)
        (λ ino. walk two m user whole ino later) (λ ino. walk one t user whole ino later)
        (reached_agree last.dir last.looked so) (λ ino on. walk_agree later whole ino on)))

    way_agree : (dir : ℕ) (bytes : List ℕ) → OnRoot (start_of dir bytes)
        → Agree InWay (way two m user dir bytes) (way one t user dir bytes)
    way_agree dir bytes low =
        agree_if InWay (is_last (components bytes) && not (is_whole bytes)) (Err EFAULT) (Err EFAULT)
        (walk two m user (is_whole bytes) (start_of dir bytes) (components bytes))
        (walk one t user (is_whole bytes) (start_of dir bytes) (components bytes)) (λ is. agree_err InWay EFAULT)
        (walk_agree (components bytes) (is_whole bytes) (start_of dir bytes) low)

    -- the three uses of a name
    found_agree : (w : Way) → InWay w → Agree OnRoot (found two m w) (found one t w)
    found_agree (Start ino) low = agree_ok OnRoot ino low
    found_agree (End last) low = reached_agree last.dir last.looked low

    room_agree : (marks : List Bool) (last : Last) (l : Looked) → OnRoot last.dir
        → Agree InMade (found_or_room two m marks last l) (found_or_room one t marks last l)
    room_agree marks last (Entry i ino) low =
        agree_then OnRoot InMade (reached two m last.dir (Entry i ino)) (reached one t last.dir (Entry i ino))
        (λ key. Ok (made.Found key)) (λ key. Ok (made.Found key)) (reached_agree last.dir (Entry i ino) low)
        (λ key so. agree_ok InMade (made.Found key) so)
    room_agree marks last (Room i) low =
        agree_then (λ may. Unit {0}) InMade (write_access marks last) (write_access marks last)
        (λ may. Ok (made.Room last.dir (16 * i) last.name)) (λ may. Ok (made.Room last.dir (16 * i) last.name))
        (agree_any (write_access marks last)) (λ may so. agree_ok InMade (made.Room last.dir (16 * i) last.name) low)

    make_agree : (marks : List Bool) (w : Way) → InWay w → Agree InMade (to_make two m marks w) (to_make one t marks w)
    make_agree marks (Start ino) low = agree_err InMade ENOENT
    make_agree marks (End last) low = room_agree marks last last.looked low

    gone_agree : (marks : List Bool) (last : Last) (l : Looked) → OnRoot last.dir
        → Agree InEntry (entry_to_remove two m marks last l) (entry_to_remove one t marks last l)
    gone_agree marks last (Entry i ino) low =
        agree_then (λ may. Unit {0}) InEntry (write_access marks last) (write_access marks last)
        (λ may. then_do (entry_number two m last.dir (Entry i ino)) (λ key. Ok (last.dir, 16 * i, key)))
        (λ may. then_do (entry_number one t last.dir (Entry i ino)) (λ key. Ok (last.dir, 16 * i, key)))
        (agree_any (write_access marks last)) (λ may any.
        agree_then OnRoot InEntry (entry_number two m last.dir (Entry i ino)) (entry_number one t last.dir (Entry i ino))
        (λ key. Ok (last.dir, 16 * i, key)) (λ key. Ok (last.dir, 16 * i, key)) (entry_agree last.dir (Entry i ino) low)
        (λ key so. agree_ok InEntry (last.dir, 16 * i, key) (low, so)))
    gone_agree marks last (Room i) low = agree_err InEntry ENOENT

    remove_agree : (marks : List Bool) (w : Way) → InWay w → Agree InEntry (to_remove two m marks w) (to_remove one t marks w)
    remove_agree marks (Start ino) low = agree_err InEntry ENOENT
    remove_agree marks (End last) low = gone_agree marks last last.looked low

-- The same of stores that a mount table fits, in which nothing is covered.
module _ (s : Stores) (mounts : MountTable) (first : mounts.first ≡ s.root.count) (user : User) (dir : ℕ) (bytes : List ℕ)
    (on : StartsOnRoot s mounts dir bytes)
  where
    table_is : mounts ≡ record { first = s.root.count; second = mounts.second; covered = None }
    table_is i = record { first = first i; second = mounts.second; covered = on.none i }

    abbrev root_alone : Stores
    root_alone = record { root = s.root; second = None }

    pub found_alone : Agree (λ ino. ino ≤ s.root.count) (then_do (way s mounts user dir bytes) (found s mounts))
        (then_do (way root_alone (table_alone s) user dir bytes) (found root_alone (table_alone s)))
    found_alone =
        subst (λ (m : MountTable). Agree (λ ino. ino ≤ s.root.count) (then_do (way s m user dir bytes) (found s m))
        (then_do (way root_alone (table_alone s) user dir bytes) (found root_alone (table_alone s)))) (sym table_is)
        (agree_then (InWay s.root s.second mounts.second) (λ ino. ino ≤ s.root.count) (way s (m s.root s.second mounts.second) user dir bytes)
        (way root_alone (table_alone s) user dir bytes) (found s (m s.root s.second mounts.second)) (found root_alone (table_alone s))
        (way_agree s.root s.second mounts.second user dir bytes on.root) (found_agree s.root s.second mounts.second user))

    pub made_alone : (marks : List Bool) → Agree (λ answer. named_by_made answer ≤ s.root.count)
        (then_do (way s mounts user dir bytes) (to_make s mounts marks))
        (then_do (way root_alone (table_alone s) user dir bytes) (to_make root_alone (table_alone s) marks))
    made_alone marks =
        subst (λ (m : MountTable). Agree (λ answer. named_by_made answer ≤ s.root.count)
        (then_do (way s m user dir bytes) (to_make s m marks))
        (then_do (way root_alone (table_alone s) user dir bytes) (to_make root_alone (table_alone s) marks))) (sym table_is)
        (agree_then (InWay s.root s.second mounts.second) (λ answer. named_by_made answer ≤ s.root.count)
        (way s (m s.root s.second mounts.second) user dir bytes) (way root_alone (table_alone s) user dir bytes)
        (to_make s (m s.root s.second mounts.second) marks) (to_make root_alone (table_alone s) marks)
        (way_agree s.root s.second mounts.second user dir bytes on.root) (make_agree s.root s.second mounts.second user marks))

    pub removed_alone : (marks : List Bool) → Agree (λ e. (e.0 ≤ s.root.count) × (e.2 ≤ s.root.count))
        (then_do (way s mounts user dir bytes) (to_remove s mounts marks))
        (then_do (way root_alone (table_alone s) user dir bytes) (to_remove root_alone (table_alone s) marks))
    removed_alone marks =
        subst (λ (m : MountTable). Agree (λ e. (e.0 ≤ s.root.count) × (e.2 ≤ s.root.count))
        (then_do (way s m user dir bytes) (to_remove s m marks))
        (then_do (way root_alone (table_alone s) user dir bytes) (to_remove root_alone (table_alone s) marks))) (sym table_is)
        (agree_then (InWay s.root s.second mounts.second) (λ e. (e.0 ≤ s.root.count) × (e.2 ≤ s.root.count))
        (way s (m s.root s.second mounts.second) user dir bytes) (way root_alone (table_alone s) user dir bytes)
        (to_remove s (m s.root s.second mounts.second) marks) (to_remove root_alone (table_alone s) marks)
        (way_agree s.root s.second mounts.second user dir bytes on.root) (remove_agree s.root s.second mounts.second user marks))

-- Whether an inode can be referred to once more is told by the references.
answer_if : {A : Type 0} (b : Bool) (x y u v : Finding A) → x.answer ≡ u.answer → y.answer ≡ v.answer
    → (cond b x y).answer ≡ (cond b u v).answer
answer_if true x y u v p q = p
answer_if false x y u v p q = q

referring_same : {A : Type 0} (n : Inodes) (ino : ℕ) (a : A) → (referring n ino a).answer ≡ (referring (alone n) ino a).answer
referring_same n ino a =
    answer_if (can_refer n ino) (record { answer = Ok a; inodes = with_reference n ino }) (refused n ENFILE)
    (record { answer = Ok a; inodes = with_reference (alone n) ino }) (refused (alone n) ENFILE) refl refl

finding_same : (n : Inodes) (r : Result ℕ Errno) → (finding n r).answer ≡ (finding (alone n) r).answer
finding_same n (Ok ino) = referring_same n ino ino
finding_same n (Err e) = refl

making_same : (n : Inodes) (r : Result Made Errno) → (making n r).answer ≡ (making (alone n) r).answer
making_same n (Ok a) = referring_same n (named_by_made a) a
making_same n (Err e) = refl

removing_same : (n : Inodes) (r : Result (ℕ × ℕ × ℕ) Errno) → (removing n r).answer ≡ (removing (alone n) r).answer
removing_same n (Err e) = refl
removing_same n (Ok e) = by (not (can_refer n e.0)) (not (can_refer (with_reference n e.0) e.2)) where
  by : (b c : Bool) → (cond {A = Finding (ℕ × ℕ × ℕ)} b (refused n ENFILE)
      (cond c (refused (put_back (with_reference n e.0) e.0) ENFILE)
      (record { answer = Ok e; inodes = with_reference (with_reference n e.0) e.2 }))).answer
      ≡ (cond {A = Finding (ℕ × ℕ × ℕ)} b (refused (alone n) ENFILE)
      (cond c (refused (put_back (with_reference (alone n) e.0) e.0) ENFILE)
      (record { answer = Ok e; inodes = with_reference (with_reference (alone n) e.0) e.2 }))).answer
  by true c = refl
  by false true = refl
  by false false = refl

module _ (n : Inodes) (mounts : MountTable) (are : AreMounts mounts n.store) (user : User) (dir : ℕ) (bytes : List ℕ)
    (on : StartsOnRoot n.store mounts dir bytes)
  where
    pub find_alone : (find_in n mounts user dir bytes).answer ≡ (find_in (alone n) (table_alone n.store) user dir bytes).answer
    find_alone =
        finding_same n _ ∙ ap (λ r. (finding (alone n) r).answer) (found_alone n.store mounts are.first user dir bytes on).same

    pub make_alone : (marks : List Bool)
        → (make_in n mounts marks user dir bytes).answer ≡ (make_in (alone n) (table_alone n.store) marks user dir bytes).answer
    make_alone marks =
        making_same n _ ∙ ap (λ r. (making (alone n) r).answer) (made_alone n.store mounts are.first user dir bytes on marks).same

    pub remove_alone : (marks : List Bool)
        → (remove_in n mounts marks user dir bytes).answer ≡ (remove_in (alone n) (table_alone n.store) marks user dir bytes).answer
    remove_alone marks =
        removing_same n _ ∙ ap (λ r. (removing (alone n) r).answer) (removed_alone n.store mounts are.first user dir bytes on marks).same

-- The second disk is mounted and unmounted: what is tested, what comes after the tests, and what a call keeps.
use Rattle.std.proofs.Common.{◌≡◌, ◌≢◌, ◌<◌, ◌==◌, ◌&&◌, ◌||◌, ℕ, Bool, true, false, not, cond, eqb, List, [], ◌∷◌, Option, Some, None, IsSome, is_none, unwrap_or, Result, Ok, Err, MatchResult, slice_index, refl, sym, ap, ◌∙◌, subst, arith}
use Rattle.std.proofs.lemmas.Bool.{eq-eqb, eqb-true, false≢true, and_parts}
use Rattle.v6_base.specs.Access.{then_do}
use Rattle.v6_base.specs.declared.answer.Answer.TheVariants.{Ret}
use Rattle.v6_base.specs.declared.errno.Errno.{Errno}
use Rattle.v6_base.specs.declared.errno.Errno.TheVariants.{ENXIO, ENOTBLK, EBUSY, EINVAL}
use Rattle.fs_codec.specs.Modes.{file_type, is_directory}
use Rattle.fs_codec.specs.declared.modes.TheConstants.{IFCHR, IFBLK}
use Rattle.fs_codec.specs.declared.node.DiskNode.{DiskNode}
use Rattle.fs_codec.specs.Store.{Node, Store}
use Rattle.fs_nodes.specs.Keys.{Stores, second_count, node_numbered}
use Rattle.fs_nodes.specs.FileSystem.{FileSystem, ShowsNode, IsFileSystem}
use Rattle.mount_tab.specs.Mounted.{MountTable, is_the, has_second, IsCovered}
use Rattle.fs_tree.specs.Mounting.{AreMounts}
use Rattle.fs_tree.specs.Name.{name_at}
use Rattle.fs_tree.specs.Finding.{inodes_of, find_in}
use Rattle.fs_tree.proofs.MountLemmas.{mounts_stay}
use Rattle.sys_files.specs.Handed.{Handed, no_node, node_at, user_of, with_inodes, let_go}
use Rattle.sys_files.specs.Did.{Did, unnamed, fails, is_done, check, must, names, until_end}
use Rattle.sys_files.specs.Entering.{did_of}
use Rattle.sys_files.specs.Mounting.{is_block_device, is_disk, disk_named, can_cover, with_covered, covers, mounts_disk, mounts_found, mount_on, is_held, uncovers, unmounts, unmounts_named, umount_off}
use Rattle.sys_files.specs.Sound.{IsSound, IsKept}
use Rattle.sys_files.proofs.CoreLemmas.{told_state}
use Rattle.sys_files.proofs.OwedLemmas.{directory_referred}
use Rattle.sys_files.proofs.OwingLemmas.{IsKeptBut, taken_more, once_less, let_go_counts, kept_begins, kept_ends, kept_check, kept_named, kept_lets_go, CanFind, can_find_at, found_not, found_kept}

-- The disk of a special file, by its tests.
abbrev tested : ℕ → Bool → Bool → Result ℕ Errno
tested device block disk = then_do (must ENOTBLK block) (λ is. then_do (must ENXIO disk) (λ there. Ok device))

second_true : (a b : Bool) → b ≡ true → (a || b) ≡ true
second_true true b is = refl
second_true false b is = is

module _ (h : Handed) (special : ℕ) (inode : DiskNode) (shown : ShowsNode (node_numbered h.inodes.store special) inode) where
  shows : disk_named h special ≡ tested shown.0.device (is_block_device shown.0) (is_disk h shown.0.device)
  shows =
      ap (λ (o : Option Node). tested (unwrap_or o no_node).device (is_block_device (unwrap_or o no_node))
      (is_disk h (unwrap_or o no_node).device)) shown.1

  device_is : is_block_device shown.0 ≡ true → slice_index inode.addr 0 ≡ shown.0.device
  device_is block =
      shown.2.device (second_true (file_type shown.0.mode == IFCHR) (file_type shown.0.mode == IFBLK) block)

  pub no_block : is_block_device shown.0 ≡ false → disk_named h special ≡ Err ENOTBLK
  no_block is = shows ∙ ap (λ t. tested shown.0.device t (is_disk h shown.0.device)) is

  module _ (block : is_block_device shown.0 ≡ true) (device : ℕ) (number : device ≡ slice_index inode.addr 0) where
    same : device ≡ shown.0.device
    same = number ∙ device_is block

    pub no_disk : is_disk h device ≡ false → disk_named h special ≡ Err ENXIO
    no_disk other =
        shows ∙ ap (λ t. tested shown.0.device t (is_disk h shown.0.device)) block
        ∙ ap (tested shown.0.device true) (ap (is_disk h) (sym same) ∙ other)

    pub is_named : is_disk h device ≡ true → disk_named h special ≡ Ok device
    is_named there =
        shows ∙ ap (λ t. tested shown.0.device t (is_disk h shown.0.device)) block
        ∙ ap (tested shown.0.device true) (ap (is_disk h) (sym same) ∙ there) ∙ ap (λ n. tested n true true) (sym same)

-- A disk that is named, and no root's, is there.
tested_so : (n : ℕ) (block disk : Bool) (device : ℕ) → tested n block disk ≡ Ok device → (disk ≡ true) × (n ≡ device)
tested_so n true true device is = let same : n ≡ device = cc in (refl, same)
tested_so n true false device is = absurd (cc)
tested_so n false disk device is = absurd (cc)

second_of : (root one there : Bool) → (root || (one && there)) ≡ true → root ≡ false → there ≡ true
second_of true one there is other = absurd (false≢true (sym other))
second_of false true there is other = is
second_of false false there is other = absurd (false≢true is)

not_root : (n : ℕ) → n ≢ 0 → (n == 0) ≡ false
not_root n other = by (n == 0) refl where
  by : (t : Bool) → (n == 0) ≡ t → t ≡ false
  by false is = refl
  by true is = absurd (other (eqb-true n 0 is))

pub disk_there : (h : Handed) (special device : ℕ) → disk_named h special ≡ Ok device → device ≢ 0 → has_second h.mounts ≡ true
disk_there h special device is other =
    let so = tested_so (node_at h special).device (is_block_device (node_at h special))
    (is_disk h (node_at h special).device) device is in
    second_of (device == 0) (device == 1) (has_second h.mounts) (ap (is_disk h) (sym so.1) ∙ so.0) (not_root device other)

-- What can be covered.
pub record CanCover (h : Handed) (device dir : ℕ) : Type 0 where
  pub other : device ≢ 0
  pub free : h.mounts.covered ≡ None

none_is : (o : Option ℕ) → is_none o ≡ true → o ≡ None
none_is None is = refl
none_is (Some x) is = absurd (cc)

pub can_parts : (h : Handed) (device dir : ℕ) → can_cover h device dir ≡ true → CanCover h device dir
can_parts h device dir is =
    let first = and_parts (not (device == 0) && is_none h.mounts.covered && (slice_index h.inodes.references dir == 1))
    (is_directory (node_at h dir).mode) is in
    let second = and_parts (not (device == 0) && is_none h.mounts.covered) (slice_index h.inodes.references dir == 1) first.0 in
    let third = and_parts (not (device == 0)) (is_none h.mounts.covered) second.0 in
    record {
      other = λ zero. (let e : false ≡ true = ap not (sym (eq-eqb device 0 zero)) ∙ third.0 in absurd (false≢true e));
      free = none_is h.mounts.covered third.1;
    }

abbrev covers_by : ℕ → Handed → Bool → Did
covers_by dir h t = cond t (names dir (is_done (with_covered h (Some dir)))) (until_end dir (fails h EBUSY))

pub covers_not : (h : Handed) (device dir : ℕ) → can_cover h device dir ≡ false
    → covers device h dir ≡ until_end dir (fails h EBUSY)
covers_not h device dir is = ap (covers_by dir h) is

pub covers_it : (h : Handed) (device dir : ℕ) → can_cover h device dir ≡ true
    → covers device h dir ≡ names dir (is_done (with_covered h (Some dir)))
covers_it h device dir is = ap (covers_by dir h) is

some_none : (o : Option ℕ) → IsSome o → o ≡ None → ⊥
some_none None some is = absurd (cc)
some_none (Some x) some is = absurd (cc)

pub covered_now : {E : Type 0} (m n : MountTable) (key : ℕ) (r : Result (Unit {0}) E)
    → MatchResult r (λ u. (m.covered ≡ None) × (n ≡ record m { covered = Some key })) (λ e. IsCovered m × (n ≡ m))
    → m.covered ≡ None → n ≡ record m { covered = Some key }
covered_now m n key (Ok u) made free = made.1
covered_now m n key (Err e) made free = absurd (some_none m.covered made.0 free)

-- A disk is unmounted after its tests.
module _ (h : Handed) (device : ℕ) where
  abbrev unmounts_by : Bool → Bool → Bool → Did
  unmounts_by free root held =
      check h (must EINVAL (not free)) (λ mounted.
      check h (must EBUSY (not root && not held)) (λ unused.
      uncovers h h.mounts.covered))

  pub not_mounted : ((device == 1) && is_none h.mounts.covered) ≡ true → unmounts h device ≡ fails h EINVAL
  not_mounted is = ap (λ t. unmounts_by t (device == 0) (is_held h)) is

  used_by : (root held : Bool) → (root || held) ≡ true → unmounts_by false root held ≡ fails h EBUSY
  used_by true held is = refl
  used_by false true is = refl
  used_by false false is = absurd (cc)

  unused_by : (root held : Bool) → (root || held) ≡ false → unmounts_by false root held ≡ uncovers h h.mounts.covered
  unused_by true held is = absurd (cc)
  unused_by false true is = absurd (cc)
  unused_by false false is = refl

  module _ (mounted : ((device == 1) && is_none h.mounts.covered) ≡ false) where
    pub in_use : ((device == 0) || is_held h) ≡ true → unmounts h device ≡ fails h EBUSY
    in_use used = ap (λ t. unmounts_by t (device == 0) (is_held h)) mounted ∙ used_by (device == 0) (is_held h) used

    pub uncovers_it : ((device == 0) || is_held h) ≡ false → (o : Option ℕ) → h.mounts.covered ≡ o
        → unmounts h device ≡ uncovers h o
    uncovers_it unused o is =
        ap (λ t. unmounts_by t (device == 0) (is_held h)) mounted ∙ unused_by (device == 0) (is_held h) unused
        ∙ ap (uncovers h) is

-- The reference to the special file has gone.
pub unmounts_at : (after rest : Handed) (special : ℕ) (d : Result ℕ Errno) → rest ≡ let_go after special
    → d ≡ disk_named after special → unnamed (unmounts_named after special) ≡ unnamed (check rest d (unmounts rest))
unmounts_at after rest special d left named = sym (λ i. unnamed (check (left i) (named i) (unmounts (left i))))

-- What a part keeps, by what its row keeps.
pub kept_as_told : (old end : Handed) (row : Did) (r : Result (Unit {0}) Errno) → unnamed row ≡ did_of end r
    → IsKept old row.state
    → IsKept old end
kept_as_told old end row r did kept =
    let P : Handed → Type 0 = IsKept old in
    let is : end ≡ row.state = told_state end r ∙ ap (λ (x : Did). x.state) (sym did) in
    subst P (sym is) kept

-- The mount table fits still, when a directory is covered or uncovered.
second_there : (n : ℕ) (o : Option Store) → not (n == 0) ≡ true → n ≡ second_count o → IsSome o
second_there n (Some x) two is = refl
second_there n None two is =
    let e : false ≡ true = ap not (sym (eq-eqb n 0 is)) ∙ two in absurd (false≢true e)

covered_fits : (m : MountTable) (s : Stores) (dir : ℕ) → has_second m ≡ true → AreMounts m s
    → AreMounts (record m { covered = Some dir }) s
covered_fits m s dir two are = record {
  first = are.first;
  second = are.second;
  covered = λ some. second_there m.second s.second two are.second;
}

uncovered_fits : (m : MountTable) (s : Stores) → AreMounts m s → AreMounts (record m { covered = None }) s
uncovered_fits m s are = record { first = are.first; second = are.second; covered = λ some. absurd (cc) }

module _ (old : Handed) (sound : IsSound old) where
  -- The directory that is covered is referred to.
  pub covered_referred : (now : Handed) (dir : ℕ) → IsKeptBut old now [] → now.mounts.covered ≡ Some dir
      → 0 < slice_index now.inodes.references dir
  covered_referred now dir k is =
      let r = k.references dir in
      let most = sound.referred dir in
      let own : cond {A = ℕ} (is_the now.mounts.covered dir) 1 0 ≡ 1 =
      ap (λ (o : Option ℕ). cond {A = ℕ} (is_the o dir) 1 0) is ∙ ap (λ t. cond {A = ℕ} t 1 0) (eq-eqb dir dir refl) in
      omega (arith, r, most, own)

  uncovered_kept : (now : Handed) (dir : ℕ) → IsKeptBut old now [] → now.mounts.covered ≡ Some dir
      → IsKeptBut old (let_go (with_covered now None) dir) []
  uncovered_kept now dir k is =
      let left = let_go_counts (with_covered now None) dir in
      record {
        is_open = k.is_open;
        numbers = k.numbers;
        references = λ i.
            let r = k.references i in
            let less = once_less now.inodes.references dir i (covered_referred now dir k is) in
            let own : cond {A = ℕ} (is_the now.mounts.covered i) 1 0 ≡ cond {A = ℕ} (eqb dir i) 1 0 =
            ap (λ (o : Option ℕ). cond {A = ℕ} (is_the o i) 1 0) is in
            omega (arith, r, less, own);
        counts = left ∙ k.counts;
        mounts = mounts_stay (record now.mounts { covered = None }) now.inodes.store
            (let_go (with_covered now None) dir).inodes.store left (uncovered_fits now.mounts now.inodes.store k.mounts);
        pipes = k.pipes;
        others = k.others;
      }

  covered_kept : (now : Handed) (dir : ℕ) (taken : List ℕ) → IsKeptBut old now (dir ∷ taken) → now.mounts.covered ≡ None
      → has_second now.mounts ≡ true → IsKeptBut old (with_covered now (Some dir)) taken
  covered_kept now dir taken k free two = record {
    is_open = k.is_open;
    numbers = k.numbers;
    references = λ i.
        let r = k.references i in
        let more = taken_more dir taken i in
        let none : cond {A = ℕ} (is_the now.mounts.covered i) 1 0 ≡ 0 =
        ap (λ (o : Option ℕ). cond {A = ℕ} (is_the o i) 1 0) free in
        omega (arith, r, more, none);
    counts = k.counts;
    mounts = covered_fits now.mounts now.inodes.store dir two k.mounts;
    pipes = k.pipes;
    others = k.others;
  }

  covers_kept : (device : ℕ) (now : Handed) (dir : ℕ) (taken : List ℕ) → (device ≢ 0 → has_second now.mounts ≡ true)
      → IsKeptBut old now (dir ∷ taken) → IsKeptBut old (covers device now dir).state taken
  covers_kept device now dir taken two k = by (can_cover now device dir) refl where
    by : (t : Bool) → can_cover now device dir ≡ t → IsKeptBut old (covers_by dir now t).state taken
    by true is = let can = can_parts now device dir is in covered_kept now dir taken k can.free (two can.other)
    by false is = kept_lets_go old now dir taken sound k

  mounts_kept : (name : ℕ) (now : Handed) (special : ℕ) (taken : List ℕ) → IsKeptBut old now taken → CanFind now name
      → IsKeptBut old (mounts_found name now special).state taken
  mounts_kept name now special taken k can =
      let found = find_in now.inodes now.mounts (user_of now.u) now.u.dir (name_at now.image name) in
      kept_check old now taken (disk_named now special) (mounts_disk name now) k (λ device is.
      kept_named old now taken found (covers device)
      (λ e err. found_not old now name taken e k err)
      (λ dir ok. covers_kept device (with_inodes now found.inodes) dir taken (disk_there now special device is)
      (found_kept old now name taken dir k can ok)))

  pub mount_kept : (special name : ℕ) → CanFind old special
      → ((node : ℕ) → (find_in old.inodes old.mounts (user_of old.u) old.u.dir (name_at old.image special)).answer ≡ Ok node
      → CanFind (with_inodes old (find_in old.inodes old.mounts (user_of old.u) old.u.dir (name_at old.image special)).inodes)
      name)
      → IsKept old (mount_on old special name).state
  mount_kept special name can again =
      let found = find_in old.inodes old.mounts (user_of old.u) old.u.dir (name_at old.image special) in
      let after : Handed = with_inodes old found.inodes in
      kept_ends old (mount_on old special name).state
      (kept_named old old [] found (λ now node. until_end node (mounts_found name now node))
      (λ e err. found_not old old special [] e (kept_begins old sound) err)
      (λ node ok. kept_lets_go old (mounts_found name after node).state node [] sound
      (mounts_kept name after node (node ∷ []) (found_kept old old special [] node (kept_begins old sound) can ok)
      (again node ok))))

  uncovers_kept : (now : Handed) (o : Option ℕ) → now.mounts.covered ≡ o → IsKeptBut old now []
      → IsKeptBut old (uncovers now o).state []
  uncovers_kept now None is k = k
  uncovers_kept now (Some dir) is k = uncovered_kept now dir k is

  unmounts_kept : (device : ℕ) (now : Handed) → IsKeptBut old now [] → IsKeptBut old (unmounts now device).state []
  unmounts_kept device now k =
      kept_check old now [] (must EINVAL (not ((device == 1) && is_none now.mounts.covered))) _ k (λ mounted passes.
      kept_check old now [] (must EBUSY (not (device == 0) && not (is_held now))) _ k (λ unused passes.
      uncovers_kept now now.mounts.covered refl k))

  -- The special file is found, and the reference to it has gone.
  pub left_kept : (special node : ℕ) → CanFind old special
      → (find_in old.inodes old.mounts (user_of old.u) old.u.dir (name_at old.image special)).answer ≡ Ok node
      → IsKeptBut old (let_go (with_inodes old
      (find_in old.inodes old.mounts (user_of old.u) old.u.dir (name_at old.image special)).inodes) node) []
  left_kept special node can ok =
      kept_lets_go old (with_inodes old
      (find_in old.inodes old.mounts (user_of old.u) old.u.dir (name_at old.image special)).inodes) node [] sound
      (found_kept old old special [] node (kept_begins old sound) can ok)

  pub umount_kept : (special : ℕ) → CanFind old special → IsKept old (umount_off old special).state
  umount_kept special can =
      let found = find_in old.inodes old.mounts (user_of old.u) old.u.dir (name_at old.image special) in
      let after : Handed = with_inodes old found.inodes in
      kept_ends old (umount_off old special).state
      (kept_named old old [] found unmounts_named
      (λ e err. found_not old old special [] e (kept_begins old sound) err)
      (λ node ok.
      let k = left_kept special node can ok in
      kept_check old (let_go after node) [] (disk_named after node) (unmounts (let_go after node)) k
      (λ device is. unmounts_kept device (let_go after node) k)))

  -- A second name can be found too.
  pub can_find_again : (fs : FileSystem) (special node name : ℕ) → CanFind old special
      → (find_in old.inodes old.mounts (user_of old.u) old.u.dir (name_at old.image special)).answer ≡ Ok node
      → inodes_of fs ≡ (find_in old.inodes old.mounts (user_of old.u) old.u.dir (name_at old.image special)).inodes
      → IsFileSystem fs
      → CanFind (with_inodes old
      (find_in old.inodes old.mounts (user_of old.u) old.u.dir (name_at old.image special)).inodes) name
  can_find_again fs special node name can ok same form =
      let after : Handed = with_inodes old
      (find_in old.inodes old.mounts (user_of old.u) old.u.dir (name_at old.image special)).inodes in
      let k = found_kept old old special [] node (kept_begins old sound) can ok in
      let r = k.references old.u.dir in
      let some = directory_referred old sound in
      can_find_at fs after name (sym same) form k.mounts (omega (arith, r, some))

-- Where umount isn't refused nothing is covered.
abbrev Uncovers : Did → Type 0
Uncovers d = (a b : ℕ) → d.answer ≡ Ret a b → d.state.mounts.covered ≡ None

uncovers_check : {A : Type 0} (h : Handed) (test : Result A Errno) (next : A → Did) → ((a : A) → Uncovers (next a))
    → Uncovers (check h test next)
uncovers_check h (Ok a) next goes = goes a
uncovers_check h (Err e) next goes = λ a b is. absurd (cc is)

uncovers_then : (h : Handed) (dir : Option ℕ) → Uncovers (uncovers h dir)
uncovers_then h None = λ a b is. absurd (cc is)
uncovers_then h (Some dir) = λ a b is. refl

pub umount_uncovers : (h : Handed) (special : ℕ) → Uncovers (umount_off h special)
umount_uncovers h special =
    let found = find_in h.inodes h.mounts (user_of h.u) h.u.dir (name_at h.image special) in
    let after : Handed = with_inodes h found.inodes in
    uncovers_check after found.answer (unmounts_named after) (λ node.
    let rest : Handed = let_go after node in
    uncovers_check rest (disk_named after node) (unmounts rest) (λ device.
    uncovers_check rest (must EINVAL (not ((device == 1) && is_none rest.mounts.covered)))
    (λ mounted. check rest (must EBUSY (not (device == 0) && not (is_held rest))) (λ free. uncovers rest rest.mounts.covered)) (λ mounted.
    uncovers_check rest (must EBUSY (not (device == 0) && not (is_held rest))) (λ free. uncovers rest rest.mounts.covered)
    (λ free. uncovers_then rest rest.mounts.covered))))

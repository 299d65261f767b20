-- What is kept when a directory is entered, and when a file's permissions or its owner change; and the bits of a mode.
use Rattle.std.proofs.Common.{◌≡◌, ◌<◌, ◌≤◌, ℕ, Bool, true, false, ◌/◌, ◌%◌, Option, Some, List, [], ◌∷◌, slice_index, bit_and, bit_or, refl, sym, ap, ◌∙◌, subst, arith}
use Rattle.std.proofs.lemmas.Nat.{and_assoc, and_or_apart}
use Rattle.std.proofs.lemmas.Option.{same_Some}
use Rattle.std.specs.Int.Bits.{and_zero_r}
use Rattle.std.specs.Prelude.{not, ◌==◌}
use Rattle.v6_base.specs.declared.errno.Errno.TheVariants.{EPERM, ENOTDIR}
use Rattle.fs_codec.specs.Modes.{is_directory, file_type, is_large}
use Rattle.fs_codec.specs.declared.modes.TheConstants.{IALLOC, IFMT, ILARG}
use Rattle.fs_codec.specs.declared.node.DiskNode.{DiskNode}
use Rattle.fs_codec.specs.Store.{Node}
use Rattle.fs_nodes.specs.FileSystem.{ShowsNode}
use Rattle.fs_nodes.specs.Keys.{room_at}
use Rattle.fs_nodes.proofs.KeyLaws.{counts_set}
use Rattle.mount_tab.specs.Mounted.{MountTable}
use Rattle.fs_tree.specs.declared.user.User.{User}
use Rattle.fs_tree.proofs.NamingLemmas.{found_few}
use Rattle.fs_tree.specs.declared.user.Want.TheVariants.{Execute}
use Rattle.fs_tree.specs.Permission.{permission}
use Rattle.fs_tree.specs.Finding.{Inodes, find_in}
use Rattle.sys_files.specs.Handed.{Handed, node_at, user_of, with_changed}
use Rattle.sys_files.specs.Did.{Did, is_done, check, must, finds}
use Rattle.sys_files.specs.Making.{is_super_user}
use Rattle.sys_files.specs.Names.{with_directory, enters_directory, chdir_to, is_owner, changed_mode, changes_mode, chmod_to, chown_to}
use Rattle.sys_files.specs.Sound.{IsSound, IsKept}
use Rattle.sys_files.proofs.OwingLemmas.{IsKeptBut, CanFind, kept_begins, kept_ends, kept_goes_on, kept_takes, kept_lets_go, kept_check, kept_finds, is_referred, referred_low, taken_more}

-- The current directory is another one: the reference to it was the call's, and the one to the old directory is now.
directory_moved : (old now : Handed) (ino : ℕ) (taken : List ℕ) → IsKeptBut old now (ino ∷ taken)
    → IsKeptBut old (record now { u = record now.u { dir = ino } }) (now.u.dir ∷ taken)
directory_moved old now ino taken k = record {
  is_open = k.is_open;
  numbers = k.numbers;
  references = λ i. let r = k.references i in let more = taken_more ino taken i in
      let other = taken_more now.u.dir taken i in omega (arith, r, more, other);
  counts = k.counts;
  mounts = k.mounts;
  pipes = k.pipes;
  others = k.others;
}

entered : (old now : Handed) (ino : ℕ) (taken : List ℕ) → IsSound old → IsKeptBut old now (ino ∷ taken)
    → IsKeptBut old (with_directory now ino) (ino ∷ taken)
entered old now ino taken sound k =
    let low = referred_low now.inodes.references ino (is_referred old now ino taken sound k) in
    kept_lets_go old _ now.u.dir (ino ∷ taken) sound (directory_moved old _ ino (ino ∷ taken)
    (kept_takes old now ino (ino ∷ taken) low k))

pub chdir_kept : (h : Handed) (name : ℕ) → IsSound h → CanFind h name → IsKept h (chdir_to h name).state
chdir_kept h name sound can =
    kept_ends h (chdir_to h name).state (kept_finds h h name [] enters_directory sound (kept_begins h sound) can
    (λ now ino k.
    kept_check h now (ino ∷ []) (must ENOTDIR (is_directory (node_at now ino).mode))
    (λ is. check now (permission (node_at now ino) (user_of now.u) Execute) (λ may. is_done
    (with_directory now ino))) k (λ is _.
    kept_check h now (ino ∷ []) (permission (node_at now ino) (user_of now.u) Execute) (λ may. is_done
    (with_directory now ino)) k (λ may _.
    entered h now ino [] sound k))))

-- a node is another one
changed_kept : (old now : Handed) (ino : ℕ) (node : Node) (taken : List ℕ) → IsKeptBut old now taken
    → IsKeptBut old (with_changed now ino node) taken
changed_kept old now ino node taken k =
    kept_goes_on old now (with_changed now ino node) taken k refl refl refl refl refl refl
    (counts_set now.inodes.store ino (room_at now.inodes.store ino) node)

pub chmod_kept : (h : Handed) (name mode time : ℕ) → IsSound h → CanFind h name
    → IsKept h (chmod_to h name mode time).state
chmod_kept h name mode time sound can =
    kept_ends h (chmod_to h name mode time).state (kept_finds h h name [] (changes_mode mode time) sound
    (kept_begins h sound) can (λ now ino k.
    let changed : Node = record (node_at now ino) {
      mode =
          changed_mode (node_at now ino).mode mode (is_super_user now);
      modtime = time;
    } in
    kept_check h now (ino ∷ []) (must EPERM (is_owner now ino)) (λ may. is_done (with_changed now ino changed)) k
    (λ may _.
    changed_kept h now ino changed (ino ∷ []) k)))

pub chown_kept : (h : Handed) (name owner time : ℕ) → IsSound h → CanFind h name
    → IsKept h (chown_to h name owner time).state
chown_kept h name owner time sound can =
    let next : Handed → ℕ → Did = λ now ino. is_done (with_changed now ino (record (node_at now ino) {
      uid =
          owner % 256;
      gid = owner / 256;
      modtime = time;
    })) in
    kept_ends h (chown_to h name owner time).state (kept_check h h [] (must EPERM (is_super_user h))
    (λ may. finds h name next) (kept_begins h sound) (λ may _.
    kept_finds h h name [] next sound (kept_begins h sound) can (λ now ino k.
    changed_kept h now ino (record (node_at now ino) {
      uid = owner % 256;
      gid = owner / 256;
      modtime =
          time;
    }) (ino ∷ []) k)))

-- A bit that is none of those that chmod sets stays.
bits_stay : (old mode bits q : ℕ) → bit_and bits q ≡ 0 → bit_and IALLOC q ≡ 0 → bit_and 0o170000 q ≡ q
    → bit_and (bit_or (bit_or (bit_and old 0o170000) (bit_and mode bits)) IALLOC) q ≡ bit_and old q
bits_stay old mode bits q none used kept =
    let apart : bit_and (bit_and mode bits) q ≡ 0 = and_assoc q mode bits ∙ ap (bit_and mode) none ∙ and_zero_r mode in
    and_or_apart q (bit_or (bit_and old 0o170000) (bit_and mode bits)) IALLOC used
    ∙ and_or_apart q (bit_and old 0o170000) (bit_and mode bits) apart ∙ and_assoc q old 0o170000
    ∙ ap (bit_and old) kept

changed_stays : (t : Bool) (old mode q : ℕ) → bit_and 0o7777 q ≡ 0 → bit_and 0o6777 q ≡ 0 → bit_and IALLOC q ≡ 0
    → bit_and 0o170000 q ≡ q → bit_and (changed_mode old mode t) q ≡ bit_and old q
changed_stays true old mode q all most used kept = bits_stay old mode 0o7777 q all used kept
changed_stays false old mode q all most used kept = bits_stay old mode 0o6777 q most used kept

type_stays : (t : Bool) (old mode : ℕ) → file_type (changed_mode old mode t) ≡ file_type old
type_stays t old mode = changed_stays t old mode IFMT refl refl refl refl

large_stays : (t : Bool) (old mode : ℕ) → is_large (changed_mode old mode t) ≡ is_large old
large_stays t old mode = ap (λ x. not (x == 0)) (changed_stays t old mode ILARG refl refl refl refl)

shown_mode : (o : Option Node) (inode : DiskNode) (node : Node) → ShowsNode o inode → o ≡ Some node
    → inode.mode ≡ node.mode
shown_mode o inode node shows is =
    let same : shows.0 ≡ node = same_Some shows.0 node (sym shows.1 ∙ is) in
    shows.2.mode ∙ ap (λ (n : Node). n.mode) same

pub kind_stays : (o : Option Node) (inode : DiskNode) (t : Bool) (mode new : ℕ) (node : Node) → ShowsNode o inode
    → new ≡ changed_mode inode.mode mode t → o ≡ Some node
    → (file_type new ≡ file_type node.mode) × (is_large new ≡ is_large node.mode)
kind_stays o inode t mode new node shows is found =
    let e = shown_mode o inode node shows found in (
      ap file_type is ∙ type_stays t inode.mode mode ∙ ap file_type e,
      ap is_large is
          ∙ large_stays t inode.mode mode ∙ ap is_large e,
    )

-- What has been found can be referred to once more.
pub can_be_more : (n new : Inodes) (mounts : MountTable) (user : User) (dir : ℕ) (bytes : List ℕ) (ino : ℕ) → ((i : ℕ)
    → slice_index n.references i ≤ 65500)
    → new ≡ (find_in n mounts user dir bytes).inodes → slice_index new.references ino < 65535
can_be_more n new mounts user dir bytes ino few is =
    let P : Inodes → Type 0 = λ m. slice_index m.references ino ≤ 65501 in
    let most = subst P (sym is) (found_few n mounts user dir bytes 65500 few ino) in
    omega (arith, most)

-- The row of the opening itself, by its tests, and what it keeps.
use Rattle.std.proofs.Common.{◌≡◌, ℕ, true, false, ◌+◌, ◌<◌, ◌≤◌, ◌==◌, List, [], ◌∷◌, length, Option, Some, None, is_none, Result, Ok, Err, MatchResult, cond, eqb, slice_index, slice_set, refl, sym, ap, ◌∙◌, subst, inl, inr, arith}
use Rattle.std.proofs.lemmas.Bool.{ne_eqb, eq-eqb, eqb-true, cases_lt, false≢true}
use Rattle.std.proofs.lemmas.Option.{same_Some}
use Rattle.std.proofs.lemmas.List.{set-set, set-get_or, set_past, get_or-set_same}
use Rattle.std.proofs.lemmas.List.Quantifiers.{position-Some}
use Rattle.v6_base.specs.declared.errno.Errno.{Errno}
use Rattle.fs_tree.specs.Name.{name_at}
use Rattle.fs_tree.specs.declared.user.User.{User}
use Rattle.fs_tree.specs.Finding.{Inodes, with_reference, find_in}
use Rattle.v6_base.specs.declared.errno.Errno.TheVariants.{EBADF, EMFILE, ENFILE, ENXIO}
use Rattle.open_files.specs.declared.file.OpenFile.{OpenFile}
use Rattle.open_files.specs.declared.file.FileKind.{FileKind}
use Rattle.open_files.specs.declared.file.Closed.{Closed}
use Rattle.open_files.specs.declared.file.Closed.TheVariants.{Still, Last}
use Rattle.open_files.specs.Files.{file_at, entry_of, free_number, free_entry, opened, with_fewer, closed, left, Adds, Drops}
use Rattle.pipe_ends.specs.declared.ends.Pipe.{Pipe}
use Rattle.sys_files.specs.Handed.{Handed, node_at, user_of, with_inodes}
use Rattle.mount_tab.specs.Mounted.{MountTable}
use Rattle.sys_files.specs.Did.{must, need, until_end, fails, returns}
use Rattle.sys_files.specs.Pipes.{ArePipes}
use Rattle.sys_files.specs.Piping.{with_end}
use Rattle.sys_files.specs.Sound.{is_of, numbers_of, IsSound, IsKept}
use Rattle.sys_files.specs.Opening.{opens_to_read, opens_to_write, last_failure, open_tests, can_open, with_opened, opens, opens_named, open_file}
use Rattle.fs_tree.proofs.NamingLemmas.{found_more}
use Rattle.sys_files.proofs.CheckLemmas.{check_quiet, must_hold, must_fail, need_there}
use Rattle.sys_files.proofs.NumberLemmas.{given_times, numbers_change, open_given, set_here}
use Rattle.sys_files.proofs.PipeLemmas.{pipes_opened}
use Rattle.sys_files.proofs.StayingLemmas.{stays_then, stays_opened}
use Rattle.sys_files.proofs.OwedLemmas.{count_changed}
use Rattle.sys_files.proofs.OwingLemmas.{IsKeptBut, CanFind, kept_begins, kept_ends, kept_check, kept_finds, is_referred, referred_low, once_more}
use Rattle.sys_files.proofs.DescriptorLemmas.{need_is}

-- It is a device that cannot be opened.
pub opens_not : (h : Handed) (ino : ℕ) (kind : FileKind) (fd entry : ℕ) → free_number h.u.files ≡ Some fd → free_entry h.files ≡ Some entry → can_open h (node_at h ino) ≡ false → opens h ino kind ≡ fails h ENXIO
opens_not h ino kind fd entry number free can =
    need_there h EMFILE (free_number h.u.files) _ fd number ∙ need_there h ENFILE (free_entry h.files) _ entry free ∙ must_fail h ENXIO (can_open h (node_at h ino)) _ can

pub opens_is : (h : Handed) (ino : ℕ) (kind : FileKind) (fd entry : ℕ) → free_number h.u.files ≡ Some fd → free_entry h.files ≡ Some entry → can_open h (node_at h ino) ≡ true
    → opens h ino kind ≡ returns (with_opened h ino kind fd entry) fd
opens_is h ino kind fd entry number free can =
    need_there h EMFILE (free_number h.u.files) _ fd number ∙ need_there h ENFILE (free_entry h.files) _ entry free ∙ must_hold h ENXIO (can_open h (node_at h ino)) _ can

-- where a free number and a free entry stand
pub number_free : (mine : List ℕ) (fd : ℕ) → free_number mine ≡ Some fd → (fd < length mine) × (slice_index mine fd ≡ 0)
number_free mine fd is = let first = position-Some (λ number. number == 0) mine fd 0 is in (first.0, eqb-true (slice_index mine fd) 0 first.1)

none_is : (o : Option OpenFile) → is_none o ≡ true → o ≡ None
none_is None is = refl
none_is (Some file) is = absurd (false≢true is)

pub entry_free : (files : List (Option OpenFile)) (entry : ℕ) → free_entry files ≡ Some entry → (entry < length files) × (file_at files entry ≡ None)
entry_free files entry is = let first = position-Some is_none files entry None is in (first.0, none_is (file_at files entry) first.1)

-- The new number names the new entry.
added_number : (files new : List (Option OpenFile)) (mine new_mine : List ℕ) (file : OpenFile) (fd : ℕ) (a : Adds files mine file fd new new_mine) → slice_index new_mine fd ≡ a.1 + 1
added_number files new mine new_mine file fd a = ap (λ l. slice_index l fd) a.4 ∙ get_or-set_same mine fd (a.1 + 1) 0 (number_free mine fd a.0).0

-- What has been opened and is closed again leaves nothing.
undone_files : (files new last : List (Option OpenFile)) (entry at : ℕ) (file dropped : OpenFile) (told : Closed) → file.count ≡ 1 → at ≡ entry → entry < length files → file_at files entry ≡ None
    → new ≡ slice_set files entry (Some file) → file_at new at ≡ Some dropped → told ≡ closed dropped → last ≡ slice_set new at (left told) → last ≡ files
undone_files files new last entry at file dropped told once here low free added there is after =
    let now : file_at new at ≡ Some file = ap (λ l. file_at l at) added ∙ ap (file_at (slice_set files entry (Some file))) here ∙ set_here files entry (Some file) low in
    let same : dropped ≡ file = same_Some dropped file (sym there ∙ now) in
    let none : left told ≡ None = ap left (is ∙ ap closed same) ∙ ap (λ t. left (cond t (Last (with_fewer file)) (Still (with_fewer file)))) (eq-eqb file.count 1 once) in
    after ∙ ap (slice_set new at) none ∙ ap (λ i. slice_set new i None) here ∙ ap (λ l. slice_set l entry None) added
    ∙ set-set files entry (Some file) None ∙ ap (slice_set files entry) (sym free) ∙ set-get_or files entry None

undone_mine : (mine new last : List ℕ) (fd n : ℕ) → slice_index mine fd ≡ 0 → new ≡ slice_set mine fd n → last ≡ slice_set new fd 0 → last ≡ mine
undone_mine mine new last fd n free added after =
    after ∙ ap (λ l. slice_set l fd 0) added ∙ set-set mine fd n 0 ∙ ap (slice_set mine fd) (sym free) ∙ set-get_or mine fd 0

pub undone : (files new last : List (Option OpenFile)) (mine new_mine last_mine : List ℕ) (file : OpenFile) (fd : ℕ) (r : Result Closed Errno) → file.count ≡ 1
    → Adds files mine file fd new new_mine
    → MatchResult r (λ told. Drops new new_mine fd told last last_mine) (λ e. (e ≡ EBADF) × (slice_index new_mine fd ≡ 0) × (last ≡ new) × (last_mine ≡ new_mine))
    → (last ≡ files) × (last_mine ≡ mine)
undone files new last mine new_mine last_mine file fd (Ok told) once a d =
    let entry : ℕ = a.1 in
    let free = entry_free files entry a.2 in
    let here : entry_of new_mine fd ≡ entry = let n = added_number files new mine new_mine file fd a in omega (arith, n) in (
      undone_files files new last entry (entry_of new_mine fd) file d.1 told once here free.0 free.1 a.3 d.2 d.3 d.4,
      undone_mine mine new_mine last_mine fd (entry + 1) (number_free mine fd a.0).1 a.4 d.5,
    )
undone files new last mine new_mine last_mine file fd (Err e) once a d = let n = added_number files new mine new_mine file fd a in let none = d.1 in absurd (omega (arith, n, none))

-- A file that is opened is named once, and refers to its inode once. These are the pipes that there are then.
pub kept_end : (old now : Handed) (taken : List ℕ) (ino fd entry : ℕ) (kind : FileKind) (pipes : List Pipe)
    → ArePipes (slice_set now.files entry (Some (opened ino kind))) pipes → ino < length now.inodes.references
    → free_number now.u.files ≡ Some fd → free_entry now.files ≡ Some entry → IsKeptBut old now taken
    → IsKeptBut old (record (with_end now ino kind fd entry) { pipes = pipes }) taken
kept_end old now taken ino fd entry kind pipes are low number free k =
    let place = number_free now.u.files fd number in
    let room = entry_free now.files entry free in
    let own = given_times now.u.files fd entry entry place.0 place.1 in
    let one : cond {A = ℕ} (eqb entry entry) 1 0 ≡ 1 = ap (λ t. cond {A = ℕ} t 1 0) (eq-eqb entry entry refl) in
    let none : numbers_of (file_at now.files entry) ≡ 0 = ap numbers_of room.1 in
    record {
      is_open = open_given now.files now.u.files fd entry (Some (opened ino kind)) room.0 refl k.is_open;
      numbers = λ e.
          let before = k.numbers e in
          let change = numbers_change now.files now.u.files (slice_set now.u.files fd (entry + 1)) entry (Some (opened ino kind)) room.0 (omega (arith, none, own, one))
          (λ i other. let at = given_times now.u.files fd entry i place.0 place.1 in let zero : cond {A = ℕ} (eqb entry i) 1 0 ≡ 0 = ap (λ t. cond {A = ℕ} t 1 0) (ne_eqb entry i other) in omega (arith, at, zero)) e in
          omega (arith, before, change);
      references = λ i.
          let before = k.references i in
          let change = count_changed (is_of i) now.files entry (Some (opened ino kind)) None room.0 in
          let was : cond {A = ℕ} (is_of i (file_at now.files entry)) 1 0 ≡ 0 = ap (λ o. cond {A = ℕ} (is_of i o) 1 0) room.1 in
          let more = once_more now.inodes.references ino i low in
          omega (arith, before, change, was, more);
      counts = k.counts;
      mounts = k.mounts;
      pipes = are;
      others = stays_then old.files now.files (slice_set now.files entry (Some (opened ino kind))) old.u.files k.others
          (stays_opened now.files entry (Some (opened ino kind)) room.1);
    }

-- A file that is no pipe is opened.
kept_opened : (old now : Handed) (taken : List ℕ) (ino fd entry : ℕ) (kind : FileKind) → kind.pipe ≡ false
    → ino < length now.inodes.references
    → free_number now.u.files ≡ Some fd → free_entry now.files ≡ Some entry → IsKeptBut old now taken
    → IsKeptBut old (with_opened now ino kind fd entry) taken
kept_opened old now taken ino fd entry kind plain low number free k =
    let are = pipes_opened now.files now.pipes entry (opened ino kind) (entry_free now.files entry free).1 plain k.pipes in
    let e = kept_end old now taken ino fd entry kind now.pipes are low number free k in
    record {
      is_open = e.is_open;
      numbers = e.numbers;
      references = e.references;
      counts = e.counts;
      mounts = e.mounts;
      pipes = e.pipes;
      others = e.others;
    }

-- What the opening itself keeps, while the call refers to other inodes too.
pub opens_kept : (old now : Handed) (taken : List ℕ) (ino : ℕ) (kind : FileKind) → kind.pipe ≡ false → 0 < slice_index now.inodes.references ino
    → IsKeptBut old now taken → IsKeptBut old (opens now ino kind).state taken
opens_kept old now taken ino kind plain referred k =
    kept_check old now taken (need EMFILE (free_number now.u.files)) _ k (λ fd number.
    kept_check old now taken (need ENFILE (free_entry now.files)) _ k (λ entry free.
    kept_check old now taken (must ENXIO (can_open now (node_at now ino))) _ k (λ can tested.
    kept_opened old now taken ino fd entry kind plain (referred_low now.inodes.references ino referred)
    (need_is EMFILE (free_number now.u.files) fd number) (need_is ENFILE (free_entry now.files) entry free) k)))

pub opens_quiet : (h : Handed) (ino : ℕ) (kind : FileKind) → (opens h ino kind).items ≡ []
opens_quiet h ino kind =
    check_quiet h (need EMFILE (free_number h.u.files)) _ (λ fd. check_quiet h (need ENFILE (free_entry h.files)) _ (λ entry. check_quiet h (must ENXIO (can_open h (node_at h ino))) _ (λ can. refl)))

abbrev kind_of : ℕ → FileKind
kind_of mode = record { reading = opens_to_read mode; writing = opens_to_write mode; pipe = false }

named_kept : (old now : Handed) (taken : List ℕ) (ino mode : ℕ) → 0 < slice_index now.inodes.references ino → IsKeptBut old now taken → IsKeptBut old (opens_named now ino mode).state taken
named_kept old now taken ino mode referred k =
    kept_check old now taken (last_failure (open_tests now.marks ino (node_at now ino) (user_of now.u) mode)) (λ passed. opens now ino (kind_of mode)) k (λ passed tested.
    opens_kept old now taken ino (kind_of mode) refl referred k)

named_quiet : (h : Handed) (ino mode : ℕ) → (opens_named h ino mode).items ≡ []
named_quiet h ino mode =
    check_quiet h (last_failure (open_tests h.marks ino (node_at h ino) (user_of h.u) mode)) (λ passed. opens h ino (kind_of mode)) (λ passed. opens_quiet h ino (kind_of mode))

-- What open keeps.
pub open_kept : (h : Handed) (name mode : ℕ) → IsSound h → CanFind h name → IsKept h (open_file h name mode).state
open_kept h name mode sound can = kept_ends h _ (kept_finds h h name [] (λ h ino. opens_named h ino mode) sound (kept_begins h sound) can (λ now ino k.
    named_kept h now (ino ∷ []) ino mode (is_referred h now ino [] sound k) k))

-- It shows nothing.
pub open_quiet : (h : Handed) (name mode : ℕ) → (open_file h name mode).items ≡ []
open_quiet h name mode =
    let now : Handed = with_inodes h (find_in h.inodes h.mounts (user_of h.u) h.u.dir (name_at h.image name)).inodes in
    check_quiet now (find_in h.inodes h.mounts (user_of h.u) h.u.dir (name_at h.image name)).answer
    (λ ino. until_end ino (opens_named now ino mode)) (λ ino. named_quiet now ino mode)

-- A search leaves room for one reference more to what it finds.
pub few_found : (n new : Inodes) (mounts : MountTable) (user : User) (dir : ℕ) (bytes : List ℕ) (ino : ℕ)
    → slice_index n.references ino ≤ 65500
    → (find_in n mounts user dir bytes).answer ≡ Ok ino → new ≡ (find_in n mounts user dir bytes).inodes
    → slice_index new.references ino < 65535
few_found n new mounts user dir bytes ino few found is =
    let after : new ≡ with_reference n ino = is ∙ found_more n mounts user dir bytes ino found in
    let more : slice_index new.references ino ≤ slice_index n.references ino + 1 = subst (λ (m : Inodes). slice_index m.references ino ≤ slice_index n.references ino + 1) (sym after) (at_most n.references ino) in
    omega (arith, few, more)
  where
    at_most : (r : List ℕ) (i : ℕ) → slice_index (slice_set r i (slice_index r i + 1)) i ≤ slice_index r i + 1
    at_most r i = elim (cases_lt i (length r)) [
      | inl low ↦ let at = get_or-set_same r i (slice_index r i + 1) 0 low in omega (arith, at)
      | inr past ↦ let at : slice_index (slice_set r i (slice_index r i + 1)) i ≡ slice_index r i = ap (λ l. slice_index l i) (set_past r i (slice_index r i + 1) past) in omega (arith, at)
    ]

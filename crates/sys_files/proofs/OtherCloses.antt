-- Who keeps to a disk and ends leaves the other one alone: all its numbers let their files go, one after another.
use Rattle.std.proofs.Common.{◌≡◌, ◌≢◌, ◌∙◌, ◌<◌, ◌≤◌, ◌+◌, ◌-◌, ◌==◌, ◌++◌, ℕ, Bool, true, false, cond, List, [], Option, Some, None, IsSome, unwrap_or, slice_index, refl, sym, ap, subst, inl, inr, arith}
use Rattle.std.specs.List.{All}
use Rattle.std.proofs.lemmas.Bool.{cases_eq, eq-eqb, false≢true}
use Rattle.std.proofs.lemmas.List.{get_or-set_same, get_or-set_other}
use Rattle.std.proofs.lemmas.List.Elements.{All-nil}
use Rattle.v6_base.specs.declared.answer.Answer.TheVariants.{Ret}
use Rattle.u_area.specs.declared.area.UArea.{UArea}
use Rattle.fs_nodes.specs.Keys.{Stores, OnItsDisk, device_of}
use Rattle.open_files.specs.declared.file.OpenFile.{OpenFile}
use Rattle.open_files.specs.declared.file.Closed.{Closed}
use Rattle.open_files.specs.declared.file.Closed.TheVariants.{Still, Last}
use Rattle.open_files.specs.Files.{file_at, with_fewer, closed, left, entry_of, times, AreOpen}
use Rattle.sys_files.specs.Handed.{Handed, no_file, file_of}
use Rattle.sys_files.specs.Did.{Did}
use Rattle.sys_files.specs.Descriptors.{Closing, told_by, dropped, released, closes, close_all}
use Rattle.sys_files.specs.Frame.{KeepsTo}
use Rattle.sys_files.specs.Sound.{IsSound, numbers_of}
use Rattle.sys_files.proofs.NumberLemmas.{number_low, set_here, set_there, free_times}
use Rattle.sys_files.proofs.OwedLemmas.{used_low, counted}
use Rattle.sys_files.proofs.ReleasedLemmas.{released_still, released_last}
use Rattle.sys_files.proofs.Counting.{IsCounted, counted_same, counted_walks}
use Rattle.sys_files.proofs.OtherWalks.{IsApart, IsOn, other_walks}
use Rattle.sys_files.proofs.Walks.{walk_closes, closes_all}

-- What goes with a file changes no entry, and nothing of the process.
released_files : (h : Handed) (told : Closed) → (released h told).state.files ≡ h.files
released_files h (Still file) = ap (λ (l : Handed). l.files) (released_still h file)
released_files h (Last file) = ap (λ (l : Handed). l.files) (released_last h file)

released_area : (h : Handed) (told : Closed) → (released h told).state.u ≡ h.u
released_area h (Still file) = ap (λ (l : Handed). l.u) (released_still h file)
released_area h (Last file) = ap (λ (l : Handed). l.u) (released_last h file)

-- an entry that is in use
used_is : (o : Option OpenFile) → IsSome o → o ≡ Some (unwrap_or o no_file)
used_is (Some file) some = refl
used_is None some = absurd (false≢true some)

-- What is left of a file that is still open is of the same inode.
left_ino : (file : OpenFile) → IsSome (left (closed file)) → (unwrap_or (left (closed file)) no_file).ino ≡ file.ino
left_ino file = by (file.count == 1)
  where
    by : (last : Bool) → IsSome (left (cond last (Last (with_fewer file)) (Still (with_fewer file))))
        → (unwrap_or (left (cond last (Last (with_fewer file)) (Still (with_fewer file)))) no_file).ino ≡ file.ino
    by true some = absurd (false≢true some)
    by false some = refl

-- Each number names a file of an inode of which this is so.
abbrev pub AllOwn : (ℕ → Type 0) → List (Option OpenFile) → List ℕ → Type 0
AllOwn Here files mine = (fd : ℕ) → 0 < slice_index mine fd → Here (unwrap_or (file_at files (entry_of mine fd)) no_file).ino

module _ (Here : ℕ → Type 0) (h : Handed) (fd : ℕ) (some : 0 < slice_index h.u.files fd) (is_open : AreOpen h.files h.u.files)
    (own : AllOwn Here h.files h.u.files)
  where
    abbrev entry : ℕ
    entry = entry_of h.u.files fd

    abbrev files : List (Option OpenFile)
    files = (dropped h fd).files

    abbrev mine : List ℕ
    mine = (dropped h fd).u.files

    here : file_at files entry ≡ left (told_by h fd)
    here = set_here h.files entry (left (told_by h fd))
        (used_low h.files entry (file_of h entry) (used_is (file_at h.files entry) (is_open fd some)))

    -- another number than the one that goes
    module _ (n : ℕ) (above : 0 < slice_index mine n) (is_some : IsSome (file_at files (entry_of mine n))) (other : n ≢ fd) where
      number : slice_index mine n ≡ slice_index h.u.files n
      number = get_or-set_other h.u.files fd n 0 0 other

      was : 0 < slice_index h.u.files n
      was = omega (arith, above, number)

      same_entry : entry_of mine n ≡ entry_of h.u.files n
      same_entry = ap (λ k. k - 1) number

      own_still : entry_of h.u.files n ≡ entry → Here (unwrap_or (file_at files entry) no_file).ino
      own_still same =
          let used : IsSome (left (told_by h fd)) = subst (λ (o : Option OpenFile). IsSome o) here (subst (λ i. IsSome (file_at files i)) (same_entry ∙ same) is_some) in
          subst (λ (o : Option OpenFile). Here (unwrap_or o no_file).ino) (sym here)
          (subst Here (sym (left_ino (file_of h entry) used)) (own fd some))

      own_at : Here (unwrap_or (file_at files (entry_of h.u.files n)) no_file).ino
      own_at = elim (cases_eq (entry_of h.u.files n) entry) [
        | inl same ↦ subst (λ i. Here (unwrap_or (file_at files i) no_file).ino) (sym same) (own_still same)
        | inr apart ↦ subst (λ (o : Option OpenFile). Here (unwrap_or o no_file).ino)
            (sym (set_there h.files entry (entry_of h.u.files n) (left (told_by h fd)) apart)) (own n was)
      ]

      own_other : Here (unwrap_or (file_at files (entry_of mine n)) no_file).ino
      own_other = subst (λ i. Here (unwrap_or (file_at files i) no_file).ino) (sym same_entry) own_at

    dropped_own : AreOpen files mine → AllOwn Here files mine
    dropped_own still n above = elim (cases_eq n fd) [
      | inl same ↦ (
          let zero_ : slice_index mine n ≡ 0 = ap (slice_index mine) same ∙ get_or-set_same h.u.files fd 0 0 (number_low h.u.files fd some) in
          absurd (omega (arith, above, zero_)))
      | inr other ↦ own_other n above (still n above) other
    ]

    closed_own : AreOpen (closes h fd).state.files (closes h fd).state.u.files → AllOwn Here (closes h fd).state.files (closes h fd).state.u.files
    closed_own still =
        let now : Handed = (closes h fd).state in
        let table : now.files ≡ files = released_files (dropped h fd) (told_by h fd) in
        let area : now.u ≡ (dropped h fd).u = released_area (dropped h fd) (told_by h fd) in
        subst (λ (l : List (Option OpenFile)). AllOwn Here l now.u.files) (sym table)
        (subst (λ (u : UArea). AllOwn Here files u.files) (sym area)
        (dropped_own (subst (λ (u : UArea). AreOpen files u.files) area (subst (λ (l : List (Option OpenFile)). AreOpen l now.u.files) table still))))

-- So it is after each of them.
module _ {X : Type 0} (pick : Stores → X) (dev : ℕ)
    (law : (old new : Stores) (key : ℕ) → device_of old key ≡ dev → OnItsDisk old new key → pick new ≡ pick old) (h : Handed)
    (sound : IsSound h) (keeps : KeepsTo h dev [])
  where
    record Leaves (c : Closing) : Type 0 where
      apart : IsApart pick h.inodes.store c.state.inodes.store c.state.mounts.first
      kept : IsCounted h c.state
      own : AllOwn (IsOn dev h.inodes.store) c.state.files c.state.u.files
      dir : c.state.u.dir ≡ h.u.dir

    next : (c : Closing) (fd : ℕ) → 0 < slice_index c.state.u.files fd → Leaves c
        → Leaves (record { state = (closes c.state fd).state; items = c.items ++ (closes c.state fd).items })
    next c fd some k =
        let did : Did = record { answer = Ret 0 0; state = (closes c.state fd).state; items = (closes c.state fd).items; named = [] } in
        let leaves : All (IsOn dev h.inodes.store) [] → IsApart pick h.inodes.store did.state.inodes.store did.state.mounts.first =
        walk_closes (other_walks pick dev h.inodes.store law 0) c.state fd 0 0 some (k.own fd some) tt k.apart in
        let now : IsCounted h did.state = walk_closes (counted_walks h 0) c.state fd 0 0 some tt tt k.kept in
        record {
          apart = leaves (All-nil (IsOn dev h.inodes.store));
          kept = now;
          own = closed_own (IsOn dev h.inodes.store) c.state fd some k.kept.is_open k.own now.is_open;
          dir = ap (λ (u : UArea). u.dir) (released_area (dropped c.state fd) (told_by c.state fd)) ∙ k.dir;
        }

    few : (entry : ℕ) → times h.u.files entry ≤ numbers_of (file_at h.files entry)
    few entry = by (file_at h.files entry) refl
      where
        by : (o : Option OpenFile) → file_at h.files entry ≡ o → times h.u.files entry ≤ numbers_of o
        by None is = let none = free_times h.files h.u.files entry sound.is_open is in omega (arith, none)
        by (Some file) is = sound.counted entry file is

    first_own : AllOwn (IsOn dev h.inodes.store) h.files h.u.files
    first_own fd some = by (file_at h.files entry) refl
      where
        entry : ℕ
        entry = entry_of h.u.files fd

        named : 1 ≤ times h.u.files entry
        named = counted (λ number. number == entry + 1) h.u.files fd 0 (number_low h.u.files fd some)
            (eq-eqb (slice_index h.u.files fd) (entry + 1) (omega (arith, some)))

        by : (o : Option OpenFile) → file_at h.files entry ≡ o → IsOn dev h.inodes.store (unwrap_or o no_file).ino
        by None is = absurd (false≢true (subst (λ (o : Option OpenFile). IsSome o) is (sound.is_open fd some)))
        by (Some file) is = keeps.files entry file (omega (arith, named)) is

    all_leave : Leaves (close_all h)
    all_leave = closes_all Leaves next h (record {
      apart = record { same = refl; counts = refl; first = sound.mounts.first };
      kept = counted_same h.files h.u.files sound.is_open few;
      own = first_own;
      dir = refl;
    })

    pub closed_apart : IsApart pick h.inodes.store (close_all h).state.inodes.store (close_all h).state.mounts.first
    closed_apart = all_leave.apart

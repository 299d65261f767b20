-- A run begins with a tidy Unix.
use Rattle.std.proofs.Common.{◌≡◌, ◌∙◌, ◌≤◌, ◌+◌, ◌*◌, ◌==◌, ◌||◌, ℕ, zero, suc, not, nat_lt, Bool, true, false, List, [], ◌∷◌, length, map, filter, get_or, replicate, Option, Some, None, is_some, option_map, slice_index, refl, sym, ap, subst, arith}
use Rattle.std.proofs.lemmas.Bool.{eqb-false, ltb-false}
use Rattle.std.proofs.lemmas.List.{length-replicate}
use Rattle.std.proofs.lemmas.List.Elements.{All-from_get_or}
use Rattle.std.proofs.lemmas.List.Sums.{sum_by-le}
use Rattle.std.proofs.Math.ListN.{get_or-map}
use Rattle.fs_codec.specs.Modes.{is_directory}
use Rattle.fs_codec.specs.Disk.{Disk, disk_of, head, inode, inode_numbers}
use Rattle.fs_codec.specs.Free.{free_walk}
use Rattle.fs_codec.specs.Stands.{store_of}
use Rattle.fs_codec.specs.Faults.{when, first_some, least, is_bad_super, inode_fault, all_blocks, is_twice, super_fault, disk_fault, fault_within, image_fault}
use Rattle.fs_codec.specs.declared.super_block.SuperBlock.{SuperBlock}
use Rattle.fs_codec.specs.declared.layout.TheConstants.{DISK_BYTES, DISK_BLOCKS, SWAP_START, LIST_SIZE}
use Rattle.fs_codec.specs.declared.fault.ImageFault.{ImageFault}
use Rattle.fs_codec.specs.declared.fault.ImageFault.TheVariants.{TooLong, BadSuper, NoSwap, BlockTwice, NoRoot}
use Rattle.tty_line.specs.Terminal.{first_terminal}
use Rattle.u_area.specs.declared.layout.TheConstants.{NOTHING_PENDING}
use Rattle.fs_laws.proofs.WholeLemmas.{two, five}
use Rattle.fs_nodes.specs.Keys.{Stores, key_count}
use Rattle.open_files.specs.declared.file.OpenFile.{OpenFile}
use Rattle.open_files.specs.Files.{file_at}
use Rattle.sys_files.specs.Sound.{numbers_of}
use Rattle.sys_files.proofs.NumberLemmas.{free_times}
use Rattle.sys_procs.specs.Process.{Process}
use Rattle.abstract_unix.specs.Unix.{Unix}
use Rattle.abstract_unix.specs.Whole.{Told, told_of, told_by, told_in, names, all_names}
use Rattle.abstract_unix.specs.Runs.{first_unix, first_process, stores_of, is_second_bad}
use Rattle.abstract_unix.proofs.GoingOnLemmas.{none_goes_on}
use Rattle.abstract_unix.proofs.Tidy.{IsTidy}

-- An image without a fault has so few inodes that each number is a word.
not_when : (b : Bool) (fault : ImageFault) → when b fault ≡ None → b ≡ false
not_when true fault e = absurd (cc e)
not_when false fault e = refl

first_of : (a b c d : Bool) → (((a || b) || c) || d) ≡ false → b ≡ false
first_of true b c d e = absurd (cc e)
first_of false true c d e = absurd (cc e)
first_of false false c d e = refl

few_inodes : (s : SuperBlock) → super_fault SWAP_START s ≡ None → s.i_size + 2 ≤ 4000
few_inodes s none =
    let parts = two (when (is_bad_super s) BadSuper) (when (nat_lt SWAP_START s.f_size) (NoSwap s.f_size) ∷ []) none in
    let last = two (when (nat_lt SWAP_START s.f_size) (NoSwap s.f_size)) [] parts.1 in
    let good = not_when (is_bad_super s) BadSuper parts.0 in
    let short = ltb-false s.f_size (s.i_size + 2) (first_of (s.i_size == 0) (nat_lt s.f_size (s.i_size + 2))
    (nat_lt LIST_SIZE s.nfree) (nat_lt LIST_SIZE s.ninode) good) in
    let fits = ltb-false SWAP_START s.f_size (not_when (nat_lt SWAP_START s.f_size) (NoSwap s.f_size) last.0) in
    omega (arith, short, fits)

disk_few : (disk : Disk) → disk_fault SWAP_START disk ≡ None → (head disk).i_size + 2 ≤ 4000
unfolding disk_fault
disk_few disk none =
    few_inodes (head disk) (five (super_fault SWAP_START (head disk)) (free_walk disk).fault
    (first_some (map (inode_fault disk) (inode_numbers disk)))
    (option_map BlockTwice (least (filter (is_twice (all_blocks disk)) (all_blocks disk))))
    (when (not (is_directory (inode disk 1).mode)) NoRoot) none).0

pub few_nodes : (image : List ℕ) → image_fault image ≡ None → (store_of (disk_of image)).count ≤ 65535
unfolding image_fault fault_within store_of
few_nodes image none =
    let outer = two (when (nat_lt DISK_BYTES (length image)) TooLong) (disk_fault SWAP_START (disk_of image) ∷ []) none in
    let whole = two (disk_fault SWAP_START (disk_of image)) [] outer.1 in
    let few = disk_few (disk_of image) whole.0 in
    omega (arith, few)

-- and it has one at least
a_first : (a b c d : Bool) → (((a || b) || c) || d) ≡ false → a ≡ false
a_first true b c d e = absurd (cc e)
a_first false b c d e = refl

some_inodes : (s : SuperBlock) → super_fault SWAP_START s ≡ None → 1 ≤ s.i_size
some_inodes s none =
    let parts = two (when (is_bad_super s) BadSuper) (when (nat_lt SWAP_START s.f_size) (NoSwap s.f_size) ∷ []) none in
    let some = eqb-false s.i_size 0 (a_first (s.i_size == 0) (nat_lt s.f_size (s.i_size + 2))
    (nat_lt LIST_SIZE s.nfree) (nat_lt LIST_SIZE s.ninode) (not_when (is_bad_super s) BadSuper parts.0)) in
    omega (arith, some)

disk_some : (disk : Disk) → disk_fault SWAP_START disk ≡ None → 1 ≤ (head disk).i_size
unfolding disk_fault
disk_some disk none =
    some_inodes (head disk) (five (super_fault SWAP_START (head disk)) (free_walk disk).fault
    (first_some (map (inode_fault disk) (inode_numbers disk)))
    (option_map BlockTwice (least (filter (is_twice (all_blocks disk)) (all_blocks disk))))
    (when (not (is_directory (inode disk 1).mode)) NoRoot) none).0

pub some_nodes : (image : List ℕ) → image_fault image ≡ None → 1 ≤ (store_of (disk_of image)).count
unfolding image_fault fault_within store_of
some_nodes image none =
    let outer = two (when (nat_lt DISK_BYTES (length image)) TooLong) (disk_fault SWAP_START (disk_of image) ∷ []) none in
    let whole = two (disk_fault SWAP_START (disk_of image)) [] outer.1 in
    let some = disk_some (disk_of image) whole.0 in
    omega (arith, some)

-- So there are on two disks, where there are no more than there are keys.
last_of : (a b : Bool) → (a || b) ≡ false → b ≡ false
last_of true b e = absurd (cc e)
last_of false b e = e

pub few_keys : (image : List ℕ) (second : Option (List ℕ)) → image_fault image ≡ None → is_second_bad image second ≡ false
    → key_count (stores_of image second) ≤ 65535
few_keys image None none fine = let few = few_nodes image none in omega (arith, few)
few_keys image (Some second) none fine =
    ltb-false 65535 (key_count (stores_of image (Some second)))
    (last_of (is_some (fault_within DISK_BLOCKS second)) (nat_lt 65535 (key_count (stores_of image (Some second)))) fine)

get_same : {X : Type 0} (x : X) (n k : ℕ) → get_or (replicate n x) k x ≡ x
get_same x zero k = refl
get_same x (suc n) zero = refl
get_same x (suc n) (suc k) = get_same x n k

module _ (store : Stores) (core lines : ℕ) where
  abbrev u : Unix
  u = first_unix store core lines

  no_file : (entry : ℕ) → file_at u.files entry ≡ None
  no_file entry = get_same {X = Option OpenFile} None 100 entry

  -- its only process has no number
  no_number : (fd : ℕ) → slice_index first_process.u.files fd ≡ 0
  no_number fd = get_same 0 15 fd

  names_none : (entry i : ℕ) → names entry (get_or (told_in u.processes) i None) ≤ 0
  names_none entry zero = omega arith
  names_none entry (suc zero) =
      let none = free_times u.files first_process.u.files entry
      (λ fd above. absurd (let zero_is = no_number fd in omega (arith, above, zero_is))) (no_file entry) in
      omega (arith, none)
  names_none entry (suc (suc k)) =
      let at : get_or (told_in u.processes) (suc (suc k)) None ≡ None = get_or-map told_by (replicate 48 None) k None
      ∙ ap told_by (get_same {X = Option Process} None 48 k) in
      let none : names entry (get_or (told_in u.processes) (suc (suc k)) None) ≡ 0 = ap (names entry) at in
      omega (arith, none)

  nobody_names : (entry : ℕ) → all_names (told_in u.processes) entry ≤ length (told_in u.processes) * 0
  unfolding all_names
  nobody_names entry =
      sum_by-le (names entry) 0 (told_in u.processes) (All-from_get_or (λ o. names entry o ≤ 0) (told_in u.processes) None
      (λ i low. names_none entry i))

  told_first : (s : ℕ) (t : Told) → get_or (told_in u.processes) s None ≡ Some t → length t.files ≡ 15
  told_first zero t e = absurd (cc e)
  told_first (suc zero) t e = let same : told_of first_process ≡ t = cc e in ap (λ (x : Told). length x.files) (sym same)
  told_first (suc (suc k)) t e =
      let at : get_or (told_in u.processes) (suc (suc k)) None ≡ None = get_or-map told_by (replicate 48 None) k None
      ∙ ap told_by (get_same {X = Option Process} None 48 k) in
      absurd (let none : None ≡ Some t = sym at ∙ e in cc none)

  user_first : (s : ℕ) (p : Process) → get_or u.processes s None ≡ Some p → p.u.pending ≡ NOTHING_PENDING
  user_first zero p e = absurd (cc e)
  user_first (suc zero) p e = let same : first_process ≡ p = cc e in ap (λ (x : Process). x.u.pending) (sym same)
  user_first (suc (suc k)) p e = absurd (let none : None ≡ Some p = sym (get_same {X = Option Process} None 48 k) ∙ e in cc none)

  pub first_tidy : key_count store ≤ 65535 → lines ≤ 8 → IsTidy u
  first_tidy few some = record {
    numbers = λ entry.
        let none : numbers_of (file_at u.files entry) ≡ 0 = ap numbers_of (no_file entry) in
        let names = nobody_names entry in
        omega (arith, none, names);
    fifty = refl;
    fifteen = told_first;
    waits = none_goes_on u user_first;
    count = few;
    eight = subst (λ n. n ≤ 8) (sym (length-replicate lines first_terminal)) some;
    pipes = λ entry file at pipe. absurd (let none : None ≡ Some file = sym (no_file entry) ∙ at in cc none);
  }

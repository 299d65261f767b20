-- A kernel that is about to execute `/etc/init`: nothing but process 1 is there yet.
use Rattle.std.proofs.Common.{◌≡◌, ◌≢◌, ◌<◌, ◌≤◌, ◌+◌, ◌*◌, ◌==◌, if◌then◌else◌, cond, ℕ, zero, suc, Bool, false, List, [], ◌∷◌, length, replicate, get_or, min, count_by, sum_by, Option, Some, None, slice_index, refl, sym, ap, ◌∙◌, subst, arith, inl, inr, map}
use Rattle.std.specs.List.{list_any, range_with_len}
use Rattle.std.proofs.lemmas.Bool.{eq-eqb, ne_eqb, cases_lt, cases_eq}
use Rattle.std.proofs.lemmas.Bool.Decides.{eqb_tells}
use Rattle.std.proofs.lemmas.List.{get_or-replicate, get_or_past, length-replicate}
use Rattle.std.proofs.lemmas.List.Folds.{sum_by-replicate}
use Rattle.std.proofs.lemmas.List.Sums.{sum_by-cons}
use Rattle.open_files.specs.declared.file.OpenFile.{OpenFile}
use Rattle.open_files.specs.Files.{file_at}
use Rattle.lines_eight.specs.Lines.{first_lines}
use Rattle.pick_rules.specs.declared.table.Table.{Table}
use Rattle.pick_rules.specs.Table.{empty_row, row_at, first_table, IsTable}
use Rattle.pick_rules.specs.Search.{least}
use Rattle.pick_rules.specs.Swapper.{candidate}
use Rattle.u_area.specs.declared.layout.TheConstants.{NOTHING_PENDING}
use Rattle.fs_nodes.specs.FileSystem.{FileSystem}
use Rattle.fs_tree.specs.Marks.{no_marks}
use Rattle.fs_tree.specs.Mounting.{AreMounts}
use Rattle.fs_tree.specs.declared.marks.TheConstants.{INODE_NUMBERS}
use Rattle.sys_procs.specs.TextTable.{marks_of}
use Rattle.sys_files.specs.Pipes.{ArePipes}
use Rattle.sys_files.specs.Sound.{is_of, numbers_of}
use Rattle.proc_tab.specs.Processes.{first_processes, member_at}
use Rattle.image_keep.specs.Kept.{Nothing, Alive, Kept, Has, keeping, first_kept, with_keeping, area_in, clicks_of, text_of}
use Rattle.image_keep.proofs.Frames.{keeping_same, keeping_other}
use Rattle.sys_procs.specs.Process.{Process, process_in}
use Rattle.sys_procs.specs.World.{processes_in, clock_of, text_in, texts_in}
use Rattle.sys_procs.specs.Agree.{Agrees, Agree, board_of, text_place}
use Rattle.sys_procs.proofs.Slots.{are_processes}
use Rattle.image_keep.specs.Kept as kept
use Rattle.unix_core.proofs.PlaceLemmas.{HasNoText, no_text_of}
use Rattle.pick_rules.specs.declared.row.TableRow.{TableRow}
use Rattle.pick_rules.specs.Board.{first_board}
use Rattle.unix_core.specs.declared.world.World.{World}
use Rattle.unix_core.specs.declared.machine.Stage.TheVariants as stage
use Rattle.abstract_unix.specs.Unix.{no_texts}
use Rattle.abstract_unix.specs.References.{is_text_of}
use Rattle.abstract_unix.specs.Runs.{first_process, first_unix, system_with}
use Rattle.unix_core.specs.Slots.{timing_in, passed_in}
use Rattle.unix_core.proofs.CountLemmas.{counted_first}
use Rattle.abstract_unix.specs.Unix.{Timing}
use Rattle.unix_core.specs.Parts.{unix_of, system_at, first_held, IsGood, IsNew, IsKernel}
use Rattle.abstract_unix.specs.Whole.{Told, told_of, told_in, names, stands, all_names, all_stand, refer, Owes}
use Rattle.abstract_unix.proofs.GoingOnLemmas.{none_goes_on}

abbrev no_files : List (Option OpenFile)
no_files = replicate 100 None

abbrev first_slots : List (Option Process)
first_slots = None ∷ Some first_process ∷ replicate 48 None

count_none : {X : Type 0} (p : X → Bool) (n : ℕ) (x : X) → p x ≡ false → count_by p (replicate n x) ≡ 0
count_none p n x fails =
    let each : cond {A = ℕ} (p x) 1 0 ≡ 0 = ap (λ b. cond b 1 0) fails in
    sum_by-replicate (λ y. cond (p y) 1 0) n x ∙ ap (λ k. n * k) each ∙ omega arith

texts_refer : (ino : ℕ) → count_by (is_text_of ino) no_texts ≡ 0
unfolding no_texts
texts_refer ino = count_none (is_text_of ino) 40 None refl

-- one slot of fifty counts
abbrev first_told : List (Option Told)
first_told = None ∷ Some (told_of first_process) ∷ replicate 48 None

nobody_told : (n : ℕ) → told_in (replicate n None) ≡ replicate n None
nobody_told zero = refl
nobody_told (suc n) = ap (λ l. None ∷ l) (nobody_told n)

told_is : told_in first_slots ≡ first_told
told_is = ap (λ l. None ∷ Some (told_of first_process) ∷ l) (nobody_told 48)

slots_sum : (f : Option Told → ℕ) → f None ≡ 0 → sum_by f first_told ≡ f (Some (told_of first_process))
slots_sum f none =
    let rest : List (Option Told) = replicate 48 None in
    let others : sum_by f rest ≡ 48 * f None = sum_by-replicate f 48 None in
    let second : sum_by f (Some (told_of first_process) ∷ rest) ≡ f (Some (told_of first_process)) + sum_by f rest = sum_by-cons f (Some (told_of first_process)) rest in
    let first : sum_by f first_told ≡ f None + sum_by f (Some (told_of first_process) ∷ rest) = sum_by-cons f None (Some (told_of first_process) ∷ rest) in
    omega (arith, none, others, second, first)

both_ones : (ino : ℕ) → (if 1 == ino then 1 else 0) + (if ino == 1 then 1 else 0) ≡ (if ino == 1 then 2 else 0)
both_ones ino = elim (eqb_tells ino 1) [
  | inl same ↦
      ap (λ b. (if b then 1 else 0) + (if ino == 1 then 1 else 0)) (eq-eqb 1 ino (sym same.1)) ∙ ap (λ b. 1 + (if b then 1 else 0)) same.0 ∙ sym (ap (λ b. if b then 2 else 0) same.0)
  | inr other ↦
      ap (λ b. (if b then 1 else 0) + (if ino == 1 then 1 else 0)) (ne_eqb 1 ino (λ is. other.1 (sym is))) ∙ ap (λ b. 0 + (if b then 1 else 0)) other.0 ∙ sym (ap (λ b. if b then 2 else 0) other.0)
]

-- The root is referred to twice.
first_referred : (ino : ℕ) → refer None no_files no_texts first_told ino ≡ (if ino == 1 then 2 else 0)
unfolding all_stand
first_referred ino =
    let files : count_by (is_of ino) no_files ≡ 0 = count_none (is_of ino) 100 None refl in
    let slots : all_stand first_told ino ≡ (if 1 == ino then 1 else 0) = slots_sum (stands ino) refl in
    let texts = texts_refer ino in
    let both = both_ones ino in
    omega (arith, files, slots, texts, both)

-- no file is open
everywhere : {X : Type 0} (n : ℕ) (x : X) (i : ℕ) → get_or (replicate n x) i x ≡ x
everywhere n x i = elim (cases_lt i n) [
  | inl low ↦ get_or-replicate n i x x low
  | inr past ↦ get_or_past (replicate n x) i x (let long = length-replicate n x in omega (arith, long, past))
]

none_open : (entry : ℕ) → file_at no_files entry ≡ None
none_open entry = everywhere 100 None entry

none_named : (entry : ℕ) → all_names first_told entry ≡ 0
unfolding all_names
none_named entry = slots_sum (names entry) refl ∙ count_none (λ number. number == entry + 1) 15 0 (ne_eqb 0 (entry + 1) (λ is. omega (arith, is)))

no_pipes : ArePipes no_files []
no_pipes = record {
  there = λ entry file is pipe. (let none = none_open entry in absurd (cc (none, is)));
  ended = λ i low. absurd (omega (arith, low));
  once = λ i low. absurd (omega (arith, low));
}

-- nobody waits in a pipe
nobody_waits : (s : ℕ) (p : Process) → get_or first_slots s None ≡ Some p → p.u.pending ≡ NOTHING_PENDING
nobody_waits zero p is = absurd (cc is)
nobody_waits (suc zero) p is = let same : first_process ≡ p = cc is in ap (λ (x : Process). x.u.pending) (sym same)
nobody_waits (suc (suc s)) p is = absurd (let none : get_or first_slots (suc (suc s)) None ≡ None = everywhere 48 None s in cc (none, is))

-- process 1 has fifteen numbers
first_fifteen : (s : ℕ) (t : Told) → get_or first_told s None ≡ Some t → length t.files ≡ 15
first_fifteen zero t is = absurd (cc is)
first_fifteen (suc zero) t is =
    let same : told_of first_process ≡ t = cc is in
    let none : ℕ = 0 in ap (λ (x : Told). length x.files) (sym same) ∙ length-replicate 15 none
first_fifteen (suc (suc s)) t is = absurd (let none : get_or first_told (suc (suc s)) None ≡ None = everywhere 48 None s in cc (none, is))

-- Process 1 alone has an image.
abbrev first_images : ℕ → Kept
first_images core = with_keeping (first_kept core) 1 (Alive first_held)

pub first_image : (core : ℕ) → Has (first_images core) 1 first_held
first_image core = keeping_same (first_kept core) 1 (Alive first_held) (let long = length-replicate 50 Nothing in omega (arith, long))

first_alone : (core s : ℕ) → s ≢ 1 → keeping (first_images core) s ≡ Nothing
first_alone core s other = keeping_other (first_kept core) 1 s (Alive first_held) other ∙ everywhere 50 Nothing s

first_free : (time s : ℕ) → 2 ≤ s → row_at (first_table time) s ≡ empty_row
first_free time zero high = absurd (omega (arith, high))
first_free time (suc zero) high = absurd (omega (arith, high))
first_free time (suc (suc s)) high = everywhere 48 empty_row s

no_member : (s : ℕ) → 2 ≤ s → member_at first_processes.slots s ≡ None
no_member zero high = absurd (omega (arith, high))
no_member (suc zero) high = absurd (omega (arith, high))
no_member (suc (suc s)) high = everywhere 48 None s

free_agrees : Agrees None empty_row Nothing
free_agrees = record { stat = refl; image = refl; place = refl; size = λ held is. absurd (cc is); quiet = λ f. refl; textless = λ f. refl }

own_agrees : (time : ℕ) → Agrees (member_at first_processes.slots 1) (row_at (first_table time) 1) (Alive first_held)
own_agrees time = record {
  stat = refl;
  image = refl;
  place = refl;
  size = λ held is. ap (λ x. clicks_of (area_in x)) is;
  quiet = λ f. absurd (f refl);
  textless = λ f. absurd (f refl);
}

first_textless : (time s : ℕ) → 0 < s → (row_at (first_table time) s).text ≡ None
first_textless time s above = elim (cases_eq s 1) [
  | inl here ↦ ap (λ r. (row_at (first_table time) r).text) here
  | inr other ↦ ap (λ (row : TableRow). row.text) (first_free time s (omega (arith, above, other)))
]

first_agree : (core time : ℕ) → IsTable (first_table time) → Agree first_processes (first_table time) (first_images core)
first_agree core time table = record {
  table = table;
  rows = let long = length-replicate 48 empty_row in omega (arith, long);
  kernel = refl;
  images = first_alone core 0 (λ e. omega (arith, e));
  each = λ s above below. elim (cases_eq s 1) [
    | inl here ↦ subst (λ r. Agrees (member_at first_processes.slots r) (row_at (first_table time) r) (keeping (first_images core) r)) (sym here)
        (subst (λ x. Agrees (member_at first_processes.slots 1) (row_at (first_table time) 1) x) (sym (first_image core)) (own_agrees time))
    | inr other ↦
        let high : 2 ≤ s = omega (arith, above, other) in
        subst (λ m. Agrees m (row_at (first_table time) s) (keeping (first_images core) s)) (sym (no_member s high))
        (subst (λ row. Agrees None row (keeping (first_images core) s)) (sym (first_free time s high))
        (subst (λ x. Agrees None empty_row x) (sym (first_alone core s other)) free_agrees))
  ];
  text = λ s above below. first_textless time s above ∙ sym (no_text_of (first_images core) s (record { texts = refl; users = refl }));
  textless = no_text_of (first_images core) 0 (record { texts = refl; users = refl });
}

nobody : (s : ℕ) → 2 ≤ s → get_or first_slots s None ≡ None
nobody zero high = absurd (omega (arith, high))
nobody (suc zero) high = absurd (omega (arith, high))
nobody (suc (suc s)) high = everywhere 48 None s

first_processes_are : (core : ℕ) → processes_in first_processes.slots (first_images core) ≡ first_slots
first_processes_are core = are_processes first_processes.slots (first_images core) first_slots
    (let none : Option Process = None in let long = length-replicate 48 none in omega (arith, long)) each
  where
    own : (s : ℕ) → s ≢ 1 → get_or first_slots s None ≡ process_in (member_at first_processes.slots s) (keeping (first_images core) s) (text_of (first_images core) s)
    own zero other = refl
    own (suc s) other =
        let high : 2 ≤ suc s = omega (arith, other) in
        nobody (suc s) high ∙ ap (λ m. process_in m (keeping (first_images core) (suc s)) (text_of (first_images core) (suc s))) (sym (no_member (suc s) high))

    each : (s : ℕ) → s < 50 → get_or first_slots s None ≡ process_in (member_at first_processes.slots s) (keeping (first_images core) s) (text_of (first_images core) s)
    each s low = elim (cases_eq s 1) [
      | inl here ↦ subst (λ r. get_or first_slots r None ≡ process_in (member_at first_processes.slots r) (keeping (first_images core) r) (text_of (first_images core) r)) (sym here)
          ((λ i. process_in (member_at first_processes.slots 1) (sym (first_image core) i)
          (sym (no_text_of (first_images core) 1 (record { texts = refl; users = refl })) i)))
      | inr other ↦ own s other
    ]

-- no text is there
texts_none : (k : Kept) → HasNoText k → texts_in k ≡ no_texts
unfolding no_texts kept.no_texts
texts_none k none = ap (λ texts. map text_in texts) none.texts

none_shared : (ino n : ℕ) → list_any (is_text_of ino) (replicate n None) ≡ false
none_shared ino zero = refl
none_shared ino (suc n) = none_shared ino n

all_false : (f : ℕ → Bool) (a n : ℕ) → ((i : ℕ) → f i ≡ false) → map f (range_with_len a n) ≡ replicate n false
all_false f a zero none = refl
all_false f a (suc n) none = λ i. none a i ∷ all_false f (a + 1) n none i

marks_none : marks_of no_texts ≡ no_marks
unfolding marks_of no_marks no_texts
marks_none = all_false (λ ino. list_any (is_text_of ino) (replicate 40 None)) 0 INODE_NUMBERS (λ ino. none_shared ino 40)

no_places : map text_place kept.no_texts ≡ replicate 40 None
unfolding kept.no_texts
no_places = refl

-- process 1 is in core, and nobody else is there
nobody_out : (time : ℕ) → candidate (first_table time) ≡ None
unfolding least
nobody_out time = refl

-- The world that a kernel begins with.
module _ (fs : FileSystem) (core count : ℕ) (referred : (ino : ℕ) → slice_index fs.references ino ≡ (if ino == 1 then 2 else 0))
    (w : World) (nodes : w.files.tree.nodes ≡ fs) (marks : w.files.tree.marks ≡ no_marks)
    (mounts : AreMounts w.files.tree.mounts fs.store) (uncovered : w.files.tree.mounts.covered ≡ None) (table : w.files.table ≡ no_files) (pipes : w.files.pipes ≡ []) (lines : w.files.lines ≡ first_lines count)
    (rows : w.procs.rows ≡ first_processes) (slots : w.procs.table ≡ first_table fs.store.root.stamp) (good : IsTable w.procs.table)
    (images : w.procs.images.kept ≡ first_images core) (switches : w.procs.switches ≡ 0)
    (entries : w.tape.entry_room ≡ 64) (bytes : w.tape.byte_room ≡ 524288) (clicks : w.core ≡ core)
    (timing : timing_in w.slots ≡ record { passed = 0; disk = 0; pace = 0; since = 0 }) where
  processes_are : (unix_of w).processes ≡ first_slots
  processes_are = (λ i. processes_in (rows i).slots (images i)) ∙ first_processes_are core

  texts_are : (unix_of w).texts ≡ no_texts
  texts_are = ap texts_in images ∙ texts_none (first_images core) (record { texts = refl; users = refl })

  unix_is : unix_of w ≡ first_unix fs.store core count
  unix_is = λ i. record {
    store = (nodes i).store;
    covered = uncovered i;
    processes = processes_are i;
    files = table i;
    pipes = pipes i;
    texts = texts_are i;
    lines = lines i;
    clock = clock_of (slots i);
    switches = switches i;
    last_pid = (rows i).last_pid;
    limit = min (images i).core 2048;
    timing = timing i;
  }

  begun_agree : Agree w.procs.rows w.procs.table w.procs.images.kept
  begun_agree =
      let begun : Agree first_processes (first_table fs.store.root.stamp) (first_images core) = first_agree core fs.store.root.stamp (subst IsTable slots good) in
      subst (λ v. Agree v w.procs.table w.procs.images.kept) (sym rows)
      (subst (λ t. Agree first_processes t w.procs.images.kept) (sym slots) (subst (λ k. Agree first_processes (first_table fs.store.root.stamp) k) (sym images) begun))

  first_good : IsGood w
  first_good = record {
    agree = begun_agree;
    owed = subst (λ covered. Owes covered w.files.tree.nodes.references w.files.table w.files.pipes (unix_of w).texts (told_in (unix_of w).processes)) (sym uncovered)
        (subst (λ texts. Owes None w.files.tree.nodes.references w.files.table w.files.pipes texts (told_in (unix_of w).processes)) (sym texts_are)
        (subst (λ (files : List (Option OpenFile)). Owes None w.files.tree.nodes.references files w.files.pipes no_texts (told_in (unix_of w).processes)) (sym table)
        (subst (λ ps. Owes None w.files.tree.nodes.references no_files ps no_texts (told_in (unix_of w).processes)) (sym pipes)
        (subst (Owes None w.files.tree.nodes.references no_files [] no_texts) (sym (ap told_in processes_are ∙ told_is)) (record {
          numbers = λ entry. ap numbers_of (none_open entry) ∙ sym (none_named entry);
          referred = λ ino. ap (λ (f : FileSystem). slice_index f.references ino) nodes ∙ referred ino ∙ sym (first_referred ino);
          piped = no_pipes;
          fifteen = first_fifteen;
        })))));
    pending = none_goes_on (unix_of w) (λ s p is. nobody_waits s p (ap (λ (l : List (Option Process)). get_or l s None) (sym processes_are) ∙ is));
    marks = marks ∙ sym (ap marks_of texts_are ∙ marks_none);
    mounts = subst (λ (f : FileSystem). AreMounts w.files.tree.mounts f.store) (sym nodes) mounts;
    running = λ s runs above. absurd (let zero_ : Some 0 ≡ Some s = sym (ap (λ (t : Table). t.running) slots) ∙ runs in
        let same : 0 ≡ s = cc zero_ in omega (arith, same, above));
    rooms = (entries, bytes);
    core = clicks ∙ sym (ap (λ (k : Kept). k.core) images);
  }

  first_new : IsNew w
  first_new = record {
    good = first_good;
    runs = ap (λ (t : Table). t.running) slots;
    nobody_out = ap (λ t. candidate t) slots ∙ nobody_out fs.store.root.stamp;
  }

  first_kernel : w.slots.left ≤ w.slots.due → w.slots.set_at ≡ 0 → 3000000001 < w.slots.due → w.slots.due ≤ w.slots.wake → IsKernel stage.New w
  first_kernel within unset far low = record {
    new = λ e. first_new;
    stopped = λ e. absurd (cc e);
    finished = λ e. absurd (cc e);
    running = λ s e. absurd (cc e);
    resting = λ e. absurd (cc e);
    counted = λ goes. counted_first w.slots (unix_of w) within (ap (λ (t : Timing). t.disk) timing) (ap (λ (t : Timing). t.pace) timing) unset
        (let none : passed_in w.slots ≡ 0 = ap (λ (t : Timing). t.passed) timing in omega (arith, none, far)) low refl
        (λ s p is. nobody_waits s p (ap (λ (l : List (Option Process)). get_or l s None) (sym processes_are) ∙ is));
    within = within;
  }

  first_system : system_at w ≡ system_with fs.store core count
  first_system =
      (λ i. record { unix = unix_is i; board = board_of (slots i) (images i) })
      ∙ ap (λ texts. record { unix = first_unix fs.store core count; board = record (first_board core fs.store.root.stamp) { texts = texts } }) no_places

  pub first_made : w.slots.left ≤ w.slots.due → w.slots.set_at ≡ 0 → 3000000001 < w.slots.due → w.slots.due ≤ w.slots.wake → IsKernel stage.New w × (system_at w ≡ system_with fs.store core count)
  first_made within unset far low = (first_kernel within unset far low, first_system)

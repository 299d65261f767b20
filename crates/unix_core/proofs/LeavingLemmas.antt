-- What a call on files leaves, by what it has done to the parts that were lent to it.
use Rattle.std.proofs.Common.{◌≡◌, ◌∙◌, ◌+◌, ℕ, true, List, [], length, get_or, replicate, Some, None, refl, ap, subst, inl, inr, arith, sym}
use Rattle.std.specs.List.{All}
use Rattle.std.specs.Prelude.{unwrap_or}
use Rattle.std.proofs.lemmas.Bool.{eq-eqb, cases_lt}
use Rattle.std.proofs.lemmas.List.{get_or-set_same, get_or-replicate, get_or_past, length-replicate}
use Rattle.v6_base.specs.Image.{Image}
use Rattle.v6_base.specs.Tape.{Recording, blank, taken_on}
use Rattle.v6_base.specs.declared.trace.TheConstants.{LINES}
use Rattle.v6_base.specs.declared.answer.Answer.{Answer}
use Rattle.v6_base.specs.declared.answer.Answer.TheVariants.{Ret}
use Rattle.v6_base.specs.Trace.{Item, Took}
use Rattle.u_area.specs.declared.layout.TheConstants.{NOTHING_PENDING}
use Rattle.u_area.specs.declared.area.UArea.{UArea}
use Rattle.proc_tab.specs.declared.row.Row.{Row}
use Rattle.proc_tab.specs.Processes.{Processes, member_at, row_at, with_change, with_row}
use Rattle.image_keep.specs.Kept.{Kept, HasSizes, keeping, with_image, with_area, area_of, image_of, clicks_of}
use Rattle.fs_nodes.specs.FileSystem.{IsFileSystem}
use Rattle.lines_eight.specs.Lines.{HasRoom}
use Rattle.sys_files.specs.Handed.{Handed, handed}
use Rattle.sys_files.specs.Sound.{IsKept}
use Rattle.sys_files.specs.Does.{Does}
use Rattle.sys_files.proofs.Bounds.{Fits, HasAll, never_filled}
use Rattle.sys_files.proofs.Steady.{Steady, Confined, close_all_fits, close_all_steady}
use Rattle.sys_files.proofs.CoreLemmas.{core_steady}
use Rattle.sys_files.specs.Did.{Did}
use Rattle.sys_files.specs.Core.{core_file}
use Rattle.sys_files.specs.Descriptors.{close_all}
use Rattle.sys_files.specs.declared.files.Files.{Files}
use Rattle.sys_procs.proofs.Alive.{area_here}
use Rattle.image_keep.specs.Kept as kept
use Rattle.image_keep.specs.State.{ImagesState}
use Rattle.image_keep.proofs.Frames.{with_image_texts, with_area_texts}
use Rattle.unix_core.specs.declared.world.World.{World}
use Rattle.sys_procs.specs.Process.{Process, no_process}
use Rattle.abstract_unix.specs.Unix.{Unix, process_of}
use Rattle.abstract_unix.specs.Calls.{handed_of, with_handed}
use Rattle.unix_core.specs.Parts.{unix_of, IsReady, IsReadyToShow}
use Rattle.unix_core.proofs.WorldLemmas.{ready_alive, slot_is, told_here, handed_is, IsAfter, unix_after, ready_after, ready_to_show}
use Rattle.abstract_unix.specs.Whole.{told_of}
use Rattle.abstract_unix.proofs.PendingRows.{Pends, core_user, core_pends}
use Rattle.abstract_unix.proofs.Owing.{some_within}
use Rattle.abstract_unix.specs.Turn.{is_user}
use Rattle.unix_core.proofs.LoanLemmas.{area_now, area_other, area_core, area_back, area_alone, image_now, image_other, image_core, row_now, row_other, row_back}

-- the parts that the process in a slot is handed
abbrev pub given : World → ℕ → Handed
given w s = handed_of (unix_of w) (process_of (unix_of w) s)

-- the u area of the process
pub area_is : (w : World) (s : ℕ) (u : UArea) → IsReady w s → u ≡ area_of w.procs.images.kept s → u ≡ (process_of (unix_of w) s).u
area_is w s u ready is = is ∙ area_here w.procs s (ready_alive w s ready)

-- what is lent is what is given
pub lent_is : (w : World) (s : ℕ) (u : UArea) → IsReady w s → IsFileSystem w.files.tree.nodes → kept.IsKept w.procs.images.kept → u ≡ area_of w.procs.images.kept s
    → handed w.files u (row_at w.procs.rows s) (image_of w.procs.images.kept s) ≡ given w s
lent_is w s u ready form holds is =
    ap (λ (v : UArea). handed w.files v (row_at w.procs.rows s) (image_of w.procs.images.kept s)) is ∙ handed_is w s ready form holds

-- of no line is there a byte on a blank tape
no_bytes : (n l : ℕ) → get_or (replicate {A = List ℕ} n []) l [] ≡ []
no_bytes n l = elim (cases_lt l n) [
  | inl low ↦ get_or-replicate n l [] [] low
  | inr past ↦ get_or_past (replicate n []) l [] (let long = length-replicate {A = List ℕ} n [] in omega (arith, long, past))
]

-- A call on files has left the parts in this state.
pub record Leaves (w w' : World) (s : ℕ) (u : UArea) (row : Row) (image : Image) (state : Handed) : Type 0 where
  pub kept : IsKept (given w s) (handed w'.files u row image)
  pub is : handed w'.files u row image ≡ state
  pub steady : Steady (given w s) state
  pub pends : Pends state
  pub rooms : (w'.tape.entry_room ≡ w.tape.entry_room) × (w'.tape.byte_room ≡ w.tape.byte_room)
  pub fifteen : length u.files ≡ 15
  pub rows : w'.procs.rows ≡ with_change w.procs.rows s (with_row row)
  pub images : w'.procs.images.kept ≡ with_area (with_image w.procs.images.kept s image) s u
  pub table : w'.procs.table ≡ w.procs.table
  pub switches : w'.procs.switches ≡ w.procs.switches
  pub core : w'.core ≡ w.core
  pub slots : w'.slots ≡ w.slots

module _ (w w' : World) (s : ℕ) (u : UArea) (row : Row) (image : Image) (state : Handed)
    (ready : IsReady w s) (leaves : Leaves w w' s u row image state) where
  is_after : IsAfter w w' s u row image
  is_after =
      let v : Processes = w.procs.rows in
      let k : Kept = w.procs.images.kept in
      let same : u ≡ state.u = ap (λ (h : Handed). h.u) leaves.is in
      record {
        kept = leaves.kept;
        pends = subst Pends (sym leaves.is) leaves.pends;
        clicks = ap clicks_of same
            ∙ (ap (λ n. 16 + n + state.u.stack_size) leaves.steady.area.data_size
            ∙ ap (λ n. 16 + (given w s).u.data_size + n) leaves.steady.area.stack_size);
        fifteen = leaves.fifteen;
        member = λ m there. ap (λ (x : Processes). member_at x.slots s) leaves.rows ∙ row_now v s row m there;
        members = λ r other. ap (λ (x : Processes). member_at x.slots r) leaves.rows ∙ row_other v s row r other;
        memory = λ held has.
            ap (λ x. keeping x s) leaves.images ∙ area_now (with_image k s image) s u (record held { image = image }) (image_now k s image held has);
        others = λ r other.
            ap (λ x. keeping x r) leaves.images ∙ (area_other (with_image k s image) s u r other ∙ image_other k s image r other);
        table = leaves.table;
        texts = record {
          texts = ap (λ (x : Kept). x.texts) leaves.images ∙ ((with_area_texts (with_image k s image) s u).texts ∙ (with_image_texts k s image).texts);
          users = ap (λ (x : Kept). x.users) leaves.images ∙ ((with_area_texts (with_image k s image) s u).users ∙ (with_image_texts k s image).users);
        };
        core = ap (λ (x : Kept). x.core) leaves.images ∙ (area_core (with_image k s image) s u ∙ image_core k s image);
        last_pid = ap (λ (x : Processes). x.last_pid) leaves.rows;
        switches = leaves.switches;
        marks = ap (λ (h : Handed). h.marks) leaves.is ∙ leaves.steady.marks ∙ sym ready.good.marks;
        entry_room = leaves.rooms.0;
        byte_room = leaves.rooms.1;
        world_core = leaves.core;
        slots = leaves.slots;
      }

  pub leaves_unix : unix_of w' ≡ with_handed (unix_of w) s state
  leaves_unix = unix_after w w' s ready u row image is_after ∙ ap (with_handed (unix_of w) s) leaves.is

  pub leaves_ready : IsFileSystem w.files.tree.nodes → IsReady w' s
  leaves_ready form = ready_after w w' s ready u row image is_after form

  -- What it has shown stands on the tape.
  module _ (items : List Item) (fits : Fits s items) (took : Took (taken_on (blank w.tape.entry_room w.tape.byte_room)) items (taken_on w'.tape)) where
    has_all : HasAll w'.tape items
    has_all =
        let entries = ready.good.rooms.0 in
        let bytes = ready.good.rooms.1 in
        never_filled s (blank w.tape.entry_room w.tape.byte_room) w'.tape items fits
        (record { entries = refl; lines = λ l. no_bytes LINES l; entry_room = omega (arith, entries); byte_room = omega (arith, bytes) })
        leaves.rooms.0 leaves.rooms.1 took

    pub leaves_shown : IsFileSystem w.files.tree.nodes → IsReadyToShow w w' s items
    leaves_shown form = ready_to_show w w' s ready u row image is_after form items fits has_all

-- What a call on files of the process in a slot is lent: its u area, its row and its memory.
pub record IsLent (w : World) (s : ℕ) (u : UArea) (r : Row) (m : Image) : Type 0 where
  pub ready : IsReady w s
  pub form : IsFileSystem w.files.tree.nodes
  pub sizes : HasSizes u (image_of w.procs.images.kept s)
  pub holds : kept.IsKept w.procs.images.kept
  pub area : u ≡ area_of w.procs.images.kept s
  pub row : r ≡ row_at w.procs.rows s
  pub image : m ≡ image_of w.procs.images.kept s

pub lends : (w : World) (s : ℕ) {u : UArea} {r : Row} (before : Kept) (was : ℕ) → IsReady w s → IsFileSystem w.files.tree.nodes
    → HasSizes u (image_of w.procs.images.kept s) → kept.IsKept w.procs.images.kept → u ≡ area_of w.procs.images.kept s → r ≡ row_at w.procs.rows s → before ≡ w.procs.images.kept → was ≡ s
    → IsLent w s u r (image_of before was)
lends w s {u} {r} before was ready form sizes holds area row images slot = record {
  ready = ready;
  form = form;
  sizes = sizes;
  holds = holds;
  area = area;
  row = row;
  image = ap (λ (k : Kept). image_of k was) images ∙ ap (image_of w.procs.images.kept) slot;
}

pub lent_parts : (w : World) (s : ℕ) {u : UArea} {r : Row} {m : Image} → IsLent w s u r m → handed w.files u r m ≡ given w s
lent_parts w s {u} {r} {m} lent =
    ap (λ (x : Row). handed w.files u x m) lent.row
    ∙ (ap (λ (x : Image). handed w.files u (row_at w.procs.rows s) x) lent.image ∙ lent_is w s u lent.ready lent.form lent.holds lent.area)

-- A call on files of a process has done what its row says: the Unix is the row's, and what it shows stands on the tape.
pub record HasDone (w w' : World) (s : ℕ) (a : Answer) (row : Did) : Type 0 where
  pub answer : a ≡ row.answer
  pub unix : unix_of w' ≡ with_handed (unix_of w) s row.state
  pub shown : IsReadyToShow w w' s row.items

-- It has worked on what it was lent, and has left this u area, this row and this memory.
module _ (w : World) (s : ℕ) {u : UArea} {r : Row} {m : Image} (lent : IsLent w s u r m) (does : Handed → Did)
    (confined : Confined s (given w s) (does (given w s))) (pends : Pends (does (given w s)).state) (cleared tape : Recording) (f : Files) (v : UArea) (row : Row) (image : Image) {a : Answer}
    (done : Does (handed w.files u r m) (handed f v row image) a (taken_on cleared) (taken_on tape) (does (handed w.files u r m))) where
  pub given_done : Does (given w s) (handed f v row image) a (taken_on cleared) (taken_on tape) (does (given w s))
  given_done =
      let P : Handed → Type 0 = λ h. Does h (handed f v row image) a (taken_on cleared) (taken_on tape) (does h) in
      subst P (lent_parts w s lent) done

  module _ (rows : Processes) (x : ImagesState) (clear : cleared ≡ blank w.tape.entry_room w.tape.byte_room)
      (rooms : (tape.entry_room ≡ cleared.entry_room) × (tape.byte_room ≡ cleared.byte_room)) (fifteen : length v.files ≡ 15)
      (rows_are : rows ≡ with_change w.procs.rows s (with_row row)) (images : x.kept ≡ with_area (with_image w.procs.images.kept s image) s v) where
    abbrev after : World
    after = record w { files = f; procs = record w.procs { rows = rows; images = x }; tape = tape }

    call_leaves : Leaves w after s v row image (does (given w s)).state
    call_leaves = record {
      kept = given_done.kept;
      is = given_done.state;
      steady = confined.steady;
      pends = pends;
      rooms = (rooms.0 ∙ ap (λ (t : Recording). t.entry_room) clear, rooms.1 ∙ ap (λ (t : Recording). t.byte_room) clear);
      fifteen = fifteen;
      rows = rows_are;
      images = images;
      table = refl;
      switches = refl;
      core = refl;
      slots = refl;
    }

    pub call_done : HasDone w after s a (does (given w s))
    call_done =
        let P : Recording → Type 0 = λ t. Took (taken_on t) (does (given w s)).items (taken_on tape) in
        record {
          answer = given_done.answer;
          unix = leaves_unix w after s v row image _ lent.ready call_leaves;
          shown = leaves_shown w after s v row image _ lent.ready call_leaves _ confined.fits (subst P clear given_done.items) lent.form;
        }

-- Files that are closed, as what a call does. It answers nothing.
abbrev pub closing : Handed → Did
closing h = record { answer = Ret 0 0; state = (close_all h).state; items = (close_all h).items; named = [] }

pub closing_confined : (slot : ℕ) (h : Handed) → All HasRoom h.lines → Confined slot h (closing h)
closing_confined slot h room = record { fits = close_all_fits slot h room; steady = close_all_steady h room }

-- The file `core` of the process has been written, by which nothing of the process has changed.
module _ (w : World) (s : ℕ) {u : UArea} {m : Image} (lent : IsLent w s u (row_at w.procs.rows s) m) (none : (given w s).u.pending ≡ NOTHING_PENDING)
    (room : All HasRoom w.files.lines) (now : ℕ)
    (f : Files) (x : ImagesState) (same : x.kept ≡ w.procs.images.kept)
    (state : handed f u (row_at w.procs.rows s) m ≡ (core_file (handed w.files u (row_at w.procs.rows s) m) now).state)
    (keeps : IsKept (handed w.files u (row_at w.procs.rows s) m) (handed f u (row_at w.procs.rows s) m)) where
  abbrev dumped : World
  dumped = record w { files = f; procs = record w.procs { images = x } }

  its_numbers : length u.files ≡ 15
  its_numbers =
      ap (λ (v : UArea). length v.files) (area_is w s u lent.ready lent.area)
      ∙ lent.ready.good.owed.fifteen s (told_of (process_of (unix_of w) s)) (told_here w s lent.ready)

  same_images : x.kept ≡ with_area (with_image w.procs.images.kept s m) s u
  same_images =
      let has = lent.ready.good.running s lent.ready.runs lent.ready.user in
      same ∙ sym (area_back w.procs.images.kept s has) ∙ ap (with_area w.procs.images.kept s) (sym lent.area) ∙ area_alone w.procs.images.kept s u
      ∙ ap (λ (i : Image). with_area (with_image w.procs.images.kept s i) s u) (sym lent.image)

  dump_leaves : Leaves w dumped s u (row_at w.procs.rows s) m (core_file (given w s) now).state
  dump_leaves =
      let parts : handed w.files u (row_at w.procs.rows s) m ≡ given w s = lent_parts w s lent in
      record {
        kept = subst (λ h. IsKept h (handed f u (row_at w.procs.rows s) m)) parts keeps;
        is = state ∙ ap (λ h. (core_file h now).state) parts;
        steady = core_steady (given w s) now room;
        pends = core_pends (given w s) now none;
        rooms = (refl, refl);
        fifteen = its_numbers;
        rows = sym (row_back w.procs.rows s);
        images = same_images;
        table = refl;
        switches = refl;
        core = refl;
        slots = refl;
      }

  pub dumped_unix : unix_of dumped ≡ with_handed (unix_of w) s (core_file (given w s) now).state
  dumped_unix = leaves_unix w dumped s u (row_at w.procs.rows s) m _ lent.ready dump_leaves

  pub dumped_ready : IsReady dumped s
  dumped_ready = leaves_ready w dumped s u (row_at w.procs.rows s) m _ lent.ready dump_leaves lent.form

  -- and it is in user mode still
  pub dumped_user : is_user (process_of (unix_of dumped) s) ≡ true
  dumped_user =
      let h : Handed = (core_file (given w s) now).state in
      let p : Process = process_of (unix_of w) s in
      let q : Process = record p { u = h.u; row = h.row; «data» = h.image.data; stack = h.image.stack } in
      ap (λ (x : Unix). is_user (process_of x s)) dumped_unix
      ∙ ap (λ o. is_user (unwrap_or o no_process))
      (get_or-set_same (unix_of w).processes s (Some q) None (some_within (unix_of w).processes s p (slot_is w s lent.ready)))
      ∙ eq-eqb h.u.pending NOTHING_PENDING (core_user (given w s) now none)

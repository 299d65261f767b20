-- A process that runs: what a world says of it, what its calls on files are handed, and that they leave it running.
use Rattle.std.proofs.Common.{◌≡◌, ◌≢◌, ◌+◌, ℕ, false, List, length, get_or, set, map, min, Option, Some, None, refl, sym, ap, ◌∙◌, subst}
use Rattle.v6_base.specs.Image.{Image}
use Rattle.v6_base.specs.Trace.{Item, entries_of}
use Rattle.u_area.specs.declared.area.UArea.{UArea}
use Rattle.pick_rules.specs.declared.table.Table.{Table}
use Rattle.proc_tab.specs.declared.row.Row.{Row}
use Rattle.proc_tab.specs.declared.member.Member.{Member}
use Rattle.proc_tab.specs.Processes as proc
use Rattle.proc_tab.specs.Processes.{member_at}
use Rattle.image_keep.specs.Kept.{Held, Has, keeping, clicks_of, area_of, image_of}
use Rattle.image_keep.specs.Kept as kept
use Rattle.image_keep.proofs.Frames.{SameTexts}
use Rattle.fs_nodes.specs.FileSystem.{IsFileSystem}
use Rattle.fs_nodes.specs.Keys.{Stores, key_count, second_count}
use Rattle.fs_tree.specs.Mounting.{AreMounts}
use Rattle.mount_tab.specs.Mounted.{MountTable}
use Rattle.sys_files.specs.Handed.{Handed, handed}
use Rattle.sys_files.specs.Sound.{IsSound, IsKept}
use Rattle.sys_files.proofs.Bounds.{Fits, HasAll}
use Rattle.sys_procs.specs.Process as one
use Rattle.sys_procs.specs.Process.{Process}
use Rattle.sys_procs.specs.World.{text_in}
use Rattle.sys_procs.specs.Agree.{Agree, board_of}
use Rattle.sys_procs.specs.Handed.{IsAlive}
use Rattle.sys_procs.proofs.Slots.{own_row}
use Rattle.sys_procs.proofs.Alive.{is_here, area_here}
use Rattle.sys_procs.proofs.MemoryLemmas.{image_here}
use Rattle.unix_core.specs.declared.world.World.{World}
use Rattle.abstract_unix.specs.Unix.{Text, process_of}
use Rattle.abstract_unix.specs.References.{referrers, references_of}
use Rattle.sys_procs.specs.TextTable.{marks_of}
use Rattle.abstract_unix.specs.Calls.{handed_of, with_handed}
use Rattle.unix_core.specs.Passing.{HaveSlots, all_woken}
use Rattle.unix_core.specs.Slots.{timing_in}
use Rattle.unix_core.specs.Parts.{unix_of, IsGood, IsReady, IsReadyToShow}
use Rattle.unix_core.proofs.PutLemmas.{good_alive, alive_slot, slot_put, agree_put}
use Rattle.unix_core.proofs.GoodLemmas.{told_of_slot, fifty_told, forty, runs_low, runs_same}
use Rattle.std.proofs.lemmas.List.FromFn.{fill_by_all}
use Rattle.abstract_unix.specs.Whole.{Told, told_of, told_in, Owes, Owed, CanGoOn}
use Rattle.abstract_unix.proofs.Owing.{told_at, refer_told, sound_by, file_owes}
use Rattle.abstract_unix.proofs.PendingRows.{Pends}
use Rattle.abstract_unix.proofs.GoingOnLemmas.{file_goes_on}
use Rattle.unix_core.proofs.FileLemmas.{told_in_order, shown_woken, shown_slots}

-- who runs lives
pub ready_alive : (w : World) (s : ℕ) → IsReady w s → IsAlive w.procs s
ready_alive w s ready = good_alive w s ready.good ready.runs ready.user

pub slot_is : (w : World) (s : ℕ) → IsReady w s → get_or (unix_of w).processes s None ≡ Some (process_of (unix_of w) s)
slot_is w s ready = alive_slot w s (ready_alive w s ready)

pub is_living : (w : World) (s : ℕ) → IsReady w s → (process_of (unix_of w) s).is_zombie ≡ false
is_living w s ready =
    let here = is_here w.procs s (ready_alive w s ready) in ap (λ (p : Process). p.is_zombie) here.process_is ∙ here.is_living

-- The parts that a call of the process is handed are sound.
pub told_here : (w : World) (s : ℕ) → IsReady w s → told_of_slot w s ≡ Some (told_of (process_of (unix_of w) s))
told_here w s ready = told_at (unix_of w).processes s (process_of (unix_of w) s) (slot_is w s ready) (is_living w s ready)

pub sound_parts : (w : World) (s : ℕ) (h : Handed) → IsReady w s → length w.files.table ≡ 100 → kept.IsKept w.procs.images.kept
    → h.files ≡ w.files.table → h.pipes ≡ w.files.pipes → h.u ≡ (process_of (unix_of w) s).u → h.inodes.references ≡ w.files.tree.nodes.references → h.mounts ≡ w.files.tree.mounts → h.inodes.store ≡ w.files.tree.nodes.store → IsSound h
sound_parts w s h ready long holds files pipes area references table store =
    let ts : List (Option Told) = told_in (unix_of w).processes in
    let texts : List (Option Text) = (unix_of w).texts in
    let refs : List ℕ = w.files.tree.nodes.references in
    let owed : Owes w.files.tree.mounts.covered refs h.files h.pipes texts ts =
    subst (λ table. Owes w.files.tree.mounts.covered refs table h.pipes texts ts) (sym files) (subst (λ ends. Owes w.files.tree.mounts.covered refs w.files.table ends texts ts) (sym pipes) ready.good.owed) in
    sound_by h texts ts s
    (subst (λ (m : MountTable). Owes m.covered h.inodes.references h.files h.pipes texts ts) (sym table)
    (subst (λ l. Owes w.files.tree.mounts.covered l h.files h.pipes texts ts) (sym references) owed))
    (subst (λ (m : MountTable). AreMounts m h.inodes.store) (sym table) (subst (AreMounts w.files.tree.mounts) (sym store) ready.good.mounts))
    (told_here w s ready ∙ ap (λ (u : UArea). Some (record { files = u.files; dir = u.dir })) (sym area)) (ap length files ∙ long) (fifty_told w) (forty w.procs.images.kept holds)

-- the references of the file system are those that the Unix says
pub references_in : (w : World) (s : ℕ) → IsReady w s → IsFileSystem w.files.tree.nodes → w.files.tree.nodes.references ≡ references_of (unix_of w)
unfolding references_of
references_in w s ready form =
    fill_by_all (referrers (unix_of w)) w.files.tree.nodes.references (key_count w.files.tree.nodes.store + 1) 0 form.references
    (λ k low. ready.good.owed.referred k ∙ refer_told (unix_of w) k)

-- The mount table is what the Unix says.
pub mounts_is : (m : MountTable) (s : Stores) → AreMounts m s
    → m ≡ record { first = s.root.count; second = second_count s.second; covered = m.covered }
mounts_is m s are = λ i. record { first = are.first i; second = are.second i; covered = m.covered }

-- What the kernel hands to a call of the process is what the Unix says.
pub handed_is : (w : World) (s : ℕ) → IsReady w s → IsFileSystem w.files.tree.nodes → kept.IsKept w.procs.images.kept
    → handed w.files (area_of w.procs.images.kept s) (proc.row_at w.procs.rows s) (image_of w.procs.images.kept s) ≡ handed_of (unix_of w) (process_of (unix_of w) s)
handed_is w s ready form holds =
    let alive = ready_alive w s ready in
    let p : Process = process_of (unix_of w) s in
    let references = references_in w s ready form in
    let area : area_of w.procs.images.kept s ≡ p.u = area_here w.procs s alive in
    let row : proc.row_at w.procs.rows s ≡ p.row = sym (own_row w.procs.rows.slots w.procs.images.kept s alive.below) in
    let image : image_of w.procs.images.kept s ≡ one.image_of (unix_of w).texts p = sym (image_here w.procs s alive holds) in
    λ i. record {
      inodes = record { store = w.files.tree.nodes.store; references = references i };
      mounts = mounts_is w.files.tree.mounts w.files.tree.nodes.store ready.good.mounts i;
      marks = ready.good.marks i;
      files = w.files.table;
      pipes = w.files.pipes;
      lines = w.files.lines;
      u = area i;
      row = row i;
      image = image i;
    }

-- A call on files of the process has left this u area, this row and this memory, and the rest of the world as far as it is
-- no file's.
pub record IsAfter (w w' : World) (s : ℕ) (u : UArea) (row : Row) (image : Image) : Type 0 where
  pub kept : IsKept (handed_of (unix_of w) (process_of (unix_of w) s)) (handed w'.files u row image)
  pub pends : Pends (handed w'.files u row image)
  pub clicks : clicks_of u ≡ clicks_of (process_of (unix_of w) s).u
  pub fifteen : length u.files ≡ 15
  pub member : (m : Member) → member_at w.procs.rows.slots s ≡ Some m → member_at w'.procs.rows.slots s ≡ Some (record m { row = row })
  pub members : (r : ℕ) → r ≢ s → member_at w'.procs.rows.slots r ≡ member_at w.procs.rows.slots r
  pub memory : (held : Held) → Has w.procs.images.kept s held → Has w'.procs.images.kept s (record held { u = u; image = image })
  pub others : (r : ℕ) → r ≢ s → keeping w'.procs.images.kept r ≡ keeping w.procs.images.kept r
  pub table : w'.procs.table ≡ w.procs.table
  pub texts : SameTexts w.procs.images.kept w'.procs.images.kept
  pub core : w'.procs.images.kept.core ≡ w.procs.images.kept.core
  pub last_pid : w'.procs.rows.last_pid ≡ w.procs.rows.last_pid
  pub switches : w'.procs.switches ≡ w.procs.switches
  pub marks : w'.files.tree.marks ≡ w.files.tree.marks
  pub entry_room : w'.tape.entry_room ≡ w.tape.entry_room
  pub byte_room : w'.tape.byte_room ≡ w.tape.byte_room
  pub world_core : w'.core ≡ w.core
  pub slots : w'.slots ≡ w.slots

module _ (w w' : World) (s : ℕ) (ready : IsReady w s) (u : UArea) (row : Row) (image : Image) (after : IsAfter w w' s u row image) where
  abbrev h : Handed
  h = handed w'.files u row image

  abbrev p : Process
  p = process_of (unix_of w) s

  abbrev q : Process
  q = record p { u = u; row = row; «data» = image.data; stack = image.stack }

  abbrev now : Held → Held
  now held = record held { u = u; image = image }

  clicks : (held : Held) → p.u ≡ held.u → clicks_of u ≡ clicks_of held.u
  clicks held own = after.clicks ∙ ap clicks_of own

  processes_after : (unix_of w').processes ≡ set (unix_of w).processes s (Some q)
  processes_after =
      slot_put w s (ready_alive w s ready) w'.procs.rows w'.procs.images.kept (λ m. row) now clicks (λ held. refl) after.member after.members after.memory after.others after.texts q
      (let here = is_here w.procs s (ready_alive w s ready) in
      ap (λ (x : Process). record x { u = u; row = row; «data» = image.data; stack = image.stack }) (sym here.process_is))

  -- the Unix then
  pub unix_after : unix_of w' ≡ with_handed (unix_of w) s h
  unix_after = λ i. record (unix_of w') {
    processes = processes_after i;
    clock = record { time = (after.table i).now; ticks = (after.table i).ticks; tout = (after.table i).tout };
    texts = map text_in (after.texts.texts i);
    switches = after.switches i;
    last_pid = after.last_pid i;
    limit = min (after.core i) 2048;
    timing = timing_in (after.slots i);
  }

  agrees : Agree w'.procs.rows w.procs.table w'.procs.images.kept
  agrees = agree_put w s (ready_alive w s ready) w'.procs.rows w'.procs.images.kept (λ m. row) now clicks (λ held. refl) after.member after.members after.memory after.others after.texts

  running_after : w'.procs.table.running ≡ Some s
  running_after = ap (λ (t : Table). t.running) after.table ∙ ready.runs

  pub good_after : IsFileSystem w.files.tree.nodes → IsGood w'
  good_after form =
      let agree : Agree w'.procs.rows w'.procs.table w'.procs.images.kept = subst (λ (t : Table). Agree w'.procs.rows t w'.procs.images.kept) (sym after.table) agrees in
      record {
        agree = agree;
        running = runs_same w w' ready.good agree after.table;
        owed = subst (Owed w'.files.tree.nodes.references) (sym unix_after)
            (file_owes w.files.tree.nodes.references (unix_of w) s h ready.good.owed (slot_is w s ready) (is_living w s ready) (references_in w s ready form) after.kept after.fifteen);
        pending = subst CanGoOn (sym unix_after)
            (file_goes_on w.files.tree.nodes.references (unix_of w) s h ready.good.owed ready.good.pending (slot_is w s ready) (is_living w s ready) after.kept after.pends);
        marks = after.marks ∙ (ready.good.marks ∙ ap (λ texts. marks_of (map text_in texts)) (sym after.texts.texts));
        mounts = after.kept.mounts;
        rooms = (after.entry_room ∙ ready.good.rooms.0, after.byte_room ∙ ready.good.rooms.1);
        core = after.world_core ∙ (ready.good.core ∙ sym after.core);
      }

  pub ready_after : IsFileSystem w.files.tree.nodes → IsReady w' s
  ready_after form = record { good = good_after form; runs = running_after; user = ready.user }

  -- What the tape holds then can go on to the log.
  pub ready_to_show : IsFileSystem w.files.tree.nodes → (items : List Item) → Fits s items → HasAll w'.tape items → IsReadyToShow w w' s items
  ready_to_show form items fits all = record {
    ready = ready_after form;
    table = after.table;
    core = after.core;
    texts = after.texts.texts;
    shown = told_in_order w'.tape items all.lines all.entries;
    slots = subst HaveSlots (sym all.entries) (shown_slots s (entries_of items) ready.user (runs_low w s ready.good.agree ready.runs) fits.only_lines);
    wakes = λ t k. shown_woken s items fits t k ∙ ap (λ l. board_of (all_woken t l) k) (sym all.entries);
  }

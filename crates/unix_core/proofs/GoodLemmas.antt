-- What is so of a good world: who has an image is told by the counts, and who is told has an image.
use Rattle.std.proofs.Common.{◌≡◌, ◌<◌, ◌∙◌, ℕ, false, List, min, get_or, length, Option, Some, None, refl, sym, ap, subst}
use Rattle.std.specs.Prelude.{⊤, MatchOption, unwrap_or}
use Rattle.std.proofs.lemmas.List.{length-map}
use Rattle.pick_rules.specs.declared.table.Table.{Table}
use Rattle.pick_rules.specs.Table.{row_at}
use Rattle.proc_tab.specs.declared.member.Member.{Member}
use Rattle.proc_tab.specs.Processes.{member_at}
use Rattle.fs_nodes.specs.Keys.{counts}
use Rattle.sys_files.proofs.KeptLemmas.{still_mounts}
use Rattle.image_keep.specs.Kept.{Held, Keeping, Nothing, Alive, Grave, Kept, Has, HasImage, keeping, text_of}
use Rattle.image_keep.specs.Kept as kept
use Rattle.sys_procs.specs.Process.{Process, no_process, process_by, process_in}
use Rattle.sys_procs.specs.Agree.{Lives, kind_by, kind_of_stat, kind_of_member, kind_of_keeping}
use Rattle.sys_procs.specs.World as its
use Rattle.sys_procs.specs.World.{text_in, texts_in}
use Rattle.sys_procs.specs.Handed.{AreProcs, IsMarked, handed, board}
use Rattle.open_files.specs.declared.file.OpenFile.{OpenFile}
use Rattle.abstract_unix.specs.Calls.{with_world}
use Rattle.sys_procs.proofs.Slots.{process_in_slot, fifty_processes}
use Rattle.sys_procs.proofs.Agreement.{is_there}
use Rattle.unix_core.specs.declared.world.World.{World}
use Rattle.abstract_unix.specs.Whole.{Told, told_by, told_in, Owed, CanGoOn}
use Rattle.abstract_unix.proofs.Owing.{told_at, living}
use Rattle.unix_core.specs.Slots.{timing_in}
use Rattle.unix_core.specs.Parts.{unix_of, IsGood}

-- what is told of a slot
abbrev pub told_of_slot : World → ℕ → Option Told
told_of_slot w s = get_or (told_in (unix_of w).processes) s None

held_alive : (x : Keeping) → kind_of_keeping x ≡ Lives → (held : Held) × (x ≡ Alive held)
held_alive Nothing kind = absurd (cc kind)
held_alive (Alive held) kind = (held, refl)
held_alive (Grave u block) kind = absurd (cc kind)

-- a process that lives has an image
held_by : (m : Option Member) (x : Keeping) (text : Option ℕ) (q : Process) → process_in m x text ≡ Some q → q.is_zombie ≡ false
    → kind_of_keeping x ≡ kind_of_member m → (held : Held) × (x ≡ Alive held)
held_by None x text q is lives kind = absurd (cc is)
held_by (Some m) x text q is lives kind = held_alive x (kind ∙ ap kind_by (dead x is))
  where
    dead : (x : Keeping) → process_in (Some m) x text ≡ Some q → m.is_dead ≡ false
    dead Nothing is = ap (λ o. (unwrap_or o no_process).is_zombie) is ∙ lives
    dead (Alive held) is = ap (λ o. (unwrap_or o no_process).is_zombie) is ∙ lives
    dead (Grave u block) is = ap (λ o. (unwrap_or o no_process).is_zombie) is ∙ lives

pub runs_low : (w : World) (s : ℕ) → AreProcs w.procs → w.procs.table.running ≡ Some s → s < 50
runs_low w s agree runs = subst (λ o. MatchOption o ⊤ (λ r. r < 50)) runs agree.table.running

-- There are forty entries for texts.
pub forty : (k : Kept) → kept.IsKept k → length (texts_in k) ≡ 40
forty k holds = length-map k.texts text_in ∙ holds.table

pub fifty_told : (w : World) → length (told_in (unix_of w).processes) ≡ 50
fifty_told w = length-map (unix_of w).processes told_by ∙ fifty_processes w.procs.rows.slots w.procs.images.kept

module _ (w : World) (agree : AreProcs w.procs) (s : ℕ) (above : 0 < s) (low : s < 50) where
  pub image_of_told : (t : Told) → told_of_slot w s ≡ Some t → HasImage w.procs.images.kept s
  image_of_told t is =
      let here = living (unix_of w).processes s t is in
      held_by (member_at w.procs.rows.slots s) (keeping w.procs.images.kept s) (text_of w.procs.images.kept s) here.process
      (sym (process_in_slot w.procs.rows.slots w.procs.images.kept s low) ∙ here.there) here.lives (agree.each s above low).image

  pub told_of_image : (held : Held) → Has w.procs.images.kept s held → told_of_slot w s ≡ Some (record { files = held.u.files; dir = held.u.dir })
  told_of_image held has =
      let there = is_there (member_at w.procs.rows.slots s) (row_at w.procs.table s) (keeping w.procs.images.kept s) held (agree.each s above low) has in
      let text : Option ℕ = text_of w.procs.images.kept s in
      told_at (unix_of w).processes s (process_by there.0 (Alive held) text)
      (process_in_slot w.procs.rows.slots w.procs.images.kept s low
      ∙ (ap (λ o. process_in o (keeping w.procs.images.kept s) text) there.1 ∙ ap (λ x. process_in (Some there.0) x text) has)) there.2

-- A world after a good one: who runs still has an image.
module _ (w now : World) (good : IsGood w) (agree : AreProcs now.procs) where
  pub still_runs : ((s : ℕ) → now.procs.table.running ≡ Some s → w.procs.table.running ≡ Some s)
      → ((s : ℕ) (t : Told) → w.procs.table.running ≡ Some s → told_of_slot w s ≡ Some t → told_of_slot now s ≡ Some t)
      → (s : ℕ) → now.procs.table.running ≡ Some s → 0 < s → HasImage now.procs.images.kept s
  still_runs ran stays s runs above =
      let was = ran s runs in
      let low = runs_low w s good.agree was in
      let image = good.running s was above in
      image_of_told now agree s above low _ (stays s _ was (told_of_image w good.agree s above low image.0 image.1))

-- With the same table, whoever had an image has one.
module _ (w now : World) (good : IsGood w) (agree : AreProcs now.procs) (table : now.procs.table ≡ w.procs.table) where
  same_kind : (s : ℕ) → 0 < s → s < 50 → kind_of_keeping (keeping now.procs.images.kept s) ≡ kind_of_keeping (keeping w.procs.images.kept s)
  same_kind s above low =
      let new = agree.each s above low in
      let old = good.agree.each s above low in
      new.image ∙ sym new.stat ∙ ap (λ (t : Table). kind_of_stat (row_at t s).stat) table ∙ old.stat ∙ sym old.image

  pub runs_same : (s : ℕ) → now.procs.table.running ≡ Some s → 0 < s → HasImage now.procs.images.kept s
  runs_same s runs above =
      let was : w.procs.table.running ≡ Some s = ap (λ (t : Table). t.running) (sym table) ∙ runs in
      held_alive (keeping now.procs.images.kept s)
      (same_kind s above (runs_low w s good.agree was) ∙ ap kind_of_keeping (good.running s was above).1)

-- Beside processes, inodes, their marks and the table of open files a world is as it was.
pub record Rests (w now : World) : Type 0 where
  pub mounts : now.files.tree.mounts ≡ w.files.tree.mounts
  pub pipes : now.files.pipes ≡ w.files.pipes
  pub lines : now.files.lines ≡ w.files.lines
  pub tape : now.tape ≡ w.tape
  pub core : now.core ≡ w.core
  pub slots : now.slots ≡ w.slots

module _ (w now : World) (rests : Rests w now) (clicks : (board now.procs).core ≡ (board w.procs).core) where
  pub moved_unix : (x : its.World) (files : List (Option OpenFile)) → handed now.procs now.files.tree.nodes ≡ x → x.switches ≡ w.procs.switches → now.files.table ≡ files
      → unix_of now ≡ record (with_world (unix_of w) x) { files = files }
  moved_unix x files state same table =
      let switches : now.procs.switches ≡ w.procs.switches = ap (λ (v : its.World). v.switches) state ∙ same in
      λ i. record {
        store = (state i).inodes.store;
        covered = (rests.mounts i).covered;
        processes = (state i).processes;
        files = table i;
        pipes = rests.pipes i;
        texts = (state i).texts;
        lines = rests.lines i;
        clock = (state i).clock;
        switches = switches i;
        last_pid = (state i).last_pid;
        limit = min (clicks i) 2048;
        timing = timing_in (rests.slots i);
      }

  pub good_then : IsGood w → AreProcs now.procs → ((s : ℕ) → now.procs.table.running ≡ Some s → 0 < s → HasImage now.procs.images.kept s) → Owed now.files.tree.nodes.references (unix_of now)
      → CanGoOn (unix_of now) → IsMarked now.procs now.files.tree.marks → counts now.files.tree.nodes.store ≡ counts w.files.tree.nodes.store → IsGood now
  good_then good agree running owed pending marks same = record {
    agree = agree;
    running = running;
    owed = owed;
    pending = pending;
    marks = marks;
    mounts = still_mounts w.files.tree.mounts now.files.tree.mounts w.files.tree.nodes.store now.files.tree.nodes.store rests.mounts same good.mounts;
    rooms = (ap (λ t. t.entry_room) rests.tape ∙ good.rooms.0, ap (λ t. t.byte_room) rests.tape ∙ good.rooms.1);
    core = rests.core ∙ good.core ∙ sym clicks;
  }

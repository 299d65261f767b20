-- The memory of a process is another one in the same place: what belongs together still does.
use Rattle.std.proofs.Common.{◌≡◌, ◌∙◌, ℕ, List, map, min, Option, refl, sym, ap, subst}
use Rattle.v6_base.specs.Image.{Image}
use Rattle.image_keep.specs.Kept.{Kept, with_image}
use Rattle.image_keep.specs.State.{ImagesState}
use Rattle.image_keep.proofs.Frames.{with_image_texts}
use Rattle.sys_procs.specs.Process.{Process}
use Rattle.sys_procs.specs.TextTable.{marks_of}
use Rattle.sys_procs.specs.World.{text_in}
use Rattle.sys_procs.specs.Agree.{text_place}
use Rattle.sys_procs.specs.Handed.{AreProcs, IsAlive}
use Rattle.sys_procs.proofs.Alive.{is_here, put_here}
use Rattle.unix_core.specs.declared.world.World.{World}
use Rattle.abstract_unix.specs.Unix.{Unix, process_of, with_process}
use Rattle.unix_core.specs.Parts.{unix_of, board_in, IsGood}
use Rattle.abstract_unix.specs.Whole.{told_in, Owes, CanGoOn}
use Rattle.abstract_unix.proofs.Owing.{told_change, some_within}
use Rattle.unix_core.proofs.GoingLemmas.{going_put}
use Rattle.unix_core.proofs.GoodLemmas.{runs_same}
use Rattle.unix_core.proofs.LoanLemmas.{image_now, image_other, image_core}
use Rattle.unix_core.proofs.PutLemmas.{with_kept, alive_slot, slot_put, agree_put}

module _ (w : World) (x : ImagesState) (s : ℕ) (alive : IsAlive w.procs s) (image : Image) where
  abbrev pub with_memory : World
  with_memory = with_kept w x (with_image w.procs.images.kept s image)

  abbrev p : Process
  p = process_of (unix_of w) s

  abbrev q : Process
  q = record p { «data» = image.data; stack = image.stack }

  pub memory_unix : unix_of with_memory ≡ with_process (unix_of w) s q
  memory_unix =
      let k : Kept = w.procs.images.kept in
      let here = is_here w.procs s alive in
      let changed = slot_put w s alive w.procs.rows (with_image k s image) (λ m. m.row) (λ held. record held { image = image }) (λ held own. refl) (λ held. refl)
      (λ m is. is) (λ r other. refl) (image_now k s image) (image_other k s image) (with_image_texts k s image) q
      (ap (λ (x : Process). record x { «data» = image.data; stack = image.stack }) (sym here.process_is)) in
      λ i. record (unix_of w) {
        processes = changed i;
        texts = map text_in ((with_image_texts k s image).texts i);
        limit = min (image_core k s image i) 2048;
      }

  pub memory_board : board_in with_memory ≡ board_in w
  memory_board = λ i. record (board_in w) { texts = map text_place ((with_image_texts w.procs.images.kept s image).texts i); core = image_core w.procs.images.kept s image i }

  pub memory_process : process_of (unix_of with_memory) s ≡ q
  memory_process =
      let ps : List (Option Process) = (unix_of w).processes in
      ap (λ (x : Unix). process_of x s) memory_unix ∙ put_here ps s q (some_within ps s p (alive_slot w s alive))

  memory_agree : AreProcs with_memory.procs
  memory_agree =
      let k : Kept = w.procs.images.kept in
      agree_put w s alive w.procs.rows (with_image k s image) (λ m. m.row) (λ held. record held { image = image }) (λ held own. refl) (λ held. refl)
      (λ m is. is) (λ r other. refl) (image_now k s image) (image_other k s image) (with_image_texts k s image)

  pub memory_good : IsGood w → IsGood with_memory
  memory_good good = record {
    agree = memory_agree;
    running = runs_same w with_memory good memory_agree refl;
    owed =
        let refs : List ℕ = w.files.tree.nodes.references in
        subst (λ texts. Owes w.files.tree.mounts.covered refs w.files.table w.files.pipes texts (told_in (unix_of with_memory).processes)) (ap (λ texts. map text_in texts) (sym (with_image_texts w.procs.images.kept s image).texts))
        (subst (Owes w.files.tree.mounts.covered refs w.files.table w.files.pipes (unix_of w).texts)
        (sym (ap (λ (x : Unix). told_in x.processes) memory_unix ∙ told_change (unix_of w).processes s p q (alive_slot w s alive) refl)) good.owed);
    pending = subst CanGoOn (sym memory_unix)
        (going_put (unix_of w) s p q (alive_slot w s alive) (record { pending = refl; call = refl; files = refl; lives = refl }) good.pending);
    marks = good.marks ∙ ap (λ texts. marks_of (map text_in texts)) (sym (with_image_texts w.procs.images.kept s image).texts);
    mounts = good.mounts;
    rooms = good.rooms;
    core = good.core ∙ sym (image_core w.procs.images.kept s image);
  }

-- A process's u area is another one, with the same sizes, numbers of files and directory: what belongs together still does.
use Rattle.std.proofs.Common.{◌≡◌, ◌≢◌, ◌<◌, cond, ℕ, List, get_or, map, set, min, Some, None, refl, sym, ap, ◌∙◌, subst}
use Rattle.u_area.specs.declared.area.UArea.{UArea}
use Rattle.pick_rules.specs.Table.{row_at}
use Rattle.v6_base.specs.declared.entry.Place.{Place}
use Rattle.proc_tab.specs.declared.member.Member.{Member}
use Rattle.proc_tab.specs.declared.row.Row.{Row}
use Rattle.proc_tab.specs.Processes.{Processes, member_at}
use Rattle.image_keep.specs.Kept.{Held, Alive, Kept, Has, keeping, with_area, area_in, clicks_of, text_of}
use Rattle.image_keep.specs.State.{ImagesState}
use Rattle.image_keep.proofs.Frames.{SameTexts, alive_low, image_alive, with_area_texts}
use Rattle.sys_procs.specs.Process.{Process, process_by, process_in}
use Rattle.sys_procs.specs.TextTable.{marks_of}
use Rattle.sys_procs.specs.World.{processes_in, text_in}
use Rattle.sys_procs.specs.Agree.{Agrees, Agree, text_place}
use Rattle.sys_procs.specs.Handed.{AreProcs, IsAlive}
use Rattle.sys_procs.proofs.Slots.{process_in_slot, one_changed, area_changed}
use Rattle.sys_procs.proofs.Agreement.{agree_but}
use Rattle.sys_procs.proofs.Alive.{IsHere, is_here}
use Rattle.unix_core.specs.declared.world.World.{World}
use Rattle.abstract_unix.specs.Unix.{process_of, with_process}
use Rattle.unix_core.specs.Parts.{unix_of, board_in, IsGood, IsReady}
use Rattle.abstract_unix.specs.Whole.{told_in, Owes, CanGoOn}
use Rattle.abstract_unix.proofs.Owing.{told_change}
use Rattle.unix_core.proofs.GoingLemmas.{going_put}
use Rattle.unix_core.proofs.GoodLemmas.{runs_low, runs_same}
use Rattle.unix_core.proofs.LoanLemmas.{area_now, area_other, area_core}

pub record IsLikeArea (u v : UArea) : Type 0 where
  pub clicks : clicks_of u ≡ clicks_of v
  pub files : u.files ≡ v.files
  pub dir : u.dir ≡ v.dir
  pub pending : u.pending ≡ v.pending
  pub call : u.call ≡ v.call

abbrev pub with_images : World → ImagesState → World
with_images w x = record w { procs = record w.procs { images = x } }

-- the same with this kept, where the bytes are as there
abbrev pub with_kept : World → ImagesState → Kept → World
with_kept w x k = with_images w (record x { kept = k })

-- Other bytes that keep the same: what is so of a world still is.
module _ (w : World) (x : ImagesState) (same : x.kept ≡ w.procs.images.kept) where
  pub good_bytes : IsGood w → IsGood (with_images w x)
  good_bytes good = subst (λ (k : Kept). IsGood (with_kept w x k)) (sym same) (record {
    agree = good.agree;
    running = good.running;
    owed = good.owed;
    pending = good.pending;
    marks = good.marks;
    mounts = good.mounts;
    rooms = good.rooms;
    core = good.core;
  })

  pub ready_bytes : (s : ℕ) → IsReady w s → IsReady (with_images w x) s
  ready_bytes s ready = record { good = good_bytes ready.good; runs = ready.runs; user = ready.user }

-- who lives is in its slot
pub alive_slot : (w : World) (s : ℕ) → IsAlive w.procs s → get_or (unix_of w).processes s None ≡ Some (process_of (unix_of w) s)
alive_slot w s alive =
    let here = is_here w.procs s alive in
    process_in_slot w.procs.rows.slots w.procs.images.kept s alive.below
    ∙ (ap (λ o. process_in o (keeping w.procs.images.kept s) (text_of w.procs.images.kept s)) here.member_is
    ∙ (ap (λ x. process_in (Some here.member) x (text_of w.procs.images.kept s)) here.image_is
    ∙ ap (λ (p : Process). Some p) (sym here.process_is)))

-- who runs lives
pub good_alive : (w : World) (s : ℕ) → IsGood w → w.procs.table.running ≡ Some s → 0 < s → IsAlive w.procs s
good_alive w s good runs user = record { agree = good.agree; above = user; below = runs_low w s good.agree runs; image = good.running s runs user }

-- A slot has another row, and another u area or another memory in the same place and of the same size.
module _ (w : World) (s : ℕ) (alive : IsAlive w.procs s) (v : Processes) (k : Kept) (row : Member → Row) (new : Held → Held)
    (clicks : (held : Held) → (process_of (unix_of w) s).u ≡ held.u → clicks_of (new held).u ≡ clicks_of held.u) (place : (held : Held) → (new held).place ≡ held.place)
    (member : (m : Member) → member_at w.procs.rows.slots s ≡ Some m → member_at v.slots s ≡ Some (record m { row = row m }))
    (members : (r : ℕ) → r ≢ s → member_at v.slots r ≡ member_at w.procs.rows.slots r)
    (memory : (held : Held) → Has w.procs.images.kept s held → Has k s (new held)) (others : (r : ℕ) → r ≢ s → keeping k r ≡ keeping w.procs.images.kept r) (texts : SameTexts w.procs.images.kept k) where
  abbrev here : IsHere w.procs s
  here = is_here w.procs s alive

  abbrev its : Member
  its = record here.member { row = row here.member }

  text : (r : ℕ) → text_of k r ≡ text_of w.procs.images.kept r
  text r = ap (λ users. get_or users r None) texts.users

  pub slot_put : (q : Process) → process_by its (Alive (new here.held)) (text_of w.procs.images.kept s) ≡ q → processes_in v.slots k ≡ set (unix_of w).processes s (Some q)
  slot_put q is =
      one_changed w.procs.rows.slots v.slots w.procs.images.kept k s (Some q) alive.below
      ((λ i. process_in (member here.member here.member_is i) (memory here.held here.image_is i) (text s i)) ∙ ap (λ (x : Process). Some x) is)
      (λ r below other. λ i. process_in (members r other i) (others r other i) (text r i))

  pub agree_put : Agree v w.procs.table k
  agree_put =
      let old : Agrees (Some here.member) (row_at w.procs.table s) (Alive here.held) =
      subst (λ m. Agrees m (row_at w.procs.table s) (Alive here.held)) here.member_is
      (subst (λ x. Agrees (member_at w.procs.rows.slots s) (row_at w.procs.table s) x) here.image_is (alive.agree.each s alive.above alive.below)) in
      let now : Agrees (Some its) (row_at w.procs.table s) (Alive (new here.held)) = record {
        stat = old.stat;
        image = old.image;
        place = old.place ∙ ap (λ (p : Place). Some p) (sym (place here.held));
        size = λ other is. old.size here.held refl ∙ (sym (clicks here.held (ap (λ (x : Process). x.u) here.process_is)) ∙ ap (λ x. clicks_of (area_in x)) is);
        quiet = old.quiet;
        textless = old.textless;
      } in
      agree_but w.procs.rows v w.procs.table w.procs.table w.procs.images.kept k s alive.agree alive.above alive.agree.table refl
      (subst (λ m. Agrees m (row_at w.procs.table s) (keeping k s)) (sym (member here.member here.member_is))
      (subst (λ x. Agrees (Some its) (row_at w.procs.table s) x) (sym (memory here.held here.image_is)) now))
      (alive.agree.text s alive.above alive.below) texts members (λ r other. refl) others

module _ (w : World) (x : ImagesState) (s : ℕ) (u : UArea) (alive : IsAlive w.procs s) where
  abbrev p : Process
  p = process_of (unix_of w) s

  abbrev q : Process
  q = record p { u = u }

  abbrev k : Kept
  k = w.procs.images.kept

  abbrev w' : World
  w' = with_kept w x (with_area k s u)

  processes_put : (unix_of w').processes ≡ set (unix_of w).processes s (Some q)
  processes_put =
      let here = is_here w.procs s alive in
      area_changed w.procs.rows.slots k s here.member here.held alive.below here.member_is here.image_is u (alive_low k.slots s (image_alive k s alive.image))

  -- the Unix then
  pub unix_put : unix_of w' ≡ with_process (unix_of w) s q
  unix_put = λ i. record (unix_of w) {
    processes = processes_put i;
    texts = map text_in ((with_area_texts k s u).texts i);
    limit = min (area_core k s u i) 2048;
  }

  pub board_put : board_in w' ≡ board_in w
  board_put = λ i. record (board_in w) { texts = map text_place ((with_area_texts k s u).texts i); core = area_core k s u i }

  -- the same image, files and directory
  module _ (clicks : clicks_of u ≡ clicks_of p.u) (files : u.files ≡ p.u.files) (dir : u.dir ≡ p.u.dir) where
    told_put : told_in (unix_of w').processes ≡ told_in (unix_of w).processes
    told_put =
        ap told_in processes_put
        ∙ told_change (unix_of w).processes s p q (alive_slot w s alive) (λ i. cond p.is_zombie None (Some (record { files = files i; dir = dir i })))

    agree_area : AreProcs w'.procs
    agree_area =
        agree_put w s alive w.procs.rows (with_area k s u) (λ m. m.row) (λ held. record held { u = u }) (λ held own. clicks ∙ ap clicks_of own) (λ held. refl)
        (λ m is. is) (λ r other. refl) (area_now k s u) (area_other k s u) (with_area_texts k s u)

    pub good_but : CanGoOn (with_process (unix_of w) s q) → IsGood w → IsGood w'
    good_but going good = record {
      agree = agree_area;
      running = runs_same w w' good agree_area refl;
      owed =
          let refs : List ℕ = w.files.tree.nodes.references in
          subst (λ texts. Owes w.files.tree.mounts.covered refs w.files.table w.files.pipes texts (told_in (unix_of w').processes)) (ap (λ texts. map text_in texts) (sym (with_area_texts k s u).texts))
          (subst (Owes w.files.tree.mounts.covered refs w.files.table w.files.pipes (unix_of w).texts) (sym told_put) good.owed);
      pending = subst CanGoOn (sym unix_put) going;
      marks = good.marks ∙ ap (λ texts. marks_of (map text_in texts)) (sym (with_area_texts k s u).texts);
      mounts = good.mounts;
      rooms = good.rooms;
      core = good.core ∙ sym (area_core k s u);
    }

  pub good_put : IsLikeArea u p.u → IsGood w → IsGood w'
  good_put like good =
      good_but like.clicks like.files like.dir
      (going_put (unix_of w) s p q (alive_slot w s alive) (record { pending = like.pending; call = like.call; files = like.files; lives = refl }) good.pending)
      good

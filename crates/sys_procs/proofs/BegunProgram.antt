-- A process without an image takes a text and an image, and executes a program: what that comes to.
use Rattle.std.proofs.Common.{◌≡◌, ◌∙◌, ℕ, ◌+◌, ◌<◌, [], ◌∷◌, length, Option, Some, None, is_some, IfSome, IsSome, Result, Ok, Err, slice_index, refl, sym, ap, subst, arith}
use Rattle.v6_base.specs.Trace.{Taken}
use Rattle.v6_base.specs.declared.answer.Answer.{Answer}
use Rattle.v6_base.specs.declared.answer.Answer.TheVariants.{Ret}
use Rattle.v6_base.specs.declared.entry.Place.{Place}
use Rattle.v6_base.specs.declared.entry.Entry.{Entry}
use Rattle.v6_base.specs.declared.entry.PanicKind.{PanicKind}
use Rattle.v6_base.specs.declared.entry.PanicKind.TheVariants as panic
use Rattle.u_area.specs.declared.area.UArea.{UArea}
use Rattle.proc_tab.specs.declared.row.Row.{Row}
use Rattle.fs_nodes.specs.Keys.{Stores, node_numbered}
use Rattle.image_keep.specs.Kept.{Kept, Shared, shared, shared_clicks, text_of, text_clicks}
use Rattle.image_keep.specs.SharedTexts.{AreLong}
use Rattle.pick_rules.specs.Board.{Board}
use Rattle.pick_rules.specs.Board as places
use Rattle.pick_rules.specs.Effects as effect
use Rattle.pick_rules.specs.Effects.{image_at}
use Rattle.pick_rules.specs.Logged.{Stop, left_by, logged, log_one, nothing_logged, with_what_came}
use Rattle.fs_nodes.specs.FileSystem.{FileSystem}
use Rattle.sys_procs.specs.declared.procs.Procs.{Procs}
use Rattle.sys_procs.specs.declared.program.Program.{Program}
use Rattle.sys_procs.specs.Process.{Process}
use Rattle.sys_procs.specs.World.{World, process_of, change, let_go, texts_in}
use Rattle.sys_procs.specs.Comes.{Comes}
use Rattle.sys_procs.specs.Tests.{node_in, node_at}
use Rattle.sys_procs.specs.ExecFile.{data_clicks, reads_text, begins_anew, executes}
use Rattle.sys_procs.specs.inside.Tested.{AreSized}
use Rattle.sys_procs.specs.inside.Begun.{takes, takes_image, new_entry, taken_by, sized, fills, begins_in, row_in, area_in}
use Rattle.sys_procs.specs.inside.Parts.{IsUnread}
use Rattle.sys_procs.specs.Agree.{ended_by}
use Rattle.sys_procs.specs.Handed.{board, came, handed, process_here}
use Rattle.sys_procs.specs.inside.Handed.{IsBare}
use Rattle.sys_procs.specs.Done.{HasDone, HasLeft, HasEnded}
use Rattle.sys_procs.proofs.Alive.{put_here}
use Rattle.sys_procs.proofs.Slots.{fifty_processes}
use Rattle.sys_procs.proofs.Dones.{done_as, done_none, not_stopped}
use Rattle.sys_procs.proofs.Following.{both, done_after, done_first}
use Rattle.sys_procs.proofs.KeptOwner.{SameOwner, text_owner}
use Rattle.sys_procs.proofs.LoadForms.{anew_is, begun_is, answer_is, row_kept, area_kept}
use Rattle.sys_procs.proofs.TakenText.{Stopped, goes_on, bare_text, taken_clicks, taken_row, taken_long, taken_store, taken_references}

fresh_by : (k : Kept) (s size : ℕ) (o : Option ℕ) → IfSome o (λ t. text_of k s ≡ Some t) → IfSome o (λ t. IsUnread k t size 0)
    → IfSome o (λ t. (text_of k s ≡ Some t) × (size ≡ shared_clicks (shared k t)))
fresh_by k s size None text unread = tt
fresh_by k s size (Some t) text unread = (text, sym unread.size ∙ sym (ap shared_clicks unread.there))

pub unread_still : (k l : Kept) (size : ℕ) (o : Option ℕ)
    → ((t : ℕ) (x : Shared) → shared k t ≡ Some x → x.row.loaded ≡ 0 → shared l t ≡ Some x)
    → IfSome o (λ t. IsUnread k t size 0) → IfSome o (λ t. IsUnread l t size 0)
unread_still k l size None stays unread = tt
unread_still k l size (Some t) stays unread = record {
  text = unread.text;
  there = stays t unread.text unread.there unread.out;
  out = unread.out;
  size = unread.size;
  long = unread.long;
  zeros = unread.zeros;
}

-- an image that finds no place
ended_stopped : (o : Option (Stop World)) (kind : PanicKind) → Err kind ≡ ended_by o → Stopped o kind
ended_stopped None kind e = absurd (cc e)
ended_stopped (Some stop) kind e = record { stop = stop; is = refl; why = cc e }

stop_before : (b : Board) (w : World) (o : Option Place) (entry : Place → Entry) (stop : Stop World)
    → (with_what_came (nothing_logged b) (image_at w o entry)).stop ≡ Some stop → stop.before ≡ w
stop_before b w None entry stop is =
    let same : ◌≡◌ {A = Stop World} (record { why = panic.Swap; before = w }) stop = cc is in
    sym (ap (λ (x : Stop World). x.before) same)
stop_before b w (Some place) entry stop is = absurd (cc is)

image_before : (b : Board) (s n : ℕ) (w : World) (stop : Stop World) → (logged b (effect.Image s n w ∷ [])).stop ≡ Some stop
    → stop.before ≡ w
unfolding log_one effect.came
image_before b s n w stop is = stop_before b w (places.placed b s n) _ stop is

-- The texts stay as an image is placed, or is not.
pub texts_still : {p q : Procs} {fs : FileSystem} {result : Result (Unit {0}) PanicKind} {start end : Taken} (w : World)
    (s t d : ℕ)
    → HasEnded p q fs result start end (takes_image w s t d) → texts_in q.images.kept ≡ w.texts
texts_still {p} {q} {fs} {result} {start} {end} w s t d ended =
    ap (λ (v : World). v.texts) ended.left.state ∙ by (came p (takes_image w s t d)).stop refl
  where
    by : (o : Option (Stop World)) → (came p (takes_image w s t d)).stop ≡ o → (left_by o (takes_image w s t d).state).texts
        ≡ w.texts
    by None e = refl
    by (Some stop) e = ap (λ (v : World). v.texts) (image_before (board p) s (16 + d + 20) w stop e)

module _ (p q : Procs) (fs gs : FileSystem) (s : ℕ) (program : Program) (bare : IsBare p s) where
  abbrev w : World
  w = handed p fs

  abbrev ino : ℕ
  ino = program.ino

  abbrev size : ℕ
  size = program.text_clicks

  abbrev d : ℕ
  d = data_clicks program.plan

  abbrev first : Comes
  first = takes w s ino size

  abbrev entry : Option ℕ
  entry = new_entry w.texts ino size

  low : s < length w.processes
  low = let below = bare.below in omega (arith, below, fifty_processes p.rows.slots p.images.kept)

  abbrev second : Comes
  second = takes_image first.state s size d

  abbrev last : UArea → Comes
  last v = executes (reads_text (is_some entry) first.state s program) s v program

  -- A text that is not taken.
  pub stopped_first : {start end : Taken} (v : UArea) (kind : PanicKind) (it : Stopped (came p first).stop kind)
      → HasLeft p q gs start end first → HasDone p q gs (Err kind) start end (begins_anew w s v program)
  stopped_first {start} {end} v kind it left =
      done_as (sym (anew_is w s v program))
      (subst (λ k. HasDone p q gs (Err k) start end (both first (both second (last v)))) (sym it.why)
      (done_first first (both second (last v)) it.stop it.is left))

  -- A text that is taken.
  module _ (new : Option ℕ) (answer : Ok new ≡ taken_by (came p first).stop entry) {start middle : Taken}
      (left : HasLeft p q gs start middle first) where
    free : (came p first).stop ≡ None
    free = (goes_on (came p first).stop entry new answer).0

    pub new_is : new ≡ entry
    new_is = (goes_on (came p first).stop entry new answer).1

    pub after_is : handed q gs ≡ first.state
    after_is = left.state ∙ ap (λ o. left_by o first.state) free

    pub referenced_still : 0 < slice_index fs.references ino → 0 < slice_index gs.references ino
    referenced_still some =
        subst (λ (v : World). 0 < slice_index v.inodes.references ino) (sym after_is) (taken_references w s ino size ino some)

    pub clicks_are : AreLong q.images.kept → IsBare q s → text_of p.images.kept s ≡ None → (0 < size → AreSized w.texts ino size)
        → IfSome new (λ t. text_of q.images.kept s ≡ Some t)
        → IfSome new (λ t. IsUnread q.images.kept t size 0)
        → size ≡ text_clicks q.images.kept (text_of q.images.kept s)
    clicks_are long now none sized text unread =
        taken_clicks w s ino size low q.images.kept long sized (sym (bare_text p s bare) ∙ none) (ap (λ (v : World). v.texts) after_is)
        (bare_text q s now ∙ ap (λ (v : World). (process_of v s).text) after_is)
        (subst (λ o. IfSome o (λ t. (text_of q.images.kept s ≡ Some t) × (size ≡ shared_clicks (shared q.images.kept t)))) new_is
        (fresh_by q.images.kept s size new text unread))

    module _ (r : Procs) where
      -- An image that finds no place.
      pub stopped_second : {end : Taken} (v : UArea) (kind : PanicKind)
          → HasEnded q r gs (Err kind) middle end (takes_image (handed q gs) s size d)
          → HasDone p r gs (Err kind) start end (begins_anew w s v program)
      stopped_second {end} v kind ended =
          let here : HasEnded q r gs (Err kind) middle end second =
          subst (λ (x : World). HasEnded q r gs (Err kind) middle end (takes_image x s size d)) after_is ended in
          let it = ended_stopped (came q second).stop kind here.answer in
          done_as (sym (anew_is w s v program))
          (done_after {mid = q} first free left.shown left.items
          (subst (λ k. HasDone q r gs (Err k) middle end (both second (last v))) (sym it.why)
          (done_first second (last v) it.stop it.is here.left)))

      -- An image that finds one.
      module _ (u : Unit {0}) {end : Taken} (ended : HasEnded q r gs (Ok u) middle end (takes_image (handed q gs) s size d)) where
        placed : HasEnded q r gs (Ok u) middle end second
        placed = subst (λ (x : World). HasEnded q r gs (Ok u) middle end (takes_image x s size d)) after_is ended

        place_free : (came q second).stop ≡ None
        place_free = not_stopped (came q second).stop u (sym placed.answer)

        pub imaged_is : handed r gs ≡ change first.state s (sized size d)
        imaged_is = placed.left.state ∙ ap (λ o. left_by o second.state) place_free

        pub image_here : process_here r s ≡ sized size d (process_of first.state s)
        image_here =
            ap (λ (v : World). process_of v s) imaged_is
            ∙ put_here first.state.processes s (sized size d (process_of first.state s)) (taken_long w s ino size low)

        pub row_still : (process_here p s).row ≡ (process_here r s).row
        row_still = sym (ap (λ (x : Process). x.row) image_here ∙ taken_row w s ino size low)

        -- The program begins.
        module _ (z : Procs) (hs : FileSystem) (row : Row) (u_area v : UArea) (there : IsSome (node_numbered fs.store ino))
            (row_is : row ≡ row_in (node_in fs.store ino) v.uid (process_here p s).row)
            (area_is : u_area ≡ area_in (node_in fs.store ino) v program)
            (state : handed z hs ≡ begins_in (fills (reads_text (is_some new) (handed r gs) s program) s program) s ino row
            u_area)
            (shown : board z ≡ board r) where
          abbrev before : World
          before = reads_text (is_some entry) first.state s program

          same : SameOwner (node_in fs.store ino) (node_at before ino)
          same =
              subst (λ (st : Stores). SameOwner (node_in st ino) (node_at before ino)) (taken_store w s ino size)
              (text_owner first.state s program (is_some entry)
              (subst (λ (st : Stores). IsSome (node_numbered st ino)) (sym (taken_store w s ino size)) there))

          row_then : row ≡ row_in (node_at before ino) v.uid (process_of first.state s).row
          row_then =
              row_is ∙ (sym (row_kept (node_in fs.store ino) (node_at before ino) v.uid (process_here p s).row same)
              ∙ ap (λ x. row_in (node_at before ino) v.uid x) (sym (taken_row w s ino size low)))

          area_then : u_area ≡ area_in (node_at before ino) v program
          area_then = area_is ∙ sym (area_kept (node_in fs.store ino) (node_at before ino) v program same)

          state_is : handed z hs ≡ (last v).state
          state_is =
              state
              ∙ (λ i. begins_in (fills (reads_text (is_some (new_is i)) (imaged_is i) s program) s program) s ino row u_area)
              ∙ ap (λ (x : World). let_go x ino)
              (begun_is first.state s size program (taken_long w s ino size low) (is_some entry) row u_area v row_then area_then)

          pub program_begins : HasDone p z hs (Ok (Ret 0 0)) start end (begins_anew w s v program)
          program_begins =
              done_as (sym (anew_is w s v program))
              (done_after {mid = q} first free left.shown left.items
              (done_after {mid = r} second place_free placed.left.shown placed.left.items
              (done_none (last v).state (last v).answer refl
              (ap (λ (a : Answer). Ok a)
              (sym (answer_is first.state s size program (taken_long w s ino size low) (is_some entry) v)))
              state_is shown)))

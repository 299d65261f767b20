-- A process without an image is given one, beside its text: where that stands, what the log says, and what agrees then.
use Rattle.std.proofs.Common.{◌≡◌, ◌≢◌, ◌∙◌, ℕ, ◌+◌, ◌<◌, not, cond, Bool, true, false, List, [], ◌∷◌, length, map, get_or, set, Option, Some, None, Ok, Err, refl, sym, ap, subst, inl, inr, arith}
use Rattle.std.specs.Option.{option_map, option_or, unwrap_or}
use Rattle.std.proofs.Math.ListN.{get_or-map}
use Rattle.std.proofs.lemmas.Bool.{cases_eq, eq-eqb, false≢true}
use Rattle.std.proofs.lemmas.List.{get_or-set_same, get_or-set_other, length-set, map-set, set-get_or}
use Rattle.v6_base.specs.Trace.{Taken, Took, Log}
use Rattle.v6_base.specs.declared.entry.Place.{Place}
use Rattle.v6_base.specs.declared.entry.Place.TheVariants.{Core, Swap}
use Rattle.v6_base.specs.declared.entry.Entry.TheVariants as line
use Rattle.v6_base.specs.declared.entry.PanicKind.TheVariants as panic
use Rattle.v6_base.specs.Image.{Image}
use Rattle.u_area.specs.declared.area.UArea.{UArea}
use Rattle.fs_nodes.specs.FileSystem.{FileSystem}
use Rattle.pick_rules.specs.declared.row.TableRow.{TableRow}
use Rattle.pick_rules.specs.declared.table.Table.{Table}
use Rattle.pick_rules.specs.Table.{row_at, with_row, empty_row, IsTable}
use Rattle.pick_rules.specs.Board.{Board, TextPlace}
use Rattle.pick_rules.specs.Board as board_of_log
use Rattle.pick_rules.specs.Apply.{applied, at_place, enters_core, in_table, change_row}
use Rattle.pick_rules.specs.Effects.{image_at}
use Rattle.pick_rules.specs.Effects as effects
use Rattle.pick_rules.specs.Logged.{Logged, logged, log_one, nothing_logged, with_what_came}
use Rattle.proc_tab.specs.declared.member.Member.{Member}
use Rattle.proc_tab.specs.Processes.{member_at}
use Rattle.image_keep.specs.Area.{made_area}
use Rattle.image_keep.specs.Kept.{Nothing, Alive, Held, Kept, Shared, keeping, shared, text_of, place_in, image_of, image_in, clicks_of, area_in, changed, IsKept}
use Rattle.image_keep.specs.State.{ImagesState}
use Rattle.image_keep.specs.Moves.{moved_row, moved_texts, with_image_moved}
use Rattle.image_keep.specs.Places.{is_text_loaded, may_load, core_fit, swap_fit, placed, blocks, made_image}
use Rattle.swap_sched.specs.Match.{text_place}
use Rattle.sys_procs.specs.declared.procs.Procs.{Procs}
use Rattle.sys_procs.specs.Process.{no_process, process_by, process_in}
use Rattle.sys_procs.specs.World.{World, Clock, text_in, processes_in, change}
use Rattle.sys_procs.specs.inside.Seats.{placed_row, with_place}
use Rattle.sys_procs.specs.Agree.{Agrees, Agree, Lives, kind_of_member, kind_of_stat}
use Rattle.sys_procs.specs.inside.Begun.{sized, takes_image}
use Rattle.sys_procs.specs.Handed.{IsAlive, board, came, handed, process_here}
use Rattle.sys_procs.specs.inside.Handed.{IsBare}
use Rattle.sys_procs.specs.Done.{HasEnded}
use Rattle.sys_procs.proofs.Dones.{ended_logged}
use Rattle.sys_procs.proofs.MovedTexts.{more_at, same_texts, entered_texts_board}
use Rattle.sys_procs.proofs.Places.{placed_bare}
use Rattle.sys_procs.proofs.PlacingRows.{untimed_placed, place_text, clock_told, agree_told}
use Rattle.sys_procs.proofs.Retexted.{there}
use Rattle.sys_procs.proofs.SameKept.{SameKept, same_images, same_handed, same_board}
use Rattle.sys_procs.proofs.Slots.{one_changed, own_is}

-- What a demand for an image leaves in the log, by the place that is found.
abbrev pub image_log : Board → ℕ → ℕ → World → Option Place → Logged World
image_log b s n w None =
    record { items = Log (line.Panic panic.Swap) ∷ []; board = b; stop = Some (record { why = panic.Swap; before = w }) }
image_log b s n w (Some place) =
    record { items = Log (line.Image s n place) ∷ []; board = applied b (line.Image s n place); stop = None }

log_by : (b : Board) (s n : ℕ) (w : World) (o : Option Place)
    → with_what_came (nothing_logged b) (image_at w o (λ place. line.Image s n place)) ≡ image_log b s n w o
unfolding applied
log_by b s n w None = refl
log_by b s n w (Some place) = refl

logged_image : (b : Board) (s n : ℕ) (w : World) (o : Option Place) → board_of_log.placed b s n ≡ o
    → logged b (effects.Image s n w ∷ []) ≡ image_log b s n w o
unfolding log_one effects.came
logged_image b s n w o e = ap (λ x. with_what_came (nothing_logged b) (image_at w x (λ place. line.Image s n place))) e
    ∙ log_by b s n w o

-- An image stands in core only where its text is there.
core_only : (may : Bool) (core swap : Option ℕ) (c : ℕ)
    → option_or (cond may (option_map Core core) None) (option_map Swap swap) ≡ Some (Core c) → may ≡ true
core_only true core swap c e = refl
core_only false core None c e = absurd (cc e)
core_only false core (Some b) c e = absurd (cc e)

pub text_loaded : (k : Kept) (s n c t : ℕ) → placed k s n ≡ Some (Core c) → text_of k s ≡ Some t
    → is_text_loaded (shared k t) ≡ true
unfolding placed
text_loaded k s n c t fit text =
    sym (ap (may_load k) text) ∙ core_only (may_load k (text_of k s)) (core_fit k n) (swap_fit k (blocks n)) c fit

-- The texts then.
abbrev pub texts_moved : List (Option Shared) → Option ℕ → Place → List (Option Shared)
texts_moved texts None place = texts
texts_moved texts (Some t) place = set texts t (changed (moved_row None place) (get_or texts t None))

moved_is : (k : Kept) (o : Option ℕ) (place : Place)
    → moved_texts k o None place ≡ record k { texts = texts_moved k.texts o place }
moved_is k None place = refl
moved_is k (Some t) place = refl

same_in : (place : Place) (o : Option Shared) → text_in (changed (moved_row None place) o) ≡ text_in o
same_in place None = refl
same_in (Core c) (Some x) = refl
same_in (Swap block) (Some x) = refl

texts_same : (texts : List (Option Shared)) (o : Option ℕ) (place : Place)
    → map text_in (texts_moved texts o place) ≡ map text_in texts
texts_same texts None place = refl
texts_same texts (Some t) place =
    map-set text_in texts t (changed (moved_row None place) (get_or texts t None))
    ∙ (ap (set (map text_in texts) t) (same_in place (get_or texts t None) ∙ sym (get_or-map text_in texts t None))
    ∙ set-get_or (map text_in texts) t None)

-- by the board: who has a text enters core with it
abbrev entered : Place → List (Option TextPlace) → Option ℕ → List (Option TextPlace)
entered place texts None = texts
entered place texts (Some t) = more_at place texts t

entered_is : (texts : List (Option Shared)) (o : Option ℕ) (place : Place)
    → ((c t : ℕ) → place ≡ Core c → o ≡ Some t → is_text_loaded (get_or texts t None) ≡ true)
    → entered place (map text_place texts) o ≡ map text_place (texts_moved texts o place)
entered_is texts None place loaded = refl
entered_is texts (Some t) (Swap block) loaded = entered_texts_board texts t (Swap block) (λ e. absurd (false≢true e))
entered_is texts (Some t) (Core c) loaded = entered_texts_board texts t (Core c) (λ e. loaded c t refl refl)

board_by : (b : Board) (s n : ℕ) (place : Place) (o : Option ℕ) → (row_at b.table s).text ≡ o
    → at_place b s n place ≡ record b { table = with_place b.table s n place; texts = entered place b.texts o }
board_by b s n (Core c) o e = ap (λ x. in_table (enters_core b x) (λ t. change_row t s (placed_row n (Core c)))) e ∙ by o
  where
    by : (o : Option ℕ) → in_table (enters_core b o) (λ t. change_row t s (placed_row n (Core c)))
        ≡ record b { table = with_place b.table s n (Core c); texts = entered (Core c) b.texts o }
    by None = refl
    by (Some t) = refl
board_by b s n (Swap block) None e = refl
board_by b s n (Swap block) (Some t) e = refl

module _ (p : Procs) (s t d : ℕ) (bare : IsBare p s) (all : IsKept p.images.kept) where
  pub image_came : (fs : FileSystem)
      → came p (takes_image (handed p fs) s t d) ≡ image_log (board p) s (16 + d + 20) (handed p fs)
      (placed p.images.kept s (16 + d + 20))
  image_came fs =
      logged_image (board p) s (16 + d + 20) (handed p fs) (placed p.images.kept s (16 + d + 20))
      (placed_bare p.rows p.table p.images.kept s bare.agree all.slots (16 + d + 20) bare.above bare.below)

  abbrev u : UArea
  u = made_area t d 20

  -- There is no place.
  pub unplaced : (fs : FileSystem) (image : Image) (i : ImagesState) (start end : Taken) → placed p.images.kept s (16 + d + 20) ≡ None
      → i.kept ≡ with_image_moved p.images.kept s u image (placed p.images.kept s (16 + d + 20))
      → Took start (Log (line.Panic panic.Swap) ∷ []) end
      → HasEnded p (record p { images = i }) fs (Err panic.Swap) start end (takes_image (handed p fs) s t d)
  unplaced fs image i start end none is took =
      let it : SameKept (record p { images = i }) p = same_images (is ∙ ap (with_image_moved p.images.kept s u image) none) in
      ended_logged (image_came fs ∙ ap (image_log (board p) s (16 + d + 20) (handed p fs)) none) refl
      (same_handed it fs) (same_board it) took

  -- There is one.
  module _ (place : Place) (text : List ℕ) (fit : placed p.images.kept s (16 + d + 20) ≡ Some place) where
    abbrev held : Held
    held = record { u = u; image = made_image text d 20; place = place }

    abbrev pub images : Kept
    images = record p.images.kept {
      slots = set p.images.kept.slots s (Alive held);
      texts = texts_moved p.images.kept.texts (text_of p.images.kept s) place;
    }

    abbrev pub now : Procs
    now = record p { table = with_place p.table s (16 + d + 20) place; images = record p.images { kept = images } }

    images_now : with_image_moved p.images.kept s u (made_image text d 20) (placed p.images.kept s (16 + d + 20)) ≡ images
    images_now =
        ap (with_image_moved p.images.kept s u (made_image text d 20)) fit
        ∙ (ap (λ o. with_image_moved_from o) (ap place_in bare.agree.bare.image)
        ∙ ap (λ (k : Kept). record k { slots = set k.slots s (Alive held) }) (moved_is p.images.kept (text_of p.images.kept s) place))
      where
        with_image_moved_from : Option Place → Kept
        with_image_moved_from from = let k : Kept = moved_texts p.images.kept (text_of p.images.kept s) from place in
            record k { slots = set k.slots s (Alive held) }

    pub it_is : (rows : Table) (i : ImagesState) → rows ≡ with_place p.table s (16 + d + 20) place
        → i.kept ≡ with_image_moved p.images.kept s u (made_image text d 20) (placed p.images.kept s (16 + d + 20))
        → SameKept (record p { table = rows; images = i }) now
    it_is rows i table_is is = record { rows = refl; table = table_is; kept = is ∙ images_now; switches = refl }

    image_now : keeping images s ≡ Alive held
    image_now = get_or-set_same p.images.kept.slots s (Alive held) Nothing (omega (arith, bare.below, all.slots))

    other_image : (r : ℕ) → r ≢ s → keeping images r ≡ keeping p.images.kept r
    other_image r other = get_or-set_other p.images.kept.slots s r (Alive held) Nothing other

    pub made_now : image_of images s ≡ made_image text d 20
    made_now = ap image_in image_now

    processes_now : processes_in p.rows.slots images ≡ set (processes_in p.rows.slots p.images.kept) s
        (Some (sized t d (process_here p s)))
    processes_now =
        let member = there (member_at p.rows.slots s) bare.agree.bare.lives in
        let here : process_here p s ≡ process_by member.0 Nothing (text_of p.images.kept s) =
        own_is p.rows.slots p.images.kept s bare.below
        ∙ (λ i. unwrap_or (process_in (member.1 i) (bare.agree.bare.image i) (text_of p.images.kept s)) no_process) in
        one_changed p.rows.slots p.rows.slots p.images.kept images s (Some (sized t d (process_here p s))) bare.below
        ((λ i. process_in (member.1 i) (image_now i) (text_of p.images.kept s)) ∙ ap (λ q. Some (sized t d q)) (sym here))
        (λ r below other. ap (λ x. process_in (member_at p.rows.slots r) x (text_of p.images.kept r)) (other_image r other))

    state_now : (fs : FileSystem) → handed now fs ≡ change (handed p fs) s (sized t d)
    state_now fs =
        let clock = clock_told p.table s (placed_row (16 + d + 20) place (row_at p.table s)) place in
        λ i. record (handed p fs) {
          processes = processes_now i;
          clock = clock i;
          texts = texts_same p.images.kept.texts (text_of p.images.kept s) place i;
        }

    board_now : board now ≡ applied (board p) (line.Image s (16 + d + 20) place)
    unfolding applied
    board_now = sym (
        board_by (board p) s (16 + d + 20) place (text_of p.images.kept s) (bare.agree.text s bare.above bare.below)
        ∙ (λ i. record (board p) {
          table = sym (untimed_placed p.table s (16 + d + 20) place) i;
          texts = entered_is p.images.kept.texts (text_of p.images.kept s) place
              (λ c k e f. text_loaded p.images.kept s (16 + d + 20) c k (fit ∙ ap (λ x. Some x) e) f) i;
        }))

    pub has_placed : (fs : FileSystem) (new : Procs) (start end : Taken) → SameKept new now
        → Took start (Log (line.Image s (16 + d + 20) place) ∷ []) end
        → HasEnded p new fs (Ok tt) start end (takes_image (handed p fs) s t d)
    has_placed fs new start end is took =
        ended_logged (image_came fs ∙ ap (image_log (board p) s (16 + d + 20) (handed p fs)) fit) refl
        (same_handed is fs ∙ state_now fs) (same_board is ∙ board_now) took

    pub time_stays : now.table.now ≡ p.table.now
    time_stays = ap (λ (c : Clock). c.time) (clock_told p.table s (placed_row (16 + d + 20) place (row_at p.table s)) place)

    -- a text that isn't in core stays as it is
    pub out_stays : (k : ℕ) (x : Shared) → shared p.images.kept k ≡ Some x → x.row.loaded ≡ 0 → shared images k ≡ Some x
    out_stays k x is none = by (text_of p.images.kept s) refl
      where
        same : (to : Place) → place ≡ to → text_of p.images.kept s ≡ Some k → texts_moved p.images.kept.texts (Some k) to ≡ p.images.kept.texts
        same (Core c) e mine = absurd (
            let loaded : is_text_loaded (Some x) ≡ true = ap is_text_loaded (sym is)
            ∙ text_loaded p.images.kept s (16 + d + 20) c k (fit ∙ ap (λ y. Some y) e) mine in
            false≢true (sym (ap not (eq-eqb x.row.loaded 0 none)) ∙ loaded))
        same (Swap block) e mine = same_texts p.images.kept.texts k

        by : (o : Option ℕ) → text_of p.images.kept s ≡ o → get_or (texts_moved p.images.kept.texts o place) k None ≡ Some x
        by None e = is
        by (Some j) e = elim (cases_eq k j) [
          | inl here ↦
              ap (λ n. get_or (texts_moved p.images.kept.texts (Some n) place) k None) (sym here)
              ∙ (ap (λ l. get_or l k None) (same place refl (e ∙ ap (λ n. Some n) (sym here))) ∙ is)
          | inr other ↦ get_or-set_other p.images.kept.texts j k
              (changed (moved_row None place) (get_or p.images.kept.texts j None)) None other ∙ is
        ]

    -- what agrees
    abbrev row : TableRow
    row = placed_row (16 + d + 20) place (row_at p.table s)

    row_low : s < length p.table.rows
    row_low = omega (arith, bare.below, bare.agree.rows)

    row_now : row_at (with_row p.table s row) s ≡ row
    row_now = get_or-set_same p.table.rows s row empty_row row_low

    other_row : (r : ℕ) → r ≢ s → row_at (with_row p.table s row) r ≡ row_at p.table r
    other_row r other = get_or-set_other p.table.rows s r row empty_row other

    agrees_placed : (m : Option Member) (old : TableRow) (to : Place) → kind_of_member m ≡ Lives → kind_of_stat old.stat ≡ Lives
        → Agrees m (placed_row (16 + d + 20) to old) (Alive (record held { place = to }))
    agrees_placed m old (Core c) lives stat = record {
      stat = stat ∙ sym lives;
      image = sym lives;
      place = refl;
      size = λ other is. ap (λ x. clicks_of (area_in x)) is;
      quiet = λ f. absurd (f lives);
      textless = λ f. absurd (f lives);
    }
    agrees_placed m old (Swap block) lives stat = record {
      stat = stat ∙ sym lives;
      image = sym lives;
      place = refl;
      size = λ other is. ap (λ x. clicks_of (area_in x)) is;
      quiet = λ f. absurd (f lives);
      textless = λ f. absurd (f lives);
    }

    zero_other : 0 ≢ s
    zero_other e = let above = bare.above in omega (arith, e, above)

    agree_row : Agree p.rows (with_row p.table s row) images
    agree_row = record {
      table = record {
        last = bare.agree.table.last;
        running = bare.agree.table.running;
        ticks = bare.agree.table.ticks;
      };
      rows = length-set p.table.rows s row ∙ bare.agree.rows;
      kernel = ap (λ (r : TableRow). r.place) (other_row 0 zero_other) ∙ bare.agree.kernel;
      images = other_image 0 zero_other ∙ bare.agree.images;
      each = λ r up below. elim (cases_eq r s) [
        | inl here ↦
            subst (λ n. Agrees (member_at p.rows.slots n) (row_at (with_row p.table s row) n) (keeping images n)) (sym here)
            (subst (λ (one : TableRow). Agrees (member_at p.rows.slots s) one (keeping images s)) (sym row_now)
            (subst (λ x. Agrees (member_at p.rows.slots s) row x) (sym image_now)
            (agrees_placed (member_at p.rows.slots s) (row_at p.table s) place bare.agree.bare.lives bare.agree.bare.stat)))
        | inr other ↦
            subst (λ (one : TableRow). Agrees (member_at p.rows.slots r) one (keeping images r)) (sym (other_row r other))
            (subst (λ x. Agrees (member_at p.rows.slots r) (row_at p.table r) x) (sym (other_image r other))
            (bare.agree.others r up below other))
      ];
      text = λ r up below. elim (cases_eq r s) [
        | inl here ↦
            ap (λ n. (row_at (with_row p.table s row) n).text) here
            ∙ (ap (λ (one : TableRow). one.text) row_now
            ∙ (place_text (16 + d + 20) place (row_at p.table s)
            ∙ (bare.agree.text s bare.above bare.below ∙ ap (text_of p.images.kept) (sym here))))
        | inr other ↦ ap (λ (one : TableRow). one.text) (other_row r other) ∙ bare.agree.text r up below
      ];
      textless = bare.agree.textless;
    }

    pub is_alive : IsTable (with_place p.table s (16 + d + 20) place) → IsAlive now s
    is_alive good = record {
      agree = agree_told p.rows p.table images s row place good agree_row;
      above = bare.above;
      below = bare.below;
      image = (held, image_now);
    }

-- The texts when the image of a process goes from its place to another: what is kept, what a call is handed, and the board.
use Rattle.std.proofs.Common.{◌≡◌, ◌∙◌, ◌<◌, ◌||◌, ℕ, Bool, true, false, cond, List, length, get_or, set, map, Option, Some, None, refl, sym, ap, arith}
use Rattle.std.specs.Option.{option_map, option_or}
use Rattle.std.proofs.lemmas.Bool.{ne_eqb}
use Rattle.std.proofs.lemmas.List.{map-set, set-get_or, get_or-set_same}
use Rattle.std.proofs.Math.ListN.{get_or-map}
use Rattle.v6_base.specs.declared.entry.Place.{Place}
use Rattle.v6_base.specs.declared.entry.Place.TheVariants.{Core, Swap}
use Rattle.v6_base.specs.declared.entry.Entry.TheVariants as line
use Rattle.pick_rules.specs.declared.row.TableRow.{TableRow}
use Rattle.pick_rules.specs.declared.table.Table.{Table}
use Rattle.pick_rules.specs.Table.{row_at, empty_row, is_loaded, is_in_core}
use Rattle.pick_rules.specs.Board.{TextPlace, Board}
use Rattle.pick_rules.specs.Apply.{applied, in_table, change_row, change_text, at_place, without_place, leaves_core}
use Rattle.pick_rules.proofs.Placing.{bare_table, moved_in, moved_out, moved_core}
use Rattle.text_tab.specs.declared.row.TextRow.{TextRow}
use Rattle.proc_tab.specs.declared.member.Member.{Member}
use Rattle.image_keep.specs.Kept.{Shared, Keeping, Kept, with_keeping, changed}
use Rattle.image_keep.specs.Moves.{moved_row, moved_texts}
use Rattle.image_keep.specs.Places.{may_load, core_fit, swap_fit, placed, blocks}
use Rattle.image_keep.specs.Kept as kept
use Rattle.swap_sched.specs.Match.{text_place}
use Rattle.swap_sched.proofs.Texts.{one_more}
use Rattle.sys_procs.specs.World.{text_in, processes_in}
use Rattle.sys_procs.specs.inside.Seats.{with_place}
use Rattle.sys_procs.proofs.MovedTexts.{fewer_if, more_at, is_core, moved_texts_board}

-- What is kept of the texts then.
abbrev pub texts_moved : List (Option Shared) → Option ℕ → Option Place → Place → List (Option Shared)
texts_moved texts None from to = texts
texts_moved texts (Some u) from to = set texts u (changed (moved_row from to) (get_or texts u None))

pub slot_moved : (k : Kept) (o : Option ℕ) (from : Option Place) (to : Place) (s : ℕ) (x : Keeping)
    → with_keeping (moved_texts k o from to) s x ≡ record (with_keeping k s x) { texts = texts_moved k.texts o from to }
slot_moved k None from to s x = refl
slot_moved k (Some u) from to s x = refl

-- nothing of it is seen by who is in which slot
pub processes_apart : (slots : List (Option Member)) (k : Kept) (texts : List (Option Shared))
    → processes_in slots (record k { texts = texts }) ≡ processes_in slots k
unfolding processes_in
processes_apart slots k texts = refl

-- An image that stays where it is leaves the texts.
same_row : (place : Place) (row : TextRow) → moved_row (Some place) place row ≡ row
same_row (Core click) row = refl
same_row (Swap block) row = refl

pub texts_stay : (texts : List (Option Shared)) (o : Option ℕ) (place : Place) → texts_moved texts o (Some place) place ≡ texts
texts_stay texts None place = refl
texts_stay texts (Some u) place = ap (set texts u) (by (get_or texts u None)) ∙ set-get_or texts u None
  where
    by : (x : Option Shared) → changed (moved_row (Some place) place) x ≡ x
    by None = refl
    by (Some x) = ap (λ (row : TextRow). Some (record x { row = row })) (same_row place x.row)

-- What a call is handed of the texts is the same, wherever the image goes.
same_text : (from to : Place) (x : Option Shared) → text_in (changed (moved_row (Some from) to) x) ≡ text_in x
same_text from to None = refl
same_text (Core f) (Core c) (Some x) = refl
same_text (Core f) (Swap b) (Some x) = refl
same_text (Swap a) (Core c) (Some x) = refl
same_text (Swap a) (Swap b) (Some x) = refl

pub texts_handed : (texts : List (Option Shared)) (o : Option ℕ) (from to : Place)
    → map text_in (texts_moved texts o (Some from) to) ≡ map text_in texts
texts_handed texts None from to = refl
texts_handed texts (Some u) from to =
    map-set text_in texts u (changed (moved_row (Some from) to) (get_or texts u None))
    ∙ ap (set (map text_in texts) u) (same_text from to (get_or texts u None) ∙ sym (get_or-map text_in texts u None))
    ∙ set-get_or (map text_in texts) u None

-- Of the board.
abbrev fewer_of : Bool → List (Option TextPlace) → Option ℕ → List (Option TextPlace)
fewer_of here texts None = texts
fewer_of here texts (Some u) = fewer_if here texts u

abbrev pub more_of : Place → List (Option TextPlace) → Option ℕ → List (Option TextPlace)
more_of to texts None = texts
more_of to texts (Some u) = more_at to texts u

in_core : (place : Place) → is_in_core (Some place) ≡ is_core place
in_core (Core click) = refl
in_core (Swap block) = refl

loaded_by : (t : Table) (s : ℕ) (from : Place) → 0 < s → (row_at t s).place ≡ Some from → is_loaded t s ≡ is_core from
loaded_by t s from above at =
    ap (λ b. b || is_in_core (row_at t s).place) (ne_eqb s 0 (λ e. omega (arith, e, above)))
    ∙ (ap is_in_core at ∙ in_core from)

texts_out : (b : Board) (s : ℕ) (here : Bool) → is_loaded b.table s ≡ here
    → (without_place b s).texts ≡ fewer_of here b.texts (row_at b.table s).text
texts_out b s here e =
    ap (λ x. (in_table (cond x (leaves_core b (row_at b.table s).text) b)
    (λ t. change_row t s (λ row. record row { place = None }))).texts) e
    ∙ by here (row_at b.table s).text
  where
    by : (here : Bool) (o : Option ℕ)
        → (in_table (cond here (leaves_core b o) b) (λ t. change_row t s (λ row. record row { place = None }))).texts
        ≡ fewer_of here b.texts o
    by true None = refl
    by true (Some u) = refl
    by false None = refl
    by false (Some u) = refl

pub texts_at : (b : Board) (s n : ℕ) (to : Place) → (at_place b s n to).texts ≡ more_of to b.texts (row_at b.table s).text
texts_at b s n (Swap block) = by (row_at b.table s).text
  where
    by : (o : Option ℕ) → b.texts ≡ more_of (Swap block) b.texts o
    by None = refl
    by (Some u) = refl
texts_at b s n (Core click) = by (row_at b.table s).text
  where
    by : (o : Option ℕ)
        → (in_table (change_text b o one_more) (λ t. change_row t s (λ row. record row { size = n; place = Some (Core click) }))).texts
        ≡ more_of (Core click) b.texts o
    by None = refl
    by (Some u) = refl

text_out : (b : Board) (s : ℕ) → s < length b.table.rows → (row_at (without_place b s).table s).text ≡ (row_at b.table s).text
text_out b s low =
    ap (λ (t : Table). (row_at t s).text) (bare_table b s)
    ∙ ap (λ (row : TableRow). row.text)
    (get_or-set_same b.table.rows s (record (row_at b.table s) { place = None }) empty_row low)

-- the parts of a board on which an image has grown to a place
pub grown_table : (b : Board) (s n : ℕ) (to : Place) → s < length b.table.rows
    → (applied b (line.Size s n to)).table ≡ with_place b.table s n to
unfolding applied
grown_table b s n (Core click) low = moved_in b s n click low
grown_table b s n (Swap block) low = moved_out b s n block low

pub grown_core : (b : Board) (s n : ℕ) (to : Place) → (applied b (line.Size s n to)).core ≡ b.core
unfolding applied
grown_core b s n to = moved_core b s n to

grown_texts : (b : Board) (s n : ℕ) (from to : Place) → 0 < s → s < length b.table.rows → (row_at b.table s).place ≡ Some from
    → (applied b (line.Size s n to)).texts
    ≡ more_of to (fewer_of (is_core from) b.texts (row_at b.table s).text) (row_at b.table s).text
unfolding applied
grown_texts b s n from to above low at =
    texts_at (without_place b s) s n to
    ∙ ap (more_of to (without_place b s).texts) (text_out b s low)
    ∙ ap (λ texts. more_of to texts (row_at b.table s).text) (texts_out b s (is_core from) (loaded_by b.table s from above at))

-- An image that is placed in core has no text, or one that is there.
stands_by : (may : Bool) (core swap : Option ℕ) (c : ℕ)
    → option_or (cond may (option_map Core core) None) (option_map Swap swap) ≡ Some (Core c) → may ≡ true
stands_by true core swap c e = refl
stands_by false core None c e = absurd (cc e)
stands_by false core (Some block) c e = absurd (cc e)

pub may_stand : (k : Kept) (s n c : ℕ) → placed k s n ≡ Some (Core c) → may_load k (kept.text_of k s) ≡ true
unfolding placed
may_stand k s n c e = stands_by (may_load k (kept.text_of k s)) (core_fit k n) (swap_fit k (blocks n)) c e

pub stands_at : (k : Kept) (s n : ℕ) (to : Place) → placed k s n ≡ Some to → is_core to ≡ true
    → may_load k (kept.text_of k s) ≡ true
stands_at k s n (Core c) e core = may_stand k s n c e
stands_at k s n (Swap block) e core = absurd (cc core)

by_text : (k : Kept) (o : Option ℕ) (from to : Place) → (is_core to ≡ true → may_load k o ≡ true)
    → more_of to (fewer_of (is_core from) (map text_place k.texts) o) o ≡ map text_place (texts_moved k.texts o (Some from) to)
by_text k None from to may = refl
by_text k (Some u) from to may = moved_texts_board k.texts u from to may

-- the same texts by the board and by what is kept
pub grown_places : (b : Board) (k : Kept) (s n : ℕ) (from to : Place) → 0 < s → s < length b.table.rows
    → b.texts ≡ map text_place k.texts
    → (row_at b.table s).place ≡ Some from → (row_at b.table s).text ≡ kept.text_of k s → placed k s n ≡ Some to
    → (applied b (line.Size s n to)).texts ≡ map text_place (texts_moved k.texts (kept.text_of k s) (Some from) to)
grown_places b k s n from to above low texts at text found =
    grown_texts b s n from to above low at
    ∙ (λ i. more_of to (fewer_of (is_core from) (texts i) (text i)) (text i))
    ∙ by_text k (kept.text_of k s) from to (stands_at k s n to found)

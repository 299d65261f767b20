-- The image of a process gets other sizes: where it stands then, what the log says, and what becomes of the process.
use Rattle.std.proofs.Common.{◌≡◌, ◌∙◌, ℕ, ◌+◌, nat_le, Bool, true, false, cond, List, [], ◌∷◌, length, map, set, Option, Some, None, is_some, refl, sym, ap}
use Rattle.v6_base.specs.Trace.{Log}
use Rattle.v6_base.specs.declared.entry.Place.{Place}
use Rattle.v6_base.specs.declared.entry.Entry.{Entry}
use Rattle.v6_base.specs.declared.entry.Entry.TheVariants as line
use Rattle.v6_base.specs.declared.entry.PanicKind.TheVariants as panic
use Rattle.pick_rules.specs.declared.table.Table.{Table}
use Rattle.pick_rules.specs.Table.{IsTable, row_at}
use Rattle.pick_rules.specs.Board.{Board, TextPlace}
use Rattle.pick_rules.specs.Board as board_of_log
use Rattle.pick_rules.specs.Apply.{applied, change_row}
use Rattle.pick_rules.specs.Effects.{Size}
use Rattle.pick_rules.specs.Effects as effects
use Rattle.pick_rules.specs.Logged.{logged, log_one}
use Rattle.image_keep.specs.Kept.{Held, Keeping, Alive, Kept, with_keeping, text_of, area_in, image_in, area_of, image_of, place_in, place_of}
use Rattle.image_keep.specs.Growth.{area_resized, image_resized, expanded}
use Rattle.image_keep.specs.Places.{placed}
use Rattle.swap_sched.specs.Match.{text_place}
use Rattle.fs_nodes.specs.FileSystem.{FileSystem}
use Rattle.sys_procs.specs.declared.procs.Procs.{Procs}
use Rattle.sys_procs.specs.Break.{sized, expands}
use Rattle.sys_procs.specs.Process.{Process, process_by}
use Rattle.sys_procs.specs.World.{World, clock_of, processes_in, text_in, texts_in, change}
use Rattle.sys_procs.specs.inside.Seats.{with_place}
use Rattle.sys_procs.specs.Handed.{IsAlive, handed, board, came, process_here}
use Rattle.sys_procs.proofs.Alive.{IsHere, is_here}
use Rattle.sys_procs.proofs.Places.{same_placed}
use Rattle.sys_procs.proofs.PlacingRows.{sized_row, row_low, text_row, size_is, place_is, processes_seated, board_kept}
use Rattle.sys_procs.proofs.GrownTexts.{texts_moved, texts_stay, texts_handed, processes_apart, grown_places}
use Rattle.sys_procs.proofs.Seats.{clock_placed, board_at_size, put_alive, kept_alive}

-- What the log says, where the image keeps its place, where it takes another, and where there is none.
logged_kept : (b : Board) (s n : ℕ) (w : World) → nat_le n (row_at b.table s).size ≡ true
    → logged b (Size s n w ∷ [])
    ≡ record { items = Log (line.SizeKeep s n) ∷ []; board = applied b (line.SizeKeep s n); stop = None }
unfolding log_one effects.came
logged_kept b s n w keeps = rw keeps refl

logged_grown : (b : Board) (s n : ℕ) (w : World) (place : Place) → nat_le n (row_at b.table s).size ≡ false
    → board_of_log.placed b s n ≡ Some place
    → logged b (Size s n w ∷ [])
    ≡ record { items = Log (line.Size s n place) ∷ []; board = applied b (line.Size s n place); stop = None }
unfolding log_one effects.came
logged_grown b s n w place grows fit = rw grows (rw fit refl)

logged_stopped : (b : Board) (s n : ℕ) (w : World) → nat_le n (row_at b.table s).size ≡ false
    → board_of_log.placed b s n ≡ None
    → logged b (Size s n w ∷ []) ≡ record {
      items = Log (line.Panic panic.Swap) ∷ [];
      board = b;
      stop = Some (record { why = panic.Swap; before = w });
    }
unfolding log_one effects.came applied
logged_stopped b s n w grows none = rw grows (rw none refl)

-- An image that stands somewhere finds no place: it grows, and no other place is found.
pub record NoPlace (keeps : Bool) (other : Option Place) : Type 0 where
  pub grows : keeps ≡ false
  pub none : other ≡ None

no_place : (keeps : Bool) (old other : Option Place) → is_some old ≡ true → cond keeps old other ≡ None → NoPlace keeps other
no_place true None other here none = absurd (cc here)
no_place true (Some place) other here none = absurd (cc none)
no_place false old other here none = record { grows = refl; none = none }

-- the line of the log, and the table, by whether the image keeps its place
abbrev pub line_by : Bool → ℕ → ℕ → Place → Entry
line_by keeps s n place = cond keeps (line.SizeKeep s n) (line.Size s n place)

abbrev pub table_by : Bool → Table → ℕ → ℕ → Place → Table
table_by keeps t s n place = cond keeps (change_row t s (sized_row n)) (with_place t s n place)

-- the image, with its place
abbrev pub grown : Kept → ℕ → ℕ → ℕ → Place → Held
grown k s d stack place = record {
  u = area_resized (area_of k s) d stack;
  image = image_resized (image_of k s) d stack;
  place = place;
}

-- what is kept then, with the counts of its text
abbrev pub kept_grown : Kept → ℕ → ℕ → ℕ → Place → Kept
kept_grown k s d stack place = record (with_keeping k s (Alive (grown k s d stack place))) { texts = texts_moved k.texts (text_of k s) (place_of k s) place }

-- the parts then, by whether it keeps its place
abbrev resized_by : Bool → Procs → ℕ → ℕ → ℕ → Place → Procs
resized_by keeps p s d stack place = record p {
  table = table_by keeps p.table s (16 + d + stack) place;
  images = record p.images { kept = kept_grown p.images.kept s d stack place };
}

abbrev pub resized : Procs → ℕ → ℕ → ℕ → Place → Procs
resized p s d stack place = resized_by (nat_le (16 + d + stack) (row_at p.table s).size) p s d stack place

module _ (p : Procs) (s : ℕ) (alive : IsAlive p s) (long : length p.images.kept.slots ≡ 50) where
  stands : is_some (place_of p.images.kept s) ≡ true
  stands = let here : IsHere p s = is_here p s alive in ap (λ x. is_some (place_in x)) here.image_is

  -- where it stands, by the row
  expanded_is : (n : ℕ) → expanded p.images.kept s n
      ≡ cond (nat_le n (row_at p.table s).size) (place_of p.images.kept s) (placed p.images.kept s n)
  unfolding expanded
  expanded_is n = ap (λ m. cond (nat_le n m) (place_of p.images.kept s) (placed p.images.kept s n)) (sym (size_is p s alive))

  fit_is : (n : ℕ) → board_of_log.placed (board p) s n ≡ placed p.images.kept s n
  fit_is n = same_placed p.rows p.table p.images.kept alive.agree long s n alive.above alive.below

  -- It finds no place.
  pub log_stopped : (d stack : ℕ) (fs : FileSystem) → expanded p.images.kept s (16 + d + stack) ≡ None
      → came p (expands (handed p fs) s d stack) ≡ record {
        items = Log (line.Panic panic.Swap) ∷ [];
        board = board p;
        stop = Some (record { why = panic.Swap; before = handed p fs });
      }
  log_stopped d stack fs e =
      let n : ℕ = 16 + d + stack in
      let no : NoPlace (nat_le n (row_at p.table s).size) (placed p.images.kept s n) =
      no_place _ (place_of p.images.kept s) _ stands (sym (expanded_is n) ∙ e) in
      logged_stopped (board p) s n (handed p fs) no.grows (fit_is n ∙ no.none)

  module _ (d stack : ℕ) (place : Place) where
    abbrev n : ℕ
    n = 16 + d + stack

    there : expanded p.images.kept s n ≡ Some place → (keeps : Bool) → nat_le n (row_at p.table s).size ≡ keeps
        → cond keeps (place_of p.images.kept s) (placed p.images.kept s n) ≡ Some place
    there found keeps e = ap (λ b. cond b (place_of p.images.kept s) (placed p.images.kept s n)) (sym e) ∙ (sym (expanded_is n) ∙ found)

    -- the texts, where it keeps its place
    texts_kept : expanded p.images.kept s n ≡ Some place → nat_le n (row_at p.table s).size ≡ true
        → (kept_grown p.images.kept s d stack place).texts ≡ p.images.kept.texts
    texts_kept found e =
        ap (λ (o : Option Place). texts_moved p.images.kept.texts (text_of p.images.kept s) o place) (there found true e)
        ∙ texts_stay p.images.kept.texts (text_of p.images.kept s) place

    -- and where it takes another
    abbrev stood : Place
    stood = (is_here p s alive).held.place

    stood_at : place_of p.images.kept s ≡ Some stood
    stood_at = ap place_in (is_here p s alive).image_is

    places : expanded p.images.kept s n ≡ Some place → nat_le n (row_at p.table s).size ≡ false
        → (applied (board p) (line.Size s n place)).texts ≡ map text_place (kept_grown p.images.kept s d stack place).texts
    places found e =
        grown_places (board p) p.images.kept s n stood place alive.above (row_low p s alive) refl
        (place_is p s alive ∙ stood_at) (text_row p s alive) (there found false e)
        ∙ ap (λ (o : Option Place). map text_place (texts_moved p.images.kept.texts (text_of p.images.kept s) o place)) (sym stood_at)

    pub log_sized : (fs : FileSystem) → expanded p.images.kept s n ≡ Some place → came p (expands (handed p fs) s d stack) ≡ record {
      items = Log (line_by (nat_le n (row_at p.table s).size) s n place) ∷ [];
      board = board (resized p s d stack place);
      stop = None;
    }
    log_sized fs found = by (nat_le n (row_at p.table s).size) refl
      where
        by : (keeps : Bool) → nat_le n (row_at p.table s).size ≡ keeps
            → came p (expands (handed p fs) s d stack) ≡ record {
              items = Log (line_by keeps s n place) ∷ [];
              board = board (resized_by keeps p s d stack place);
              stop = None;
            }
        by true e =
            logged_kept (board p) s n (handed p fs) e
            ∙ ap (λ (b : Board). record { items = Log (line.SizeKeep s n) ∷ []; board = b; stop = None })
            (board_kept (board p) s n
            ∙ ap (λ (texts : List (Option TextPlace)). record (board p) { table = change_row (board p).table s (sized_row n); texts = texts })
            (sym (ap (map text_place) (texts_kept found e))))
        by false e =
            logged_grown (board p) s n (handed p fs) place e (fit_is n ∙ there found false e)
            ∙ ap (λ (b : Board). record { items = Log (line.Size s n place) ∷ []; board = b; stop = None })
            (board_at_size p s n (grown p.images.kept s d stack place) (kept_grown p.images.kept s d stack place).texts (row_low p s alive) (places found e))

    pub grown_alive : expanded p.images.kept s n ≡ Some place
        → IsTable (table_by (nat_le n (row_at p.table s).size) p.table s n place) → IsAlive (resized p s d stack place) s
    grown_alive found good = by (nat_le n (row_at p.table s).size) refl good
      where
        by : (keeps : Bool) → nat_le n (row_at p.table s).size ≡ keeps → IsTable (table_by keeps p.table s n place) → IsAlive (resized_by keeps p s d stack place) s
        by true e good =
            kept_alive p s (grown p.images.kept s d stack place) (kept_grown p.images.kept s d stack place).texts alive long n refl
            (place_is p s alive ∙ there found true e)
        by false e good = put_alive p s (grown p.images.kept s d stack place) (kept_grown p.images.kept s d stack place).texts alive long n refl good

    clock_by : (keeps : Bool) → clock_of (table_by keeps p.table s n place) ≡ clock_of p.table
    clock_by true = refl
    clock_by false = clock_placed p.table s n place

    pub grown_state : (fs : FileSystem) → handed (resized p s d stack place) fs ≡ change (handed p fs) s (sized d stack)
    grown_state fs =
        let here : IsHere p s = is_here p s alive in
        let is : process_by here.member (Alive (grown p.images.kept s d stack place)) (text_of p.images.kept s) ≡ sized d stack (process_here p s) =
        ap (λ (x : Keeping). process_by here.member (Alive (record {
          u = area_resized (area_in x) d stack;
          image = image_resized (image_in x) d stack;
          place = place;
        })) (text_of p.images.kept s)) here.image_is
        ∙ ap (sized d stack) (sym here.process_is) in
        let texts : texts_in (kept_grown p.images.kept s d stack place) ≡ texts_in p.images.kept =
        ap (λ (o : Option Place). map text_in (texts_moved p.images.kept.texts (text_of p.images.kept s) o place)) stood_at
        ∙ texts_handed p.images.kept.texts (text_of p.images.kept s) stood place in
        let processes : processes_in p.rows.slots (kept_grown p.images.kept s d stack place) ≡ set (processes_in p.rows.slots p.images.kept) s (Some (sized d stack (process_here p s))) =
        processes_apart p.rows.slots (with_keeping p.images.kept s (Alive (grown p.images.kept s d stack place))) (kept_grown p.images.kept s d stack place).texts
        ∙ (processes_seated p s alive long (grown p.images.kept s d stack place) here.member here.member_is
        ∙ ap (λ (q : Process). set (processes_in p.rows.slots p.images.kept) s (Some q)) is) in
        λ i. record (handed p fs) {
          processes = processes i;
          clock = clock_by (nat_le n (row_at p.table s).size) i;
          texts = texts i;
        }

-- What belongs together lets the swapper move images; and where a new image can stand is the same by the board and by the images
-- that are kept.
use Rattle.std.proofs.Common.{◌≡◌, ◌∙◌, ℕ, zero, suc, ◌<◌, ◌+◌, Bool, true, false, cond, List, [], ◌∷◌, ◌++◌, length, get_or, map, flat_map, find, Option, Some, None, is_none, refl, sym, ap, subst, inl, inr, arith}
use Rattle.std.specs.Option.{option_map, option_or}
use Rattle.std.specs.List.{position_from, range_with_len}
use Rattle.std.proofs.lemmas.Bool.{cases_eq}
use Rattle.std.proofs.lemmas.Iterator.Adapters.{position_from-zero}
use Rattle.map_fit.specs.Fit.{first_fit}
use Rattle.pick_rules.specs.declared.row.TableRow.{TableRow}
use Rattle.v6_base.specs.declared.entry.Place.TheVariants.{Core, Swap}
use Rattle.pick_rules.specs.declared.row.Stat.{Stat}
use Rattle.pick_rules.specs.declared.row.Stat.TheVariants.{Empty, Sleeping, Waiting, Ready, Zombie}
use Rattle.pick_rules.specs.declared.table.Table.{Table}
use Rattle.pick_rules.specs.Table.{row_at, empty_row, is_empty, is_zombie}
use Rattle.pick_rules.specs.Board.{core_range, swap_range, core_of_row, swap_of_row}
use Rattle.pick_rules.specs.Board as board
use Rattle.proc_tab.specs.declared.member.Member.{Member}
use Rattle.proc_tab.specs.Processes.{Processes, member_at}
use Rattle.image_keep.specs.Kept.{Keeping, Nothing, Alive, Grave, Shared, Kept, keeping, text_of}
use Rattle.image_keep.specs.Places.{core_of, swap_of, is_text_loaded, may_load, core_fit, swap_fit, placed, blocks}
use Rattle.image_keep.specs.SharedTexts.{free_text}
use Rattle.swap_sched.specs.Match.{is_nothing, is_grave, IsRowOf, Matches}
use Rattle.swap_sched.proofs.Places as places
use Rattle.swap_sched.proofs.Places.{core_same, swap_same, same_ranges, core_texts, swap_texts}
use Rattle.swap_sched.proofs.Texts.{text_at_map}
use Rattle.sys_procs.specs.Agree.{Kind, Free, Lives, Died, kind_of_stat, kind_of_keeping, Agrees, Agree, AgreeBare, text_place, board_of}

-- Whether a slot is free, and whether its process has ended, by its kind.
abbrev pub is_free : Kind → Bool
is_free Free = true
is_free Lives = false
is_free Died = false

abbrev pub has_died : Kind → Bool
has_died Free = false
has_died Lives = false
has_died Died = true

pub free_stat : (stat : Stat) → is_empty stat ≡ is_free (kind_of_stat stat)
free_stat Empty = refl
free_stat Sleeping = refl
free_stat Waiting = refl
free_stat Ready = refl
free_stat Zombie = refl

pub died_stat : (stat : Stat) → is_zombie stat ≡ has_died (kind_of_stat stat)
died_stat Empty = refl
died_stat Sleeping = refl
died_stat Waiting = refl
died_stat Ready = refl
died_stat Zombie = refl

pub free_keeping : (x : Keeping) → is_nothing x ≡ is_free (kind_of_keeping x)
free_keeping Nothing = refl
free_keeping (Alive held) = refl
free_keeping (Grave u block) = refl

pub died_keeping : (x : Keeping) → is_grave x ≡ has_died (kind_of_keeping x)
died_keeping Nothing = refl
died_keeping (Alive held) = refl
died_keeping (Grave u block) = refl

is_row : (m : Option Member) (row : TableRow) (user : Option ℕ) (x : Keeping) → Agrees m row x → row.text ≡ user
    → IsRowOf row user x
is_row m row user x one text =
    let same : kind_of_stat row.stat ≡ kind_of_keeping x = one.stat ∙ sym one.image in
    record {
      empty = free_stat row.stat ∙ (ap is_free same ∙ sym (free_keeping x));
      zombie = died_stat row.stat ∙ (ap has_died same ∙ sym (died_keeping x));
      place = one.place;
      size = one.size;
      text = text;
    }

pub agree_matches : (v : Processes) (t : Table) (k : Kept) → Agree v t k → Matches t k
agree_matches v t k a = record {
  table = a.table;
  rows = a.rows;
  kernel = a.kernel;
  images = a.images;
  each = λ s above low.
      is_row (member_at v.slots s) (row_at t s) (text_of k s) (keeping k s) (a.each s above low) (a.text s above low);
}

-- Where an image may stand by its text.
loaded_at : (texts : List (Option Shared)) (t : ℕ)
    → board.is_text_loaded (get_or (map text_place texts) t None) ≡ is_text_loaded (get_or texts t None)
loaded_at [] t = refl
loaded_at (None ∷ texts) zero = refl
loaded_at (Some x ∷ texts) zero = refl
loaded_at (x ∷ texts) (suc t) = loaded_at texts t

may_same : (t : Table) (k : Kept) (text : Option ℕ) → board.may_load (board_of t k) text ≡ may_load k text
may_same t k None = refl
may_same t k (Some x) = loaded_at k.texts x

module _ (v : Processes) (t : Table) (k : Kept) (a : Agree v t k) (long : length k.slots ≡ 50) where
  pub same_swap_fit : (count : ℕ) → board.swap_fit (board_of t k) count ≡ swap_fit k count
  same_swap_fit count = places.same_swap_fit t k (agree_matches v t k a) long count

  pub same_placed : (s clicks : ℕ) → 0 < s → s < 50 → board.placed (board_of t k) s clicks ≡ placed k s clicks
  unfolding board.placed placed
  same_placed s clicks l h =
      let may : board.may_load (board_of t k) (row_at t s).text ≡ may_load k (text_of k s) =
      ap (board.may_load (board_of t k)) (a.text s l h) ∙ may_same t k (text_of k s) in
      let core : board.core_fit (board_of t k) clicks ≡ core_fit k clicks =
      places.same_core_fit t k (agree_matches v t k a) long clicks in
      λ i. option_or (cond (may i) (option_map Core (core i)) None) (option_map Swap (same_swap_fit (blocks clicks) i))

-- The same while a process of a slot has stopped between its old image and its new one.
module _ (v : Processes) (t : Table) (k : Kept) (s : ℕ) (a : AgreeBare v t k s) (long : length k.slots ≡ 50) where
  core_nothing : (row : TableRow) (x : Keeping) → row.place ≡ None → x ≡ Nothing → core_of_row row ≡ core_of x
  core_nothing row x place nothing = ap (λ p. core_range p row.size) place ∙ sym (ap core_of nothing)

  swap_nothing : (row : TableRow) (x : Keeping) → row.place ≡ None → x ≡ Nothing → swap_of_row row ≡ swap_of x
  swap_nothing row x place nothing =
      ap (λ p. swap_range p (cond (is_zombie row.stat) 1 (blocks row.size))) place ∙ sym (ap swap_of nothing)

  core_at : (i : ℕ) → i < length t.rows → core_of_row (row_at t i) ≡ core_of (keeping k i)
  core_at i l = elim (cases_eq i 0) [
    | inl first ↦
        ap (λ n. core_of_row (row_at t n)) first
        ∙ (core_nothing (row_at t 0) (keeping k 0) a.kernel a.images ∙ sym (ap (λ n. core_of (keeping k n)) first))
    | inr up ↦ elim (cases_eq i s) [
      | inl here ↦
          ap (λ n. core_of_row (row_at t n)) here
          ∙ (core_nothing (row_at t s) (keeping k s) a.bare.place a.bare.image ∙ sym (ap (λ n. core_of (keeping k n)) here))
      | inr other ↦
          let above : 0 < i = omega (arith, up) in
          let below : i < 50 = omega (arith, l, a.rows) in
          core_same (row_at t i) (text_of k i) (keeping k i)
          (is_row (member_at v.slots i) (row_at t i) (text_of k i) (keeping k i) (a.others i above below other)
          (a.text i above below))
    ]
  ]

  swap_at : (i : ℕ) → i < length t.rows → swap_of_row (row_at t i) ≡ swap_of (keeping k i)
  swap_at i l = elim (cases_eq i 0) [
    | inl first ↦
        ap (λ n. swap_of_row (row_at t n)) first
        ∙ (swap_nothing (row_at t 0) (keeping k 0) a.kernel a.images ∙ sym (ap (λ n. swap_of (keeping k n)) first))
    | inr up ↦ elim (cases_eq i s) [
      | inl here ↦
          ap (λ n. swap_of_row (row_at t n)) here
          ∙ (swap_nothing (row_at t s) (keeping k s) a.bare.place a.bare.image ∙ sym (ap (λ n. swap_of (keeping k n)) here))
      | inr other ↦
          let above : 0 < i = omega (arith, up) in
          let below : i < 50 = omega (arith, l, a.rows) in
          swap_same (row_at t i) (text_of k i) (keeping k i)
          (is_row (member_at v.slots i) (row_at t i) (text_of k i) (keeping k i) (a.others i above below other)
          (a.text i above below))
    ]
  ]

  core_bare : (clicks : ℕ) → board.core_fit (board_of t k) clicks ≡ core_fit k clicks
  unfolding core_fit
  core_bare clicks =
      let rows : flat_map core_of_row t.rows ≡ flat_map core_of k.slots =
      same_ranges core_of_row core_of empty_row Nothing t.rows k.slots (a.rows ∙ sym long) core_at in
      ap (λ taken. first_fit taken 1 k.core clicks) (λ i. rows i ++ core_texts k.texts i)

  pub swap_bare : (count : ℕ) → board.swap_fit (board_of t k) count ≡ swap_fit k count
  unfolding swap_fit
  swap_bare count =
      let rows : flat_map swap_of_row t.rows ≡ flat_map swap_of k.slots =
      same_ranges swap_of_row swap_of empty_row Nothing t.rows k.slots (a.rows ∙ sym long) swap_at in
      ap (λ taken. first_fit taken 4000 4871 count) (λ i. rows i ++ swap_texts k.texts i)

  pub placed_bare : (clicks : ℕ) → 0 < s → s < 50 → board.placed (board_of t k) s clicks ≡ placed k s clicks
  unfolding board.placed placed
  placed_bare clicks l h =
      let may : board.may_load (board_of t k) (row_at t s).text ≡ may_load k (text_of k s) =
      ap (board.may_load (board_of t k)) (a.text s l h) ∙ may_same t k (text_of k s) in
      λ i. option_or (cond (may i) (option_map Core (core_bare clicks i)) None) (option_map Swap (swap_bare (blocks clicks) i))

-- The lowest entry that is free.
find_free : {X Y : Type 0} (f : ℕ → Option Y) (a : ℕ) (xs : List (Option X))
    → ((i : ℕ) → is_none (f (a + i)) ≡ is_none (get_or xs i None))
    → find (λ k. is_none (f k)) (range_with_len a (length xs)) ≡ position_from is_none a xs
find_free f a [] same = refl
find_free f a (x ∷ xs) same =
    let here : is_none (f a) ≡ is_none x = subst (λ n. is_none (f n) ≡ is_none x) (omega arith) (same 0) in
    let later : find (λ k. is_none (f k)) (range_with_len (a + 1) (length xs)) ≡ position_from is_none (a + 1) xs =
    find_free f (a + 1) xs (λ i. subst (λ n. is_none (f n) ≡ is_none (get_or xs i None)) (omega arith) (same (suc i))) in
    λ i. cond (here i) (Some a) (later i)

none_same : (o : Option Shared) → is_none (text_place o) ≡ is_none o
none_same None = refl
none_same (Some x) = refl

pub same_free : (t : Table) (k : Kept) → length k.texts ≡ 40 → board.free_text (board_of t k) ≡ free_text k
same_free t k forty =
    ap (λ n. find (λ j. is_none (board.text_at (board_of t k) j)) (range_with_len 0 n)) (sym forty)
    ∙ (find_free (λ j. board.text_at (board_of t k) j) 0 k.texts (λ i.
    ap (λ n. is_none (get_or (map text_place k.texts) n None)) (omega arith)
    ∙ (ap is_none (text_at_map k.texts i) ∙ none_same (get_or k.texts i None)))
    ∙ sym (position_from-zero is_none k.texts))

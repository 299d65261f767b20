-- Where an image can stand, by the board and by what is kept: the same, where the table is that of what is kept.
use Rattle.std.proofs.Common.{◌≡◌, ◌∙◌, ◌<◌, ℕ, zero, suc, cond, List, [], ◌∷◌, ◌++◌, length, get_or, map, flat_map, Option, Some, None, refl, sym, ap, arith}
use Rattle.v6_base.specs.declared.entry.Place.{Place}
use Rattle.v6_base.specs.declared.entry.Place.TheVariants.{Core, Swap}
use Rattle.map_fit.specs.Fit.{first_fit}
use Rattle.pick_rules.specs.declared.row.TableRow.{TableRow}
use Rattle.pick_rules.specs.declared.table.Table.{Table}
use Rattle.pick_rules.specs.Table.{row_at, empty_row, is_zombie}
use Rattle.pick_rules.specs.Board.{core_range, swap_range, core_of_row, swap_of_row}
use Rattle.pick_rules.specs.Board as board
use Rattle.pick_rules.specs.Swapper.{need, clicks_of_text}
use Rattle.pick_rules.specs.Swapper as swapper
use Rattle.image_keep.specs.Kept.{Keeping, Nothing, Alive, Grave, Held, Shared, Kept, keeping, text_of, area_of, clicks_of, area_in}
use Rattle.image_keep.specs.Places.{core_of_place, swap_of_place, core_of, swap_of, core_of_text, swap_of_text, core_fit, swap_fit, blocks}
use Rattle.image_keep.specs.Moves.{text_need, clicks_to_load}
use Rattle.swap_sched.specs.Match.{IsRowOf, Matches, text_place, board_of}
use Rattle.swap_sched.proofs.Texts.{text_at_map, need_same}

-- what two lists give, element by element
pub same_ranges : {A B C : Type 0} (f : A → List C) (g : B → List C) (a : A) (b : B) (xs : List A) (ys : List B) → length xs ≡ length ys
    → ((i : ℕ) → i < length xs → f (get_or xs i a) ≡ g (get_or ys i b)) → flat_map f xs ≡ flat_map g ys
same_ranges f g a b [] [] e h = refl
same_ranges f g a b [] (y ∷ ys) e h = absurd (omega (arith, e))
same_ranges f g a b (x ∷ xs) [] e h = absurd (omega (arith, e))
same_ranges f g a b (x ∷ xs) (y ∷ ys) e h =
    let here : f x ≡ g y = h 0 (omega arith) in
    let there : flat_map f xs ≡ flat_map g ys = same_ranges f g a b xs ys (omega (arith, e)) (λ i l. h (suc i) (omega (arith, l))) in
    ap (λ r. r ++ flat_map f xs) here ∙ ap (λ r. g y ++ r) there

-- Of one slot.
core_of_held : (place : Place) (clicks : ℕ) → core_range (Some place) clicks ≡ core_of_place place clicks
core_of_held (Core c) clicks = refl
core_of_held (Swap block) clicks = refl

swap_of_held : (place : Place) (clicks : ℕ) → swap_range (Some place) (blocks clicks) ≡ swap_of_place place clicks
swap_of_held (Core c) clicks = refl
swap_of_held (Swap block) clicks = refl

pub core_same : (row : TableRow) (user : Option ℕ) (x : Keeping) → IsRowOf row user x → core_of_row row ≡ core_of x
core_same row user Nothing a = ap (λ p. core_range p row.size) a.place
core_same row user (Alive held) a =
    ap (λ p. core_range p row.size) a.place ∙ (ap (λ n. core_range (Some held.place) n) (a.size held refl) ∙ core_of_held held.place (clicks_of held.u))
core_same row user (Grave u block) a = ap (λ p. core_range p row.size) a.place

pub swap_same : (row : TableRow) (user : Option ℕ) (x : Keeping) → IsRowOf row user x → swap_of_row row ≡ swap_of x
swap_same row user Nothing a = ap (λ p. swap_range p (cond (is_zombie row.stat) 1 (blocks row.size))) a.place
swap_same row user (Alive held) a =
    ap (λ p. swap_range p (cond (is_zombie row.stat) 1 (blocks row.size))) a.place
    ∙ (ap (λ b. swap_range (Some held.place) (cond b 1 (blocks row.size))) a.zombie
    ∙ (ap (λ n. swap_range (Some held.place) (blocks n)) (a.size held refl) ∙ swap_of_held held.place (clicks_of held.u)))
swap_same row user (Grave u block) a =
    ap (λ p. swap_range p (cond (is_zombie row.stat) 1 (blocks row.size))) a.place
    ∙ ap (λ b. swap_range (Some (Swap block)) (cond b 1 (blocks row.size))) a.zombie

-- Of the texts.
pub core_texts : (texts : List (Option Shared)) → flat_map board.core_of_text (map text_place texts) ≡ flat_map core_of_text texts
core_texts [] = refl
core_texts (None ∷ texts) = core_texts texts
core_texts (Some x ∷ texts) = ap (λ l. core_of_text (Some x) ++ l) (core_texts texts)

pub swap_texts : (texts : List (Option Shared)) → flat_map board.swap_of_text (map text_place texts) ≡ flat_map swap_of_text texts
swap_texts [] = refl
swap_texts (None ∷ texts) = swap_texts texts
swap_texts (Some x ∷ texts) = ap (λ l. swap_of_text (Some x) ++ l) (swap_texts texts)

-- Of all slots.
module _ (t : Table) (k : Kept) (a : Matches t k) (long : length k.slots ≡ 50) where
  pub core_at : (i : ℕ) → i < length t.rows → core_of_row (row_at t i) ≡ core_of (keeping k i)
  core_at zero l = ap (λ p. core_range p (row_at t 0).size) a.kernel ∙ ap core_of (sym a.images)
  core_at (suc i) l = core_same (row_at t (suc i)) (text_of k (suc i)) (keeping k (suc i)) (a.each (suc i) (omega arith) (omega (arith, l, a.rows)))

  pub swap_at : (i : ℕ) → i < length t.rows → swap_of_row (row_at t i) ≡ swap_of (keeping k i)
  swap_at zero l = ap (λ p. swap_range p (cond (is_zombie (row_at t 0).stat) 1 (blocks (row_at t 0).size))) a.kernel ∙ ap swap_of (sym a.images)
  swap_at (suc i) l = swap_same (row_at t (suc i)) (text_of k (suc i)) (keeping k (suc i)) (a.each (suc i) (omega arith) (omega (arith, l, a.rows)))

  pub same_core_fit : (clicks : ℕ) → board.core_fit (board_of t k) clicks ≡ core_fit k clicks
  unfolding core_fit
  same_core_fit clicks =
      let rows : flat_map core_of_row t.rows ≡ flat_map core_of k.slots = same_ranges core_of_row core_of empty_row Nothing t.rows k.slots (a.rows ∙ sym long) core_at in
      ap (λ taken. first_fit taken 1 k.core clicks) (λ i. rows i ++ core_texts k.texts i)

  pub same_swap_fit : (count : ℕ) → board.swap_fit (board_of t k) count ≡ swap_fit k count
  unfolding swap_fit
  same_swap_fit count =
      let rows : flat_map swap_of_row t.rows ≡ flat_map swap_of k.slots = same_ranges swap_of_row swap_of empty_row Nothing t.rows k.slots (a.rows ∙ sym long) swap_at in
      ap (λ taken. first_fit taken 4000 4871 count) (λ i. rows i ++ swap_texts k.texts i)

text_need_same : (t : Table) (k : Kept) (o : Option ℕ) → clicks_of_text (board_of t k) o ≡ text_need k o
text_need_same t k None = refl
text_need_same t k (Some j) = ap swapper.clicks_to_load (text_at_map k.texts j) ∙ need_same (get_or k.texts j None)

-- the clicks of a slot with an image
pub same_size : (t : Table) (k : Kept) (s : ℕ) (held : Held) → Matches t k → 0 < s → s < 50 → keeping k s ≡ Alive held
    → (row_at t s).size ≡ clicks_of (area_of k s)
same_size t k s held a l m h = (a.each s l m).size held h ∙ ap (λ x. clicks_of (area_in x)) (sym h)

pub same_need : (t : Table) (k : Kept) (s : ℕ) (held : Held) → Matches t k → 0 < s → s < 50 → keeping k s ≡ Alive held
    → need (board_of t k) s ≡ clicks_to_load k s
same_need t k s held a l m h =
    let size : (row_at t s).size ≡ clicks_of (area_of k s) = same_size t k s held a l m h in
    let text : clicks_of_text (board_of t k) (row_at t s).text ≡ text_need k (text_of k s) =
    ap (clicks_of_text (board_of t k)) (a.each s l m).text ∙ text_need_same t k (text_of k s) in
    omega (arith, size, text)

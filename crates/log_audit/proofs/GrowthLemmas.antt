-- An image that grows and takes a new place in core: what becomes of the board.
use Rattle.std.proofs.Common.{◌≡◌, ◌∙◌, ◌<◌, ◌≤◌, ◌+◌, ◌-◌, ℕ, true, cond, List, [], length, map, get_or, set, set-set, Option, Some, None, refl, sym, ap, arith}
use Rattle.std.proofs.lemmas.List.{length-map, set-get_or, get_or-set_same}
use Rattle.map_fit.specs.Fit.{Range}
use Rattle.v6_base.specs.declared.entry.Place.TheVariants.{Core}
use Rattle.pick_rules.specs.declared.row.TableRow.{TableRow}
use Rattle.pick_rules.specs.Table.{empty_row, row_at, with_row, is_loaded, is_in_core}
use Rattle.pick_rules.specs.Board.{TextPlace, Board, text_at}
use Rattle.pick_rules.specs.Apply.{in_table, change_row, changed, leaves_core, enters_core, without_place, at_place}
use Rattle.pick_rules.proofs.Placing.{moved_in, moved_core}
use Rattle.log_audit.specs.declared.world.World.{World}
use Rattle.log_audit.specs.World.{text_place, board_of, unplaced, in_at}
use Rattle.log_audit.specs.Sound.{IsLoose}
use Rattle.log_audit.proofs.MapLemmas.{text_is}
use Rattle.log_audit.proofs.Shared.{HasEntry, has_entry, loaded_is}

-- a board by its parts
pub board_is : (a b : Board) → a.table ≡ b.table → a.texts ≡ b.texts → a.core ≡ b.core → a ≡ b
board_is a b t x c =
    ap (λ y. record { table = y; texts = a.texts; core = a.core }) t
    ∙ ap (λ y. record { table = b.table; texts = y; core = a.core }) x
    ∙ ap (λ y. record { table = b.table; texts = b.texts; core = y }) c

abbrev pub less : TextPlace → TextPlace
less text = record text { loaded = text.loaded - 1 }

abbrev pub more : TextPlace → TextPlace
more text = record text { loaded = text.loaded + 1 }

-- a user of a text leaves core and enters it again
again_loaded : (texts : List (Option TextPlace)) (k : ℕ) (t : TextPlace) → get_or texts k None ≡ Some t → k < length texts → 1 ≤ t.loaded
    → set (set texts k (changed (get_or texts k None) less)) k (changed (get_or (set texts k (changed (get_or texts k None) less)) k None) more) ≡ texts
again_loaded texts k t e l n =
    let back : t.loaded - 1 + 1 ≡ t.loaded = omega (arith, n) in
    set-set texts k (changed (get_or texts k None) less) (changed (get_or (set texts k (changed (get_or texts k None) less)) k None) more)
    ∙ ap (λ o. set texts k (changed o more)) (get_or-set_same texts k (changed (get_or texts k None) less) None l)
    ∙ ap (λ o. set texts k (changed (changed o less) more)) e
    ∙ ap (λ m. set texts k (Some (record t { loaded = m }))) back
    ∙ ap (set texts k) (sym e) ∙ set-get_or texts k None

-- the text of a row, if it has one, has a user in core
abbrev pub IsSeated : Board → Option ℕ → Type 0
IsSeated b None = Unit {0}
IsSeated b (Some k) = (t : TextPlace) × (text_at b k ≡ Some t) × (k < length b.texts) × (1 ≤ t.loaded)

module _ (b : Board) (s size c : ℕ) (l : s < length b.table.rows) where
  text_stays : (row_at (change_row b.table s unplaced) s).text ≡ (row_at b.table s).text
  text_stays = ap (λ (r : TableRow). r.text) (get_or-set_same b.table.rows s (unplaced (row_at b.table s)) empty_row l)

  by_text : (o : Option ℕ) → (row_at b.table s).text ≡ o → IsSeated b o → (at_place (in_table (leaves_core b o) (λ t. change_row t s unplaced)) s size (Core c)).texts ≡ b.texts
  by_text None e h = ap (λ y. (enters_core (in_table b (λ t. change_row t s unplaced)) y).texts) (text_stays ∙ e)
  by_text (Some k) e h =
      ap (λ y. (enters_core (in_table (leaves_core b (Some k)) (λ t. change_row t s unplaced)) y).texts) (text_stays ∙ e) ∙ again_loaded b.texts k h.0 h.1 h.2 h.3

  pub grown_texts : is_loaded b.table s ≡ true → IsSeated b (row_at b.table s).text → (at_place (without_place b s) s size (Core c)).texts ≡ b.texts
  grown_texts e h =
      ap (λ x. (at_place (in_table (cond x (leaves_core b (row_at b.table s).text) b) (λ t. change_row t s unplaced)) s size (Core c)).texts) e
      ∙ by_text (row_at b.table s).text refl h

length_texts : (w : World) → length (map text_place w.texts) ≡ length w.texts
length_texts w = length-map w.texts text_place

-- where a row of a loose world stands in core, so it is
pub seated : (w : World) (s c : ℕ) (cl sl : List Range) → IsLoose w cl sl → s < 50 → (row_at w.table s).place ≡ Some (Core c) → IsSeated (board_of w) (row_at w.table s).text
seated w s c cl sl l m p = by (row_at w.table s).text refl
  where
    by : (o : Option ℕ) → (row_at w.table s).text ≡ o → IsSeated (board_of w) o
    by None e = tt
    by (Some k) e =
        let h : HasEntry w s k = has_entry w s k cl sl l m e in
        let n = l.texts in let small = h.small in
        (record { clicks = h.text.clicks; users = h.text.users; loaded = h.text.loaded; click = h.text.click; block = h.text.block }, text_is w.texts k ∙ ap text_place h.there, omega (arith, length_texts w, n, small), h.loads (ap is_in_core p))

pub grown_board : (w : World) (s size from to : ℕ) → IsLoose w [] [] → s < 50 → 0 < s → (row_at w.table s).place ≡ Some (Core from)
    → board_of (record w { table = with_row w.table s (in_at (row_at w.table s) size to) }) ≡ at_place (without_place (board_of w) s) s size (Core to)
grown_board w s size from to l m u p =
    sym (board_is (at_place (without_place (board_of w) s) s size (Core to)) (board_of (record w { table = with_row w.table s (in_at (row_at w.table s) size to) }))
    (moved_in (board_of w) s size to inside)
    (grown_texts (board_of w) s size to inside (loaded_is w.table s u ∙ ap is_in_core p) (seated w s from [] [] l m p))
    (moved_core (board_of w) s size (Core to)))
  where
    inside : s < length w.table.rows
    inside = let r = l.rows in omega (arith, r, m)

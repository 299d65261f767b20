-- An image that comes into core, and its text before it where that isn't there.
use Rattle.std.proofs.Common.{◌≡◌, ◌≢◌, ◌∙◌, ◌<◌, ◌+◌, ◌-◌, ◌==◌, nat_lt, ℕ, zero, suc, Bool, true, false, not, cond, List, [], ◌∷◌, length, map, get_or, set, sum_by, Option, Some, None, refl, sym, ap, subst, arith}
use Rattle.std.proofs.lemmas.Bool.{eq-eqb, ne_eqb, lt-ltb}
use Rattle.std.proofs.lemmas.List.{get_or-set_same}
use Rattle.std.proofs.lemmas.List.Sums.{sum_by-cons}
use Rattle.map_fit.specs.Fit.{Range}
use Rattle.map_fit.specs.Free.{is_within}
use Rattle.v6_base.specs.declared.entry.Place.TheVariants.{Core, Swap}
use Rattle.v6_base.specs.declared.entry.Entry.TheVariants as line
use Rattle.pick_rules.specs.declared.row.TableRow.{TableRow}
use Rattle.pick_rules.specs.declared.table.Table.{Table}
use Rattle.pick_rules.specs.Table.{empty_row, row_at, with_row}
use Rattle.pick_rules.specs.Board.{TextPlace, Board, text_at, with_text, may_load, is_text_loaded}
use Rattle.pick_rules.specs.Swapper.{need, clicks_of_text, clicks_to_load}
use Rattle.pick_rules.specs.Apply.{in_table, change_row, changed, enters_core, without_place, at_place, brought, brought_by, applied}
use Rattle.pick_rules.proofs.Placing.{row_in, again_row, loaded_row, HasCome, comes_in, moved_in}
use Rattle.log_audit.specs.declared.world.TextRow.{TextRow}
use Rattle.log_audit.specs.declared.world.World.{World}
use Rattle.log_audit.specs.World.{text_place, board_of, unplaced, first_at}
use Rattle.log_audit.specs.Sound.{one, range_has, IsLoose, IsWhole, entry_at}
use Rattle.log_audit.proofs.MapLemmas.{text_is}
use Rattle.log_audit.proofs.Claims.{range, with_maps}
use Rattle.log_audit.proofs.Moves.{Living, in_two, gained_with}
use Rattle.log_audit.proofs.Shared.{without_row, left_swap, map_set}
use Rattle.log_audit.proofs.Images.{in_whole}
use Rattle.log_audit.proofs.ForkLemmas.{same_may}
use Rattle.log_audit.proofs.RowLemmas.{row_whole}

abbrev place_of : TextRow → TextPlace
place_of t = record { clicks = t.clicks; users = t.users; loaded = t.loaded; click = t.click; block = t.block }

there : (w : World) (k : ℕ) (t : TextRow) → entry_at w.texts k ≡ Some t → text_at (board_of w) k ≡ Some (place_of t)
there w k t f = text_is w.texts k ∙ ap text_place f

inside : (w : World) (s : ℕ) (cl sl : List Range) → IsLoose w cl sl → s < 50 → s < length w.table.rows
inside w s cl sl l m = let r = l.rows in omega (arith, r, m)

-- who gives up blocks of the swap area leaves the texts as they are
pub texts_left : (w v : World) (s block : ℕ) → 0 < s → (row_at w.table s).place ≡ Some (Swap block) → board_of v ≡ without_place (board_of w) s → map text_place v.texts ≡ map text_place w.texts
texts_left w v s block u p e = ap (λ (b : Board). b.texts) (e ∙ sym (left_swap w s block u p))

pub may_still : (w v : World) (s block : ℕ) → s < length w.table.rows → 0 < s → (row_at w.table s).place ≡ Some (Swap block)
    → board_of v ≡ without_place (board_of w) s → may_load (board_of w) (row_at w.table s).text ≡ true → may_load (board_of v) (row_at v.table s).text ≡ true
may_still w v s block l u p e h =
    ap (λ (b : Board). may_load b (row_at b.table s).text) (e ∙ sym (left_swap w s block u p))
    ∙ ap (may_load (board_of (without_row w s))) (ap (λ (r : TableRow). r.text) (get_or-set_same w.table.rows s (unplaced (row_at w.table s)) empty_row l))
    ∙ same_may (board_of (without_row w s)) (board_of w) (row_at w.table s).text refl ∙ h

-- an image that has taken a new place in core
pub in_again : (w v : World) (s size c : ℕ) → IsWhole w → s < 50 → board_of v ≡ at_place (without_place (board_of w) s) s size (Core c) → IsLoose v [] [] → IsWhole v
in_again w v s size c h m e l =
    in_whole w v s size c h m (ap (λ (b : Board). b.table) e ∙ moved_in (board_of w) s size c (inside w s [] [] h.loose m)) l

-- an image that has left the swap area stands as from there
abbrev more : TextPlace → TextPlace
more text = record text { loaded = text.loaded + 1 }

placed_again : (b : Board) (s size c : ℕ) → s < length b.table.rows → at_place (in_table b (λ t. change_row t s unplaced)) s size (Core c) ≡ at_place b s size (Core c)
placed_again b s size c l =
    ap (λ o. in_table (enters_core (in_table b (λ t. change_row t s unplaced)) o) (λ t. change_row t s (λ row. row_in row size c)))
    (ap (λ (r : TableRow). r.text) (get_or-set_same b.table.rows s (unplaced (row_at b.table s)) empty_row l))
    ∙ by (row_at b.table s).text
  where
    by : (o : Option ℕ) → in_table (enters_core (in_table b (λ t. change_row t s unplaced)) o) (λ t. change_row t s (λ row. row_in row size c))
        ≡ in_table (enters_core b o) (λ t. change_row t s (λ row. row_in row size c))
    by None = ap (λ y. record { table = y; texts = b.texts; core = b.core }) (again_row b.table s (unplaced (row_at b.table s)) (λ row. row_in row size c) l)
    by (Some k) = ap (λ y. record { table = y; texts = set b.texts k (changed (get_or b.texts k None) more); core = b.core }) (again_row b.table s (unplaced (row_at b.table s)) (λ row. row_in row size c) l)

pub come_board : (w v : World) (s size block c : ℕ) → s < length w.table.rows → 0 < s → (row_at w.table s).place ≡ Some (Swap block)
    → board_of v ≡ without_place (board_of w) s → at_place (board_of v) s size (Core c) ≡ at_place (board_of w) s size (Core c)
come_board w v s size block c l u p e =
    ap (λ (b : Board). at_place b s size (Core c)) (e ∙ sym (left_swap w s block u p)) ∙ placed_again (board_of w) s size c l

-- a claim in two
pub split_claim : (w : World) (c a b n : ℕ) (cl sl : List Range) → 0 < a → 0 < b → n ≡ a + b → IsLoose w (range c n ∷ cl) sl → IsLoose w (range (c + a) b ∷ range c a ∷ cl) sl
split_claim w c a b n cl sl p q e l =
    with_maps w w.core_map w.swap_map (range c n ∷ cl) sl (range (c + a) b ∷ range c a ∷ cl) sl l
    (λ x.
    let i : sum_by (range_has x) (range c n ∷ cl) ≡ one (is_within c n x) + sum_by (range_has x) cl = sum_by-cons (range_has x) (range c n) cl in
    let j : sum_by (range_has x) (range (c + a) b ∷ range c a ∷ cl) ≡ one (is_within (c + a) b x) + sum_by (range_has x) (range c a ∷ cl) = sum_by-cons (range_has x) (range (c + a) b) (range c a ∷ cl) in
    let k : sum_by (range_has x) (range c a ∷ cl) ≡ one (is_within c a x) + sum_by (range_has x) cl = sum_by-cons (range_has x) (range c a) cl in
    let m : n - a ≡ b = omega (arith, e) in
    let g : one (is_within c n x) ≡ one (is_within c a x) + one (is_within (c + a) (n - a) x) = in_two c n a x (omega (arith, e)) in
    let h : one (is_within (c + a) (n - a) x) ≡ one (is_within (c + a) b x) = ap (λ y. one (is_within (c + a) y x)) m in
    omega (arith, i, j, k, g, h))
    (λ x. refl) (q, (p, l.core_some.1)) l.swap_some

-- the text's clicks stand before the image, since nobody uses it in core
pub both_claimed : (w : World) (t : TextRow) (c size n : ℕ) → 0 < t.clicks → 0 < size → n ≡ size + t.clicks → t.loaded ≡ 0 → IsLoose w (range c n ∷ []) []
    → IsLoose w (range (c + t.clicks) size ∷ gained_with (first_at t c) []) []
both_claimed w t c size n p q e z l =
    subst (λ b. IsLoose w (range (c + t.clicks) size ∷ cond b (range c t.clicks ∷ []) []) []) (sym (eq-eqb t.loaded 0 z))
    (split_claim w c t.clicks size n [] [] p q (omega (arith, e)) l)

-- a text is what its place says
text_by : (o : Option TextRow) (t : TextRow) → text_place o ≡ Some (place_of t) → o ≡ Some t
text_by None t e = absurd (cc e)
text_by (Some x) t e =
    let g : place_of x ≡ place_of t = some_is e in
    ap (λ (p : TextPlace). Some (record { clicks = p.clicks; users = p.users; loaded = p.loaded; click = p.click; block = p.block })) g
  where
    some_is : {x y : TextPlace} → ◌≡◌ {A = Option TextPlace} (Some x) (Some y) → x ≡ y
    some_is f = cc f

pub text_left : (w v : World) (s block k : ℕ) (t : TextRow) → 0 < s → (row_at w.table s).place ≡ Some (Swap block) → board_of v ≡ without_place (board_of w) s → entry_at w.texts k ≡ Some t → entry_at v.texts k ≡ Some t
text_left w v s block k t u p e f =
    text_by (entry_at v.texts k) t (sym (text_is v.texts k) ∙ ap (λ ts. get_or ts k None) (texts_left w v s block u p e) ∙ there w k t f)

-- how much an image needs, by its text
pub need_plain : (b : Board) (s : ℕ) → (row_at b.table s).text ≡ None → need b s ≡ (row_at b.table s).size
need_plain b s e = let f : clicks_of_text b (row_at b.table s).text ≡ 0 = ap (clicks_of_text b) e in omega (arith, f)

need_by : (w : World) (s k : ℕ) (t : TextRow) → (row_at w.table s).text ≡ Some k → entry_at w.texts k ≡ Some t → clicks_of_text (board_of w) (row_at w.table s).text ≡ cond (nat_lt 0 t.loaded) 0 t.clicks
need_by w s k t e f = ap (clicks_of_text (board_of w)) e ∙ ap clicks_to_load (there w k t f)

is_some_more : (n : ℕ) → (n == 0) ≡ false → nat_lt 0 n ≡ true
is_some_more zero e = absurd (cc e)
is_some_more (suc n) e = lt-ltb 0 (suc n) (omega arith)

is_none_more : (n : ℕ) → n ≡ 0 → nat_lt 0 n ≡ false
is_none_more n e = ap (nat_lt 0) e

pub need_there : (w : World) (s k : ℕ) (t : TextRow) → (row_at w.table s).text ≡ Some k → entry_at w.texts k ≡ Some t → t.loaded ≢ 0 → need (board_of w) s ≡ (row_at w.table s).size
need_there w s k t e f n =
    let g = need_by w s k t e f in
    let h : cond (nat_lt 0 t.loaded) 0 t.clicks ≡ 0 = ap (λ b. cond b 0 t.clicks) (is_some_more t.loaded (ne_eqb t.loaded 0 n)) in omega (arith, g, h)

pub need_away : (w : World) (s k : ℕ) (t : TextRow) → (row_at w.table s).text ≡ Some k → entry_at w.texts k ≡ Some t → t.loaded ≡ 0 → need (board_of w) s ≡ (row_at w.table s).size + t.clicks
need_away w s k t e f z =
    let g = need_by w s k t e f in
    let h : cond (nat_lt 0 t.loaded) 0 t.clicks ≡ t.clicks = ap (λ b. cond b 0 t.clicks) (is_none_more t.loaded z) in omega (arith, g, h)

-- where it comes to stand
pub brought_plain : (b : Board) (s c : ℕ) → (row_at b.table s).text ≡ None → at_place b s (row_at b.table s).size (Core c) ≡ brought b s (row_at b.table s).text c
brought_plain b s c e = ap (λ o. brought b s o c) (sym e)

abbrev before : Board → ℕ → ℕ → TextPlace → ℕ → Board
before b s k text c = at_place (with_text b k (Some (record text { click = c }))) s (row_at b.table s).size (Core (c + text.clicks))

brought_as : (w : World) (s k c : ℕ) (t : TextRow) (x : Bool) → (row_at w.table s).text ≡ Some k → entry_at w.texts k ≡ Some t → (t.loaded == 0) ≡ x
    → cond x (before (board_of w) s k (place_of t) c) (at_place (board_of w) s (row_at w.table s).size (Core c)) ≡ brought (board_of w) s (row_at w.table s).text c
brought_as w s k c t x e f z =
    ap (λ y. cond y (before (board_of w) s k (place_of t) c) (at_place (board_of w) s (row_at w.table s).size (Core c))) (sym z)
    ∙ ap (λ o. brought_by (board_of w) s k o c) (sym (there w k t f))
    ∙ ap (λ o. brought (board_of w) s o c) (sym e)

pub brought_there : (w : World) (s k c : ℕ) (t : TextRow) → (row_at w.table s).text ≡ Some k → entry_at w.texts k ≡ Some t → t.loaded ≢ 0
    → at_place (board_of w) s (row_at w.table s).size (Core c) ≡ brought (board_of w) s (row_at w.table s).text c
brought_there w s k c t e f n = brought_as w s k c t false e f (ne_eqb t.loaded 0 n)

abbrev pub clicked : World → ℕ → TextRow → ℕ → World
clicked w k t c = record w { texts = set w.texts k (Some (first_at t c)) }

pub brought_away : (w : World) (s k c : ℕ) (t : TextRow) → (row_at w.table s).text ≡ Some k → entry_at w.texts k ≡ Some t → t.loaded ≡ 0
    → at_place (board_of (clicked w k t c)) s (row_at w.table s).size (Core (c + t.clicks)) ≡ brought (board_of w) s (row_at w.table s).text c
brought_away w s k c t e f z =
    ap (λ ts. at_place (record { table = w.table; texts = ts; core = w.core }) s (row_at w.table s).size (Core (c + t.clicks))) (map_set w.texts k (Some (first_at t c)))
    ∙ brought_as w s k c t true e f (eq-eqb t.loaded 0 z)

pub clicked_there : (w : World) (k c : ℕ) (t : TextRow) → k < length w.texts → entry_at (clicked w k t c).texts k ≡ Some (first_at t c)
clicked_there w k c t l = get_or-set_same w.texts k (Some (first_at t c)) None l

pub may_there : (w : World) (s k : ℕ) (t : TextRow) → (row_at w.table s).text ≡ Some k → entry_at w.texts k ≡ Some t → t.loaded ≢ 0 → may_load (board_of w) (row_at w.table s).text ≡ true
may_there w s k t e f n = ap (may_load (board_of w)) e ∙ ap is_text_loaded (there w k t f) ∙ ap not (ne_eqb t.loaded 0 n)

pub may_plain : (b : Board) (s : ℕ) → (row_at b.table s).text ≡ None → may_load b (row_at b.table s).text ≡ true
may_plain b s e = ap (may_load b) e

-- it has come, and rests there
pub come_whole : (w v : World) (s c : ℕ) → IsWhole w → s < 50 → Living (row_at w.table s) → board_of v ≡ applied (board_of w) (line.SwapIn s c) → IsLoose v [] [] → IsWhole v
come_whole w v s c h m a e l =
    let k : HasCome (board_of w) s (applied (board_of w) (line.SwapIn s c)) = comes_in (board_of w) s c (inside w s [] [] h.loose m) in
    row_whole w v s (loaded_row (row_at w.table s) k.click) h m (λ g. cc g) (record { used = a.used; alive = a.alive }) (ap (λ (b : Board). b.table) e ∙ k.table) l

-- the row of an image that has given up its place
pub released : (w v : World) (s : ℕ) → IsWhole w → s < 50 → v.table ≡ with_row w.table s (unplaced (row_at w.table s)) → row_at v.table s ≡ unplaced (row_at w.table s)
released w v s h m e = ap (λ (t : Table). row_at t s) e ∙ get_or-set_same w.table.rows s (unplaced (row_at w.table s)) empty_row (inside w s [] [] h.loose m)

pub inside_whole : (w : World) (s : ℕ) → IsWhole w → s < 50 → s < length w.table.rows
inside_whole w s h m = inside w s [] [] h.loose m

-- A child that comes into a slot: what becomes of the board, and that its image may stand where its parent's may.
use Rattle.std.proofs.Common.{◌≡◌, ◌≢◌, ◌∙◌, ◌<◌, ◌+◌, ℕ, zero, suc, true, List, [], ◌∷◌, length, map, get_or, set, Option, Some, None, refl, sym, ap, arith, inl}
use Rattle.std.proofs.lemmas.List.{get_or-set_same}
use Rattle.v6_base.specs.declared.entry.Place.TheVariants.{Core, Swap}
use Rattle.pick_rules.specs.declared.row.Stat.TheVariants.{Ready}
use Rattle.pick_rules.specs.declared.row.TableRow.{TableRow}
use Rattle.pick_rules.specs.declared.table.Table.{Table}
use Rattle.pick_rules.specs.Table.{empty_row, child_row, row_at, with_row}
use Rattle.pick_rules.specs.Sleepers.{runout_told}
use Rattle.pick_rules.specs.Board.{TextPlace, Board, text_at, may_load, is_text_loaded}
use Rattle.pick_rules.specs.Apply.{in_table, change_row, changed, joins, at_place}
use Rattle.pick_rules.proofs.Placing.{row_in, row_out, text_table, again_row, core_table}
use Rattle.log_audit.specs.declared.world.TextRow.{TextRow}
use Rattle.log_audit.specs.declared.world.World.{World}
use Rattle.log_audit.specs.World.{text_place, board_of, sharing, more_users, born}
use Rattle.log_audit.specs.Sound.{IsLoose, IsWhole, entry_at}
use Rattle.log_audit.proofs.MapLemmas.{text_is}
use Rattle.log_audit.proofs.Shared.{HasEntry, has_entry, map_set}
use Rattle.log_audit.proofs.RowLemmas.{row_whole, told_whole}

-- the row of a child whose parent has this nice and this text
abbrev child_of : TableRow → Option ℕ → TableRow
child_of parent o = record empty_row { stat = Ready; nice = parent.nice; text = o }

abbrev pub with_child : World → ℕ → TableRow → World
with_child w child parent = record w { table = with_row w.table child (born parent.nice) }

pub shared_table : (t : Table) (child k : ℕ) (parent : TableRow) → child < length t.rows → parent.text ≡ Some k
    → change_row (with_row t child (born parent.nice)) child (λ row. sharing row k) ≡ with_row t child (child_row parent)
shared_table t child k parent l e = again_row t child (born parent.nice) (λ row. sharing row k) l ∙ ap (λ o. with_row t child (child_of parent o)) (sym e)

-- the child has joined its parent's text
abbrev pub joined : World → ℕ → ℕ → TextRow → World
joined w child k t = record w { table = with_row w.table child (sharing (row_at w.table child) k); texts = set w.texts k (Some (more_users t)) }

pub shared_board : (w : World) (child k : ℕ) (parent : TableRow) (t : TextRow) → child < length w.table.rows → parent.text ≡ Some k → entry_at w.texts k ≡ Some t
    → board_of (joined (with_child w child parent) child k t) ≡ joins (in_table (board_of w) (λ t. with_row t child (child_row parent))) parent.text
shared_board w child k parent t l e f =
    ap (λ y. record { table = y; texts = map text_place (set w.texts k (Some (more_users t))); core = w.core }) (shared_table w.table child k parent l e)
    ∙ ap (λ ts. record { table = with_row w.table child (child_row parent); texts = ts; core = w.core }) (map_set w.texts k (Some (more_users t)))
    ∙ ap (λ o. record { table = with_row w.table child (child_row parent); texts = set (map text_place w.texts) k (changed o (λ text. record text { users = text.users + 1 })); core = w.core }) (sym (text_is w.texts k ∙ ap text_place f))
    ∙ ap (λ o. joins (in_table (board_of w) (λ t. with_row t child (child_row parent))) o) (sym e)

-- the text of who runs is there
pub text_there : (w : World) (s k : ℕ) → IsWhole w → s < 50 → (row_at w.table s).text ≡ Some k → (k < 40) × (entry_at w.texts k ≢ None)
text_there w s k h m e =
    let x : HasEntry w s k = has_entry w s k [] [] h.loose m e in
    (x.small, λ f. let g = sym x.there ∙ f in cc g)

-- a text is as much in core with one user more
pub in_list : {A : Type 0} (xs : List (Option A)) (k : ℕ) (x : A) → get_or xs k None ≡ Some x → k < length xs
in_list [] k x e = absurd (cc e)
in_list (y ∷ ys) zero x e = omega arith
in_list (y ∷ ys) (suc k) x e = let h = in_list ys k x e in omega (arith, h)

abbrev one_more : TextPlace → TextPlace
one_more text = record text { users = text.users + 1 }

joined_may : (b : Board) (o : Option ℕ) → may_load b o ≡ true → may_load (joins b o) o ≡ true
joined_may b None h = refl
joined_may b (Some k) h = by (text_at b k) refl h
  where
    by : (o : Option TextPlace) → text_at b k ≡ o → is_text_loaded o ≡ true → is_text_loaded (text_at (joins b (Some k)) k) ≡ true
    by None f g = absurd (cc g)
    by (Some t) f g =
        ap is_text_loaded (get_or-set_same b.texts k (changed (text_at b k) one_more) None (in_list b.texts k t f))
        ∙ ap (λ o. is_text_loaded (changed o one_more)) f ∙ g

pub same_may : (a b : Board) (o : Option ℕ) → a.texts ≡ b.texts → may_load a o ≡ may_load b o
same_may a b None e = refl
same_may a b (Some k) e = ap (λ (ts : List (Option TextPlace)). is_text_loaded (get_or ts k None)) e

pub child_may : (b now : Board) (child : ℕ) (parent : TableRow) → child < length b.table.rows
    → now ≡ joins (in_table b (λ t. with_row t child (child_row parent))) parent.text
    → may_load b parent.text ≡ true → may_load now (row_at now.table child).text ≡ true
child_may b now child parent l e h =
    ap (λ (x : Board). may_load x (row_at x.table child).text) e
    ∙ ap (may_load (joins there parent.text)) (ap (λ (t : Table). (row_at t child).text) (text_table there parent.text one_more) ∙ ap (λ (r : TableRow). r.text) (get_or-set_same b.table.rows child (child_row parent) empty_row l))
    ∙ joined_may there parent.text (same_may there b parent.text refl ∙ h)
  where
    there : Board
    there = in_table b (λ t. with_row t child (child_row parent))

-- the child has its place
pub child_in : (w v mid : World) (child size c : ℕ) (parent : TableRow) → IsWhole w → child < 50 → mid.table ≡ with_row w.table child (child_row parent)
    → board_of v ≡ at_place (board_of mid) child size (Core c) → IsLoose v [] [] → IsWhole v
child_in w v mid child size c parent h m e f l =
    row_whole w v child (row_in (child_row parent) size c) h m (λ g. cc g) (record { used = refl; alive = refl })
    (ap (λ (b : Board). b.table) f ∙ core_table (board_of mid) child size c ∙ ap (λ t. change_row t child (λ row. row_in row size c)) e
    ∙ again_row w.table child (child_row parent) (λ row. row_in row size c) (let r = h.loose.rows in omega (arith, r, m)))
    l

pub child_out : (w v mid : World) (child size block : ℕ) (parent : TableRow) → IsWhole w → child < 50 → mid.table ≡ with_row w.table child (child_row parent)
    → board_of v ≡ at_place (board_of mid) child size (Swap block) → IsLoose v [] [] → IsWhole v
child_out w v mid child size block parent h m e f l =
    told_whole w v child (row_out (child_row parent) size block) h m (λ g. cc g) (record { used = refl; alive = refl }) (inl refl)
    (ap (λ (b : Board). b.table) f ∙ ap (λ t. runout_told (change_row t child (λ row. row_out row size block))) e
    ∙ ap runout_told (again_row w.table child (child_row parent) (λ row. row_out row size block) (let r = h.loose.rows in omega (arith, r, m))))
    l

-- A slot that leaves its text, and a text that goes with its last user: what becomes of the board.
use Rattle.std.proofs.Common.{◌≡◌, ◌≢◌, ◌∙◌, ◌<◌, ◌≤◌, ◌-◌, ◌==◌, ℕ, true, false, cond, List, [], length, map, get_or, set, set-set, Option, Some, None, refl, sym, ap, subst, arith}
use Rattle.std.proofs.lemmas.Bool.{eq-eqb}
use Rattle.std.proofs.lemmas.List.{length-map, set-get_or, get_or-set_same}
use Rattle.pick_rules.specs.Table.{row_at, with_row, is_in_core}
use Rattle.pick_rules.specs.Board.{TextPlace, Board}
use Rattle.pick_rules.specs.Apply.{in_table, change_row, changed, leaves_core, parted, left_text, kept, goes_if_unused}
use Rattle.log_audit.specs.declared.world.TextRow.{TextRow}
use Rattle.log_audit.specs.declared.world.World.{World}
use Rattle.log_audit.specs.World.{text_place, board_of, unshared, less_loaded, less_used}
use Rattle.log_audit.specs.Sound.{IsLoose, IsWhole, entry_at}
use Rattle.log_audit.proofs.MapLemmas.{text_is}
use Rattle.log_audit.proofs.Moves.{Living}
use Rattle.log_audit.proofs.Shared.{HasEntry, has_entry, map_set, loaded_is}
use Rattle.log_audit.proofs.RowLemmas.{row_whole, sharer}

abbrev one_less : TextPlace → TextPlace
one_less text = record text { users = text.users - 1 }

abbrev out_of : TextPlace → TextPlace
out_of text = record text { loaded = text.loaded - 1 }

abbrev place_of : TextRow → TextPlace
place_of t = record { clicks = t.clicks; users = t.users; loaded = t.loaded; click = t.click; block = t.block }

there : (w : World) (k : ℕ) (t : TextRow) → entry_at w.texts k ≡ Some t → get_or (map text_place w.texts) k None ≡ Some (place_of t)
there w k t f = text_is w.texts k ∙ ap text_place f

within : (w : World) (k : ℕ) → length w.texts ≡ 40 → k < 40 → k < length (map text_place w.texts)
within w k n m = let l = length-map w.texts text_place in omega (arith, l, n, m)

-- one of two changes of a text that follow each other
twice : (texts : List (Option TextPlace)) (k : ℕ) (t : TextPlace) (f g : TextPlace → TextPlace) → k < length texts → get_or texts k None ≡ Some t
    → set (set texts k (changed (get_or texts k None) f)) k (changed (get_or (set texts k (changed (get_or texts k None) f)) k None) g) ≡ set texts k (Some (g (f t)))
twice texts k t f g l e =
    set-set texts k (changed (get_or texts k None) f) (changed (get_or (set texts k (changed (get_or texts k None) f)) k None) g)
    ∙ ap (λ o. set texts k (changed o g)) (get_or-set_same texts k (changed (get_or texts k None) f) None l)
    ∙ ap (λ o. set texts k (changed (changed o f) g)) e

abbrev pub parted_by : World → ℕ → ℕ → TextRow → World
parted_by w s k t = record w { table = with_row w.table s (unshared (row_at w.table s)); texts = set w.texts k (Some t) }

pub parted_in : (w : World) (s k : ℕ) (t : TextRow) → IsWhole w → 0 < s → k < 40 → is_in_core (row_at w.table s).place ≡ true → (row_at w.table s).text ≡ Some k → entry_at w.texts k ≡ Some t
    → board_of (parted_by w s k (less_used (less_loaded t))) ≡ parted (left_text (board_of w) s) k
parted_in w s k t h u m p e f =
    ap (λ ts. record { table = with_row w.table s (unshared (row_at w.table s)); texts = ts; core = w.core })
    (map_set w.texts k (Some (less_used (less_loaded t))) ∙ sym (twice (map text_place w.texts) k (place_of t) out_of one_less (within w k h.loose.texts m) (there w k t f)))
    ∙ ap (λ o. parted (in_table (leaves_core (board_of w) o) (λ t. change_row t s unshared)) k) (sym e)
    ∙ ap (λ b. parted (in_table (cond b (leaves_core (board_of w) (row_at w.table s).text) (board_of w)) (λ t. change_row t s unshared)) k) (sym (loaded_is w.table s u ∙ p))

pub parted_out : (w : World) (s k : ℕ) (t : TextRow) → 0 < s → is_in_core (row_at w.table s).place ≡ false → entry_at w.texts k ≡ Some t
    → board_of (parted_by w s k (less_used t)) ≡ parted (left_text (board_of w) s) k
parted_out w s k t u p f =
    ap (λ ts. record { table = with_row w.table s (unshared (row_at w.table s)); texts = ts; core = w.core }) (map_set w.texts k (Some (less_used t)))
    ∙ ap (λ o. record { table = with_row w.table s (unshared (row_at w.table s)); texts = set (map text_place w.texts) k (changed o one_less); core = w.core }) (sym (there w k t f))
    ∙ ap (λ b. parted (in_table (cond b (leaves_core (board_of w) (row_at w.table s).text) (board_of w)) (λ t. change_row t s unshared)) k) (sym (loaded_is w.table s u ∙ p))

-- it stays in use, with its place, and the text stays where it is
pub parted_whole : (w v : World) (s k : ℕ) → IsWhole w → s < 50 → 0 < s → (row_at w.table s).text ≡ Some k → v.table ≡ with_row w.table s (unshared (row_at w.table s)) → IsLoose v [] [] → IsWhole v
parted_whole w v s k h m u e f l =
    let a : Living (row_at w.table s) = sharer (row_at w.table s) k (h.loose.each s) e in
    row_whole w v s (unshared (row_at w.table s)) h m (h.placed s u a.used (λ g. cc g)) (record { used = a.used; alive = a.alive }) f l

pub still_there : (w v : World) (k : ℕ) → board_of v ≡ board_of w → entry_at w.texts k ≢ None → entry_at v.texts k ≢ None
still_there w v k e n f = by (entry_at w.texts k) refl
  where
    same : text_place (entry_at v.texts k) ≡ text_place (entry_at w.texts k)
    same = sym (text_is v.texts k) ∙ ap (λ (b : Board). get_or b.texts k None) e ∙ text_is w.texts k

    by : (o : Option TextRow) → entry_at w.texts k ≡ o → ⊥
    by None g = n g
    by (Some t) g = let a : ◌≡◌ {A = Option TextPlace} None (Some (place_of t)) = sym (ap text_place f) ∙ same ∙ ap text_place g in cc a

pub set_there : (texts : List (Option TextRow)) (k : ℕ) (t : TextRow) → length texts ≡ 40 → k < 40 → entry_at (set texts k (Some t)) k ≢ None
set_there texts k t n m f = let a = get_or-set_same texts k (Some t) None (omega (arith, n, m)) in cc (a, f)

-- a text without a user goes, and one with a user stays
pub gone_text : (w : World) (k : ℕ) (t : TextRow) → entry_at w.texts k ≡ Some t → t.users ≡ 0 → board_of (record w { texts = set w.texts k None }) ≡ goes_if_unused (board_of w) k
gone_text w k t f z =
    ap (λ ts. record { table = w.table; texts = ts; core = w.core }) (map_set w.texts k None)
    ∙ ap (λ b. record { table = w.table; texts = set (map text_place w.texts) k (cond b None (Some (place_of t))); core = w.core }) (sym (eq-eqb t.users 0 z))
    ∙ ap (λ o. record { table = w.table; texts = set (map text_place w.texts) k (kept o); core = w.core }) (sym (there w k t f))

pub kept_text : (w : World) (k : ℕ) (t : TextRow) → entry_at w.texts k ≡ Some t → (t.users == 0) ≡ false → board_of w ≡ goes_if_unused (board_of w) k
kept_text w k t f z =
    ap (λ ts. record { table = w.table; texts = ts; core = w.core }) (sym (set-get_or (map text_place w.texts) k None) ∙ ap (set (map text_place w.texts) k) (there w k t f))
    ∙ ap (λ b. record { table = w.table; texts = set (map text_place w.texts) k (cond b None (Some (place_of t))); core = w.core }) (sym z)
    ∙ ap (λ o. record { table = w.table; texts = set (map text_place w.texts) k (kept o); core = w.core }) (sym (there w k t f))

-- the text of a slot has a user, and one in core where the slot is there
same_text : (w : World) (k : ℕ) (x y : TextRow) → entry_at w.texts k ≡ Some x → entry_at w.texts k ≡ Some y → x ≡ y
same_text w k x y f g = some_is (sym f ∙ g)
  where
    some_is : {a b : TextRow} → ◌≡◌ {A = Option TextRow} (Some a) (Some b) → a ≡ b
    some_is e = cc e

pub entry_used : (w : World) (s k : ℕ) (t : TextRow) → IsWhole w → s < 50 → (row_at w.table s).text ≡ Some k → entry_at w.texts k ≡ Some t → 1 ≤ t.users
entry_used w s k t h m e f =
    let x : HasEntry w s k = has_entry w s k [] [] h.loose m e in subst (λ y. 1 ≤ y.users) (same_text w k x.text t x.there f) x.used

pub entry_loaded : (w : World) (s k : ℕ) (t : TextRow) → IsWhole w → s < 50 → (row_at w.table s).text ≡ Some k → entry_at w.texts k ≡ Some t → is_in_core (row_at w.table s).place ≡ true → 1 ≤ t.loaded
entry_loaded w s k t h m e f p =
    let x : HasEntry w s k = has_entry w s k [] [] h.loose m e in subst (λ y. 1 ≤ y.loaded) (same_text w k x.text t x.there f) (x.loads p)

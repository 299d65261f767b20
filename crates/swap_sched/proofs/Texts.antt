-- What a move makes of the texts: the same by the board and by what is kept.
use Rattle.std.proofs.Common.{◌≡◌, ◌∙◌, ◌+◌, ◌-◌, ◌==◌, ℕ, zero, suc, true, false, cond, List, [], ◌∷◌, get_or, set, map, Option, Some, None, refl, sym, ap, nat_lt, arith}
use Rattle.std.proofs.lemmas.Bool.{lt-ltb, ne_eqb}
use Rattle.std.proofs.lemmas.List.{map-set}
use Rattle.text_tab.specs.Table.{loaded_at, unloaded}
use Rattle.pick_rules.specs.Board.{TextPlace}
use Rattle.pick_rules.specs.Apply.{changed}
use Rattle.pick_rules.specs.Swapper.{clicks_to_load}
use Rattle.image_keep.specs.Kept.{Shared}
use Rattle.image_keep.specs.Kept as kept
use Rattle.image_keep.specs.Moves.{need_shared}
use Rattle.swap_sched.specs.Match.{text_place}

pub text_at_map : (texts : List (Option Shared)) (t : ℕ) → get_or (map text_place texts) t None ≡ text_place (get_or texts t None)
text_at_map [] t = refl
text_at_map (x ∷ texts) zero = refl
text_at_map (x ∷ texts) (suc t) = text_at_map texts t

-- one more is in core, or one fewer
abbrev pub one_more : TextPlace → TextPlace
one_more text = record text { loaded = text.loaded + 1 }

abbrev pub one_fewer : TextPlace → TextPlace
one_fewer text = record text { loaded = text.loaded - 1 }

fewer_same : (x : Option Shared) → text_place (kept.changed unloaded x) ≡ changed (text_place x) one_fewer
fewer_same None = refl
fewer_same (Some x) = refl

pub fewer_texts : (texts : List (Option Shared)) (t : ℕ)
    → map text_place (set texts t (kept.changed unloaded (get_or texts t None)))
    ≡ set (map text_place texts) t (changed (get_or (map text_place texts) t None) one_fewer)
fewer_texts texts t =
    map-set text_place texts t (kept.changed unloaded (get_or texts t None))
    ∙ ap (set (map text_place texts) t) (fewer_same (get_or texts t None) ∙ ap (λ x. changed x one_fewer) (sym (text_at_map texts t)))

-- a text that is given a click and then changed
pub set_twice : (texts : List (Option TextPlace)) (t : ℕ) (y z : TextPlace) (rule : TextPlace → TextPlace) → get_or texts t None ≡ Some z
    → set (set texts t (Some y)) t (changed (get_or (set texts t (Some y)) t None) rule) ≡ set texts t (Some (rule y))
set_twice [] t y z rule e = absurd (cc e)
set_twice (x ∷ texts) zero y z rule e = refl
set_twice (x ∷ texts) (suc t) y z rule e = ap (λ l. x ∷ l) (set_twice texts t y z rule e)

-- what a text that is brought to a click comes to
abbrev pub brought_text : TextPlace → ℕ → TextPlace
brought_text text c = record text { click = c }

pub first_texts : (texts : List (Option Shared)) (t c : ℕ) (x : Shared) → get_or texts t None ≡ Some x → (x.row.loaded == 0) ≡ true
    → set (set (map text_place texts) t (Some (brought_text (record { clicks = x.row.clicks; users = x.row.users; loaded = x.row.loaded; click = x.row.at; block = x.row.block }) c))) t
    (changed (get_or (set (map text_place texts) t (Some (brought_text (record { clicks = x.row.clicks; users = x.row.users; loaded = x.row.loaded; click = x.row.at; block = x.row.block }) c))) t None) one_more)
    ≡ map text_place (set texts t (kept.changed (loaded_at c) (get_or texts t None)))
first_texts texts t c x e f =
    set_twice (map text_place texts) t _ _ one_more (text_at_map texts t ∙ ap text_place e)
    ∙ sym (map-set text_place texts t (kept.changed (loaded_at c) (get_or texts t None))
    ∙ ap (set (map text_place texts) t) (ap (λ y. text_place (kept.changed (loaded_at c) y)) e
    ∙ ap (λ b. Some (record { clicks = x.row.clicks; users = x.row.users; loaded = x.row.loaded + 1; click = cond b c x.row.at; block = x.row.block })) f))

pub more_texts : (texts : List (Option Shared)) (t c : ℕ) (x : Shared) → get_or texts t None ≡ Some x → (x.row.loaded == 0) ≡ false
    → set (map text_place texts) t (changed (get_or (map text_place texts) t None) one_more)
    ≡ map text_place (set texts t (kept.changed (loaded_at c) (get_or texts t None)))
more_texts texts t c x e f =
    ap (λ y. set (map text_place texts) t (changed y one_more)) (text_at_map texts t ∙ ap text_place e)
    ∙ sym (map-set text_place texts t (kept.changed (loaded_at c) (get_or texts t None))
    ∙ ap (set (map text_place texts) t) (ap (λ y. text_place (kept.changed (loaded_at c) y)) e
    ∙ ap (λ b. Some (record { clicks = x.row.clicks; users = x.row.users; loaded = x.row.loaded + 1; click = cond b c x.row.at; block = x.row.block })) f))

pub no_texts : (texts : List (Option Shared)) (t c : ℕ) → get_or texts t None ≡ None
    → set (map text_place texts) t (changed (get_or (map text_place texts) t None) one_more)
    ≡ map text_place (set texts t (kept.changed (loaded_at c) (get_or texts t None)))
no_texts texts t c e =
    ap (λ y. set (map text_place texts) t (changed y one_more)) (text_at_map texts t ∙ ap text_place e)
    ∙ sym (map-set text_place texts t (kept.changed (loaded_at c) (get_or texts t None))
    ∙ ap (set (map text_place texts) t) (ap (λ y. text_place (kept.changed (loaded_at c) y)) e))

-- the clicks that a text needs
of_loaded : (loaded clicks : ℕ) → cond (nat_lt 0 loaded) 0 clicks ≡ cond (loaded == 0) clicks 0
of_loaded zero clicks = refl
of_loaded (suc n) clicks =
    (λ i. cond (lt-ltb 0 (suc n) (omega arith) i) 0 clicks) ∙ sym (λ i. cond (ne_eqb (suc n) 0 (λ e. omega (arith, e)) i) clicks 0)

pub need_same : (x : Option Shared) → clicks_to_load (text_place x) ≡ need_shared x
need_same None = refl
need_same (Some x) = of_loaded x.row.loaded x.row.clicks

-- The rows of break(II) and of the growth of a stack, by what the code has found.
use Rattle.std.proofs.Common.{◌≡◌, ◌∙◌, ℕ, ◌+◌, ◌-◌, ◌*◌, ◌/◌, ◌==◌, ◌||◌, nat_le, Bool, true, false, cond, Option, Some, None, Result, Ok, Err, refl, sym, ap}
use Rattle.std.specs.Option.{option_map}
use Rattle.std.specs.Prelude.{MatchResult, is_err}
use Rattle.v6_base.specs.declared.errno.Errno.TheVariants.{ENOMEM}
use Rattle.u_area.specs.declared.area.UArea.{UArea}
use Rattle.seg_regs.specs.Sizes.{is_refused}
use Rattle.sys_procs.specs.World.{World, process_of}
use Rattle.sys_procs.specs.Comes.{Comes, fails}
use Rattle.sys_procs.specs.Break.{expands, clicks_up_to, break_at, grown_stack, increment, grow}

-- a result, by whether it is an error
pub as_error : {A E : Type 0} (P : A → Type 0) (Q : Type 0) (r : Result A E) → is_err r ≡ true
    → MatchResult r P (λ e. Q) → Q
as_error P Q (Ok a) e m = absurd (cc e)
as_error P Q (Err f) e m = m

pub as_made : {A E : Type 0} (P : A → Type 0) (Q R : Type 0) (r : Result A E) → is_err r ≡ false
    → MatchResult r P (λ e. Q) → ((a : A) → P a → R) → R
as_made P Q R (Ok a) e m out = out a m
as_made P Q R (Err f) e m out = absurd (cc e)

-- break(II) of an area whose sizes are these
pub break_row : (w : World) (s at : ℕ) (u : UArea) (d most : ℕ) (refused : Bool) → u ≡ (process_of w s).u
    → d ≡ clicks_up_to u.text_size at → most ≡ w.limit → is_refused u.text_size d u.stack_size most ≡ refused
    → cond refused (fails w ENOMEM) (expands w s d u.stack_size) ≡ break_at w s at
unfolding break_at
break_row w s at u d most refused is d_is most_is e =
    let by : UArea → ℕ → ℕ → Comes = λ v c m.
    cond (is_refused v.text_size c v.stack_size m) (fails w ENOMEM) (expands w s c v.stack_size) in
    sym (ap (λ (v : UArea). by v (clicks_up_to v.text_size at) w.limit) (sym is)
    ∙ (ap (by u (clicks_up_to u.text_size at)) (sym most_is)
    ∙ (ap (λ c. by u c most) (sym d_is)
    ∙ ap (λ r. cond r (fails w ENOMEM) (expands w s d u.stack_size)) e)))

-- the growth of a stack, by the clicks that it gets
pub grow_row : (w : World) (s sp : ℕ) (u : UArea) (most : ℕ) (grown : Option ℕ) → u ≡ (process_of w s).u
    → most ≡ w.limit → grown ≡ grown_stack u.text_size u.data_size u.stack_size most sp
    → option_map (expands w s u.data_size) grown ≡ grow w s sp
unfolding grow
grow_row w s sp u most grown is most_is e =
    let by : UArea → ℕ → Option Comes = λ v m.
    option_map (expands w s v.data_size) (grown_stack v.text_size v.data_size v.stack_size m sp) in
    sym (ap (λ (v : UArea). by v w.limit) (sym is)
    ∙ (ap (by u) (sym most_is) ∙ ap (option_map (expands w s u.data_size)) (sym e)))

-- a stack grows to sizes that are not refused
allowed_by : (stays has refused : Bool) (wanted n : ℕ)
    → cond stays None (cond (has || refused) None (Some wanted)) ≡ Some n
    → (wanted ≡ n) × (refused ≡ false)
allowed_by true has refused wanted n e = absurd (cc e)
allowed_by false true refused wanted n e = absurd (cc e)
allowed_by false false true wanted n e = absurd (cc e)
allowed_by false false false wanted n e = let same : wanted ≡ n = cc e in (same, refl)

pub grown_allowed : (t d s most sp n : ℕ) → grown_stack t d s most sp ≡ Some n → is_refused t d n most ≡ false
unfolding grown_stack
grown_allowed t d s most sp n e =
    let wanted : ℕ = (65536 - sp) / 64 + increment in
    let found = allowed_by ((sp == 0) || (s == 0) || nat_le (65536 - 64 * s) sp) (nat_le wanted s)
    (is_refused t d wanted most) wanted n e in
    ap (λ m. is_refused t d m most) (sym found.0) ∙ found.1

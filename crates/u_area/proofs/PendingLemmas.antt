-- What a pending call on files is.
use Rattle.std.proofs.Common.{◌≡◌, ◌==◌, ◌||◌, inl, inr, ℕ, Bool, true, false, refl}
use Rattle.std.proofs.lemmas.Bool.{eqb-true, eq-eqb}
use Rattle.u_area.specs.declared.layout.TheConstants.{LINE_READ, LINE_WRITE, PIPE_READ, PIPE_WRITE}
use Rattle.u_area.specs.Pending.{IsPipeCall, IsFileCall, is_on_files}

-- it is a read or a write of a line, or of a pipe
pub on_files_cases : (n : ℕ) → is_on_files n ≡ true → IsFileCall n
on_files_cases n on = by (n == LINE_READ) refl (n == LINE_WRITE) refl (n == PIPE_READ) refl (n == PIPE_WRITE) refl on
  where
    by : (a : Bool) → (n == LINE_READ) ≡ a → (b : Bool) → (n == LINE_WRITE) ≡ b → (c : Bool) → (n == PIPE_READ) ≡ c
        → (d : Bool) → (n == PIPE_WRITE) ≡ d → (((a || b) || c) || d) ≡ true → IsFileCall n
    by true e b f c g d h is = inl (inl (eqb-true n LINE_READ e))
    by false e true f c g d h is = inl (inr (eqb-true n LINE_WRITE f))
    by false e false f true g d h is = inr (inl (eqb-true n PIPE_READ g))
    by false e false f false g true h is = inr (inr (eqb-true n PIPE_WRITE h))
    by false e false f false g false h is = absurd (cc is)

-- what is on no line is on a pipe
pub on_pipe : (n : ℕ) → IsFileCall n → ((n == LINE_READ) || (n == LINE_WRITE)) ≡ false → IsPipeCall n
on_pipe n (inr pipe) other = pipe
on_pipe n (inl (inl read)) other = let is = eq-eqb n LINE_READ read in absurd (cc (is, other))
on_pipe n (inl (inr write)) other = by (n == LINE_READ) (eq-eqb n LINE_WRITE write) other
  where
    by : (b : Bool) → (n == LINE_WRITE) ≡ true → (b || (n == LINE_WRITE)) ≡ false → IsPipeCall n
    by true is never = absurd (cc never)
    by false is never = absurd (cc (is, never))

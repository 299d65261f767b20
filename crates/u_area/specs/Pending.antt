-- Which calls can be pending, by the constants of the layout.
use Rattle.std.specs.Prelude.{◌≡◌, ◌⊎◌, ℕ, Bool, ◌||◌, ◌==◌}
use Rattle.u_area.specs.declared.layout.TheConstants.{LINE_READ, LINE_WRITE, PIPE_READ, PIPE_WRITE}

-- a read or a write of a terminal line
abbrev pub IsLineCall : ℕ → Type 0
IsLineCall pending = (pending ≡ LINE_READ) ⊎ (pending ≡ LINE_WRITE)

-- a read or a write of a pipe
abbrev pub IsPipeCall : ℕ → Type 0
IsPipeCall pending = (pending ≡ PIPE_READ) ⊎ (pending ≡ PIPE_WRITE)

-- a call on an open file
abbrev pub IsFileCall : ℕ → Type 0
IsFileCall pending = IsLineCall pending ⊎ IsPipeCall pending

-- The pending calls on files, case by case: all others are of processes.
abbrev pub is_on_files : ℕ → Bool
is_on_files pending =
    (pending == LINE_READ)
    || (pending == LINE_WRITE)
    || (pending == PIPE_READ)
    || (pending == PIPE_WRITE)

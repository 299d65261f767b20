-- The terminal lines as a list, from line 0 on. A call of one line changes it alone.
use Rattle.std.specs.Prelude.{ℕ, ◌≤◌, List, length, slice_index_or, slice_set, replicate}
use Rattle.std.specs.List.{All}
use Rattle.tty_line.specs.Terminal.{Terminal, first_terminal}
use Rattle.tty_line.specs.Shape.{most_waiting}

-- so many lines that nobody has opened yet
abbrev pub first_lines : ℕ → List Terminal
first_lines count = replicate count first_terminal

abbrev pub terminal_at : List Terminal → ℕ → Terminal
terminal_at lines l = slice_index_or lines l first_terminal

abbrev pub with_terminal : List Terminal → ℕ → Terminal → List Terminal
with_terminal lines l t = slice_set lines l t

-- On a line so many bytes wait at most.
abbrev pub HasRoom : Terminal → Type 0
HasRoom t = length t.output ≤ most_waiting

-- There is one line at least, and eight at most, and on each so many bytes wait at most.
pub record AreLines (lines : List Terminal) : Type 0 where
  pub some : 1 ≤ length lines
  pub eight : length lines ≤ 8
  pub most : All HasRoom lines

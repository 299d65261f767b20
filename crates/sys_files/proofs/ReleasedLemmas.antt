-- What a number that lets its file go changes: the pipes, a terminal line, and a reference to the inode.
use Rattle.std.proofs.Common.{◌≡◌, ◌⊎◌, ℕ, Bool, true, false, not, ◌<◌, ◌==◌, ◌&&◌, List, [], length, cond, Option, Some, None, slice_set, refl, ap, ◌∙◌, subst, sym, inl, inr}
use Rattle.open_files.specs.declared.file.OpenFile.{OpenFile}
use Rattle.open_files.specs.declared.file.Closed.TheVariants.{Still, Last}
use Rattle.open_files.specs.Files.{file_at, with_fewer, closed}
use Rattle.pipe_ends.specs.declared.ends.Pipe.{Pipe}
use Rattle.tty_line.specs.Said as said
use Rattle.tty_line.specs.Said.{Said}
use Rattle.lines_eight.specs.Told.{told}
use Rattle.sys_files.specs.Handed.{Handed, line_of, line_at, with_line, node_at, let_go}
use Rattle.sys_files.specs.Pipes.{place_of, pipe_of, with_pipe, without_pipe, has_end, ArePipes}
use Rattle.sys_files.specs.Descriptors.{Closing, is_line_open, closes_line, line_closed, without_marks, with_roused, is_gone_with, with_gone, released}
use Rattle.sys_files.proofs.PipeLemmas.{pipes_marked, pipes_freed}

-- the pipes when an end has been closed, and when it was the last
abbrev pub roused : List Pipe → OpenFile → List Pipe
roused pipes file = cond file.kind.pipe (with_pipe pipes (without_marks (pipe_of pipes file.ino))) pipes

abbrev pub gone : List (Option OpenFile) → List Pipe → OpenFile → List Pipe
gone files pipes file = cond (file.kind.pipe && not (has_end files file.ino)) (without_pipe pipes file.ino) pipes

roused_is : (h : Handed) (file : OpenFile) → with_roused h file ≡ record h { pipes = roused h.pipes file }
roused_is h file = by file.kind.pipe
  where
    next : List Pipe
    next = with_pipe h.pipes (without_marks (pipe_of h.pipes file.ino))

    by : (t : Bool) → cond t (record h { pipes = next }) h ≡ record h { pipes = cond t next h.pipes }
    by true = refl
    by false = refl

gone_is : (h : Handed) (file : OpenFile) → with_gone h file ≡ record h { pipes = gone h.files h.pipes file }
gone_is h file = by (is_gone_with h file)
  where
    next : List Pipe
    next = without_pipe h.pipes file.ino

    by : (t : Bool) → cond t (record h { pipes = next }) h ≡ record h { pipes = cond t next h.pipes }
    by true = refl
    by false = refl

-- Only pipes change where the entry stays in use.
pub released_still : (h : Handed) (file : OpenFile) → (released h (Still file)).state ≡ record h { pipes = roused h.pipes file }
released_still h file = roused_is h file

-- A line that is closed
abbrev pub shut : Handed → ℕ → Closing
shut h l = let s : Said = said.closed (line_at h l) in record { state = with_line h l s.terminal; items = told l s }

-- is another then, and nothing else is.
pub line_closed_is : (h : Handed) (line : Option ℕ) → (closes_line h line).state ≡ record h { lines = (closes_line h line).state.lines }
line_closed_is h None = refl
line_closed_is h (Some l) = by (is_line_open h l)
  where
    by : (used : Bool) → (cond used (record { state = h; items = [] }) (shut h l)).state
        ≡ record h { lines = (cond used (record { state = h; items = [] }) (shut h l)).state.lines }
    by true = refl
    by false = refl

-- It is closed where no file of it is open.
pub line_shut : (h : Handed) (l : ℕ) → is_line_open h l ≡ false → closes_line h (Some l) ≡ shut h l
line_shut h l is = ap (λ (others : Bool). cond {A = Closing} others (record { state = h; items = [] }) (shut h l)) is

pub line_stays : (h : Handed) (l : ℕ) → is_line_open h l ≡ true → closes_line h (Some l) ≡ record { state = h; items = [] }
line_stays h l is = ap (λ (others : Bool). cond {A = Closing} others (record { state = h; items = [] }) (shut h l)) is

-- Where it is freed a line may be another, and a reference goes.
pub released_last : (h : Handed) (file : OpenFile)
    → let rest : Handed = record h { pipes = gone h.files (roused h.pipes file) file } in
    (released h (Last file)).state ≡ let_go (record rest { lines = (line_closed rest file).state.lines }) file.ino
released_last h file =
    let rest : Handed = record h { pipes = gone h.files (roused h.pipes file) file } in
    ap (λ (k : Handed). let_go (line_closed k file).state file.ino)
    (ap (λ (k : Handed). with_gone k file) (roused_is h file) ∙ gone_is (record h { pipes = roused h.pipes file }) file)
    ∙ ap (λ (k : Handed). let_go k file.ino) (line_closed_is rest (line_of rest (node_at rest file.ino)))

-- The marks of a pipe change nothing of which pipes there are.
pub pipes_roused : (files : List (Option OpenFile)) (pipes : List Pipe) (file : OpenFile) → ArePipes files pipes
    → ArePipes files (roused pipes file)
pipes_roused files pipes file are = by file.kind.pipe
  where
    next : Pipe
    next = without_marks (pipe_of pipes file.ino)

    by : (t : Bool) → ArePipes files (cond t (with_pipe pipes next) pipes)
    by true = pipes_marked files pipes next are
    by false = are

-- An entry is freed, whose file is told of by one of its inode and its kind.
pub pipes_gone : (files : List (Option OpenFile)) (pipes : List Pipe) (entry : ℕ) (file : OpenFile)
    → file_at files entry ≡ Some file → ArePipes files pipes
    → ArePipes (slice_set files entry None)
    (gone (slice_set files entry None) (roused pipes (with_fewer file)) (with_fewer file))
pipes_gone files pipes entry file is are =
    pipes_freed files (roused pipes (with_fewer file)) entry file is (pipes_roused files pipes (with_fewer file) are)

-- What is told of a file has its inode and its kind, also where numbers are left.
told_file : (file told : OpenFile) → (closed file ≡ Still told) ⊎ (closed file ≡ Last told) → told ≡ with_fewer file
told_file file told is = by (file.count == 1) is
  where
    by : (t : Bool) → (cond t (Last (with_fewer file)) (Still (with_fewer file)) ≡ Still told) ⊎
        (cond t (Last (with_fewer file)) (Still (with_fewer file)) ≡ Last told)
        → told ≡ with_fewer file
    by true (inl is) = absurd (cc)
    by true (inr is) = cc
    by false (inl is) = cc
    by false (inr is) = absurd (cc)

-- The pipe of an end that is let go is there.
pub told_there : (files : List (Option OpenFile)) (pipes : List Pipe) (entry : ℕ) (file told : OpenFile)
    → file_at files entry ≡ Some file
    → (closed file ≡ Still told) ⊎ (closed file ≡ Last told) → ArePipes files pipes → told.kind.pipe ≡ true
    → place_of pipes told.ino < length pipes
told_there files pipes entry file told is which are =
    let P : OpenFile → Type 0 = λ x. x.kind.pipe ≡ true → place_of pipes x.ino < length pipes in
    subst P (sym (told_file file told which)) (are.there entry file is)

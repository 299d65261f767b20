-- How `demo` comes to its end, or stops before it, by docs/manual/demo.md.
use Rattle.std.specs.Prelude.{◌≡◌, ⊤, ℕ, Some}
use Rattle.fs_codec.specs.Faults.{image_fault}
use Rattle.make_image.specs.Image.{build_of}
use Rattle.abstract_unix.specs.declared.ends.Ends.TheVariants as ends
use Rattle.abstract_unix.specs.Runs.{Course}
use Rattle.v6_run.specs.declared.image.ImageError.TheVariants as image
use Rattle.v6_run.specs.declared.run.RunError.{RunError}
use Rattle.v6_run.specs.declared.run.RunError.TheVariants as run
use Rattle.v6_run.specs.declared.demo.Summary.{Summary}
use Rattle.v6_run.specs.Report.{course_line, summary_line}

-- The disk of a number has this first fault, or there was no memory.
abbrev pub RefusesDisk : ℕ → RunError → Type 0
RefusesDisk number (run.Image (image.Faulty fault)) = image_fault (build_of number) ≡ Some fault
RefusesDisk number run.NoMemory = ⊤
RefusesDisk number _ = ⊥

-- the run has come to the end of its script, and the summary tells what it has come to
pub record EndsCourse (number : ℕ) (c : Course) (summary : Summary) : Type 0 where
  pub ended : c.ending ≡ ends.AtEnd
  pub line : course_line number c ≡ summary_line summary

-- or it ends before, or there was no memory
abbrev pub StopsCourse : Course → RunError → Type 0
StopsCourse c run.NoMemory = ⊤
StopsCourse c (run.Panic kind) = c.ending ≡ ends.Panic kind
StopsCourse c _ = ⊥

-- The lines of a script, by docs/manual/scripts.md.
use Rattle.std.specs.Prelude.{ℕ, List, [], ◌∷◌, length, ◌==◌, if◌then◌else◌}
use Rattle.std.specs.List.{slice_split}
use Rattle.std.specs.Str.Lines.{strip_carriage_return}

-- A script is lines that end by LF; the last may lack it. A CR right before an LF is dropped. These are the lines in the
-- parts between LFs: an empty last part is no line.
abbrev pub lines_of_parts : List (List ℕ) → List (List ℕ)
lines_of_parts [] = []
lines_of_parts (part ∷ []) = if length part == 0 then [] else part ∷ []
lines_of_parts (part ∷ next ∷ parts) = strip_carriage_return part ∷ lines_of_parts (next ∷ parts)

abbrev pub lines_of : List ℕ → List (List ℕ)
lines_of script = lines_of_parts (slice_split (λ byte. byte == 10) script)

-- The script of the demo, by docs/manual/demo.md: the lines of a script, each ended by LF.
use Rattle.std.specs.Prelude.{ℕ, List, [], ◌∷◌, ◌++◌, codes}
use Rattle.std.specs.List.{flat_map}

abbrev pub demo_lines : List (List ℕ)
demo_lines =
    codes "clock 100"
    ∷ codes "run 20000"
    ∷ codes "type hello"
    ∷ codes "run 20000"
    ∷ codes "byte 004"
    ∷ codes "run 20000"
    ∷ []

unfoldable pub demo_text : List ℕ
demo_text = flat_map (λ line. line ++ 0o012 ∷ []) demo_lines

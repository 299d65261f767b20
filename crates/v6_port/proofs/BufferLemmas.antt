-- What is in a writer, and after it in a buffer whose front was given to the writer.
use Rattle.std.proofs.Common.{◌≡◌, ℕ, ◌+◌, ◌≤◌, List, ◌++◌, Option, Some, Result, Ok, Err, length, take, drop, ap, subst, sym, ◌∙◌}
use Rattle.std.proofs.lemmas.List.{take-append-drop, drop-drop, drop-append-le}
use Rattle.std.specs.Io.KnownBytes.{Keeps, Appends, WriteAppends, append_known}
use Rattle.std.proofs.KnownBytes.{append_known-moved, append_known-grown}

module _ (before after : Option (List ℕ)) (buffer rest : List ℕ) (given count : ℕ)
    (is : rest ≡ drop given buffer) (gave : Appends before after (take count rest)) where
  -- some of the rest was given
  pub gave_some : Keeps (append_known before (drop given buffer)) (append_known after (drop (given + count) buffer))
  gave_some = append_known-moved before after _ _ _ gave
      (sym is ∙ sym (take-append-drop count rest) ∙ ap (λ l. take count rest ++ l) (ap (drop count) is ∙ drop-drop count given buffer))

-- The buffer took more.
pub took : (before after : Option (List ℕ)) (buffer larger bytes : List ℕ) (given : ℕ)
    → Keeps before (append_known after (drop given buffer)) → larger ≡ buffer ++ bytes → given ≤ length buffer
    → Appends before (append_known after (drop given larger)) bytes
took before after buffer larger bytes given keeps is front =
    append_known-grown before after _ _ _ keeps (ap (drop given) is ∙ drop-append-le given buffer bytes front)

pub took_piece : {E : Type 0} (before after : Option (List ℕ)) (buffer larger piece : List ℕ) (given : ℕ) (r : Result ℕ E)
    → Keeps before (append_known after (drop given buffer)) → WriteAppends (Some buffer) (Some larger) r piece → given ≤ length buffer
    → WriteAppends before (append_known after (drop given larger)) r piece
took_piece before after buffer larger piece given (Ok n) keeps wrote front = took before after buffer larger (take n piece) given keeps wrote front
took_piece before after buffer larger piece given (Err e) keeps same front =
    subst (λ (bytes : List ℕ). Keeps before (append_known after (drop given bytes))) (sym same) keeps

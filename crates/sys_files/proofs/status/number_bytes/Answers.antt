use Rattle.std.proofs.Common.{ℕ, [], ◌∷◌, ap, ◌∙◌}
use Rattle.sys_files.proofs.StatusLemmas.{number_bytes_are}
use Rattle.sys_files.proofs.status.number_bytes.Goals as goal

pub returns : goal.returns
returns c = number_bytes_are c.args.dev c.args.ino c.put_words.new.b c.put_words.auto.b c.see_bytes.ensures
    (c.put_words.ensures.here ∙ ap (λ (n : ℕ). n ∷ c.args.ino ∷ []) c.from.ensures)

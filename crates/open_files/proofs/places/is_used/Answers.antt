use Rattle.std.proofs.Common.{◌≡◌, ◌≤◌, length, rules, sym, ◌∙◌, arith}
use Rattle.std.proofs.lemmas.Bool.{le-ltb}
use Rattle.open_files.proofs.FilesLemmas.{past_unused}
use Rattle.open_files.proofs.places.is_used.Goals as goal

pub returns-else-entry-lt100-clause-used : goal.returns-else-entry-lt100-clause-used
returns-else-entry-lt100-clause-used c =
    let high : 100 ≤ c.args.entry = omega (arith, c.if-entry-lt100.false) in
    let long : length c.args.files.now ≡ 100 = search rules in
    le-ltb c.args.entry 100 high ∙ sym (past_unused c.args.files.now c.args.entry (omega (arith, high, long)))

use Rattle.unix_core.proofs.StillAreas.{stays_put, row_is_still}
use Rattle.unix_core.proofs.onfiles.changes_area.Goals as goal

pub returns-in_default-matches : goal.returns-in_default-matches
returns-in_default-matches c =
    let d = c.in_default in
    λ none. row_is_still c.args.call c.args.answer
    (stays_put c.args.call d.not-Open d.not-Close d.not-Creat d.not-Chdir d.not-Dup d.not-Pipe) c.in_default-matches.not-Sleep

use Rattle.std.proofs.Common.{slice_index, ap, ◌∙◌, arith}
use Rattle.sys_files.proofs.OwingLemmas.{once_more}
use Rattle.file_rows.proofs.system_calls.world.refer_to_root.Goals as goal

pub returns-in-Ok-clause-root : goal.returns-in-Ok-clause-root
returns-in-Ok-clause-root c = λ is.
    let old = c.args.nodes.now.references in
    let more = ap (λ l. slice_index l 1) c.in-Ok.ensures.outcome.1.references
    ∙ once_more old 1 1 (c.see.ensures.low 1 c.see.ensures.root) in
    omega (arith, more)

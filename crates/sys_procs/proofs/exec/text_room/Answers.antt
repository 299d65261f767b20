use Rattle.std.proofs.Common.{◌∙◌, ◌*◌, min, arith}
use Rattle.sys_procs.specs.ExecFile.{data_clicks}
use Rattle.sys_procs.proofs.LoadData.{few_segments}
use Rattle.sys_procs.proofs.exec.text_room.Goals as goal

pub returns-clause-count : goal.returns-clause-count
returns-clause-count c = c.min.ensures ∙ (λ i. min (c.from.ensures i) (64 * c.from-2.ensures i))

pub returns-clause-few : goal.returns-clause-few
returns-clause-few c =
    let few = few_segments c.args.program.now.text_clicks (data_clicks c.args.program.now.plan) 20 2048 c.requires.fits in
    let count = c.min.ensures in
    let clicks = c.from-2.ensures in
    omega (arith, few, count, clicks)

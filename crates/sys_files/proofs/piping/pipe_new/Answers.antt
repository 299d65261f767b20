use Rattle.sys_files.specs.Handed.{handed}
use Rattle.sys_files.specs.Piping.{pipe_new}
use Rattle.sys_files.proofs.DoesLemmas.{does_unnamed}
use Rattle.sys_files.proofs.piping.pipe_new.Goals as goal

pub returns-clause-does : goal.returns-clause-does
returns-clause-does g c =
    let image = g.S.Space.image c.args.space.now in
    does_unnamed {row = pipe_new (handed c.args.f.now c.args.u.now c.args.row.now image) c.args.now}
    (c.make_pipe.ensures.did c.args.row.now image) (c.make_pipe.ensures.kept c.args.row.now image)

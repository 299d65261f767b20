use Rattle.std.proofs.Common.{refl, ◌∙◌}
use Rattle.sys_files.specs.Handed.{handed}
use Rattle.sys_files.specs.Core.{writes_parts}
use Rattle.sys_files.proofs.core_file.enter_core.Goals as goal

pub returns-clause-did : goal.returns-clause-did
returns-clause-did g c = λ row.
    let image = g.S.Space.image c.args.space.now in
    c.in_ok-enter_new.ensures.did row image (writes_parts c.args.now)
    ∙ c.write_parts.ensures.did (handed c.enter_new.new.f c.args.u.now row image) refl refl refl

use Rattle.std.proofs.Common.{ap, ◌∙◌}
use Rattle.std.proofs.lemmas.Result.{MatchResult-weaker}
use Rattle.u_area.specs.declared.area.UArea.{UArea}
use Rattle.sys_files.specs.Handed.{handed}
use Rattle.sys_files.proofs.AreaLemmas.{numbers_changed}
use Rattle.sys_files.proofs.DescriptorLemmas.{told_is, dropped_is}
use Rattle.sys_files.proofs.descriptors.drop_number.Goals as goal

pub returns-clause-outcome : goal.returns-clause-outcome
returns-clause-outcome c = MatchResult-weaker c.drop_one.result c.drop_one.ensures
    (λ told d. (
      d.0,
      λ row image. (
        told_is (handed c.args.f.now c.args.u.now row image) c.args.fd told _ _ d,
        ap (λ (v : UArea). handed (record c.args.f.now { table = c.drop_one.new.self }) v row image) (numbers_changed c.args.u.now _ _)
            ∙ dropped_is (handed c.args.f.now c.args.u.now row image) c.args.fd told _ _ d,
      ),
    ))
    (λ e d. (
      d.0,
      d.1,
      ap (λ t. record c.args.f.now { table = t }) d.2,
      numbers_changed c.args.u.now _ _ ∙ ap (λ l. record c.args.u.now { files = l }) d.3,
    ))

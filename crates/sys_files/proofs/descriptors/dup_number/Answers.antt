use Rattle.std.proofs.Common.{sym, ap, ◌∙◌}
use Rattle.u_area.specs.declared.area.UArea.{UArea}
use Rattle.sys_files.specs.Did.{Did}
use Rattle.sys_files.specs.Handed.{handed}
use Rattle.sys_files.proofs.AreaLemmas.{numbers_changed}
use Rattle.sys_files.proofs.DescriptorLemmas.{dup_done, dup_refused}
use Rattle.sys_files.proofs.descriptors.dup_number.Goals as goal

pub returns-in-Ok-clause-state : goal.returns-in-Ok-clause-state
returns-in-Ok-clause-state c = λ row image.
    ap (λ (v : UArea). handed (record c.args.f.now { table = c.dup.new.self }) v row image) (numbers_changed c.args.u.now _ _)
    ∙ sym (ap (λ (d : Did). d.state) (dup_done (handed c.args.f.now c.args.u.now row image) c.in-Ok.fd _ _ (c.in-Ok.ensures)))

pub returns-in-Err-clause-state : goal.returns-in-Err-clause-state
returns-in-Err-clause-state c = λ row image.
    let same = c.in-Err.ensures in
    ap (λ (v : UArea). handed (record c.args.f.now { table = c.dup.new.self }) v row image) (numbers_changed c.args.u.now _ _)
    ∙ ap (λ t. handed (record c.args.f.now { table = t }) (record c.args.u.now { files = c.dup.new.mine }) row image) same.1
    ∙ ap (λ l. handed c.args.f.now (record c.args.u.now { files = l }) row image) same.2
    ∙ sym (ap (λ (d : Did). d.state) (dup_refused (handed c.args.f.now c.args.u.now row image) c.in-Err.e same.0))

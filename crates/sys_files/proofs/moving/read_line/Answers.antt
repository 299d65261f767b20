use Rattle.std.proofs.Common.{slice_index, refl, sym, ◌∙◌}
use Rattle.v6_base.specs.declared.answer.Answer.TheVariants.{Ret, Fail}
use Rattle.v6_base.specs.declared.errno.Errno.TheVariants.{EFAULT}
use Rattle.u_area.specs.declared.area.UArea.{UArea}
use Rattle.tty_line.specs.Reading.{Reading, reads}
use Rattle.tty_line.specs.declared.line.Took.TheVariants.{Done, Wait, Fault}
use Rattle.lines_eight.specs.Lines.{terminal_at}
use Rattle.sys_files.specs.Moving.{with_line_read}
use Rattle.sys_files.proofs.ReadLemmas.{line_is, line_left}
use Rattle.sys_files.proofs.moving.read_line.Goals as goal

pub returns-in-Done-clause-did : goal.returns-in-Done-clause-did
returns-in-Done-clause-did g c h lines_same u_same row_same image_same =
    let r : Reading = reads (terminal_at c.args.lines.now c.args.l) (g.S.Space.image c.args.space.now) c.args.at c.args.count in
    line_is h c.args.l c.args.lines.now (g.S.Space.image c.args.space.now) c.args.entry c.args.at c.args.count (Done c.in-Done.n) lines_same image_same
    (sym c.in-Done.is ∙ c.read.ensures.took)
    ∙ line_left h c.args.l r c.args.lines.now _ _ _ (λ (u : UArea). Ret c.in-Done.n (slice_index u.r 1)) lines_same c.read.ensures.line c.read.ensures.image u_same

pub returns-in-Wait-clause-did : goal.returns-in-Wait-clause-did
returns-in-Wait-clause-did g c h lines_same u_same row_same image_same =
    let r : Reading = reads (terminal_at c.args.lines.now c.args.l) (g.S.Space.image c.args.space.now) c.args.at c.args.count in
    line_is h c.args.l c.args.lines.now (g.S.Space.image c.args.space.now) c.args.entry c.args.at c.args.count Wait lines_same image_same
    (sym c.in-Wait.is ∙ c.read.ensures.took)
    ∙ c.wait_for_keys.ensures (with_line_read h c.args.l r) u_same row_same
    ∙ line_left (record h { u = c.wait_for_keys.new.u }) c.args.l r c.args.lines.now _ _ _ (λ (u : UArea). c.wait_for_keys.result) lines_same c.read.ensures.line c.read.ensures.image refl

pub returns-in-Fault-clause-did : goal.returns-in-Fault-clause-did
returns-in-Fault-clause-did g c h lines_same u_same row_same image_same =
    let r : Reading = reads (terminal_at c.args.lines.now c.args.l) (g.S.Space.image c.args.space.now) c.args.at c.args.count in
    line_is h c.args.l c.args.lines.now (g.S.Space.image c.args.space.now) c.args.entry c.args.at c.args.count Fault lines_same image_same
    (sym c.in-Fault.is ∙ c.read.ensures.took)
    ∙ line_left h c.args.l r c.args.lines.now _ _ _ (λ (u : UArea). Fail EFAULT) lines_same c.read.ensures.line c.read.ensures.image u_same

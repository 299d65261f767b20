use Rattle.std.proofs.Common.{◌∙◌, ap, sym}
use Rattle.sys_procs.specs.World.{World, change}
use Rattle.sys_procs.specs.Comes.{Comes}
use Rattle.sys_procs.specs.Handed.{handed}
use Rattle.sys_procs.specs.Times.{sleeping_until}
use Rattle.sys_procs.proofs.TimesLemmas.{sleep_broken_off, sleep_begins}
use Rattle.sys_procs.proofs.times.sleep_until.Goals as goal

-- A signal is due.
pub returns-then-is_due-clause-answer : goal.returns-then-is_due-clause-answer
returns-then-is_due-clause-answer c = λ fs.
    let w : World = handed c.args.p.now fs in
    ap (λ (d : Comes). d.answer)
    (sym (sleep_broken_off w c.args.s c.args.until c.if-until-p.false (sym c.is_due.ensures ∙ c.if-is_due.true)))

pub returns-then-is_due-clause-state : goal.returns-then-is_due-clause-state
returns-then-is_due-clause-state c = λ fs.
    let w : World = handed c.args.p.now fs in
    ap (λ t. record w { clock = record w.clock { tout = t } }) (c.tout_with-p.ensures fs)
    ∙ ap (λ (d : Comes). d.state)
    (sym (sleep_broken_off w c.args.s c.args.until c.if-until-p.false (sym c.is_due.ensures ∙ c.if-is_due.true)))

-- None is due.
pub returns-clause-answer : goal.returns-clause-answer
returns-clause-answer c = λ fs.
    let w : World = handed c.args.p.now fs in
    ap (λ (d : Comes). d.answer)
    (sym (sleep_begins w c.args.s c.args.until c.if-until-p.false (sym c.is_due.ensures ∙ c.if-is_due.false)))

pub returns-clause-state : goal.returns-clause-state
returns-clause-state c = λ fs.
    let w : World = handed c.args.p.now fs in
    c.keep_sleep.ensures.state fs
    ∙ (ap (λ t. change (record w { clock = record w.clock { tout = t } }) c.args.s (sleeping_until c.args.until)) (c.tout_with-p.ensures fs)
    ∙ ap (λ (d : Comes). d.state)
    (sym (sleep_begins w c.args.s c.args.until c.if-until-p.false (sym c.is_due.ensures ∙ c.if-is_due.false))))

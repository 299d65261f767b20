use Rattle.v6_run.proofs.AuditLemmas.{unopened, read_answers, read_tells}
use Rattle.v6_run.proofs.audit.audit.Goals as goal

pub returns-then-is_err-clause-answers : goal.returns-then-is_err-clause-answers
returns-then-is_err-clause-answers g c =
    unopened c.args.name.now (g.H.Host.outside c.args.host.now) _ c.open_read.result c.open_read.ensures c.if-is_err.ensures.value

pub returns-clause-answers : goal.returns-clause-answers
returns-clause-answers g c =
    read_answers c.args.name.now (g.H.Host.outside c.args.host.now) _ _ c.open_read.result c.open_read.ensures c.if-is_err.ensures.value c.read_log.result c.read_log.ensures.answer c.read_log.ensures.only c.read_log.ensures.cause

pub returns-clause-line : goal.returns-clause-line
returns-clause-line g c =
    read_tells c.args.name.now (g.H.Host.outside c.args.host.now) _ (g.H.Host.outside c.read_log.new.host) c.open_read.result c.open_read.ensures c.if-is_err.ensures.value c.read_log.result c.read_log.ensures.answer

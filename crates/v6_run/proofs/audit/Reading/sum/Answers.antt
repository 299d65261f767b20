use Rattle.std.proofs.Common.{◌∙◌, ◌+◌, length, sym, ap}
use Rattle.pick_rules.specs.Lawful.{Seen}
use Rattle.v6_run.proofs.ReadLines.{over_log, open_log, length_lines}
use Rattle.v6_run.proofs.AuditLemmas.{not_both}
use Rattle.v6_run.specs.Logs.{ended_lines}
use Rattle.v6_run.proofs.audit.Reading.sum.Goals as goal

pub returns-then-ended : goal.returns-then-ended
returns-then-ended c front h = (
  over_log (ended_lines front) h.log h.spelt h.fit (sym (ap (λ (s : Seen). s.stage) h.seen) ∙ c.ended.ensures.0 c.if-ended.true),
  h.count ∙ sym (length_lines h.log) ∙ ap length (sym h.spelt),
)

pub returns-else-ended : goal.returns-else-ended
returns-else-ended c front h =
    open_log (ended_lines front) h.log (c.args.self.now.lines + 1) h.spelt h.fit (λ o. not_both c.ended.result (c.ended.ensures.1 (ap (λ (s : Seen). s.stage) h.seen ∙ o)) c.if-ended.false) (ap (λ n. n + 1) h.count)

-- What stands at a relative address.
use Rattle.std.proofs.Common.{ℕ, ap, ◌∙◌, ◌%◌}
use Rattle.pdp_step.specs.Registers.{plus}
use Rattle.pdp_step.proofs.Reached.{value_relative}
use Rattle.pdp_step.proofs.in_memory.RelativeAddressingMode.value.Goals as goal

pub returns-clause-source : goal.returns-clause-source
returns-clause-source g c = rw c.in_ok-x.ensures.after (value_relative (g.P.Processor.machine c.args.p.now) c.args.pc.now g.W.Size.width c.args._n c.in_ok-x.x _ c.read_at.result (g.met.P.Processor.eight c.args.p.now) c.requires.way c.in_ok-x.ensures.word (ap (λ (v : ℕ). plus v c.in_ok-x.x) (c.low_word.ensures ∙ ap (λ (v : ℕ). v % 65536) c.in_ok-x.ensures.after)) c.read_at.ensures.value)

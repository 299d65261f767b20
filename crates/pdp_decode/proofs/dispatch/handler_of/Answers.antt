-- The word is that of its instruction.
use Rattle.std.proofs.Common.{sym, subst}
use Rattle.pdp_decode.specs.declared.instr.Instr.{Instr}
use Rattle.pdp_decode.specs.Handlers.{HasHandler}
use Rattle.pdp_decode.proofs.dispatch.handler_of.Goals as goal

pub returns : goal.returns
returns c = record {
  handles = c.choose.ensures.handles;
  known = λ has. c.choose.ensures.known (subst (λ (i : Instr). HasHandler i) (sym c.decode.ensures.value) has);
}

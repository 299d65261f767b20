use Rattle.std.proofs.Common.{◌∙◌, ap}
use Rattle.unix_core.specs.State.{KernelState}
use Rattle.unix_core.proofs.kernel.Kernel.passed.Goals as goal

pub passed-requires : goal.passed-requires
passed-requires c = c.self.invariant.within

pub returns : goal.returns
returns c = c.passed.ensures ∙ ap (λ (v : KernelState). v.system.unix.timing.passed) c.self.view_is

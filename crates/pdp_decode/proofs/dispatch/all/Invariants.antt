-- The entries so far.
use Rattle.std.proofs.Common.{◌≡◌, ℕ, ◌<◌, length, slice_index_or}
use Rattle.pdp_decode.specs.declared.handler.Handler.TheVariants.{Other}
use Rattle.pdp_decode.specs.Handlers.{IsHandlerOf}
use Rattle.pdp_decode.proofs.dispatch.all.Given as goal

abbrev pub invariant-loop-n : goal.invariant-loop-n
invariant-loop-n l = (length l.handlers.items ≡ l.n) × ((n : ℕ) → n < l.n → IsHandlerOf (slice_index_or l.handlers.items n Other) n)

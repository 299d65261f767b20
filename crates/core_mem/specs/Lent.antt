-- What core ends as, once a loan of its bytes has ended.
use Rattle.std.specs.Prelude.{ℕ, List, length}
use Rattle.std.specs.Borrow.{Lends, MutBor, Fml, Array, u8}
use Rattle.std.specs.List.{refill}
use Rattle.core_mem.specs.contracts.Core.{the_row}

-- they are the last ones that are written through r, as many as before
abbrev pub LendsBytes : MutBor (List ℕ) → MutBor (List ℕ) → Fml
LendsBytes core r = Lends the_row (Array u8 0) core r (refill (length core.now) core.now)

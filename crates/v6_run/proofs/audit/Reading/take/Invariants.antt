use Rattle.std.proofs.Common.{◌++◌, List, ℕ, take}
use Rattle.v6_run.specs.Audit.{HasRead}
use Rattle.v6_run.proofs.audit.Reading.take.Given as goal

abbrev pub invariant-loop-byte : goal.invariant-loop-byte
invariant-loop-byte l = (front : List ℕ) → HasRead front l.fn.self → HasRead (front ++ take l.byte-index l.bytes) l.self

use Rattle.std.proofs.Common.{◌≡◌, ◌*◌}
use Rattle.fs_codec.specs.Words.{bytes_from}
use Rattle.unix_core.specs.declared.boot.TheConstants.{SWAP_AT}
use Rattle.unix_core.proofs.boot.swap_area.Given as goal

abbrev pub invariant-loop-n : goal.invariant-loop-n
invariant-loop-n l = l.swap.items ≡ bytes_from l.image SWAP_AT (512 * l.n)

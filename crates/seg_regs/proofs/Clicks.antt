-- Bytes in clicks.
use Rattle.std.proofs.Common.{◌≡◌, ◌*◌, ◌/◌, ℕ, arith}
use Rattle.std.proofs.Math.Nat.{mul-div_cancel_left}

-- the clicks of n clicks' bytes
pub clicks_in : (n : ℕ) → 64 * n / 64 ≡ n
clicks_in n = mul-div_cancel_left n (omega arith)

-- What is seen of a word that was looked for.
use Rattle.std.proofs.Common.{◌≡◌, ℕ, List, Some, None, Option, Bor, refl}
use Rattle.std.specs.Option.{unwrap_or, option_map}

pub seen : (found : Option (Bor (List ℕ))) (other : Bor (List ℕ))
    → (unwrap_or found other).now ≡ unwrap_or (option_map (λ x. x.now) found) other.now
seen None other = refl
seen (Some x) other = refl

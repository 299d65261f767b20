-- The log of a run is lawful.
use Rattle.std.proofs.Common.{◌≡◌, ◌≤◌, ℕ, true, Option, Some, List, refl, ap}
use Rattle.std.specs.Option.{option_map}
use Rattle.v6_base.specs.Image.{AreBytes}
use Rattle.abstract_unix.specs.declared.ends.Ends.{Ends}
use Rattle.abstract_unix.specs.declared.ends.Ends.TheVariants.{AtEnd, Panic}
use Rattle.abstract_unix.specs.Unix.{System}
use Rattle.abstract_unix.specs.Endings.{is_whole}
use Rattle.abstract_unix.specs.Runs.{boots, started, course}
use Rattle.abstract_unix.proofs.Lawfully.{logs_are_lawful}
use Rattle.v6_run.specs.Outputs.{HasLawfulLogs}

whole : (ends : Ends) → is_whole ends ≡ true
whole AtEnd = refl
whole (Panic kind) = refl

pub lawful_logs : (image : List ℕ) (second : Option (List ℕ)) (core lines : ℕ) (m : System) → AreBytes image → 64 ≤ core → core ≤ 3968 → lines ≤ 8
    → boots image second core lines ≡ Some m → HasLawfulLogs m
lawful_logs image second core lines m are low high few is events =
    (logs_are_lawful image second core lines events (course (started m) events) are low high few (ap (option_map (λ n. course (started n) events)) is)).1 (whole _)

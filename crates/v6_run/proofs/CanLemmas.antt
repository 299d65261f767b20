-- A kernel that was booted can take a script: it has room for the slots.
use Rattle.std.proofs.Common.{◌≡◌, ◌≤◌, ◌||◌, ℕ, Bool, true, false, cond, List, is_some, Option, Some, None, sym, ap, arith}
use Rattle.std.specs.List.{sum_by}
use Rattle.script_text.specs.declared.script.Event.{Event}
use Rattle.script_text.specs.Script.{slots_of, AreRates}
use Rattle.fs_codec.specs.Faults.{image_fault}
use Rattle.abstract_unix.specs.Unix.{System}
use Rattle.abstract_unix.specs.Runs.{system_of, is_second_bad, boots}
use Rattle.take_script.specs.Courses.{CanTake}

-- a kernel that was booted has taken no slot
pub boots_fresh : (image : List ℕ) (second : Option (List ℕ)) (core lines : ℕ) (m : System) → boots image second core lines ≡ Some m → m.unix.timing.passed ≡ 0
boots_fresh image second core lines m is = by (is_some (image_fault image) || is_second_bad image second) is
  where
    by : (b : Bool) → cond b None (Some (system_of image second core lines)) ≡ Some m → m.unix.timing.passed ≡ 0
    by true e = absurd (cc e)
    by false e = let same : system_of image second core lines ≡ m = cc e in sym (ap (λ (s : System). s.unix.timing.passed) same)

pub boot_can : (image : List ℕ) (second : Option (List ℕ)) (core lines : ℕ) (m : System) (events : List Event) → boots image second core lines ≡ Some m → sum_by slots_of events ≤ 200000000
    → AreRates events → CanTake m events
boot_can image second core lines m events is few rates =
    let none = boots_fresh image second core lines m is in record { fresh = omega (arith, none, few); rates = rates }

use Rattle.std.proofs.Common.{◌≡◌, ◌+◌, ◌-◌, ◌%◌, ◌<◌, ℕ, true}
use Rattle.v6_base.specs.Copy.{is_writable}
use Rattle.image_keep.specs.Kept.{image_of}
use Rattle.image_keep.proofs.images.Images.can_set.Given as goal

abbrev pub invariant-loop-done : goal.invariant-loop-done
invariant-loop-done l = record { each : (k : ℕ) → k < l.done → is_writable (image_of l.self.kept l.s) ((l.at + k) % 65536) ≡ true }

abbrev pub decreases-loop-done : goal.decreases-loop-done
decreases-loop-done l = l.count - l.done

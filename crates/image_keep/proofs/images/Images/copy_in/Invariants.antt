use Rattle.std.proofs.Common.{◌≡◌, ◌+◌, ◌-◌, ◌≤◌, length, take}
use Rattle.v6_base.specs.Copy.{load_bytes}
use Rattle.v6_base.proofs.Copies.{put_front}
use Rattle.image_keep.specs.Kept.{image_of}
use Rattle.image_keep.proofs.images.Images.copy_in.Given as goal

-- the bytes that are left stand behind those that are there
abbrev pub invariant-loop-done : goal.invariant-loop-done
invariant-loop-done l = record {
  size : length l.into ≡ length l.fn.into;
  few : l.done ≤ length l.fn.into;
  same : put_front (take l.done l.into) (load_bytes (image_of l.self.kept l.s) (l.at + l.done) (length l.fn.into - l.done)) ≡ load_bytes (image_of l.self.kept l.s) l.at (length l.fn.into);
}

abbrev pub decreases-loop-done : goal.decreases-loop-done
decreases-loop-done l = length l.initial.into - l.done

use Rattle.std.proofs.Common.{◌≡◌, ◌+◌, ◌-◌, ◌≤◌, drop, length}
use Rattle.v6_base.specs.Copy.{store_bytes}
use Rattle.v6_base.proofs.Copies.{SameLengths}
use Rattle.image_keep.specs.Kept.{image_of, with_image}
use Rattle.image_keep.specs.Lent.{outside_of}
use Rattle.image_keep.specs.Starts.{AreStarts}
use Rattle.image_keep.proofs.images.Images.copy_out_parts.Given as goal

-- what is stored from here on comes to the same
abbrev pub invariant-loop-done : goal.invariant-loop-done
invariant-loop-done l = record {
  kept : l.self.kept ≡ with_image l.fn.self.kept l.s (image_of l.self.kept l.s);
  starts : AreStarts l.self.kept l.s l.starts;
  outside : outside_of l.self l.s ≡ outside_of l.fn.self l.s;
  lengths : SameLengths (image_of l.fn.self.kept l.s) (image_of l.self.kept l.s);
  few : l.done ≤ length l.bytes;
  same : store_bytes (image_of l.self.kept l.s) (l.at + l.done) (drop l.done l.bytes) ≡ store_bytes (image_of l.fn.self.kept l.s) l.at l.bytes;
}

abbrev pub decreases-loop-done : goal.decreases-loop-done
decreases-loop-done l = length l.bytes - l.done

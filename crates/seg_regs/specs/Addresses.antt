-- Where an address of a program lies: chapter 6 of the PDP-11/40 Processor Handbook, with the segments of `estabur` in Lions'
-- Commentary, `main.c`. An image is the u area, then the data, then the stack; a text lies by itself. Sizes are clicks of 64
-- bytes.
use Rattle.std.specs.Prelude.{ℕ, ◌+◌, ◌*◌, Bool, true, false, Result, Ok, Err}
use Rattle.v6_base.specs.declared.named.Named.{Named}
use Rattle.v6_base.specs.declared.named.Named.TheVariants.{InText, InData, InStack, Nothing}
use Rattle.v6_base.specs.declared.space.Trap.{Trap}
use Rattle.v6_base.specs.declared.space.Trap.TheVariants.{Segment}
use Rattle.v6_base.specs.Image.{named_by}
use Rattle.seg_regs.specs.declared.proto.Spot.{Spot}
use Rattle.seg_regs.specs.declared.proto.Spot.TheVariants.{Text, Image}

-- What an address names lies in the text, which isn't written, or in the image, where the stack follows the data.
abbrev pub spot_of : ℕ → Bool → Named → Result Spot Trap
spot_of d false (InText i) = Ok (Text i)
spot_of d true (InText i) = Err Segment
spot_of d write (InData i) = Ok (Image i)
spot_of d write (InStack i) = Ok (Image (64 * d + i))
spot_of d write Nothing = Err Segment

unfoldable pub translated : ℕ → ℕ → ℕ → ℕ → Bool → Result Spot Trap
translated text d stack v write = spot_of d write (named_by (64 * text) (64 * d) (64 * stack) v)

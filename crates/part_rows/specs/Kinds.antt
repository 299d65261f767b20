-- What a slot has: nothing, an image, or what is kept of a process that has ended.
use Rattle.std.specs.Prelude.{List, map}
use Rattle.image_keep.specs.Kept.{Keeping, Nothing, Alive, Grave, Kept}
use Rattle.part_rows.specs.declared.kind.Kind.{Kind}
use Rattle.part_rows.specs.declared.kind.Kind.TheVariants as kind

abbrev pub kind_of : Keeping → Kind
kind_of Nothing = kind.Nothing
kind_of (Alive held) = kind.Image
kind_of (Grave u block) = kind.Grave

abbrev pub kinds_of : Kept → List Kind
kinds_of k = map kind_of k.slots

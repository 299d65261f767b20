use Rattle.fs_codec.specs.Fields.{fields_of}
use Rattle.fs_codec.specs.Held.{addresses}
use Rattle.fs_laws.specs.Whole.{IsApart}
use Rattle.fs_blocks.specs.State.{disk}
use Rattle.file_rows.proofs.file_system.touch.answers.Given as goal

abbrev pub invariant-loop-number : goal.invariant-loop-number
invariant-loop-number l = IsApart (disk l.volume.state) (addresses (disk l.volume.state) (fields_of l.node))

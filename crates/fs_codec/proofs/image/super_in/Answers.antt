use Rattle.std.proofs.Common.{◌∙◌, ap}
use Rattle.fs_codec.specs.Disk.{disk_of}
use Rattle.fs_codec.specs.Fields.{super_of}
use Rattle.fs_codec.proofs.image.super_in.Goals as goal

pub returns : goal.returns
unfolding disk_of
returns c = c.read_super.ensures ∙ ap super_of c.read_bytes.ensures

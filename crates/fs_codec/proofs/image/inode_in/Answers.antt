use Rattle.std.proofs.Common.{◌+◌, ◌*◌, ◌/◌, ◌%◌, ◌∙◌, ℕ, sym, ap, arith}
use Rattle.fs_codec.specs.Fields.{inode_of}
use Rattle.fs_codec.proofs.ImageLemmas.{part_of_disk}
use Rattle.fs_codec.proofs.image.inode_in.Goals as goal

pub returns : goal.returns
returns c =
    let n : ℕ = c.args.ino + 31 in
    c.read_node.ensures ∙ ap inode_of (c.read_bytes.ensures ∙ sym (part_of_disk c.args.image.now (n / 16) (32 * (n % 16)) (omega arith)))

use Rattle.std.proofs.Common.{◌≡◌, sym, ap, ◌∙◌}
use Rattle.std.proofs.Common.{rules}
use Rattle.fs_codec.specs.Fields.{fields_of}
use Rattle.fs_codec.specs.Bytes.{inode_bytes}
use Rattle.fs_codec.proofs.BytesLemmas.{inode_bytes_of}
use Rattle.make_image.proofs.bytes.push_node.Goals as goal

pub returns-clause-items : goal.returns-clause-items
returns-clause-items c =
    let spelled : c.write_node.new.b ≡ inode_bytes (fields_of c.args.node.now) = sym (inode_bytes_of _ c.write_node.array_long c.push_bytes.ensures.fits) ∙ ap inode_bytes c.write_node.ensures in
    search rules

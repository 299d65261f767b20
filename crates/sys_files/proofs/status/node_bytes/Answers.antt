use Rattle.std.proofs.Common.{sym, ap, ◌∙◌}
use Rattle.fs_codec.specs.Bytes.{inode_bytes}
use Rattle.fs_codec.proofs.BytesLemmas.{inode_bytes_of}
use Rattle.sys_files.proofs.status.node_bytes.Goals as goal

pub returns : goal.returns
returns c = sym (inode_bytes_of c.write_node.new.b c.write_node.array_long c.see_bytes.ensures)
    ∙ ap inode_bytes c.write_node.ensures

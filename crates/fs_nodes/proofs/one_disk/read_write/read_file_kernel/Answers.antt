use Rattle.std.proofs.Common.{◌∙◌, sym, ap, length}
use Rattle.fs_codec.specs.Fields.{Inode, fields_of}
use Rattle.fs_codec.specs.Modes.{is_device}
use Rattle.fs_nodes.specs.Copy.{put_kernel}
use Rattle.fs_nodes.proofs.PieceEnds.{read_device, read_comes, accessed_apart}
use Rattle.fs_nodes.proofs.one_disk.read_write.read_file_kernel.Goals as goal

pub returns-then-is_device : goal.returns-then-is_device
returns-then-is_device c =
    let device_is = ap (λ (x : Inode). is_device x.mode) (sym c.set_access.ensures) in
    record { ends = read_device put_kernel c.args.volume.now.state (fields_of c.args.node.now) (fields_of c.set_access.new.node) c.args.offset (length c.args.buf.now) c.args.time c.args.buf.now c.set_access.ensures (device_is ∙ sym c.is_device.ensures ∙ c.if-is_device.true) c.requires.used }

pub returns : goal.returns
returns c =
    let device_is = ap (λ (x : Inode). is_device x.mode) (sym c.set_access.ensures) in
    record { ends = read_comes put_kernel c.args.volume.now.state c.read_pieces_kernel.new.volume.state (fields_of c.args.node.now) (fields_of c.set_access.new.node) (fields_of c.read_pieces_kernel.new.node) c.args.offset (length c.args.buf.now) c.args.time c.read_end-end.result c.args.buf.now c.read_pieces_kernel.new.buf _ _ c.set_access.ensures (device_is ∙ sym c.is_device.ensures ∙ c.if-is_device.false) c.requires.used c.read_end-end.ensures c.read_pieces_kernel.ensures.comes c.read_pieces_kernel.ensures.grew }

pub read_pieces_kernel-requires-clause-apart : goal.read_pieces_kernel-requires-clause-apart
read_pieces_kernel-requires-clause-apart c = accessed_apart c.args.volume.now.state (fields_of c.args.node.now) (fields_of c.set_access.new.node) _ _ c.set_access.ensures (sym c.is_device.ensures ∙ c.if-is_device.false) c.requires.apart

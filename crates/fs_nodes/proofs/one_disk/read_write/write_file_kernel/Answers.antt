use Rattle.std.proofs.Common.{◌∙◌, sym, ap, length}
use Rattle.fs_codec.specs.Fields.{Inode, fields_of}
use Rattle.fs_codec.specs.Modes.{is_device}
use Rattle.fs_nodes.specs.Copy.{get_kernel}
use Rattle.fs_nodes.proofs.PieceEnds.{write_device, write_comes, accessed_apart}
use Rattle.fs_nodes.proofs.one_disk.read_write.write_file_kernel.Goals as goal

pub returns-then-is_device : goal.returns-then-is_device
returns-then-is_device c =
    let device_is = ap (λ (x : Inode). is_device x.mode) (sym c.set_times.ensures) in
    write_device (get_kernel c.args.buf.now) c.args.volume.now.state (fields_of c.args.node.now) (fields_of c.set_times.new.node) c.args.offset (length c.args.buf.now) c.args.time (tt {0}) c.set_times.ensures (device_is ∙ sym c.is_device.ensures ∙ c.if-is_device.true) c.requires.used

pub returns : goal.returns
returns c =
    let device_is = ap (λ (x : Inode). is_device x.mode) (sym c.set_times.ensures) in
    write_comes (get_kernel c.args.buf.now) c.args.volume.now.state c.write_pieces_kernel.new.volume.state (fields_of c.args.node.now) (fields_of c.set_times.new.node) (fields_of c.write_pieces_kernel.new.node) c.args.offset (length c.args.buf.now) c.args.time (tt {0}) (tt {0}) _ _ c.set_times.ensures (device_is ∙ sym c.is_device.ensures ∙ c.if-is_device.false) c.requires.used c.write_pieces_kernel.ensures.comes c.write_pieces_kernel.ensures.grew

pub write_pieces_kernel-requires-clause-apart : goal.write_pieces_kernel-requires-clause-apart
write_pieces_kernel-requires-clause-apart c = accessed_apart c.args.volume.now.state (fields_of c.args.node.now) (fields_of c.set_times.new.node) _ _ c.set_times.ensures (sym c.is_device.ensures ∙ c.if-is_device.false) c.requires.apart

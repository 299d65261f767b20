use Rattle.std.proofs.Common.{◌∙◌, sym, ap}
use Rattle.fs_codec.specs.Fields.{Inode, fields_of}
use Rattle.fs_codec.specs.Modes.{is_device}
use Rattle.fs_nodes.specs.Copy.{get_from}
use Rattle.fs_nodes.proofs.PieceEnds.{write_device, write_comes, accessed_apart}
use Rattle.fs_nodes.proofs.one_disk.read_write.write_file.Goals as goal

pub returns-then-is_device : goal.returns-then-is_device
returns-then-is_device g c =
    let device_is = ap (λ (x : Inode). is_device x.mode) (sym c.set_times.ensures) in
    write_device (get_from (g.S.Space.image c.args.space.now) c.args.at) c.args.volume.now.state (fields_of c.args.node.now) (fields_of c.set_times.new.node) c.args.offset c.args.count c.args.time (tt {0}) c.set_times.ensures (device_is ∙ sym c.is_device.ensures ∙ c.if-is_device.true) c.requires.used

pub returns : goal.returns
returns g c =
    let device_is = ap (λ (x : Inode). is_device x.mode) (sym c.set_times.ensures) in
    write_comes (get_from (g.S.Space.image c.args.space.now) c.args.at) c.args.volume.now.state c.write_pieces.new.volume.state (fields_of c.args.node.now) (fields_of c.set_times.new.node) (fields_of c.write_pieces.new.node) c.args.offset c.args.count c.args.time (tt {0}) (tt {0}) _ _ c.set_times.ensures (device_is ∙ sym c.is_device.ensures ∙ c.if-is_device.false) c.requires.used c.write_pieces.ensures.comes c.write_pieces.ensures.grew

pub write_pieces-requires-clause-apart : goal.write_pieces-requires-clause-apart
write_pieces-requires-clause-apart g c = accessed_apart c.args.volume.now.state (fields_of c.args.node.now) (fields_of c.set_times.new.node) _ _ c.set_times.ensures (sym c.is_device.ensures ∙ c.if-is_device.false) c.requires.apart

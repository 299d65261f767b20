use Rattle.std.proofs.Common.{◌∙◌, sym, ap}
use Rattle.fs_codec.specs.Fields.{Inode, fields_of}
use Rattle.fs_codec.specs.Modes.{is_device}
use Rattle.fs_nodes.specs.Copy.{put_into}
use Rattle.fs_nodes.proofs.PieceEnds.{read_device, read_comes, accessed_apart}
use Rattle.fs_nodes.proofs.one_disk.read_write.read_file.Goals as goal

pub returns-then-is_device-clause-ends : goal.returns-then-is_device-clause-ends
returns-then-is_device-clause-ends g c =
    let device_is = ap (λ (x : Inode). is_device x.mode) (sym c.set_access.ensures) in
    read_device (put_into c.args.at) c.args.volume.now.state (fields_of c.args.node.now) (fields_of c.set_access.new.node) c.args.offset c.args.count c.args.time (g.S.Space.image c.args.space.now) c.set_access.ensures (device_is ∙ sym c.is_device.ensures ∙ c.if-is_device.true) c.requires.used

pub returns-clause-ends : goal.returns-clause-ends
returns-clause-ends g c =
    let device_is = ap (λ (x : Inode). is_device x.mode) (sym c.set_access.ensures) in
    read_comes (put_into c.args.at) c.args.volume.now.state c.read_pieces.new.volume.state (fields_of c.args.node.now) (fields_of c.set_access.new.node) (fields_of c.read_pieces.new.node) c.args.offset c.args.count c.args.time c.read_end-end.result (g.S.Space.image c.args.space.now) (g.S.Space.image c.read_pieces.new.space) _ _ c.set_access.ensures (device_is ∙ sym c.is_device.ensures ∙ c.if-is_device.false) c.requires.used c.read_end-end.ensures c.read_pieces.ensures.comes c.read_pieces.ensures.grew

pub read_pieces-requires-clause-apart : goal.read_pieces-requires-clause-apart
read_pieces-requires-clause-apart g c = accessed_apart c.args.volume.now.state (fields_of c.args.node.now) (fields_of c.set_access.new.node) _ _ c.set_access.ensures (sym c.is_device.ensures ∙ c.if-is_device.false) c.requires.apart

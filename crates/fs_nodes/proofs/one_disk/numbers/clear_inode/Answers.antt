use Rattle.std.proofs.Common.{refl, sym}
use Rattle.fs_codec.specs.Fields.{fields_of}
use Rattle.fs_nodes.specs.one_disk.Table.{seen}
use Rattle.fs_nodes.proofs.NumbersBack.{used_apart, still_there}
use Rattle.fs_nodes.proofs.HeldLemmas.{apart_real}
use Rattle.fs_nodes.proofs.ClearLate.{clear_late}
use Rattle.fs_nodes.proofs.one_disk.numbers.clear_inode.Goals as goal

pub truncate-requires : goal.truncate-requires
truncate-requires c = record {
  apart = λ no. apart_real c.args.volume.now.state c.args.table.now (fields_of c.args.node) c.requires.held
      (used_apart (seen c.args.volume.now.state c.args.table.now) c.args.ino (fields_of c.args.node) c.requires.held.nodes.whole c.requires.low c.requires.high (sym c.requires.node) c.requires.used no);
}

pub write_inode-requires-clause-high : goal.write_inode-requires-clause-high
write_inode-requires-clause-high c =
    still_there c.args.volume.now.state c.truncate.new.self.state c.args.ino (fields_of c.args.node) (fields_of c.truncate.new.node) c.requires.high c.see.ensures.sound.fits c.see-2.ensures.sound.fits
    (λ yes. (c.truncate.ensures.device yes).0) c.truncate.ensures.truncated

pub returns : goal.returns
returns c = λ file is.
    clear_late c.args.volume.now.state c.truncate.new.self.state c.write_inode.new.volume.state c.args.table.now c.args.ino (fields_of c.args.node) (fields_of c.truncate.new.node) _ file c.requires.held
    c.see-2.ensures.blocks c.see-2.ensures.sound c.see-3.ensures.blocks c.see-3.ensures.sound c.requires.low c.requires.high c.requires.none
    (sym c.requires.node) c.requires.used refl (λ yes. (c.truncate.ensures.device yes).0) c.truncate.ensures.truncated is c.write_inode.ensures.written

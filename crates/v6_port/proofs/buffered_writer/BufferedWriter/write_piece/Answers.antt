use Rattle.v6_port.proofs.BufferLemmas.{took_piece}
use Rattle.v6_port.proofs.buffered_writer.BufferedWriter.write_piece.Goals as goal

pub returns-clause-bytes : goal.returns-clause-bytes
returns-clause-bytes g c = took_piece _ _ _ _ _ _ _ c.in_ok-make_room.ensures.bytes c.write.ensures.bytes c.make_room.new.self.is_front

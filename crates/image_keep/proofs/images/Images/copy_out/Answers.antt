use Rattle.std.proofs.Common.{length, sym, ◌∙◌, arith}
use Rattle.std.proofs.lemmas.Bool.{eqb-false}
use Rattle.image_keep.proofs.Words.{run_put}
use Rattle.image_keep.proofs.images.Images.copy_out.Goals as goal

pub returns-then-bytes-room-clause-done : goal.returns-then-bytes-room-clause-done
returns-then-bytes-room-clause-done c =
    (run_put c.args.self.now.kept c.put_part.new.self.kept c.args.s c.args.at c.args.bytes.now c.find-first.result c.requires.formed (omega arith) c.find-first.ensures.named
    (c.is_storable.ensures.0 c.if-is_storable.true) (let none = eqb-false (length c.args.bytes.now) 0 (sym c.is_empty.ensures ∙ c.if-not-is_empty.true) in omega (arith, none)) (let r = c.room.ensures in let t = c.if-bytes-room.true in omega (arith, r, t)) c.put_part.ensures.kept).0

pub returns-then-bytes-room-clause-kept : goal.returns-then-bytes-room-clause-kept
returns-then-bytes-room-clause-kept c =
    (run_put c.args.self.now.kept c.put_part.new.self.kept c.args.s c.args.at c.args.bytes.now c.find-first.result c.requires.formed (omega arith) c.find-first.ensures.named
    (c.is_storable.ensures.0 c.if-is_storable.true) (let none = eqb-false (length c.args.bytes.now) 0 (sym c.is_empty.ensures ∙ c.if-not-is_empty.true) in omega (arith, none)) (let r = c.room.ensures in let t = c.if-bytes-room.true in omega (arith, r, t)) c.put_part.ensures.kept).1

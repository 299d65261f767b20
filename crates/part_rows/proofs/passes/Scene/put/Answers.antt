use Rattle.std.proofs.Common.{◌∙◌, ◌+◌, Some, refl, sym, arith}
use Rattle.pick_rules.specs.declared.row.TableRow.{TableRow}
use Rattle.pick_rules.specs.Table.{empty_row}
use Rattle.part_rows.proofs.SceneLemmas.{no_text_at, put_matches, put_plain}
use Rattle.part_rows.proofs.passes.Scene.put.Goals as goal

pub replace-requires-clause-text : goal.replace-requires-clause-text
replace-requires-clause-text c = no_text_at c.args.self.now.images.kept c.args.s c.args.self.now.plain

pub invariant_of-self : goal.invariant_of-self
invariant_of-self c =
    let z = c.if-s-eq0.false in
    let row : TableRow = record empty_row {
      stat = c.args.stat;
      time = c.args.time;
      size = 16 + c.in_ok-proto.proto.data_size + c.in_ok-proto.proto.stack_size;
      place = Some c.in-Ok.place;
    } in
    record {
      matching = put_matches c.args.self.now.table c.args.self.now.images.kept c.replace.new.self.kept c.args.s _ _ c.in-Ok.place row _
          c.args.self.now.matching c.args.self.now.plain (omega (arith, z)) c.if-s-ge50.false c.place.ensures.holds.slots c.in-Ok.ensures.place
          c.replace.ensures.kept (sym c.lives.ensures ∙ c.if-not-lives.false) refl refl refl;
      plain = put_plain c.args.self.now.table c.args.self.now.images.kept c.replace.new.self.kept c.args.s _ _ c.in-Ok.place row _
          c.args.self.now.matching c.args.self.now.plain (omega (arith, z)) c.if-s-ge50.false c.place.ensures.holds.slots c.in-Ok.ensures.place
          c.replace.ensures.kept;
    }

use Rattle.std.proofs.Common.{◌≤◌, None, sym, ◌∙◌, inl, inr, arith}
use Rattle.std.proofs.lemmas.Bool.{cases_lt}
use Rattle.std.proofs.lemmas.Option.{none-some}
use Rattle.std.proofs.lemmas.List.{get_or_past}
use Rattle.file_rows.proofs.file_system.files.have_room.Goals as goal

pub returns-clause-room : goal.returns-clause-room
returns-clause-room c holds entry file is =
    let end : 100 ≤ c.loop-entry.entry = omega (arith, c.loop-entry-test.false) in
    let long = c.in_use.ensures.long in
    elim (cases_lt entry c.loop-entry.entry) [
      | inl low ↦ c.loop-entry.invariant entry file low is
      | inr past ↦ absurd (none-some file (sym (get_or_past c.args.table.now entry None (omega (arith, long, end, past))) ∙ is))
    ]

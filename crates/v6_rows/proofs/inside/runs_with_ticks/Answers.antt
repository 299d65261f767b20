use Rattle.std.proofs.Common.{rules, ◌≡◌, ◌∙◌, ap, sym}
use Rattle.abstract_unix.specs.declared.ends.Ends.TheVariants.{AtEnd}
use Rattle.abstract_unix.specs.Endings.{phase_after}
use Rattle.abstract_unix.specs.Runs.{Slot, event_of}
use Rattle.abstract_unix.proofs.RunsLemmas.{ending_told, turn_told}
use Rattle.v6_rows.proofs.inside.runs_with_ticks.Goals as goal

pub tick-requires : goal.tick-requires
tick-requires c =
    let turn = c.turn.ensures in
    let told : ending_told c.turn.result ≡ AtEnd = search rules in
    let goes = turn_told (event_of Slot c.slots.kernel.system) ∙ ap ending_told (sym turn.answer) ∙ told in
    turn.phase ∙ ap phase_after goes

use Rattle.std.proofs.Common.{◌∷◌, [], Bool, sym, ◌∙◌, ap}
use Rattle.v6_base.specs.declared.entry.Chan.{Chan}
use Rattle.v6_base.specs.declared.entry.Entry.TheVariants.{Wake}
use Rattle.v6_base.specs.Trace.{Log}
use Rattle.v6_base.proofs.Took.{took_then}
use Rattle.lines_eight.specs.Told.{keys_of, show_of, wakes_if}
use Rattle.lines_eight.proofs.told.tell_flushed.Goals as goal

pub returns-then-show-clause-items : goal.returns-then-show-clause-items
returns-then-show-clause-items g c =
    took_then _ _ _ _ _ _ c.entry.ensures.took c.entry-then-show.ensures.took
    (ap (λ (k : Chan). Log (Wake k) ∷ Log (Wake c.show_of.result) ∷ []) c.keys_of.ensures
    ∙ ap (λ (k : Chan). Log (Wake (keys_of c.args.l)) ∷ Log (Wake k) ∷ []) c.show_of.ensures
    ∙ ap (λ (b : Bool). Log (Wake (keys_of c.args.l)) ∷ wakes_if b (show_of c.args.l)) (sym c.if-show.true))

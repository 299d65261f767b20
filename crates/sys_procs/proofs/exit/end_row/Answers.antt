use Rattle.std.proofs.Common.{ℕ, [], ◌∷◌, subst}
use Rattle.std.specs.Option.{unwrap_or}
use Rattle.v6_base.specs.Trace.{Log, Took}
use Rattle.v6_base.specs.declared.entry.Chan.TheVariants.{Wait}
use Rattle.v6_base.specs.declared.entry.Entry.TheVariants as line
use Rattle.v6_base.proofs.Took.{took_more}
use Rattle.sys_procs.proofs.exit.end_row.Goals as goal

pub returns-clause-items : goal.returns-clause-items
returns-clause-items g c =
    let up : ℕ = unwrap_or c.args.parent 1 in
    let last = subst (λ (n : ℕ). Took (g.T.Trace.taken c.wake.new.trace) (Log (line.Wake (Wait n)) ∷ []) (g.T.Trace.taken c.wake-2.new.trace)) c.unwrap_or.ensures c.wake-2.ensures.items in
    took_more _ _ _ (Log (line.Exit c.args.s c.args.block) ∷ []) (Log (line.Wake (Wait 1)) ∷ Log (line.Wake (Wait up)) ∷ []) c.entry.ensures.took
    (took_more _ _ _ (Log (line.Wake (Wait 1)) ∷ []) (Log (line.Wake (Wait up)) ∷ []) c.wake.ensures.items last)

use Rattle.std.proofs.Common.{ℕ, Option, ap, sym, subst, ◌∙◌, is_some}
use Rattle.std.specs.Option.{unwrap_or}
use Rattle.proc_tab.specs.Pids.{IsFresh}
use Rattle.proc_tab.proofs.PidLemmas.{one_is_free, is_fresh}
use Rattle.proc_tab.proofs.search.fresh_pid.Goals as goal

pub unwrap-requires : goal.unwrap-requires
unwrap-requires c = ap is_some c.next_free_pid.ensures ∙ one_is_free c.args.slots.now c.args.last c.told-slots

pub returns-clause-words : goal.returns-clause-words
returns-clause-words c =
    subst (λ (pid : ℕ). IsFresh c.args.slots.now c.args.last pid) (ap (λ (o : Option ℕ). unwrap_or o 0) (sym c.next_free_pid.ensures ∙ c.unwrap.ensures)) (is_fresh c.args.slots.now c.args.last c.told-slots)

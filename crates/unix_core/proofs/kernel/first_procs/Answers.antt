use Rattle.std.proofs.Common.{◌∙◌, sym, ap, subst}
use Rattle.pick_rules.specs.Table.{IsTable}
use Rattle.image_keep.specs.Kept.{Kept, Alive, with_keeping}
use Rattle.sys_procs.specs.declared.procs.Procs.{Procs}
use Rattle.unix_core.specs.Parts.{first_held}
use Rattle.unix_core.proofs.kernel.first_procs.Goals as goal

pub returns-clause-first : goal.returns-clause-first
returns-clause-first c =
    let made = c.make_first.ensures in
    record {
      rows = ap (λ (p : Procs). p.rows) made.others ∙ c.new.ensures;
      table = ap (λ (p : Procs). p.table) made.others ∙ c.new-2.ensures.table;
      good = subst (λ (p : Procs). IsTable p.table) (sym made.others) c.new-2.ensures.good;
      kept = made.kept ∙ ap (λ (k : Kept). with_keeping k 1 (Alive first_held)) c.requires.empty;
      switches = ap (λ (p : Procs). p.switches) made.others;
    }

use Rattle.std.proofs.Common.{◌∙◌, Some, sym, ap, subst}
use Rattle.text_tab.specs.declared.row.TextRow.{TextRow}
use Rattle.sys_procs.specs.World.{texts_in}
use Rattle.sys_procs.specs.inside.Tested.{AreSized}
use Rattle.sys_procs.proofs.TestsLemmas.{found_clicks, no_clicks, all_sized, none_sized}
use Rattle.sys_procs.proofs.tested.entry_clicks.Goals as goal

pub returns-in-Some-clause-clicks : goal.returns-in-Some-clause-clicks
returns-in-Some-clause-clicks c =
    ap (λ (r : TextRow). Some r.clicks) c.text_row.ensures
    ∙ found_clicks c.args.images.now.kept c.args.ino c.in-Some.t c.in-Some.ensures.sized (sym c.in-Some.ensures.text)

pub returns-in-Some-clause-sized : goal.returns-in-Some-clause-sized
returns-in-Some-clause-sized c = λ size.
    subst (λ (r : TextRow). AreSized (texts_in c.args.images.now.kept) c.args.ino r.clicks) (sym c.text_row.ensures)
    (all_sized c.args.images.now.kept c.args.ino c.in-Some.t c.in-Some.ensures.texts c.in-Some.ensures.sized c.in-Some.ensures.words)

pub returns-in-None-clause-clicks : goal.returns-in-None-clause-clicks
returns-in-None-clause-clicks c = no_clicks c.args.images.now.kept c.args.ino (sym c.in-None.ensures.text)

pub returns-in-None-clause-sized : goal.returns-in-None-clause-sized
returns-in-None-clause-sized c = λ size. none_sized c.args.images.now.kept c.args.ino size c.in-None.ensures.words

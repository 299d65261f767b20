use Rattle.std.proofs.Common.{◌∙◌, ap, sym}
use Rattle.text_tab.specs.Table.{joined, loaded_at, with_change}
use Rattle.image_keep.specs.Moves.{forked_row}
use Rattle.image_keep.proofs.Recounting.{change_twice}
use Rattle.image_keep.proofs.fork.share_text.Goals as goal

pub returns-in-Core : goal.returns-in-Core
returns-in-Core c = c.load.ensures ∙ ap (λ l. with_change l c.args.t (loaded_at c.in-Core.click)) c.join.ensures ∙ change_twice c.args.texts.now c.args.t joined (loaded_at c.in-Core.click) c.requires.used ∙ ap (λ p. with_change c.args.texts.now c.args.t (forked_row p)) (sym c.in-Core.is)

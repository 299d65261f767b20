use Rattle.image_keep.proofs.StateOf.{kept_is}
use Rattle.std.proofs.Common.{◌+◌, ◌*◌, ◌≤◌, ◌∙◌, refl, sym, ap, subst}
use Rattle.image_keep.specs.declared.row.Row.{Row}
use Rattle.image_keep.specs.Inside.{stock_in}
use Rattle.image_keep.specs.Memory.{is_alive}
use Rattle.image_keep.proofs.AreaSet.{known}
use Rattle.image_keep.proofs.KeptForm.{kept_holds}
use Rattle.image_keep.proofs.Lent.{start_low, segments_fit, starts_are}
use Rattle.image_keep.proofs.images.Images.starts.Goals as goal

pub row_of-row-requires : goal.row_of-row-requires
row_of-row-requires c = rw c.deref.ensures.value ((known (stock_in c.self.inside) c.args.self.now.kept c.args.s (kept_is c.self.view_is) c.self.invariant.sound c.self.invariant.counted c.requires).low)

pub start_of_text-text-requires-clause-out : goal.start_of_text-text-requires-clause-out
start_of_text-text-requires-clause-out c t e = ((known (stock_in c.self.inside) c.args.self.now.kept c.args.s (kept_is c.self.view_is) c.self.invariant.sound c.self.invariant.counted c.requires).text t (sym (ap (λ (r : Row). r.text) (rw c.deref.ensures.value at c.row_of-row.ensures)) ∙ e)).out.0

pub start_of_text-text-requires-clause-within : goal.start_of_text-text-requires-clause-within
start_of_text-text-requires-clause-within c t e z = (((known (stock_in c.self.inside) c.args.self.now.kept c.args.s (kept_is c.self.view_is) c.self.invariant.sound c.self.invariant.counted c.requires).text t (sym (ap (λ (r : Row). r.text) (rw c.deref.ensures.value at c.row_of-row.ensures)) ∙ e)).within z).0

pub place_of-requires : goal.place_of-requires
place_of-requires c = ap is_alive (ap (λ (r : Row). r.state) (rw c.deref.ensures.value at c.row_of-row.ensures) ∙ (known (stock_in c.self.inside) c.args.self.now.kept c.args.s (kept_is c.self.view_is) c.self.invariant.sound c.self.invariant.counted c.requires).is)

pub starts_at-requires-clause-low_text : goal.starts_at-requires-clause-low_text
starts_at-requires-clause-low_text c = subst (λ n. n ≤ 1000000) (sym c.start_of_text-text.ensures) (start_low (stock_in c.self.inside) c.row_of-row.result.text c.self.invariant.sound.most (λ t e. (known (stock_in c.self.inside) c.args.self.now.kept c.args.s (kept_is c.self.view_is) c.self.invariant.sound c.self.invariant.counted c.requires).text t (sym (ap (λ (r : Row). r.text) (rw c.deref.ensures.value at c.row_of-row.ensures)) ∙ e)))

pub starts_at-requires-clause-segments : goal.starts_at-requires-clause-segments
starts_at-requires-clause-segments c = segments_fit (stock_in c.self.inside) c.args.self.now.kept c.args.s c.clicks_of_text-clicks.result c.row_of-row.result c.place_of.result (kept_is c.self.view_is) c.self.invariant.sound c.self.invariant.counted c.self.invariant.told c.requires (rw c.deref.ensures.value at c.row_of-row.ensures) c.place_of.ensures c.clicks_of_text-clicks.ensures

pub returns-clause-starts : goal.returns-clause-starts
returns-clause-starts c = (starts_are (stock_in c.self.inside) c.args.self.now.kept c.args.s c.place_click.result c.clicks_of_text-clicks.result c.start_of_text-text.result (64 * c.place_click.result + 1024) c.row_of-row.result c.place_of.result c.starts_at.result (kept_is c.self.view_is) c.self.invariant.sound c.self.invariant.counted c.requires (rw c.deref.ensures.value at c.row_of-row.ensures) c.place_of.ensures c.place_click.ensures c.clicks_of_text-clicks.ensures c.start_of_text-text.ensures refl c.starts_at.ensures.text c.starts_at.ensures.image c.starts_at.ensures.text_len c.starts_at.ensures.data_len c.starts_at.ensures.stack_start c.starts_at.ensures.core)

pub returns-clause-holds : goal.returns-clause-holds
returns-clause-holds c = kept_holds (stock_in c.self.inside) c.args.self.now.kept (kept_is c.self.view_is) c.self.invariant.sound c.self.invariant.table c.self.invariant.told c.see_bytes.ensures

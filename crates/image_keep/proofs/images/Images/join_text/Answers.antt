use Rattle.image_keep.proofs.StateOf.{kept_is}
use Rattle.std.proofs.Common.{◌∙◌, sym, ap, subst, length, Some}
use Rattle.std.specs.Vec.{with_items}
use Rattle.std.proofs.lemmas.List.{with_items_is, length-set}
use Rattle.text_tab.specs.Table.{joined, row_at as text_row}
use Rattle.image_keep.specs.Inside.{stock_in}
use Rattle.image_keep.specs.Told.{AreTold}
use Rattle.image_keep.proofs.TextSearch.{used_is}
use Rattle.image_keep.proofs.NewText.{text_joined, few_users}
use Rattle.image_keep.proofs.TextTold.{told_joined}
use Rattle.image_keep.proofs.images.Images.join_text.Goals as goal

pub join-requires-clause-used : goal.join-requires-clause-used
join-requires-clause-used c = used_is (stock_in c.self.inside) c.args.self.now.kept c.args.t (kept_is c.self.view_is) c.requires.used

pub join-requires-clause-few : goal.join-requires-clause-few
join-requires-clause-few c = few_users (stock_in c.self.inside) c.args.t c.self.invariant.sound c.self.invariant.counted (used_is (stock_in c.self.inside) c.args.self.now.kept c.args.t (kept_is c.self.view_is) c.requires.used)

pub invariant_of-self : goal.invariant_of-self
invariant_of-self c =
    let g = (text_joined (stock_in c.self.inside) c.args.self.now.kept c.args.s c.args.t c.self.inside.core_map c.self.inside.swap_map c.join.new.self (with_items c.self.inside.rows c.give_text.new.rows).items (kept_is c.self.view_is) c.self.invariant.sound c.self.invariant.maps c.self.invariant.counted c.requires.slot c.requires.nothing c.requires.no_text (used_is (stock_in c.self.inside) c.args.self.now.kept c.args.t (kept_is c.self.view_is) c.requires.used) c.join.ensures (with_items_is c.self.inside.rows c.give_text.new.rows (c.give_text.ensures.long ∙ c.deref_mut.ensures.len) ∙ (rw c.deref_mut.ensures.value at c.give_text.ensures.rows))) in
    record {
      sound = g.sound;
      maps = g.maps;
      table = ap length c.join.ensures ∙ length-set c.self.inside.texts c.args.t (Some (joined (text_row c.self.inside.texts c.args.t))) ∙ c.self.invariant.table;
      cut = c.self.invariant.cut;
      counted = g.counted;
      told = subst AreTold (sym g.kept) (told_joined c.args.self.now.kept c.args.s c.args.t (subst AreTold (kept_is c.self.view_is) c.self.invariant.told) c.requires.nothing);
    }

pub returns : goal.returns
returns c = (text_joined (stock_in c.self.inside) c.args.self.now.kept c.args.s c.args.t c.self.inside.core_map c.self.inside.swap_map c.join.new.self (with_items c.self.inside.rows c.give_text.new.rows).items (kept_is c.self.view_is) c.self.invariant.sound c.self.invariant.maps c.self.invariant.counted c.requires.slot c.requires.nothing c.requires.no_text (used_is (stock_in c.self.inside) c.args.self.now.kept c.args.t (kept_is c.self.view_is) c.requires.used) c.join.ensures (with_items_is c.self.inside.rows c.give_text.new.rows (c.give_text.ensures.long ∙ c.deref_mut.ensures.len) ∙ (rw c.deref_mut.ensures.value at c.give_text.ensures.rows))).kept

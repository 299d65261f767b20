use Rattle.image_keep.proofs.StateOf.{kept_is}
use Rattle.std.proofs.Common.{◌≤◌, ◌∙◌, sym, ap, subst, arith, length, inr}
use Rattle.text_tab.specs.declared.row.TextRow.{TextRow}
use Rattle.image_keep.specs.Inside.{stock_in}
use Rattle.image_keep.specs.Line.{line_of}
use Rattle.image_keep.specs.Memory.{swap_at, kept_of}
use Rattle.image_keep.proofs.Filling.{used_there, fill_inside, block_low, text_filled}
use Rattle.image_keep.proofs.Told.{filled_told}
use Rattle.image_keep.proofs.images.Images.text_bytes.Goals as goal

pub row-row-requires : goal.row-row-requires
row-row-requires c = used_there (stock_in c.self.inside) c.args.self.now.kept c.args.t c.requires.0 (kept_is c.self.view_is) c.requires.1

pub block_click-first-requires : goal.block_click-first-requires
block_click-first-requires c = subst (λ (r : TextRow). 4000 ≤ r.block) (sym c.row-row.ensures) (block_low (stock_in c.self.inside) c.args.self.now.kept c.args.t c.requires.0 (kept_is c.self.view_is) c.self.invariant.sound c.requires.1)

pub overflow_mul-first : goal.overflow_mul-first
overflow_mul-first c = let f = (fill_inside (stock_in c.self.inside) c.args.self.now.kept c.args.t c.args.at (length c.args.bytes.now) c.block_click-first.result (length c.self.inside.memory.core) (length (line_of c.self.inside.memory)) c.requires.0 (kept_is c.self.view_is) c.self.invariant.sound c.requires.1 c.requires.3 (c.block_click-first.ensures ∙ ap (λ (r : TextRow). swap_at c.self.inside.core r.block) c.row-row.ensures) c.self.invariant.cut c.self.invariant.sound.size).1 in let z = c.self.invariant.sound.size in let m = c.self.invariant.sound.most in omega (arith, f, z, m)

pub overflow_add-first : goal.overflow_add-first
overflow_add-first c = let f = (fill_inside (stock_in c.self.inside) c.args.self.now.kept c.args.t c.args.at (length c.args.bytes.now) c.block_click-first.result (length c.self.inside.memory.core) (length (line_of c.self.inside.memory)) c.requires.0 (kept_is c.self.view_is) c.self.invariant.sound c.requires.1 c.requires.3 (c.block_click-first.ensures ∙ ap (λ (r : TextRow). swap_at c.self.inside.core r.block) c.row-row.ensures) c.self.invariant.cut c.self.invariant.sound.size).1 in let z = c.self.invariant.sound.size in let m = c.self.invariant.sound.most in omega (arith, f, z, m)

pub put-requires-clause-place : goal.put-requires-clause-place
put-requires-clause-place c = inr (fill_inside (stock_in c.self.inside) c.args.self.now.kept c.args.t c.args.at (length c.args.bytes.now) c.block_click-first.result (length c.self.inside.memory.core) (length (line_of c.self.inside.memory)) c.requires.0 (kept_is c.self.view_is) c.self.invariant.sound c.requires.1 c.requires.3 (c.block_click-first.ensures ∙ ap (λ (r : TextRow). swap_at c.self.inside.core r.block) c.row-row.ensures) c.self.invariant.cut c.self.invariant.sound.size).0

pub put-requires-clause-inside : goal.put-requires-clause-inside
put-requires-clause-inside c = (fill_inside (stock_in c.self.inside) c.args.self.now.kept c.args.t c.args.at (length c.args.bytes.now) c.block_click-first.result (length c.self.inside.memory.core) (length (line_of c.self.inside.memory)) c.requires.0 (kept_is c.self.view_is) c.self.invariant.sound c.requires.1 c.requires.3 (c.block_click-first.ensures ∙ ap (λ (r : TextRow). swap_at c.self.inside.core r.block) c.row-row.ensures) c.self.invariant.cut c.self.invariant.sound.size).1

pub invariant_of-self : goal.invariant_of-self
invariant_of-self c = record {
  sound = (text_filled (stock_in c.self.inside) c.args.self.now.kept c.args.t c.args.at c.block_click-first.result c.args.bytes.now (line_of c.put.new.self) c.requires.0 (kept_is c.self.view_is) c.self.invariant.sound c.requires.1 c.requires.2 c.requires.3 (c.block_click-first.ensures ∙ ap (λ (r : TextRow). swap_at c.self.inside.core r.block) c.row-row.ensures) c.put.ensures.bytes).sound;
  maps = record { core = c.self.invariant.maps.core; swap = c.self.invariant.maps.swap };
  table = c.self.invariant.table;
  cut = c.put.ensures.core ∙ c.self.invariant.cut;
  counted = c.self.invariant.counted;
  told = (let g = (text_filled (stock_in c.self.inside) c.args.self.now.kept c.args.t c.args.at c.block_click-first.result c.args.bytes.now (line_of c.put.new.self) c.requires.0 (kept_is c.self.view_is) c.self.invariant.sound c.requires.1 c.requires.2 c.requires.3 (c.block_click-first.ensures ∙ ap (λ (r : TextRow). swap_at c.self.inside.core r.block) c.row-row.ensures) c.put.ensures.bytes) in filled_told (kept_of (stock_in c.self.inside)) (kept_of (record (stock_in c.self.inside) { line = line_of c.put.new.self })) c.args.self.now.kept c.args.t c.args.at c.args.bytes.now (kept_is c.self.view_is) g.texts g.users g.slots c.self.invariant.told);
}

pub returns-clause-texts : goal.returns-clause-texts
returns-clause-texts c = (text_filled (stock_in c.self.inside) c.args.self.now.kept c.args.t c.args.at c.block_click-first.result c.args.bytes.now (line_of c.put.new.self) c.requires.0 (kept_is c.self.view_is) c.self.invariant.sound c.requires.1 c.requires.2 c.requires.3 (c.block_click-first.ensures ∙ ap (λ (r : TextRow). swap_at c.self.inside.core r.block) c.row-row.ensures) c.put.ensures.bytes).texts

pub returns-clause-slots : goal.returns-clause-slots
returns-clause-slots c = (text_filled (stock_in c.self.inside) c.args.self.now.kept c.args.t c.args.at c.block_click-first.result c.args.bytes.now (line_of c.put.new.self) c.requires.0 (kept_is c.self.view_is) c.self.invariant.sound c.requires.1 c.requires.2 c.requires.3 (c.block_click-first.ensures ∙ ap (λ (r : TextRow). swap_at c.self.inside.core r.block) c.row-row.ensures) c.put.ensures.bytes).slots

pub returns-clause-users : goal.returns-clause-users
returns-clause-users c = (text_filled (stock_in c.self.inside) c.args.self.now.kept c.args.t c.args.at c.block_click-first.result c.args.bytes.now (line_of c.put.new.self) c.requires.0 (kept_is c.self.view_is) c.self.invariant.sound c.requires.1 c.requires.2 c.requires.3 (c.block_click-first.ensures ∙ ap (λ (r : TextRow). swap_at c.self.inside.core r.block) c.row-row.ensures) c.put.ensures.bytes).users

pub returns-clause-core : goal.returns-clause-core
returns-clause-core c = (text_filled (stock_in c.self.inside) c.args.self.now.kept c.args.t c.args.at c.block_click-first.result c.args.bytes.now (line_of c.put.new.self) c.requires.0 (kept_is c.self.view_is) c.self.invariant.sound c.requires.1 c.requires.2 c.requires.3 (c.block_click-first.ensures ∙ ap (λ (r : TextRow). swap_at c.self.inside.core r.block) c.row-row.ensures) c.put.ensures.bytes).core

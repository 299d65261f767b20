use Rattle.image_keep.proofs.StateOf.{kept_is, core_is, line_is}
use Rattle.std.proofs.Common.{◌+◌, ◌≤◌, ◌∙◌, ℕ, List, length, sym, ap, subst}
use Rattle.core_mem.specs.Bytes.{over}
use Rattle.image_keep.specs.Inside.{stock_in}
use Rattle.image_keep.specs.Line.{line_of}
use Rattle.image_keep.specs.Starts.{AreStarts, start_of}
use Rattle.image_keep.proofs.RunsRead.{run_read}
use Rattle.image_keep.proofs.Lent.{side_to}
use Rattle.image_keep.proofs.Putting.{puts}
use Rattle.image_keep.proofs.Outside.{part_outside}
use Rattle.image_keep.proofs.images.Images.put_part.Goals as goal

pub put-requires-clause-place : goal.put-requires-clause-place
put-requires-clause-place c = side_to c.self.inside.core (start_of c.args.starts.now c.args.to) (length c.args.bytes.now) (length c.self.inside.memory.core) c.start_of.result (run_read (stock_in c.self.inside) c.args.self.now.kept c.args.s (length c.args.bytes.now) c.args.starts.now c.args.to (kept_is c.self.view_is) c.self.invariant.sound c.self.invariant.counted c.requires.starts c.requires.within c.requires.few c.requires.some).side c.start_of.ensures c.self.invariant.cut

pub put-requires-clause-inside : goal.put-requires-clause-inside
put-requires-clause-inside c = subst (λ j. j + (length c.args.bytes.now) ≤ length (line_of c.self.inside.memory)) (sym c.start_of.ensures) (run_read (stock_in c.self.inside) c.args.self.now.kept c.args.s (length c.args.bytes.now) c.args.starts.now c.args.to (kept_is c.self.view_is) c.self.invariant.sound c.self.invariant.counted c.requires.starts c.requires.within c.requires.few c.requires.some).inside

pub invariant_of-self : goal.invariant_of-self
invariant_of-self c = let g = (puts (stock_in c.self.inside) c.args.self.now.kept c.args.s c.args.starts.now c.args.to c.args.bytes.now (line_of c.put.new.self) (kept_is c.self.view_is) c.self.invariant.sound c.self.invariant.counted c.self.invariant.told c.requires.starts c.requires.within c.requires.storable c.requires.few c.requires.some (c.put.ensures.bytes ∙ ap (λ j. over (line_of c.self.inside.memory) j c.args.bytes.now) c.start_of.ensures)) in record { sound = g.sound; maps = record { core = c.self.invariant.maps.core; swap = c.self.invariant.maps.swap }; table = c.self.invariant.table; cut = c.put.ensures.core ∙ c.self.invariant.cut; counted = c.self.invariant.counted; told = g.told }

pub returns-clause-kept : goal.returns-clause-kept
returns-clause-kept c = (puts (stock_in c.self.inside) c.args.self.now.kept c.args.s c.args.starts.now c.args.to c.args.bytes.now (line_of c.put.new.self) (kept_is c.self.view_is) c.self.invariant.sound c.self.invariant.counted c.self.invariant.told c.requires.starts c.requires.within c.requires.storable c.requires.few c.requires.some (c.put.ensures.bytes ∙ ap (λ j. over (line_of c.self.inside.memory) j c.args.bytes.now) c.start_of.ensures)).kept

pub returns-clause-starts : goal.returns-clause-starts
returns-clause-starts c = subst (λ k. AreStarts k c.args.s c.args.starts.now) (sym (puts (stock_in c.self.inside) c.args.self.now.kept c.args.s c.args.starts.now c.args.to c.args.bytes.now (line_of c.put.new.self) (kept_is c.self.view_is) c.self.invariant.sound c.self.invariant.counted c.self.invariant.told c.requires.starts c.requires.within c.requires.storable c.requires.few c.requires.some (c.put.ensures.bytes ∙ ap (λ j. over (line_of c.self.inside.memory) j c.args.bytes.now) c.start_of.ensures)).kept) (puts (stock_in c.self.inside) c.args.self.now.kept c.args.s c.args.starts.now c.args.to c.args.bytes.now (line_of c.put.new.self) (kept_is c.self.view_is) c.self.invariant.sound c.self.invariant.counted c.self.invariant.told c.requires.starts c.requires.within c.requires.storable c.requires.few c.requires.some (c.put.ensures.bytes ∙ ap (λ j. over (line_of c.self.inside.memory) j c.args.bytes.now) c.start_of.ensures)).starts

pub returns-clause-outside : goal.returns-clause-outside
returns-clause-outside c =
    part_outside c.args.self.now _ c.args.s c.args.starts.now c.requires.starts (returns-clause-starts c)
    (c.put.ensures.core ∙ ap (λ (l : List ℕ). length l) (core_is c.self.view_is))
    c.args.to c.args.bytes.now c.requires.within c.requires.storable c.requires.few
    (subst (λ (l : List ℕ). start_of c.args.starts.now c.args.to + length c.args.bytes.now ≤ length l) (line_is c.self.view_is)
    (run_read (stock_in c.self.inside) c.args.self.now.kept c.args.s (length c.args.bytes.now) c.args.starts.now c.args.to (kept_is c.self.view_is) c.self.invariant.sound c.self.invariant.counted c.requires.starts c.requires.within c.requires.few c.requires.some).inside)
    (c.put.ensures.bytes
    ∙ ap (λ j. over (line_of c.self.inside.memory) j c.args.bytes.now) c.start_of.ensures
    ∙ ap (λ (l : List ℕ). over l (start_of c.args.starts.now c.args.to) c.args.bytes.now) (line_is c.self.view_is))

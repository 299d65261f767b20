use Rattle.image_keep.proofs.StateOf.{kept_is, core_is, line_is}
use Rattle.std.proofs.Common.{◌<◌, ◌∙◌, List, ℕ, length, slice_set, refl, sym, ap, subst}
use Rattle.image_keep.specs.Inside.{stock_in}
use Rattle.image_keep.specs.Line.{line_of}
use Rattle.image_keep.specs.Starts.{AreStarts, start_of}
use Rattle.image_keep.proofs.Reading.{byte_read}
use Rattle.image_keep.proofs.Putting.{low_of, storable_some, puts_byte}
use Rattle.image_keep.proofs.Outside.{byte_outside}
use Rattle.image_keep.proofs.images.Images.put_byte.Goals as goal

pub start_of-requires : goal.start_of-requires
start_of-requires c = low_of c.args.self.now.kept c.args.s c.args.starts.now c.args.at c.requires.starts c.requires.within

pub set-requires : goal.set-requires
set-requires c = subst (λ j. j < length (line_of c.self.inside.memory)) (sym c.start_of.ensures) (byte_read (stock_in c.self.inside) c.args.self.now.kept c.args.s c.args.starts.now c.args.at (kept_is c.self.view_is) c.self.invariant.sound c.self.invariant.counted c.requires.starts c.requires.within (storable_some c.args.at c.requires.storable)).0

pub invariant_of-self : goal.invariant_of-self
invariant_of-self c = let g = (puts_byte (stock_in c.self.inside) c.args.self.now.kept c.args.s c.args.starts.now c.args.at c.args.value (line_of c.set.new.self) (kept_is c.self.view_is) c.self.invariant.sound c.self.invariant.counted c.self.invariant.told c.requires.starts c.requires.within c.requires.storable (subst (λ j. j < length (line_of c.self.inside.memory)) refl (byte_read (stock_in c.self.inside) c.args.self.now.kept c.args.s c.args.starts.now c.args.at (kept_is c.self.view_is) c.self.invariant.sound c.self.invariant.counted c.requires.starts c.requires.within (storable_some c.args.at c.requires.storable)).0) (c.set.ensures.bytes ∙ ap (λ j. slice_set (line_of c.self.inside.memory) j c.args.value) c.start_of.ensures)) in record { sound = g.sound; maps = record { core = c.self.invariant.maps.core; swap = c.self.invariant.maps.swap }; table = c.self.invariant.table; cut = c.set.ensures.core ∙ c.self.invariant.cut; counted = c.self.invariant.counted; told = g.told }

pub returns-clause-kept : goal.returns-clause-kept
returns-clause-kept c = (puts_byte (stock_in c.self.inside) c.args.self.now.kept c.args.s c.args.starts.now c.args.at c.args.value (line_of c.set.new.self) (kept_is c.self.view_is) c.self.invariant.sound c.self.invariant.counted c.self.invariant.told c.requires.starts c.requires.within c.requires.storable (subst (λ j. j < length (line_of c.self.inside.memory)) refl (byte_read (stock_in c.self.inside) c.args.self.now.kept c.args.s c.args.starts.now c.args.at (kept_is c.self.view_is) c.self.invariant.sound c.self.invariant.counted c.requires.starts c.requires.within (storable_some c.args.at c.requires.storable)).0) (c.set.ensures.bytes ∙ ap (λ j. slice_set (line_of c.self.inside.memory) j c.args.value) c.start_of.ensures)).kept

pub returns-clause-starts : goal.returns-clause-starts
returns-clause-starts c = subst (λ k. AreStarts k c.args.s c.args.starts.now) (sym (puts_byte (stock_in c.self.inside) c.args.self.now.kept c.args.s c.args.starts.now c.args.at c.args.value (line_of c.set.new.self) (kept_is c.self.view_is) c.self.invariant.sound c.self.invariant.counted c.self.invariant.told c.requires.starts c.requires.within c.requires.storable (subst (λ j. j < length (line_of c.self.inside.memory)) refl (byte_read (stock_in c.self.inside) c.args.self.now.kept c.args.s c.args.starts.now c.args.at (kept_is c.self.view_is) c.self.invariant.sound c.self.invariant.counted c.requires.starts c.requires.within (storable_some c.args.at c.requires.storable)).0) (c.set.ensures.bytes ∙ ap (λ j. slice_set (line_of c.self.inside.memory) j c.args.value) c.start_of.ensures)).kept) (puts_byte (stock_in c.self.inside) c.args.self.now.kept c.args.s c.args.starts.now c.args.at c.args.value (line_of c.set.new.self) (kept_is c.self.view_is) c.self.invariant.sound c.self.invariant.counted c.self.invariant.told c.requires.starts c.requires.within c.requires.storable (subst (λ j. j < length (line_of c.self.inside.memory)) refl (byte_read (stock_in c.self.inside) c.args.self.now.kept c.args.s c.args.starts.now c.args.at (kept_is c.self.view_is) c.self.invariant.sound c.self.invariant.counted c.requires.starts c.requires.within (storable_some c.args.at c.requires.storable)).0) (c.set.ensures.bytes ∙ ap (λ j. slice_set (line_of c.self.inside.memory) j c.args.value) c.start_of.ensures)).starts

pub returns-clause-bytes : goal.returns-clause-bytes
returns-clause-bytes c =
    c.set.ensures.bytes
    ∙ ap (λ j. slice_set (line_of c.self.inside.memory) j c.args.value) c.start_of.ensures
    ∙ ap (λ (l : List ℕ). slice_set l (start_of c.args.starts.now c.args.at) c.args.value) (line_is c.self.view_is)

pub returns-clause-core : goal.returns-clause-core
returns-clause-core c = c.set.ensures.core ∙ ap (λ (l : List ℕ). length l) (core_is c.self.view_is)

pub returns-clause-outside : goal.returns-clause-outside
returns-clause-outside c =
    byte_outside c.args.self.now _ c.args.s c.args.starts.now c.requires.starts (returns-clause-starts c) (returns-clause-core c)
    c.args.at c.args.value c.requires.within c.requires.storable (returns-clause-bytes c)

use Rattle.image_keep.proofs.StateOf.{kept_is, core_is, line_is}
use Rattle.std.proofs.Common.{◌+◌, ◌≤◌, ◌∙◌, ℕ, List, length, sym, ap, subst}
use Rattle.v6_base.specs.Words.{word_set}
use Rattle.image_keep.specs.Inside.{stock_in}
use Rattle.image_keep.specs.Line.{line_of}
use Rattle.image_keep.specs.Starts.{AreStarts, start_of}
use Rattle.image_keep.proofs.Lent.{side_to}
use Rattle.image_keep.proofs.Putting.{low_of, storable_some}
use Rattle.image_keep.proofs.WordsRead.{word_read, puts_word}
use Rattle.image_keep.proofs.Outside.{word_outside}
use Rattle.image_keep.proofs.images.Images.put_word.Goals as goal

pub start_of-requires : goal.start_of-requires
start_of-requires c = low_of c.args.self.now.kept c.args.s c.args.starts.now c.args.at c.requires.starts c.requires.within

pub set_word-requires-clause-place : goal.set_word-requires-clause-place
set_word-requires-clause-place c = side_to c.self.inside.core (start_of c.args.starts.now c.args.at) 2 (length c.self.inside.memory.core) c.start_of.result (word_read (stock_in c.self.inside) c.args.self.now.kept c.args.s c.args.starts.now c.args.at (kept_is c.self.view_is) c.self.invariant.sound c.self.invariant.counted c.requires.starts c.requires.within c.requires.next (storable_some c.args.at c.requires.storable)).side c.start_of.ensures c.self.invariant.cut

pub set_word-requires-clause-inside : goal.set_word-requires-clause-inside
set_word-requires-clause-inside c = subst (λ j. j + 2 ≤ length (line_of c.self.inside.memory)) (sym c.start_of.ensures) (word_read (stock_in c.self.inside) c.args.self.now.kept c.args.s c.args.starts.now c.args.at (kept_is c.self.view_is) c.self.invariant.sound c.self.invariant.counted c.requires.starts c.requires.within c.requires.next (storable_some c.args.at c.requires.storable)).inside

pub invariant_of-self : goal.invariant_of-self
invariant_of-self c = let g = (puts_word (stock_in c.self.inside) c.args.self.now.kept c.args.s c.args.starts.now c.args.at c.args.value (line_of c.set_word.new.self) (kept_is c.self.view_is) c.self.invariant.sound c.self.invariant.counted c.self.invariant.told c.requires.starts c.requires.within c.requires.next c.requires.storable (c.set_word.ensures.bytes ∙ ap (λ j. word_set (line_of c.self.inside.memory) j c.args.value) c.start_of.ensures)) in record { sound = g.sound; maps = record { core = c.self.invariant.maps.core; swap = c.self.invariant.maps.swap }; table = c.self.invariant.table; cut = c.set_word.ensures.core ∙ c.self.invariant.cut; counted = c.self.invariant.counted; told = g.told }

pub returns-clause-kept : goal.returns-clause-kept
returns-clause-kept c = (puts_word (stock_in c.self.inside) c.args.self.now.kept c.args.s c.args.starts.now c.args.at c.args.value (line_of c.set_word.new.self) (kept_is c.self.view_is) c.self.invariant.sound c.self.invariant.counted c.self.invariant.told c.requires.starts c.requires.within c.requires.next c.requires.storable (c.set_word.ensures.bytes ∙ ap (λ j. word_set (line_of c.self.inside.memory) j c.args.value) c.start_of.ensures)).kept

pub returns-clause-starts : goal.returns-clause-starts
returns-clause-starts c = subst (λ k. AreStarts k c.args.s c.args.starts.now) (sym (puts_word (stock_in c.self.inside) c.args.self.now.kept c.args.s c.args.starts.now c.args.at c.args.value (line_of c.set_word.new.self) (kept_is c.self.view_is) c.self.invariant.sound c.self.invariant.counted c.self.invariant.told c.requires.starts c.requires.within c.requires.next c.requires.storable (c.set_word.ensures.bytes ∙ ap (λ j. word_set (line_of c.self.inside.memory) j c.args.value) c.start_of.ensures)).kept) (puts_word (stock_in c.self.inside) c.args.self.now.kept c.args.s c.args.starts.now c.args.at c.args.value (line_of c.set_word.new.self) (kept_is c.self.view_is) c.self.invariant.sound c.self.invariant.counted c.self.invariant.told c.requires.starts c.requires.within c.requires.next c.requires.storable (c.set_word.ensures.bytes ∙ ap (λ j. word_set (line_of c.self.inside.memory) j c.args.value) c.start_of.ensures)).starts

pub returns-clause-outside : goal.returns-clause-outside
returns-clause-outside c =
    word_outside c.args.self.now _ c.args.s c.args.starts.now c.requires.starts (returns-clause-starts c)
    (c.set_word.ensures.core ∙ ap (λ (l : List ℕ). length l) (core_is c.self.view_is))
    c.args.at c.args.value c.requires.within c.requires.next c.requires.storable
    (c.set_word.ensures.bytes
    ∙ ap (λ j. word_set (line_of c.self.inside.memory) j c.args.value) c.start_of.ensures
    ∙ ap (λ (l : List ℕ). word_set l (start_of c.args.starts.now c.args.at) c.args.value) (line_is c.self.view_is))

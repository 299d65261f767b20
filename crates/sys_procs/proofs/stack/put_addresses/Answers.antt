use Rattle.std.proofs.Common.{ℕ, ◌≡◌, ◌≤◌, ◌<◌, ◌+◌, ◌-◌, ◌%◌, List, length, refl, sym, ◌∙◌, ap, arith}
use Rattle.v6_base.specs.Image.{Image}
use Rattle.v6_base.specs.Sizes.{cut_front}
use Rattle.sys_procs.specs.Stack.{made_even}
use Rattle.sys_procs.proofs.StackBytesLemmas.{bytes_from, none_named, size_none, size_from, length-even, word_put, no_word_put, all_named, put_more, length-word}
use Rattle.sys_procs.proofs.stack.put_addresses.Goals as goal

pub loop-i-init : goal.loop-i-init
loop-i-init g c =
    let m : Image = g.S.Space.image c.args.space.now in record {
      within = omega arith;
      place = omega (arith, size_none c.args.bytes.now, c.requires.few);
      image = ap (λ (l : List ℕ). record m { stack = l }) (c.requires.stack ∙ none_named c.args.bytes.now);
      rest = refl;
    }

pub overflow_sub-at-then-begins_at : goal.overflow_sub-at-then-begins_at
overflow_sub-at-then-begins_at g c = omega (arith, c.loop-i.invariant.place, (size_from c.args.bytes.now c.loop-i.i c.requires.few).1)

pub put_word-requires : goal.put_word-requires
put_word-requires g c = record { even = omega (arith, c.loop-i.invariant.place, (size_from c.args.bytes.now c.loop-i.i c.requires.few).0, (size_from c.args.bytes.now c.loop-i.i c.requires.few).1) }

pub loop-i-preserved-then-begins_at : goal.loop-i-preserved-then-begins_at
loop-i-preserved-then-begins_at g c =
    let bytes : List ℕ = c.args.bytes.now in
    let i : ℕ = c.loop-i.i in
    let at : ℕ = c.loop-i.at in
    let inv = c.loop-i.invariant in
    let word : ℕ = 65536 - length bytes - length bytes % 2 + (i - 1) in
    let some : 0 < i = let t = c.loop-i-test.true in omega arith in
    let place : at + length (bytes_from bytes i) ≡ 65536 = inv.place in
    let low = (size_from bytes i c.requires.few).1 in
    let within : i ≤ length bytes = inv.within in
    let word_is : word ≡ 65536 - length (made_even bytes) + (i - 1) = omega (arith, length-even bytes, c.requires.few) in
    let more = word_put bytes i word some within (sym c.begins_at.ensures ∙ c.if-begins_at.true) word_is in
    let stack = ap (λ (m : Image). m.stack) inv.image in
    let put = c.put_word.ensures.image (bytes_from bytes i) stack (let p : at - 2 + length (bytes_from bytes i) + 2 ≡ 65536 = omega (arith, place, low) in p) in record {
      within = omega (arith, within);
      place = ap (λ (l : List ℕ). at - 2 + length l) (sym more) ∙ omega (arith, place, low, length-word word (bytes_from bytes i));
      image = put_more (g.S.Space.image c.args.space.now) (g.S.Space.image c.loop-i.space) (g.S.Space.image c.put_word.new.space) _ _ _ inv.image put (ap (cut_front 1280) more);
      rest = c.put_word.ensures.rest ∙ inv.rest;
    }

pub loop-i-preserved : goal.loop-i-preserved
loop-i-preserved g c =
    let bytes : List ℕ = c.args.bytes.now in
    let i : ℕ = c.loop-i.i in
    let inv = c.loop-i.invariant in
    let some : 0 < i = let t = c.loop-i-test.true in omega arith in
    let within : i ≤ length bytes = inv.within in
    let same = no_word_put bytes i some within (sym c.begins_at.ensures ∙ c.if-begins_at.false) in record {
      within = omega (arith, within);
      place = ap (λ (l : List ℕ). c.loop-i.at + length l) (sym same) ∙ inv.place;
      image = inv.image ∙ ap (λ (l : List ℕ). record (g.S.Space.image c.args.space.now) { stack = cut_front 1280 l }) same;
      rest = inv.rest;
    }

pub returns-clause-image : goal.returns-clause-image
returns-clause-image g c =
    let bytes : List ℕ = c.args.bytes.now in
    let done : c.loop-i.i ≡ 0 = let t = c.loop-i-test.false in omega arith in
    c.loop-i.invariant.image
    ∙ ap (λ (l : List ℕ). record (g.S.Space.image c.args.space.now) { stack = l })
    (ap (λ k. cut_front 1280 (bytes_from bytes k)) done ∙ all_named bytes c.requires.whole)

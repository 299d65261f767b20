use Rattle.std.proofs.Common.{◌≡◌, ◌≤◌, ◌<◌, ◌+◌, ◌-◌, ◌%◌, ◌∙◌, ◌++◌, ℕ, length, take, Some, sym, ap, subst, arith}
use Rattle.std.proofs.lemmas.List.{take_all}
use Rattle.std.proofs.lemmas.Slice.{take-put_mid}
use Rattle.v6_base.specs.declared.space.Trap.TheVariants.{Segment}
use Rattle.v6_base.specs.Image.{named}
use Rattle.v6_base.specs.Runs.{room, run_at}
use Rattle.v6_base.specs.Words.{IsWithin}
use Rattle.v6_base.specs.Access.{load_byte}
use Rattle.v6_base.specs.Copy.{load_bytes}
use Rattle.v6_base.proofs.Copies.{put_front}
use Rattle.image_keep.proofs.Words.{loaded_whole}
use Rattle.v6_base.proofs.RunLemmas.{none_read, image_fits, next_loaded, none_loaded, part_of, put_long}
use Rattle.image_keep.specs.Kept.{image_of}
use Rattle.image_keep.proofs.images.Images.copy_in.Goals as goal

pub loop-done-preserved : goal.loop-done-preserved
loop-done-preserved c =
    let m = image_of c.args.self.now.kept c.args.s in
    let done : ℕ = c.loop-done.done in
    let count : ℕ = c.min-count.result in
    let h = c.loop-done-test.true in
    let fits : done + count ≤ length c.loop-done.into = omega (arith, c.min-count.ensures, h) in
    let here = c.find-from.ensures.named in
    let few : count ≤ room m (named m ((c.args.at + done) % 65536)) = subst (λ p. count ≤ room m p) here (omega (arith, c.min-count.ensures, c.room.ensures)) in
    let some : 0 < count = omega arith in
    let run : c.get_part.new.into ≡ run_at m (named m ((c.args.at + done) % 65536)) count = c.get_part.ensures ∙ ap (run_at m c.find-from.result) (part_of done count c.loop-done.into fits) ∙ ap (λ p. run_at m p count) here in
    let long : length c.get_part.new.into ≡ count = c.get_part.auto.into ∙ part_of done count c.loop-done.into fits in
    let size = c.loop-done.invariant.size in
    record {
      size = put_long done count c.loop-done.into c.get_part.new.into long fits ∙ size;
      few = omega (arith, fits, size);
      same =
          ap (λ l. put_front l (load_bytes m (c.args.at + (done + count)) (length c.args.into.now - (done + count))))
          (take-put_mid done (done + count - done) c.loop-done.into c.get_part.new.into (done + count) (omega (arith, long)) (omega (arith, fits)) ∙ ap (λ l. take done c.loop-done.into ++ l) run)
          ∙ sym (next_loaded m c.args.at (length c.args.into.now) done count (take done c.loop-done.into) (image_fits m c.requires.formed) some few (omega (arith, fits, size)))
          ∙ c.loop-done.invariant.same;
    }

pub returns-then-count-eq0-clause-refused : goal.returns-then-count-eq0-clause-refused
returns-then-count-eq0-clause-refused c f =
    let m = image_of c.args.self.now.kept c.args.s in
    let done : ℕ = c.loop-done.done in
    let here = c.find-from.ensures.named in
    let size = c.loop-done.invariant.size in
    let h = c.loop-done-test.true in
    let none : room m (named m ((c.args.at + done) % 65536)) ≡ 0 = subst (λ p. room m p ≡ 0) here (sym c.room.ensures ∙ omega (arith, c.min-count.ensures, h)) in
    let flat : c.args.at + done + 0 ≡ c.args.at + done = omega arith in
    sym c.loop-done.invariant.same
    ∙ ap (put_front (take done c.loop-done.into)) (none_read m (c.args.at + done) (length c.args.into.now - done) 0 Segment (omega (arith, h, size))
    (ap (λ a. load_byte m (a % 65536)) flat ∙ none_loaded m _ (subst (IsWithin m) here c.find-from.ensures.within) none))

pub returns-clause-done : goal.returns-clause-done
returns-clause-done c f =
    let m = image_of c.args.self.now.kept c.args.s in
    let done : ℕ = c.loop-done.done in
    let n : ℕ = length c.args.into.now in
    let size = c.loop-done.invariant.size in
    let over = c.loop-done-test.false in
    let all : n ≤ done = omega (arith, size, over) in
    sym c.loop-done.invariant.same
    ∙ loaded_whole m c.args.at n done (take done c.loop-done.into) all
    ∙ ap Some (take_all done c.loop-done.into (omega (arith, size, all)))

use Rattle.std.proofs.Common.{◌≡◌, ◌≤◌, ◌<◌, ◌+◌, ◌-◌, ◌%◌, ◌∙◌, ℕ, List, length, take, drop, refl, sym, ap, subst, arith, length-drop}
use Rattle.std.proofs.lemmas.List.{length-take-le}
use Rattle.v6_base.specs.Image.{named}
use Rattle.v6_base.specs.Runs.{room, with_run}
use Rattle.v6_base.specs.Words.{IsStorable}
use Rattle.v6_base.specs.Copy.{store_bytes}
use Rattle.v6_base.proofs.Copies.{then_lengths, same_writable, same_lengths}
use Rattle.v6_base.proofs.RunLemmas.{image_fits, fits_by, next_stored, writable_storable, writes_some, run_lengths}
use Rattle.image_keep.specs.Kept.{image_of}
use Rattle.image_keep.proofs.Frames.{image_back}
use Rattle.image_keep.proofs.Words.{image_put, none_kept}
use Rattle.image_keep.proofs.images.Images.copy_out_parts.Goals as goal

-- what is named can be written
can_put : (c : goal.After-put_part) → IsStorable (named (image_of c.loop-done.self.kept c.args.s) ((c.args.at + c.loop-done.done) % 65536))
can_put c =
    let same = c.loop-done.invariant.lengths in
    writable_storable (image_of c.loop-done.self.kept c.args.s) _ (same_writable (image_of c.args.self.now.kept c.args.s) (image_of c.loop-done.self.kept c.args.s) _ same ∙ c.can_set.ensures.each c.if-not-can_set.false c.loop-done.done c.loop-done-test.true)

least : (c : goal.After-put_part) → 0 < c.min-count.result
least c =
    let some = writes_some (image_of c.loop-done.self.kept c.args.s) c.find-to.result c.find-to.ensures.within (subst IsStorable (sym c.find-to.ensures.named) (can_put c)) in
    omega (arith, some, c.room.ensures, c.min-count.ensures, c.loop-done-test.true)

pub loop-done-preserved : goal.loop-done-preserved
loop-done-preserved c =
    let start = (image_of c.args.self.now.kept c.args.s) in
    let m = (image_of c.loop-done.self.kept c.args.s) in
    let bytes : List ℕ = c.args.bytes.now in
    let done : ℕ = c.loop-done.done in
    let count : ℕ = c.min-count.result in
    let h = c.loop-done-test.true in
    let same = c.loop-done.invariant.lengths in
    let here = c.find-to.ensures.named in
    let size : c.room.result ≡ room m (named m ((c.args.at + done) % 65536)) = c.room.ensures ∙ ap (room m) here in
    let some : 0 < count = least c in
    let few : count ≤ room m (named m ((c.args.at + done) % 65536)) = omega (arith, c.min-count.ensures) in
    let fits : done + count ≤ length bytes = omega (arith, c.min-count.ensures, h) in
    let part : take (done + count - done) (drop done bytes) ≡ take count (drop done bytes) = (let k : done + count - done ≡ count = omega arith in ap (λ n. take n (drop done bytes)) k) in
    let stored = image_put c.args.self.now.kept c.loop-done.self.kept c.put_part.new.self.kept c.args.s (with_run m c.find-to.result (take (done + count - done) (drop done bytes))) c.loop-done.invariant.kept c.loop-done.invariant.starts.alive c.put_part.ensures.kept in
    let new : (image_of c.put_part.new.self.kept c.args.s) ≡ with_run m (named m ((c.args.at + done) % 65536)) (take count (drop done bytes)) =
    stored.1 ∙ ap (with_run m c.find-to.result) part ∙ ap (λ p. with_run m p (take count (drop done bytes))) here in
    let long : length (take count (drop done bytes)) ≡ count = length-take-le count (drop done bytes) (omega (arith, length-drop done bytes)) in
    record {
      kept = stored.0;
      starts = c.put_part.ensures.starts;
      outside = c.put_part.ensures.outside ∙ c.loop-done.invariant.outside;
      lengths = then_lengths start m _ (image_of c.put_part.new.self.kept c.args.s) same (run_lengths m (named m ((c.args.at + done) % 65536)) (take count (drop done bytes)) (omega (arith, long, few)) (omega (arith, long, some))) new;
      few = fits;
      same =
          ap (λ n. store_bytes n (c.args.at + (done + count)) (drop (done + count) bytes)) new
          ∙ sym (next_stored m c.args.at done count bytes (fits_by start m same (image_fits start c.requires.formed)) (can_put c) some few fits)
          ∙ c.loop-done.invariant.same;
    }

pub loop-done-smaller : goal.loop-done-smaller
loop-done-smaller c = let some = least c in omega (arith, some, c.min-count.ensures, c.loop-done-test.true)

pub returns-then-not-can_set-clause-kept : goal.returns-then-not-can_set-clause-kept
returns-then-not-can_set-clause-kept c = none_kept c.args.self.now.kept c.args.s (store_bytes (image_of c.args.self.now.kept c.args.s) c.args.at c.args.bytes.now) (c.can_set.ensures.refused c.if-not-can_set.true c.args.bytes.now refl)

pub loop-done-init : goal.loop-done-init
loop-done-init c =
    let flat : c.args.at + 0 ≡ c.args.at = omega arith in
    record {
      kept = sym (image_back c.args.self.now.kept c.args.s);
      starts = c.requires.starts;
      outside = refl;
      lengths = same_lengths (image_of c.args.self.now.kept c.args.s);
      few = omega arith;
      same = ap (λ a. store_bytes (image_of c.args.self.now.kept c.args.s) a c.args.bytes.now) flat;
    }

use Rattle.std.proofs.Common.{rules, ℕ, ◌≡◌, ◌<◌, ◌+◌, ◌-◌, ◌==◌, if◌then◌else◌, ◌∷◌, [], List, ◌++◌, length, take, set, refl, sym, ◌∙◌, ap, arith}
use Rattle.std.proofs.lemmas.Grind.{common_steps}
use Rattle.std.proofs.lemmas.List.{length-set, take_more_set, length-take}
use Rattle.v6_base.specs.Image.{Image}
use Rattle.sys_procs.specs.inside.Packed.{split}
use Rattle.sys_procs.proofs.ArgsLemmas.{flat, joined, none_read, unread, too_many, lost, one_read, all_read, all_parted, whole_read, count_least, count_more, nul_counts, other_counts, is_none}
use Rattle.sys_procs.proofs.arguments.read_list.Goals as goal
use Rattle.sys_procs.proofs.arguments.read_list.Goals.{then-byte-eq0, else-byte-eq0}

pub loop-next-init : goal.loop-next-init
unfolding split
loop-next-init g c = record {
  fits = omega arith;
  size = refl;
  number = refl;
  whole = none_read (g.S.Space.image c.args.space.now) c.args.list c.in_ok-next.next (sym c.in_ok-next.was ∙ c.next_argument.ensures);
}

pub returns-in_err-byte : goal.returns-in_err-byte
returns-in_err-byte g c =
    let image : Image = g.S.Space.image c.args.space.now in
    let l = c.loop-next in
    let front : List ℕ = take l.length l.bytes in
    let whole = ap (λ o. joined front (flat image (510 - l.length) o)) (sym c.in-Some.is) ∙ l.invariant.whole in
    let refused = unread image c.args.list l.length front c.in-Some.r c.in_err-byte.field-0.0 whole (sym c.in_err-byte.was ∙ c.fubyte.ensures) in
    first_of (search rules, grind (arith, common_steps))

pub returns-then-length-eq-MOST_BYTES : goal.returns-then-length-eq-MOST_BYTES
returns-then-length-eq-MOST_BYTES g c =
    let image : Image = g.S.Space.image c.args.space.now in
    let l = c.loop-next in
    let front : List ℕ = take l.length l.bytes in
    let whole = ap (λ o. joined front (flat image (510 - l.length) o)) (sym c.in-Some.is) ∙ l.invariant.whole in
    too_many image c.args.list l.length front c.in-Some.r c.in_ok-byte.byte c.if-length-eq-MOST_BYTES.true whole (sym c.in_ok-byte.was ∙ c.fubyte.ensures)

pub overflow_add-count : goal.overflow_add-count
overflow_add-count g c =
    omega (arith, c.loop-next.invariant.number, c.loop-next.invariant.fits, count_least (take c.loop-next.length c.loop-next.bytes), length-take c.loop-next.length c.loop-next.bytes)

pub returns-in_err-next-2 : goal.returns-in_err-next-2
returns-in_err-next-2 g c =
    let image : Image = g.S.Space.image c.args.space.now in
    let l = c.loop-next in
    let front : List ℕ = take l.length l.bytes in
    let whole = ap (λ o. joined front (flat image (510 - l.length) o)) (sym c.in-Some.is) ∙ l.invariant.whole in
    let room : l.length < 510 = let fits = l.invariant.fits in let short = c.if-length-eq-MOST_BYTES.false in omega arith in
    let refused = lost image c.args.list l.length front c.in-Some.r c.in_ok-byte.byte c.in_err-next-2.field-0.0 room whole (sym c.in_ok-byte.was ∙ c.fubyte.ensures)
    (sym c.in_err-next-2.was ∙ c.next_reading.ensures) in
    first_of (search rules, grind (arith, common_steps))

pub loop-next-preserved : goal.loop-next-preserved
loop-next-preserved g c =
    let image : Image = g.S.Space.image c.args.space.now in
    let l = c.loop-next in
    let b : ℕ = c.in_ok-byte.byte in
    let front : List ℕ = take l.length l.bytes in
    let whole = ap (λ o. joined front (flat image (510 - l.length) o)) (sym c.in-Some.is) ∙ l.invariant.whole in
    let room : l.length < 510 = let fits = l.invariant.fits in let short = c.if-length-eq-MOST_BYTES.false in omega arith in
    let within : l.length < length l.bytes = let size = l.invariant.size in omega arith in
    let more : take (l.length + 1) (set l.bytes l.length b) ≡ front ++ b ∷ [] = take_more_set l.bytes l.length b within in
    let one : length (split (front ++ b ∷ [])) ≡ length (split front) + (if b == 0 then 1 else 0) = count_more front b in
    let count : c.if-byte-eq0.count ≡ length (split front) + (if b == 0 then 1 else 0) =
    elim c.if-byte-eq0.branch [
      | then-byte-eq0 w ↦ w.count-is ∙ ap (λ n. n + 1) l.invariant.number ∙ nul_counts (length (split front)) b w.if-byte-eq0.true
      | else-byte-eq0 w ↦ w.count-is ∙ l.invariant.number ∙ other_counts (length (split front)) b w.if-byte-eq0.false
    ] in record {
      fits = omega arith;
      size = length-set l.bytes l.length b ∙ l.invariant.size;
      number = count ∙ sym one ∙ ap (λ bytes. length (split bytes)) (sym more);
      whole = ap (λ bytes. joined bytes (flat image (510 - (l.length + 1)) c.in_ok-next-2.next)) more
          ∙ one_read image l.length front c.in-Some.r b c.in_ok-next-2.next room (sym c.in_ok-byte.was ∙ c.fubyte.ensures)
          (sym c.in_ok-next-2.was ∙ c.next_reading.ensures)
          ∙ whole;
    }

pub invariant_of-result : goal.invariant_of-result
invariant_of-result g c =
    let image : Image = g.S.Space.image c.args.space.now in
    let l = c.loop-next in
    let front : List ℕ = take l.length l.bytes in
    let whole = ap (λ o. joined front (flat image (510 - l.length) o)) (sym (is_none l.next c.in_default.not-Some)) ∙ l.invariant.whole in record {
      most = l.invariant.fits;
      number = l.invariant.number;
      all = whole_read image c.args.list front (all_read image c.args.list l.length front whole);
    }

pub returns : goal.returns
returns g c =
    let image : Image = g.S.Space.image c.args.space.now in
    let l = c.loop-next in
    let front : List ℕ = take l.length l.bytes in
    let whole = ap (λ o. joined front (flat image (510 - l.length) o)) (sym (is_none l.next c.in_default.not-Some)) ∙ l.invariant.whole in
    all_parted image c.args.list front (all_read image c.args.list l.length front whole)

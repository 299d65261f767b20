use Rattle.std.proofs.Common.{◌≡◌, ◌+◌, ◌<◌, ◌&&◌, ◌∷◌, [], ◌++◌, ℕ, Bool, true, false, not, length, sym, ap, ◌∙◌, arith}
use Rattle.std.proofs.lemmas.Bool.Decides.{nat_tests}
use Rattle.arrayvec.specs.ArrayVec.{ArrayVec}
use Rattle.fs_laws.specs.Numbers.{is_free_number}
use Rattle.fs_laws.proofs.NumbersLemmas.{passing_yes, passing_no, refill_full, refill_end}
use Rattle.fs_codec.specs.Disk.{inode_count}
use Rattle.fs_blocks.specs.State.{State, disk}
use Rattle.fs_nodes.specs.one_disk.FileSystem.{store_now}
use Rattle.fs_nodes.specs.one_disk.Numbers.{refers_to}
use Rattle.fs_nodes.specs.one_disk.Table.{seen}
use Rattle.fs_nodes.proofs.NodesLemmas.{count_is}
use Rattle.fs_blocks.proofs.LateLemmas.{late_again}
use Rattle.fs_nodes.proofs.one_disk.numbers.refill.Goals as goal
use Rattle.fs_nodes.proofs.one_disk.numbers.refill.Goals.{Joined-is_free, then-is_free, else-is_free}

pub returns-then-is_full-clause-found : goal.returns-then-is_full-clause-found
returns-then-is_full-clause-found c =
    let v = c.args.volume.now.state in
    let n : (store_now (seen v c.args.table.now)).count ≡ inode_count (disk v) = count_is (seen v c.args.table.now) in
    let e = c.last_number-below-end.ensures in
    let long : length c.loop-below.found.items ≡ 100 = let t = c.if-is_full.true in let s = c.is_full.ensures.value in grind (arith, nat_tests) in
    refill_full (store_now (seen v c.args.table.now)) (refers_to c.args.table.now) c.loop-below.below c.loop-below.found.items c.loop-below.invariant.found long (omega (arith, n, e))

tests : (c : Joined-is_free) → c.is_free.result ≡ (is_free_number (store_now (seen c.args.volume.now.state c.args.table.now)) (c.loop-below.below + 1) && not (refers_to c.args.table.now (c.loop-below.below + 1)))
tests c =
    c.is_free.ensures.spare
    ∙ ap (λ (s : State). is_free_number (store_now (seen s c.args.table.now)) (c.loop-below.below + 1) && not (refers_to c.args.table.now (c.loop-below.below + 1))) c.loop-below.invariant.same

few_before : (c : Joined-is_free) → length c.loop-below.found.items < 100
few_before c = let t = c.if-is_full.false in let s = c.is_full.ensures.value in let f = c.loop-below.invariant.few in grind (arith, nat_tests)

pub loop-below-preserved : goal.loop-below-preserved
loop-below-preserved c =
    let p : ℕ → Bool = λ i. is_free_number (store_now (seen c.args.volume.now.state c.args.table.now)) i && not (refers_to c.args.table.now i) in
    let n : ℕ = c.loop-below.below in
    record {
      same = c.is_free.ensures.same ∙ c.loop-below.invariant.same;
      stored = late_again _ _ _ _ _ (ap (λ (s : State). s.blocks) c.loop-below.invariant.same) c.loop-below.invariant.stored c.is_free.ensures.stored;
      few = let f = few_before c in elim c.if-is_free.branch [
        | then-is_free w ↦ (let m = w.push.ensures.len in rw w.found-is (omega (arith, f, m)))
        | else-is_free w ↦ rw w.found-is (omega (arith, f))
      ];
      found = elim c.if-is_free.branch [
        | then-is_free w ↦
            (let yes : p (n + 1) ≡ true = sym (tests c) ∙ w.if-is_free.true in
            ap (λ (a : ArrayVec ℕ). a.items) w.found-is ∙ w.push.ensures.items ∙ ap (λ l. l ++ (n + 1) ∷ []) c.loop-below.invariant.found ∙ sym (passing_yes p n yes))
        | else-is_free w ↦
            (let not_so : p (n + 1) ≡ false = sym (tests c) ∙ w.if-is_free.false in
            ap (λ (a : ArrayVec ℕ). a.items) w.found-is ∙ c.loop-below.invariant.found ∙ sym (passing_no p n not_so))
      ];
    }

pub returns-clause-found : goal.returns-clause-found
returns-clause-found c =
    let v = c.args.volume.now.state in
    let n : (store_now (seen v c.args.table.now)).count ≡ inode_count (disk v) = count_is (seen v c.args.table.now) in
    let e = c.last_number-below-end.ensures in
    refill_end (store_now (seen v c.args.table.now)) (refers_to c.args.table.now) c.loop-below.below c.loop-below.found.items c.loop-below.invariant.found c.loop-below.invariant.few (omega (arith, n, e))

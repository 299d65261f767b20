use Rattle.std.proofs.Common.{◌≡◌, ◌+◌, ◌-◌, ◌<◌, true, false, take, reverse, slice_index, length, sym, ap, ◌∙◌, arith}
use Rattle.std.proofs.lemmas.Bool.Decides.{nat_tests}
use Rattle.fs_laws.specs.Numbers.{is_free_number, drawn}
use Rattle.fs_blocks.specs.State.{State}
use Rattle.fs_codec.specs.Store.{Store}
use Rattle.fs_nodes.specs.one_disk.FileSystem.{store_now}
use Rattle.fs_nodes.specs.one_disk.Table.{seen}
use Rattle.fs_nodes.proofs.NumbersLemmas.{drawn_here, drawn_past}
use Rattle.fs_blocks.proofs.LateLemmas.{late_again}
use Rattle.fs_nodes.proofs.one_disk.numbers.last_free.Goals as goal

pub returns-then-is_free-clause-last : goal.returns-then-is_free-clause-last
returns-then-is_free-clause-last c =
    let s : Store = store_now (seen c.args.volume.now.state c.args.table.now) in
    let n = c.loop-left.left in
    let some : 0 < n = let t = c.loop-left-test.true in grind (arith, nat_tests) in
    let w = c.loop-left.invariant.within in
    let low : n - 1 < length c.args.list.now = omega (arith, some, w) in
    let yes : is_free_number s (slice_index c.args.list.now (n - 1)) ≡ true =
    ap (λ (v : State). is_free_number (store_now (seen v c.args.table.now)) (slice_index c.args.list.now (n - 1))) (sym c.loop-left.invariant.same) ∙ sym c.is_free.ensures.free ∙ c.if-is_free.true in
    let up : n ≡ n - 1 + 1 = omega (arith, some) in
    (low, c.loop-left.invariant.rest ∙ ap (λ m. drawn s (reverse (take m c.args.list.now))) up ∙ drawn_here s c.args.list.now (n - 1) low yes)

pub loop-left-preserved : goal.loop-left-preserved
loop-left-preserved c =
    let s : Store = store_now (seen c.args.volume.now.state c.args.table.now) in
    let n = c.loop-left.left in
    let some : 0 < n = let t = c.loop-left-test.true in grind (arith, nat_tests) in
    let w = c.loop-left.invariant.within in
    let low : n - 1 < length c.args.list.now = omega (arith, some, w) in
    let no : is_free_number s (slice_index c.args.list.now (n - 1)) ≡ false =
    ap (λ (v : State). is_free_number (store_now (seen v c.args.table.now)) (slice_index c.args.list.now (n - 1))) (sym c.loop-left.invariant.same) ∙ sym c.is_free.ensures.free ∙ c.if-is_free.false in
    let up : n ≡ n - 1 + 1 = omega (arith, some) in
    record {
      same = c.is_free.ensures.same ∙ c.loop-left.invariant.same;
      stored = late_again _ _ _ _ _ (ap (λ (v : State). v.blocks) c.loop-left.invariant.same) c.loop-left.invariant.stored c.is_free.ensures.stored;
      within = omega (arith, some, w);
      rest = c.loop-left.invariant.rest ∙ ap (λ m. drawn s (reverse (take m c.args.list.now))) up ∙ drawn_past s c.args.list.now (n - 1) low no;
    }

pub returns-then-is_free-clause-stored : goal.returns-then-is_free-clause-stored
returns-then-is_free-clause-stored c =
    late_again _ _ _ _ _ (ap (λ (v : State). v.blocks) c.loop-left.invariant.same) c.loop-left.invariant.stored c.is_free.ensures.stored

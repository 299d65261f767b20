use Rattle.std.proofs.Common.{ℕ, List, sym, subst}
use Rattle.buf_cache.specs.Blocks.{IsDisk}
use Rattle.fs_nodes.specs.Disks.{Disks, OfSecond}
use Rattle.fs_nodes.specs.FileSystem.{SameAroundEach}
use Rattle.image_keep.specs.Holds.{AreRangesApart, SwapHolds}
use Rattle.v6_run.proofs.outputs.leave_disk.Goals as goal

pub returns-clause-rest : goal.returns-clause-rest
returns-clause-rest g c =
    let P : Disks (List (List ℕ)) → Type 0 = SameAroundEach c.args.kernel.now.blocks in subst P (sym c.finish.ensures.stored) c.finish.ensures.rest

pub returns-clause-form : goal.returns-clause-form
returns-clause-form g c = subst (λ (d : Disks (List (List ℕ))). IsDisk d.root) (sym c.finish.ensures.stored) c.finish.ensures.form

pub returns-clause-second_form : goal.returns-clause-second_form
returns-clause-second_form g c = subst (λ (d : Disks (List (List ℕ))). OfSecond IsDisk d.second) (sym c.finish.ensures.stored) c.finish.ensures.second_form

pub returns-clause-apart : goal.returns-clause-apart
returns-clause-apart g c = subst AreRangesApart c.finish.ensures.kept c.swap-swap.ensures.holds.apart

pub returns-clause-written : goal.returns-clause-written
returns-clause-written g c =
    let swap = c.swap-swap.result.now in
    let kept = c.finish.new.self.kept in
    let holds = subst (λ l. SwapHolds l kept) (sym c.swap-swap.ensures.bytes) c.swap-swap.ensures.holds.in_swap in
    (swap, subst (SwapHolds swap) c.finish.ensures.kept holds, c.write_disk.ensures.whole, c.write_disk.ensures.front)

use Rattle.std.proofs.Common.{◌≡◌, ◌<◌, ◌-◌, List, Option, length, take, slice_index, rules, sym, ◌∙◌, subst, arith}
use Rattle.open_files.specs.declared.file.OpenFile.{OpenFile}
use Rattle.open_files.specs.Files.{AreNamed}
use Rattle.open_files.proofs.FilesLemmas.{shared_none, used_shared, few_shared, shared_step, shared_skip, named_shared}
use Rattle.open_files.proofs.table.share_all.Goals as goal
use Rattle.open_files.proofs.table.share_all.Goals.{then-number-ne0, else-number-ne0}

pub loop-number-init : goal.loop-number-init
loop-number-init c = shared_none c.args.files.now c.args.mine.now

pub refer_again-requires-clause-used : goal.refer_again-requires-clause-used
refer_again-requires-clause-used c =
    used_shared c.args.files.now c.loop-number.files _ (slice_index c.args.mine.now c.loop-number.number-index - 1) c.loop-number.invariant
    (c.requires.open c.loop-number.number-index (omega (arith, c.if-number-ne0.true)))

pub refer_again-requires-clause-few : goal.refer_again-requires-clause-few
refer_again-requires-clause-few c =
    let long : length c.args.mine.now ≡ 15 = search rules in
    let low : c.loop-number.number-index < length c.args.mine.now = search rules in
    few_shared c.args.files.now c.loop-number.files c.args.mine.now c.loop-number.number-index (slice_index c.args.mine.now c.loop-number.number-index - 1) c.loop-number.invariant c.requires.few low long

pub loop-number-preserved : goal.loop-number-preserved
loop-number-preserved c =
    let low : c.loop-number.number-index < length c.args.mine.now = search rules in
    elim c.if-number-ne0.branch [
      | then-number-ne0 w ↦ shared_step c.args.files.now c.loop-number.files c.if-number-ne0.files c.args.mine.now c.loop-number.number-index low c.loop-number.invariant (omega (arith, w.if-number-ne0.true))
          (c.requires.open c.loop-number.number-index (omega (arith, w.if-number-ne0.true))) (w.files-is ∙ w.refer_again.ensures)
      | else-number-ne0 w ↦ shared_skip c.args.files.now c.loop-number.files c.if-number-ne0.files c.args.mine.now c.loop-number.number-index low c.loop-number.invariant (omega (arith, w.if-number-ne0.false)) w.files-is
    ]

pub returns-clause-named : goal.returns-clause-named
returns-clause-named c =
    subst (λ (l : List (Option OpenFile)). AreNamed l) (sym c.loop-number.invariant) (named_shared c.args.files.now (take c.loop-number.number-index c.args.mine.now) c.requires.named)

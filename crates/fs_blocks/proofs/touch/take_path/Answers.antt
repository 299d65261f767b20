use Rattle.std.proofs.Common.{◌≡◌, List, sym, ap, ◌∙◌, subst}
use Rattle.bmap_path.specs.Path.{path_of}
use Rattle.bmap_path.specs.declared.BlockName.{BlockName}
use Rattle.fs_codec.specs.Fields.{Inode, fields_of}
use Rattle.fs_codec.specs.Modes.{is_large}
use Rattle.fs_blocks.specs.State.{State}
use Rattle.fs_blocks.proofs.TouchLoopLemmas.{Went, went_none, went_at, short_at, all_at_end, last_at_end, not_ok}
use Rattle.fs_blocks.proofs.touch.take_path.Goals as goal

pub loop-name-init : goal.loop-name-init
loop-name-init c =
    let s : State = c.args.volume.now.state in
    let n : Inode = fields_of c.args.node.now in
    let is : c.as_slice-name-items.result.now ≡ path_of (is_large n.mode) c.args.bn = c.as_slice-name-items.ensures.value ∙ c.path-names.ensures ∙ ap (λ t. path_of t c.args.bn) c.is_large.ensures in
    let P : List BlockName → Type 0 = λ l. Went s n l s n l c.args.bn 0 in
    let low = c.requires.low in
    (subst P (sym is) (went_none s n c.args.bn c.requires.apart c.see_addresses.ensures c.requires.file low), is)

pub loop-name-preserved : goal.loop-name-preserved
loop-name-preserved c = (
  went_at c.args.volume.now.state c.loop-name.volume.state c.take.new.volume.state (fields_of c.args.node.now) (fields_of c.loop-name.node) (fields_of c.take.new.node) c.as_slice-name-items.result.now c.loop-name.name-index c.args.bn c.loop-name.block
      c.in_ok-block.block c.loop-name-test.true c.loop-name.invariant.0 c.in_ok-block.ensures.taken,
  c.loop-name.invariant.1,
)

pub returns-in_err-block-clause-takes : goal.returns-in_err-block-clause-takes
returns-in_err-block-clause-takes c =
    let h = c.in_err-block.ensures.taken in
    short_at c.args.volume.now.state c.loop-name.volume.state c.take.new.volume.state (fields_of c.args.node.now) (fields_of c.loop-name.node) (fields_of c.take.new.node) c.as_slice-name-items.result.now c.loop-name.name-index c.args.bn c.loop-name.block
    c.loop-name-test.true c.loop-name.invariant.0 h.1
    c.take.ensures.before c.take.ensures.behind h.2 h.3 c.loop-name.invariant.1 _ (not_ok c.from_residual.result c.from_residual.ensures.0)

pub returns-clause-takes : goal.returns-clause-takes
returns-clause-takes c =
    all_at_end c.args.volume.now.state c.loop-name.volume.state (fields_of c.args.node.now) (fields_of c.loop-name.node) c.as_slice-name-items.result.now c.loop-name.name-index c.args.bn c.loop-name.block c.loop-name-test.false c.loop-name.invariant.0
    c.loop-name.invariant.1

pub returns-clause-answer : goal.returns-clause-answer
returns-clause-answer c =
    last_at_end c.args.volume.now.state c.loop-name.volume.state (fields_of c.args.node.now) (fields_of c.loop-name.node) c.as_slice-name-items.result.now c.loop-name.name-index c.args.bn c.loop-name.block c.loop-name-test.false c.loop-name.invariant.0

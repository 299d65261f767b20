use Rattle.std.proofs.Common.{◌≡◌, ◌+◌, ◌/◌, refl, sym, ap, ◌∙◌, arith, subst}
use Rattle.fs_codec.specs.Fields.{fields_of}
use Rattle.fs_codec.specs.Stands.{data_of}
use Rattle.fs_blocks.specs.State.{State, disk, Mounted}
use Rattle.fs_nodes.proofs.LookLemmas.{looked}
use Rattle.fs_blocks.proofs.LateLemmas.{late_stays, late_again}
use Rattle.buf_cache.specs.Blocks.{WritesLate}
use Rattle.fs_nodes.proofs.one_disk.look.look_at.Goals as goal
use Rattle.fs_nodes.proofs.one_disk.look.look_at.Goals.{then-last-n, else-last-n, After-fill}

second : (c : After-fill) → c.if-last-n.second ≡ data_of (disk c.args.volume.now.state) (fields_of c.args.node.now) ((c.args.offset + 15) / 512)
second c = elim c.if-last-n.branch [
  | then-last-n w ↦ w.second-is ∙ w.copy_data-then-last-n.ensures.bytes ∙ ap (λ (s : State). data_of (disk s) (fields_of c.args.node.now) ((c.args.offset + 15) / 512)) c.copy_data.ensures.same
  | else-last-n w ↦ w.second-is ∙ c.copy_data.ensures.bytes ∙ ap (data_of (disk c.args.volume.now.state) (fields_of c.args.node.now)) (sym w.if-last-n.false)
]

pub returns-clause-bytes : goal.returns-clause-bytes
returns-clause-bytes c = λ k low.
    let small = c.args.node.now.small in
    let before = c.if-offset-node.false in
    c.fill.ensures k low
    ∙ looked c.args.volume.now.state (fields_of c.args.node.now) c.args.offset c.args.node.now.size k _ _ c.copy_data.new.into c.if-last-n.second c.see.ensures.blocks c.see.ensures.sound c.requires c.see_addresses.ensures
    (omega (arith, small, before)) low refl refl c.copy_data.ensures.bytes (second (goal.at.returns-clause-bytes c).After-fill)

pub returns-then-offset-node-clause-stored : goal.returns-then-offset-node-clause-stored
returns-then-offset-node-clause-stored c = late_stays _ _

pub returns-clause-stored : goal.returns-clause-stored
returns-clause-stored c =
    let P : Mounted → Type 0 = λ v. WritesLate c.args.volume.now.stored c.args.volume.now.state.blocks v.stored in
    elim c.if-last-n.branch [
      | then-last-n w ↦ subst P (sym w.volume-is) (late_again _ _ _ _ _ (ap (λ (s : State). s.blocks) c.copy_data.ensures.same) c.copy_data.ensures.stored w.copy_data-then-last-n.ensures.stored)
      | else-last-n w ↦ subst P (sym w.volume-is) c.copy_data.ensures.stored
    ]

use Rattle.std.proofs.Common.{◌≡◌, ◌/◌, ℕ, List, Some, sym, subst}
use Rattle.fs_codec.specs.Store.{Node}
use Rattle.fs_nodes.specs.Keys.{node_numbered}
use Rattle.fs_tree.specs.Directory.{HasBlock}
use Rattle.fs_tree.proofs.DirectoryLemmas.{entry_at_place}
use Rattle.fs_tree.proofs.directory.entry.Goals as goal
use Rattle.fs_tree.proofs.directory.entry.Goals.{then-place-eq0, else-place-eq0, Joined-place-eq0}

has : (c : Joined-place-eq0) (node : Node) → node_numbered c.args.nodes.now.store c.args.dir ≡ Some node → HasBlock node (c.args.place / 32) c.if-place-eq0.block
has c node found =
    let P : List ℕ → Type 0 = HasBlock node (c.args.place / 32) in
    elim c.if-place-eq0.branch [
      | then-place-eq0 w ↦ subst P (sym w.block-is) (record { bytes = w.look_block.ensures.bytes node found })
      | else-place-eq0 w ↦ subst P (sym w.block-is) (c.requires.block node found w.if-place-eq0.false)
    ]

pub returns-clause-entry : goal.returns-clause-entry
returns-clause-entry c = λ node found within.
    entry_at_place node c.args.place c.if-place-eq0.block c.entry_in.result (has (goal.at.returns-clause-entry c).Joined-place-eq0 node found) c.entry_in.ensures.long within c.entry_in.ensures.entry

pub returns-clause-block : goal.returns-clause-block
returns-clause-block c = has (goal.at.returns-clause-block c).Joined-place-eq0

use Rattle.std.proofs.Common.{◌≡◌, ◌≤◌, ◌∙◌, List, sym, ap, subst}
use Rattle.fs_codec.specs.Fields.{Inode, fields_of}
use Rattle.fs_codec.specs.Disk.{inode}
use Rattle.fs_blocks.specs.State.{disk}
use Rattle.fs_nodes.specs.declared.one_disk.table.Referenced.{Referenced}
use Rattle.fs_nodes.specs.one_disk.Table.{entries_of, seen, IsTable, IsUsed}
use Rattle.fs_nodes.proofs.NodesLemmas.{has_entry, entry_used}
use Rattle.fs_nodes.proofs.PieceEnds.{apart_of}
use Rattle.fs_nodes.proofs.HeldLemmas.{apart_real}
use Rattle.fs_nodes.proofs.one_disk.table.inode_of.Goals as goal
use Rattle.fs_nodes.proofs.one_disk.table.inode_of.Goals.{After-deref, After-inode_in}

some : (c : After-deref) → 1 ≤ entries_of c.args.table.now.items c.args.ino
some c = has_entry (disk (seen c.args.volume.now.state c.args.table.now.items)) c.args.table.now.items c.args.ino c.requires.held.nodes.table c.requires.referenced

used : (c : After-deref) → IsUsed (seen c.args.volume.now.state c.args.table.now.items) c.args.ino
used c = entry_used (seen c.args.volume.now.state c.args.table.now.items) c.args.table.now.items c.args.ino c.requires.held.nodes (some c)

same : (c : After-inode_in) → fields_of c.inode_in.result ≡ inode (disk (seen c.args.volume.now.state c.args.table.now.items)) c.args.ino
same c =
    let P : List Referenced → Type 0 = IsTable (disk (seen c.args.volume.now.state c.args.table.now.items)) in
    c.inode_in.ensures (disk (seen c.args.volume.now.state c.args.table.now.items)) (subst P (sym c.deref.ensures.0) c.requires.held.nodes.table)

pub inode_in-requires : goal.inode_in-requires
inode_in-requires c =
    let P : List Referenced → Type 0 = λ l. 1 ≤ entries_of l c.args.ino in
    subst P (sym c.deref.ensures.0) (some (goal.at.inode_in-requires c).After-deref)

pub returns-clause-here : goal.returns-clause-here
returns-clause-here c =
    let b = (goal.at.returns-clause-here c).After-deref in
    record { some = some b; used = used b; same = same (goal.at.returns-clause-here c).After-inode_in }

pub returns-clause-used : goal.returns-clause-used
returns-clause-used c =
    let is = same (goal.at.returns-clause-used c).After-inode_in in
    λ z. (used (goal.at.returns-clause-used c).After-deref).used (sym (ap (λ (x : Inode). x.mode) is) ∙ z)

pub returns-clause-apart : goal.returns-clause-apart
returns-clause-apart c = λ file.
    apart_real c.args.volume.now.state c.args.table.now.items (fields_of c.inode_in.result) c.requires.held
    (apart_of (seen c.args.volume.now.state c.args.table.now.items) c.args.table.now.items c.args.ino _ c.requires.held.nodes (used (goal.at.returns-clause-apart c).After-deref) (same (goal.at.returns-clause-apart c).After-inode_in) file)

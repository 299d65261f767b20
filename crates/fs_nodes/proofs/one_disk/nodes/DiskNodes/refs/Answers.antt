use Rattle.std.proofs.Common.{List, sym, ap, ◌∙◌, subst, slice_index, slice_index_or, length, ◌<◌}
use Rattle.fs_blocks.specs.State.{disk}
use Rattle.fs_nodes.specs.declared.one_disk.table.Referenced.{Referenced}
use Rattle.fs_nodes.specs.one_disk.FileSystem.{FileSystem}
use Rattle.fs_nodes.specs.one_disk.Table.{entries_of, seen}
use Rattle.fs_nodes.proofs.TableLemmas.{entry_at, no_entry}
use Rattle.fs_nodes.proofs.NodesLemmas.{plain}
use Rattle.fs_nodes.proofs.one_disk.nodes.DiskNodes.refs.Goals as goal

pub returns-in-Some-clause-count : goal.returns-in-Some-clause-count
returns-in-Some-clause-count c =
    let es = c.deref-in-Some.ensures.0 in
    let found = c.in-Some.ensures.some in
    let same = c.deref.ensures.0 in
    let low = found.0 in
    let at = entry_at (disk (seen c.self.inside.volume.state c.self.inside.table.items)) c.self.inside.table.items c.args.ino c.in-Some.k c.index-deref-k.result c.self.invariant.nodes.table
    (let P : List Referenced → Type 0 = λ l. c.in-Some.k < length l in subst P same low)
    (ap (λ l. (slice_index_or l c.in-Some.k c.index-deref-k.result).ino) (sym same) ∙ found.1 c.index-deref-k.result) in
    ap (λ l. (slice_index_or l c.in-Some.k c.index-deref-k.result).references) es ∙ sym at ∙ ap (λ (f : FileSystem). slice_index f.references c.args.ino) (plain c.self.inside.volume c.self.inside.table.items c.args.self.now c.self.view_is)

pub returns-in-None-clause-count : goal.returns-in-None-clause-count
returns-in-None-clause-count c =
    sym (ap (λ (f : FileSystem). slice_index f.references c.args.ino) (sym (plain c.self.inside.volume c.self.inside.table.items c.args.self.now c.self.view_is))
    ∙ no_entry (disk (seen c.self.inside.volume.state c.self.inside.table.items)) c.self.inside.table.items c.args.ino c.self.invariant.nodes.table (ap (λ l. entries_of l c.args.ino) (sym c.deref.ensures.0) ∙ c.in-None.ensures.none))

use Rattle.std.proofs.Common.{◌<◌, ◌≤◌, List, length, get_or, slice_index, sym, ap, ◌∙◌, subst}
use Rattle.fs_codec.specs.Store.{node_numbered}
use Rattle.fs_blocks.specs.State.{disk}
use Rattle.fs_nodes.specs.declared.one_disk.table.Referenced.{Referenced}
use Rattle.fs_nodes.specs.one_disk.FileSystem.{FileSystem, ShowsNode}
use Rattle.fs_nodes.specs.one_disk.Table.{entries_of, seen}
use Rattle.fs_nodes.proofs.NodesLemmas.{plain, plain_of, has_entry, shows_entry}
use Rattle.fs_nodes.proofs.one_disk.nodes.DiskNodes.node.Goals as goal

pub place-requires : goal.place-requires
place-requires c =
    let P : FileSystem → Type 0 = λ f. 0 < slice_index f.references c.args.ino in
    let some = has_entry (disk (seen c.self.inside.volume.state c.self.inside.table.items)) c.self.inside.table.items c.args.ino c.self.invariant.nodes.table (subst P (sym (plain c.self.inside.volume c.self.inside.table.items c.args.self.now c.self.view_is)) c.requires.referenced) in
    let Q : List Referenced → Type 0 = λ l. 1 ≤ entries_of l c.args.ino in
    subst Q (sym c.deref-2.ensures.0) some

pub returns : goal.returns
returns c =
    let i = c.self.inside in
    let k = c.place.result in
    let to = c.deref.ensures.0 in
    let from = c.deref-2.ensures.0 in
    let P : List Referenced → Type 0 = λ l. c.place.result < length l in
    let e = shows_entry (seen c.self.inside.volume.state c.self.inside.table.items) i.table.items c.args.ino c.place.result c.index-deref-place.result c.self.invariant.nodes.table (subst P from c.place.ensures.low)
    (ap (λ l. (get_or l c.place.result c.index-deref-place.result).ino) (sym from) ∙ c.place.ensures.here c.index-deref-place.result) in
    let Q : List Referenced → Type 0 = λ l. ShowsNode (node_numbered (plain_of c.self.inside.volume c.self.inside.table.items c.args.self.now).store c.args.ino) (get_or l c.place.result c.index-deref-place.result).node in
    let R : FileSystem → Type 0 = λ f. ShowsNode (node_numbered f.store c.args.ino) (get_or i.table.items c.place.result c.index-deref-place.result).node in
    record { shown = subst Q (sym to) (subst R (plain c.self.inside.volume c.self.inside.table.items c.args.self.now c.self.view_is) e) }

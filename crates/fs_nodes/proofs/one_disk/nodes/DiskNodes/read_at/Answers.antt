use Rattle.std.proofs.Common.{◌≤◌, List, length, slice_set, get_or, ap, ◌∙◌, sym, subst}
use Rattle.std.specs.List.{refill}
use Rattle.fs_codec.specs.Fields.{fields_of}
use Rattle.fs_laws.specs.Pieces.{read_file}
use Rattle.fs_nodes.specs.Copy.{put_into}
use Rattle.fs_laws.specs.Rest.{SameAround}
use Rattle.fs_nodes.specs.one_disk.FileSystem.{FileSystem}
use Rattle.fs_nodes.specs.one_disk.Moves.{CarriesLate}
use Rattle.fs_nodes.specs.one_disk.Table.{entries_of, seen, with_inode, HasInode}
use Rattle.fs_nodes.specs.declared.one_disk.table.Referenced.{Referenced}
use Rattle.fs_nodes.proofs.HeldLemmas.{rest_real}
use Rattle.fs_nodes.proofs.NodesLemmas.{plain, plain_of}
use Rattle.fs_nodes.proofs.PieceEnds.{called_late}
use Rattle.fs_nodes.proofs.PlaceLemmas.{refers, has_at, apart_at, carried_at}
use Rattle.fs_nodes.proofs.one_disk.nodes.DiskNodes.read_at.Given.{Over}
use Rattle.fs_nodes.proofs.one_disk.nodes.DiskNodes.read_at.Goals as goal
use Rattle.fs_nodes.proofs.one_disk.nodes.DiskNodes.read_at.Goals.{After-see-2}

pub place-k-requires : goal.place-k-requires
place-k-requires g c =
    let P : List Referenced → Type 0 = λ l. 1 ≤ entries_of l c.args.ino in
    subst P (sym c.deref.ensures.0) (refers c.self.inside.volume c.self.inside.table.items c.args.self.now c.args.ino c.self.view_is c.self.invariant c.requires.referenced)

pub read_file-moved-requires-clause-apart : goal.read_file-moved-requires-clause-apart
read_file-moved-requires-clause-apart g c =
    apart_at c.self.inside.volume.state c.self.inside.table.items c.deref.result.now c.deref_mut.result.now c.args.ino c.place-k.result c.index-deref_mut-k.result c.self.invariant (refers c.self.inside.volume c.self.inside.table.items c.args.self.now c.args.ino c.self.view_is c.self.invariant c.requires.referenced) (record { found = c.deref.ensures.0; same = c.deref_mut.ensures.value; low = c.place-k.ensures.low; here = c.place-k.ensures.here })

has : (g : Over) (c : After-see-2 g) → HasInode (seen c.self.inside.volume.state c.self.inside.table.items) c.self.inside.table.items c.args.ino (fields_of (get_or c.deref_mut.result.now c.place-k.result c.index-deref_mut-k.result).node)
has g c =
    has_at c.self.inside.volume.state c.self.inside.table.items c.deref.result.now c.deref_mut.result.now c.args.ino c.place-k.result c.index-deref_mut-k.result c.self.invariant (refers c.self.inside.volume c.self.inside.table.items c.args.self.now c.args.ino c.self.view_is c.self.invariant c.requires.referenced) (record { found = c.deref.ensures.0; same = c.deref_mut.ensures.value; low = c.place-k.ensures.low; here = c.place-k.ensures.here })

step : (g : Over) (c : After-see-2 g) → CarriesLate c.self.inside.volume.state c.read_file-moved.new.volume.state c.self.inside.table.items (refill (length c.self.inside.table.items) c.self.inside.table.items (slice_set c.deref_mut.result.now c.place-k.result (with_inode (get_or c.deref_mut.result.now c.place-k.result c.index-deref_mut-k.result) c.read_file-moved.new.node))) c.args.ino (fields_of c.read_file-moved.new.node)
step g c =
    carried_at c.self.inside.volume.state c.read_file-moved.new.volume.state c.self.inside.table.items c.deref.result.now c.deref_mut.result.now c.args.ino c.place-k.result c.index-deref_mut-k.result c.read_file-moved.new.node _ _ _ _ c.self.invariant (refers c.self.inside.volume c.self.inside.table.items c.args.self.now c.args.ino c.self.view_is c.self.invariant c.requires.referenced) (record { found = c.deref.ensures.0; same = c.deref_mut.ensures.value; low = c.place-k.ensures.low; here = c.place-k.ensures.here })
    c.read_file-moved.ensures.ends c.see-2.ensures.blocks c.see-2.ensures.sound c.see_addresses.ensures

pub invariant_of-self : goal.invariant_of-self
invariant_of-self g c = (step g (goal.at.invariant_of-self g c).After-see-2).held

pub returns-clause-moved : goal.returns-clause-moved
returns-clause-moved g c = λ node found.
    let b = (goal.at.returns-clause-moved g c).After-see-2 in
    called_late c.self.inside.volume.state c.read_file-moved.new.volume.state c.self.inside.table.items (refill (length c.self.inside.table.items) c.self.inside.table.items (slice_set c.deref_mut.result.now c.place-k.result (with_inode (get_or c.deref_mut.result.now c.place-k.result c.index-deref_mut-k.result) c.read_file-moved.new.node))) (plain_of c.self.inside.volume c.self.inside.table.items c.args.self.now) c.args.ino (fields_of (get_or c.deref_mut.result.now c.place-k.result c.index-deref_mut-k.result).node) (fields_of c.read_file-moved.new.node)
    (λ node room. read_file (put_into c.args.at) node room (g.S.Space.image c.args.space.now) c.args.offset c.args.count c.args.time) (g.S.Space.image c.read_file-moved.new.space) _ _ node (plain c.self.inside.volume c.self.inside.table.items c.args.self.now c.self.view_is) c.self.invariant (has g b) c.read_file-moved.ensures.ends (step g b) found

pub returns-clause-references : goal.returns-clause-references
returns-clause-references g c = (step g (goal.at.returns-clause-references g c).After-see-2).carried.references ∙ ap (λ (f : FileSystem). f.references) c.self.view_is

pub returns-clause-rest : goal.returns-clause-rest
returns-clause-rest g c =
    let k = step g (goal.at.returns-clause-rest g c).After-see-2 in
    let P : FileSystem → Type 0 = λ f. SameAround f.blocks c.read_file-moved.new.volume.state.blocks in
    subst P c.self.view_is (rest_real c.self.inside.volume.state c.read_file-moved.new.volume.state c.self.inside.table.items (refill (length c.self.inside.table.items) c.self.inside.table.items (slice_set c.deref_mut.result.now c.place-k.result (with_inode (get_or c.deref_mut.result.now c.place-k.result c.index-deref_mut-k.result) c.read_file-moved.new.node))) c.self.invariant k.held k.carried.rest)

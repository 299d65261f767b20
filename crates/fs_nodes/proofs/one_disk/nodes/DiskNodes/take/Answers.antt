use Rattle.std.proofs.Common.{◌≡◌, ◌<◌, ◌≤◌, false, List, length, get_or, slice_index, IsSome, inl, inr, refl, sym, ap, ◌∙◌, subst, arith}
use Rattle.std.proofs.lemmas.Bool.{eqb-true, eqb-false}
use Rattle.std.specs.List.{refill}
use Rattle.buf_cache.specs.Blocks.{WritesLate}
use Rattle.fs_codec.specs.Disk.{inode_count}
use Rattle.fs_codec.specs.Store.{node_numbered}
use Rattle.fs_blocks.specs.State.{disk}
use Rattle.fs_blocks.proofs.LateLemmas.{late_stays}
use Rattle.fs_nodes.specs.declared.one_disk.table.Referenced.{Referenced}
use Rattle.fs_nodes.specs.one_disk.FileSystem.{FileSystem, referenced}
use Rattle.fs_nodes.specs.one_disk.Table.{entries_of, references_in, seen, IsUsed}
use Rattle.fs_nodes.proofs.TableLemmas.{entry_at, no_entry, referenced_is}
use Rattle.fs_nodes.proofs.NodesLemmas.{used_number}
use Rattle.fs_nodes.proofs.TakeLemmas.{some_entry}
use Rattle.fs_nodes.proofs.LateLemmas.{Takes, taken_again, taken_first, taken_files}
use Rattle.fs_nodes.proofs.one_disk.nodes.DiskNodes.take.Goals as goal
use Rattle.fs_nodes.proofs.one_disk.nodes.DiskNodes.take.Goals.{In-Some, After-refer_again, In_default, After-push}

few : (c : In-Some) → slice_index (references_in (inode_count (disk c.self.inside.volume.state)) c.self.inside.table.items) c.args.ino < 65535
few c = let P : FileSystem → Type 0 = λ f. slice_index f.references c.args.ino < 65535 in subst P (sym c.self.view_is) c.requires.few

low : (c : In-Some) → c.in-Some.k < length c.self.inside.table.items
low c = let P : List Referenced → Type 0 = λ l. c.in-Some.k < length l in subst P c.deref.ensures.0 c.in-Some.ensures.some.0

here : (c : In-Some) (e : Referenced) → (get_or c.self.inside.table.items c.in-Some.k e).ino ≡ c.args.ino
here c e = ap (λ l. (get_or l c.in-Some.k e).ino) (sym c.deref.ensures.0) ∙ c.in-Some.ensures.some.1 e

pub refer_again-requires-clause-few : goal.refer_again-requires-clause-few
refer_again-requires-clause-few c = λ e.
    let b = (goal.at.refer_again-requires-clause-few c).In-Some in
    let at = entry_at (disk (seen c.self.inside.volume.state c.self.inside.table.items)) c.self.inside.table.items c.args.ino c.in-Some.k e c.self.invariant.nodes.table (low b) (here b e) in
    let f = few b in
    let same : (get_or c.deref_mut.result.now c.in-Some.k e).references ≡ (get_or c.self.inside.table.items c.in-Some.k e).references = ap (λ l. (get_or l c.in-Some.k e).references) c.deref_mut.ensures.value in
    omega (arith, at, f, same)

step : (c : After-refer_again) → Takes c.self.inside.volume.state c.self.inside.volume.state c.self.inside.table.items c.args.ino (refill (length c.self.inside.table.items) c.self.inside.table.items c.refer_again.new.table)
step c =
    let b = (goal.at.After-refer_again c).In-Some in
    taken_again c.self.inside.volume.state c.self.inside.table.items c.deref_mut.result.now c.refer_again.new.table c.args.ino c.in-Some.k c.self.invariant (few b) c.deref_mut.ensures.value (low b) (here b) c.refer_again.ensures

pub invariant_of-self : goal.invariant_of-self
invariant_of-self c = (step (goal.at.invariant_of-self c).After-refer_again).held

pub returns-in-Some : goal.returns-in-Some
returns-in-Some c =
    let b = (goal.at.returns-in-Some c).After-refer_again in
    let k = (goal.at.After-refer_again b).In-Some in
    let d = some_entry c.self.inside.table.items c.in-Some.k (low k) in
    let at = entry_at (disk (seen c.self.inside.volume.state c.self.inside.table.items)) c.self.inside.table.items c.args.ino c.in-Some.k d c.self.invariant.nodes.table (low k) (here k d) in
    let some = (c.self.invariant.nodes.table.each c.in-Some.k d (low k)).some in
    record {
      outcome = (
        inl (let P : FileSystem → Type 0 = λ f. 0 < slice_index f.references c.args.ino in subst P c.self.view_is (omega (arith, at, some))),
        taken_files c.self.inside.volume c.self.inside.volume c.self.inside.table.items _ c.args.self.now c.args.ino (step b) c.self.view_is,
      );
      stored = subst (λ (f : FileSystem). WritesLate f.stored f.blocks c.self.inside.volume.stored) c.self.view_is (late_stays c.self.inside.volume.stored c.self.inside.volume.state.blocks);
    }

none : (c : In_default) → entries_of c.self.inside.table.items c.args.ino ≡ 0
none c = ap (λ l. entries_of l c.args.ino) (sym c.deref.ensures.0) ∙ c.in_default.ensures.none

pub returns-then-is_full : goal.returns-then-is_full
returns-then-is_full c =
    let b = (goal.at.returns-then-is_full c).In_default in
    let i = c.self.inside in
    let n = no_entry (disk (seen c.self.inside.volume.state c.self.inside.table.items)) i.table.items c.args.ino c.self.invariant.nodes.table (none b) in
    let r = referenced_is (disk (seen c.self.inside.volume.state c.self.inside.table.items)) i.table.items c.self.invariant.nodes.table in
    record {
      outcome = (
        refl,
        (let P : FileSystem → Type 0 = λ f. slice_index f.references c.args.ino ≡ 0 in subst P c.self.view_is n),
        (let P : FileSystem → Type 0 = λ f. referenced f.references ≡ 100 in subst P c.self.view_is (r ∙ eqb-true (length i.table.items) 100 (sym c.is_full.ensures.value ∙ c.if-is_full.true))),
        refl,
      );
      stored = late_stays c.args.self.now.stored c.args.self.now.blocks;
    }

used : (c : In_default) → IsUsed (seen c.self.inside.volume.state c.self.inside.table.items) c.args.ino
used c = used_number (seen c.self.inside.volume.state c.self.inside.table.items) c.args.ino (let P : FileSystem → Type 0 = λ f. IsSome (node_numbered f.store c.args.ino) in subst P (sym c.self.view_is) c.requires.node)

pub read_inode-node-requires-clause-low : goal.read_inode-node-requires-clause-low
read_inode-node-requires-clause-low c = (used (goal.at.read_inode-node-requires-clause-low c).In_default).low

pub read_inode-node-requires-clause-high : goal.read_inode-node-requires-clause-high
read_inode-node-requires-clause-high c = (used (goal.at.read_inode-node-requires-clause-high c).In_default).high

pushed : (c : After-push) → Takes c.self.inside.volume.state c.read_inode-node.new.volume.state c.self.inside.table.items c.args.ino c.push.new.self.items
pushed c =
    let b = (goal.at.After-push c).In_default in
    taken_first c.self.inside.volume.state c.read_inode-node.new.volume.state c.self.inside.table.items c.push.new.self.items
    (record { ino = c.args.ino; references = 1; node = c.read_inode-node.result; is_changed = false }) c.self.invariant c.see_sizes.ensures.sizes (none b) (used b) c.read_inode-node.ensures.node refl c.read_inode-node.ensures.same c.push.ensures.items

pub invariant_of-self-2 : goal.invariant_of-self-2
invariant_of-self-2 c = (pushed (goal.at.invariant_of-self-2 c).After-push).held

pub returns : goal.returns
returns c =
    let i = c.self.inside in
    let r = referenced_is (disk (seen c.self.inside.volume.state c.self.inside.table.items)) i.table.items c.self.invariant.nodes.table in
    let room = eqb-false (length i.table.items) 100 (sym c.is_full.ensures.value ∙ c.if-is_full.false) in
    let most : length i.table.items ≤ 100 = c.is_full.ensures.fits in
    record {
      outcome = (
        inr (let P : FileSystem → Type 0 = λ f. referenced f.references < 100 in subst P c.self.view_is (omega (arith, r, room, most))),
        taken_files c.self.inside.volume c.read_inode-node.new.volume c.self.inside.table.items _ c.args.self.now c.args.ino (pushed (goal.at.returns c).After-push) c.self.view_is,
      );
      stored = subst (λ (f : FileSystem). WritesLate f.stored f.blocks c.read_inode-node.new.volume.stored) c.self.view_is c.read_inode-node.ensures.stored;
    }

use Rattle.std.proofs.Common.{◌≡◌, ℕ, cond, false, List, length, sym, ap, ◌∙◌, subst, arith}
use Rattle.std.specs.List.{refill}
use Rattle.buf_cache.specs.Blocks.{block_at}
use Rattle.fs_codec.specs.Disk.{inode_count}
use Rattle.fs_codec.specs.Store.{Store}
use Rattle.fs_codec.specs.Stands.{StandsFor}
use Rattle.fs_codec.specs.declared.layout.TheConstants.{DISK_BLOCKS}
use Rattle.fs_codec.specs.declared.super_block.SuperBlock.{SuperBlock}
use Rattle.fs_laws.specs.Rest.{SameAround}
use Rattle.fs_blocks.specs.State.{disk, disk_with}
use Rattle.fs_nodes.specs.declared.one_disk.table.Referenced.{Referenced}
use Rattle.fs_nodes.specs.one_disk.FileSystem.{FileSystem, store_now}
use Rattle.fs_nodes.specs.one_disk.Table.{seen, references_in, SavesAll, IsNodes, IsHeld}
use Rattle.fs_nodes.proofs.TakeLemmas.{refilled}
use Rattle.fs_nodes.proofs.HeldLemmas.{rest_on}
use Rattle.fs_nodes.proofs.UpdateLemmas.{settled, settles, resettled, references_kept}
use Rattle.fs_nodes.proofs.SyncedLemmas.{Synced, synced_store, synced_whole, synced_system, synced_references, synced_rest, synced_stands}
use Rattle.fs_nodes.proofs.one_disk.nodes.DiskNodes.update_all.Goals as goal
use Rattle.fs_nodes.proofs.one_disk.nodes.DiskNodes.update_all.Goals.{After-see_sizes}

table : After-see_sizes → List Referenced
table c = refill (length c.self.inside.table.items) c.self.inside.table.items c.save_all.new.table

after : (c : After-see_sizes) → SavesAll c.self.inside.volume.state c.self.inside.table.items c.save_all.new.volume.state (table c) (length c.self.inside.table.items)
unfolding table
after c =
    let es : List Referenced = c.self.inside.table.items in
    let P : List Referenced → Type 0 = λ l. SavesAll c.self.inside.volume.state l c.save_all.new.volume.state c.save_all.new.table (length l) in
    let q : SavesAll c.self.inside.volume.state c.self.inside.table.items c.save_all.new.volume.state c.save_all.new.table (length c.self.inside.table.items) = subst P c.deref_mut.ensures.value c.save_all.ensures in
    let Q : List Referenced → Type 0 = λ l. SavesAll c.self.inside.volume.state c.self.inside.table.items c.save_all.new.volume.state l (length c.self.inside.table.items) in
    subst Q (sym (refilled es c.save_all.new.table q.long)) q

calm : (c : After-see_sizes) → IsNodes c.save_all.new.volume.state (table c) × (store_now c.save_all.new.volume.state ≡ store_now (seen c.save_all.new.volume.state (table c)))
calm c =
    settled c.save_all.new.volume.state (table c) (after c).stays.held
    (settles c.self.inside.volume.state c.save_all.new.volume.state c.self.inside.table.items (table c) (length c.self.inside.table.items) (after c) (omega arith))

synced : (c : After-see_sizes) → Synced c.save_all.new.volume.state c.args.time c.sync.new.self.state
synced c =
    let e = c.sync.ensures in
    record { head = e.head; blocks = e.blocks; free = e.free; changed = e.changed; volume = c.see_sizes.ensures.volume; sizes = c.see_sizes.ensures.sizes }

done : (c : After-see_sizes) → IsHeld c.sync.new.self.state (table c) × (store_now (seen c.sync.new.self.state (table c)) ≡ store_now c.sync.new.self.state)
done c =
    resettled c.sync.new.self.state (table c) (synced_system c.save_all.new.volume.state c.sync.new.self.state (table c) c.args.time (calm c).0 (synced c)) c.see.ensures.blocks c.see.ensures.sound (after c).stays.held.long

pub invariant_of-self : goal.invariant_of-self
unfolding table
invariant_of-self c = (done (goal.at.invariant_of-self c).After-see_sizes).0

pub returns-clause-store : goal.returns-clause-store
unfolding table
returns-clause-store c =
    let k = (goal.at.returns-clause-store c).After-see_sizes in
    let update : Store → Store = λ s. cond s.mark (record s { stamp = c.args.time; mark = false }) s in
    (done k).1 ∙ synced_store c.save_all.new.volume.state c.sync.new.self.state c.args.time (calm k).0.whole (calm k).0.fits (synced k)
    ∙ ap update ((calm k).1 ∙ (after k).stays.store) ∙ ap (λ (f : FileSystem). update f.store) c.self.view_is

pub returns-clause-references : goal.returns-clause-references
unfolding table
returns-clause-references c =
    let k = (goal.at.returns-clause-references c).After-see_sizes in
    synced_references c.save_all.new.volume.state c.sync.new.self.state (table k) c.args.time (calm k).0 (synced k)
    ∙ ap (λ (h : SuperBlock). references_in (inode_count (disk_with c.save_all.new.volume.state.blocks h)) (table k)) (after k).stays.head
    ∙ references_kept (inode_count (disk c.self.inside.volume.state)) c.self.inside.table.items (table k) (after k).references
    ∙ ap (λ (f : FileSystem). f.references) c.self.view_is

pub returns-clause-stands : goal.returns-clause-stands
unfolding table
returns-clause-stands c =
    let k = (goal.at.returns-clause-stands c).After-see_sizes in
    let whole = synced_whole c.save_all.new.volume.state c.sync.new.self.state c.args.time (calm k).0.whole (calm k).0.fits (synced k) in
    let P : List (List ℕ) → Type 0 = λ l. StandsFor DISK_BLOCKS (block_at l) (store_now (seen c.sync.new.self.state (table k))) in
    let Q : Store → Type 0 = StandsFor DISK_BLOCKS (block_at c.sync.new.self.state.blocks) in
    subst P (sym c.sync.ensures.stored) (subst Q (sym (done k).1) (synced_stands c.sync.new.self.state whole c.sync.ensures.faults c.sync.ensures.stands))

pub returns-clause-rest : goal.returns-clause-rest
unfolding table
returns-clause-rest c =
    let k = (goal.at.returns-clause-rest c).After-see_sizes in
    let P : FileSystem → Type 0 = λ f. SameAround f.blocks c.sync.new.self.state.blocks in
    subst P c.self.view_is (rest_on c.self.inside.volume.state.blocks c.save_all.new.volume.state.blocks c.sync.new.self.state.blocks (after k).stays.rest
    (synced_rest c.save_all.new.volume.state c.sync.new.self.state (table k) c.args.time (calm k).0 (synced k)))

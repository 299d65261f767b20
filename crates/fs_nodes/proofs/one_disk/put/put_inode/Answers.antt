use Rattle.std.proofs.Common.{◌≡◌, ◌-◌, ◌*◌, ◌<◌, ◌≤◌, ℕ, List, length, get_or, slice_index, slice_set, Some, sym, ap, ◌∙◌, subst, arith, length-set}
use Rattle.std.specs.List.{refill}
use Rattle.fs_codec.specs.Fields.{fields_of}
use Rattle.fs_codec.specs.Disk.{inode_count}
use Rattle.fs_codec.specs.Store.{Node, node_numbered}
use Rattle.fs_codec.specs.Stands.{node_of}
use Rattle.fs_codec.specs.declared.super_block.SuperBlock.{SuperBlock}
use Rattle.fs_laws.specs.Numbers.{without_node}
use Rattle.fs_blocks.specs.State.{State, disk}
use Rattle.fs_blocks.proofs.LateLemmas.{late_stays}
use Rattle.fs_nodes.specs.declared.one_disk.table.Referenced.{Referenced}
use Rattle.fs_laws.specs.Rest.{SameAround}
use Rattle.fs_nodes.specs.one_disk.FileSystem.{store_now}
use Rattle.fs_nodes.specs.one_disk.Table.{references_in, entries_of, seen, IsEntry, IsHeld}
use Rattle.fs_nodes.specs.one_disk.Numbers.{once_less, Releases}
use Rattle.fs_nodes.proofs.NodesLemmas.{has_entry, entry_node}
use Rattle.fs_nodes.proofs.TakeLemmas.{refilled}
use Rattle.fs_nodes.proofs.HeldLemmas.{rest_on, rest_real}
use Rattle.fs_nodes.proofs.NumbersLemmas.{count_is}
use Rattle.fs_nodes.proofs.NumbersPut.{IsAt, entry_is, references_are, kept_many, kept_linked, kept_root, gone, file_links}
use Rattle.fs_nodes.proofs.ReleaseLemmas.{LosesLate, less_late, left_file}
use Rattle.fs_nodes.proofs.one_disk.put.put_inode.Goals as goal
use Rattle.fs_nodes.proofs.one_disk.put.put_inode.Goals.{After-index-deref-k, After-refer_less, After-release}

pub place-k-requires : goal.place-k-requires
place-k-requires c =
    let P : List Referenced → Type 0 = λ l. 1 ≤ entries_of l c.args.ino in
    subst P (sym c.deref.ensures.0) (has_entry (disk (seen c.args.volume.now.state c.args.table.now.items)) c.args.table.now.items c.args.ino c.requires.held.nodes.table c.requires.referenced)

-- the entry
at : (c : After-index-deref-k) → IsAt c.args.table.now.items c.place-k.result c.index-deref-k.result c.args.ino
at c =
    let P : List Referenced → Type 0 = λ l. c.place-k.result < length l in
    let here : get_or c.args.table.now.items c.place-k.result c.index-deref-k.result ≡ c.index-deref-k.result =
    sym (c.index-deref-k.is ∙ ap (λ l. get_or l c.place-k.result c.index-deref-k.result) c.deref-2.ensures.0) in
    record {
      low = subst P c.deref.ensures.0 c.place-k.ensures.low;
      here = here;
      ino = sym (ap (λ (x : Referenced). x.ino) here) ∙ ap (λ l. (get_or l c.place-k.result c.index-deref-k.result).ino) (sym c.deref.ensures.0) ∙ c.place-k.ensures.here c.index-deref-k.result;
    }

is_entry : (c : After-index-deref-k) → IsEntry (disk (seen c.args.volume.now.state c.args.table.now.items)) c.index-deref-k.result
is_entry c = entry_is (seen c.args.volume.now.state c.args.table.now.items) c.args.table.now.items c.place-k.result c.index-deref-k.result c.args.ino c.requires.held.nodes (at c)

count : (c : After-index-deref-k) → slice_index (references_in (inode_count (disk c.args.volume.now.state)) c.args.table.now.items) c.args.ino ≡ c.index-deref-k.result.references
count c = references_are (seen c.args.volume.now.state c.args.table.now.items) c.args.table.now.items c.place-k.result c.index-deref-k.result c.args.ino c.requires.held.nodes (at c)

-- the links of its node
links : (c : After-index-deref-k) (node : Node) → node_numbered (store_now (seen c.args.volume.now.state c.args.table.now.items)) c.args.ino ≡ Some node → node.nlink ≡ c.index-deref-k.result.node.nlink
links c node is =
    file_links (disk (seen c.args.volume.now.state c.args.table.now.items)) (fields_of c.index-deref-k.result.node) node
    (sym (entry_node (seen c.args.volume.now.state c.args.table.now.items) c.index-deref-k.result c.args.ino (is_entry c) (at c).ino) ∙ is)

-- where it is referred to more than once
less : (c : After-refer_less) → LosesLate c.args.volume.now.state c.args.table.now.items c.args.ino c.args.volume.now.state (refill (length c.args.table.now.items) c.args.table.now.items c.refer_less.new.table)
less c =
    let b = (goal.at.After-refer_less c).After-index-deref-k in
    let a = at b in
    let set : c.refer_less.new.table ≡ slice_set c.args.table.now.items c.place-k.result (once_less c.index-deref-k.result) =
    c.refer_less.ensures c.index-deref-k.result ∙ ap (λ l. slice_set l c.place-k.result (once_less (get_or l c.place-k.result c.index-deref-k.result))) c.deref_mut.ensures.value
    ∙ ap (λ x. slice_set c.args.table.now.items c.place-k.result (once_less x)) a.here in
    let next : refill (length c.args.table.now.items) c.args.table.now.items c.refer_less.new.table ≡ slice_set c.args.table.now.items c.place-k.result (once_less c.index-deref-k.result) =
    refilled c.args.table.now.items c.refer_less.new.table (ap length set ∙ length-set c.args.table.now.items c.place-k.result (once_less c.index-deref-k.result)) ∙ set in
    let P : List Referenced → Type 0 = LosesLate c.args.volume.now.state c.args.table.now.items c.args.ino c.args.volume.now.state in
    subst P (sym next) (less_late c.args.volume.now.state c.args.table.now.items c.place-k.result c.index-deref-k.result c.args.ino c.requires.held a c.if-entry-gt1.true)

pub returns-then-entry-gt1-clause-held : goal.returns-then-entry-gt1-clause-held
returns-then-entry-gt1-clause-held c = (less (goal.at.returns-then-entry-gt1-clause-held c).After-refer_less).held

pub returns-then-entry-gt1-clause-references : goal.returns-then-entry-gt1-clause-references
returns-then-entry-gt1-clause-references c = (less (goal.at.returns-then-entry-gt1-clause-references c).After-refer_less).loses.references

pub returns-then-entry-gt1-clause-store : goal.returns-then-entry-gt1-clause-store
returns-then-entry-gt1-clause-store c = λ node is.
    let n = count (goal.at.returns-then-entry-gt1-clause-store c).After-index-deref-k in
    let many = c.if-entry-gt1.true in
    (less (goal.at.returns-then-entry-gt1-clause-store c).After-refer_less).store
    ∙ kept_many (slice_index (references_in (inode_count (disk c.args.volume.now.state)) c.args.table.now.items) c.args.ino) _ (store_now (seen c.args.volume.now.state c.args.table.now.items)) (omega (arith, n, many))

-- where that was the last reference
once : (c : After-release) → c.index-deref-k.result.references ≡ 1
once c = let s = (is_entry (goal.at.After-release c).After-index-deref-k).some in let f = c.if-entry-gt1.false in omega (arith, s, f)

last : (c : After-release) → Releases c.args.volume.now.state c.release.new.volume.state c.args.table.now.items c.release.new.table.items c.index-deref-k.result
last c = c.release.ensures.released c.index-deref-k.result (at (goal.at.After-release c).After-index-deref-k).here (once c)

references : (c : After-release) → references_in (inode_count (disk c.release.new.volume.state)) c.release.new.table.items
    ≡ slice_set (references_in (inode_count (disk c.args.volume.now.state)) c.args.table.now.items) c.args.ino (slice_index (references_in (inode_count (disk c.args.volume.now.state)) c.args.table.now.items) c.args.ino - 1)
references c =
    (last c).references ∙ ap (λ i. slice_set (references_in (inode_count (disk c.args.volume.now.state)) c.args.table.now.items) i (slice_index (references_in (inode_count (disk c.args.volume.now.state)) c.args.table.now.items) i - 1))
    (at (goal.at.After-release c).After-index-deref-k).ino

few : (c : After-release) → 1 < slice_index (references_in (inode_count (disk c.args.volume.now.state)) c.args.table.now.items) c.args.ino → ⊥
few c many = let n = count (goal.at.After-release c).After-index-deref-k in let o = once c in omega (arith, n, o, many)

pub returns-then-entry-gt0-clause-held : goal.returns-then-entry-gt0-clause-held
returns-then-entry-gt0-clause-held c = (last (goal.at.returns-then-entry-gt0-clause-held c).After-release).stays.held

pub returns-then-entry-gt0-clause-references : goal.returns-then-entry-gt0-clause-references
returns-then-entry-gt0-clause-references c = references (goal.at.returns-then-entry-gt0-clause-references c).After-release

pub returns-then-entry-gt0-clause-store : goal.returns-then-entry-gt0-clause-store
returns-then-entry-gt0-clause-store c = λ node is.
    let l = links (goal.at.returns-then-entry-gt0-clause-store c).After-index-deref-k node is in
    let some = c.if-entry-gt0.true in
    (last (goal.at.returns-then-entry-gt0-clause-store c).After-release).stays.store
    ∙ kept_linked (slice_index (references_in (inode_count (disk c.args.volume.now.state)) c.args.table.now.items) c.args.ino) node.nlink c.args.ino _ (store_now (seen c.args.volume.now.state c.args.table.now.items)) (omega (arith, l, some))

pub returns-then-entry-gt0-clause-late : goal.returns-then-entry-gt0-clause-late
returns-then-entry-gt0-clause-late c = λ many. absurd (few (goal.at.returns-then-entry-gt0-clause-late c).After-release many)

pub returns-then-entry-gt0-clause-rest : goal.returns-then-entry-gt0-clause-rest
returns-then-entry-gt0-clause-rest c = (last (goal.at.returns-then-entry-gt0-clause-rest c).After-release).stays.rest

pub returns-then-ino-eq1-clause-held : goal.returns-then-ino-eq1-clause-held
returns-then-ino-eq1-clause-held c = (last (goal.at.returns-then-ino-eq1-clause-held c).After-release).stays.held

pub returns-then-ino-eq1-clause-references : goal.returns-then-ino-eq1-clause-references
returns-then-ino-eq1-clause-references c = references (goal.at.returns-then-ino-eq1-clause-references c).After-release

pub returns-then-ino-eq1-clause-store : goal.returns-then-ino-eq1-clause-store
returns-then-ino-eq1-clause-store c = λ node is.
    (last (goal.at.returns-then-ino-eq1-clause-store c).After-release).stays.store
    ∙ kept_root (slice_index (references_in (inode_count (disk c.args.volume.now.state)) c.args.table.now.items) c.args.ino) node.nlink c.args.ino _ (store_now (seen c.args.volume.now.state c.args.table.now.items)) c.if-ino-eq1.true

pub returns-then-ino-eq1-clause-late : goal.returns-then-ino-eq1-clause-late
returns-then-ino-eq1-clause-late c = λ many. absurd (few (goal.at.returns-then-ino-eq1-clause-late c).After-release many)

pub returns-then-ino-eq1-clause-rest : goal.returns-then-ino-eq1-clause-rest
returns-then-ino-eq1-clause-rest c = (last (goal.at.returns-then-ino-eq1-clause-rest c).After-release).stays.rest

-- where it is freed
-- the number and the inode, under the table that is left
low : (c : After-release) → 1 ≤ c.args.ino
low c = let b = (goal.at.After-release c).After-index-deref-k in let l = (is_entry b).low in let i = (at b).ino in omega (arith, l, i)

high : (c : After-release) → c.args.ino ≤ inode_count (disk c.release.new.volume.state)
high c =
    let b = (goal.at.After-release c).After-index-deref-k in
    let r = last c in
    let n : inode_count (disk c.release.new.volume.state) ≡ inode_count (disk c.args.volume.now.state) =
    count_is c.release.new.volume.state r.stays.held.volume_is ∙ ap (λ (x : SuperBlock). 16 * x.i_size) r.stays.head ∙ sym (count_is c.args.volume.now.state c.requires.held.volume_is) in
    let h = (is_entry b).high in
    let i = (at b).ino in
    omega (arith, h, i, n)

file : (c : After-release) (node : Node) → node_numbered (store_now (seen c.args.volume.now.state c.args.table.now.items)) c.args.ino ≡ Some node
    → node_of (disk (seen c.release.new.volume.state c.release.new.table.items)) (fields_of c.index-deref-k.result.node) ≡ Some node
file c node is =
    let i = (at (goal.at.After-release c).After-index-deref-k).ino in
    let P : ℕ → Type 0 = λ n. 1 ≤ n → n ≤ inode_count (disk c.release.new.volume.state) → node_numbered (store_now (seen c.args.volume.now.state c.args.table.now.items)) n ≡ Some node
    → node_of (disk (seen c.release.new.volume.state c.release.new.table.items)) (fields_of c.index-deref-k.result.node) ≡ Some node in
    subst P i (left_file c.args.volume.now.state c.release.new.volume.state c.args.table.now.items c.release.new.table.items c.index-deref-k.result node (last c)) (low c) (high c) is

pub returns-clause-store : goal.returns-clause-store
returns-clause-store c = λ node is.
    let a = (goal.at.returns-clause-store c).After-release in
    let b = (goal.at.returns-clause-store c).After-index-deref-k in
    let n = count b in
    let o = once a in
    let l = links b node is in
    let none = c.if-entry-gt0.false in
    let P : List Referenced → Type 0 = λ t. node_of (disk (seen c.release.new.volume.state t)) (fields_of c.index-deref-k.result.node) ≡ Some node → store_now (seen c.free_inode.new.volume.state t) ≡ without_node (store_now (seen c.release.new.volume.state t)) c.args.ino node in
    subst P c.deref-3.ensures.0 (c.free_inode.ensures.store node) (file a node is)
    ∙ ap (λ s. without_node s c.args.ino node) (last a).stays.store
    ∙ gone (slice_index (references_in (inode_count (disk c.args.volume.now.state)) c.args.table.now.items) c.args.ino) node.nlink c.args.ino (without_node (store_now (seen c.args.volume.now.state c.args.table.now.items)) c.args.ino node) (store_now (seen c.args.volume.now.state c.args.table.now.items))
    (omega (arith, n, o)) (omega (arith, l, none)) c.if-ino-eq1.false

pub returns-clause-late : goal.returns-clause-late
returns-clause-late c = λ many. absurd (few (goal.at.returns-clause-late c).After-release many)

pub returns-clause-rest : goal.returns-clause-rest
returns-clause-rest c =
    let r = last (goal.at.returns-clause-rest c).After-release in
    let mid : State = c.release.new.volume.state in
    let fin : State = c.free_inode.new.volume.state in
    let P : List Referenced → Type 0 = IsHeld fin in
    let Q : List Referenced → Type 0 = λ t. SameAround (seen mid t).blocks (seen fin t).blocks in
    rest_on c.args.volume.now.state.blocks mid.blocks fin.blocks r.stays.rest
    (rest_real mid fin c.release.new.table.items c.release.new.table.items r.stays.held (subst P c.deref-3.ensures.0 c.free_inode.ensures.held) (subst Q c.deref-3.ensures.0 c.free_inode.ensures.others.rest))

pub returns-then-entry-gt1-clause-stored : goal.returns-then-entry-gt1-clause-stored
returns-then-entry-gt1-clause-stored c = λ node is some. late_stays _ _

pub returns-then-entry-gt0-clause-stored : goal.returns-then-entry-gt0-clause-stored
returns-then-entry-gt0-clause-stored c = λ node is some. c.release.ensures.stored

pub returns-then-ino-eq1-clause-stored : goal.returns-then-ino-eq1-clause-stored
returns-then-ino-eq1-clause-stored c = λ node is some. c.release.ensures.stored

-- One that has links isn't freed.
pub returns-clause-stored : goal.returns-clause-stored
returns-clause-stored c = λ node is some.
    let l = links (goal.at.returns-clause-stored c).After-index-deref-k node is in
    let none = c.if-entry-gt0.false in
    absurd (omega (arith, l, none, some))

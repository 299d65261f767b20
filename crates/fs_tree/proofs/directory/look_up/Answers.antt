use Rattle.std.proofs.Common.{◌≡◌, ◌+◌, ◌*◌, ◌≤◌, IsSome, Some, refl, sym, ap, ◌∙◌, subst, arith}
use Rattle.fs_codec.specs.Store.{Node}
use Rattle.fs_nodes.specs.Keys.{Stores, node_numbered}
use Rattle.fs_tree.specs.Directory.{entry_count}
use Rattle.fs_tree.proofs.DirectoryLemmas.{passed_none, passed_more, same_block, found_here, room_here}
use Rattle.fs_tree.proofs.FindingLemmas.{same_refl, same_then}
use Rattle.fs_tree.proofs.directory.look_up.Goals as goal
use Rattle.fs_tree.proofs.directory.look_up.Goals.{After-entry-entry}

pub loop-place-init : goal.loop-place-init
loop-place-init c = record { same = same_refl _; passed = λ node found size. passed_none node c.args.name.now; block = λ node found more. absurd (more refl) }

pub entry-entry-requires : goal.entry-entry-requires
entry-entry-requires c =
    let i = c.loop-place.invariant in
    let P : Stores → Type 0 = λ s. IsSome (node_numbered s c.args.dir) in
    record {
      node = subst P (sym i.same.store) c.requires.node;
      block = λ node found more. i.block node (ap (λ (s : Stores). node_numbered s c.args.dir) (sym i.same.store) ∙ found) more;
    }

-- the entry of a place that is looked at
within : (c : After-entry-entry) (node : Node) → node.size ≡ c.args.size → 16 * c.loop-place.place + 16 ≤ node.size
within c node size = let low = c.loop-place-test.true in omega (arith, size, low)

pub loop-place-preserved : goal.loop-place-preserved
loop-place-preserved c =
    let i = c.loop-place.invariant in
    let now : (node : Node) → node_numbered c.args.nodes.now.store c.args.dir ≡ Some node → node_numbered c.loop-place.nodes.store c.args.dir ≡ Some node =
    λ node found. ap (λ (s : Stores). node_numbered s c.args.dir) i.same.store ∙ found in
    record {
      same = same_then _ _ _ i.same c.entry-entry.ensures.same;
      passed = λ node found size. passed_more node c.args.name.now c.loop-place.place c.loop-place.empty c.first_empty-empty.result c.entry-entry.result c.is_named.result (i.passed node found size)
          (c.entry-entry.ensures.entry node (now node found) (within (goal.at.loop-place-preserved c).After-entry-entry node size)) c.first_empty-empty.ensures c.is_named.ensures c.if-is_named.false;
      block = λ node found more. same_block node c.loop-place.place c.entry-entry.new.block (c.entry-entry.ensures.block node (now node found)) more;
    }

pub returns-then-is_named-clause-looked : goal.returns-then-is_named-clause-looked
returns-then-is_named-clause-looked c = λ node found size.
    let i = c.loop-place.invariant in
    found_here node c.args.name.now c.loop-place.place c.args.size c.loop-place.empty c.entry-entry.result c.is_named.result (i.passed node found size)
    (c.entry-entry.ensures.entry node (ap (λ (s : Stores). node_numbered s c.args.dir) i.same.store ∙ found) (within (goal.at.returns-then-is_named-clause-looked c).After-entry-entry node size)) c.is_named.ensures c.if-is_named.true size c.loop-place-test.true

pub returns-clause-looked : goal.returns-clause-looked
returns-clause-looked c = λ node found size.
    let past = c.loop-place-test.false in
    let within = c.loop-place.auto.place-end in
    let end : c.loop-place.place ≡ entry_count c.args.size = omega (arith, past, within) in
    room_here node c.args.name.now c.loop-place.place c.args.size c.unwrap_or.result c.loop-place.empty (c.loop-place.invariant.passed node found size) size end c.unwrap_or.ensures

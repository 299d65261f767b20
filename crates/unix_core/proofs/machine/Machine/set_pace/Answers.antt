use Rattle.std.proofs.Common.{◌≡◌, ◌∙◌, refl, sym, ap, subst}
use Rattle.v6_base.specs.Trace.{Took}
use Rattle.fs_tree.specs.declared.tree.Tree.{Tree}
use Rattle.sys_files.specs.declared.files.Files.{Files}
use Rattle.fs_nodes.specs.FileSystem.{FileSystem, SameRest}
use Rattle.fs_nodes.proofs.RestLemmas.{rest_stays}
use Rattle.sys_procs.specs.declared.procs.Procs.{Procs}
use Rattle.unix_core.specs.declared.world.World.{World}
use Rattle.unix_core.specs.Slots.{IsCounted}
use Rattle.unix_core.specs.Parts.{unix_of, system_at, goes_on, IsKernel}
use Rattle.abstract_unix.specs.Outside.{paced_of}
use Rattle.unix_core.proofs.BootKernelLemmas.{kernel_good}
use Rattle.unix_core.proofs.EventLemmas.{event_takes, event_items, stays_takes, stays_items}
use Rattle.unix_core.proofs.SlotWorlds.{with_slots, kernel_lines}
use Rattle.unix_core.proofs.TypedLemmas.{with_lines}
use Rattle.unix_core.proofs.machine.Machine.set_pace.Goals as goal

pub set_pace-requires-clause-good : goal.set_pace-requires-clause-good
set_pace-requires-clause-good g c = let m = c.args.self.now in kernel_good m.stage m.world c.requires.started c.requires.kernel

pub set_pace-requires-clause-counted : goal.set_pace-requires-clause-counted
set_pace-requires-clause-counted g c = c.requires.kernel.counted (ap goes_on c.requires.started)

-- somebody is woken
pub returns-then-set_pace-clause-takes : goal.returns-then-set_pace-clause-takes
returns-then-set_pace-clause-takes g c =
    event_takes (paced_of (system_at c.args.self.now.world) c.args.n) refl (sym c.set_pace.ensures.settles ∙ c.if-set_pace.true) c.set_pace.new.world c.set_pace.ensures.unix c.set_pace.ensures.board
    _ _ c.settle.ensures.kernel c.settle.ensures.started c.settle.ensures.system

pub returns-then-set_pace-clause-items : goal.returns-then-set_pace-clause-items
returns-then-set_pace-clause-items g c =
    event_items (paced_of (system_at c.args.self.now.world) c.args.n) refl (sym c.set_pace.ensures.settles ∙ c.if-set_pace.true) c.set_pace.new.world c.set_pace.ensures.unix c.set_pace.ensures.board
    _ _ _ c.set_pace.ensures.items c.settle.ensures.items

pub returns-then-set_pace-clause-rest : goal.returns-then-set_pace-clause-rest
returns-then-set_pace-clause-rest g c =
    let nodes : FileSystem = c.args.self.now.world.files.tree.nodes in
    subst (λ (x : FileSystem). SameRest nodes x) (ap (λ (t : Tree). t.nodes) (sym c.set_pace.ensures.tree) ∙ ap (λ (f : Files). f.tree.nodes) (sym c.settle.ensures.files))
    (rest_stays nodes.blocks)

pub returns-then-set_pace-clause-tree : goal.returns-then-set_pace-clause-tree
returns-then-set_pace-clause-tree g c = ap (λ (f : Files). f.tree) c.settle.ensures.files ∙ c.set_pace.ensures.tree

pub returns-then-set_pace-clause-images : goal.returns-then-set_pace-clause-images
returns-then-set_pace-clause-images g c = c.settle.ensures.images ∙ c.set_pace.ensures.images

pub returns-then-set_pace-clause-frame : goal.returns-then-set_pace-clause-frame
returns-then-set_pace-clause-frame g c = g.met.T.Trace.goes_on _ _ _ c.set_pace.ensures.frame c.settle.ensures.frame

-- nobody is
pub returns-else-set_pace-clause-takes : goal.returns-else-set_pace-clause-takes
returns-else-set_pace-clause-takes g c =
    let m = c.args.self.now in
    let w : World = m.world in
    let v : World = c.set_pace.new.world in
    let same : v.procs ≡ w.procs = c.set_pace.ensures.same c.if-set_pace.false in
    let there : v ≡ with_slots (with_lines w v.files.lines) v.slots =
    c.set_pace.ensures.others ∙ ap (λ (p : Procs). record w { files = record w.files { lines = v.files.lines }; procs = p; slots = v.slots }) same in
    let kernel : IsKernel m.stage v =
    subst (IsKernel m.stage) (sym there)
    (kernel_lines w v.files.lines v.slots m.stage c.set_pace.ensures.counted.timed.within
    (λ goes. subst (λ (x : World). IsCounted v.slots (unix_of x)) there c.set_pace.ensures.counted) c.requires.kernel) in
    stays_takes (paced_of (system_at c.args.self.now.world) c.args.n) refl (sym c.set_pace.ensures.settles ∙ c.if-set_pace.false) c.set_pace.new.world c.set_pace.ensures.unix c.set_pace.ensures.board
    m.stage kernel c.requires.started

pub returns-else-set_pace-clause-items : goal.returns-else-set_pace-clause-items
returns-else-set_pace-clause-items g c =
    subst (λ l. Took (g.T.Trace.taken c.args.trace.now) l (g.T.Trace.taken c.set_pace.new.trace))
    (sym (stays_items (paced_of (system_at c.args.self.now.world) c.args.n) refl (sym c.set_pace.ensures.settles ∙ c.if-set_pace.false) c.set_pace.new.world c.set_pace.ensures.unix c.set_pace.ensures.board))
    c.set_pace.ensures.items

pub returns-else-set_pace-clause-rest : goal.returns-else-set_pace-clause-rest
returns-else-set_pace-clause-rest g c =
    let nodes : FileSystem = c.args.self.now.world.files.tree.nodes in
    subst (λ (x : FileSystem). SameRest nodes x) (ap (λ (t : Tree). t.nodes) (sym c.set_pace.ensures.tree)) (rest_stays nodes.blocks)

pub returns-else-set_pace-clause-tree : goal.returns-else-set_pace-clause-tree
returns-else-set_pace-clause-tree g c = c.set_pace.ensures.tree

pub returns-else-set_pace-clause-images : goal.returns-else-set_pace-clause-images
returns-else-set_pace-clause-images g c = c.set_pace.ensures.images

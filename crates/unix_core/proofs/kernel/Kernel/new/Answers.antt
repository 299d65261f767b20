use Rattle.std.proofs.Common.{◌≡◌, ◌∙◌, ◌-◌, ap, sym, subst, refl}
use Rattle.mount_tab.specs.Mounted.{MountTable}
use Rattle.fs_nodes.specs.FileSystem.{FileSystem}
use Rattle.fs_tree.specs.Mounting.{AreMounts}
use Rattle.abstract_unix.specs.Runs.{system_with}
use Rattle.unix_core.specs.declared.world.World.{World}
use Rattle.unix_core.specs.declared.machine.Stage.TheVariants as stage
use Rattle.unix_core.specs.Parts.{system_at, IsKernel}
use Rattle.unix_core.proofs.BootFirstLemmas.{first_made}
use Rattle.unix_core.proofs.kernel.Kernel.new.Goals as goal
use Rattle.unix_core.proofs.kernel.Kernel.new.Given as given
use Rattle.unix_core.proofs.kernel.Kernel.new.Goals.{After-new-4}

-- The world that is made.
abbrev world : (g : given.Over) → After-new-4 g → World
world g c = record {
  files = record { tree = c.new2.result; table = c.new.result; lines = c.new-2.result; pipes = c.new-3.result };
  procs = c.args.rooms.procs;
  tape = c.args.rooms.tape;
  core = c.args.core;
  slots = c.new-4.result;
}

made : (g : given.Over) (c : After-new-4 g) → IsKernel stage.New (world g c) × (system_at (world g c) ≡ system_with c.args.nodes.store c.args.core c.args.lines)
made g c =
    let first = c.requires.procs in
    first_made c.args.nodes c.args.core c.args.lines c.requires.referred
    (world g c) c.new2.ensures.nodes c.new2.ensures.none (subst (λ (m : MountTable). AreMounts m c.args.nodes.store) (sym c.new2.ensures.mounts) c.requires.mounts)
    (ap (λ (m : MountTable). m.covered) c.new2.ensures.mounts ∙ c.requires.uncovered) c.new.ensures c.new-3.ensures c.new-2.ensures
    first.rows first.table first.good first.kept first.switches
    (ap (λ t. t.entry_room) c.requires.tape) (ap (λ t. t.byte_room) c.requires.tape) refl
    (λ i. record {
      passed = c.new-4.ensures.passed i;
      disk = c.new-4.ensures.disk i;
      pace = c.new-4.ensures.pace i;
      since = c.new-4.ensures.passed i - c.new-4.ensures.set i;
    }) c.new-4.ensures.within c.new-4.ensures.set c.new-4.ensures.due c.new-4.ensures.low

pub returns-clause-system : goal.returns-clause-system
returns-clause-system g c = (made g (goal.at.returns-clause-system g c).After-new-4).1

pub invariant_of-result : goal.invariant_of-result
invariant_of-result g c = (made g (goal.at.invariant_of-result g c).After-new-4).0

pub returns-clause-blocks : goal.returns-clause-blocks
returns-clause-blocks g c = ap (λ (fs : FileSystem). fs.blocks) c.new2.ensures.nodes

pub returns-clause-stored : goal.returns-clause-stored
returns-clause-stored g c = ap (λ (fs : FileSystem). fs.stored) c.new2.ensures.nodes

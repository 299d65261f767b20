use Rattle.std.proofs.Common.{◌≡◌, ◌∙◌, sym, ap, subst}
use Rattle.pick_rules.specs.Board.{Board}
use Rattle.sys_files.specs.declared.files.Files.{Files}
use Rattle.sys_procs.specs.Agree.{board_of}
use Rattle.sys_procs.specs.declared.procs.Procs.{Procs}
use Rattle.unix_core.specs.declared.world.World.{World}
use Rattle.unix_core.specs.Slots.{IsCounted}
use Rattle.unix_core.specs.Parts.{unix_of, one_before, goes_on, IsKernel}
use Rattle.unix_core.proofs.BootKernelLemmas.{kernel_good}
use Rattle.unix_core.proofs.SlotWorlds.{with_slots, kernel_lines}
use Rattle.unix_core.proofs.SlotEnds.{woken_takes, woken_took, quiet_takes, quiet_took}
use Rattle.unix_core.proofs.TypedLemmas.{with_lines}
use Rattle.unix_core.proofs.machine.Machine.reach.Goals as goal

-- the board of the processes
abbrev board_by : Procs → Board
board_by p = board_of p.table p.images.kept

pub reach-requires : goal.reach-requires
reach-requires g c =
    let m = c.args.self.now in
    record {
      left = c.requires.left;
      good = kernel_good m.stage (one_before m.world) c.requires.started c.requires.kernel;
      counted = c.requires.kernel.counted (ap goes_on c.requires.started);
      fresh = c.requires.fresh;
    }

pub returns-then-reach-clause-takes : goal.returns-then-reach-clause-takes
returns-then-reach-clause-takes g c h still =
    woken_takes c.args.self.now.world c.requires.left (c.requires.kernel.counted (ap goes_on c.requires.started)) h still
    c.reach.new.world c.reach.ensures.ended.unix c.reach.ensures.ended.board
    (sym c.if-reach.true ∙ c.reach.ensures.ended.any) _ _ c.settle.ensures.kernel c.settle.ensures.started c.settle.ensures.system

pub returns-then-reach-clause-items : goal.returns-then-reach-clause-items
returns-then-reach-clause-items g c h still =
    woken_took c.args.self.now.world c.requires.left (c.requires.kernel.counted (ap goes_on c.requires.started)) h still
    c.reach.new.world c.reach.ensures.ended.unix c.reach.ensures.ended.board
    (sym c.if-reach.true ∙ c.reach.ensures.ended.any) _ _ _ c.reach.ensures.items c.settle.ensures.items

pub returns-then-reach-clause-tree : goal.returns-then-reach-clause-tree
returns-then-reach-clause-tree g c = ap (λ (f : Files). f.tree) c.settle.ensures.files ∙ c.reach.ensures.ended.tree

pub returns-then-reach-clause-frame : goal.returns-then-reach-clause-frame
returns-then-reach-clause-frame g c = g.met.T.Trace.goes_on _ _ _ c.reach.ensures.frame c.settle.ensures.frame

-- nobody is woken: bytes may have gone out
pub returns-clause-takes : goal.returns-clause-takes
returns-clause-takes g c h still =
    let m = c.args.self.now in
    let w : World = m.world in
    let v : World = c.reach.new.world in
    let same : v.procs ≡ w.procs = c.reach.ensures.ended.same c.if-reach.false in
    let there : v ≡ with_slots (with_lines w v.files.lines) v.slots =
    c.reach.ensures.ended.others ∙ ap (λ (p : Procs). record w { files = record w.files { lines = v.files.lines }; procs = p; slots = v.slots }) same in
    let kernel : IsKernel m.stage v =
    subst (IsKernel m.stage) (sym there)
    (kernel_lines (one_before w) v.files.lines v.slots m.stage c.reach.ensures.ended.counted.timed.within
    (λ goes. subst (λ (x : World). IsCounted v.slots (unix_of x)) there c.reach.ensures.ended.counted) c.requires.kernel) in
    quiet_takes w c.requires.left (c.requires.kernel.counted (ap goes_on c.requires.started)) h still v c.reach.ensures.ended.unix c.reach.ensures.ended.board
    (sym c.if-reach.false ∙ c.reach.ensures.ended.any) (ap board_by same) m.stage kernel c.requires.started

pub returns-clause-items : goal.returns-clause-items
returns-clause-items g c h still =
    quiet_took c.args.self.now.world c.requires.left (c.requires.kernel.counted (ap goes_on c.requires.started)) h still
    c.reach.new.world c.reach.ensures.ended.unix c.reach.ensures.ended.board
    (sym c.if-reach.false ∙ c.reach.ensures.ended.any) (ap board_by (c.reach.ensures.ended.same c.if-reach.false)) _ _ c.reach.ensures.items

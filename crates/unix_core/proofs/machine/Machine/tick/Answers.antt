use Rattle.std.proofs.Common.{◌≡◌, ◌∙◌, ◌≤◌, ◌∷◌, [], false, rules, refl, sym, ap, subst}
use Rattle.v6_base.specs.Trace.{Took, Log}
use Rattle.v6_base.specs.declared.entry.Entry.{Entry}
use Rattle.fs_nodes.specs.FileSystem.{SameAroundEach}
use Rattle.pick_rules.specs.Logged.{logged}
use Rattle.abstract_unix.specs.Outside.{tick_effects}
use Rattle.unix_core.specs.declared.world.World.{World}
use Rattle.abstract_unix.specs.Unix.{System}
use Rattle.unix_core.specs.declared.slots.Slots.{Slots}
use Rattle.unix_core.specs.Slots.{IsTimed}
use Rattle.unix_core.specs.Parts.{unix_of, board_in, system_at, goes_on, is_over}
use Rattle.unix_core.proofs.CountLemmas.{timed_same}
use Rattle.unix_core.proofs.TurnCounts.{charged_timed, delivered_timed}
use Rattle.unix_core.proofs.WaitLemmas.{taken_unix}
use Rattle.unix_core.proofs.BootKernelLemmas.{kernel_good}
use Rattle.unix_core.proofs.GoodLemmas.{runs_low}
use Rattle.unix_core.proofs.TableLemmas.{with_table}
use Rattle.unix_core.proofs.TickLemmas.{second_due}
use Rattle.unix_core.proofs.DeliveredLemmas.{second_trap, not_stopped, ticked_takes, ticked_items, ticked_goes, panic_takes, panic_items, panic_answer}
use Rattle.unix_core.proofs.TickedLemmas.{HasTicked, has_ticked}
use Rattle.unix_core.proofs.machine.Machine.tick.Goals as goal
use Rattle.unix_core.proofs.machine.Machine.tick.Given.{Over}
use Rattle.unix_core.proofs.machine.Machine.tick.Goals.{After-is_as_trap}

pub tick_ageing-second-requires : goal.tick_ageing-second-requires
tick_ageing-second-requires g c = c.charge.ensures.good.agree.table

pub mode-mode-requires : goal.mode-mode-requires
mode-mode-requires g c = kernel_good c.args.self.now.stage c.args.self.now.world c.requires.started c.requires.kernel

pub charge-requires : goal.charge-requires
charge-requires g c = kernel_good c.args.self.now.stage c.args.self.now.world c.requires.started c.requires.kernel

-- what the tick leaves before a signal is delivered
ticked : (g : Over) (c : After-is_as_trap g) → HasTicked c.args.self.now.world (with_table c.charge.new.self.world c.wake.new.table) c.is_as_trap.result
    c.mode-mode.result c.tick_ageing-second.new.self c.is_due.result
ticked g c =
    let w : World = c.args.self.now.world in
    let n = c.charge.new.self in
    let second = c.tick_ageing-second in
    has_ticked w c.mode-mode.result c.mode-mode.ensures n.world c.charge.ensures.good
    c.charge.ensures.unix c.charge.ensures.table c.charge.ensures.board second.new.self second.ensures.table second.ensures.good
    c.is_due.result (second_due n.world.procs.table second.result c.is_due.result second.ensures.told c.is_due.ensures.second c.is_due.ensures.within)
    c.wake.new.table c.wake.ensures.table c.wake.ensures.good (c.wake.ensures.board n.world.procs.images.kept)
    (λ s. runs_low w s (kernel_good c.args.self.now.stage w c.requires.started c.requires.kernel).agree)
    c.is_as_trap.result (second_trap c.mode-mode.result n.world.procs.table second.result c.is_as_trap.result second.ensures.told
    c.is_as_trap.ensures.second c.is_as_trap.ensures.within)

-- and what it has shown
shown : (g : Over) (c : After-is_as_trap g)
    → Took (g.T.Trace.taken c.args.trace.now) (logged (board_in c.args.self.now.world) (tick_effects (system_at c.args.self.now.world))).items (g.T.Trace.taken c.wake.new.trace)
shown g c =
    (ticked g c).first _ (g.T.Trace.taken c.entry.new.self) _
    (subst (λ (e : Entry). Took (g.T.Trace.taken c.args.trace.now) (Log e ∷ []) (g.T.Trace.taken c.entry.new.self)) c.tick_entry.ensures c.entry.ensures.took)
    (c.wake.ensures.items _)

pub deliver-requires : goal.deliver-requires
deliver-requires g c = let it = ticked g (goal.at.deliver-requires g c).After-is_as_trap in record { good = it.good; user = it.user }

pub settle_anew-requires-clause-timed : goal.settle_anew-requires-clause-timed
settle_anew-requires-clause-timed g c =
    let w : World = c.args.self.now.world in
    let n = c.charge.new.self in
    let then_ : World = with_table n.world c.wake.new.table in
    let on : is_over c.deliver.result ≡ false = search rules in
    let timed : IsTimed n.world.slots (unix_of n.world) =
    subst (λ (x : Slots). IsTimed x (unix_of n.world)) (sym c.charge.ensures.slots)
    (subst (IsTimed w.slots) (sym c.charge.ensures.unix)
    (charged_timed w.slots (unix_of w) c.mode-mode.result w.procs.table.running (c.requires.kernel.counted (ap goes_on c.requires.started)).timed)) in
    subst (λ (x : Slots). IsTimed x (unix_of c.deliver.new.self.world)) (sym c.deliver.ensures.slots)
    (subst (IsTimed n.world.slots) (sym (taken_unix _ _ c.deliver.result c.deliver.new.self.world c.deliver.ensures.come on))
    (delivered_timed n.world.slots c.is_as_trap.result (unix_of then_) c.wake.new.table.running (ticked g (goal.at.settle_anew-requires-clause-timed g c).After-is_as_trap).user
    (timed_same n.world.slots (unix_of n.world) (unix_of then_) refl refl timed)))

pub returns-in-Panic : goal.returns-in-Panic
returns-in-Panic g c =
    let at = (goal.at.returns-in-Panic g c).After-is_as_trap in
    let it = ticked g at in
    let last = c.deliver.new.self.world in
    let come = it.comes c.deliver.result last c.deliver.ensures.come in
    let m : System = system_at c.args.self.now.world in
    let kind = c.in-Panic.kind in
    record {
      answer = panic_answer m it.stop c.deliver.result last come kind c.in-Panic.is;
      takes = panic_takes m it.stop c.deliver.result last come kind c.in-Panic.is (c.deliver.ensures.covered (ap is_over c.in-Panic.is))
          (subst (λ (x : Slots). x.left ≤ x.due) (sym (c.deliver.ensures.slots ∙ c.charge.ensures.slots)) c.requires.kernel.within);
      rest = subst (λ b. SameAroundEach b last.files.tree.nodes.blocks) c.charge.ensures.blocks c.deliver.ensures.rest;
      items = panic_items m it.stop c.deliver.result last come kind c.in-Panic.is _ _ _ (shown g at) (it.shows _ _ c.deliver.ensures.items);
      frame = g.met.T.Trace.goes_on _ _ _ c.entry.ensures.frame (g.met.T.Trace.goes_on _ _ _ c.wake.ensures.frame c.deliver.ensures.frame);
    }

pub returns-in_default : goal.returns-in_default
returns-in_default g c =
    let at = (goal.at.returns-in_default g c).After-is_as_trap in
    let it = ticked g at in
    let last = c.deliver.new.self.world in
    let come = it.comes c.deliver.result last c.deliver.ensures.come in
    let m : System = system_at c.args.self.now.world in
    let on : is_over c.deliver.result ≡ false = search rules in
    let goes = not_stopped m it.stop c.deliver.result last come on in
    record {
      answer = ticked_goes m it.stop c.deliver.result last come goes;
      takes = ticked_takes m it.stop c.deliver.result last come goes _ _ c.settle_anew.ensures.kernel c.settle_anew.ensures.started c.settle_anew.ensures.system;
      rest = subst (λ b. SameAroundEach b c.settle_anew.new.self.world.files.tree.nodes.blocks) c.charge.ensures.blocks
          (subst (λ b. SameAroundEach c.charge.new.self.world.files.tree.nodes.blocks b) (sym c.settle_anew.ensures.blocks) c.deliver.ensures.rest);
      items = ticked_items m it.stop c.deliver.result last come goes _ _ _ _ (shown g at) (it.shows _ _ c.deliver.ensures.items) c.settle_anew.ensures.items;
      frame = g.met.T.Trace.goes_on _ _ _ c.entry.ensures.frame
          (g.met.T.Trace.goes_on _ _ _ c.wake.ensures.frame (g.met.T.Trace.goes_on _ _ _ c.deliver.ensures.frame c.settle_anew.ensures.frame));
    }

use Rattle.std.proofs.Common.{◌≡◌, ◌∙◌, ℕ, ◌||◌, Bool, false, List, Option, nat_lt, length, map, refl, sym, ap, subst, arith}
use Rattle.v6_base.specs.Trace.{Item, Took}
use Rattle.pick_rules.specs.Effects.{Show}
use Rattle.pick_rules.specs.Logged.{logged}
use Rattle.sys_procs.specs.declared.procs.Procs.{Procs}
use Rattle.sys_procs.specs.Process.{Process}
use Rattle.sys_procs.specs.World.{World}
use Rattle.sys_procs.specs.Signals.{is_reached, meant_in, signal_lines}
use Rattle.sys_procs.specs.Handed.{board, handed}
use Rattle.sys_procs.proofs.Slots.{fifty_processes}
use Rattle.sys_procs.proofs.Signalled.{kernel_is_none}
use Rattle.sys_procs.proofs.SentAll.{sent_below, meant_below, all_below, sent_first, sent_next, found_more, found_next}
use Rattle.sys_procs.proofs.SignalCalls.{none_meant}
use Rattle.sys_procs.proofs.signals.send_to_all.Goals as goal

pub loop-s-init : goal.loop-s-init
loop-s-init g c =
    let p : Procs = c.args.p.now in
    record {
      sent = λ who sender. sent_first (is_reached c.args.sender.slot who) c.args.sig p _
          (λ fs. fifty_processes p.rows.slots p.images.kept)
          (λ fs. kernel_is_none p fs c.in_use-kernel.ensures.table.kernel);
      found = λ fs who sender. refl;
      frame = g.met.T.Trace.stays _;
      agree = c.requires.agree;
    }

pub loop-s-preserved : goal.loop-s-preserved
loop-s-preserved g c = record {
  sent = λ who sender. sent_next (is_reached c.args.sender.slot who) c.args.sig (c.loop-s.invariant.sent who sender)
      (omega (arith, c.loop-s.auto)) (omega (arith, c.loop-s-test.true))
      (λ fs. c.reaches-means.ensures.meant fs who sender)
      c.send_where.ensures.state c.send_where.ensures.board c.send_where.ensures.items;
  found = λ fs who sender.
      let test : ℕ → Process → Bool = is_reached c.args.sender.slot who in
      let ps : List (Option Process) = (handed c.args.p.now fs).processes in
      ap (λ b. b || c.reaches-means.result) (c.loop-s.invariant.found fs who sender)
      ∙ (sym (found_next (meant_below test c.args.sig c.loop-s.s ps) c.loop-s.s c.reaches-means.result)
      ∙ ap (λ xs. nat_lt 0 (length xs)) (sym (found_more test c.args.sig (c.loop-s.invariant.sent who sender)
      (omega (arith, c.loop-s.auto)) (omega (arith, c.loop-s-test.true))
      (λ gs. c.reaches-means.ensures.meant gs who sender) fs)));
  frame = g.met.T.Trace.goes_on _ _ _ c.loop-s.invariant.frame c.send_where.ensures.frame;
  agree = c.send_where.ensures.agree;
}

pub returns-clause-found : goal.returns-clause-found
returns-clause-found g c = λ fs who sender.
    let w : World = handed c.args.p.now fs in
    let end : c.loop-s.s ≡ 50 = omega (arith, c.loop-s-test.false, c.loop-s.auto) in
    c.loop-s.invariant.found fs who sender
    ∙ ap (λ k. nat_lt 0 (length (meant_below (is_reached c.args.sender.slot who) c.args.sig k w.processes))) end

pub returns-clause-none : goal.returns-clause-none
returns-clause-none g c = λ fs who sender none.
    let p : Procs = c.args.p.now in
    let w : World = handed p fs in
    let test : ℕ → Process → Bool = is_reached c.args.sender.slot who in
    let end : c.loop-s.s ≡ 50 = omega (arith, c.loop-s-test.false, c.loop-s.auto) in
    let nobody : nat_lt 0 (length (meant_in test w.processes)) ≡ false =
    sym (ap (λ k. nat_lt 0 (length (meant_below test c.args.sig k w.processes))) end)
    ∙ (sym (c.loop-s.invariant.found fs who sender) ∙ none) in
    (c.loop-s.invariant.sent who sender).state fs
    ∙ ap (λ (ps : List (Option Process)). record w { processes = ps })
    (ap (λ k. sent_below test c.args.sig k w.processes) end
    ∙ (all_below test c.args.sig w.processes
    ∙ none_meant test c.args.sig w.processes (fifty_processes p.rows.slots p.images.kept)
    (kernel_is_none p fs c.in_use-kernel.ensures.table.kernel) nobody))

pub returns-clause-state : goal.returns-clause-state
returns-clause-state g c = λ fs who sender.
    let w : World = handed c.args.p.now fs in
    let test : ℕ → Process → Bool = is_reached c.args.sender.slot who in
    let end : c.loop-s.s ≡ 50 = omega (arith, c.loop-s-test.false, c.loop-s.auto) in
    (c.loop-s.invariant.sent who sender).state fs
    ∙ ap (λ (ps : List (Option Process)). record w { processes = ps })
    (ap (λ k. sent_below test c.args.sig k w.processes) end ∙ all_below test c.args.sig w.processes)

pub returns-clause-board : goal.returns-clause-board
returns-clause-board g c = λ fs who sender.
    let w : World = handed c.args.p.now fs in
    let test : ℕ → Process → Bool = is_reached c.args.sender.slot who in
    let end : c.loop-s.s ≡ 50 = omega (arith, c.loop-s-test.false, c.loop-s.auto) in
    (c.loop-s.invariant.sent who sender).shown fs
    ∙ ap (λ k. (logged {W = World} (board c.args.p.now)
    (map Show (signal_lines c.args.sig (meant_below test c.args.sig k w.processes)))).board) end

pub returns-clause-items : goal.returns-clause-items
returns-clause-items g c = λ fs who sender.
    let w : World = handed c.args.p.now fs in
    let test : ℕ → Process → Bool = is_reached c.args.sender.slot who in
    let end : c.loop-s.s ≡ 50 = omega (arith, c.loop-s-test.false, c.loop-s.auto) in
    let P : List Item → Type 0 = λ l. Took (g.T.Trace.taken c.args.trace.now) l (g.T.Trace.taken c.loop-s.trace) in
    subst P (ap (λ k. signal_lines c.args.sig (meant_below test c.args.sig k w.processes)) end)
    ((c.loop-s.invariant.sent who sender).items fs)

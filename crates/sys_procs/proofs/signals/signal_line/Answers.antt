use Rattle.std.proofs.Common.{◌≡◌, ◌∙◌, ℕ, Bool, cond, List, Option, map, refl, ap, subst, arith}
use Rattle.v6_base.specs.Trace.{Item, Took}
use Rattle.pick_rules.specs.Effects.{Show}
use Rattle.pick_rules.specs.Logged.{logged}
use Rattle.sys_procs.specs.declared.procs.Procs.{Procs}
use Rattle.sys_procs.specs.Process.{Process}
use Rattle.sys_procs.specs.World.{World, change}
use Rattle.sys_procs.specs.Signals as rule
use Rattle.sys_procs.specs.inside.Sender.{lines_where}
use Rattle.sys_procs.specs.Signals.{has_line, signal_lines}
use Rattle.sys_procs.specs.Handed.{board, handed}
use Rattle.sys_procs.proofs.Slots.{fifty_processes}
use Rattle.sys_procs.proofs.Signalled.{kernel_is_none}
use Rattle.sys_procs.proofs.SentAll.{sent_below, meant_below, all_below, sent_first, sent_next}
use Rattle.sys_procs.proofs.signals.signal_line.Goals as goal

pub loop-s-init : goal.loop-s-init
loop-s-init g c =
    let p : Procs = c.args.p.now in
    record {
      sent = sent_first (has_line c.args.line) c.args.sig p _ (λ fs. fifty_processes p.rows.slots p.images.kept)
          (λ fs. kernel_is_none p fs c.in_use-kernel.ensures.table.kernel);
      frame = g.met.T.Trace.stays _;
      images = refl;
      agree = c.requires.agree;
    }

pub loop-s-preserved : goal.loop-s-preserved
loop-s-preserved g c =
    let means : Bool = c.has_line-means.result in
    let s : ℕ = c.loop-s.s in
    let P : ℕ → Type 0 = λ n. Took (g.T.Trace.taken c.loop-s.trace) (lines_where means n s)
    (g.T.Trace.taken c.send_where.new.trace) in
    record {
      sent = sent_next (has_line c.args.line) c.args.sig c.loop-s.invariant.sent (omega (arith, c.loop-s.auto))
          (omega (arith, c.loop-s-test.true))
          c.has_line-means.ensures.meant {new = c.send_where.new.p}
          (λ fs. c.send_where.ensures.state fs
          ∙ ap (λ n. cond means (change (handed c.loop-s.p fs) s (rule.signalled n)) (handed c.loop-s.p fs)) c.from.ensures)
          (c.send_where.ensures.board
          ∙ ap (λ n. (logged {W = World} (board c.loop-s.p) (map Show (lines_where means n s))).board) c.from.ensures)
          (subst P c.from.ensures c.send_where.ensures.items);
      frame = g.met.T.Trace.goes_on _ _ _ c.loop-s.invariant.frame c.send_where.ensures.frame;
      images = c.send_where.ensures.images ∙ c.loop-s.invariant.images;
      agree = c.send_where.ensures.agree;
    }

pub returns-clause-state : goal.returns-clause-state
returns-clause-state g c = λ fs.
    let w : World = handed c.args.p.now fs in
    let end : c.loop-s.s ≡ 50 = omega (arith, c.loop-s-test.false, c.loop-s.auto) in
    c.loop-s.invariant.sent.state fs
    ∙ ap (λ (ps : List (Option Process)). record w { processes = ps })
    (ap (λ k. sent_below (has_line c.args.line) c.args.sig k w.processes) end ∙ all_below (has_line c.args.line) c.args.sig w.processes)

pub returns-clause-board : goal.returns-clause-board
returns-clause-board g c = λ fs.
    let w : World = handed c.args.p.now fs in
    let end : c.loop-s.s ≡ 50 = omega (arith, c.loop-s-test.false, c.loop-s.auto) in
    c.loop-s.invariant.sent.shown fs
    ∙ ap (λ k. (logged {W = World} (board c.args.p.now)
    (map Show (signal_lines c.args.sig (meant_below (has_line c.args.line) c.args.sig k w.processes)))).board) end

pub returns-clause-items : goal.returns-clause-items
returns-clause-items g c = λ fs.
    let w : World = handed c.args.p.now fs in
    let end : c.loop-s.s ≡ 50 = omega (arith, c.loop-s-test.false, c.loop-s.auto) in
    let P : List Item → Type 0 = λ l. Took (g.T.Trace.taken c.args.trace.now) l (g.T.Trace.taken c.loop-s.trace) in
    subst P (ap (λ k. signal_lines c.args.sig (meant_below (has_line c.args.line) c.args.sig k w.processes)) end)
    (c.loop-s.invariant.sent.items fs)

use Rattle.std.proofs.Common.{◌≡◌, ◌∙◌, ℕ, false, true, List, Option, Some, get_or, slice_index, Result, Ok, refl, sym, ap, arith}
use Rattle.std.proofs.lemmas.List.{set-set}
use Rattle.v6_base.specs.declared.answer.Answer.{Answer}
use Rattle.v6_base.specs.declared.answer.Answer.TheVariants.{Ret, Fail}
use Rattle.v6_base.specs.declared.entry.PanicKind.{PanicKind}
use Rattle.v6_base.specs.declared.errno.Errno.TheVariants.{EINVAL}
use Rattle.u_area.specs.declared.area.UArea.{UArea}
use Rattle.u_area.specs.Fields.{with_handler}
use Rattle.fs_nodes.specs.FileSystem.{FileSystem}
use Rattle.sys_procs.specs.declared.procs.Procs.{Procs}
use Rattle.sys_procs.specs.Process.{Process}
use Rattle.sys_procs.specs.World.{World, with_process}
use Rattle.sys_procs.specs.Signals.{forgetting}
use Rattle.sys_procs.specs.Handed.{handed, process_here}
use Rattle.sys_procs.proofs.Alive.{calls_alive}
use Rattle.sys_procs.proofs.Dones.{done_none}
use Rattle.sys_procs.proofs.SignalCalls.{may_ask, asks_none, asks_kill, asks_high, asks_one, set_refused, set_asked, set_answer}
use Rattle.sys_procs.proofs.signals.signal_set.Goals as goal
use Rattle.sys_procs.proofs.signals.signal_set.Goals.{then-sig-eq0-via-then-sig-eq0, then-sig-eq0-via-else-sig-eq0+then-sig-from, then-sig-eq0-via-else-sig-eq0+else-sig-from+then-sig-from-2}

pub returns-then-sig-eq0-clause-does : goal.returns-then-sig-eq0-clause-does
returns-then-sig-eq0-clause-does g c =
    let n : ℕ = slice_index c.args.args 0 in
    let refused : may_ask n ≡ false = elim c.then-sig-eq0.branch [
      | then-sig-eq0-via-then-sig-eq0 w ↦ asks_none n w.if-sig-eq0.true
      | then-sig-eq0-via-else-sig-eq0+then-sig-from w ↦ asks_high n (omega (arith, w.from.ensures, w.if-sig-from.true))
      | then-sig-eq0-via-else-sig-eq0+else-sig-from+then-sig-from-2 w ↦ asks_kill n
          (w.if-sig-from-2.true ∙ w.from-else-sig-from.ensures)
    ] in
    done_none (handed c.args.p.now c.args.tree.now.nodes) (Fail EINVAL)
    (set_refused (handed c.args.p.now c.args.tree.now.nodes) c.args.s n (slice_index c.args.args 1) refused) refl refl refl

pub returns-clause-does : goal.returns-clause-does
returns-clause-does g c =
    let p : Procs = c.args.p.now in
    let fs : FileSystem = c.args.tree.now.nodes in
    let w : World = handed p fs in
    let n : ℕ = slice_index c.args.args 0 in
    let handler : ℕ = slice_index c.args.args 1 in
    let own : Process = process_here p c.args.s in
    let q : Process = record own { u = with_handler own.u n handler } in
    let done : Answer → Result Answer PanicKind = λ a. Ok a in
    let asked : may_ask n ≡ true =
    asks_one n c.if-sig-eq0.false (omega (arith, c.from.ensures, c.if-sig-from.false))
    (λ e. c.if-sig-from-2.false (e ∙ sym c.from-else-sig-from.ensures)) in
    let was : c.handler-r0.result ≡ get_or own.u.handlers c.from-number.result 0 =
    c.handler-r0.ensures ∙ ap (λ (u : UArea). get_or u.handlers c.from-number.result 0) c.area_bytes-area.ensures.read in
    let second : c.register-r1.result ≡ get_or own.u.r 1 0 = c.register-r1.ensures ∙ ap (λ (u : UArea). get_or u.r 1 0) c.area_bytes-area.ensures.read in
    done_none _ _ (set_asked w c.args.s n handler asked)
    (ap done ((λ i. Ret (was i) (second i)) ∙ set_answer p fs c.args.s n handler c.from-number.result own.u
    (calls_alive p fs c.args.s c.requires) refl c.from-number.ensures))
    (c.forget.ensures.state fs
    ∙ (ap (λ (x : Process). with_process (handed c.put_handler.new.self fs) c.args.s (forgetting n x)) (c.put_handler.ensures.here ∙ same c.from-number.result own c.from-number.ensures)
    ∙ (ap (λ (v : World). with_process v c.args.s (forgetting n q)) (c.put_handler.ensures.state fs
    ∙ ap (with_process w c.args.s) (same c.from-number.result own c.from-number.ensures))
    ∙ ap (λ (ps : List (Option Process)). record w { processes = ps })
    (set-set w.processes c.args.s (Some q) (Some (forgetting n q))))))
    (c.forget.ensures.board ∙ c.put_handler.ensures.board)
  where
    same : (number : ℕ) (own : Process) → number ≡ slice_index c.args.args 0
        → ◌≡◌ {A = Process} (record own { u = with_handler own.u number (slice_index c.args.args 1) }) (record own { u = with_handler own.u (slice_index c.args.args 0) (slice_index c.args.args 1) })
    same number own e = ap (λ n. record own { u = with_handler own.u n (slice_index c.args.args 1) }) e

use Rattle.std.proofs.Common.{◌≡◌, ◌∙◌, ℕ, [], List, map, get_or, slice_index, Result, Ok, refl, sym, ap, subst}
use Rattle.v6_base.specs.Trace.{Item, Took}
use Rattle.v6_base.specs.declared.answer.Answer.{Answer}
use Rattle.v6_base.specs.declared.answer.Answer.TheVariants.{Ret}
use Rattle.v6_base.specs.declared.entry.PanicKind.{PanicKind}
use Rattle.u_area.specs.declared.area.UArea.{UArea}
use Rattle.proc_tab.specs.declared.row.Row.{Row}
use Rattle.pick_rules.specs.Effects.{Show}
use Rattle.pick_rules.specs.Logged.{Logged, logged}
use Rattle.fs_nodes.specs.FileSystem.{FileSystem}
use Rattle.sys_procs.specs.declared.procs.Procs.{Procs}
use Rattle.sys_procs.specs.Process.{Process}
use Rattle.sys_procs.specs.World.{World}
use Rattle.sys_procs.specs.Signals.{is_reached, signal_lines}
use Rattle.sys_procs.specs.inside.Sender.{IsSender}
use Rattle.sys_procs.specs.Handed.{board, handed, process_here}
use Rattle.sys_procs.proofs.Alive.{calls_alive}
use Rattle.sys_procs.proofs.Dones.{done_as, done_logged}
use Rattle.sys_procs.proofs.SentAll.{logged_shown}
use Rattle.sys_procs.proofs.SignalCalls.{reached, kill_none, kill_some, kill_shown, kill_answer, no_lines_shown}
use Rattle.sys_procs.proofs.signals.kill_to.Goals as goal

-- Who calls is who sends.
sender_is : (own : Process) (s r0 uid : ℕ) (row : Row) → r0 ≡ get_or own.u.r 0 0 → uid ≡ own.u.uid → row ≡ own.row
    → IsSender (record { slot = s; pid = r0; tty = row.tty; uid = uid }) own
sender_is own s r0 uid row first user is = record {
  pid = first;
  tty = ap (λ (r : Row). r.tty) is;
  uid = user;
}

pub returns-then-send_to_all-clause-does : goal.returns-then-send_to_all-clause-does
returns-then-send_to_all-clause-does g c =
    let p : Procs = c.args.p.now in
    let fs : FileSystem = c.args.tree.now.nodes in
    let w : World = handed p fs in
    let n : ℕ = slice_index c.args.args 0 in
    let own : Process = process_here p c.args.s in
    let xs : List Item = signal_lines n (reached w c.args.s) in
    let first : c.register-r0.result ≡ get_or own.u.r 0 0 = c.register-r0.ensures ∙ ap (λ (u : UArea). get_or u.r 0 0) c.area_bytes-area.ensures.read in
    let uid : get_or c.ids.result 0 0 ≡ own.u.uid = ap (λ (l : List ℕ). get_or l 0 0) c.ids.ensures ∙ ap (λ (u : UArea). u.uid) c.area_bytes-area.ensures.read in
    let sender = sender_is own c.args.s c.register-r0.result (get_or c.ids.result 0 0) c.row.result first uid c.row.ensures in
    let second : c.register-r1.result ≡ get_or own.u.r 1 0 = c.register-r1.ensures ∙ ap (λ (u : UArea). get_or u.r 1 0) c.area_bytes-area.ensures.read in
    let done : Answer → Result Answer PanicKind = λ a. Ok a in
    let alive = calls_alive p fs c.args.s c.requires in
    done_as (sym (kill_some w c.args.s n (sym (c.send_to_all.ensures.found fs own sender) ∙ c.if-send_to_all.true)))
    (done_logged (kill_shown (board p) xs)
    (ap done ((λ i. Ret (first i) (second i)) ∙ kill_answer w c.args.s n (is_reached c.args.s own) own.u alive.below refl))
    (c.send_to_all.ensures.state fs own sender)
    (c.send_to_all.ensures.board fs own sender ∙ ap (λ (l : Logged World). l.board) (logged_shown (board p) xs))
    (c.send_to_all.ensures.items fs own sender))

pub returns-else-send_to_all-clause-does : goal.returns-else-send_to_all-clause-does
returns-else-send_to_all-clause-does g c =
    let p : Procs = c.args.p.now in
    let fs : FileSystem = c.args.tree.now.nodes in
    let w : World = handed p fs in
    let n : ℕ = slice_index c.args.args 0 in
    let own : Process = process_here p c.args.s in
    let first : c.register-r0.result ≡ get_or own.u.r 0 0 = c.register-r0.ensures ∙ ap (λ (u : UArea). get_or u.r 0 0) c.area_bytes-area.ensures.read in
    let uid : get_or c.ids.result 0 0 ≡ own.u.uid = ap (λ (l : List ℕ). get_or l 0 0) c.ids.ensures ∙ ap (λ (u : UArea). u.uid) c.area_bytes-area.ensures.read in
    let sender = sender_is own c.args.s c.register-r0.result (get_or c.ids.result 0 0) c.row.result first uid c.row.ensures in
    let none = sym (c.send_to_all.ensures.found fs own sender) ∙ c.if-send_to_all.false in
    let empty : signal_lines n (reached w c.args.s) ≡ [] = no_lines_shown n (reached w c.args.s) none in
    let P : List Item → Type 0 = λ l. Took (g.T.Trace.taken c.args.trace.now) l (g.T.Trace.taken c.send_to_all.new.trace) in
    done_as (kill_none w c.args.s n none) (record {
      answer = refl;
      state = c.send_to_all.ensures.none fs own sender c.if-send_to_all.false;
      shown = c.send_to_all.ensures.board fs own sender
          ∙ ap (λ (l : List Item). (logged {W = World} (board p) (map Show l)).board) empty;
      items = subst P empty (c.send_to_all.ensures.items fs own sender);
    })

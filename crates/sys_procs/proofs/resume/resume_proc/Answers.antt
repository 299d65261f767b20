use Rattle.std.proofs.Common.{◌≡◌, ◌∙◌, ◌+◌, ◌*◌, ℕ, Bool, List, [], get_or, refl, ap, subst, sym}
use Rattle.v6_base.specs.Trace.{Took}
use Rattle.v6_base.proofs.Took.{took_none}
use Rattle.v6_base.specs.declared.answer.Answer.TheVariants.{Fail}
use Rattle.v6_base.specs.declared.errno.Errno.TheVariants.{EINTR}
use Rattle.pick_rules.specs.Board.{Board}
use Rattle.pick_rules.specs.Logged.{Logged, logged, left_by}
use Rattle.u_area.specs.Area.{fetched}
use Rattle.fs_nodes.specs.FileSystem.{FileSystem}
use Rattle.sys_procs.specs.World.{World, change}
use Rattle.sys_procs.specs.Comes.{Comes}
use Rattle.sys_procs.specs.Agree.{answered}
use Rattle.sys_procs.specs.Handed.{board, handed}
use Rattle.sys_procs.specs.Times.{sleep_until}
use Rattle.sys_procs.specs.Wait.{wait_child}
use Rattle.sys_procs.specs.Resume.{awake, resume_proc}
use Rattle.sys_procs.proofs.Alive.{calls_alive}
use Rattle.sys_procs.proofs.Dones.{done_none, done_as}
use Rattle.sys_procs.proofs.Shown.{Says, its_call}
use Rattle.sys_procs.proofs.TimesLemmas.{is_due, sleep_shows_none}
use Rattle.sys_procs.proofs.ResumeLemmas.{resume_broken_off, resume_sleep, resume_wait}
use Rattle.sys_procs.proofs.resume.resume_proc.Given as given
use Rattle.sys_procs.proofs.resume.resume_proc.Goals as goal

pub is_due-requires : goal.is_due-requires
is_due-requires g c = calls_alive c.wake_up.new.p c.args.tree.now.nodes c.args.s
    (c.wake_up.ensures.calls c.args.tree.now.nodes c.requires)

-- whether a signal is due to the process that is awake
heard : (w v : World) (s : ℕ) (b : Bool) → v ≡ w → b ≡ is_due v s → is_due w s ≡ b
heard w v s b is due = sym (ap (λ x. is_due x s) is) ∙ sym due

pub returns-then-is_due-clause-does : goal.returns-then-is_due-clause-does
returns-then-is_due-clause-does g c =
    let w : World = handed c.args.p.now c.args.tree.now.nodes in
    done_none (change w c.args.s awake) (Fail EINTR)
    (sym (resume_broken_off w c.args.s
    (heard _ (handed c.wake_up.new.p c.args.tree.now.nodes) c.args.s c.is_due.result
    (c.wake_up.ensures.state c.args.tree.now.nodes) c.is_due.ensures
    ∙ c.if-is_due.true))) refl
    (c.wake_up.ensures.state c.args.tree.now.nodes) c.wake_up.ensures.board

pub returns-then-is_due-clause-agree : goal.returns-then-is_due-clause-agree
returns-then-is_due-clause-agree g c = (c.wake_up.ensures.calls c.args.tree.now.nodes c.requires).agree

pub sleep_until-requires : goal.sleep_until-requires
sleep_until-requires g c = calls_alive c.wake_up.new.p c.args.tree.now.nodes c.args.s (c.wake_up.ensures.calls c.args.tree.now.nodes c.requires)

-- A sleep goes on.
abbrev until : (g : given.Over) → goal.After-sleep_until g → ℕ
until g c = 65536 * c.from.result + c.from-then-pending-eq-SLEEP_CALL.result

says : (g : given.Over) (c : goal.After-sleep_until g)
    → let fs : FileSystem = c.args.tree.now.nodes in
    Says c.args.p.now (resume_proc (handed c.args.p.now fs) c.args.s) [] (board c.args.p.now)
    (sleep_until (handed c.wake_up.new.p fs) c.args.s (until g c)).state c.sleep_until.result
says g c =
    let fs : FileSystem = c.args.tree.now.nodes in
    let w : World = handed c.args.p.now fs in
    let at : ℕ → ℕ → ℕ = λ a b. 65536 * a + b in
    let is : resume_proc w c.args.s ≡ sleep_until (handed c.wake_up.new.p fs) c.args.s (until g c) =
    resume_sleep w c.args.s (fetched c.area_bytes-area.result.now) c.area_bytes-area.ensures.read
    (heard _ (handed c.wake_up.new.p c.args.tree.now.nodes) c.args.s c.is_due.result
    (c.wake_up.ensures.state c.args.tree.now.nodes) c.is_due.ensures
    ∙ c.if-is_due.false) (sym c.pending_call-pending.ensures ∙ c.if-pending-eq-SLEEP_CALL.true)
    ∙ (ap (λ n. sleep_until (change w c.args.s awake) c.args.s n)
    (ap (λ (l : List ℕ). at (get_or l 4 0) (get_or l 5 0)) (sym c.call_words-call.ensures)
    ∙ (ap (λ n. at n (get_or c.call_words-call.result 5 0)) (sym c.from.ensures) ∙ ap (at c.from.result) (sym c.from-then-pending-eq-SLEEP_CALL.ensures)))
    ∙ ap (λ (v : World). sleep_until v c.args.s (until g c)) (sym (c.wake_up.ensures.state fs))) in
    record {
      shown = ap (λ (d : Comes). logged (board c.args.p.now) d.effects) is
          ∙ ap (logged (board c.args.p.now)) (sleep_shows_none (handed c.wake_up.new.p fs) c.args.s (until g c));
      state = ap (λ (d : Comes). d.state) is;
      answer = ap (λ (d : Comes). d.answer) is ∙ sym (c.sleep_until.ensures.answer fs);
    }

pub returns-then-pending-eq-SLEEP_CALL-clause-does : goal.returns-then-pending-eq-SLEEP_CALL-clause-does
returns-then-pending-eq-SLEEP_CALL-clause-does g c =
    its_call (says g c) (c.sleep_until.ensures.state c.args.tree.now.nodes) (c.sleep_until.ensures.board ∙ c.wake_up.ensures.board) (took_none _)

-- A wait goes on.
pub wait_child-requires : goal.wait_child-requires
wait_child-requires g c = c.wake_up.ensures.calls c.args.tree.now.nodes c.requires

is : (g : given.Over) (c : goal.After-wait_child g)
    → wait_child (handed c.wake_up.new.p c.args.tree.now.nodes) c.args.s ≡ resume_proc (handed c.args.p.now c.args.tree.now.nodes) c.args.s
is g c =
    ap (λ (w : World). wait_child w c.args.s) (c.wake_up.ensures.state c.args.tree.now.nodes)
    ∙ sym (resume_wait (handed c.args.p.now c.args.tree.now.nodes) c.args.s (fetched c.area_bytes-area.result.now) c.area_bytes-area.ensures.read
    (heard _ (handed c.wake_up.new.p c.args.tree.now.nodes) c.args.s c.is_due.result
    (c.wake_up.ensures.state c.args.tree.now.nodes) c.is_due.ensures
    ∙ c.if-is_due.false) (λ e. c.if-pending-eq-SLEEP_CALL.false (c.pending_call-pending.ensures ∙ e)))

-- what is done from where the process is awake is done from before
pub returns-clause-does : goal.returns-clause-does
returns-clause-does g c =
    let row : Comes = wait_child (handed c.wake_up.new.p c.args.tree.now.nodes) c.args.s in
    let log : logged (board c.wake_up.new.p) row.effects ≡ logged (board c.args.p.now) row.effects =
    ap (λ (b : Board). logged b row.effects) c.wake_up.ensures.board in
    let does = c.wait_child.ensures.does in
    done_as (is g c) (record {
      answer = does.answer ∙ ap (λ (l : Logged World). answered l.stop row.answer) log;
      state = does.state ∙ ap (λ (l : Logged World). left_by l.stop row.state) log;
      shown = does.shown ∙ ap (λ (l : Logged World). l.board) log;
      items = subst (λ (l : Logged World). Took (g.T.Trace.taken c.args.trace.now) l.items (g.T.Trace.taken c.wait_child.new.trace)) log does.items;
    })

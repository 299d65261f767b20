use Rattle.std.proofs.Common.{◌≡◌, ◌∙◌, ◌*◌, ◌%◌, get_or, Result, Ok, refl, ap}
use Rattle.v6_base.specs.declared.answer.Answer.{Answer}
use Rattle.v6_base.specs.declared.answer.Answer.TheVariants.{Ret}
use Rattle.v6_base.specs.declared.entry.PanicKind.{PanicKind}
use Rattle.sys_procs.specs.declared.procs.Procs.{Procs}
use Rattle.fs_nodes.specs.FileSystem.{FileSystem}
use Rattle.sys_procs.proofs.Alive.{calls_alive}
use Rattle.sys_procs.proofs.Dones.{ended_as, done_on, done_stopped}
use Rattle.sys_procs.proofs.Ends.{exit_row, exit_answer}
use Rattle.sys_procs.specs.Exit as exit
use Rattle.sys_procs.specs.Handed.{handed, process_here}
use Rattle.u_area.specs.declared.area.UArea.{UArea}
use Rattle.sys_procs.proofs.exit.exit_now.Goals as goal

-- The row of the call is that of an end, which is done or stops.
pub returns-in-Ok-clause-does : goal.returns-in-Ok-clause-does
returns-in-Ok-clause-does g c =
    let p : Procs = c.args.p.now in
    let fs : FileSystem = c.args.tree.now.nodes in
    let own : UArea = (process_here p c.args.s).u in
    let done : Answer → Result Answer PanicKind = λ a. Ok a in
    let first : c.register-r0.result ≡ get_or own.r 0 0 = c.register-r0.ensures ∙ ap (λ (u : UArea). get_or u.r 0 0) c.area_bytes-area.ensures.read in
    let second : c.register-r1.result ≡ get_or own.r 1 0 = c.register-r1.ensures ∙ ap (λ (u : UArea). get_or u.r 1 0) c.area_bytes-area.ensures.read in
    done_on tt c.in-Ok.is
    (ap done ((λ i. Ret (first i) (second i)) ∙ exit_answer p fs c.args.s own (calls_alive p fs c.args.s c.requires.calls) refl))
    (ended_as (ap (λ n. exit.end_proc (handed p fs) c.args.s (256 * (n % 256))) first ∙ exit_row p fs c.args.s own refl) c.end_proc.ensures.does)

pub returns-in-Err-clause-does : goal.returns-in-Err-clause-does
returns-in-Err-clause-does g c =
    let p : Procs = c.args.p.now in
    let fs : FileSystem = c.args.tree.now.nodes in
    let own : UArea = (process_here p c.args.s).u in
    let first : c.register-r0.result ≡ get_or own.r 0 0 = c.register-r0.ensures ∙ ap (λ (u : UArea). get_or u.r 0 0) c.area_bytes-area.ensures.read in
    done_stopped c.in-Err.kind c.in-Err.is
    (ended_as (ap (λ n. exit.end_proc (handed p fs) c.args.s (256 * (n % 256))) first ∙ exit_row p fs c.args.s own refl) c.end_proc.ensures.does)

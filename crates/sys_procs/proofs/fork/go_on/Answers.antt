use Rattle.std.proofs.Common.{◌≡◌, ◌∙◌, ◌<◌, ℕ, List, Option, Some, get_or, slice_index, ap, sym, subst}
use Rattle.std.proofs.lemmas.List.{set-set}
use Rattle.v6_base.specs.declared.answer.Answer.TheVariants.{Ret}
use Rattle.u_area.specs.declared.area.UArea.{UArea}
use Rattle.u_area.specs.Fields.{with_register, with_no_times}
use Rattle.fs_tree.specs.Finding.{Inodes, with_reference, inodes_of}
use Rattle.proc_tab.specs.declared.row.Row.{Row}
use Rattle.sys_procs.specs.Process.{Process}
use Rattle.sys_procs.specs.World.{World, with_process, change}
use Rattle.sys_procs.specs.Fork.{past_word}
use Rattle.sys_procs.specs.Handed.{handed, process_here}
use Rattle.sys_procs.proofs.Forks.{begun_by, still_alive}
use Rattle.sys_procs.proofs.fork.go_on.Goals as goal

pub pass_word-requires : goal.pass_word-requires
pass_word-requires c =
    let first = still_alive c.args.p.now c.put_register.new.self c.args.s c.args.child _ c.requires.parent c.requires.apart
    c.put_register.ensures.images c.put_register.ensures.alive.agree in
    still_alive c.put_register.new.self c.clear_times.new.self c.args.s c.args.child _ first c.requires.apart
    c.clear_times.ensures.images c.clear_times.ensures.alive.agree

-- the directory of both
pub refer_again-requires-clause-referenced : goal.refer_again-requires-clause-referenced
refer_again-requires-clause-referenced c =
    let dir : c.directory-dir.result ≡ (process_here c.args.p.now c.args.s).u.dir = c.directory-dir.ensures ∙ ap (λ (u : UArea). u.dir) c.area_bytes-area.ensures.read in
    subst (λ d. 0 < slice_index c.args.tree.now.nodes.references d) (sym dir) c.requires.referenced

pub returns-clause-answer : goal.returns-clause-answer
returns-clause-answer c =
    let second : c.register-r1.result ≡ get_or (process_here c.args.p.now c.args.s).u.r 1 0 =
    c.register-r1.ensures ∙ ap (λ (u : UArea). get_or u.r 1 0) c.area_bytes-area.ensures.read in
    λ i. Ret (c.row-r0.ensures i).pid (second i)

pub returns-clause-state : goal.returns-clause-state
returns-clause-state c =
    let w : World = handed c.args.p.now c.args.tree.now.nodes in
    let now : World = handed c.args.p.now c.refer_again.new.nodes in
    let child : Process = process_here c.args.p.now c.args.child in
    let pid : ℕ = (process_here c.args.p.now c.args.s).row.pid in
    let given : ℕ = c.row-parent.result.pid in
    let mid : Process = record child { u = with_register child.u 0 given } in
    let begins : Process = record child { u = with_no_times (with_register child.u 0 given) } in
    let dir : c.directory-dir.result ≡ (process_here c.args.p.now c.args.s).u.dir = c.directory-dir.ensures ∙ ap (λ (u : UArea). u.dir) c.area_bytes-area.ensures.read in
    let first : handed c.clear_times.new.self c.refer_again.new.nodes ≡ change now c.args.child (begun_by pid) =
    c.clear_times.ensures.state c.refer_again.new.nodes
    ∙ (ap (λ (q : Process). with_process (handed c.put_register.new.self c.refer_again.new.nodes) c.args.child (record q { u = with_no_times q.u })) c.put_register.ensures.here
    ∙ (ap (λ (v : World). with_process v c.args.child begins) (c.put_register.ensures.state c.refer_again.new.nodes)
    ∙ (ap (λ (ps : List (Option Process)). record now { processes = ps }) (set-set now.processes c.args.child (Some mid) (Some begins))
    ∙ ap (λ (r : Row). with_process now c.args.child (begun_by r.pid child)) c.row-parent.ensures))) in
    c.pass_word.ensures.state c.refer_again.new.nodes
    ∙ (ap (λ (v : World). change v c.args.s past_word) first
    ∙ ap (λ (n : Inodes). change (change (record w { inodes = n }) c.args.child (begun_by pid)) c.args.s past_word)
    (c.refer_again.ensures.inodes ∙ ap (with_reference (inodes_of c.args.tree.now.nodes)) dir))

pub returns-clause-board : goal.returns-clause-board
returns-clause-board c = c.pass_word.ensures.board ∙ (c.clear_times.ensures.board ∙ c.put_register.ensures.board)

pub returns-clause-agree : goal.returns-clause-agree
returns-clause-agree c = c.pass_word.ensures.alive.agree

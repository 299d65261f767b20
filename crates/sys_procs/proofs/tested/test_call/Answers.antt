use Rattle.std.proofs.Common.{◌≡◌, ◌∙◌, Ok, sym, ap}
use Rattle.v6_base.specs.Image.{Image}
use Rattle.u_area.specs.declared.area.UArea.{UArea}
use Rattle.fs_codec.specs.Store.{Node}
use Rattle.fs_tree.specs.declared.user.User.{User}
use Rattle.fs_tree.specs.declared.user.Want.TheVariants.{Execute}
use Rattle.fs_tree.specs.Permission.{permission}
use Rattle.sys_procs.specs.Process.{Process}
use Rattle.sys_procs.specs.Stack.{arguments}
use Rattle.sys_procs.specs.Tests.{user_of, node_in}
use Rattle.sys_procs.specs.Handed.{process_here}
use Rattle.sys_procs.proofs.MemoryLemmas.{image_here}
use Rattle.sys_procs.proofs.TestsLemmas.{both_hold}
use Rattle.sys_procs.proofs.tested.test_call.Goals as goal

pub returns-clause-answer : goal.returns-clause-answer
returns-clause-answer c =
    let p = c.args.p.now in
    let q : Process = process_here p c.args.s in
    let node : Node = node_in c.args.tree.now.nodes.store c.args.ino in
    let who : c.user_of.result ≡ user_of q =
    c.user_of.ensures ∙ ap (λ (u : UArea). record { uid = u.uid; gid = u.gid }) c.area-u.ensures in
    let may : permission node (user_of q) Execute ≡ Ok tt =
    ap (λ (u : User). permission node u Execute) (sym who) ∙ (sym c.may_execute.ensures ∙ c.in_ok-may_execute.was) in
    c.read_arguments.ensures.arguments
    ∙ (ap (λ (m : Image). arguments m c.args.list)
    (sym (image_here p c.args.s c.requires.alive c.see_kept.ensures))
    ∙ both_hold (permission node (user_of q) Execute) _ _ may (sym c.is_plain.ensures ∙ c.if-not-is_plain.false))

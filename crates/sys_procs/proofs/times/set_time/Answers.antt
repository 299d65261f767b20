use Rattle.std.proofs.Common.{◌∙◌, ◌≡◌, ◌≢◌, ◌+◌, ◌*◌, ◌%◌, ◌^◌, ℕ, [], ◌∷◌, List, get_or, ap, sym, refl, subst}
use Rattle.v6_base.specs.Trace.{Log}
use Rattle.v6_base.specs.declared.entry.Chan.TheVariants.{Tout}
use Rattle.v6_base.specs.declared.entry.Entry.TheVariants.{Time, Wake}
use Rattle.v6_base.specs.declared.answer.Answer.TheVariants.{Ret, Fail}
use Rattle.v6_base.specs.declared.errno.Errno.TheVariants.{EPERM}
use Rattle.u_area.specs.declared.area.UArea.{UArea}
use Rattle.pick_rules.specs.Apply.{applied}
use Rattle.sys_procs.specs.World.{World, process_of}
use Rattle.sys_procs.specs.Comes.{comes, returns, logs}
use Rattle.sys_procs.specs.Handed.{board, handed}
use Rattle.sys_procs.specs.Times.{with_time, set_time}
use Rattle.sys_procs.proofs.Shown.{Says, says_lines, its_call}
use Rattle.sys_procs.proofs.TimesLemmas.{time_set, time_refused}
use Rattle.sys_procs.proofs.Dones.{done_none}
use Rattle.sys_procs.proofs.times.set_time.Goals as goal

-- another user calls
pub returns-then-uid-ne0-clause-does : goal.returns-then-uid-ne0-clause-does
returns-then-uid-ne0-clause-does g c =
    let w : World = handed c.args.p.now c.args.tree.now.nodes in
    let own : UArea = (process_of w c.args.s).u in
    let is : get_or c.ids.result 0 0 ≡ own.uid = ap (λ (l : List ℕ). get_or l 0 0) c.ids.ensures ∙ ap (λ (u : UArea). u.uid) c.area_bytes-area.ensures.read in
    done_none w (Fail EPERM) (time_refused w c.args.s own refl (subst (λ n. n ≢ 0) is c.if-uid-ne0.true)) refl refl refl

-- the time as the two registers give it
pub returns-clause-does : goal.returns-clause-does
returns-clause-does g c =
    let w : World = handed c.args.p.now c.args.tree.now.nodes in
    let own : UArea = (process_of w c.args.s).u in
    let is : get_or c.ids.result 0 0 ≡ own.uid = ap (λ (l : List ℕ). get_or l 0 0) c.ids.ensures ∙ ap (λ (u : UArea). u.uid) c.area_bytes-area.ensures.read in
    let first : c.register-r0.result ≡ get_or own.r 0 0 = c.register-r0.ensures ∙ ap (λ (u : UArea). get_or u.r 0 0) c.area_bytes-area.ensures.read in
    let second : c.register-r1.result ≡ get_or own.r 1 0 = c.register-r1.ensures ∙ ap (λ (u : UArea). get_or u.r 1 0) c.area_bytes-area.ensures.read in
    let told : ℕ = c.time_in.result in
    let same : told ≡ (65536 * get_or own.r 0 0 + get_or own.r 1 0) % 2 ^ 32 = c.time_in.ensures ∙ (λ i. (65536 * first i + second i) % 2 ^ 32) in
    let says : Says c.args.p.now (set_time w c.args.s) (Log (Time told) ∷ Log (Wake Tout) ∷ []) (applied (applied (board c.args.p.now) (Time told)) (Wake Tout))
    (with_time w told) (Ret c.register-r0.result c.register-r1.result) =
    says_lines c.args.p.now (set_time w c.args.s) (Time told) (Wake Tout) (with_time w told) _
    (time_set w c.args.s own refl (sym is ∙ c.if-uid-ne0.false)
    ∙ (ap (λ n. logs (Time n) (logs (Wake Tout) (returns (with_time w n) c.args.s))) (sym same)
    ∙ sym (λ i. logs (Time told) (logs (Wake Tout) (comes (with_time w told) (Ret (first i) (second i))))))) in
    its_call says (c.put_time.ensures.state c.args.tree.now.nodes) c.put_time.ensures.board c.put_time.ensures.items

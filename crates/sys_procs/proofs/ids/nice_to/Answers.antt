use Rattle.std.proofs.Common.{rules, ◌≡◌, ◌≢◌, ◌∙◌, ◌<◌, ◌≤◌, [], ◌∷◌, pos, ℕ, List, get_or, ap, refl, subst, sym, w8, to_z, of_z, FitsSigned}
use Rattle.std.specs.Int.{int_min}
use Rattle.std.proofs.lemmas.Int.{to_z-of_z}
use Rattle.v6_base.specs.Trace.{Log, Took}
use Rattle.v6_base.specs.declared.entry.Entry.TheVariants.{Nice}
use Rattle.v6_base.specs.declared.errno.Errno.TheVariants.{EPERM}
use Rattle.v6_base.specs.declared.answer.Answer.TheVariants.{Ret, Fail}
use Rattle.u_area.specs.declared.area.UArea.{UArea}
use Rattle.pick_rules.specs.Apply.{applied}
use Rattle.sys_procs.specs.World.{World, process_of}
use Rattle.sys_procs.specs.Comes.{comes, returns, logs}
use Rattle.sys_procs.specs.Handed.{board, handed}
use Rattle.sys_procs.specs.Ids.{kept_nice, nice_to}
use Rattle.sys_procs.proofs.Shown.{Says, says_line, its_call}
use Rattle.sys_procs.proofs.IdsLemmas.{nice_up, nice_down, nice_refused}
use Rattle.sys_procs.proofs.ids.nice_to.Goals as goal

pub returns-then-r0-lt32768-clause-does : goal.returns-then-r0-lt32768-clause-does
returns-then-r0-lt32768-clause-does g c =
    let w : World = handed c.args.p.now c.args.tree.now.nodes in
    let own : UArea = (process_of w c.args.s).u in
    let first : c.register-r0.result ≡ get_or own.r 0 0 = c.register-r0.ensures ∙ ap (λ (u : UArea). get_or u.r 0 0) c.area_bytes-area.ensures.read in
    let second : c.register-r1.result ≡ get_or own.r 1 0 = c.register-r1.ensures ∙ ap (λ (u : UArea). get_or u.r 1 0) c.area_bytes-area.ensures.read in
    let held = c.held_nice.result in
    let fits : FitsSigned w8 held = search rules in
    let same : to_z w8 (of_z w8 held) ≡ held = to_z-of_z w8 held fits in
    let says : Says c.args.p.now (nice_to w c.args.s) (Log (Nice c.args.s held) ∷ []) (applied (board c.args.p.now) (Nice c.args.s held)) w (Ret c.register-r0.result c.register-r1.result) =
    says_line c.args.p.now (nice_to w c.args.s) (Nice c.args.s held) w _
    (nice_up w c.args.s own refl (subst (λ n. n < 32768) first c.if-r0-lt32768.true)
    ∙ (ap (λ n. logs (Nice c.args.s n) (returns w c.args.s)) (sym (c.held_nice.ensures ∙ ap (λ n. int_min (pos 20) (pos n)) first))
    ∙ sym (λ i. logs (Nice c.args.s held) (comes w (Ret (first i) (second i)))))) in
    its_call says (c.set_nice.ensures.state c.args.tree.now.nodes)
    (c.set_nice.ensures.board ∙ ap (λ n. applied (board c.args.p.now) (Nice c.args.s n)) same)
    (subst (λ n. Took (g.T.Trace.taken c.args.trace.now) (Log (Nice c.args.s n) ∷ []) (g.T.Trace.taken c.set_nice.new.trace)) same c.set_nice.ensures.items)

pub returns-then-uid-eq0-clause-does : goal.returns-then-uid-eq0-clause-does
returns-then-uid-eq0-clause-does g c =
    let w : World = handed c.args.p.now c.args.tree.now.nodes in
    let own : UArea = (process_of w c.args.s).u in
    let first : c.register-r0.result ≡ get_or own.r 0 0 = c.register-r0.ensures ∙ ap (λ (u : UArea). get_or u.r 0 0) c.area_bytes-area.ensures.read in
    let second : c.register-r1.result ≡ get_or own.r 1 0 = c.register-r1.ensures ∙ ap (λ (u : UArea). get_or u.r 1 0) c.area_bytes-area.ensures.read in
    let uid : get_or c.ids.result 0 0 ≡ own.uid = ap (λ (l : List ℕ). get_or l 0 0) c.ids.ensures ∙ ap (λ (u : UArea). u.uid) c.area_bytes-area.ensures.read in
    let low = c.low_nice.result in
    let fits : FitsSigned w8 low = search rules in
    let same : to_z w8 (of_z w8 low) ≡ low = to_z-of_z w8 low fits in
    let says : Says c.args.p.now (nice_to w c.args.s) (Log (Nice c.args.s low) ∷ []) (applied (board c.args.p.now) (Nice c.args.s low)) w (Ret c.register-r0.result c.register-r1.result) =
    says_line c.args.p.now (nice_to w c.args.s) (Nice c.args.s low) w _
    (nice_down w c.args.s own refl (subst (λ n. 32768 ≤ n) first c.if-r0-lt32768.false) (sym uid ∙ c.if-uid-eq0.true)
    ∙ (ap (λ n. logs (Nice c.args.s n) (returns w c.args.s)) (sym (c.low_nice.ensures ∙ ap kept_nice first))
    ∙ sym (λ i. logs (Nice c.args.s low) (comes w (Ret (first i) (second i)))))) in
    its_call says (c.set_nice-then-uid-eq0.ensures.state c.args.tree.now.nodes)
    (c.set_nice-then-uid-eq0.ensures.board ∙ ap (λ n. applied (board c.args.p.now) (Nice c.args.s n)) same)
    (subst (λ n. Took (g.T.Trace.taken c.args.trace.now) (Log (Nice c.args.s n) ∷ []) (g.T.Trace.taken c.set_nice-then-uid-eq0.new.trace)) same c.set_nice-then-uid-eq0.ensures.items)

pub returns-clause-does : goal.returns-clause-does
returns-clause-does g c =
    let w : World = handed c.args.p.now c.args.tree.now.nodes in
    let own : UArea = (process_of w c.args.s).u in
    let first : c.register-r0.result ≡ get_or own.r 0 0 = c.register-r0.ensures ∙ ap (λ (u : UArea). get_or u.r 0 0) c.area_bytes-area.ensures.read in
    let uid : get_or c.ids.result 0 0 ≡ own.uid = ap (λ (l : List ℕ). get_or l 0 0) c.ids.ensures ∙ ap (λ (u : UArea). u.uid) c.area_bytes-area.ensures.read in
    let says : Says c.args.p.now (nice_to w c.args.s) (Log (Nice c.args.s (pos 0)) ∷ []) (applied (board c.args.p.now) (Nice c.args.s (pos 0))) w (Fail EPERM) =
    says_line c.args.p.now (nice_to w c.args.s) (Nice c.args.s (pos 0)) w (Fail EPERM)
    (nice_refused w c.args.s own refl (subst (λ n. 32768 ≤ n) first c.if-r0-lt32768.false) (subst (λ n. n ≢ 0) uid c.if-uid-eq0.false)) in
    its_call says (c.set_nice-2.ensures.state c.args.tree.now.nodes) c.set_nice-2.ensures.board c.set_nice-2.ensures.items

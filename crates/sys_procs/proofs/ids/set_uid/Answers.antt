use Rattle.std.proofs.Common.{◌≡◌, ◌∙◌, ◌%◌, ◌==◌, ◌||◌, ◌∷◌, [], ℕ, Bool, List, get_or, slice_index, Result, Ok, refl, ap, sym}
use Rattle.v6_base.specs.declared.answer.Answer.{Answer}
use Rattle.v6_base.specs.declared.answer.Answer.TheVariants.{Ret}
use Rattle.v6_base.specs.declared.entry.PanicKind.{PanicKind}
use Rattle.u_area.specs.declared.area.UArea.{UArea}
use Rattle.fs_nodes.specs.FileSystem.{FileSystem}
use Rattle.sys_procs.specs.declared.procs.Procs.{Procs}
use Rattle.sys_procs.specs.World.{change}
use Rattle.sys_procs.specs.Handed.{handed, process_here}
use Rattle.sys_procs.specs.Ids.{as_user}
use Rattle.sys_procs.proofs.Alive.{calls_alive}
use Rattle.sys_procs.proofs.Dones.{answer_stays, done_none}
use Rattle.sys_procs.proofs.IdsLemmas.{uid_taken}
use Rattle.sys_procs.proofs.ids.set_uid.Goals as goal

pub returns-clause-does : goal.returns-clause-does
returns-clause-does g c =
    let p : Procs = c.args.p.now in
    let fs : FileSystem = c.args.tree.now.nodes in
    let own : UArea = (process_here p c.args.s).u in
    let done : Answer → Result Answer PanicKind = λ a. Ok a in
    let first : c.register-r0.result ≡ get_or own.r 0 0 = c.register-r0.ensures ∙ ap (λ (u : UArea). get_or u.r 0 0) c.area_bytes-area.ensures.read in
    let second : c.register-r1.result ≡ get_or own.r 1 0 = c.register-r1.ensures ∙ ap (λ (u : UArea). get_or u.r 1 0) c.area_bytes-area.ensures.read in
    let ids : c.ids.result ≡ own.uid ∷ own.gid ∷ own.ruid ∷ own.rgid ∷ [] =
    c.ids.ensures ∙ ap (λ (u : UArea). u.uid ∷ u.gid ∷ u.ruid ∷ u.rgid ∷ []) c.area_bytes-area.ensures.read in
    let test : ℕ → List ℕ → Bool = λ r0 l. (r0 % 256 == slice_index l 2) || (slice_index l 0 == 0) in
    let may = sym (λ i. test (first i) (ids i)) ∙ (sym c.may_take.ensures ∙ c.if-not-may_take.false) in
    done_none _ _ (sym (uid_taken (handed p fs) c.args.s own refl may))
    (ap done ((λ i. Ret (first i) (second i)) ∙ answer_stays p fs c.args.s (as_user (get_or own.r 0 0 % 256)) own
    (calls_alive p fs c.args.s c.requires) refl (λ q. refl)))
    (c.set_user.ensures.state fs ∙ ap (λ n. change (handed p fs) c.args.s (as_user (n % 256))) first) c.set_user.ensures.board

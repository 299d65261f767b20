use Rattle.std.proofs.Common.{◌≡◌, ◌∙◌, ◌<◌, ◌==◌, ◌&&◌, ℕ, nat_lt, Bool, true, false, not, List, Option, Result, Ok, Err, is_none, slice_index, sym, ap, subst}
use Rattle.std.proofs.lemmas.Result.{err_from_is_err_and}
use Rattle.v6_base.specs.Access.{then_do}
use Rattle.v6_base.specs.declared.errno.Errno.{Errno}
use Rattle.v6_base.specs.declared.errno.Errno.TheVariants.{ENOMEM}
use Rattle.aout_head.specs.Header.{Header, header_of, plan_of}
use Rattle.aout_head.specs.declared.parts.ExecFault.{ExecFault}
use Rattle.aout_head.specs.declared.parts.Plan.{Plan}
use Rattle.seg_regs.specs.Sizes.{is_refused}
use Rattle.image_keep.specs.Growth.{most_clicks}
use Rattle.sys_procs.specs.declared.program.Program.{Program}
use Rattle.sys_procs.specs.TextTable.{Text}
use Rattle.sys_procs.specs.World.{texts_in}
use Rattle.sys_procs.specs.Tests.{must}
use Rattle.sys_procs.specs.Stack.{stack_clicks}
use Rattle.sys_procs.specs.ExecFile.{text_clicks_by, data_clicks, is_magic, entry_clicks, is_busy_in, or_no_memory}
use Rattle.sys_procs.specs.inside.Tested.{AreSized}
use Rattle.sys_procs.proofs.TestsLemmas.{sized_by, none_refuses, unfit, no_entry}
use Rattle.sys_procs.proofs.tested.judge_header.Goals as goal

-- A text that is there has the clicks that were taken.
pub returns-clause-shared : goal.returns-clause-shared
returns-clause-shared c =
    subst (λ n. 0 < n → AreSized (texts_in c.args.images.now.kept) c.args.ino n) (sym c.text_clicks.ensures)
    (sized_by (texts_in c.args.images.now.kept) c.args.ino c.entry_clicks-there.result c.in_ok-plan.plan
    c.entry_clicks-there.ensures.sized)

-- None of the refusals before that of the sizes comes.
pub returns-in_err-plan-clause-answer : goal.returns-in_err-plan-clause-answer
returns-in_err-plan-clause-answer c =
    let texts : List (Option Text) = texts_in c.args.images.now.kept in
    let ino : ℕ = c.args.ino in
    let references : ℕ = slice_index c.args.nodes.now.references ino in
    let h : Header = header_of c.args.head.now in
    let e : Errno = c.in_err-plan.field-0.0 in
    let made : Option ℕ → Plan → Program = λ there plan. record {
      ino = ino;
      plan = plan;
      text_clicks = text_clicks_by there plan;
      arguments = c.args.args;
    } in
    let sizes : Result Plan ExecFault → Option ℕ → ℕ → Result Program Errno = λ planned there limit.
    then_do (or_no_memory planned) (λ plan.
    then_do (must ENOMEM (not (is_refused (text_clicks_by there plan) (data_clicks plan) stack_clicks limit))) (λ fits.
    Ok (made there plan))) in
    let magic : is_magic (plan_of h) ≡ true =
    ap is_magic (sym c.plan-planned.ensures.plan) ∙ (sym c.is_magic.ensures ∙ c.if-not-is_magic.false) in
    let program : ((c.args.read.done == 16) && is_magic (plan_of h)) ≡ true =
    λ i. (c.if-read-ne-HEADER_SIZE.false i == 16) && magic i in
    let busy : ℕ → Bool → Bool = λ n none. not (h.magic == 0o407) && not (h.text_size == 0) && nat_lt 1 n && none in
    let free : is_busy_in texts references ino h ≡ false =
    sym (λ i. busy (c.refs.ensures i) ((ap is_none c.entry_clicks-there.ensures.clicks ∙ no_entry texts ino) i))
    ∙ (sym c.is_busy.ensures ∙ c.if-is_busy.false) in
    let given = err_from_is_err_and c.from_residual.result c.from_residual.ensures.1 in
    given.1 ∙ (ap (λ (f : Errno). Err f) given.2
    ∙ (unfit (or_no_memory c.plan-planned.result)
    (λ plan. is_refused (text_clicks_by c.entry_clicks-there.result plan) (data_clicks plan) stack_clicks c.limit.result)
    (made c.entry_clicks-there.result) e (sym c.in_err-plan.was ∙ c.fitting.ensures.answer)
    ∙ ((λ i. sizes (c.plan-planned.ensures.plan i) (c.entry_clicks-there.ensures.clicks i) (c.limit.ensures i))
    ∙ none_refuses c.args.read.error ((c.args.read.done == 16) && is_magic (plan_of h)) (is_busy_in texts references ino h)
    (sizes (plan_of h) (entry_clicks texts ino) (most_clicks c.args.images.now.kept)) c.in_default.is program free)))

use Rattle.std.proofs.Common.{◌<◌, ◌∙◌, rules, ap, sym}
use Rattle.std.proofs.lemmas.Bool.{eq-eqb, ne_eqb}
use Rattle.u_area.specs.declared.area.UArea.{UArea}
use Rattle.unix_core.proofs.MachineLemmas.{mode_is}
use Rattle.unix_core.proofs.PutLemmas.{good_alive}
use Rattle.unix_core.proofs.machine.Machine.mode.Goals as goal

pub area_bytes-requires : goal.area_bytes-requires
area_bytes-requires c =
    let above : 0 < c.in-Some.s = search rules in
    (good_alive c.args.self.now.world c.in-Some.s c.requires c.in-Some.is above).image

pub returns-then-pending_call-eq-NOTHING_PENDING : goal.returns-then-pending_call-eq-NOTHING_PENDING
returns-then-pending_call-eq-NOTHING_PENDING c =
    let above : 0 < c.in-Some.s = search rules in
    sym (mode_is c.args.self.now.world c.in-Some.s _ c.requires c.in-Some.is above
    (eq-eqb _ 0 (ap (λ (u : UArea). u.pending) (sym c.area_bytes.ensures.read) ∙ (sym c.pending_call.ensures ∙ c.if-pending_call-eq-NOTHING_PENDING.true))))

pub returns-else-pending_call-eq-NOTHING_PENDING : goal.returns-else-pending_call-eq-NOTHING_PENDING
returns-else-pending_call-eq-NOTHING_PENDING c =
    let above : 0 < c.in-Some.s = search rules in
    sym (mode_is c.args.self.now.world c.in-Some.s _ c.requires c.in-Some.is above
    (ne_eqb _ 0 (λ e. c.if-pending_call-eq-NOTHING_PENDING.false (c.pending_call.ensures ∙ (ap (λ (u : UArea). u.pending) c.area_bytes.ensures.read ∙ e)))))

use Rattle.std.proofs.Common.{◌≡◌, false, ◌∙◌, ◌+◌, ◌<◌, ◌==◌, ◌++◌, ◌∷◌, [], List, ℕ, OnOk, IfErr, length, refl, sym, subst, inr}
use Rattle.std.proofs.lemmas.Bool.{eqb-true}
use Rattle.v6_run.specs.Audit.{HasRead, IsAtFault}
use Rattle.v6_run.proofs.AuditLemmas.{below_full}
use Rattle.v6_run.proofs.ReadLines.{read_byte, long_line}
use Rattle.v6_run.proofs.audit.Reading.take_byte.Goals as goal

pub returns-then-byte-eq10-clause-read : goal.returns-then-byte-eq10-clause-read
returns-then-byte-eq10-clause-read c =
    subst (λ b. OnOk c.end_line.result ((front : List ℕ) → HasRead front c.args.self.now → HasRead (front ++ b ∷ []) c.end_line.new.self)) (sym c.if-byte-eq10.true) c.end_line.ensures.read

pub returns-then-byte-eq10-clause-fault : goal.returns-then-byte-eq10-clause-fault
returns-then-byte-eq10-clause-fault c =
    subst (λ b. IfErr c.end_line.result (λ error. (front : List ℕ) → HasRead front c.args.self.now → IsAtFault (front ++ b ∷ []) error)) (sym c.if-byte-eq10.true) c.end_line.ensures.fault

pub returns-then-is_full-clause-fault : goal.returns-then-is_full-clause-fault
returns-then-is_full-clause-fault c front h =
    inr (long_line front c.args.byte c.args.self.now (c.args.self.now.lines + 1) c.if-byte-eq10.false h refl (eqb-true _ _ (sym c.is_full.ensures.value ∙ c.if-is_full.true)))

pub returns-clause-read : goal.returns-clause-read
returns-clause-read c front h =
    let full : (length c.args.self.now.line.items == 80) ≡ false = sym c.is_full.ensures.value ∙ c.if-is_full.false in
    let less : length c.args.self.now.line.items < 80 = below_full (length c.args.self.now.line.items) 80 h.short full in
    read_byte front c.args.byte c.args.self.now _ c.if-byte-eq10.false h less refl refl c.push.ensures.items

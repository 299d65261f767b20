use Rattle.std.proofs.Common.{◌+◌, ◌++◌, List, ℕ, take, sym, subst, arith}
use Rattle.std.proofs.lemmas.List.{append-nil, take_all}
use Rattle.v6_run.specs.Audit.{HasRead, IsAtFault}
use Rattle.v6_run.proofs.ResultLemmas.{error_where_err, error_passed}
use Rattle.v6_run.proofs.AuditLemmas.{one_more, room_more}
use Rattle.v6_run.proofs.audit.Reading.take.Goals as goal

pub loop-byte-init : goal.loop-byte-init
loop-byte-init c front h = subst (λ ls. HasRead ls c.args.self.now) (sym (append-nil front)) h

pub take_byte-requires : goal.take_byte-requires
take_byte-requires c =
    let at = c.loop-byte-test.true in (
      c.requires.0 ++ take c.loop-byte.byte-index c.args.bytes.now,
      c.loop-byte.invariant c.requires.0 c.requires.1,
      room_more c.requires.0 c.args.bytes.now c.loop-byte.byte-index _ (omega (arith, at)) c.requires.2,
    )

pub returns-in_err-take_byte-clause-fault : goal.returns-in_err-take_byte-clause-fault
returns-in_err-take_byte-clause-fault c =
    let at = c.loop-byte-test.true in
    let i : ℕ = c.loop-byte.byte-index in
    error_passed _ _ _ c.from_residual.ensures.1 (λ (front : List ℕ) h. (
      i + 1,
      omega (arith, at),
      subst (λ ls. IsAtFault ls c.in_err-take_byte.field-0.0) (one_more front c.args.bytes.now i at)
          (error_where_err _ _ _ c.in_err-take_byte.was c.take_byte.ensures.fault (front ++ take i c.args.bytes.now) (c.loop-byte.invariant front h)),
    ))

pub loop-byte-preserved : goal.loop-byte-preserved
loop-byte-preserved c front h =
    subst (λ ls. HasRead ls c.take_byte.new.self) (one_more front c.args.bytes.now c.loop-byte.byte-index c.loop-byte-test.true)
    (c.in_ok-take_byte.ensures.read (front ++ take c.loop-byte.byte-index c.args.bytes.now) (c.loop-byte.invariant front h))

pub returns-clause-read : goal.returns-clause-read
returns-clause-read c front h =
    let past = c.loop-byte-test.false in
    subst (λ ls. HasRead (front ++ ls) c.loop-byte.self) (take_all c.loop-byte.byte-index c.args.bytes.now (omega (arith, past))) (c.loop-byte.invariant front h)

use Rattle.std.proofs.Common.{rules, ◌∙◌, [], refl, ap, arith}
use Rattle.std.proofs.lemmas.List.{take-append-le}
use Rattle.v6_port.specs.declared.host.InPort.TheVariants.{Log}
use Rattle.v6_port.specs.Outside.{In, Environment}
use Rattle.v6_port.proofs.CauseLemmas.{calm_then}
use Rattle.v6_run.specs.Audit.{AuditsTo}
use Rattle.v6_run.proofs.ResultLemmas.{error_where_err, result_passed, match_passed}
use Rattle.v6_run.proofs.AuditLemmas.{calm_read, read_within, read_none, end_read, most_read, close_calm, room_for, as_long, taken_more, piece_read, fault_taken, fault_stops}
use Rattle.v6_run.proofs.audit.read_log.Goals as goal

pub file-init : goal.file-init
file-init g c = record {
  only = search rules;
  calm = search rules;
  is_open = c.requires;
  read = ([], c.new-reading.ensures, refl, λ told. refl);
  within = omega arith;
}

pub returns-then-count-eq0-clause-answer : goal.returns-then-count-eq0-clause-answer
returns-then-count-eq0-clause-answer g c told =
    let h = c.file.invariant.read in
    let l = h.2 in
    let low = c.file-test.true in
    let still = ap (λ (f : Environment). f.tells) c.file.invariant.only.fixed ∙ told in
    let long = as_long c.file.buffer c.read.new.buf c.min-wanted.result c.read.auto.buf (omega arith) in
    end_read h.0 _ _ c.close.result (h.3 told) (read_none _ _ _ _ _ _ c.read.ensures c.in-Ok.is c.if-count-eq0.true (omega (arith, long, low)) still) (omega (arith, l, low)) (c.close.ensures h.0 h.1)

pub returns-then-count-eq0-clause-cause : goal.returns-then-count-eq0-clause-cause
returns-then-count-eq0-clause-cause g c =
    let h = c.file.invariant.read in
    close_calm h.0 c.close.result _ _ (c.close.ensures h.0 h.1) (calm_then _ _ _ c.file.invariant.calm (calm_read _ _ _ _ _ _ c.read.ensures c.in-Ok.is))

pub returns-clause-answer : goal.returns-clause-answer
returns-clause-answer g c told =
    let h = c.file.invariant.read in
    let l = h.2 in
    let most = c.file-test.false in
    let within = c.file.invariant.within in
    most_read h.0 _ _ c.file.reading (h.3 told) h.1 (omega (arith, l, most, within))

pub take-requires : goal.take-requires
take-requires g c =
    let within = read_within _ _ _ _ _ _ c.read.ensures c.in-Ok.is in
    let long = as_long c.file.buffer c.read.new.buf c.min-wanted.result c.read.auto.buf (omega arith) in
    room_for c.file.reading c.file.total c.in-Ok.count (g.H.Host.outside c.args.host.now) (g.H.Host.outside c.file.host) _ _ _ c.file.invariant.read (piece_read _ _ _ _ _ _ c.read.ensures c.in-Ok.is (take-append-le c.in-Ok.count c.read.new.buf _ within)) (omega (arith, within, long))

pub returns-in_err-take-clause-answer : goal.returns-in_err-take-clause-answer
returns-in_err-take-clause-answer g c told =
    let within = read_within _ _ _ _ _ _ c.read.ensures c.in-Ok.is in
    let long = as_long c.file.buffer c.read.new.buf c.min-wanted.result c.read.auto.buf (omega arith) in
    result_passed (AuditsTo ((g.H.Host.outside c.args.host.now).port (In Log)).bytes) _ _ c.from_residual.ensures.1
    (fault_taken c.file.reading c.file.total c.in-Ok.count (g.H.Host.outside c.args.host.now) (g.H.Host.outside c.file.host) _ _ _ _ c.file.invariant.read (piece_read _ _ _ _ _ _ c.read.ensures c.in-Ok.is (take-append-le c.in-Ok.count c.read.new.buf _ within)) (λ told. ap (λ (f : Environment). f.tells) c.file.invariant.only.fixed ∙ told) (omega (arith, within, long))
    (error_where_err _ _ _ c.in_err-take.was c.take.ensures.fault) told)

pub returns-in_err-take-clause-cause : goal.returns-in_err-take-clause-cause
returns-in_err-take-clause-cause g c =
    match_passed _ _ _ _ c.from_residual.ensures.1
    (fault_stops c.file.reading c.file.invariant.read.0 _ _ _ _ c.file.invariant.read.1 (error_where_err _ _ _ c.in_err-take.was c.take.ensures.fault)
    (calm_then _ _ _ c.file.invariant.calm (calm_read _ _ _ _ _ _ c.read.ensures c.in-Ok.is)))

pub file-preserved : goal.file-preserved
file-preserved g c =
    let within = read_within _ _ _ _ _ _ c.read.ensures c.in-Ok.is in
    let long = as_long c.file.buffer c.read.new.buf c.min-wanted.result c.read.auto.buf (omega arith) in record {
      only = search rules;
      calm = search rules;
      is_open = search rules;
      read = taken_more c.file.reading _ c.file.total c.in-Ok.count (g.H.Host.outside c.args.host.now) (g.H.Host.outside c.file.host) _ _ _ c.file.invariant.read (piece_read _ _ _ _ _ _ c.read.ensures c.in-Ok.is (take-append-le c.in-Ok.count c.read.new.buf _ within)) (λ told. ap (λ (f : Environment). f.tells) c.file.invariant.only.fixed ∙ told) c.in_ok-take.ensures.read;
      within = omega (arith, within, long);
    }

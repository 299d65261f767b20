use Rattle.std.proofs.Common.{◌≡◌, true, OnOk, OnErr, MatchResult, [], ◌∷◌, ◌++◌, sym, subst}
use Rattle.v6_port.specs.Outside.{Out, IsOpen, IsThere, OnlyAt, Tells, same}
use Rattle.v6_port.specs.Causes.{Calm, FaultAt}
use Rattle.v6_run.proofs.LinePorts.{first_port, other_port}
use Rattle.v6_run.proofs.ports.write_on.Goals as goal

pub write_byte-requires : goal.write_byte-requires
write_byte-requires g c =
    let old = g.H.Host.outside c.args.host.now in record {
      is_open = subst (λ p. IsOpen old (Out p)) (sym (first_port c.args.line c.if-line-eq0.true)) c.requires.is_open;
      there = tt;
    }

pub write_byte-requires-else-line-eq0 : goal.write_byte-requires-else-line-eq0
write_byte-requires-else-line-eq0 g c =
    let old = g.H.Host.outside c.args.host.now in record {
      is_open = subst (λ p. IsOpen old (Out p)) (sym (other_port c.args.line c.if-line-eq0.false)) c.requires.is_open;
      there = subst IsThere (sym (other_port c.args.line c.if-line-eq0.false)) c.requires.there;
    }

pub returns-then-line-eq0-clause-only : goal.returns-then-line-eq0-clause-only
returns-then-line-eq0-clause-only g c =
    let old = g.H.Host.outside c.args.host.now in
    let new = g.H.Host.outside c.write_byte.new.host in
    subst (λ p. OnlyAt (same (Out p)) old new) (first_port c.args.line c.if-line-eq0.true) c.write_byte.ensures.only

pub returns-then-line-eq0-clause-is_open : goal.returns-then-line-eq0-clause-is_open
returns-then-line-eq0-clause-is_open g c =
    let old = g.H.Host.outside c.args.host.now in
    let new = g.H.Host.outside c.write_byte.new.host in
    subst (λ p. IsOpen new (Out p)) (first_port c.args.line c.if-line-eq0.true) c.write_byte.ensures.is_open

pub returns-then-line-eq0-clause-whole : goal.returns-then-line-eq0-clause-whole
returns-then-line-eq0-clause-whole g c =
    let old = g.H.Host.outside c.args.host.now in
    let new = g.H.Host.outside c.write_byte.new.host in
    subst (λ p. OnOk c.write_byte.result (Tells old → (new.port (Out p)).bytes ≡ (old.port (Out p)).bytes ++ c.args.byte ∷ [])) (first_port c.args.line c.if-line-eq0.true) c.write_byte.ensures.whole

pub returns-then-line-eq0-clause-stays : goal.returns-then-line-eq0-clause-stays
returns-then-line-eq0-clause-stays g c =
    let old = g.H.Host.outside c.args.host.now in
    let new = g.H.Host.outside c.write_byte.new.host in
    subst (λ p. OnErr c.write_byte.result ((new.port (Out p)).bytes ≡ (old.port (Out p)).bytes)) (first_port c.args.line c.if-line-eq0.true) c.write_byte.ensures.stays

pub returns-then-line-eq0-clause-cause : goal.returns-then-line-eq0-clause-cause
returns-then-line-eq0-clause-cause g c =
    let old = g.H.Host.outside c.args.host.now in
    let new = g.H.Host.outside c.write_byte.new.host in
    subst (λ p. MatchResult c.write_byte.result (λ _. Calm old new) (λ _. FaultAt (Out p) true old new)) (first_port c.args.line c.if-line-eq0.true) c.write_byte.ensures.cause

pub returns-else-line-eq0-clause-only : goal.returns-else-line-eq0-clause-only
returns-else-line-eq0-clause-only g c =
    let old = g.H.Host.outside c.args.host.now in
    let new = g.H.Host.outside c.write_byte-else-line-eq0.new.host in
    subst (λ p. OnlyAt (same (Out p)) old new) (other_port c.args.line c.if-line-eq0.false) c.write_byte-else-line-eq0.ensures.only

pub returns-else-line-eq0-clause-is_open : goal.returns-else-line-eq0-clause-is_open
returns-else-line-eq0-clause-is_open g c =
    let old = g.H.Host.outside c.args.host.now in
    let new = g.H.Host.outside c.write_byte-else-line-eq0.new.host in
    subst (λ p. IsOpen new (Out p)) (other_port c.args.line c.if-line-eq0.false) c.write_byte-else-line-eq0.ensures.is_open

pub returns-else-line-eq0-clause-whole : goal.returns-else-line-eq0-clause-whole
returns-else-line-eq0-clause-whole g c =
    let old = g.H.Host.outside c.args.host.now in
    let new = g.H.Host.outside c.write_byte-else-line-eq0.new.host in
    subst (λ p. OnOk c.write_byte-else-line-eq0.result (Tells old → (new.port (Out p)).bytes ≡ (old.port (Out p)).bytes ++ c.args.byte ∷ [])) (other_port c.args.line c.if-line-eq0.false) c.write_byte-else-line-eq0.ensures.whole

pub returns-else-line-eq0-clause-stays : goal.returns-else-line-eq0-clause-stays
returns-else-line-eq0-clause-stays g c =
    let old = g.H.Host.outside c.args.host.now in
    let new = g.H.Host.outside c.write_byte-else-line-eq0.new.host in
    subst (λ p. OnErr c.write_byte-else-line-eq0.result ((new.port (Out p)).bytes ≡ (old.port (Out p)).bytes)) (other_port c.args.line c.if-line-eq0.false) c.write_byte-else-line-eq0.ensures.stays

pub returns-else-line-eq0-clause-cause : goal.returns-else-line-eq0-clause-cause
returns-else-line-eq0-clause-cause g c =
    let old = g.H.Host.outside c.args.host.now in
    let new = g.H.Host.outside c.write_byte-else-line-eq0.new.host in
    subst (λ p. MatchResult c.write_byte-else-line-eq0.result (λ _. Calm old new) (λ _. FaultAt (Out p) true old new)) (other_port c.args.line c.if-line-eq0.false) c.write_byte-else-line-eq0.ensures.cause

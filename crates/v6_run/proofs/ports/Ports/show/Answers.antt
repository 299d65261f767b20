use Rattle.std.proofs.Common.{refl, sym, ◌∙◌, subst, [], ◌∷◌}
use Rattle.v6_base.specs.Trace.{Byte, Took, Appends}
use Rattle.v6_run.specs.Ports.{taken_by, Goes}
use Rattle.v6_run.proofs.LinePorts.{line_there}
use Rattle.v6_run.proofs.GoesLemmas.{byte_goes, kept_goes}
use Rattle.v6_run.proofs.PortLemmas.{byte_took, byte_all, kept_took, kept_all}
use Rattle.v6_run.proofs.ports.Ports.show.Goals as goal

pub write_on-requires : goal.write_on-requires
write_on-requires g c = record {
  is_open = c.args.self.now.lines_are_open c.requires.loud c.args.line c.requires.there;
  there = line_there c.args.line c.requires.eight;
}

pub returns-then-is_err-clause-took : goal.returns-then-is_err-clause-took
returns-then-is_err-clause-took g c =
    let lines = c.args.self.now.lines in
    let old = g.H.Host.outside c.args.self.now.host.now in
    let new = g.H.Host.outside c.write_on.new.host in
    let wrote = c.write_on.ensures in
    subst (λ k. Took (taken_by lines old c.args.self.now.kept) (Byte c.args.line c.args.byte ∷ []) (taken_by lines new k)) (sym c.keep_byte.ensures)
    (kept_took lines old new c.args.self.now.kept c.args.line c.args.byte c.requires.loud _ refl wrote.only c.write_on.result
    (sym c.is_err.ensures.value ∙ c.if-is_err.true) wrote.stays)

pub returns-then-is_err-clause-whole : goal.returns-then-is_err-clause-whole
returns-then-is_err-clause-whole g c =
    let lines = c.args.self.now.lines in
    let old = g.H.Host.outside c.args.self.now.host.now in
    let new = g.H.Host.outside c.write_on.new.host in
    let wrote = c.write_on.ensures in
    subst (λ k. Appends (taken_by lines old c.args.self.now.kept) (Byte c.args.line c.args.byte) (taken_by lines new k)) (sym c.keep_byte.ensures)
    (kept_all lines old new c.args.self.now.kept c.args.line c.args.byte c.requires.loud _ refl wrote.only c.write_on.result
    (sym c.is_err.ensures.value ∙ c.if-is_err.true) wrote.stays)

pub returns-then-is_err-clause-goes : goal.returns-then-is_err-clause-goes
returns-then-is_err-clause-goes g c =
    let lines = c.args.self.now.lines in
    let old = g.H.Host.outside c.args.self.now.host.now in
    let new = g.H.Host.outside c.write_on.new.host in
    let wrote = c.write_on.ensures in
    let was_open = c.args.self.now.lines_are_open c.requires.loud c.args.line c.requires.there in
    subst (λ k. Goes lines old c.args.self.now.kept new k) (sym c.keep_byte.ensures)
    (kept_goes lines old new c.args.self.now.kept c.args.line c.args.byte c.requires.loud c.requires.there _ refl wrote.only was_open wrote.is_open c.write_on.result
    (sym c.is_err.ensures.value ∙ c.if-is_err.true) wrote.stays wrote.cause)

pub returns-else-is_err-clause-took : goal.returns-else-is_err-clause-took
returns-else-is_err-clause-took g c =
    let wrote = c.write_on.ensures in
    byte_took c.args.self.now.lines _ _ c.args.self.now.kept c.args.line c.args.byte c.requires.loud _ refl wrote.only c.write_on.result
    (sym c.is_err.ensures.value ∙ c.if-is_err.false) wrote.whole

pub returns-else-is_err-clause-whole : goal.returns-else-is_err-clause-whole
returns-else-is_err-clause-whole g c =
    let wrote = c.write_on.ensures in
    byte_all c.args.self.now.lines _ _ c.args.self.now.kept c.args.line c.args.byte c.requires.loud _ refl wrote.only c.write_on.result
    (sym c.is_err.ensures.value ∙ c.if-is_err.false) wrote.whole

pub returns-else-is_err-clause-goes : goal.returns-else-is_err-clause-goes
returns-else-is_err-clause-goes g c =
    let old = g.H.Host.outside c.args.self.now.host.now in
    let wrote = c.write_on.ensures in
    let was_open = c.args.self.now.lines_are_open c.requires.loud c.args.line c.requires.there in
    byte_goes c.args.self.now.lines _ _ c.args.self.now.kept c.args.line c.args.byte c.requires.loud c.requires.there _ refl wrote.only was_open wrote.is_open c.write_on.result
    (sym c.is_err.ensures.value ∙ c.if-is_err.false) wrote.whole wrote.cause

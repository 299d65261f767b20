use Rattle.std.proofs.Common.{sym, ◌∙◌, subst, refl, [], ◌∷◌}
use Rattle.v6_base.specs.Trace.{Byte, Took, Appends}
use Rattle.v6_run.specs.Ports.{taken_by, Goes}
use Rattle.v6_run.proofs.GoesLemmas.{goes_silently}
use Rattle.v6_run.proofs.PortLemmas.{kept_silently, kept_quietly, beyond_took, beyond_appended}
use Rattle.v6_run.proofs.ports.PortsTrace.out_on.Goals as goal

pub returns-then-is_silent-clause-took : goal.returns-then-is_silent-clause-took
returns-then-is_silent-clause-took g c =
    let lines = c.args.self.now.lines in
    let o = g.H.Host.outside c.args.self.now.host.now in
    let silent = sym c.is_silent.ensures ∙ c.if-is_silent.true in
    subst (λ k. Took (taken_by lines o c.args.self.now.kept) (Byte c.args.line c.args.byte ∷ []) (taken_by lines o k)) (sym c.keep.ensures)
    (kept_silently c.args.line c.args.byte lines o c.args.self.now.kept silent)

pub returns-then-is_silent-clause-whole : goal.returns-then-is_silent-clause-whole
returns-then-is_silent-clause-whole g c =
    let lines = c.args.self.now.lines in
    let o = g.H.Host.outside c.args.self.now.host.now in
    let silent = sym c.is_silent.ensures ∙ c.if-is_silent.true in
    subst (λ k. Appends (taken_by lines o c.args.self.now.kept) (Byte c.args.line c.args.byte) (taken_by lines o k)) (sym c.keep.ensures)
    (kept_quietly c.args.line c.args.byte lines o c.args.self.now.kept silent)

pub returns-then-is_silent-clause-frame : goal.returns-then-is_silent-clause-frame
returns-then-is_silent-clause-frame g c =
    let lines = c.args.self.now.lines in
    let o = g.H.Host.outside c.args.self.now.host.now in
    let silent = sym c.is_silent.ensures ∙ c.if-is_silent.true in
    (subst (λ k. Goes lines o c.args.self.now.kept o k) (sym c.keep.ensures) (goes_silently lines o c.args.line c.args.self.now.kept silent), refl, refl)

-- a byte of a line that has no port is dropped, and isn't told
pub returns-else-line-self-clause-took : goal.returns-else-line-self-clause-took
returns-else-line-self-clause-took g c =
    beyond_took c.args.line c.args.byte c.args.self.now.lines (g.H.Host.outside c.args.self.now.host.now) c.args.self.now.kept
    (sym c.is_silent.ensures ∙ c.if-is_silent.false) c.if-line-self.false

pub returns-else-line-self-clause-whole : goal.returns-else-line-self-clause-whole
returns-else-line-self-clause-whole g c =
    beyond_appended c.args.line c.args.byte c.args.self.now.lines (g.H.Host.outside c.args.self.now.host.now) c.args.self.now.kept
    (sym c.is_silent.ensures ∙ c.if-is_silent.false) c.if-line-self.false

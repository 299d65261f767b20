use Rattle.std.proofs.Common.{refl, sym, subst, ◌+◌, arith, inl}
use Rattle.log_audit.specs.Judge.{IsLine, Judges}
use Rattle.log_audit.specs.declared.audit.Judged.TheVariants.{Good, Unlawful, Bad}
use Rattle.v6_run.proofs.ReadLines.{read_line, unfit_line, bad_line}
use Rattle.v6_run.proofs.audit.Reading.end_line.Goals as goal

pub overflow_add-self : goal.overflow_add-self
overflow_add-self c = let a = c.requires.1.few in let b = c.requires.2 in omega (arith, a, b)

pub returns-in-Good-clause-read : goal.returns-in-Good-clause-read
returns-in-Good-clause-read c front h =
    let j : Judges c.args.self.now.audit c.as_slice.result.now Good c.line.new.self = subst (λ r. Judges c.args.self.now.audit c.as_slice.result.now r c.line.new.self) c.in-Good.is c.line.ensures in
    read_line front c.args.self.now _ j.0 h (subst (IsLine j.0) c.as_slice.ensures.value j.1) j.2 j.3 refl c.clear.ensures

pub returns-in-Unlawful-clause-fault : goal.returns-in-Unlawful-clause-fault
returns-in-Unlawful-clause-fault c front h =
    let j : Judges c.args.self.now.audit c.as_slice.result.now Unlawful c.line.new.self = subst (λ r. Judges c.args.self.now.audit c.as_slice.result.now r c.line.new.self) c.in-Unlawful.is c.line.ensures in
    unfit_line front c.args.self.now (c.args.self.now.lines + 1) j.0.0 h refl (subst (IsLine j.0.0) c.as_slice.ensures.value j.0.1) j.0.2

pub returns-in-Bad-clause-fault : goal.returns-in-Bad-clause-fault
returns-in-Bad-clause-fault c front h =
    let j : Judges c.args.self.now.audit c.as_slice.result.now Bad c.line.new.self = subst (λ r. Judges c.args.self.now.audit c.as_slice.result.now r c.line.new.self) c.in-Bad.is c.line.ensures in
    inl (bad_line front c.args.self.now (c.args.self.now.lines + 1) h refl (λ e is. j.0 e (subst (IsLine e) (sym c.as_slice.ensures.value) is)))

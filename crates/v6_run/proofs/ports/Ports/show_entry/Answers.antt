use Rattle.std.proofs.Common.{sym, ◌∙◌, ap, subst, drop, refl, [], ◌∷◌}
use Rattle.v6_base.specs.Trace.{Log, Took, Appends}
use Rattle.v6_run.specs.Ports.{taken_by, Goes}
use Rattle.v6_run.proofs.GoesLemmas.{line_goes, rest_goes}
use Rattle.v6_run.proofs.PortLemmas.{took_all, all_appended, took_front, front_appended}
use Rattle.v6_run.proofs.ports.Ports.show_entry.Goals as goal

pub write_text-requires : goal.write_text-requires
write_text-requires g c = record { is_open = c.args.self.now.log_is_open c.requires.loud; there = tt }

pub returns-in-Err-clause-took : goal.returns-in-Err-clause-took
returns-in-Err-clause-took g c =
    let lines = c.args.self.now.lines in
    let line = c.as_slice.ensures.value in
    let old = g.H.Host.outside c.args.self.now.host.now in
    let new = g.H.Host.outside c.write_text.new.host in
    let rest = drop c.in-Err.count c.put_line.new.line.items in
    let took = took_front lines old new c.args.self.now.kept c.args.e.now _ c.requires.loud c.in-Err.ensures.only (line ∙ c.put_line.ensures) c.in-Err.count
    c.in-Err.ensures.front rest (ap (drop c.in-Err.count) (sym line)) in
    subst (λ k. Took (taken_by lines old c.args.self.now.kept) (Log c.args.e.now ∷ []) (taken_by lines new k)) (sym c.keep_line.ensures) took

pub returns-in-Err-clause-whole : goal.returns-in-Err-clause-whole
returns-in-Err-clause-whole g c =
    let lines = c.args.self.now.lines in
    let line = c.as_slice.ensures.value in
    let old = g.H.Host.outside c.args.self.now.host.now in
    let new = g.H.Host.outside c.write_text.new.host in
    let rest = drop c.in-Err.count c.put_line.new.line.items in
    let all = front_appended lines old new c.args.self.now.kept c.args.e.now _ c.requires.loud c.in-Err.ensures.only (line ∙ c.put_line.ensures) c.in-Err.count
    c.in-Err.ensures.front rest (ap (drop c.in-Err.count) (sym line)) in
    subst (λ k. Appends (taken_by lines old c.args.self.now.kept) (Log c.args.e.now) (taken_by lines new k)) (sym c.keep_line.ensures) all

pub returns-in-Err-clause-goes : goal.returns-in-Err-clause-goes
returns-in-Err-clause-goes g c =
    let lines = c.args.self.now.lines in
    let old = g.H.Host.outside c.args.self.now.host.now in
    let new = g.H.Host.outside c.write_text.new.host in
    subst (λ k. Goes lines old c.args.self.now.kept new k) (sym c.keep_line.ensures)
    (rest_goes lines old new c.args.self.now.kept _ c.requires.loud c.in-Err.ensures.only (c.args.self.now.log_is_open c.requires.loud) c.in-Err.ensures.is_open c.in-Err.count _ refl refl
    c.in-Err.ensures.front c.in-Err.ensures.cause)

pub returns-in_default-clause-took : goal.returns-in_default-clause-took
returns-in_default-clause-took g c =
    took_all c.args.self.now.lines _ _ c.args.self.now.kept c.args.e.now _ c.requires.loud c.in_default.ensures.only (c.as_slice.ensures.value ∙ c.put_line.ensures) c.in_default.ensures.whole

pub returns-in_default-clause-whole : goal.returns-in_default-clause-whole
returns-in_default-clause-whole g c =
    all_appended c.args.self.now.lines _ _ c.args.self.now.kept c.args.e.now _ c.requires.loud c.in_default.ensures.only (c.as_slice.ensures.value ∙ c.put_line.ensures) c.in_default.ensures.whole

pub returns-in_default-clause-goes : goal.returns-in_default-clause-goes
returns-in_default-clause-goes g c =
    line_goes c.args.self.now.lines _ _ c.args.self.now.kept _ c.requires.loud c.in_default.ensures.only (c.args.self.now.log_is_open c.requires.loud) c.in_default.ensures.is_open
    c.in_default.ensures.whole c.in_default.ensures.cause

use Rattle.std.proofs.Common.{◌∙◌, ap}
use Rattle.v6_port.specs.Outside.{Environment}
use Rattle.v6_run.proofs.FrontLemmas.{front_of_first, front_of_both, whole_of_both, whole_on}
use Rattle.v6_run.proofs.memory.write_both.Goals as goal

pub returns-in_err-write_all-clause-front : goal.returns-in_err-write_all-clause-front
returns-in_err-write_all-clause-front g c = λ told. front_of_first _ _ _ _ (c.in_err-write_all.ensures.front told)

pub returns-clause-whole : goal.returns-clause-whole
returns-clause-whole g c =
    whole_on c.write_all-2.result _ _ (λ second told.
    let still = ap (λ (f : Environment). f.tells) c.in_ok-write_all.ensures.only.fixed ∙ told in
    whole_of_both _ _ _ _ _ (c.in_ok-write_all.ensures.whole told) (second still)) c.write_all-2.ensures.whole

pub returns-clause-front : goal.returns-clause-front
returns-clause-front g c = λ told.
    let still = ap (λ (f : Environment). f.tells) c.in_ok-write_all.ensures.only.fixed ∙ told in
    front_of_both _ _ _ _ _ (c.in_ok-write_all.ensures.whole told) (c.write_all-2.ensures.front still)

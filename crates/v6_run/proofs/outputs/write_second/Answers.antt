use Rattle.std.proofs.Common.{rules, ◌++◌, ◌∙◌, ap}
use Rattle.v6_port.specs.Outside.{Environment}
use Rattle.v6_run.proofs.FrontLemmas.{front_of_all}
use Rattle.v6_run.proofs.SecondLemmas.{no_second, second_front, second_more, second_all}
use Rattle.v6_run.specs.Ports.{second_of}
use Rattle.v6_run.proofs.outputs.write_second.Goals as goal

pub numbers-init : goal.numbers-init
numbers-init g c = record {
  only = search rules;
  calm = search rules;
  is_open = c.requires.is_open;
  bytes = λ told. no_second c.args.kernel.now.stored.second _ c.requires.stored;
}

pub returns-in_err-write_all-clause-front : goal.returns-in_err-write_all-clause-front
returns-in_err-write_all-clause-front g c told =
    let now = g.H.Host.outside c.numbers.host in
    let still = ap (λ (f : Environment). f.tells) c.numbers.invariant.only.fixed ∙ told in
    second_front _ _ _ _ _ c.numbers.n c.numbers-test.true (c.numbers.invariant.bytes told) c.second_block.ensures (c.in_err-write_all.ensures.front still)

pub numbers-preserved : goal.numbers-preserved
numbers-preserved g c = record {
  only = search rules;
  calm = search rules;
  is_open = search rules;
  bytes = λ told.
      let still = ap (λ (f : Environment). f.tells) c.numbers.invariant.only.fixed ∙ told in
      second_more _ _ _ _ _ c.numbers.n (c.numbers.invariant.bytes told) c.second_block.ensures (c.in_ok-write_all.ensures.whole still);
}

pub returns-clause-whole : goal.returns-clause-whole
returns-clause-whole g c told =
    c.numbers.invariant.bytes told
    ∙ ap (λ l. (second_of (g.H.Host.outside c.args.host.now)).bytes ++ l) (second_all c.args.kernel.now.stored.second c.numbers.n c.requires.stored c.numbers-test.false c.numbers.auto.n-end)

pub returns-clause-front : goal.returns-clause-front
returns-clause-front g c told = front_of_all _ _ _ (returns-clause-whole g c told)

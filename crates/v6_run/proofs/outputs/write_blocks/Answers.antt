use Rattle.std.proofs.Common.{rules, ◌++◌, ◌∙◌, ap}
use Rattle.v6_port.specs.Outside.{Environment}
use Rattle.v6_run.proofs.FrontLemmas.{front_of_all}
use Rattle.v6_run.proofs.FinalLemmas.{no_blocks, front_more, bytes_more, so_far_all}
use Rattle.v6_run.specs.Ports.{final_of}
use Rattle.v6_run.proofs.outputs.write_blocks.Goals as goal

pub numbers-init : goal.numbers-init
numbers-init g c = record {
  only = search rules;
  calm = search rules;
  is_open = c.requires.is_open;
  bytes = λ told. no_blocks c.args.kernel.now.stored.root _;
}

pub returns-in_err-write_all-clause-front : goal.returns-in_err-write_all-clause-front
returns-in_err-write_all-clause-front g c told =
    let now = g.H.Host.outside c.numbers.host in
    let still = ap (λ (f : Environment). f.tells) c.numbers.invariant.only.fixed ∙ told in
    front_more _ _ _ _ _ c.numbers.n c.numbers-test.true (c.numbers.invariant.bytes told) (c.final_block.ensures.below c.numbers-test.true) (c.in_err-write_all.ensures.front still)

pub numbers-preserved : goal.numbers-preserved
numbers-preserved g c = record {
  only = search rules;
  calm = search rules;
  is_open = search rules;
  bytes = λ told.
      let still = ap (λ (f : Environment). f.tells) c.numbers.invariant.only.fixed ∙ told in
      bytes_more _ _ _ _ _ c.numbers.n (c.numbers.invariant.bytes told) (c.final_block.ensures.below c.numbers-test.true) (c.in_ok-write_all.ensures.whole still);
}

pub returns-clause-whole : goal.returns-clause-whole
returns-clause-whole g c told =
    c.numbers.invariant.bytes told ∙ ap (λ l. (final_of (g.H.Host.outside c.args.host.now)).bytes ++ l) (so_far_all c.args.kernel.now.stored.root c.numbers.n c.numbers-test.false c.numbers.auto.n-end)

pub returns-clause-front : goal.returns-clause-front
returns-clause-front g c told = front_of_all _ _ _ (returns-clause-whole g c told)

use Rattle.std.proofs.Common.{rules, ◌∙◌, ap}
use Rattle.v6_port.specs.Outside.{Environment}
use Rattle.v6_run.proofs.FileLemmas.{failed_write, good_write, piece_more, rest_is, write_within}
use Rattle.v6_run.proofs.files.write_text.Goals as goal

pub returns-in-Err-clause-front : goal.returns-in-Err-clause-front
returns-in-Err-clause-front g c = λ told.
    failed_write _ _ _ _ _ _ c.write.ensures c.in-Err.is ∙ c.text.invariant.bytes told

pub text-preserved : goal.text-preserved
text-preserved g c = record {
  only = search rules;
  calm = search rules;
  is_open = search rules;
  bytes = λ told.
      let still = ap (λ (f : Environment). f.tells) c.text.invariant.only.fixed ∙ told in
      piece_more _ _ _ _ _ c.text.at _ (c.text.invariant.bytes told) (rest_is c.args.text.now c.text.at) (good_write _ _ _ _ _ _ c.write.ensures c.in-Ok.is still);
  within = write_within _ _ _ _ _ _ _ c.write.ensures c.in-Ok.is c.text.invariant.within;
}

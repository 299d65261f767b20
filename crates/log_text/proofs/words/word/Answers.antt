use Rattle.std.proofs.Common.{[], ◌∙◌, ap, rules, tests}
use Rattle.std.specs.Option.{unwrap_or}
use Rattle.std.proofs.lemmas.Iterator.Consumers.{nth_from_yields_List}
use Rattle.std.proofs.lemmas.Iterator.Splits.{YieldsList-from_slice_split}
use Rattle.log_text.proofs.WordLemmas.{seen}
use Rattle.log_text.proofs.words.word.Goals as goal

pub returns : goal.returns
returns c =
    let parts = YieldsList-from_slice_split _ _ c.args.line.now c.split.ensures.rest c.split.ensures.done c.split.ensures.closure (λ x r q k. search (rules, tests)) in
    let found = nth_from_yields_List c.nth.result c.nth.new.self c.args.place c.nth.ensures.ran parts in
    ap (λ b. b.now) c.unwrap_or.ensures ∙ seen c.nth.result _ ∙ ap (λ o. unwrap_or o []) found

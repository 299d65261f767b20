use Rattle.std.proofs.Common.{sym, ◌∙◌, ap}
use Rattle.std.specs.Option.{option_map}
use Rattle.v6_run.specs.Words.{SecondFiles, second_files_value, second_image, run_words_value}
use Rattle.v6_run.specs.Steps.{StopsSecond}
use Rattle.v6_run.proofs.RunLemmas.{other_only, other_read, none_read, other_stops}
use Rattle.v6_run.proofs.run.read_other.Goals as goal

pub returns-in-Ok-clause-only : goal.returns-in-Ok-clause-only
returns-in-Ok-clause-only g c =
    let named = sym c.second.ensures ∙ ap (option_map second_files_value) c.in-Some.is in
    other_only _ _ _ _ (ap (option_map (λ (s : SecondFiles). s.image)) named) c.read_second.ensures.only

pub returns-in-Ok-clause-second : goal.returns-in-Ok-clause-second
returns-in-Ok-clause-second g c =
    let named = sym c.second.ensures ∙ ap (option_map second_files_value) c.in-Some.is in
    other_read c.args.image.now _ _ _ _ (ap (option_map (λ (s : SecondFiles). s.image)) named) c.in-Ok.ensures.good c.in-Ok.ensures.bytes

pub returns-in-Err-clause-only : goal.returns-in-Err-clause-only
returns-in-Err-clause-only g c =
    let named = sym c.second.ensures ∙ ap (option_map second_files_value) c.in-Some.is in
    other_only _ _ _ _ (ap (option_map (λ (s : SecondFiles). s.image)) named) c.read_second.ensures.only

pub returns-in-Err-clause-cause : goal.returns-in-Err-clause-cause
returns-in-Err-clause-cause g c =
    let named = sym c.second.ensures ∙ ap (option_map second_files_value) c.in-Some.is in
    let old = g.H.Host.outside c.args.host.now in
    let new = g.H.Host.outside c.read_second.new.host in
    other_stops (λ name. StopsSecond c.args.image.now name c.in-Err.error old new) _ _ (ap (option_map (λ (s : SecondFiles). s.image)) named) c.in-Err.ensures.cause

pub returns-in-None-clause-second : goal.returns-in-None-clause-second
returns-in-None-clause-second g c =
    none_read _ (second_image (run_words_value c.args.words.now).outputs) _
    (ap (option_map (λ (s : SecondFiles). s.image)) (sym c.second.ensures ∙ ap (option_map second_files_value) c.in-None.is))

use Rattle.std.proofs.Common.{◌≡◌, ◌++◌, OnOk, map, sym, ◌∙◌, ap, subst}
use Rattle.std.proofs.lemmas.List.{append-nil}
use Rattle.std.specs.Option.{option_map}
use Rattle.v6_run.specs.Words.{second_files_value}
use Rattle.v6_run.specs.Opened.{second_outputs}
use Rattle.v6_run.specs.Opening.{output_value}
use Rattle.v6_run.proofs.outputs.add_second.Goals as goal

pub returns-in-Some : goal.returns-in-Some
returns-in-Some c =
    let before = map output_value c.args.outputs.now.items in
    subst (λ o. OnOk c.add_output.result (map output_value c.add_output.new.outputs.items ≡ before ++ second_outputs o))
    (ap (option_map second_files_value) (sym c.in-Some.is) ∙ c.second.ensures) c.add_output.ensures

pub returns-in-None : goal.returns-in-None
returns-in-None c =
    sym (append-nil (map output_value c.args.outputs.now.items))
    ∙ ap (λ o. map output_value c.args.outputs.now.items ++ second_outputs o) (ap (option_map second_files_value) (sym c.in-None.is) ∙ c.second.ensures)

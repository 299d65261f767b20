use Rattle.std.proofs.Common.{[], ◌∷◌, ◌++◌, map, ◌∙◌, ap}
use Rattle.v6_port.specs.declared.host.OutPort.TheVariants.{Term}
use Rattle.v6_run.specs.Opened.{output}
use Rattle.v6_run.specs.Opening.{output_value}
use Rattle.v6_run.proofs.OpeningLemmas.{in_a_row}
use Rattle.v6_run.proofs.outputs.disk_outputs.Goals as goal

pub returns : goal.returns
returns c =
    let term = output Term c.args.files.now.term.now in
    let first = c.in_ok-add_output.ensures ∙ ap (λ l. map output_value l ++ term ∷ []) c.new-outputs.ensures.items in
    in_a_row term _ _ _ _ _ _ _ _ _ first c.in_ok-add_lines.ensures c.in_ok-add_output-2.ensures c.in_ok-add_output-3.ensures c.in_ok-add_second.ensures

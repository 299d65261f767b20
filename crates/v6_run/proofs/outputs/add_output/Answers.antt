use Rattle.std.proofs.Common.{[], ◌∷◌, ◌++◌, map, ◌∙◌, ap}
use Rattle.std.proofs.lemmas.List.{map-append}
use Rattle.v6_run.specs.Opened.{output}
use Rattle.v6_run.specs.Opening.{output_value}
use Rattle.v6_run.proofs.outputs.add_output.Goals as goal

pub returns : goal.returns
returns c =
    let held = c.args.outputs.now.items in
    ap (map output_value) c.in_ok-push.ensures.items ∙ map-append output_value held _
    ∙ ap (λ n. map output_value held ++ output c.args.port n ∷ []) c.in_ok-name.ensures.ok

use Rattle.std.proofs.Common.{◌+◌, slice_index, Some, ◌∙◌}
use Rattle.fs_nodes.specs.Keys.{joined}
use Rattle.fs_nodes.proofs.SideLemmas.{zeros_joined}
use Rattle.fs_nodes.proofs.nodes.Nodes.new2.Goals as goal

pub returns-clause-none : goal.returns-clause-none
returns-clause-none c = λ key.
    (λ j. slice_index (joined (c.new-root.ensures.none j) (Some (c.new-second.ensures.none j))) key)
    ∙ zeros_joined (c.new-root.result.store.count + 1) (c.new-second.result.store.count + 1) key

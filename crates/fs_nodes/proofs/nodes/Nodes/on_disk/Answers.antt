use Rattle.std.proofs.Common.{◌≡◌}
use Rattle.fs_nodes.proofs.FormLemmas.{stored_second}
use Rattle.fs_nodes.proofs.NewLemmas.{dev_zero}
use Rattle.fs_nodes.proofs.nodes.Nodes.on_disk.Goals as goal
use Rattle.fs_nodes.proofs.nodes.Nodes.on_disk.Goals.{in_default-via-in-Some+else-dev-ne0, in_default-via-in_default}

pub returns-in-Some-clause-second : goal.returns-in-Some-clause-second
returns-in-Some-clause-second c = λ far.
    stored_second c.self.inside.root c.in-Some.second c.self.inside.second c.args.self.now c.on_disk.result.now c.args.n c.in-Some.is c.self.view_is c.on_disk.ensures

pub returns-in_default-clause-second : goal.returns-in_default-clause-second
returns-in_default-clause-second c =
    let zero : c.args.dev ≡ 0 = elim c.in_default.branch [
      | in_default-via-in-Some+else-dev-ne0 w ↦ w.if-dev-ne0.false
      | in_default-via-in_default w ↦ dev_zero c.args.dev c.self.inside.root c.self.inside.second c.args.self.now w.in_default.is c.self.view_is c.requires.there
    ] in
    λ far. absurd (far zero)

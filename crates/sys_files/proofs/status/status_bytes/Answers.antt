use Rattle.std.proofs.Common.{refl, ◌∙◌}
use Rattle.sys_files.proofs.StatusLemmas.{told_bytes}
use Rattle.sys_files.proofs.status.status_bytes.Goals as goal

pub returns : goal.returns
returns c = λ file shows. told_bytes c.args.dev c.args.ino c.args.node.now file _ _ _ _ shows c.without_addresses.ensures
    (c.copy_from_slice.ensures.after ∙ c.number_bytes.ensures) (c.copy_from_slice-2.ensures.after
    ∙ c.node_bytes.ensures) refl

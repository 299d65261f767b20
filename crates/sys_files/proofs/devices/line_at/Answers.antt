use Rattle.std.proofs.Common.{Option, unwrap_or, sym, ap, ◌∙◌}
use Rattle.fs_codec.specs.Store.{Node}
use Rattle.sys_files.specs.Handed.{line_of, no_node}
use Rattle.sys_files.proofs.devices.line_at.Goals as goal

pub returns-clause-line : goal.returns-clause-line
returns-clause-line c = λ h same.
    let shown = c.inode_of.ensures in
    c.line_of.ensures.line h shown.0 same shown.2 ∙ ap (λ (o : Option Node). line_of h (unwrap_or o no_node)) (sym shown.1)

use Rattle.std.proofs.Common.{is_some, ap, ◌∙◌}
use Rattle.sys_files.proofs.devices.is_line.Goals as goal

pub returns : goal.returns
returns c = λ h node same shown. c.is_some.ensures ∙ ap is_some (c.line_of.ensures.line h node same shown)

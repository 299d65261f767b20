use Rattle.std.proofs.Common.{Option, unwrap_or, sym, ap, ◌∙◌}
use Rattle.fs_codec.specs.Modes.{is_device}
use Rattle.fs_codec.specs.Store.{Node}
use Rattle.sys_files.specs.Handed.{no_node}
use Rattle.sys_files.specs.Opening.{can_open}
use Rattle.sys_files.proofs.LineLemmas.{can_plain, can_line, can_null}
use Rattle.sys_files.proofs.opening.can_open.Goals as goal

pub returns-then-not-is_device : goal.returns-then-not-is_device
returns-then-not-is_device c = λ h same.
    let shown = c.inode_of-inode.ensures in
    sym (ap (λ (o : Option Node). can_open h (unwrap_or o no_node)) shown.1
    ∙ can_plain h shown.0 (sym (ap is_device shown.2.mode) ∙ sym c.is_device.ensures ∙ c.if-not-is_device.true))

pub returns-then-is_line : goal.returns-then-is_line
returns-then-is_line c = λ h same.
    let shown = c.inode_of-inode.ensures in
    c.if-is_line.true ∙ sym (ap (λ (o : Option Node). can_open h (unwrap_or o no_node)) shown.1
    ∙ can_line h shown.0 (sym (c.is_line.ensures h shown.0 same shown.2) ∙ c.if-is_line.true))

pub returns-else-is_line : goal.returns-else-is_line
returns-else-is_line c = λ h same.
    let shown = c.inode_of-inode.ensures in
    c.is_null.ensures shown.0 shown.2
    ∙ sym (ap (λ (o : Option Node). can_open h (unwrap_or o no_node)) shown.1
    ∙ can_null h shown.0 (sym (ap is_device shown.2.mode) ∙ sym c.is_device.ensures ∙ c.if-not-is_device.false)
    (sym (c.is_line.ensures h shown.0 same shown.2) ∙ c.if-is_line.false))

use Rattle.std.proofs.Common.{◌∙◌, ◌&&◌, sym, ap}
use Rattle.sys_files.specs.Handed.{r0}
use Rattle.sys_files.specs.Descriptors.{open_entry}
use Rattle.abstract_unix.specs.declared.calls.FileCall.{FileCall}
use Rattle.abstract_unix.specs.Calls.{is_read, is_of_disk}
use Rattle.unix_core.proofs.WaitLemmas.{not_read}
use Rattle.unix_core.proofs.process.asks_disk.Goals as goal

pub returns-in-Read : goal.returns-in-Read
returns-in-Read c h is =
    c.names_disk.ensures h is ∙ ap (λ (call : FileCall). is_read call && is_of_disk h (open_entry h (r0 h))) (sym c.in-Read.is)

pub returns-in_default : goal.returns-in_default
returns-in_default c h is = sym (ap (λ b. b && is_of_disk h (open_entry h (r0 h))) (not_read c.args.call c.in_default.not-Read))

use Rattle.std.proofs.Common.{◌∙◌, ◌&&◌, sym}
use Rattle.sys_files.specs.Handed.{r0}
use Rattle.sys_files.specs.Descriptors.{open_entry}
use Rattle.abstract_unix.specs.Calls.{is_read, is_of_disk}
use Rattle.abstract_unix.proofs.AtOnce.{at_once}
use Rattle.unix_core.specs.Parts.{unix_of}
use Rattle.unix_core.proofs.WaitLemmas.{some_takes}
use Rattle.unix_core.proofs.process.may_wait.Goals as goal

pub returns-then-world-eq0 : goal.returns-then-world-eq0
returns-then-world-eq0 c h is =
    sym ((at_once (unix_of c.args.world.now)).waits c.if-world-eq0.true (is_read c.args.call && is_of_disk h (open_entry h (r0 h))))

pub returns : goal.returns
returns c h is =
    c.asks_disk.ensures h is
    ∙ some_takes (is_read c.args.call && is_of_disk h (open_entry h (r0 h))) c.args.world.now.slots.disk c.if-world-eq0.false

use Rattle.std.proofs.Common.{arith}
use Rattle.open_files.proofs.FilesLemmas.{named_left, named_gone}
use Rattle.open_files.proofs.table.let_go.Goals as goal

pub returns-then-file-eq0-clause-named : goal.returns-then-file-eq0-clause-named
returns-then-file-eq0-clause-named c = named_gone c.args.files.now c.args.entry c.requires.named

pub returns-else-file-eq0-clause-named : goal.returns-else-file-eq0-clause-named
returns-else-file-eq0-clause-named c = named_left c.args.files.now c.args.entry _ c.requires.named (omega (arith, c.if-file-eq0.false))

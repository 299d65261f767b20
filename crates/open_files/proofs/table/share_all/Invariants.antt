use Rattle.std.proofs.Common.{◌≡◌, take}
use Rattle.open_files.specs.Files.{shared}
use Rattle.open_files.proofs.table.share_all.Given as goal

abbrev pub invariant-loop-number : goal.invariant-loop-number
invariant-loop-number l = l.files ≡ shared l.fn.files (take l.number-index l.mine)

use Rattle.std.proofs.Common.{◌<◌, ℕ, slice_index, IsSome}
use Rattle.open_files.specs.Files.{file_at, entry_of}
use Rattle.file_rows.proofs.file_system.files.are_open.Given as goal

abbrev pub invariant-loop-number : goal.invariant-loop-number
invariant-loop-number l = (fd : ℕ) → fd < l.number-index → 0 < slice_index l.mine fd → IsSome (file_at l.table (entry_of l.mine fd))

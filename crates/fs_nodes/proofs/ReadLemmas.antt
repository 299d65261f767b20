-- What a disk has while blocks are read and none changes.
use Rattle.std.proofs.Common.{◌≡◌, List, sym, subst}
use Rattle.buf_cache.specs.Blocks.{WritesLate}
use Rattle.fs_blocks.specs.State.{Mounted}
use Rattle.fs_nodes.specs.declared.one_disk.table.Referenced.{Referenced}
use Rattle.fs_nodes.specs.one_disk.FileSystem.{FileSystem}
use Rattle.fs_nodes.specs.one_disk.Table.{files_of}

-- Nothing more is written.
pub late_still : (old middle new : Mounted) → new.stored ≡ middle.stored → WritesLate old.stored old.state.blocks middle.stored
    → WritesLate old.stored old.state.blocks new.stored
late_still old middle new same late = subst (λ s. WritesLate old.stored old.state.blocks s) (sym same) late

-- the same to those who see a file system
pub files_late : (old new : Mounted) (entries : List Referenced) (fs : FileSystem) → files_of old entries ≡ fs
    → WritesLate old.stored old.state.blocks new.stored → WritesLate fs.stored fs.blocks new.stored
files_late old new entries fs view late = subst (λ (f : FileSystem). WritesLate f.stored f.blocks new.stored) view late

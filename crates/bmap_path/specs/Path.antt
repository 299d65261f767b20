-- The blocks on the way to a block of a file: file system(V) of the UNIX Programmer's Manual, and bmap in Lions' Commentary.
use Rattle.std.specs.Prelude.{ℕ, Bool, true, false, ◌/◌, nat_lt, if◌then◌else◌, List, [], ◌∷◌}
use Rattle.bmap_path.specs.declared.TheConstants.{SMALL_BLOCKS, INDIRECT_BLOCKS, DOUBLE_START}
use Rattle.bmap_path.specs.declared.BlockName.{BlockName}
use Rattle.bmap_path.specs.declared.BlockName.TheVariants.{Data, Ind, Dbl}

-- Seven indirect blocks of a large file stand for 256 blocks each, 1,792 in all; those of what follows are named by the
-- double indirect block.
abbrev pub large_path : ℕ → List BlockName
large_path bn =
    if nat_lt bn DOUBLE_START then Ind (bn / INDIRECT_BLOCKS) ∷ Data bn ∷ []
    else Dbl ∷ Ind (bn / INDIRECT_BLOCKS) ∷ Data bn ∷ []

-- A small file has eight blocks. It becomes large by its first indirect block, which is not named a second time.
abbrev pub path_of : Bool → ℕ → List BlockName
path_of true bn = large_path bn
path_of false bn =
    if nat_lt bn SMALL_BLOCKS then Data bn ∷ []
    else (if nat_lt bn INDIRECT_BLOCKS then large_path bn else Ind 0 ∷ large_path bn)

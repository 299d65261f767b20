-- A block of a file.
use Rattle.std.specs.Prelude.{◌≡◌, ◌≢◌, ℕ, length}
use Rattle.bmap_path.specs.declared.BlockName.TheVariants.{Data}
use Rattle.fs_codec.specs.Fields.{Inode}
use Rattle.fs_codec.specs.Disk.{Disk}
use Rattle.fs_codec.specs.Held.{address, addresses}
use Rattle.fs_laws.specs.Whole.{IsApart}

-- A block is data block n of a file whose blocks are apart.
pub record IsBlock (disk : Disk) (node : Inode) (n b : ℕ) : Type 0 where
  pub long : length node.addr ≡ 8
  pub apart : IsApart disk (addresses disk node)
  pub here : address disk node (Data n) ≡ b
  pub some : b ≢ 0

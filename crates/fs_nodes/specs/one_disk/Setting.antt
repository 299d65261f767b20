-- What a call sets of an inode: `inode.h` and `sys4.c` in Lions' Commentary.
use Rattle.std.specs.Prelude.{◌≡◌, ◌≢◌, true, slice_set, bit_and}
use Rattle.fs_codec.specs.Fields.{Inode}
use Rattle.fs_codec.specs.Modes.{file_type, is_large, is_device}
use Rattle.fs_codec.specs.declared.modes.TheConstants.{IALLOC}
use Rattle.fs_codec.specs.Store.{Node}
use Rattle.fs_nodes.specs.declared.one_disk.setters.Setting.{Setting}
use Rattle.fs_nodes.specs.declared.one_disk.setters.Setting.TheVariants.{Mode, Owner, Links, Device, Empty}

-- the inode with what is set
abbrev pub set_in : Setting → Inode → Inode
set_in (Mode mode time) inode = record inode { mode = mode; modtime = time }
set_in (Owner uid gid time) inode = record inode { uid = uid; gid = gid; modtime = time }
set_in (Links nlink time) inode = record inode { nlink = nlink; modtime = time }
set_in (Device device) inode = record inode { addr = slice_set inode.addr 0 device }
set_in Empty inode = record inode { size = 0 }

-- and its node
abbrev pub set_of : Setting → Node → Node
set_of (Mode mode time) node = record node { mode = mode; modtime = time }
set_of (Owner uid gid time) node = record node { uid = uid; gid = gid; modtime = time }
set_of (Links nlink time) node = record node { nlink = nlink; modtime = time }
set_of (Device device) node = record node { device = device }
set_of Empty node = record node { size = 0 }

-- No mode sets another type, and only a device has a device's number.
abbrev pub CanSet : Setting → Node → Type 0
CanSet (Mode mode time) node =
    (bit_and mode IALLOC ≢ 0) × (file_type mode ≡ file_type node.mode) × (is_large mode ≡ is_large node.mode)
CanSet (Owner uid gid time) node = Unit {0}
CanSet (Links nlink time) node = Unit {0}
CanSet (Device device) node = is_device node.mode ≡ true
CanSet Empty node = Unit {0}

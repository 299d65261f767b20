-- Super-blocks, inodes and entries are equal where their fields are.
use Rattle.std.proofs.Common.{◌≡◌}
use Rattle.fs_codec.specs.Fields.{Inode}
use Rattle.fs_codec.specs.declared.entry.DirEntry.{DirEntry}
use Rattle.fs_codec.specs.declared.super_block.SuperBlock.{SuperBlock}

pub one_inode : (m n : Inode) → m.mode ≡ n.mode → m.nlink ≡ n.nlink → m.uid ≡ n.uid → m.gid ≡ n.gid → m.size ≡ n.size → m.addr ≡ n.addr → m.actime ≡ n.actime → m.modtime ≡ n.modtime → m ≡ n
one_inode m n a b c d e f g h i = record { mode = a i; nlink = b i; uid = c i; gid = d i; size = e i; addr = f i; actime = g i; modtime = h i }

pub one_super : (s t : SuperBlock) → s.i_size ≡ t.i_size → s.f_size ≡ t.f_size → s.nfree ≡ t.nfree → s.free ≡ t.free → s.ninode ≡ t.ninode → s.inode ≡ t.inode → s.flock ≡ t.flock → s.ilock ≡ t.ilock → s.fmod ≡ t.fmod → s.ronly ≡ t.ronly → s.time ≡ t.time → s ≡ t
one_super s t a b c d e f g h j k l i = record { i_size = a i; f_size = b i; nfree = c i; free = d i; ninode = e i; inode = f i; flock = g i; ilock = h i; fmod = j i; ronly = k i; time = l i }

pub one_entry : (m n : DirEntry) → m.ino ≡ n.ino → m.name ≡ n.name → m ≡ n
one_entry m n a b i = record { ino = a i; name = b i }

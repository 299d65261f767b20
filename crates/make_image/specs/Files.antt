-- The files of the image that is built: what is in each, and the inodes that they have.
use Rattle.std.specs.Prelude.{ℕ, ◌+◌, ◌*◌, ◌/◌, ◌%◌, List, [], ◌∷◌, ◌++◌, map, codes}
use Rattle.std.specs.List.{range_with_len, flat_map}
use Rattle.fs_codec.specs.declared.entry.DirEntry.{DirEntry}
use Rattle.fs_codec.specs.declared.modes.TheConstants.{IALLOC, IFDIR, IFCHR}
use Rattle.fs_codec.specs.Bytes.{bytes_of, entry_bytes}
use Rattle.make_image.specs.Padded.{padded}

-- a directory's or a plain file's bytes, or the numbers of a device, 256 * major + minor
pub data Content : Type 0 where
  Bytes : List ℕ → Content
  Device : ℕ → Content

pub record Node : Type 0 where
  pub mode : ℕ
  pub nlink : ℕ
  pub content : Content

-- An entry's name is padded up with NULs.
unfoldable pub entry : ℕ → List ℕ → DirEntry
entry ino name = record { ino = ino; name = padded 14 name }

abbrev pub directory : ℕ → List DirEntry → Node
directory nlink entries =
    record { mode = IALLOC + IFDIR + 0o755; nlink = nlink; content = Bytes (flat_map entry_bytes entries) }

abbrev pub device : ℕ → Node
device numbers = record { mode = IALLOC + IFCHR + 0o666; nlink = 1; content = Device numbers }

-- the words of /etc/init: the header of a.out(V), which says 0156 bytes of text and 0144 of bss, and the text
unfoldable pub init : List ℕ
init =
    0o000407 ∷ 0o000156 ∷ 0o000000 ∷ 0o000144 ∷ 0o000000 ∷ 0o000000 ∷ 0o000000 ∷ 0o000000
    ∷ 0o104405 ∷ 0o000134 ∷ 0o000002 ∷ 0o012704 ∷ 0o000003 ∷ 0o104402 ∷ 0o000442 ∷ 0o077403
    ∷ 0o012704 ∷ 0o000003 ∷ 0o104407 ∷ 0o060103 ∷ 0o077403 ∷ 0o000303 ∷ 0o062703 ∷ 0o000060
    ∷ 0o110337 ∷ 0o000152 ∷ 0o005000 ∷ 0o104404 ∷ 0o000146 ∷ 0o000006 ∷ 0o005000 ∷ 0o104404
    ∷ 0o000154 ∷ 0o000002 ∷ 0o005000 ∷ 0o104403 ∷ 0o000156 ∷ 0o000144 ∷ 0o005700 ∷ 0o001407
    ∷ 0o010037 ∷ 0o000112 ∷ 0o005000 ∷ 0o104404 ∷ 0o000156 ∷ 0o000000 ∷ 0o000757 ∷ 0o005000
    ∷ 0o104401 ∷ 0o012705 ∷ 0o001750 ∷ 0o077501 ∷ 0o010400 ∷ 0o104401 ∷ 0o062057 ∷ 0o073145
    ∷ 0o072057 ∷ 0o074564 ∷ 0o000070 ∷ 0o072563 ∷ 0o020155 ∷ 0o005000 ∷ 0o020045 ∷ []

-- f00, f01 and so on, in decimal digits
abbrev pub name_of : ℕ → List ℕ
name_of k = codes "f" ++ (0o060 + k / 10) ∷ (0o060 + k % 10) ∷ []

-- the entries of the four directories, in the order of inodes; /u has so many files
abbrev pub root : List DirEntry
root = entry 1 (codes ".") ∷ entry 1 (codes "..") ∷ entry 2 (codes "etc") ∷ entry 3 (codes "dev") ∷ entry 4 (codes "u") ∷ []

abbrev pub etc : List DirEntry
etc = entry 2 (codes ".") ∷ entry 1 (codes "..") ∷ entry 7 (codes "init") ∷ []

abbrev pub dev : List DirEntry
dev = entry 3 (codes ".") ∷ entry 1 (codes "..") ∷ entry 5 (codes "tty8") ∷ entry 6 (codes "null") ∷ []

abbrev pub users : ℕ → List DirEntry
users count = entry 4 (codes ".") ∷ entry 1 (codes "..") ∷ map (λ k. entry (8 + k) (name_of k)) (range_with_len 0 count)

-- how many bytes file k of build n has, and byte i of it
abbrev pub size_of : ℕ → ℕ → ℕ
size_of n k = (331 * (k + 1) + 97 * n) % 3000

abbrev pub byte_of : ℕ → ℕ → ℕ → ℕ
byte_of n k i = (n + k + i) % 256

abbrev pub plain_file : ℕ → ℕ → Node
plain_file n k =
    record { mode = IALLOC + 0o644; nlink = 1; content = Bytes (map (byte_of n k) (range_with_len 0 (size_of n k))) }

-- inodes 1 to 7: the root, /etc, /dev, /u, /dev/tty8, /dev/null, /etc/init
unfoldable pub fixed_nodes : ℕ → List Node
fixed_nodes n =
    directory 5 root ∷ directory 2 etc ∷ directory 2 dev ∷ directory 2 (users (n % 100))
    ∷ device 0 ∷ device 2050
    ∷ record { mode = IALLOC + 0o755; nlink = 1; content = Bytes (bytes_of init) }
    ∷ []

-- from inode 8 on: /u/f00, /u/f01 and so on
abbrev pub nodes : ℕ → List Node
nodes n = fixed_nodes n ++ map (plain_file n) (range_with_len 0 (n % 100))

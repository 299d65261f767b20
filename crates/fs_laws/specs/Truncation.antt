-- A file gives all its blocks back: itrunc in Lions' Commentary, `iget.c`.
use Rattle.std.specs.Prelude.{ℕ, Bool, false, ◌-◌, if◌then◌else◌, List, [], replicate, count_by, bit_and, bit_or}
use Rattle.fs_codec.specs.Modes.{is_device}
use Rattle.fs_codec.specs.Store.{Node}
use Rattle.fs_codec.specs.declared.modes.TheConstants.{ILARG, IALLOC}

-- The file is small, and used.
abbrev pub truncated_mode : ℕ → ℕ
truncated_mode mode = bit_or (bit_and mode (65535 - ILARG)) IALLOC

-- no name is held
unfoldable pub no_names : List Bool
no_names = replicate 67592 false

-- A device has no blocks, and stays as it is.
abbrev pub truncated : Node → Node
truncated node =
    if is_device node.mode then node
    else record node { mode = truncated_mode node.mode; size = 0; held = no_names; body = [] }

-- how many blocks a file holds
abbrev pub names_held : Node → ℕ
names_held node = count_by (λ held. held) node.held

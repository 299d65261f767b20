-- The program of process 1: `icode` in Lions' Commentary, `main.c`.
use Rattle.std.specs.Prelude.{ℕ, List, [], ◌∷◌, ◌++◌, replicate}
use Rattle.fs_codec.specs.Bytes.{bytes_of}

-- exec, with the name at 014 and the list of arguments at 010, and a branch to itself; the list, which is the name and the
-- end; and the name, `/etc/init`.
abbrev pub init_words : List ℕ
init_words =
    0o104413 ∷ 0o000014 ∷ 0o000010 ∷ 0o000777 ∷ 0o000014 ∷ 0o000000
    ∷ 0o062457 ∷ 0o061564 ∷ 0o064457 ∷ 0o064556 ∷ 0o000164 ∷ []

-- They are its data, of one click.
unfoldable pub init_data : List ℕ
init_data = bytes_of init_words ++ replicate 42 0

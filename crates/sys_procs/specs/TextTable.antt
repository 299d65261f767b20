-- The table of the texts that processes share: `text.h` in Lions' Commentary.
use Rattle.std.specs.Prelude.{ℕ, ◌==◌, Bool, false, List, [], map, replicate, position, slice_index_or, slice_set, Option, Some, None}
use Rattle.std.specs.List.{list_any, range_with_len}
use Rattle.std.specs.Option.{unwrap_or}
use Rattle.fs_tree.specs.declared.marks.TheConstants.{INODE_NUMBERS}

pub record Text : Type 0 where
  pub ino : ℕ
  pub bytes : List ℕ
  pub users : ℕ

-- no text is shared
unfoldable pub no_texts : List (Option Text)
no_texts = replicate 40 None

-- what stands for a text where an entry is free
abbrev pub no_text : Text
no_text = record { ino = 0; bytes = []; users = 0 }

abbrev pub text_of : List (Option Text) → ℕ → Text
text_of texts k = unwrap_or (slice_index_or texts k None) no_text

abbrev pub with_text : List (Option Text) → ℕ → Text → List (Option Text)
with_text texts k text = slice_set texts k (Some text)

-- the bytes of the text that a process shares, if any
abbrev pub text_bytes : List (Option Text) → Option ℕ → List ℕ
text_bytes texts None = []
text_bytes texts (Some k) = (text_of texts k).bytes

-- a text of this inode
abbrev pub is_text_of : ℕ → Option Text → Bool
is_text_of ino None = false
is_text_of ino (Some text) = text.ino == ino

-- the entry with the text of an inode
abbrev pub entry_of : List (Option Text) → ℕ → Option ℕ
entry_of texts ino = position (is_text_of ino) texts

-- which inodes have a text that is shared, by their numbers
unfoldable pub marks_of : List (Option Text) → List Bool
marks_of texts = map (λ ino. list_any (is_text_of ino) texts) (range_with_len 0 INODE_NUMBERS)

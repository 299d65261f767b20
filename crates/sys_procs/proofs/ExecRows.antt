-- Rows of the tests of exec(II) on a header that has been read, worked by hand.
use Rattle.std.proofs.Common.{◌≡◌, ℕ, true, false, List, [], ◌∷◌, ◌++◌, refl, replicate, Option, Some, None, Err}
use Rattle.v6_base.specs.declared.errno.Errno.{Errno}
use Rattle.v6_base.specs.declared.errno.Errno.TheVariants.{ENOEXEC, ENOMEM, ENOSPC}
use Rattle.fs_codec.specs.Store.{Node}
use Rattle.fs_laws.specs.Pieces.{Moving}
use Rattle.aout_head.specs.Header.{Header, header_of}
use Rattle.sys_procs.specs.World.{World}
use Rattle.sys_procs.specs.TextTable.{Text}
use Rattle.sys_procs.specs.ExecFile.{is_busy_in, text_clicks_in, tests_header, kept_handler}

-- so many bytes of a header were read, which begin like this, and the rest is zeros
header : Node → ℕ → List ℕ → ℕ → Option Errno → Moving (List ℕ)
header node room front done error =
    record { node = node; room = room; memory = front ++ replicate 8 0; done = done; error = error }

module _ (w : World) (ino : ℕ) (args : List (List ℕ)) (node : Node) (room : ℕ) where
  -- a hole that finds no room, also in a file that is too short
  no_room : (tests_header w ino args (header node room (replicate 8 0) 0 (Some ENOSPC))).answer ≡ Err ENOSPC
  unfolding header
  no_room = refl

  -- fifteen bytes of a good header
  short : (tests_header w ino args (header node room (7 ∷ 1 ∷ 0o40 ∷ replicate 5 0) 15 None)).answer ≡ Err ENOEXEC
  unfolding header
  short = refl

  -- 0412
  other_magic : (tests_header w ino args (header node room (0o12 ∷ 1 ∷ 0o40 ∷ replicate 5 0) 16 None)).answer ≡ Err ENOEXEC
  unfolding header
  other_magic = refl

  -- 0411 without a text
  separate : (tests_header w ino args (header node room (9 ∷ 1 ∷ 0 ∷ 0 ∷ 0o40 ∷ replicate 3 0) 16 None)).answer ≡ Err ENOMEM
  unfolding header
  separate = refl

  -- 0407 with 65,535 bytes each of text, of data and of bss: 3,072 clicks
  largest : (tests_header w ino args (header node room (7 ∷ 1 ∷ replicate 6 255) 16 None)).answer ≡ Err ENOMEM
  unfolding header
  largest = refl

-- The text of inode 7 is in an entry, and has two clicks.
texts : List (Option Text)
texts = None ∷ Some (record { ino = 7; bytes = replicate 128 0; users = 1 }) ∷ []

-- a header of a program with a text of 32 bytes
with_text : ℕ → Header
with_text magic = header_of (magic ∷ 1 ∷ 0o40 ∷ replicate 13 0)

-- 0410, whose file is in use elsewhere, and is in no entry
busy : is_busy_in texts 2 8 (with_text 0o10) ≡ true
unfolding texts with_text
busy = refl

-- which only this call uses
alone : is_busy_in texts 1 8 (with_text 0o10) ≡ false
unfolding texts with_text
alone = refl

-- which is in an entry
shared : is_busy_in texts 5 7 (with_text 0o10) ≡ false
unfolding texts with_text
shared = refl

-- 0407
plain : is_busy_in texts 5 8 (with_text 7) ≡ false
unfolding texts with_text
plain = refl

-- The clicks of a text are its entry's, if there is one, and none where the header says that there is no text.
of_entry : text_clicks_in texts 7 (record { text = 32; init = 0; bss = 0 }) ≡ 2
unfolding texts
of_entry = refl

of_header : text_clicks_in texts 8 (record { text = 32; init = 0; bss = 0 }) ≡ 1
unfolding texts
of_header = refl

none : text_clicks_in texts 7 (record { text = 0; init = 32; bss = 0 }) ≡ 0
unfolding texts
none = refl

-- a routine goes, and what is ignored stays
routine : kept_handler 0o1000 ≡ 0
routine = refl

ignored : kept_handler 1 ≡ 1
ignored = refl

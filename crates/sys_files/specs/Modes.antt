-- The modes of a terminal: stty(II), gtty(II) of the UNIX Programmer's Manual; Lions' Commentary, `sgtty` in `tty.c`.
use Rattle.std.specs.Prelude.{ℕ, not, ◌%◌, ◌==◌, List, [], ◌∷◌, Option, None, unwrap_or, Result, Ok, Err, if◌then◌else◌}
use Rattle.v6_base.specs.Copy.{load_bytes, store_bytes}
use Rattle.v6_base.specs.declared.errno.Errno.{Errno}
use Rattle.v6_base.specs.declared.errno.Errno.TheVariants.{ENOTTY, ENODEV, EFAULT}
use Rattle.fs_codec.specs.Bytes.{bytes_of}
use Rattle.fs_codec.specs.Words.{word}
use Rattle.fs_codec.specs.Modes.{is_character_device}
use Rattle.fs_codec.specs.Store.{Node}
use Rattle.tty_line.specs.Said.{Said, with_modes}
use Rattle.lines_eight.specs.Told.{told}
use Rattle.sys_files.specs.Handed.{Handed, r0, node_at, file_of, line_of, line_at, with_line, is_null}
use Rattle.sys_files.specs.Did.{Did, is_done, check, need}
use Rattle.sys_files.specs.Descriptors.{open_entry}
use Rattle.sys_files.specs.Status.{with_stored}

-- The line that an open file is: it has to be a terminal, and the null device is none. No other character device can be opened.
abbrev pub terminal_line : Handed → Node → Result ℕ Errno
terminal_line h node =
    if not (is_character_device node.mode) then Err ENOTTY
    else (if is_null node then Err ENODEV else Ok (unwrap_or (line_of h node) 0))

-- the number in R0 has to name a terminal
abbrev pub of_terminal : Handed → (ℕ → Did) → Did
of_terminal h does =
    check h (open_entry h (r0 h)) (λ entry.
    check h (terminal_line h (node_at h (file_of h entry).ino)) does)

-- The three words at an even address. Words at an odd one can't be read or written.
abbrev pub words_at : Handed → ℕ → Option (List ℕ)
words_at h at = if at % 2 == 1 then None else load_bytes h.image at 6

-- the modes are set: the bytes that wait go out, what was typed is lost, and who waits is woken
abbrev pub sets_modes : Handed → ℕ → List ℕ → Did
sets_modes h l bytes =
    let s : Said = with_modes (line_at h l) (word bytes 0 ∷ word bytes 2 ∷ word bytes 4 ∷ []) in
    record (is_done (with_line h l s.terminal)) { items = told l s }

-- 31, stty: of the number in R0, the address of three words
abbrev pub stty_set : Handed → ℕ → Did
stty_set h at = of_terminal h (λ l. check h (need EFAULT (words_at h at)) (sets_modes h l))

-- the three words are written, all of them or none
abbrev pub tells_modes : Handed → ℕ → ℕ → Did
tells_modes h l at =
    with_stored h (if at % 2 == 1 then None else store_bytes h.image at (bytes_of (line_at h l).modes))

-- 32, gtty: of the number in R0, the address to which the three words are written
abbrev pub gtty_get : Handed → ℕ → Did
gtty_get h at = of_terminal h (λ l. tells_modes h l at)

-- What stty and gtty come to, by their tests.
use Rattle.std.proofs.Common.{◌≡◌, ◌<◌, ℕ, List, length, slice_index, arith, Result, Ok, Err, sym, ap, ◌∙◌}
use Rattle.v6_base.specs.declared.errno.Errno.{Errno}
use Rattle.fs_codec.specs.Bytes.{bytes_of}
use Rattle.fs_codec.specs.Words.{words}
use Rattle.fs_codec.proofs.BytesLemmas.{bytes_of_words, part_whole}
use Rattle.open_files.specs.declared.file.OpenFile.{OpenFile}
use Rattle.sys_files.specs.Handed.{Handed, r0, node_at, file_of}
use Rattle.sys_files.specs.Did.{Did, fails, check}
use Rattle.sys_files.specs.Descriptors.{open_entry}
use Rattle.sys_files.specs.Modes.{terminal_line, of_terminal}
use Rattle.sys_files.proofs.CheckLemmas.{check_ok, check_err}

-- the bytes of three words
pub mode_bytes_are : (modes b : List ℕ) → length modes ≡ 3 → length b ≡ 6 → ((k : ℕ) → slice_index b k < 256) → words b 0 (length modes) ≡ modes
    → b ≡ bytes_of modes
mode_bytes_are modes b three long fits here =
    let words_are : words b 0 3 ≡ modes = ap (words b 0) (sym three) ∙ here in
    sym (ap bytes_of (sym words_are) ∙ bytes_of_words b 0 3 (omega (arith, long)) fits ∙ part_whole b 6 long)

-- by the tests of the file that the number names
pub terminal_is : (h : Handed) (does : ℕ → Did) (entry : ℕ) (file : OpenFile) (line : Result ℕ Errno) → Ok entry ≡ open_entry h (r0 h)
    → file ≡ file_of h entry → line ≡ terminal_line h (node_at h file.ino) → of_terminal h does ≡ check h line does
terminal_is h does entry file line found is tested =
    let asked : OpenFile → Did = λ (x : OpenFile). check h (terminal_line h (node_at h x.ino)) does in
    check_ok h (open_entry h (r0 h)) (λ e. asked (file_of h e)) entry (sym found) ∙ ap asked (sym is)
    ∙ ap (λ r. check h r does) (sym tested)

pub terminal_refused : (h : Handed) (does : ℕ → Did) (e : Errno) → Err e ≡ open_entry h (r0 h) → of_terminal h does ≡ fails h e
terminal_refused h does e found = check_err h (open_entry h (r0 h)) _ e (sym found)

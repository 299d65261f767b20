-- What a seek comes to, by its tests, and what it keeps.
use Rattle.std.proofs.Common.{◌≡◌, ℕ, Bool, true, false, not, Result, Ok, Err, refl, sym, ap, ◌∙◌}
use Rattle.v6_base.specs.declared.errno.Errno.{Errno}
use Rattle.v6_base.specs.declared.errno.Errno.TheVariants.{ESPIPE}
use Rattle.open_files.specs.declared.file.OpenFile.{OpenFile}
use Rattle.open_files.specs.Files.{with_change, with_offset}
use Rattle.sys_files.specs.Handed.{Handed, r0, node_at, file_of}
use Rattle.sys_files.specs.Did.{Did, fails, is_done, check, must}
use Rattle.sys_files.specs.Descriptors.{open_entry}
use Rattle.sys_files.specs.Moving.{seek_mode, sought, seek_to}
use Rattle.sys_files.specs.Sound.{IsSound, IsKept}
use Rattle.sys_files.proofs.KeptLemmas.{kept_same}
use Rattle.sys_files.proofs.OffsetLemmas.{kept_moved}

-- the parts after a seek of an entry
abbrev pub seen_from : Handed → ℕ → ℕ → ℕ → Handed
seen_from h entry offset mode =
    record h { files = with_change h.files entry (with_offset (sought (file_of h entry) (node_at h (file_of h entry).ino) offset (seek_mode mode))) }

abbrev pub of_pipe : Handed → ℕ → ℕ → ℕ → Bool → Did
of_pipe h entry offset mode pipe = check h (must ESPIPE (not pipe)) (λ may. is_done (seen_from h entry offset mode))

abbrev pub of_entry : Handed → ℕ → ℕ → Result ℕ Errno → Did
of_entry h offset mode found = check h found (λ entry. of_pipe h entry offset mode (file_of h entry).kind.pipe)

pub seek_refused : (h : Handed) (offset mode : ℕ) (e : Errno) → Err e ≡ open_entry h (r0 h) → fails h e ≡ seek_to h offset mode
seek_refused h offset mode e is = ap (of_entry h offset mode) is

pub seek_of_pipe : (h : Handed) (offset mode entry : ℕ) (file : OpenFile) → Ok entry ≡ open_entry h (r0 h) → file ≡ file_of h entry → file.kind.pipe ≡ true
    → fails h ESPIPE ≡ seek_to h offset mode
seek_of_pipe h offset mode entry file found is pipe =
    ap (of_pipe h entry offset mode) (sym pipe ∙ ap (λ (x : OpenFile). x.kind.pipe) is) ∙ ap (of_entry h offset mode) found

pub seek_done : (h : Handed) (offset mode entry : ℕ) (file : OpenFile) → Ok entry ≡ open_entry h (r0 h) → file ≡ file_of h entry → file.kind.pipe ≡ false
    → is_done (seen_from h entry offset mode) ≡ seek_to h offset mode
seek_done h offset mode entry file found is pipe =
    ap (of_pipe h entry offset mode) (sym pipe ∙ ap (λ (x : OpenFile). x.kind.pipe) is) ∙ ap (of_entry h offset mode) found

kept_of_pipe : (h : Handed) (entry offset mode : ℕ) (pipe : Bool) → IsSound h → IsKept h (of_pipe h entry offset mode pipe).state
kept_of_pipe h entry offset mode true sound = kept_same h h sound refl refl refl refl refl refl refl
kept_of_pipe h entry offset mode false sound =
    kept_moved h (seen_from h entry offset mode) entry
    (sought (file_of h entry) (node_at h (file_of h entry).ino) offset (seek_mode mode)) sound refl refl refl refl refl refl
    refl

kept_of_entry : (h : Handed) (offset mode : ℕ) (found : Result ℕ Errno) → IsSound h → IsKept h (of_entry h offset mode found).state
kept_of_entry h offset mode (Ok entry) sound = kept_of_pipe h entry offset mode (file_of h entry).kind.pipe sound
kept_of_entry h offset mode (Err e) sound = kept_same h h sound refl refl refl refl refl refl refl

pub seek_kept : (h : Handed) (offset mode : ℕ) → IsSound h → IsKept h (seek_to h offset mode).state
seek_kept h offset mode sound = kept_of_entry h offset mode (open_entry h (r0 h)) sound

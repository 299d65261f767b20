-- The terminal lines that there are.
use Rattle.std.proofs.Common.{◌≡◌, ◌≢◌, ◌<◌, ◌+◌, ◌&&◌, ◌||◌, ◌∙◌, ℕ, Bool, true, false, not, cond, Option, Some, None, Ok, Err, is_some, unwrap_or, length, nat_lt, refl, sym, ap, subst}
use Rattle.std.proofs.lemmas.Bool.{ltb-true, eq-eqb, ne_eqb}
use Rattle.v6_base.specs.declared.errno.Errno.TheVariants.{ENOTTY, ENODEV}
use Rattle.fs_codec.specs.Modes.{is_device, is_character_device}
use Rattle.fs_codec.specs.Store.{Node}
use Rattle.proc_tab.specs.declared.row.Row.{Row}
use Rattle.sys_files.specs.Handed.{Handed, line_of, is_null}
use Rattle.sys_files.specs.Modes.{terminal_line}
use Rattle.sys_files.specs.Opening.{can_open, with_tty}

-- a line that an inode is, is there
pub line_there : (h : Handed) (node : Node) (l : ℕ) → line_of h node ≡ Some l → l < length h.lines
line_there h node l = by (is_character_device node.mode) (nat_lt node.device (length h.lines)) refl
  where
    by : (device low : Bool) → nat_lt node.device (length h.lines) ≡ low → cond (device && low) (Some node.device) None ≡ Some l
        → l < length h.lines
    by true true few is =
        let same : node.device ≡ l = cc is in
        subst (λ n. n < length h.lines) same (ltb-true node.device (length h.lines) few)
    by true false few is = absurd (cc is)
    by false low few is = absurd (cc is)

-- and so is one that a terminal is, unless it is the console
pub terminal_there : (h : Handed) (node : Node) (l : ℕ) → terminal_line h node ≡ Ok l → l ≢ 0 → l < length h.lines
terminal_there h node l = by (not (is_character_device node.mode)) (is_null node) (line_of h node) refl
  where
    by : (other null : Bool) (o : Option ℕ) → line_of h node ≡ o
        → cond other (Err ENOTTY) (cond null (Err ENODEV) (Ok (unwrap_or o 0))) ≡ Ok l → l ≢ 0 → l < length h.lines
    by true null o line is some = absurd (cc is)
    by false true o line is some = absurd (cc is)
    by false false (Some n) line is some =
        let same : n ≡ l = cc is in
        line_there h node l (line ∙ ap Some same)
    by false false None line is some =
        let same : 0 ≡ l = cc is in
        absurd (some (sym same))

pub kept_there : (h : Handed) (node : Node) → unwrap_or (line_of h node) 0 ≢ 0 → unwrap_or (line_of h node) 0 < length h.lines
kept_there h node some = by (line_of h node) refl some
  where
    by : (o : Option ℕ) → line_of h node ≡ o → unwrap_or o 0 ≢ 0 → unwrap_or o 0 < length h.lines
    by (Some l) is other = line_there h node l is
    by None is other = absurd (other refl)

-- what an opening makes of the terminal of the process
pub tty_taken : (row : Row) (l : ℕ) → row.tty ≡ 0 → with_tty row (Some l) ≡ record row { tty = l + 1 }
tty_taken row l none = ap (λ (b : Bool). cond b (record row { tty = l + 1 }) row) (eq-eqb row.tty 0 none)

pub tty_kept : (row : Row) (l : ℕ) → row.tty ≢ 0 → with_tty row (Some l) ≡ row
tty_kept row l some = ap (λ (b : Bool). cond b (record row { tty = l + 1 }) row) (ne_eqb row.tty 0 some)

-- By the tests of an opening: what is no device, a line, and of the others null.
pub can_plain : (h : Handed) (node : Node) → is_device node.mode ≡ false → can_open h node ≡ true
can_plain h node is = ap (λ b. not b || is_some (line_of h node) || is_null node) is

pub can_line : (h : Handed) (node : Node) → is_some (line_of h node) ≡ true → can_open h node ≡ true
can_line h node is = by (is_device node.mode)
  where
    by : (device : Bool) → (not device || is_some (line_of h node) || is_null node) ≡ true
    by true = ap (λ b. not true || b || is_null node) is
    by false = refl

pub can_null : (h : Handed) (node : Node) → is_device node.mode ≡ true → is_some (line_of h node) ≡ false
    → can_open h node ≡ is_null node
can_null h node device none = λ i. not (device i) || none i || is_null node

-- What a call of one line makes of all.
use Rattle.std.proofs.Common.{◌≡◌, ◌≤◌, ◌<◌, ◌==◌, ℕ, Bool, true, false, cond, List, drop, length, nat_lt, sym, subst, refl, arith}
use Rattle.std.specs.List.{All}
use Rattle.std.proofs.lemmas.Bool.{ltb-true, ltb-false}
use Rattle.std.proofs.lemmas.List.{length-set, length-drop, length-replicate, get_or-set_same, get_or_past, set-get_or, set-set}
use Rattle.std.proofs.lemmas.List.Elements.{All-set, All-get_or, All-replicate}
use Rattle.v6_base.specs.Image.{Image}
use Rattle.tty_line.specs.Terminal.{Terminal, first_terminal, opened}
use Rattle.tty_line.specs.Said.{paced}
use Rattle.tty_line.specs.Canonical.{with_line}
use Rattle.tty_line.specs.Reading.{Reading, reads, reads_line}
use Rattle.lines_eight.specs.Lines.{first_lines, terminal_at, with_terminal, HasRoom, AreLines}

-- the lines keep their number, and each has room
pub lines_with : (lines : List Terminal) (l : ℕ) (t : Terminal) → AreLines lines → HasRoom t → AreLines (with_terminal lines l t)
lines_with lines l t are room =
    let same = length-set lines l t in
    let some = are.some in
    let eight = are.eight in
    record {
      some = omega (arith, same, some);
      eight = omega (arith, same, eight);
      most = All-set HasRoom lines l t room are.most;
    }

pub room_at : (lines : List Terminal) (l : ℕ) → AreLines lines → l < length lines → HasRoom (terminal_at lines l)
room_at lines l are there = All-get_or HasRoom lines l first_terminal there are.most

-- a line that isn't there has room too
pub room_any : (lines : List Terminal) (l : ℕ) → All HasRoom lines → HasRoom (terminal_at lines l)
room_any lines l all = by (nat_lt l (length lines)) refl where
  by : (b : Bool) → nat_lt l (length lines) ≡ b → HasRoom (terminal_at lines l)
  by true there = All-get_or HasRoom lines l first_terminal (ltb-true l (length lines) there) all
  by false past =
      let none : HasRoom first_terminal = omega arith in
      subst HasRoom (sym (get_or_past lines l first_terminal (ltb-false l (length lines) past))) none

-- at first nothing waits
pub first_are : (count : ℕ) → 1 ≤ count → count ≤ 8 → AreLines (first_lines count)
first_are count some eight =
    let long = length-replicate count first_terminal in
    let none : HasRoom first_terminal = omega arith in
    record {
      some = omega (arith, long, some);
      eight = omega (arith, long, eight);
      most = All-replicate HasRoom count first_terminal none;
    }

-- No call but a write and a key lets more bytes wait.
either_room : (b : Bool) (x y : Terminal) → HasRoom x → HasRoom y → HasRoom (cond b x y)
either_room true x y p q = p
either_room false x y p q = q

pub room_opened : (t : Terminal) → HasRoom t → HasRoom (opened t)
room_opened t room = either_room t.is_open t _ room room

pub room_sent : (t : Terminal) → HasRoom t → length (drop 1 t.output) ≤ 1008
room_sent t room = let less = length-drop 1 t.output in omega (arith, less, room)

pub room_paced : (t : Terminal) (on : Bool) → HasRoom t → HasRoom (paced t on).terminal
room_paced t true room = room
room_paced t false room = omega arith

either_read : (b : Bool) (x y : Reading) → HasRoom x.terminal → HasRoom y.terminal → HasRoom (cond b x y).terminal
either_read true x y p q = p
either_read false x y p q = q

pub room_read : (t : Terminal) (image : Image) (at count : ℕ) → HasRoom t → HasRoom (reads t image at count).terminal
room_read t image at count room =
    either_read (length t.canonical == 0) _ _ (either_read (t.delimiters == 0) _ (reads_line (with_line t) image at count) room room) room

-- a line that was changed
pub at_set : (lines : List Terminal) (l : ℕ) (t : Terminal) → l < length lines → terminal_at (with_terminal lines l t) l ≡ t
at_set lines l t there = get_or-set_same lines l t first_terminal there

pub set_same : (lines : List Terminal) (l : ℕ) → with_terminal lines l (terminal_at lines l) ≡ lines
set_same lines l = set-get_or lines l first_terminal

-- and once more
pub set_again : (lines : List Terminal) (l : ℕ) (t u : Terminal) → with_terminal (with_terminal lines l t) l u ≡ with_terminal lines l u
set_again lines l t u = set-set lines l t u

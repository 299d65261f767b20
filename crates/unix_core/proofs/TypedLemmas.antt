-- A byte is typed: what the line shows of it, the signal that it makes, and who is woken then.
use Rattle.std.proofs.Common.{◌≡◌, ◌∙◌, ◌≤◌, ℕ, Bool, List, ◌++◌, length, map, fold, None, refl, sym, ap, subst}
use Rattle.std.proofs.lemmas.List.{get_or_past, set_past}
use Rattle.std.proofs.lemmas.List.Sums.{fold-append}
use Rattle.v6_base.specs.Trace.{Item, sent, Took, Taken}
use Rattle.v6_base.proofs.Took.{took_then, took_more}
use Rattle.v6_base.specs.declared.entry.Chan.{Chan}
use Rattle.lines_eight.specs.Told.{keys_of, show_of}
use Rattle.pick_rules.specs.declared.table.Table.{Table}
use Rattle.pick_rules.specs.Table.{IsTable}
use Rattle.pick_rules.specs.Effects.{Effect, Show}
use Rattle.pick_rules.specs.Logged.{Logged, nothing_logged, logged, left_by, board_after}
use Rattle.tty_line.specs.declared.line.Keyed.{Keyed}
use Rattle.tty_line.specs.declared.line.Keyed.TheVariants as key
use Rattle.tty_line.specs.Terminal.{Terminal, first_terminal}
use Rattle.tty_line.specs.Input.{Typed, typed}
use Rattle.sys_procs.specs.World.{clock_of}
use Rattle.sys_procs.specs.Agree.{board_of}
use Rattle.unix_core.specs.declared.world.World.{World}
use Rattle.lines_eight.specs.Lines as terminals
use Rattle.abstract_unix.specs.Unix.{Unix, System, terminal_at, with_terminal}
use Rattle.unix_core.specs.Passing.{called_table}
use Rattle.abstract_unix.specs.Turn.{happens}
use Rattle.abstract_unix.specs.Outside.{calls, calls_show, wakes, with_key, key_lines, typed_of}
use Rattle.unix_core.specs.Parts.{unix_of, board_in, system_at, IsGood}
use Rattle.unix_core.proofs.GoingLemmas.{going_same}
use Rattle.unix_core.proofs.LoggedLemmas.{after_items, logged_shown, logged_after, logged_then}
use Rattle.unix_core.proofs.TableLemmas.{with_table, good_table}
use Rattle.unix_core.proofs.EventLemmas.{wakes_stop, called_agree, called_image, called_clock, bytes_board}

-- The lines are others.
abbrev pub with_lines : World → List Terminal → World
with_lines w lines = record w { files = record w.files { lines = lines } }

pub lines_good : (w : World) (lines : List Terminal) → IsGood w → IsGood (with_lines w lines)
lines_good w lines was = record {
  agree = was.agree;
  running = was.running;
  owed = was.owed;
  pending = going_same (unix_of w) (unix_of (with_lines w lines)) refl refl was.pending;
  marks = was.marks;
  mounts = was.mounts;
  rooms = was.rooms;
  core = was.core;
}

-- the lines of a key know nothing of the lines
same_lines : (l : ℕ) (k : Keyed) (u : Unix) (lines : List Terminal) → key_lines l k (record u { lines = lines }) ≡ key_lines l k u
same_lines l key.Nothing u lines = refl
same_lines l key.Ready u lines = refl
same_lines l (key.Flushed show) u lines = refl
same_lines l (key.Signal n show) u lines = refl

-- Those who sleep for one channel and then those who sleep for another have been woken, where that is called for.
abbrev pub both : Chan → Chan → Bool → Bool → List (Effect Unix)
both keys room x y = wakes x keys ++ wakes y room

module _ (w : World) (good : IsGood w) (keys room : Chan) (called : Bool) (s : Table) (first_is : s ≡ called_table called keys w.procs.table) (first : IsTable s)
    (keys_board : board_of s w.procs.images.kept ≡ (logged {W = Unix} (board_in w) (wakes called keys)).board)
    (shown : Bool) (t : Table) (table_is : t ≡ called_table shown room s) (table : IsTable t)
    (woken : board_of t w.procs.images.kept ≡ (logged {W = Unix} (board_of s w.procs.images.kept) (wakes shown room)).board) where
  keys_good : IsGood (with_table w s)
  keys_good =
      good_table w s (called_agree w.procs.rows w.procs.images.kept w.procs.table s called keys first_is first good.agree)
      (called_image w.procs.images.kept w.procs.table s called keys first_is good.running) good

  pub both_good : IsGood (with_table w t)
  both_good =
      good_table (with_table w s) t (called_agree w.procs.rows w.procs.images.kept s t shown room table_is table keys_good.agree)
      (called_image w.procs.images.kept s t shown room table_is keys_good.running) keys_good

  both_is : logged (board_in w) (both keys room called shown)
      ≡ after_items (logged {W = Unix} (board_in w) (wakes called keys)).items (logged (board_of s w.procs.images.kept) (wakes shown room))
  both_is =
      logged_then (board_in w) (wakes called keys) (wakes shown room) (wakes_stop (board_in w) called keys)
      ∙ ap (λ b. after_items (logged {W = Unix} (board_in w) (wakes called keys)).items (logged b (wakes shown room))) (sym keys_board)

  pub both_stop : (logged (board_in w) (both keys room called shown)).stop ≡ None
  both_stop = ap (λ (x : Logged Unix). x.stop) both_is ∙ wakes_stop (board_of s w.procs.images.kept) shown room

  pub both_unix : unix_of (with_table w t) ≡ unix_of w
  both_unix =
      let clock : clock_of t ≡ clock_of w.procs.table =
      ap clock_of table_is ∙ called_clock s shown room ∙ ap clock_of first_is ∙ called_clock w.procs.table called keys in
      λ i. record (unix_of w) { clock = clock i }

  pub both_board : board_in (with_table w t) ≡ (logged (board_in w) (both keys room called shown)).board
  both_board = woken ∙ ap (λ (x : Logged Unix). x.board) (sym both_is)

  pub both_took : (c d e : Taken) → Took c (logged {W = Unix} (board_in w) (wakes called keys)).items d
      → Took d (logged {W = Unix} (board_of s w.procs.images.kept) (wakes shown room)).items e → Took c (logged (board_in w) (both keys room called shown)).items e
  both_took c d e one two =
      took_then c d e (logged {W = Unix} (board_in w) (wakes called keys)).items
      (logged {W = Unix} (board_of s w.procs.images.kept) (wakes shown room)).items
      (logged (board_in w) (both keys room called shown)).items one two (ap (λ (x : Logged Unix). x.items) (sym both_is))

-- The line has taken the byte, the signal has been sent, and those who wait have been woken.
module _ (w : World) (l byte : ℕ) (lines_ : List Terminal)
    (lines_is : lines_ ≡ terminals.with_terminal w.files.lines l (typed (terminals.terminal_at w.files.lines l) byte).terminal)
    (k : Keyed) (k_is : k ≡ (typed (terminals.terminal_at w.files.lines l) byte).keyed) (sent_ : World)
    (unix : unix_of sent_ ≡ with_key l k (unix_of (with_lines w lines_)))
    (board : board_in sent_ ≡ (logged {W = Unix} (board_in w) (map Show (key_lines l k (unix_of (with_lines w lines_))))).board)
    (keys : Chan) (keys_is : keys ≡ keys_of l) (room : Chan) (room_is : room ≡ show_of l)
    (called : Bool) (called_is : called ≡ calls k) (shown : Bool) (shown_is : shown ≡ calls_show k)
    (stop : (logged (board_in sent_) (both keys room called shown)).stop ≡ None) where
  abbrev m : System
  m = system_at w

  abbrev does : Typed
  does = typed (terminal_at m.unix l) byte

  abbrev lines : List Item
  lines = key_lines l k m.unix

  abbrev items : List Item
  items = sent l does.shown ++ lines

  abbrev now : Unix
  now = with_key l does.keyed (with_terminal m.unix l does.terminal)

  abbrev done : Logged Unix
  done = logged m.board (map Show (sent l does.shown ++ key_lines l does.keyed m.unix) ++ both (keys_of l) (show_of l) (calls does.keyed) (calls_show does.keyed))

  -- the board when the signal has been sent
  sent_board : (logged {W = Unix} (board_in w) (map Show items)).board ≡ board_in sent_
  sent_board =
      ap (λ (x : Logged Unix). x.board) (logged_shown (board_in w) items)
      ∙ (fold-append board_after (board_in w) (sent l does.shown) lines
      ∙ (ap (λ b. fold board_after b lines) (bytes_board (board_in w) l does.shown)
      ∙ (sym (ap (λ (x : Logged Unix). x.board) (logged_shown (board_in w) lines))
      ∙ (ap (λ (xs : List Item). (logged {W = Unix} (board_in w) (map Show xs)).board) (sym (same_lines l k m.unix lines_)) ∙ sym board))))

  done_is : done ≡ after_items items (logged (board_in sent_) (both keys room called shown))
  done_is =
      ap (λ x. logged m.board (map Show (sent l does.shown ++ key_lines l x m.unix) ++ both (keys_of l) (show_of l) (calls x) (calls_show x))) (sym k_is)
      ∙ (ap (λ c. logged m.board (map Show items ++ both (keys_of l) (show_of l) c (calls_show k))) (sym called_is)
      ∙ (ap (λ c. logged m.board (map Show items ++ both (keys_of l) (show_of l) called c)) (sym shown_is)
      ∙ ((λ i. logged m.board (map Show items ++ both (sym keys_is i) (sym room_is i) called shown))
      ∙ (logged_after (board_in w) items (both keys room called shown)
      ∙ ap (λ b. after_items items (logged b (both keys room called shown))) sent_board))))

  typed_stop : done.stop ≡ None
  typed_stop = ap (λ (x : Logged Unix). x.stop) done_is ∙ stop

  pub typed_unix : unix_of sent_ ≡ (typed_of m l byte).unix
  typed_unix =
      unix
      ∙ (ap (λ x. with_key l x (record m.unix { lines = lines_ })) k_is
      ∙ (ap (λ x. with_key l does.keyed (record m.unix { lines = x })) lines_is ∙ ap (λ o. left_by o now) (sym typed_stop)))

  pub typed_board : (logged (board_in sent_) (both keys room called shown)).board ≡ (typed_of m l byte).log.board
  typed_board = ap (λ (x : Logged Unix). x.board) (sym done_is)

  pub typed_took : (a b c e : Taken) → Took a (sent l does.shown) b → Took b (key_lines l k (unix_of (with_lines w lines_))) c
      → Took c (logged (board_in sent_) (both keys room called shown)).items e → Took a (typed_of m l byte).log.items e
  typed_took a b c e one two three =
      let keyed_ : Took b lines c = subst (λ (xs : List Item). Took b xs c) (same_lines l k m.unix lines_) two in
      let shown_ : Took a items c = took_more a b c (sent l does.shown) lines one keyed_ in
      took_then a c e items (logged (board_in sent_) (both keys room called shown)).items done.items shown_ three (ap (λ (x : Logged Unix). x.items) (sym done_is))

-- On a line that isn't there nothing is typed.
pub typed_nowhere : (m : System) (l byte : ℕ) → length m.unix.lines ≤ l → typed_of m l byte ≡ happens m.unix (nothing_logged m.board)
typed_nowhere m l byte past =
    ap (λ (t : Terminal). happens (with_key l (typed t byte).keyed (with_terminal m.unix l (typed t byte).terminal))
    (logged m.board (map Show (sent l (typed t byte).shown ++ key_lines l (typed t byte).keyed m.unix)
    ++ both (keys_of l) (show_of l) (calls (typed t byte).keyed) (calls_show (typed t byte).keyed)))) (get_or_past m.unix.lines l first_terminal past)
    ∙ ap (λ lines. happens (record m.unix { lines = lines }) (nothing_logged m.board)) (set_past m.unix.lines l first_terminal past)

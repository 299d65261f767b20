-- What follows a slot after which the kernel settles, and one in which nothing was logged.
use Rattle.std.proofs.Common.{◌≡◌, ◌∙◌, ◌+◌, ◌-◌, ◌==◌, ◌&&◌, ◌||◌, not, cond, suc, Bool, true, false, List, [], ◌∷◌, ◌++◌, length, map, refl, sym, ap, subst, append_assoc, arith}
use Rattle.std.proofs.lemmas.Bool.{ne_eqb}
use Rattle.std.proofs.lemmas.List.{append-nil}
use Rattle.v6_base.specs.Trace.{Item, Took, Taken}
use Rattle.v6_base.proofs.Took.{took_then, took_nothing}
use Rattle.tty_line.specs.Said.{sends}
use Rattle.lines_eight.specs.Told.{AllTold, each_line}
use Rattle.pick_rules.specs.Board.{Board}
use Rattle.pick_rules.specs.Effects.{Show}
use Rattle.pick_rules.specs.Logged.{Logged, logged}
use Rattle.abstract_unix.specs.declared.ends.Ends.TheVariants.{AtEnd}
use Rattle.abstract_unix.specs.Unix.{Unix, Started}
use Rattle.abstract_unix.specs.Endings.{is_early}
use Rattle.abstract_unix.specs.Turn.{Happened, Turn, stays, settling, settled, settled_as, settled_after, with_slot, counted, followed, disk_lines, wakes_disks, is_sending, sends_lines, sends_after, after_slot}
use Rattle.unix_core.specs.declared.world.World.{World}
use Rattle.unix_core.specs.declared.machine.Stage.{Stage}
use Rattle.unix_core.specs.Slots.{IsCounted, sent_after, with_sent, slot_items, slot_wakes}
use Rattle.unix_core.specs.Parts.{unix_of, board_in, system_at, phase_of, one_before, IsKernel, IsStill, Takes}
use Rattle.unix_core.proofs.BoardLemmas.{settle_same}
use Rattle.unix_core.proofs.DiskWakes.{board_more}
use Rattle.unix_core.proofs.EachLine.{nobody_told}
use Rattle.unix_core.proofs.LoggedLemmas.{logged_shown}

-- what is shown with the end of a slot that has left a Unix and a board
abbrev pub woken_log : Unix → Board → Logged Unix
woken_log u b = logged b (map Show (slot_items (with_slot u)))

-- the items of that log
pub woken_items : (u : Unix) (b : Board) → (woken_log u b).items ≡ slot_items (with_slot u)
woken_items u b = ap (λ (l : Logged Unix). l.items) (logged_shown b (slot_items (with_slot u)))

-- 1. These items follow what has happened, and somebody is woken by them or not.
pub record Follows (h g : Happened) (u : Unix) (items : List Item) (wakes : Bool) : Type 0 where
  pub unix : g.unix ≡ u
  pub items_are : g.log.items ≡ h.log.items ++ items
  pub board : g.log.board ≡ (logged {W = Unix} h.log.board (map Show items)).board
  pub settles : g.settles ≡ (wakes || h.settles)
  pub ending : g.ending ≡ h.ending
  pub is_idle : g.is_idle ≡ h.is_idle

shown_items : (b : Board) (items : List Item) → (logged {W = Unix} b (map Show items)).items ≡ items
shown_items b items = ap (λ (l : Logged Unix). l.items) (logged_shown b items)

some_length : (x : Item) (xs : List Item) → not (length (x ∷ xs) == 0) ≡ true
some_length x xs = ap not (ne_eqb (suc (length xs)) 0 (λ e. omega (arith, e)))

-- those of the disk
lines_follow : (h : Happened) (u : Unix) (items : List Item)
    → Follows h (followed true (record h { unix = u }) (map Show items)) u items (not (length items == 0))
lines_follow h u [] = record { unix = refl; items_are = sym (append-nil h.log.items); board = refl; settles = refl; ending = refl; is_idle = refl }
lines_follow h u (x ∷ xs) = record {
  unix = refl;
  items_are = ap (λ l. h.log.items ++ l) (shown_items h.log.board (x ∷ xs));
  board = refl;
  settles = ap (λ b. b || h.settles) (sym (some_length x xs));
  ending = refl;
  is_idle = refl;
}

-- and those of the lines
told_follow : (h : Happened) (u : Unix) (items : List Item) (wakes : Bool) → (items ≡ [] → wakes ≡ false)
    → Follows h (followed wakes (record h { unix = u }) (map Show items)) u items wakes
told_follow h u [] wakes none = record {
  unix = refl;
  items_are = sym (append-nil h.log.items);
  board = refl;
  settles = ap (λ b. b || h.settles) (sym (none refl));
  ending = refl;
  is_idle = refl;
}
told_follow h u (x ∷ xs) wakes none = record {
  unix = refl;
  items_are = ap (λ l. h.log.items ++ l) (shown_items h.log.board (x ∷ xs));
  board = refl;
  settles = refl;
  ending = refl;
  is_idle = refl;
}

sent_follow : (h : Happened) → Follows h (sends_after h) (with_sent h.unix) (sent_after h.unix).items (sent_after h.unix).wakes
sent_follow h = by (is_sending h.unix.timing)
  where
    all : AllTold
    all = each_line sends h.unix.lines

    sent : Bool → AllTold
    sent b = cond b all (record { lines = h.unix.lines; items = []; wakes = false })

    by : (b : Bool) → Follows h (cond b (sends_lines h) h) (record h.unix { lines = (sent b).lines }) (sent b).items (sent b).wakes
    by true = told_follow h (record h.unix { lines = all.lines }) all.items all.wakes (nobody_told sends h.unix.lines)
    by false = record { unix = refl; items_are = sym (append-nil h.log.items); board = refl; settles = refl; ending = refl; is_idle = refl }

or_swap : (a b c : Bool) → (b || (a || c)) ≡ ((a || b) || c)
or_swap true true c = refl
or_swap true false c = refl
or_swap false b c = refl

both_follow : (h f g : Happened) (u v : Unix) (xs ys : List Item) (a b : Bool) → Follows h f u xs a → Follows f g v ys b → Follows h g v (xs ++ ys) (a || b)
both_follow h f g u v xs ys a b one two = record {
  unix = two.unix;
  items_are = two.items_are ∙ ap (λ l. l ++ ys) one.items_are ∙ append_assoc h.log.items xs ys;
  board = two.board ∙ ap (λ (x : Board). (logged {W = Unix} x (map Show ys)).board) one.board ∙ board_more h.log.board xs ys;
  settles = two.settles ∙ ap (λ s. b || s) one.settles ∙ or_swap a b h.settles;
  ending = two.ending ∙ one.ending;
  is_idle = two.is_idle ∙ one.is_idle;
}

-- the slot is counted, who waits for the disk is woken, and the lines send
slot_follows : (h : Happened) → h.ending ≡ AtEnd
    → Follows h (after_slot h) (with_sent (with_slot h.unix)) (slot_items (with_slot h.unix)) (slot_wakes (with_slot h.unix))
slot_follows h goes =
    let u : Unix = with_slot h.unix in
    let woken : Happened = wakes_disks (counted h) in
    let one : Follows h woken u (disk_lines u) (not (length (disk_lines u) == 0)) = lines_follow h u (disk_lines u) in
    let two : Follows woken (sends_after woken) (with_sent u) (sent_after u).items (sent_after u).wakes =
    subst (λ (v : Unix). Follows woken (sends_after woken) (with_sent v) (sent_after v).items (sent_after v).wakes) one.unix (sent_follow woken) in
    subst (λ (g : Happened). Follows h g (with_sent u) (slot_items u) (slot_wakes u)) (ap (λ e. cond (is_early e) h (sends_after woken)) (sym goes))
    (both_follow h woken (sends_after woken) u (with_sent u) (disk_lines u) (sent_after u).items (not (length (disk_lines u) == 0)) (sent_after u).wakes one two)

or_true : (a b : Bool) → (a ≡ false → b ≡ true) → (a || b) ≡ true
or_true true b other = refl
or_true false b other = other refl

-- 2. The kernel settles after a slot.
pub slot_settles : (h : Happened) → h.ending ≡ AtEnd → (slot_wakes (with_slot h.unix) ≡ false → h.settles ≡ true)
    → settled_after (after_slot h) ≡ record {
      items = h.log.items ++ ((woken_log h.unix h.log.board).items ++ (settled (woken_log h.unix h.log.board).board).items);
      next = record { unix = with_sent (with_slot h.unix); board = (settled (woken_log h.unix h.log.board).board).board };
      is_idle = h.is_idle;
      ending = AtEnd;
    }
slot_settles h goes settles =
    let g : Happened = after_slot h in
    let f : Follows h g (with_sent (with_slot h.unix)) (slot_items (with_slot h.unix)) (slot_wakes (with_slot h.unix)) = slot_follows h goes in
    let ending : g.ending ≡ AtEnd = f.ending ∙ goes in
    let calls : g.settles ≡ true = f.settles ∙ or_true (slot_wakes (with_slot h.unix)) h.settles settles in
    let items : g.log.items ≡ h.log.items ++ (woken_log h.unix h.log.board).items =
    f.items_are ∙ ap (λ l. h.log.items ++ l) (sym (woken_items h.unix h.log.board)) in
    let last : List Item = (settled (woken_log h.unix h.log.board).board).items in
    ap (λ b. cond b (settling g) (stays g)) (λ i. not (is_early (ending i)) && calls i)
    ∙ (λ i. record {
      items = items i ++ (settled (f.board i)).items;
      next = record { unix = f.unix i; board = (settled (f.board i)).board };
      is_idle = f.is_idle i;
      ending = ending i;
    })
    ∙ (λ i. record {
      items = append_assoc h.log.items (woken_log h.unix h.log.board).items last i;
      next = record { unix = with_sent (with_slot h.unix); board = (settled (woken_log h.unix h.log.board).board).board };
      is_idle = h.is_idle;
      ending = AtEnd;
    })

-- The slot has been counted and the kernel has settled: the system is what the slot comes to.
module _ (h : Happened) (goes : h.ending ≡ AtEnd) (settles : slot_wakes (with_slot h.unix) ≡ false → h.settles ≡ true) (w : World)
    (unix : unix_of w ≡ with_sent (with_slot h.unix)) (board : board_in w ≡ (woken_log h.unix h.log.board).board) where
  pub settled_takes : (at : Stage) (v : World) → IsKernel at v → phase_of at ≡ Started
      → system_at v ≡ record (system_at w) { board = (settled (board_in w)).board } → Takes (settled_after (after_slot h)) at v
  settled_takes at v kernel started final = subst (λ (t : Turn). Takes t at v) (sym (slot_settles h goes settles)) (record {
    kernel = kernel;
    system = final ∙ (λ i. record { unix = unix i; board = (settled (board i)).board });
    phase = started;
  })

  pub settled_items : (a b c d : Taken) → Took a h.log.items b → Took b (slot_items (with_slot h.unix)) c → Took c (settled (board_in w)).items d
      → Took a (settled_after (after_slot h)).items d
  settled_items a b c d first second third =
      took_then a b d h.log.items ((woken_log h.unix h.log.board).items ++ (settled (woken_log h.unix h.log.board).board).items)
      (settled_after (after_slot h)).items first
      (took_then b c d (slot_items (with_slot h.unix)) (settled (board_in w)).items
      ((woken_log h.unix h.log.board).items ++ (settled (woken_log h.unix h.log.board).board).items) second third
      (λ i. sym (woken_items h.unix h.log.board) i ++ (settled (board i)).items))
      (ap (λ (t : Turn). t.items) (sym (slot_settles h goes settles)))

-- 3. Nothing was logged in a slot, and nobody is woken with its end, though bytes may go out.
module _ (h : Happened) (w v : World) (still : IsStill h w) (nobody : slot_wakes (with_slot (unix_of w)) ≡ false)
    (same : (logged {W = Unix} (board_in w) (map Show (slot_items (with_slot (unix_of w))))).board ≡ board_in w)
    (unix : unix_of v ≡ with_sent (with_slot (unix_of w))) (board : board_in v ≡ board_in w) where
  -- what the slot comes to
  abbrev rests : Turn
  rests = record {
    items = slot_items (with_slot (unix_of w));
    next = record { unix = with_sent (with_slot (unix_of w)); board = board_in w };
    is_idle = h.is_idle;
    ending = AtEnd;
  }

  abbrev g : Happened
  g = after_slot h

  follows : Follows h g (with_sent (with_slot h.unix)) (slot_items (with_slot h.unix)) (slot_wakes (with_slot h.unix))
  follows = slot_follows h still.ending

  unix_is : g.unix ≡ with_sent (with_slot (unix_of w))
  unix_is = follows.unix ∙ ap (λ (u : Unix). with_sent (with_slot u)) still.unix

  items_are : g.log.items ≡ slot_items (with_slot (unix_of w))
  items_are =
      follows.items_are ∙ ap (λ (l : Logged Unix). l.items ++ slot_items (with_slot h.unix)) still.log
      ∙ ap (λ (u : Unix). slot_items (with_slot u)) still.unix

  board_is : g.log.board ≡ board_in w
  board_is =
      follows.board ∙ (λ i. (logged {W = Unix} (still.log i).board (map Show (slot_items (with_slot (still.unix i))))).board) ∙ same

  settles_is : g.settles ≡ h.settles
  settles_is = follows.settles ∙ ap (λ b. b || h.settles) (ap (λ (u : Unix). slot_wakes (with_slot u)) still.unix ∙ nobody)

  ending_is : g.ending ≡ AtEnd
  ending_is = follows.ending ∙ still.ending

  -- the kernel has nothing to do
  rests_so : (settles : Bool) → h.settles ≡ settles → settled_after g ≡ rests
  rests_so true is =
      ap (λ b. cond b (settling g) (stays g)) (λ i. not (is_early (ending_is i)) && (settles_is ∙ is) i)
      ∙ (λ i. record {
        items = items_are i ++ (settled (board_is i)).items;
        next = record { unix = unix_is i; board = (settled (board_is i)).board };
        is_idle = follows.is_idle i;
        ending = ending_is i;
      })
      ∙ ap (λ o. record {
        items = slot_items (with_slot (unix_of w)) ++ (settled_as o (board_in w)).items;
        next = record { unix = with_sent (with_slot (unix_of w)); board = (settled_as o (board_in w)).board };
        is_idle = h.is_idle;
        ending = AtEnd;
      }) (settle_same w.procs.table ∙ still.settled is)
      ∙ (λ i. record rests { items = append-nil (slot_items (with_slot (unix_of w))) i })
  rests_so false is =
      ap (λ b. cond b (settling g) (stays g)) (λ i. not (is_early (ending_is i)) && (settles_is ∙ is) i)
      ∙ (λ i. record {
        items = items_are i;
        next = record { unix = unix_is i; board = board_is i };
        is_idle = follows.is_idle i;
        ending = ending_is i;
      })

  still_is : settled_after g ≡ rests
  still_is = rests_so h.settles refl

  pub still_takes : (at : Stage) → IsKernel at v → phase_of at ≡ Started → Takes (settled_after (after_slot h)) at v
  still_takes at kernel started = subst (λ (t : Turn). Takes t at v) (sym still_is) (record {
    kernel = kernel;
    system = λ i. record { unix = unix i; board = board i };
    phase = started;
  })

  pub still_items : (settled_after (after_slot h)).items ≡ slot_items (with_slot (unix_of w))
  still_items = ap (λ (t : Turn). t.items) still_is

-- 4. The slot that is due has been counted, and nothing was logged in it.
module _ (w : World) (left : w.slots.left ≡ 0) (before : IsCounted (one_before w).slots (unix_of (one_before w))) (h : Happened)
    (still : IsStill h (one_before w)) where
  due_unix : unix_of w ≡ with_slot (unix_of (one_before w))
  due_unix =
      let within = before.timed.within in
      let set = before.timed.set in
      let e : w.slots.due - w.slots.left ≡ w.slots.due - 1 + 1 = omega (arith, left, within) in
      let f : w.slots.due - w.slots.left - w.slots.set_at ≡ w.slots.due - 1 - w.slots.set_at + 1 = omega (arith, left, within, set) in
      λ i. record (unix_of w) { timing = record { passed = e i; disk = w.slots.disk; pace = w.slots.pace; since = f i } }

  unix_due : unix_of w ≡ with_slot h.unix
  unix_due = due_unix ∙ ap with_slot (sym still.unix)

  module _ (v : World) (unix : unix_of v ≡ with_sent (unix_of w))
      (board : board_in v ≡ (logged {W = Unix} (board_in w) (map Show (slot_items (unix_of w)))).board) where
    unix_then : unix_of v ≡ with_sent (with_slot h.unix)
    unix_then = unix ∙ ap with_sent unix_due

    board_then : board_in v ≡ (woken_log h.unix h.log.board).board
    board_then = board ∙ (λ i. (logged {W = Unix} ((sym still.log i).board) (map Show (slot_items (unix_due i)))).board)

    -- somebody is woken, and the kernel has settled
    module _ (any : true ≡ slot_wakes (unix_of w)) where
      some : slot_wakes (with_slot h.unix) ≡ false → h.settles ≡ true
      some none = absurd (let no = any ∙ ap slot_wakes unix_due ∙ none in cc no)

      pub woken_takes : (at : Stage) (x : World) → IsKernel at x → phase_of at ≡ Started
          → system_at x ≡ record (system_at v) { board = (settled (board_in v)).board } → Takes (settled_after (after_slot h)) at x
      woken_takes = settled_takes h still.ending some v unix_then board_then

      pub woken_took : (a b c : Taken) → Took a (slot_items (unix_of w)) b → Took b (settled (board_in v)).items c
          → Took a (settled_after (after_slot h)).items c
      woken_took a b c first second =
          settled_items h still.ending some v unix_then board_then a a b c (took_nothing a h.log.items (ap (λ (l : Logged Unix). l.items) still.log))
          (subst (λ (u : Unix). Took a (slot_items u) b) unix_due first) second

    -- nobody is
    module _ (any : false ≡ slot_wakes (unix_of w)) (same : board_in v ≡ board_in w) where
      nobody_woken : slot_wakes (with_slot (unix_of (one_before w))) ≡ false
      nobody_woken = ap slot_wakes (sym due_unix) ∙ sym any

      same_log : (logged {W = Unix} (board_in w) (map Show (slot_items (with_slot (unix_of (one_before w)))))).board ≡ board_in w
      same_log = ap (λ (u : Unix). (logged {W = Unix} (board_in w) (map Show (slot_items u))).board) (sym due_unix) ∙ sym board ∙ same

      pub quiet_takes : (at : Stage) → IsKernel at v → phase_of at ≡ Started → Takes (settled_after (after_slot h)) at v
      quiet_takes = still_takes h (one_before w) v still nobody_woken same_log (unix ∙ ap with_sent due_unix) same

      pub quiet_took : (a b : Taken) → Took a (slot_items (unix_of w)) b → Took a (settled_after (after_slot h)).items b
      quiet_took a b took =
          subst (λ l. Took a l b) (sym (still_items h (one_before w) v still nobody_woken same_log (unix ∙ ap with_sent due_unix) same))
          (subst (λ (u : Unix). Took a (slot_items u) b) due_unix took)

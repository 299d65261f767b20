-- A tick has come: what it leaves before a signal is delivered, and that who runs is in the mode in which it was.
use Rattle.std.proofs.Common.{◌≡◌, ◌<◌, ◌&&◌, ◌∙◌, ℕ, Bool, true, List, [], ◌∷◌, Option, Some, None, refl, sym, ap, subst, arith}
use Rattle.v6_base.specs.Trace.{Item, Log, Took, Taken}
use Rattle.v6_base.proofs.Took.{took_then}
use Rattle.v6_base.specs.declared.entry.Chan.TheVariants.{Tout}
use Rattle.pick_rules.specs.declared.row.Mode.{Mode}
use Rattle.pick_rules.specs.declared.table.Table.{Table}
use Rattle.pick_rules.specs.Table.{IsTable}
use Rattle.pick_rules.specs.Clock.{tick}
use Rattle.pick_rules.specs.Apply.{applied}
use Rattle.pick_rules.specs.Effects.{Show}
use Rattle.pick_rules.specs.Logged.{Logged, logged}
use Rattle.image_keep.specs.Kept.{Kept}
use Rattle.sys_procs.specs.World.{clock_of}
use Rattle.sys_procs.specs.Agree.{board_of}
use Rattle.sys_procs.proofs.Agreement.{AreLike, agree_like, tables_same}
use Rattle.sys_procs.proofs.Slots.{fifty_processes}
use Rattle.abstract_unix.specs.declared.ending.Ending.{Ending}
use Rattle.abstract_unix.specs.Unix.{Unix, System}
use Rattle.abstract_unix.specs.Steps.{Steps}
use Rattle.abstract_unix.specs.Outside as outside
use Rattle.abstract_unix.specs.Outside.{mode_by, mode_of, tick_entry, clock_after, wakes, tick_effects, is_user_mode, is_second, is_as_trap, tick_delivery}
use Rattle.unix_core.specs.declared.world.World.{World}
use Rattle.unix_core.specs.Passing.{called_table}
use Rattle.unix_core.specs.Parts.{unix_of, board_in, system_at, delivers_where, HasCome, IsGood}
use Rattle.unix_core.proofs.LoggedLemmas.{after_items, logged_shown, logged_after}
use Rattle.unix_core.proofs.TableLemmas.{RunsImage, with_table, good_table}
use Rattle.unix_core.proofs.EventLemmas.{called_agree, called_image, called_clock, called_running, wakes_stop}
use Rattle.unix_core.proofs.TickLemmas.{tick_like, tick_running, tick_clock, board_ticked}
use Rattle.unix_core.proofs.DeliveredLemmas.{trap_user, mode_charged}

-- A tick has come to one world, in this mode, with this table after its count and this second that is due, and another one is left: what is
-- delivered to that one the tick delivers.
pub record HasTicked (w now : World) (as_trap : Bool) (mode : Mode) (t : Table) (called : Bool) : Type 0 where
  pub good : IsGood now
  pub stop : (logged (board_in w) (tick_effects (system_at w))).stop ≡ None
  pub user : as_trap ≡ true → is_user_mode (mode_of (system_at now)) ≡ true
  pub comes : (e : Ending) (last : World) → HasCome (board_in now) (delivers_where as_trap (unix_of now) now.procs.table.running) e last
      → HasCome (logged (board_in w) (tick_effects (system_at w))).board (tick_delivery (system_at w)) e last
  pub shows : (a b : Taken) → Took a (logged (board_in now) (delivers_where as_trap (unix_of now) now.procs.table.running).effects).items b
      → Took a (logged (logged (board_in w) (tick_effects (system_at w))).board (tick_delivery (system_at w)).effects).items b
  pub first : (a b c : Taken) → Took a (Log (tick_entry mode) ∷ []) b → Took b (logged {W = Unix} (board_of t now.procs.images.kept) (wakes called Tout)).items c
      → Took a (logged (board_in w) (tick_effects (system_at w))).items c

module _ (w : World) (mode : Mode) (mode_is : mode ≡ mode_of (system_at w)) (w' : World) (was : IsGood w') (unix : unix_of w' ≡ outside.charged (unix_of w) mode w.procs.table.running)
    (table : w'.procs.table ≡ w.procs.table) (board : board_in w' ≡ board_in w)
    (t : Table) (t_is : t ≡ tick mode w'.procs.table) (good : IsTable t) (called : Bool) (called_is : called ≡ outside.is_due (clock_of w'.procs.table))
    (u : Table) (u_is : u ≡ called_table called Tout t) (fine : IsTable u)
    (woken : board_of u w'.procs.images.kept ≡ (logged {W = Unix} (board_of t w'.procs.images.kept) (wakes called Tout)).board)
    (good_low : (s : ℕ) → w.procs.table.running ≡ Some s → s < 50) where
  tick_good : IsGood (with_table w' u)
  tick_good =
      let v = w'.procs.rows in
      let k : Kept = w'.procs.images.kept in
      let old : Table = w'.procs.table in
      let like : AreLike old t = subst (AreLike old) (sym t_is) (tick_like old mode old (tables_same old old refl)) in
      let runs : RunsImage t k = λ s e above. was.running s (sym (tick_running mode old) ∙ (ap (λ (x : Table). x.running) (sym t_is) ∙ e)) above in
      good_table w' u (called_agree v k t u called Tout u_is fine (agree_like v old t k was.agree good like)) (called_image k t u called Tout u_is runs) was

  abbrev m : System
  m = system_at w

  abbrev l : Logged Unix
  l = logged m.board (tick_effects m)

  -- the log after the line of the tick
  abbrev rest : Logged Unix
  rest = logged (applied (board_in w) (tick_entry mode)) (wakes called Tout)

  l_is : l ≡ after_items (Log (tick_entry mode) ∷ []) rest
  l_is =
      let due : called ≡ outside.is_due m.unix.clock =
      called_is ∙ ap (λ x. outside.is_due (clock_of x)) table in
      let one : List Item = Log (tick_entry mode) ∷ [] in
      ap (λ md. logged m.board (Show (Log (tick_entry md)) ∷ wakes (outside.is_due m.unix.clock) Tout)) (sym mode_is)
      ∙ ap (λ b. logged m.board (Show (Log (tick_entry mode)) ∷ wakes b Tout)) (sym due)
      ∙ logged_after (board_in w) one (wakes called Tout)
      ∙ ap (λ b. after_items one (logged b (wakes called Tout))) (ap (λ (x : Logged Unix). x.board) (logged_shown (board_in w) one))

  tick_stop : l.stop ≡ None
  tick_stop = ap (λ (x : Logged Unix). x.stop) l_is ∙ wakes_stop (applied (board_in w) (tick_entry mode)) called Tout

  board_then : board_of t w'.procs.images.kept ≡ applied (board_in w) (tick_entry mode)
  board_then =
      ap (λ x. board_of x w'.procs.images.kept) t_is ∙ board_ticked mode w'.procs.table w'.procs.images.kept ∙ ap (λ b. applied b (tick_entry mode)) board

  tick_is : system_at (with_table w' u) ≡ record { unix = outside.ticked m; board = l.board }
  tick_is =
      let clock : clock_of u ≡ clock_after (clock_of w.procs.table) =
      ap clock_of u_is ∙ called_clock t called Tout ∙ ap clock_of t_is ∙ tick_clock mode w'.procs.table ∙ ap (λ x. clock_after (clock_of x)) table in
      let running : Option ℕ = w.procs.table.running in
      let after : unix_of (with_table w' u) ≡ outside.ticked m =
      (λ i. record (unix i) { clock = clock i })
      ∙ ap (λ md. record (outside.charged m.unix md running) { clock = clock_after m.unix.clock }) mode_is in
      let log : board_of u w'.procs.images.kept ≡ l.board =
      woken ∙ ap (λ b. (logged {W = Unix} b (wakes called Tout)).board) board_then ∙ ap (λ (x : Logged Unix). x.board) (sym l_is) in
      λ i. record { unix = after i; board = log i }

  -- the lines of the tick, and who is woken
  first_items : (a b c : Taken) → Took a (Log (tick_entry mode) ∷ []) b → Took b (logged {W = Unix} (board_of t w'.procs.images.kept) (wakes called Tout)).items c
      → Took a l.items c
  first_items a b c one two =
      let shown : Took b rest.items c = subst (λ x. Took b (logged {W = Unix} x (wakes called Tout)).items c) board_then two in
      took_then a b c (Log (tick_entry mode) ∷ []) rest.items l.items one shown (ap (λ (x : Logged Unix). x.items) (sym l_is))

  -- who runs still runs, in its mode
  running_is : u.running ≡ w.procs.table.running
  running_is =
      ap (λ (x : Table). x.running) u_is ∙ called_running t called Tout ∙ ap (λ (x : Table). x.running) t_is
      ∙ tick_running mode w'.procs.table ∙ ap (λ (x : Table). x.running) table

  abbrev w2 : World
  w2 = with_table w' u

  unix_is : unix_of w2 ≡ outside.ticked m
  unix_is = ap (λ (x : System). x.unix) tick_is

  mode_stays : mode_of (system_at w2) ≡ mode_of m
  mode_stays =
      ap (mode_by (unix_of w2)) running_is
      ∙ ap (λ x. mode_by x w.procs.table.running) unix_is
      ∙ mode_charged m.unix (clock_after m.unix.clock) (mode_of m) w.procs.table.running
      (λ s runs. (let low = good_low s runs in let fifty = fifty_processes w.procs.rows.slots w.procs.images.kept in omega (arith, low, fifty)))

  module _ (as_trap : Bool) (trap_is : as_trap ≡ (is_user_mode mode && is_second (clock_of w'.procs.table))) where
    trap_mode : as_trap ≡ true → is_user_mode (mode_of (system_at w2)) ≡ true
    trap_mode e = ap is_user_mode (mode_stays ∙ sym mode_is) ∙ trap_user mode (is_second (clock_of w'.procs.table)) as_trap trap_is e

    trap_same : as_trap ≡ is_as_trap m
    trap_same = trap_is ∙ (λ i. is_user_mode (mode_is i) && is_second (clock_of (table i)))

    delivery_is : delivers_where as_trap (unix_of w2) u.running ≡ tick_delivery m
    delivery_is = λ i. delivers_where (trap_same i) (unix_is i) (running_is i)

    tick_comes : (e : Ending) (last : World) → HasCome (board_in w2) (delivers_where as_trap (unix_of w2) u.running) e last
        → HasCome l.board (tick_delivery m) e last
    tick_comes e last come =
        subst (λ x. HasCome l.board x e last) delivery_is
        (subst (λ b. HasCome b (delivers_where as_trap (unix_of w2) u.running) e last) (ap (λ (x : System). x.board) tick_is) come)

    tick_shows : (a b : Taken) → Took a (logged (board_in w2) (delivers_where as_trap (unix_of w2) u.running).effects).items b
        → Took a (logged l.board (tick_delivery m).effects).items b
    tick_shows a b took =
        subst (λ (x : Steps). Took a (logged l.board x.effects).items b) delivery_is
        (subst (λ x. Took a (logged x (delivers_where as_trap (unix_of w2) u.running).effects).items b) (ap (λ (x : System). x.board) tick_is) took)

    pub has_ticked : HasTicked w w2 as_trap mode t called
    has_ticked = record { good = tick_good; stop = tick_stop; user = trap_mode; comes = tick_comes; shows = tick_shows; first = first_items }

-- A tick delivers the signal that is due: it never ends the run of itself, and the tick comes to both logs.
use Rattle.std.proofs.Common.{◌≡◌, ◌≤◌, ◌<◌, ◌+◌, ◌%◌, ◌^◌, ◌==◌, ◌&&◌, ◌∙◌, cond, ℕ, Bool, true, false, ◌++◌, length, Option, Some, None, Ok, Err, refl, sym, ap, subst}
use Rattle.v6_base.specs.Trace.{Took, Taken}
use Rattle.v6_base.proofs.Took.{took_then, took_more}
use Rattle.v6_base.specs.declared.entry.PanicKind.{PanicKind}
use Rattle.pick_rules.specs.declared.row.Mode.{Mode}
use Rattle.pick_rules.specs.declared.row.Mode.TheVariants.{User, Kernel, Idle}
use Rattle.pick_rules.specs.declared.row.Second.{Second}
use Rattle.pick_rules.specs.declared.row.Second.TheVariants.{No, Yes}
use Rattle.pick_rules.specs.declared.table.Table.{Table}
use Rattle.pick_rules.specs.Clock.{told}
use Rattle.pick_rules.specs.Board.{Board}
use Rattle.pick_rules.specs.Logged.{Logged, Stop, logged, left_by}
use Rattle.sig_core.specs.Signals.{handler_of, due}
use Rattle.sig_core.specs.Delivery.{makes_core}
use Rattle.sys_files.specs.Core.{core_file}
use Rattle.sys_procs.specs.Process.{Process}
use Rattle.sys_procs.specs.World.{Clock, clock_of}
use Rattle.sys_procs.proofs.Alive.{put_here}
use Rattle.abstract_unix.specs.declared.ending.Ending.{Ending}
use Rattle.abstract_unix.specs.declared.ending.Ending.TheVariants as ending
use Rattle.abstract_unix.specs.declared.ends.Ends.TheVariants as ends
use Rattle.abstract_unix.specs.declared.ends.Ends.TheVariants.{AtEnd}
use Rattle.abstract_unix.specs.Unix.{Unix, System, Started, process_of, with_process}
use Rattle.abstract_unix.specs.Steps.{Steps}
use Rattle.abstract_unix.specs.Calls.{handed_of, exits_with}
use Rattle.abstract_unix.specs.Delivery.{heeds, catches, signal_status, ends_after, ends_by, delivers_if, delivers_due}
use Rattle.abstract_unix.specs.Turn.{Turn, passes, is_user, settled, settled_after, ticked_by}
use Rattle.abstract_unix.specs.Outside as outside
use Rattle.abstract_unix.specs.Outside.{mode_by, timed, tick_effects, is_user_mode, is_second, is_as_trap, tick_delivery, tick_of}
use Rattle.unix_core.specs.declared.world.World.{World}
use Rattle.unix_core.specs.declared.machine.Stage.{Stage}
use Rattle.unix_core.specs.declared.machine.Stage.TheVariants as stage
use Rattle.unix_core.specs.Parts.{unix_of, board_in, system_at, phase_of, ended_as, is_over, delivers_where, HasCome, IsCovered, IsKernel, Takes}
use Rattle.unix_core.proofs.BootKernelLemmas.{stopped_kernel}
use Rattle.unix_core.proofs.LoggedLemmas.{after_items, logged_then}

-- A signal that is delivered never ends the run of itself.
delivered_ends : (u : Unix) (s : ℕ) → is_over (delivers_due u s).ending ≡ false
unfolding delivers_due
delivered_ends u s = by (due (process_of u s).row (process_of u s).u)
  where
    v : Unix
    v = heeds u s

    ended : (sig : ℕ) (b : Bool) → is_over (cond b (ends_after v s sig (core_file (handed_of v (process_of v s)) v.clock.time)) (exits_with v s (signal_status v s sig))).ending ≡ false
    ended sig true = refl
    ended sig false = refl

    told_ : (sig : ℕ) (b : Bool) → is_over (cond b (ends_by v s sig) (catches v s sig)).ending ≡ false
    told_ sig true = ended sig (makes_core sig)
    told_ sig false = refl

    by : (o : Option ℕ) → is_over (delivers_if u s o).ending ≡ false
    by None = refl
    by (Some sig) = told_ sig (handler_of (process_of u s).u sig == 0)

pub delivery_ends : (as_trap : Bool) (u : Unix) (running : Option ℕ) → is_over (delivers_where as_trap u running).ending ≡ false
delivery_ends true u None = refl
delivery_ends true u (Some s) = delivered_ends u s
delivery_ends false u running = refl

-- whether the tick is as a trap
pub second_trap : (mode : Mode) (t : Table) (told_ : Second) (as_trap : Bool) → told_ ≡ told t → ((tout : Bool) → told_ ≡ Yes tout → as_trap ≡ is_user_mode mode)
    → (told_ ≡ No → as_trap ≡ false) → as_trap ≡ (is_user_mode mode && is_second (clock_of t))
second_trap mode t told_ as_trap is ends within = by (t.ticks == 59) is
  where
    both : (x : Bool) → x ≡ (x && true)
    both true = refl
    both false = refl

    neither : (x : Bool) → false ≡ (x && false)
    neither true = refl
    neither false = refl

    by : (b : Bool) → told_ ≡ cond b (Yes ((t.now + 1) % 2 ^ 32 == t.tout)) No → as_trap ≡ (is_user_mode mode && b)
    by true e = ends ((t.now + 1) % 2 ^ 32 == t.tout) e ∙ both (is_user_mode mode)
    by false e = within e ∙ neither (is_user_mode mode)

pub trap_user : (mode : Mode) (b as_trap : Bool) → as_trap ≡ (is_user_mode mode && b) → as_trap ≡ true → is_user_mode mode ≡ true
trap_user User b as_trap is e = refl
trap_user Kernel b as_trap is e = absurd (let no = is in cc (no, e))
trap_user Idle b as_trap is e = absurd (let no = is in cc (no, e))

-- A tick is charged, and who runs is in the mode in which it was.
timed_user : (mode : Mode) (p : Process) → is_user (timed mode p) ≡ is_user p
timed_user User p = refl
timed_user Kernel p = refl
timed_user Idle p = refl

pub mode_charged : (u : Unix) (clock : Clock) (md : Mode) (o : Option ℕ) → ((s : ℕ) → o ≡ Some s → s < length u.processes)
    → mode_by (record (outside.charged u md o) { clock = clock }) o ≡ mode_by u o
mode_charged u clock md None low = refl
mode_charged u clock md (Some s) low = by (s == 0)
  where
    by : (b : Bool) → cond b Kernel (cond (is_user (process_of (record (cond b u (with_process u s (timed md (process_of u s)))) { clock = clock }) s)) User Kernel)
        ≡ cond b Kernel (cond (is_user (process_of u s)) User Kernel)
    by true = refl
    by false = ap (λ (x : Bool). cond x User Kernel) (ap is_user (put_here u.processes s (timed md (process_of u s)) (low s refl)) ∙ timed_user md (process_of u s))

-- What a tick comes to, by the log of its own lines and what is delivered.
module _ (m : System) (none : (logged m.board (tick_effects m)).stop ≡ None) (e : Ending) (w : World)
    (come : HasCome (logged m.board (tick_effects m)).board (tick_delivery m) e w) where
  abbrev s : Steps
  s = tick_delivery m

  abbrev first : Logged Unix
  first = logged m.board (tick_effects m)

  abbrev then_ : Logged Unix
  then_ = logged first.board s.effects

  whole_is : tick_of m ≡ passes s.unix (after_items first.items then_)
  whole_is = ap (passes s.unix) (logged_then m.board (tick_effects m) s.effects none)

  -- nothing has stopped
  module _ (goes : then_.stop ≡ None) where
    abbrev going : Turn
    going = record { items = (first.items ++ then_.items) ++ (settled then_.board).items; next = record { unix = s.unix; board = (settled then_.board).board }; is_idle = false; ending = AtEnd }

    going_is : settled_after (tick_of m) ≡ going
    going_is =
        ap settled_after whole_is
        ∙ ap (λ o. settled_after (passes s.unix (record (after_items first.items then_) { stop = o }))) goes

    unix_then : unix_of w ≡ s.unix
    unix_then = come.unix ∙ ap (λ o. left_by o s.unix) goes

    pub ticked_takes : (at : Stage) (last : World) → IsKernel at last → phase_of at ≡ Started
        → system_at last ≡ record (system_at w) { board = (settled (board_in w)).board } → Takes (settled_after (tick_of m)) at last
    ticked_takes at last kernel started final = subst (λ (x : Turn). Takes x at last) (sym going_is)
        (record { kernel = kernel; system = final ∙ (λ i. record { unix = unix_then i; board = (settled (come.board i)).board }); phase = started })

    pub ticked_items : (a b c d : Taken) → Took a first.items b → Took b then_.items c → Took c (settled (board_in w)).items d
        → Took a (settled_after (tick_of m)).items d
    ticked_items a b c d one two three =
        took_then a c d (first.items ++ then_.items) (settled (board_in w)).items (settled_after (tick_of m)).items
        (took_more a b c first.items then_.items one two) three
        (ap (λ (x : Board). (first.items ++ then_.items) ++ (settled x).items) come.board ∙ ap (λ (x : Turn). x.items) (sym going_is))

    pub ticked_goes : Ok tt ≡ ticked_by (settled_after (tick_of m)).ending
    ticked_goes = ap (λ (x : Turn). ticked_by x.ending) (sym going_is)

  -- it has stopped
  module _ (stop : Stop Unix) (stops : then_.stop ≡ Some stop) where
    abbrev broken : Turn
    broken = record { items = first.items ++ then_.items; next = record { unix = stop.before; board = then_.board }; is_idle = false; ending = ends.Panic stop.why }

    broken_is : settled_after (tick_of m) ≡ broken
    broken_is =
        ap settled_after whole_is
        ∙ ap (λ o. settled_after (passes s.unix (record (after_items first.items then_) { stop = o }))) stops

    broken_takes : IsCovered w → w.slots.left ≤ w.slots.due → Takes (settled_after (tick_of m)) stage.Stopped w
    broken_takes covered within =
        let unix = come.unix ∙ ap (λ o. left_by o s.unix) stops in
        subst (λ (x : Turn). Takes x stage.Stopped w) (sym broken_is)
        (record { kernel = stopped_kernel w covered within; system = λ i. record { unix = unix i; board = come.board i }; phase = refl })

    broken_items : (a b c : Taken) → Took a first.items b → Took b then_.items c → Took a (settled_after (tick_of m)).items c
    broken_items a b c one two = subst (λ (x : Turn). Took a x.items c) (sym broken_is) (took_more a b c first.items then_.items one two)

    broken_answer : Err stop.why ≡ ticked_by (settled_after (tick_of m)).ending
    broken_answer = ap (λ (x : Turn). ticked_by x.ending) (sym broken_is)

  -- which of both, by how it has ended
  goes_by : (o : Option (Stop Unix)) (own : Ending) → e ≡ ended_as o own → is_over e ≡ false → o ≡ None
  goes_by None own is on = refl
  goes_by (Some stop) own is on = absurd (let over : is_over e ≡ true = ap is_over is in cc (over, on))

  pub not_stopped : is_over e ≡ false → then_.stop ≡ None
  not_stopped on = goes_by then_.stop s.ending come.ending on

  why_by : (kind : PanicKind) (o : Option (Stop Unix)) (own : Ending) → is_over own ≡ false → ending.Panic kind ≡ ended_as o own
      → (stop : Stop Unix) × ((o ≡ Some stop) × (kind ≡ stop.why))
  why_by kind None own on is = absurd (let over : true ≡ is_over own = ap is_over is in cc (over, on))
  why_by kind (Some stop) own on is = (stop, (refl, (let same : ending.Panic kind ≡ ending.Panic stop.why = is in cc same)))

  module _ (kind : PanicKind) (is : e ≡ ending.Panic kind) where
    why : (stop : Stop Unix) × ((then_.stop ≡ Some stop) × (kind ≡ stop.why))
    why = why_by kind then_.stop s.ending (delivery_ends (is_as_trap m) (outside.ticked m) m.board.table.running) (sym is ∙ come.ending)

    pub panic_takes : IsCovered w → w.slots.left ≤ w.slots.due → Takes (settled_after (tick_of m)) stage.Stopped w
    panic_takes covered within = broken_takes why.0 why.1.0 covered within

    pub panic_items : (a b c : Taken) → Took a first.items b → Took b then_.items c → Took a (settled_after (tick_of m)).items c
    panic_items a b c one two = broken_items why.0 why.1.0 a b c one two

    pub panic_answer : Err kind ≡ ticked_by (settled_after (tick_of m)).ending
    panic_answer = ap (λ (k : PanicKind). Err k) why.1.1 ∙ broken_answer why.0 why.1.0

-- A process begins to wait for the disk, or has waited: its u area is another one, and the rest of the world as it was.
use Rattle.std.proofs.Common.{◌≡◌, ◌≢◌, ◌∙◌, ◌<◌, ◌≤◌, ◌+◌, ◌-◌, ◌==◌, ◌&&◌, not, cond, ℕ, Bool, true, false, Option, Some, None, refl, sym, ap, subst, inl, inr, arith}
use Rattle.std.proofs.lemmas.Bool.{eq-eqb, ne_eqb}
use Rattle.u_area.specs.declared.layout.TheConstants.{NOTHING_PENDING, DISK_WAIT}
use Rattle.u_area.specs.declared.area.UArea.{UArea}
use Rattle.u_area.specs.Pending.{IsFileCall}
use Rattle.v6_base.specs.declared.entry.Chan.TheVariants.{Disk}
use Rattle.pick_rules.specs.Priority.{pribio}
use Rattle.pick_rules.specs.Board.{Board}
use Rattle.pick_rules.specs.Logged.{Stop, logged, left_by}
use Rattle.image_keep.specs.Kept.{Kept, with_area, area_of, clicks_of}
use Rattle.image_keep.specs.State.{ImagesState}
use Rattle.sys_procs.specs.Process.{Process}
use Rattle.sys_procs.specs.Resume.{awake}
use Rattle.v6_base.specs.declared.answer.Answer.{Answer}
use Rattle.abstract_unix.specs.declared.calls.FileCall.{FileCall}
use Rattle.abstract_unix.specs.declared.calls.FileCall.TheVariants as file
use Rattle.abstract_unix.specs.declared.calls.ProcessCall.{ProcessCall}
use Rattle.abstract_unix.specs.declared.calls.ProcessCall.TheVariants as process
use Rattle.abstract_unix.specs.declared.ending.Ending.{Ending}
use Rattle.abstract_unix.specs.declared.ending.Ending.TheVariants.{Trapped, Slept}
use Rattle.abstract_unix.specs.Unix.{Unix, process_of, with_process}
use Rattle.abstract_unix.specs.Steps.{Steps, returns}
use Rattle.abstract_unix.specs.Calls.{waiting_area, waiting_until, disk_end, waits_for_disk, takes_time, is_read, loads_program}
use Rattle.abstract_unix.specs.Whole.{CanGoOn}
use Rattle.abstract_unix.proofs.Owing.{some_within}
use Rattle.abstract_unix.proofs.GoingOnLemmas.{moved_goes_on}
use Rattle.abstract_unix.proofs.PendingRows.{never_in_call}
use Rattle.unix_core.specs.declared.world.World.{World}
use Rattle.unix_core.specs.declared.slots.Slots.{Slots}
use Rattle.unix_core.specs.Slots.{passed_in, timing_in, CanWait, HasWaited, rested_area}
use Rattle.unix_core.specs.Parts.{unix_of, board_in, ended_as, is_over, IsReady, HasCome}
use Rattle.unix_core.proofs.WorldLemmas.{ready_alive, slot_is}
use Rattle.unix_core.proofs.PutLemmas.{with_images, with_kept, good_but}
use Rattle.unix_core.proofs.AreaLemmas.{ruled_unix, ruled_board, own_area}
use Rattle.unix_core.proofs.SlotWorlds.{with_slots, ready_slots}

-- 1. The pending call of who runs is another one, and no wait in a call on a file.
pub record IsSameImage (u v : UArea) : Type 0 where
  pub clicks : clicks_of u ≡ clicks_of v
  pub files : u.files ≡ v.files
  pub dir : u.dir ≡ v.dir

module _ (w : World) (s : ℕ) (ready : IsReady w s) (rule : UArea → UArea) (like : (u : UArea) → IsSameImage (rule u) u)
    (never : (u : UArea) → IsFileCall (rule u).pending → ⊥) (x : ImagesState)
    (kept : x.kept ≡ with_area w.procs.images.kept s (rule (area_of w.procs.images.kept s))) where
  abbrev p : Process
  p = process_of (unix_of w) s

  own : x.kept ≡ with_area w.procs.images.kept s (rule p.u)
  own = kept ∙ ap (λ u. with_area w.procs.images.kept s (rule u)) (own_area w s ready)

  going : CanGoOn (with_process (unix_of w) s (record p { u = rule p.u }))
  going = moved_goes_on (unix_of w) s (record p { u = rule p.u }) ready.good.pending
      (some_within (unix_of w).processes s p (slot_is w s ready)) (never p.u)

  pub moved_ready : IsReady (with_images w x) s
  moved_ready = subst (λ (k : Kept). IsReady (with_kept w x k) s) (sym own) (record {
    good = good_but w x s (rule p.u) (ready_alive w s ready) (like p.u).clicks (like p.u).files (like p.u).dir going ready.good;
    runs = ready.runs;
    user = ready.user;
  })

-- 2. A wait begins.
module _ (w : World) (s : ℕ) (ready : IsReady w s) (end : ℕ) (is : end ≡ disk_end (timing_in w.slots)) (x : ImagesState)
    (kept : x.kept ≡ with_area w.procs.images.kept s (waiting_area end (area_of w.procs.images.kept s))) (slots : Slots)
    (timing : timing_in slots ≡ timing_in w.slots) where
  abbrev pub waited : World
  waited = with_slots (with_images w x) slots

  pub wait_unix : unix_of waited ≡ waits_for_disk (unix_of w) s
  wait_unix =
      (λ i. record (unix_of (with_images w x)) { timing = timing i })
      ∙ ruled_unix w s ready (waiting_area end) x kept
      ∙ ap (λ n. with_process (unix_of w) s (waiting_until n (process_of (unix_of w) s))) is

  pub wait_board : board_in waited ≡ board_in w
  wait_board = ruled_board w s ready (waiting_area end) x kept

  pub wait_ready : IsReady waited s
  wait_ready = ready_slots (with_images w x) slots s
      (moved_ready w s ready (waiting_area end) (λ u. record { clicks = refl; files = refl; dir = refl }) (λ u. no_file_call) x kept)
    where
      no_file_call : IsFileCall DISK_WAIT → ⊥
      no_file_call (inl (inl one)) = absurd (omega (arith, one))
      no_file_call (inl (inr two)) = absurd (omega (arith, two))
      no_file_call (inr (inl three)) = absurd (omega (arith, three))
      no_file_call (inr (inr four)) = absurd (omega (arith, four))

-- how the slots are counted then
pub has_waited : (waits : Bool) (old new : Slots) (end : ℕ) → CanWait old → end ≡ passed_in old + 1 + old.disk → new.wake ≤ end
    → new.wake ≤ old.wake → new.due ≤ new.wake → passed_in old < new.due → passed_in new ≡ passed_in old → new.left ≤ new.due → new.disk ≡ old.disk
    → new.pace ≡ old.pace → new.set_at ≡ old.set_at → HasWaited waits old new
has_waited waits old new end can is ends sooner low ahead passed within disk pace set = record {
  timing = λ i. record { passed = passed i; disk = disk i; pace = pace i; since = passed i - set i };
  within = within;
  low = low;
  sooner = sooner;
  ahead = ahead;
  ends = λ some. omega (arith, ends, is);
  set = set;
}

pub waited_any : (waits : Bool) (old mid new : Slots) → mid ≡ old → HasWaited true mid new → HasWaited waits old new
waited_any waits old mid new same w = subst (λ (x : Slots). HasWaited waits x new) same (record {
  timing = w.timing;
  within = w.within;
  low = w.low;
  sooner = w.sooner;
  ahead = w.ahead;
  ends = λ some. w.ends refl;
  set = w.set;
})

-- whether a read waits, asked in another order
pub same_bits : (a b c d : Bool) → ((a && b && c) && d) ≡ (((a && c) && d) && b)
same_bits true true c d = sym (and_true (c && d))
  where
    and_true : (x : Bool) → (x && true) ≡ x
    and_true true = refl
    and_true false = refl
same_bits true false c d = sym (and_false (c && d))
  where
    and_false : (x : Bool) → (x && false) ≡ false
    and_false true = refl
    and_false false = refl
same_bits false b c d = refl

-- where a transfer takes time, what has read waits
pub some_takes : (x : Bool) (n : ℕ) → n ≢ 0 → x ≡ (x && not (n == 0))
some_takes x n some = sym (ap (λ b. x && not b) (ne_eqb n 0 some) ∙ by x)
  where
    by : (x : Bool) → (x && true) ≡ x
    by true = refl
    by false = refl

-- where it waits, a transfer takes time
pub some_disk : (x y : Bool) (n : ℕ) → ((x && not (n == 0)) && y) ≡ true → n ≢ 0
some_disk x y n all zero = by x y (ap (λ b. (x && not b) && y) (sym (eq-eqb n 0 zero)) ∙ all)
  where
    by : (x y : Bool) → ((x && false) && y) ≡ true → ⊥
    by true y e = absurd (cc e)
    by false y e = absurd (cc e)

pub takes_disk : (x : Bool) (n : ℕ) → (x && not (n == 0)) ≡ true → n ≢ 0
takes_disk x n all zero = by x (ap (λ b. x && not b) (sym (eq-eqb n 0 zero)) ∙ all)
  where
    by : (x : Bool) → (x && false) ≡ true → ⊥
    by true e = absurd (cc e)
    by false e = absurd (cc e)

-- a turn that sleeps isn't over
pub slept_goes : (e : Ending) (s : ℕ) → e ≡ Slept pribio (Disk s) → is_over e ≡ true → ⊥
slept_goes e s is over = let no = sym (ap is_over is) ∙ over in cc no

-- 3. A wait is over.
module _ (w : World) (s : ℕ) (ready : IsReady w s) (x : ImagesState)
    (kept : x.kept ≡ with_area w.procs.images.kept s (rested_area (area_of w.procs.images.kept s))) where
  pub rest_come : HasCome (board_in w) (returns (with_process (unix_of w) s (awake (process_of (unix_of w) s)))) Trapped (with_images w x)
  rest_come = record { ending = refl; unix = ruled_unix w s ready rested_area x kept; board = ruled_board w s ready rested_area x kept }

  pub rest_ready : IsReady (with_images w x) s
  rest_ready = moved_ready w s ready rested_area (λ u. record { clicks = refl; files = refl; dir = refl }) (λ u. never_in_call NOTHING_PENDING refl) x kept

-- 4. A call has come to these steps, and waits or doesn't.
pub timed_effects : (has : Bool) (s : ℕ) (steps : Steps) → (takes_time has s steps).effects ≡ steps.effects
timed_effects has s steps = by (has && not (steps.unix.timing.disk == 0))
  where
    by : (b : Bool) → (cond b (record steps { unix = waits_for_disk steps.unix s; ending = Slept pribio (Disk s) }) steps).effects ≡ steps.effects
    by true = refl
    by false = refl

module _ (b : Board) (steps : Steps) (e : Ending) (w : World) (come : HasCome b steps e w) where
  -- where the run goes on, the steps were taken
  pub all_taken : is_over e ≡ false → (logged b steps.effects).stop ≡ None
  all_taken goes = by (logged b steps.effects).stop come.ending
    where
      by : (o : Option (Stop Unix)) → e ≡ ended_as o steps.ending → o ≡ None
      by None is = refl
      by (Some stop) is = absurd (let over = sym goes ∙ ap is_over is in cc over)

  pub taken_unix : is_over e ≡ false → unix_of w ≡ steps.unix
  taken_unix goes = come.unix ∙ ap (λ o. left_by o steps.unix) (all_taken goes)

  module _ (has : Bool) (s : ℕ) where
    abbrev so : Bool → Steps
    so c = cond c (record steps { unix = waits_for_disk steps.unix s; ending = Slept pribio (Disk s) }) steps

    -- it goes on
    pub untimed_come : (has && not (steps.unix.timing.disk == 0)) ≡ false → HasCome b (takes_time has s steps) e w
    untimed_come none = subst (λ (x : Steps). HasCome b x e w) (ap so (sym none)) come

    -- it waits
    pub timed_come : (new : World) (waits : Ending) → is_over e ≡ false → (has && not (steps.unix.timing.disk == 0)) ≡ true
        → unix_of new ≡ waits_for_disk (unix_of w) s → board_in new ≡ board_in w → waits ≡ Slept pribio (Disk s)
        → HasCome b (takes_time has s steps) waits new
    timed_come new waits goes some unix board is =
        let none = all_taken goes in
        subst (λ (x : Steps). HasCome b x waits new) (ap so (sym some)) (record {
          ending = is ∙ ap (λ o. ended_as o (Slept pribio (Disk s))) (sym none);
          unix = unix ∙ ap (λ (u : Unix). waits_for_disk u s) (taken_unix goes)
              ∙ ap (λ o. left_by o (waits_for_disk steps.unix s)) (sym none);
          board = board ∙ come.board;
        })

    -- it was stopped on the way
    pub cut_come : (stop : Stop Unix) → (logged b steps.effects).stop ≡ Some stop → HasCome b (takes_time has s steps) e w
    cut_come stop some = by (has && not (steps.unix.timing.disk == 0))
      where
        by : (c : Bool) → HasCome b (so c) e w
        by true = record {
          ending = come.ending ∙ ap (λ o. ended_as o steps.ending) some ∙ ap (λ o. ended_as o (Slept pribio (Disk s))) (sym some);
          unix = come.unix ∙ ap (λ o. left_by o steps.unix) some ∙ ap (λ o. left_by o (waits_for_disk steps.unix s)) (sym some);
          board = come.board;
        }
        by false = come

-- a turn that panics was stopped, where its steps don't panic themselves
pub stopped_by : (b : Board) (steps : Steps) (e : Ending) (w : World) → HasCome b steps e w → is_over e ≡ true → is_over steps.ending ≡ false
    → (stop : Stop Unix) × ((logged b steps.effects).stop ≡ Some stop)
stopped_by b steps e w come over goes = by (logged b steps.effects).stop come.ending
  where
    by : (o : Option (Stop Unix)) → e ≡ ended_as o steps.ending → (stop : Stop Unix) × (o ≡ Some stop)
    by None is = absurd (let no = sym over ∙ ap is_over is ∙ goes in cc no)
    by (Some stop) is = (stop, refl)

-- 5. Calls of the other kinds.
pub not_read : (call : FileCall) → call ≢ file.Read → is_read call ≡ false
not_read file.Read other = absurd (other refl)
not_read call other = refl

pub not_exec : (call : ProcessCall) (answer : Answer) → call ≢ process.Exec → loads_program call answer ≡ false
not_exec process.Exec answer other = absurd (other refl)
not_exec call answer other = refl

-- A signal that a tick delivers: its effects are apt, and no row says that a call waits.
use Rattle.std.proofs.Common.{◌≡◌, ◌∙◌, ◌==◌, ℕ, zero, suc, nat_le, Bool, true, false, cond, List, [], ◌∷◌, append-nil, get_or, set, option_map, Option, Some, None, refl, sym, ap, subst, inr}
use Rattle.std.proofs.lemmas.List.{set-get_or}
use Rattle.v6_base.specs.declared.entry.Place.{Place}
use Rattle.v6_base.specs.declared.entry.Place.TheVariants.{Core, Swap}
use Rattle.v6_base.specs.declared.entry.Entry.TheVariants as line
use Rattle.v6_base.specs.Trace.{Log}
use Rattle.pick_rules.specs.declared.row.TableRow.{TableRow}
use Rattle.pick_rules.specs.declared.table.Table.{Table}
use Rattle.pick_rules.specs.Table.{row_at, empty_row, is_loaded}
use Rattle.pick_rules.specs.Board.{TextPlace, Board, placed}
use Rattle.pick_rules.specs.Apply.{applied, in_table, change_row, change_text, leaves_core, without_place, at_place}
use Rattle.pick_rules.specs.Effects.{Effect, Show, Size, Fork, Text, Image, Exit, Lets, image_at, came}
use Rattle.pick_rules.specs.Lawful.{Seen, seen_after}
use Rattle.pick_rules.specs.Sleepers.{made_ready, runout_told}
use Rattle.pick_rules.proofs.Shapes.{shape_at}
use Rattle.pick_rules.proofs.Laws.{Stays, runout_stays}
use Rattle.log_laws.proofs.Fitting.{Apt, AptCame, apt_more}
use Rattle.log_laws.proofs.Seats.{Seats, Same, RunnerAt, InTurn, InCall, Paused, own, change_agrees}
use Rattle.log_laws.proofs.Lines.{seat_stays}
use Rattle.sig_core.specs.Signals.{handler_of, due}
use Rattle.sig_core.specs.Delivery.{makes_core, signal_stack}
use Rattle.sys_files.specs.Did.{Did}
use Rattle.sys_files.specs.Core.{core_file}
use Rattle.sys_procs.specs.Process.{Process}
use Rattle.sys_procs.specs.Break.{grow, grown_or_not, grown_stack, expands}
use Rattle.abstract_unix.specs.Unix.{Unix, process_of}
use Rattle.abstract_unix.specs.Steps.{Steps}
use Rattle.abstract_unix.specs.Calls.{handed_of, world_of, grows, exits_with}
use Rattle.abstract_unix.specs.Delivery.{heeds, catches, signal_status, ends_after, ends_by, delivers_if, delivers_due}
use Rattle.abstract_unix.proofs.Sitting.{seats_of}
use Rattle.abstract_unix.proofs.Steps.{AptSteps}
use Rattle.abstract_unix.proofs.Quiet.{HasNumbers}
use Rattle.abstract_unix.proofs.Rows.{Calling}
use Rattle.abstract_unix.proofs.Delivering.{core_ends, routine_apt, heeded}
use Rattle.abstract_unix.proofs.Executing.{grown_or_not_apt}
use Rattle.abstract_unix.proofs.Exiting.{exits_apt}

-- A row is changed, but not in whether a call waits.
keep_at : (rows : List TableRow) (q s : ℕ) (x : TableRow) → x.calling ≡ (get_or rows q empty_row).calling
    → (get_or (set rows q x) s empty_row).calling ≡ (get_or rows s empty_row).calling
keep_at [] q s x e = refl
keep_at (r ∷ rows) zero zero x e = e
keep_at (r ∷ rows) zero (suc s) x e = refl
keep_at (r ∷ rows) (suc q) zero x e = refl
keep_at (r ∷ rows) (suc q) (suc s) x e = keep_at rows q s x e

abbrev calls_at : Table → ℕ → Bool
calls_at t s = (row_at t s).calling

calls_stays : (s : ℕ) (x : Bool) → Stays (λ (t : Table). calls_at t s ≡ x)
unfolding made_ready
calls_stays s x = record { woken = λ t q w e k. keep_at t.rows q s _ refl ∙ k; runout = λ t k. k; runin = λ t k. k }

told_calls : (t : Table) (s : ℕ) → calls_at (runout_told t) s ≡ calls_at t s
told_calls t s = runout_stays (λ (u : Table). calls_at u s ≡ calls_at t s) (calls_stays s (calls_at t s)) t refl

text_calls : (b : Board) (o : Option ℕ) (change : TextPlace → TextPlace) → (change_text b o change).table ≡ b.table
text_calls b None change = refl
text_calls b (Some k) change = refl

abbrev no_place : TableRow → TableRow
no_place row = record row { place = None }

out_calls : (b : Board) (s : ℕ) → calls_at (without_place b s).table s ≡ calls_at b.table s
out_calls b s = by (is_loaded b.table s)
  where
    by : (x : Bool) → calls_at (in_table (cond x (leaves_core b (row_at b.table s).text) b) (λ t. change_row t s no_place)).table s ≡ calls_at b.table s
    by true =
        ap (λ (t : Table). calls_at (change_row t s no_place) s) (text_calls b (row_at b.table s).text _) ∙ keep_at b.table.rows s s _ refl
    by false = keep_at b.table.rows s s _ refl

in_calls : (b : Board) (s clicks : ℕ) (place : Place) → calls_at (at_place b s clicks place).table s ≡ calls_at b.table s
in_calls b s clicks (Core c) =
    ap (λ (t : Table). calls_at (change_row t s (λ row. record row { size = clicks; place = Some (Core c) })) s) (text_calls b (row_at b.table s).text _)
    ∙ keep_at b.table.rows s s _ refl
in_calls b s clicks (Swap block) = told_calls _ s ∙ keep_at b.table.rows s s _ refl

size_calls : (b : Board) (s clicks : ℕ) (place : Place) → calls_at (applied b (line.Size s clicks place)).table s ≡ calls_at b.table s
unfolding applied
size_calls b s clicks place = in_calls (without_place b s) s clicks place ∙ out_calls b s

size_keep_calls : (b : Board) (s clicks : ℕ) → calls_at (applied b (line.SizeKeep s clicks)).table s ≡ calls_at b.table s
unfolding applied
size_keep_calls b s clicks = keep_at b.table.rows s s _ refl

-- effects that give the image of a slot another size
abbrev pub AreSizes : ℕ → List (Effect Unix) → Type 0
AreSizes s [] = Unit {0}
AreSizes s (Show item ∷ es) = ⊥
AreSizes s (Size r clicks before ∷ es) = (r ≡ s) × AreSizes s es
AreSizes s (Fork r child before ∷ es) = ⊥
AreSizes s (Text r clicks before ∷ es) = ⊥
AreSizes s (Image r clicks before ∷ es) = ⊥
AreSizes s (Exit r before ∷ es) = ⊥

module _ (s : ℕ) (P : Seen → Type 0) where
  abbrev Both : Seen → Type 0
  Both now = P now × (calls_at now.board.table s ≡ false)

  sizes_apt : (es : List (Effect Unix)) → AreSizes s es → (seen : Seen) → calls_at seen.board.table s ≡ false → Apt P seen es → Apt Both seen es
  unfolding Apt came
  sizes_apt [] are seen out a = (a, out)
  sizes_apt (Show item ∷ es) are seen out a = absurd are
  sizes_apt (Size r clicks before ∷ es) are seen out a =
      by (λ now e b. sizes_apt es are.1 now e b) (nat_le clicks (row_at seen.board.table r).size) a
    where
      here : (b : Board) → calls_at b.table s ≡ calls_at b.table r
      here b = ap (calls_at b.table) (sym are.0)

      fit : ((now : Seen) → calls_at now.board.table s ≡ false → Apt P now es → Apt Both now es) → (o : Option Place) → AptCame seen (image_at before o (λ place. line.Size r clicks place)) (λ now. Apt P now es)
          → AptCame seen (image_at before o (λ place. line.Size r clicks place)) (λ now. Apt Both now es)
      fit rest None a = a
      fit rest (Some place) a = (
        a.0,
        rest (seen_after seen (line.Size r clicks place))
            (here (applied seen.board (line.Size r clicks place)) ∙ size_calls seen.board r clicks place ∙ sym (here seen.board) ∙ out) a.1,
      )

      by : ((now : Seen) → calls_at now.board.table s ≡ false → Apt P now es → Apt Both now es) → (x : Bool)
          → AptCame seen (cond x (Lets (Log (line.SizeKeep r clicks))) (image_at before (placed seen.board r clicks) (λ place. line.Size r clicks place))) (λ now. Apt P now es)
          → AptCame seen (cond x (Lets (Log (line.SizeKeep r clicks))) (image_at before (placed seen.board r clicks) (λ place. line.Size r clicks place))) (λ now. Apt Both now es)
      by rest true a = (
        a.0,
        rest (seen_after seen (line.SizeKeep r clicks))
            (here (applied seen.board (line.SizeKeep r clicks)) ∙ size_keep_calls seen.board r clicks ∙ sym (here seen.board) ∙ out) a.1,
      )
      by rest false a = fit rest (placed seen.board r clicks) a
  sizes_apt (Fork r child before ∷ es) are seen out a = absurd are
  sizes_apt (Text r clicks before ∷ es) are seen out a = absurd are
  sizes_apt (Image r clicks before ∷ es) are seen out a = absurd are
  sizes_apt (Exit r before ∷ es) are seen out a = absurd are

-- In a call that no row tells of, a process is as between two turns.
pub call_paused : (s : ℕ) (v : Seats) (seen : Seen) → InCall s false v seen → calls_at seen.board.table s ≡ false → Paused v seen
call_paused s v seen i out = record {
  going = i.going;
  agrees = change_agrees s 0 s v v.slots seen.board seen.board.table (Some t.seat) (row_at seen.board.table s) (λ f. absurd (f refl)) i.agrees t.small
      (seat_stays s v seen.board t) (sym (set-get_or seen.board.table.rows s empty_row)) i.agrees.time i.agrees.ticks
      (record { used = o.used; zombie = o.zombie; calling = λ f g. out ∙ sym i.calls; text = o.text; entry = o.entry; place = o.place; size = o.size; most = o.most })
      (i.agrees.sleeps s);
  runner = subst (RunnerAt v seen.board) (sym t.runs) (inr t);
}
  where
    t : InTurn s v seen.board
    t = i.turn

    o : Same (s == s) v.most i.turn.seat (shape_at seen.board.table s)
    o = own s s v seen.board i.agrees i.turn

module _ (s : ℕ) (seen : Seen) where
  exits_paused : (u : Unix) (status : ℕ) → AptSteps s seen (exits_with u s status) → Apt (Paused (seats_of (exits_with u s status).unix)) seen (exits_with u s status).effects
  exits_paused u status a =
      let steps : Steps = exits_with u s status in
      apt_more _ (Paused (seats_of steps.unix)) seen steps.effects (λ now p. p refl)
      (subst (Apt {W = Unix} _ seen) (append-nil steps.effects) a.apt)

  ends_paused : (u : Unix) (sig : ℕ) → HasNumbers (handed_of u (process_of u s)) → Calling s (world_of u) seen → Apt (Paused (seats_of (ends_by u s sig).unix)) seen (ends_by u s sig).effects
  ends_paused u sig numbers i = by (makes_core sig)
    where
      core : Did
      core = core_file (handed_of u (process_of u s)) u.clock.time

      ended : Bool → Steps
      ended b = cond b (ends_after u s sig core) (exits_with u s (signal_status u s sig))

      by : (b : Bool) → Apt (Paused (seats_of (ended b).unix)) seen (ended b).effects
      by true = exits_paused _ _ (core_ends s seen u sig numbers i)
      by false = exits_paused u (signal_status u s sig) (exits_apt s u seen (signal_status u s sig) numbers i)

  sizes_of : (u : Unix) (sp : ℕ) → AreSizes s (grows u (grown_or_not (world_of u) s (grow (world_of u) s sp))).effects
  unfolding grow
  sizes_of u sp = by (grown_stack p.u.text_size p.u.data_size p.u.stack_size u.limit sp)
    where
      p : Process
      p = process_of u s

      by : (o : Option ℕ) → AreSizes s (grows u (grown_or_not (world_of u) s (option_map (expands (world_of u) s p.u.data_size) o))).effects
      by None = tt
      by (Some new) = (refl, tt)

  caught_paused : (u : Unix) (sig : ℕ) → Calling s (world_of u) seen → calls_at seen.board.table s ≡ false
      → Apt (Paused (seats_of (catches u s sig).unix)) seen (catches u s sig).effects
  caught_paused u sig i out =
      let steps : Steps = catches u s sig in
      let begun = routine_apt s seen _ sig refl (grown_or_not_apt s seen u (signal_stack (process_of u s).u) i) in
      apt_more (Both s (InCall s false (seats_of steps.unix))) (Paused (seats_of steps.unix)) seen steps.effects
      (λ now both. call_paused s (seats_of steps.unix) now both.0 both.1)
      (sizes_apt s (InCall s false (seats_of steps.unix)) steps.effects (sizes_of u (signal_stack (process_of u s).u)) seen out begun.begun)

  if_paused : (b : Bool) (x y : Steps) → Apt (Paused (seats_of x.unix)) seen x.effects → Apt (Paused (seats_of y.unix)) seen y.effects
      → Apt (Paused (seats_of (cond b x y).unix)) seen (cond b x y).effects
  if_paused true x y a c = a
  if_paused false x y a c = c

  pub due_paused : (u : Unix) → HasNumbers (handed_of u (process_of u s)) → Calling s (world_of u) seen → calls_at seen.board.table s ≡ false
      → Apt (Paused (seats_of (delivers_due u s).unix)) seen (delivers_due u s).effects
  unfolding delivers_due Apt
  due_paused u numbers i out = by (due (process_of u s).row (process_of u s).u)
    where
      by : (o : Option ℕ) → Apt (Paused (seats_of (delivers_if u s o).unix)) seen (delivers_if u s o).effects
      by None = call_paused s (seats_of u) seen i out
      by (Some sig) =
          if_paused (handler_of (process_of u s).u sig == 0) (ends_by (heeds u s) s sig) (catches (heeds u s) s sig)
          (ends_paused (heeds u s) sig (record { count = numbers.count; eight = numbers.eight; pipes = numbers.pipes }) (heeded s seen u i)) (caught_paused (heeds u s) sig (heeded s seen u i) out)

-- A move leaves a table that is that of the images.
use Rattle.std.proofs.Common.{◌≡◌, ◌∙◌, ◌<◌, ◌+◌, ℕ, Bool, true, false, cond, get_or, set, length, length-set, Some, None, refl, sym, ap, subst, inl, inr, ◌⊎◌, arith}
use Rattle.std.proofs.lemmas.Bool.{cases_eq}
use Rattle.std.proofs.lemmas.List.{get_or-set_same, get_or-set_other}
use Rattle.v6_base.specs.declared.entry.Chan.{Chan}
use Rattle.v6_base.specs.declared.entry.Chan.TheVariants.{RunIn, RunOut}
use Rattle.v6_base.specs.declared.entry.Place.{Place}
use Rattle.v6_base.specs.declared.entry.Place.TheVariants.{Core, Swap}
use Rattle.pick_rules.specs.declared.row.TableRow.{TableRow}
use Rattle.pick_rules.specs.declared.table.Table.{Table}
use Rattle.pick_rules.specs.Priority.{pswp}
use Rattle.pick_rules.specs.Table.{IsTable, empty_row, row_at, with_row, is_in_core, same_chan}
use Rattle.pick_rules.specs.Sleepers.{made_ready, sleeps_on, runout_told, asleep, fall_asleep}
use Rattle.pick_rules.proofs.Movers.{IsAlive}
use Rattle.image_keep.specs.Kept.{Kept, Keeping, Nothing, Alive, Grave, Held, IsOut, IsLoaded, keeping, text_of, place_of, place_in, at_place, clicks_of}
use Rattle.image_keep.specs.Moves.{swapped_in, swapped_out, text_need}
use Rattle.swap_sched.specs.Match.{IsRowOf, Matches}
use Rattle.swap_sched.proofs.Boards.{come_slots, come_users, leave_slots, leave_users}

-- the image of a living slot, at the place that its row names
pub record HasSeat (t : Table) (k : Kept) (s : ℕ) : Type 0 where
  pub held : Held
  pub has : keeping k s ≡ Alive held
  pub place : (row_at t s).place ≡ Some held.place

pub seat_of : (t : Table) (k : Kept) (s : ℕ) → Matches t k → 0 < s → s < 50 → IsAlive (row_at t s).stat → HasSeat t k s
seat_of t k s a l m v = by (keeping k s) refl (a.each s l m)
  where
    by : (x : Keeping) → keeping k s ≡ x → IsRowOf (row_at t s) (text_of k s) x → HasSeat t k s
    by Nothing e r = absurd (let d = v.used in let c = r.empty in cc (c, d))
    by (Alive held) e r = record { held = held; has = e; place = r.place }
    by (Grave u block) e r = absurd (let d = v.alive in let c = r.zombie in cc (c, d))

pub out_of : (t : Table) (k : Kept) (s : ℕ) → HasSeat t k s → is_in_core (row_at t s).place ≡ false → IsOut k s
out_of t k s h e = by h.held.place refl
  where
    by : (place : Place) → h.held.place ≡ place → IsOut k s
    by (Core c) f = absurd (let g : is_in_core (row_at t s).place ≡ true = ap is_in_core (h.place ∙ ap Some f) in cc (e, g))
    by (Swap block) f = (block, ap place_in h.has ∙ ap Some f, (h.held, h.has))

pub in_of : (t : Table) (k : Kept) (s : ℕ) → HasSeat t k s → is_in_core (row_at t s).place ≡ true → IsLoaded k s
in_of t k s h e = by h.held.place refl
  where
    by : (place : Place) → h.held.place ≡ place → IsLoaded k s
    by (Core c) f = (c, ap place_in h.has ∙ ap Some f, (h.held, h.has))
    by (Swap block) f = absurd (let g : is_in_core (row_at t s).place ≡ false = ap is_in_core (h.place ∙ ap Some f) in cc (e, g))

-- an image at another place
abbrev pub moved_to : Table → ℕ → Place → Table
moved_to t s place = with_row t s (record (row_at t s) { place = Some place; time = 0 })

pub record IsMovedTo (k n : Kept) (s : ℕ) (place : Place) : Type 0 where
  pub slots : n.slots ≡ set k.slots s (at_place place (keeping k s))
  pub users : n.users ≡ k.users

pub moved_matches : (t : Table) (k n : Kept) (s : ℕ) (place : Place) → Matches t k → 0 < s → s < 50 → HasSeat t k s → length k.slots ≡ 50
    → IsMovedTo k n s place → Matches (moved_to t s place) n
moved_matches t k n s place a low high h long m = record {
  table = record { last = a.table.last; running = a.table.running; ticks = a.table.ticks };
  rows = length-set t.rows s _ ∙ a.rows;
  kernel = ap (λ (row : TableRow). row.place) (get_or-set_other t.rows s 0 _ empty_row (λ e. omega (arith, e, low))) ∙ a.kernel;
  images = ap (λ l. get_or l 0 Nothing) m.slots ∙ get_or-set_other k.slots s 0 _ Nothing (λ e. omega (arith, e, low)) ∙ a.images;
  each = λ r l u. by r l u (cases_eq r s);
}
  where
    row : TableRow
    row = record (row_at t s) { place = Some place; time = 0 }

    mine : IsRowOf row (text_of k s) (at_place place (keeping k s))
    mine = of (keeping k s) h.has (a.each s low high)
      where
        of : (x : Keeping) → x ≡ Alive h.held → IsRowOf (row_at t s) (text_of k s) x → IsRowOf row (text_of k s) (at_place place x)
        of Nothing e r = absurd (cc e)
        of (Alive held) e r = record {
          empty = r.empty;
          zombie = r.zombie;
          place = refl;
          size = λ other f. r.size held refl ∙ ap clicks_in f;
          text = r.text;
        }
          where
            clicks_in : Keeping → ℕ
            clicks_in Nothing = 0
            clicks_in (Alive other) = clicks_of other.u
            clicks_in (Grave u block) = 0
        of (Grave u block) e r = absurd (cc e)

    by : (r : ℕ) → 0 < r → r < 50 → (r ≡ s) ⊎ (r ≡ s → ⊥) → IsRowOf (row_at (moved_to t s place) r) (text_of n r) (keeping n r)
    by r l u (inl e) = subst (λ q. IsRowOf (row_at (moved_to t s place) q) (text_of n q) (keeping n q)) (sym e)
        (subst (λ x. IsRowOf x (text_of n s) (keeping n s)) (sym (get_or-set_same t.rows s row empty_row (omega (arith, high, a.rows))))
        (subst (λ x. IsRowOf row x (keeping n s)) (sym (ap (λ l. get_or l s None) m.users))
        (subst (λ x. IsRowOf row (text_of k s) x)
        (sym (ap (λ l. get_or l s Nothing) m.slots ∙ get_or-set_same k.slots s (at_place place (keeping k s)) Nothing (omega (arith, high, long)))) mine)))
    by r l u (inr e) =
        subst (λ x. IsRowOf x (text_of n r) (keeping n r)) (sym (get_or-set_other t.rows s r row empty_row e))
        (subst (λ x. IsRowOf (row_at t r) x (keeping n r)) (sym (ap (λ l. get_or l r None) m.users))
        (subst (λ x. IsRowOf (row_at t r) (text_of k r) x)
        (sym (ap (λ l. get_or l r Nothing) m.slots ∙ get_or-set_other k.slots s r (at_place place (keeping k s)) Nothing e)) (a.each r l u)))

-- where an image goes that comes in or goes out
pub in_moved : (k : Kept) (s c : ℕ) → IsMovedTo k (swapped_in k s (Some c)) s (Core (c + text_need k (text_of k s)))
unfolding swapped_in
in_moved k s c = record {
  slots = ap (λ l. set l s (at_place (Core (c + text_need k (text_of k s))) (keeping k s))) (come_slots k (text_of k s) c);
  users = come_users k (text_of k s) c;
}

pub out_moved : (k : Kept) (s block : ℕ) → IsMovedTo k (swapped_out k s (Some block)) s (Swap block)
unfolding swapped_out
out_moved k s block = record {
  slots = ap (λ l. set l s (at_place (Swap block) (keeping k s))) (leave_slots k (text_of k s));
  users = leave_users k (text_of k s);
}

-- the place of who has been moved
pub moved_place : (t : Table) (k n : Kept) (s : ℕ) (place : Place) → HasSeat t k s → s < 50 → length k.slots ≡ 50 → IsMovedTo k n s place → place_of n s ≡ Some place
moved_place t k n s place h high long m =
    ap place_in (ap (λ l. get_or l s Nothing) m.slots ∙ get_or-set_same k.slots s (at_place place (keeping k s)) Nothing (omega (arith, high, long))
    ∙ ap (at_place place) h.has)

-- A change of the row of process 0 that leaves its place.
pub kernel_matches : (t u : Table) (k : Kept) (row : TableRow) → Matches t k → IsTable u → u.rows ≡ set t.rows 0 row → row.place ≡ (row_at t 0).place → Matches u k
kernel_matches t u k row a good e f = record {
  table = good;
  rows = ap length e ∙ length-set t.rows 0 row ∙ a.rows;
  kernel = ap (λ l. (get_or l 0 empty_row).place) e ∙ ap (λ (x : TableRow). x.place) (get_or-set_same t.rows 0 row empty_row (omega (arith, a.rows))) ∙ f ∙ a.kernel;
  images = a.images;
  each = λ r l m. subst (λ x. IsRowOf x (text_of k r) (keeping k r))
      (sym (ap (λ rows. get_or rows r empty_row) e ∙ get_or-set_other t.rows 0 r row empty_row (λ z. omega (arith, z, l)))) (a.each r l m);
}

pub told_matches : (t : Table) (k : Kept) → Matches t k → IsTable (runout_told t) → Matches (runout_told t) k
unfolding runout_told made_ready
told_matches t k a good = by t.runout (sleeps_on t 0 RunOut) good
  where
    by : (x y : Bool) → IsTable (cond x (cond y (made_ready (record t { runout = false }) 0) (record t { runout = false })) t)
        → Matches (cond x (cond y (made_ready (record t { runout = false }) 0) (record t { runout = false })) t) k
    by true true g = kernel_matches t (made_ready (record t { runout = false }) 0) k _ a g refl refl
    by true false g = record { table = g; rows = a.rows; kernel = a.kernel; images = a.images; each = a.each }
    by false y g = a

pub asleep_matches : (t : Table) (k : Kept) (w : Chan) → Matches t k → IsTable (fall_asleep t 0 pswp w) → Matches (fall_asleep t 0 pswp w) k
unfolding fall_asleep
asleep_matches t k w a good = by (same_chan w RunIn) good
  where
    by : (x : Bool) → IsTable (cond x (record (asleep t 0 pswp w) { runin = true }) (record (asleep t 0 pswp w) { runout = true }))
        → Matches (cond x (record (asleep t 0 pswp w) { runin = true }) (record (asleep t 0 pswp w) { runout = true })) k
    by true g = kernel_matches t (record (asleep t 0 pswp w) { runin = true }) k _ a g refl refl
    by false g = kernel_matches t (record (asleep t 0 pswp w) { runout = true }) k _ a g refl refl

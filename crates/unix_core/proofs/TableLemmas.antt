-- The table of slots has changed: what belongs together still does, and where the kernel has settled the slot that runs goes on.
use Rattle.std.proofs.Common.{◌≡◌, ◌<◌, ◌==◌, ◌||◌, cond, ℕ, Bool, true, false, Option, Some, None, refl, sym, ap, ◌∙◌, subst, arith}
use Rattle.std.specs.Prelude.{⊤, MatchOption}
use Rattle.std.proofs.lemmas.Bool.{ne_eqb}
use Rattle.pick_rules.specs.declared.table.Table.{Table}
use Rattle.pick_rules.specs.Table.{row_at, is_in_core, IsTable}
use Rattle.pick_rules.specs.Choice.{chosen, gives_up, settle, settled_by}
use Rattle.pick_rules.proofs.Laws.{settled_now, settled_ticks, settled_tout, settled_rows, settled_running, chosen_runs, runs_loaded, go_settles}
use Rattle.image_keep.specs.Kept.{Keeping, Nothing, Alive, Grave, Kept, HasImage, keeping, place_in}
use Rattle.proc_tab.specs.Processes.{Processes}
use Rattle.sys_procs.specs.World.{clock_of}
use Rattle.sys_procs.specs.Agree.{Agree}
use Rattle.sys_procs.proofs.Agreement.{agree_like, tables_same}
use Rattle.unix_core.specs.declared.world.World.{World}
use Rattle.unix_core.specs.Passing.{settled_table}
use Rattle.unix_core.specs.Parts.{unix_of, board_in, system_at, IsGood}
use Rattle.unix_core.proofs.BoardLemmas.{settle_none}
use Rattle.unix_core.proofs.GoingLemmas.{going_same}

abbrev pub with_table : World → Table → World
with_table w t = record w { procs = record w.procs { table = t } }

-- who runs has an image
abbrev pub RunsImage : Table → Kept → Type 0
RunsImage t k = (s : ℕ) → t.running ≡ Some s → 0 < s → HasImage k s

module _ (w : World) (t : Table) (agree : Agree w.procs.rows t w.procs.images.kept) (runs : RunsImage t w.procs.images.kept) where
  pub good_table : IsGood w → IsGood (with_table w t)
  good_table good = record {
    agree = agree;
    owed = good.owed;
    pending = going_same (unix_of w) (unix_of (with_table w t)) refl refl good.pending;
    marks = good.marks;
    mounts = good.mounts;
    running = runs;
    rooms = good.rooms;
    core = good.core;
  }

-- what stands in core can run
in_core_alive : (k : Kept) (s : ℕ) (x : Keeping) → keeping k s ≡ x → is_in_core (place_in x) ≡ true → HasImage k s
in_core_alive k s Nothing is core = absurd (cc core)
in_core_alive k s (Alive held) is core = (held, is)
in_core_alive k s (Grave u block) is core = absurd (cc core)

loaded_core : (s : ℕ) (b : Bool) → 0 < s → ((s == 0) || b) ≡ true → b ≡ true
loaded_core s b above is = sym (ap (λ c. c || b) (ne_eqb s 0 (λ e. omega (arith, e, above)))) ∙ is

-- The kernel has settled.
module _ (v : Processes) (k : Kept) (t : Table) where
  settled_cond_rows : (b : Bool) → (cond b (settled_by t (chosen t)) t).rows ≡ t.rows
  settled_cond_rows true = settled_rows t (chosen t)
  settled_cond_rows false = refl

  settled_cond_clock : (b : Bool) → clock_of (cond b (settled_by t (chosen t)) t) ≡ clock_of t
  settled_cond_clock true = λ i. record { time = settled_now t (chosen t) i; ticks = settled_ticks t (chosen t) i; tout = settled_tout t (chosen t) i }
  settled_cond_clock false = refl

  pub settled_clock : clock_of (settled_table t) ≡ clock_of t
  settled_clock = settled_cond_clock (gives_up t t.running)

  pub settled_agree : (u : Table) → u ≡ settled_table t → IsTable u → Agree v t k → Agree v u k
  settled_agree u is good a = agree_like v t u k a good (tables_same t u (ap (λ (x : Table). x.rows) is ∙ settled_cond_rows (gives_up t t.running)))

  choice_runs : (s : ℕ) → s < 50 → 0 < s → chosen t ≡ Some s → Agree v t k → HasImage k s
  choice_runs s low above choice a =
      let core : is_in_core (row_at t s).place ≡ true = loaded_core s (is_in_core (row_at t s).place) above (runs_loaded t s (chosen_runs t s choice)) in
      in_core_alive k s (keeping k s) refl (ap is_in_core (sym (a.each s above low).place) ∙ core)

  pub settled_image : (u : Table) → u ≡ settled_table t → IsTable u → Agree v t k → RunsImage t k → RunsImage u k
  settled_image u is good a runs s e above = by (gives_up t t.running) (ap (λ (x : Table). x.running) (sym is) ∙ e)
    where
      low : s < 50
      low = subst (λ o. MatchOption o ⊤ (λ r. r < 50)) e good.running

      by : (b : Bool) → (cond b (settled_by t (chosen t)) t).running ≡ Some s → HasImage k s
      by true f = choice_runs s low above (sym (settled_running t (chosen t)) ∙ f) a
      by false f = runs s f above

  pub settled_settles : (u : Table) → u ≡ settled_table t → (s : ℕ) → u.running ≡ Some s → settle u ≡ None
  settled_settles u is s e = ap settle is ∙ by (gives_up t t.running) refl (ap (λ (x : Table). x.running) (sym is) ∙ e)
    where
      by : (b : Bool) → gives_up t t.running ≡ b → (cond b (settled_by t (chosen t)) t).running ≡ Some s → settle (cond b (settled_by t (chosen t)) t) ≡ None
      by true g f =
          let choice : chosen t ≡ Some s = sym (settled_running t (chosen t)) ∙ f in
          ap (λ o. settle (settled_by t o)) choice ∙ go_settles t s choice
      by false g f = settle_none t g

  choice_same : (o : Option ℕ) → o ≡ None → chosen (settled_by t o) ≡ chosen t
  unfolding chosen
  choice_same None none = refl
  choice_same (Some s) none = absurd (cc none)

  -- where nobody runs then, nobody can
  pub settled_idle : (u : Table) → u ≡ settled_table t → u.running ≡ None → chosen u ≡ None
  settled_idle u is e = ap chosen is ∙ by (gives_up t t.running) refl (ap (λ (x : Table). x.running) (sym is) ∙ e)
    where
      by : (b : Bool) → gives_up t t.running ≡ b → (cond b (settled_by t (chosen t)) t).running ≡ None → chosen (cond b (settled_by t (chosen t)) t) ≡ None
      by true g f = let choice : chosen t ≡ None = sym (settled_running t (chosen t)) ∙ f in choice_same (chosen t) choice ∙ choice
      by false g f = absurd (let gives : gives_up t t.running ≡ true = ap (gives_up t) f in cc (g, gives))

-- The system with another table, whose clock is the same.
pub table_system : (w : World) (u : Table) → clock_of u ≡ clock_of w.procs.table → system_at (with_table w u) ≡ record (system_at w) { board = board_in (with_table w u) }
table_system w u clock = λ i. record { unix = record (unix_of w) { clock = clock i }; board = board_in (with_table w u) }

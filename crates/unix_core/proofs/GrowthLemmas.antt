-- break(II) and the growth of a stack: what the world is then, and what they have come to.
use Rattle.std.proofs.Common.{◌≡◌, ◌∙◌, ℕ, Bool, true, false, option_map, is_some, List, [], map, append-nil, Option, Some, None, ◌⊎◌, inl, inr, ◌+◌, ◌∷◌, nat_le, if◌then◌else◌, refl, sym, ap, subst}
use Rattle.std.specs.Prelude.{Result, Ok, Err}
use Rattle.v6_base.specs.Trace.{Log, Taken, Took}
use Rattle.v6_base.specs.declared.entry.Place.{Place}
use Rattle.v6_base.specs.declared.entry.Entry.TheVariants as line
use Rattle.pick_rules.specs.Table.{row_at}
use Rattle.pick_rules.specs.Board.{Board, placed}
use Rattle.pick_rules.specs.Apply.{applied}
use Rattle.v6_base.proofs.Took.{took_nothing}
use Rattle.v6_base.specs.declared.answer.Answer.TheVariants.{Fail}
use Rattle.v6_base.specs.declared.entry.PanicKind.{PanicKind}
use Rattle.v6_base.specs.declared.errno.Errno.TheVariants.{ENOMEM}
use Rattle.pick_rules.specs.Effects as effects
use Rattle.pick_rules.specs.Effects.{Effect, Size, Lets, image_at, lifted}
use Rattle.pick_rules.specs.Logged.{Logged, Stop, logged, log_one, with_what_came, left_by}
use Rattle.fs_nodes.specs.FileSystem.{IsFileSystem}
use Rattle.fs_nodes.specs.Keys.{counts}
use Rattle.seg_regs.specs.Sizes.{is_refused}
use Rattle.sys_procs.specs.Process.{Process}
use Rattle.sys_procs.specs.World as its
use Rattle.sys_procs.specs.Comes.{Comes, fails}
use Rattle.sys_procs.specs.Break.{sized, expands, clicks_up_to, break_at, grown_stack, grow, grown_or_not, grown_by}
use Rattle.sys_procs.specs.Handed.{AreProcs, board, came}
use Rattle.sys_procs.specs.Done.{HasGrown}
use Rattle.sig_core.specs.declared.numbers.TheConstants.{SIGSEG}
use Rattle.sys_procs.specs.TextTable.{marks_of}
use Rattle.unix_core.specs.declared.world.World.{World}
use Rattle.abstract_unix.specs.Unix.{Unix, process_of}
use Rattle.abstract_unix.specs.Whole.{CanGoOn}
use Rattle.abstract_unix.specs.Steps.{Steps, quietly, returns, signals, after_effects}
use Rattle.abstract_unix.specs.declared.ending.Ending.{Ending}
use Rattle.abstract_unix.specs.declared.ending.Ending.TheVariants.{Trapped, Panic}
use Rattle.abstract_unix.specs.Calls.{with_world, grows, grows_to}
use Rattle.abstract_unix.specs.Calls as unix
use Rattle.unix_core.specs.Parts.{unix_of, board_in, IsReady, HasCome}
use Rattle.unix_core.proofs.GoingLemmas.{going_put}
use Rattle.unix_core.proofs.WorldLemmas.{slot_is}
use Rattle.unix_core.proofs.AreaLemmas.{own_put}
use Rattle.abstract_unix.proofs.Owing.{told_change}
use Rattle.unix_core.proofs.CameLemmas.{StaysBeside, IsLike, IsTame, tame_comes, tame_if, world_is, gone_unix, gone_come, gone_took, stopped_come, stopped_took, gone_ready, still_marked}
use Rattle.unix_core.proofs.CameLemmas.{given}

pub given_like : (w : World) → IsLike w (given w)
given_like w = record { refs = λ ino. refl; told = refl }

-- what the log says of a growth, by whether it keeps its place and else by the place that it finds
abbrev log_by : {W : Type 0} → Board → ℕ → ℕ → W → Bool → Option Place → Logged W
log_by b s clicks before x o =
    with_what_came (record { items = []; board = b; stop = None })
    (if x then Lets (Log (line.SizeKeep s clicks)) else image_at before o (λ place. line.Size s clicks place))

-- Where a growth finds no place, the board is as it was.
size_log : {W : Type 0} (b : Board) (s clicks : ℕ) (before : W)
    → ((logged b (Size s clicks before ∷ [])).stop ≡ None) ⊎ ((logged b (Size s clicks before ∷ [])).board ≡ b)
unfolding log_one effects.came applied
size_log {W} b s clicks before = by (nat_le clicks (row_at b.table s).size) (placed b s clicks)
  where
    by : (x : Bool) (o : Option Place) → ((log_by b s clicks before x o).stop ≡ None) ⊎ ((log_by b s clicks before x o).board ≡ b)
    by true o = inl refl
    by false None = inr refl
    by false (Some place) = inl refl

module _ (w : World) (s : ℕ) (ready : IsReady w s) where
  abbrev p : Process
  p = its.process_of (given w) s

  expands_tame : (d stack : ℕ) → IsTame w (expands (given w) s d stack)
  expands_tame d stack = record {
    still = record { effects = (refl, tt); switches = λ none. refl };
    like = λ none. record {
      refs = λ ino. refl;
      told = told_change (unix_of w).processes s (process_of (unix_of w) s) (sized d stack (process_of (unix_of w) s)) (slot_is w s ready) refl;
    };
  }

  pub break_tame : (at : ℕ) → IsTame w (break_at (given w) s at)
  unfolding break_at
  break_tame at =
      let d = clicks_up_to p.u.text_size at in
      tame_if w (is_refused p.u.text_size d p.u.stack_size (given w).limit) (fails (given w) ENOMEM) (expands (given w) s d p.u.stack_size)
      (tame_comes w (given w) (Fail ENOMEM) refl (given_like w)) (expands_tame d p.u.stack_size)

  grow_tame : (sp : ℕ) (c : Comes) → grow (given w) s sp ≡ Some c → IsTame w c
  unfolding grow
  grow_tame sp c e = by (grown_stack p.u.text_size p.u.data_size p.u.stack_size (given w).limit sp) e
    where
      by : (o : Option ℕ) → option_map (expands (given w) s p.u.data_size) o ≡ Some c → IsTame w c
      by None is = absurd (cc is)
      by (Some stack) is =
          let same : expands (given w) s p.u.data_size stack ≡ c = cc is in
          subst (IsTame w) same (expands_tame p.u.data_size stack)

  -- no text changes, and who waits can go on
  record Leaves (c : Comes) : Type 0 where
    texts : c.state.texts ≡ (unix_of w).texts
    same : counts c.state.inodes.store ≡ counts w.files.tree.nodes.store
    waits : CanGoOn (with_world (unix_of w) c.state)
    handlers : (its.process_of c.state s).u.handlers ≡ (process_of (unix_of w) s).u.handlers
    halts : ((came w.procs c).stop ≡ None) ⊎ ((came w.procs c).board ≡ board w.procs)

  expands_leaves : (d stack : ℕ) → Leaves (expands (given w) s d stack)
  expands_leaves d stack = record {
    texts = refl;
    same = refl;
    waits = going_put (unix_of w) s (process_of (unix_of w) s) (sized d stack (process_of (unix_of w) s)) (slot_is w s ready)
        (record { pending = refl; call = refl; files = refl; lives = refl }) ready.good.pending;
    handlers = ap (λ (x : Process). x.u.handlers)
        (own_put (unix_of w) s (process_of (unix_of w) s) (sized d stack (process_of (unix_of w) s)) (slot_is w s ready));
    halts = size_log (board w.procs) s (16 + d + stack) (given w);
  }

  grow_leaves : (sp : ℕ) (c : Comes) → grow (given w) s sp ≡ Some c → Leaves c
  unfolding grow
  grow_leaves sp c e = by (grown_stack p.u.text_size p.u.data_size p.u.stack_size (given w).limit sp) e
    where
      by : (o : Option ℕ) → option_map (expands (given w) s p.u.data_size) o ≡ Some c → Leaves c
      by None is = absurd (cc is)
      by (Some stack) is =
          let same : expands (given w) s p.u.data_size stack ≡ c = cc is in
          subst Leaves same (expands_leaves p.u.data_size stack)

-- What is answered of a growth.
answered_so : (o : Option (Stop its.World)) (grows b : Bool) (r : Result Bool PanicKind) → r ≡ grown_by o b → r ≡ Ok grows → (o ≡ None) × (b ≡ grows)
answered_so None grows b r e is = let same : ◌≡◌ {A = Result Bool PanicKind} (Ok b) (Ok grows) = sym e ∙ is in (refl, cc same)
answered_so (Some stop) grows b r e is =
    absurd (let never : ◌≡◌ {A = Result Bool PanicKind} (Ok grows) (Err stop.why) = sym is ∙ e in cc never)

stopped_so : (o : Option (Stop its.World)) (kind : PanicKind) (b : Bool) (r : Result Bool PanicKind) → r ≡ grown_by o b → r ≡ Err kind
    → (stop : Stop its.World) × ((o ≡ Some stop) × (kind ≡ stop.why))
stopped_so None kind b r e is = absurd (let never : ◌≡◌ {A = Result Bool PanicKind} (Err kind) (Ok b) = sym is ∙ e in cc never)
stopped_so (Some stop) kind b r e is =
    let same : ◌≡◌ {A = Result Bool PanicKind} (Err kind) (Err stop.why) = sym is ∙ e in (stop, (refl, cc same))

there_is : (o : Option Comes) → is_some o ≡ true → (c : Comes) × (o ≡ Some c)
there_is None e = absurd (cc e)
there_is (Some c) e = (c, refl)

there_is_none : (o : Option Comes) → is_some o ≡ false → o ≡ None
there_is_none None e = refl
there_is_none (Some c) e = absurd (cc e)

-- The world after it, and what it has come to.
abbrev pub growth : World → ℕ → ℕ → Option Comes
growth w s sp = grow (given w) s sp

abbrev pub row : World → ℕ → Option Comes → Comes
row w s o = grown_or_not (given w) s o

row_tame : (w : World) (s sp : ℕ) → IsReady w s → (o : Option Comes) → growth w s sp ≡ o → IsTame w (row w s o)
row_tame w s sp ready None e = tame_comes w (given w) _ refl (given_like w)
row_tame w s sp ready (Some c) e = grow_tame w s ready sp c e

row_leaves : (w : World) (s sp : ℕ) (ready : IsReady w s) (o : Option Comes) → growth w s sp ≡ o → Leaves w s ready (row w s o)
row_leaves w s sp ready None e = record { texts = refl; same = refl; waits = ready.good.pending; handlers = refl; halts = inl refl }
row_leaves w s sp ready (Some c) e = grow_leaves w s ready sp c e

-- effects after which a turn just ends
pub bare : (es : List (Effect Unix)) (u : Unix) (e : Ending) → after_effects es (quietly u e) ≡ record { effects = es; unix = u; ending = e }
bare es u e = ap (λ xs. record { effects = xs; unix = u; ending = e }) (append-nil es)

module _ (w now : World) (s sp : ℕ) (ready : IsReady w s) (form : IsFileSystem w.files.tree.nodes) (stays : StaysBeside w now)
    {r : Result Bool PanicKind} {start end : Taken}
    (does : HasGrown w.procs now.procs now.files.tree.nodes (given w) s r start end (growth w s sp)) where
  -- what it has come to, whether the stack has grown or not
  abbrev pub its_row : Comes
  its_row = row w s (growth w s sp)

  tame : IsTame w its_row
  tame = row_tame w s sp ready (growth w s sp) refl

  abbrev pub shown : List (Effect Unix)
  shown = map (lifted (with_world (unix_of w))) its_row.effects

  -- it doesn't stop
  module _ (grown : Bool) (ok : r ≡ Ok grown) where
    went : ((came w.procs its_row).stop ≡ None) × (is_some (growth w s sp) ≡ grown)
    went = answered_so (came w.procs its_row).stop grown (is_some (growth w s sp)) r does.answer ok

    pub grows_unix : unix_of now ≡ with_world (unix_of w) its_row.state
    grows_unix = gone_unix w now its_row tame.still stays does.left went.0

    pub grows_ready : AreProcs now.procs → now.files.tree.marks ≡ w.files.tree.marks → IsReady now s
    grows_ready agree marks =
        let leaves = row_leaves w s sp ready (growth w s sp) refl in
        gone_ready w now s its_row tame stays does.left went.0 ready agree leaves.waits
        (still_marked w now its_row.state ready.good.marks marks (does.left.state ∙ ap (λ o. left_by o its_row.state) went.0) (ap marks_of leaves.texts)) leaves.same

    -- who is told of signals as before
    pub grows_handlers : (process_of (unix_of now) s).u.handlers ≡ (process_of (unix_of w) s).u.handlers
    grows_handlers =
        let leaves = row_leaves w s sp ready (growth w s sp) refl in
        ap (λ (u : Unix). (process_of u s).u.handlers) grows_unix ∙ leaves.handlers

    pub grows_come : (next : Steps) (e : Ending) (fin : World) → HasCome (board_in now) next e fin → HasCome (board_in w) (after_effects shown next) e fin
    grows_come next e fin come = gone_come w now its_row tame.still stays does.left went.0 next e fin come

    pub grows_took : (next : Steps) (last : Taken) → Took end (logged (board_in now) next.effects).items last
        → Took start (logged (board_in w) (after_effects shown next).effects).items last
    grows_took next last took = gone_took w now its_row tame.still stays does.left went.0 next last took

  -- it stops
  module _ (kind : PanicKind) (err : r ≡ Err kind) (next : Steps) where
    halt : (stop : Stop its.World) × (((came w.procs its_row).stop ≡ Some stop) × (kind ≡ stop.why))
    halt = stopped_so (came w.procs its_row).stop kind (is_some (growth w s sp)) r does.answer err

    -- and who runs still does
    pub grows_runs : now.procs.table.running ≡ Some s
    grows_runs =
        let leaves = row_leaves w s sp ready (growth w s sp) refl in
        elim leaves.halts [
          | inl none ↦ absurd (let some = halt.1.0 in cc (none, some))
          | inr same ↦ ap (λ (b : Board). b.table.running) (does.left.shown ∙ same) ∙ ready.runs
        ]

    pub grows_stop : HasCome (board_in w) (after_effects shown next) (Panic kind) now
    grows_stop = stopped_come w now its_row tame.still stays does.left halt.0 halt.1.0 next (Panic kind) (ap Panic halt.1.1)

    pub grows_cut : Took start (logged (board_in w) (after_effects shown next).effects).items end
    grows_cut = stopped_took w now its_row tame.still stays does.left halt.0 halt.1.0 next

  -- by what the growth is
  whole : (o : Option Comes) → growth w s sp ≡ o → unix.grown_by (unix_of w) s o ≡ grows_to (unix_of w) s sp
  whole o is =
      ap (unix.grown_by (unix_of w) s) (sym is) ∙ ap (λ x. unix.grown_by (unix_of w) s (grow x s sp)) (world_is w s ready form)

  some_whole : (c : Comes) → growth w s sp ≡ Some c → after_effects shown (returns (with_world (unix_of w) its_row.state)) ≡ grows_to (unix_of w) s sp
  some_whole c is =
      bare shown (with_world (unix_of w) its_row.state) Trapped
      ∙ ap (λ o. grows (unix_of w) (row w s o)) is ∙ whole (Some c) is

  none_whole : growth w s sp ≡ None → after_effects shown (signals (unix_of w) s SIGSEG) ≡ grows_to (unix_of w) s sp
  none_whole is = ap (λ o. after_effects (map (lifted (with_world (unix_of w))) (row w s o).effects) (signals (unix_of w) s SIGSEG)) is ∙ whole None is

  -- The stack has grown.
  module _ (ok : r ≡ Ok true) where
    its_growth : (c : Comes) × (growth w s sp ≡ Some c)
    its_growth = there_is (growth w s sp) (went true ok).1

    pub grown_come : HasCome (board_in w) (grows_to (unix_of w) s sp) Trapped now
    grown_come =
        subst (λ x. HasCome (board_in w) x Trapped now) (some_whole its_growth.0 its_growth.1)
        (grows_come true ok (returns (with_world (unix_of w) its_row.state)) Trapped now
        (record { ending = refl; unix = grows_unix true ok; board = refl }))

    pub grown_took : Took start (logged (board_in w) (grows_to (unix_of w) s sp).effects).items end
    grown_took =
        subst (λ (x : Steps). Took start (logged (board_in w) x.effects).items end) (some_whole its_growth.0 its_growth.1)
        (grows_took true ok (returns (with_world (unix_of w) its_row.state)) end (took_nothing end [] refl))

  -- It has not, and the process is sent a signal.
  module _ (ok : r ≡ Ok false) where
    no_growth : growth w s sp ≡ None
    no_growth = there_is_none (growth w s sp) (went false ok).1

    same_unix : unix_of now ≡ unix_of w
    same_unix = grows_unix false ok ∙ ap (λ o. with_world (unix_of w) (row w s o).state) no_growth

    pub not_grown_come : (e : Ending) (fin : World) → HasCome (board_in now) (signals (unix_of now) s SIGSEG) e fin
        → HasCome (board_in w) (grows_to (unix_of w) s sp) e fin
    not_grown_come e fin come =
        subst (λ x. HasCome (board_in w) x e fin) (none_whole no_growth)
        (grows_come false ok (signals (unix_of w) s SIGSEG) e fin
        (subst (λ (u : Unix). HasCome (board_in now) (signals u s SIGSEG) e fin) same_unix come))

    pub not_grown_took : (last : Taken) → Took end (logged (board_in now) (signals (unix_of now) s SIGSEG).effects).items last
        → Took start (logged (board_in w) (grows_to (unix_of w) s sp).effects).items last
    not_grown_took last took =
        subst (λ (x : Steps). Took start (logged (board_in w) x.effects).items last) (none_whole no_growth)
        (grows_took false ok (signals (unix_of w) s SIGSEG) last
        (subst (λ (u : Unix). Took end (logged (board_in now) (signals u s SIGSEG).effects).items last) same_unix took))

  -- The run has stopped.
  module _ (kind : PanicKind) (err : r ≡ Err kind) where
    its_stop : (c : Comes) × (growth w s sp ≡ Some c)
    its_stop = by (growth w s sp) refl
      where
        by : (o : Option Comes) → growth w s sp ≡ o → (c : Comes) × (growth w s sp ≡ Some c)
        by (Some c) is = (c, is)
        by None is =
            let h = stopped_so (came w.procs its_row).stop kind (is_some (growth w s sp)) r does.answer err in
            absurd (let never : None ≡ Some h.0 = sym (ap (λ x. (came w.procs (row w s x)).stop) is) ∙ h.1.0 in cc never)

    pub growth_stops : HasCome (board_in w) (grows_to (unix_of w) s sp) (Panic kind) now
    growth_stops =
        subst (λ x. HasCome (board_in w) x (Panic kind) now) (some_whole its_stop.0 its_stop.1)
        (grows_stop kind err (returns (with_world (unix_of w) its_row.state)))

    pub growth_cut : Took start (logged (board_in w) (grows_to (unix_of w) s sp).effects).items end
    growth_cut =
        subst (λ (x : Steps). Took start (logged (board_in w) x.effects).items end) (some_whole its_stop.0 its_stop.1)
        (grows_cut kind err (returns (with_world (unix_of w) its_row.state)))

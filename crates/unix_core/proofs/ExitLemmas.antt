-- A process ends with a status: what its log is, and what it has come to, whether the process has ended or the run stops.
use Rattle.std.proofs.Common.{◌≡◌, ◌∙◌, ℕ, List, [], ◌∷◌, map, Option, Some, None, refl, sym, ap, subst, ◌⊎◌, inl, inr}
use Rattle.v6_base.specs.Trace.{Item, Log, Taken, Took}
use Rattle.v6_base.proofs.Took.{took_more}
use Rattle.v6_base.specs.declared.entry.Chan.TheVariants.{Wait}
use Rattle.v6_base.specs.declared.entry.Entry.TheVariants as line
use Rattle.v6_base.specs.declared.entry.PanicKind.TheVariants as panic
use Rattle.pick_rules.specs.Board.{Board, swap_fit}
use Rattle.pick_rules.specs.Apply.{applied}
use Rattle.pick_rules.specs.Effects.{Show, Exit}
use Rattle.pick_rules.specs.Effects as effects
use Rattle.pick_rules.specs.Logged.{Logged, Stop, logged, log_one, left_by}
use Rattle.sys_procs.specs.World as its
use Rattle.sys_procs.specs.Comes.{Comes}
use Rattle.sys_procs.specs.Texts.{leaves_text, is_sticky, xfree}
use Rattle.sys_procs.specs.Exit.{leaves, dies, end_proc}
use Rattle.sys_procs.specs.Handed.{handed, board, came}
use Rattle.fs_nodes.specs.FileSystem.{IsFileSystem}
use Rattle.unix_core.specs.declared.world.World.{World}
use Rattle.abstract_unix.specs.declared.ending.Ending.TheVariants.{Ended, Panic}
use Rattle.abstract_unix.specs.declared.ending.Ending.{Ending}
use Rattle.abstract_unix.specs.Unix.{Unix, process_of}
use Rattle.abstract_unix.specs.Calls.{in_order, exits_with, closes_all, with_handed, with_world, world_of}
use Rattle.unix_core.specs.Parts.{unix_of, board_in, IsReady, HasCome, ended_as}
use Rattle.unix_core.proofs.LoggedLemmas.{over, stop_of, after_items, logged_after, logged_both}
use Rattle.unix_core.proofs.CameLemmas.{world_is}

-- What the log says of an end.
abbrev pub of_end : {W : Type 0} → Board → ℕ → ℕ → ℕ → Logged W
of_end b s block parent = record {
  items = Log (line.Exit s block) ∷ Log (line.Wake (Wait 1)) ∷ Log (line.Wake (Wait parent)) ∷ [];
  board = applied (applied (applied b (line.Exit s block)) (line.Wake (Wait 1))) (line.Wake (Wait parent));
  stop = None;
}

logged_exit : {W : Type 0} (b : Board) (s block parent : ℕ) (w : W) → swap_fit b 1 ≡ Some block
    → logged b (Exit s w ∷ Show (Log (line.Wake (Wait 1))) ∷ Show (Log (line.Wake (Wait parent))) ∷ []) ≡ of_end b s block parent
unfolding log_one effects.came
logged_exit b s block parent w fit = rw fit refl

-- What it says where the swap area has no block for what is kept.
abbrev pub of_panic : {W : Type 0} → Board → W → Logged W
of_panic b before = record {
  items = Log (line.Panic panic.Zombie) ∷ [];
  board = b;
  stop = Some (record { why = panic.Zombie; before = before });
}

logged_panic : {W : Type 0} (b : Board) (s parent : ℕ) (w : W) → swap_fit b 1 ≡ None
    → logged b (Exit s w ∷ Show (Log (line.Wake (Wait 1))) ∷ Show (Log (line.Wake (Wait parent))) ∷ []) ≡ of_panic b w
unfolding log_one effects.came applied
logged_panic b s parent w none = rw none refl

module _ (w1 : World) (s : ℕ) (ready : IsReady w1 s) (status : ℕ) where
  abbrev pub ends : Comes
  ends = end_proc (handed w1.procs w1.files.tree.nodes) s status

  -- the process has left its directory
  abbrev pub away : its.World
  away = leaves (handed w1.procs w1.files.tree.nodes) s status

  abbrev pub its_text : Option ℕ
  its_text = (process_of (unix_of w1) s).text

  -- and its text, if it has one, which the log tells
  abbrev pub left_world : Option ℕ → its.World
  left_world None = away
  left_world (Some k) = leaves_text away s k (is_sticky away k)

  abbrev pub text_items : Option ℕ → List Item
  text_items None = []
  text_items (Some k) = Log (line.Leave s k (is_sticky away k)) ∷ []

  abbrev pub text_board : Option ℕ → Board
  text_board None = board_in w1
  text_board (Some k) = applied (board_in w1) (line.Leave s k (is_sticky away k))

  abbrev pub has_left : its.World
  has_left = left_world its_text

  abbrev left_board : Board
  left_board = text_board its_text

  abbrev ends_by : Option ℕ → Comes
  ends_by o = xfree away s o (λ left. dies left s)

  state_by : (o : Option ℕ) → (ends_by o).state ≡ (dies (left_world o) s).state
  state_by None = refl
  state_by (Some k) = refl

  log_by : (o : Option ℕ)
      → came w1.procs (ends_by o) ≡ after_items (text_items o) (logged (text_board o) (dies (left_world o) s).effects)
  unfolding log_one effects.came
  log_by None = refl
  log_by (Some k) = logged_after (board_in w1) (text_items (Some k)) (dies (left_world (Some k)) s).effects

  ends_are_by : ends ≡ ends_by its_text
  unfolding end_proc
  ends_are_by = refl

  pub ends_state : ends.state ≡ (dies has_left s).state
  ends_state = ap (λ (c : Comes). c.state) ends_are_by ∙ state_by its_text

  its_log : came w1.procs ends ≡ after_items (text_items its_text) (logged left_board (dies has_left s).effects)
  its_log = ap (λ (c : Comes). came w1.procs c) ends_are_by ∙ log_by its_text

  -- what the log says of it, where there is a block of the swap area, and where the run stops
  abbrev pub of_its_end : ℕ → ℕ → Logged its.World
  of_its_end block parent = after_items (text_items its_text) (of_end left_board s block parent)

  abbrev pub of_its_panic : Logged its.World
  of_its_panic = after_items (text_items its_text) (of_panic left_board has_left)

  end_log : ((block : ℕ) × ((parent : ℕ) × (came w1.procs ends ≡ of_its_end block parent))) ⊎ (came w1.procs ends ≡ of_its_panic)
  end_log = by (swap_fit left_board 1) refl
    where
      by : (o : Option ℕ) → swap_fit left_board 1 ≡ o
          → ((block : ℕ) × ((parent : ℕ) × (came w1.procs ends ≡ of_its_end block parent))) ⊎ (came w1.procs ends ≡ of_its_panic)
      by (Some block) fit =
          inl (block, (_, its_log ∙ ap (after_items (text_items its_text)) (logged_exit left_board s block _ _ fit)))
      by None fit = inr (its_log ∙ ap (after_items (text_items its_text)) (logged_panic left_board s _ _ fit))

  pub end_goes : (came w1.procs ends).stop ≡ None → (block : ℕ) × ((parent : ℕ) × (came w1.procs ends ≡ of_its_end block parent))
  end_goes none = elim end_log [
    | inl there ↦ there
    | inr full ↦ absurd (let some = sym none ∙ ap (λ (l : Logged its.World). l.stop) full in cc some)
  ]

  pub end_stops : (stop : Stop its.World) → (came w1.procs ends).stop ≡ Some stop → came w1.procs ends ≡ of_its_panic
  end_stops stop some = elim end_log [
    | inl there ↦ absurd (let none = sym some ∙ ap (λ (l : Logged its.World). l.stop) there.1.1 in cc none)
    | inr full ↦ full
  ]

  pub end_state : (x : its.World) → (came w1.procs ends).stop ≡ None → x ≡ left_by (came w1.procs ends).stop ends.state
      → x ≡ ends.state
  end_state x none e = e ∙ ap (λ o. left_by o ends.state) none

-- The files of the process are closed, and then it ends.
module _ (w w1 now : World) (s : ℕ) (ready : IsReady w1 s) (status : ℕ)
    (form : IsFileSystem w1.files.tree.nodes)
    (unix : unix_of w1 ≡ with_handed (unix_of w) s (closes_all (unix_of w) s).state)
    (shown : board_in w1 ≡ (logged {W = Unix} (board_in w) (map Show (in_order (closes_all (unix_of w) s).items))).board) where
  abbrev items : List Item
  items = in_order (closes_all (unix_of w) s).items

  abbrev u1 : Unix
  u1 = with_handed (unix_of w) s (closes_all (unix_of w) s).state

  its_world : handed w1.procs w1.files.tree.nodes ≡ world_of u1
  its_world = world_is w1 s ready form ∙ ap world_of unix

  ends_are : ends w1 s ready status ≡ end_proc (world_of u1) s status
  ends_are = ap (λ x. end_proc x s status) its_world

  -- the log of the whole
  whole : logged (board_in w) (exits_with (unix_of w) s status).effects
      ≡ after_items items (over (with_world u1) (came w1.procs (ends w1 s ready status)))
  whole =
      logged_both (with_world u1) (board_in w) items (end_proc (world_of u1) s status).effects
      ∙ ap (λ b. after_items items (over (with_world u1) (logged b (end_proc (world_of u1) s status).effects))) (sym shown)
      ∙ ap (λ (c : Comes). after_items items (over (with_world u1) (logged (board_in w1) c.effects))) (sym ends_are)

  pub exit_took : (a b c : Taken) → Took a items b → Took b (came w1.procs (ends w1 s ready status)).items c
      → Took a (logged (board_in w) (exits_with (unix_of w) s status).effects).items c
  exit_took a b c first second =
      subst (λ (l : List Item). Took a l c) (ap (λ (l : Logged Unix). l.items) (sym whole))
      (took_more a b c items (came w1.procs (ends w1 s ready status)).items first second)

  -- it stops where the end does
  halts : (o : Option (Stop its.World)) → (came w1.procs (ends w1 s ready status)).stop ≡ o
      → (logged (board_in w) (exits_with (unix_of w) s status).effects).stop ≡ stop_of (with_world u1) o
  halts o is = ap (λ (l : Logged Unix). l.stop) whole ∙ ap (stop_of (with_world u1)) is

  pub exit_come : (came w1.procs (ends w1 s ready status)).stop ≡ None → unix_of now ≡ with_world (unix_of w1) (ends w1 s ready status).state
      → board now.procs ≡ (came w1.procs (ends w1 s ready status)).board → HasCome (board_in w) (exits_with (unix_of w) s status) Ended now
  exit_come none is board_is = record {
    ending = ap (λ (o : Option (Stop Unix)). ended_as o Ended) (sym (halts None none));
    unix = is ∙ (λ i. with_world (unix i) (ends_are i).state)
        ∙ ap (λ (o : Option (Stop Unix)). left_by o (with_world u1 (end_proc (world_of u1) s status).state))
        (sym (halts None none));
    board = board_is ∙ ap (λ (l : Logged Unix). l.board) (sym whole);
  }

  -- The run has stopped, since the swap area has no block.
  pub exit_stops : (stop : Stop its.World) → (came w1.procs (ends w1 s ready status)).stop ≡ Some stop → (e : Ending)
      → e ≡ Panic stop.why
      → unix_of now ≡ with_world (unix_of w1) stop.before → board now.procs ≡ (came w1.procs (ends w1 s ready status)).board
      → HasCome (board_in w) (exits_with (unix_of w) s status) e now
  exit_stops stop some e ended is board_is = record {
    ending = ended ∙ ap (λ (o : Option (Stop Unix)). ended_as o Ended) (sym (halts (Some stop) some));
    unix = is ∙ ap (λ (u : Unix). with_world u stop.before) unix
        ∙ ap (λ (o : Option (Stop Unix)). left_by o (with_world u1 (end_proc (world_of u1) s status).state))
        (sym (halts (Some stop) some));
    board = board_is ∙ ap (λ (l : Logged Unix). l.board) (sym whole);
  }

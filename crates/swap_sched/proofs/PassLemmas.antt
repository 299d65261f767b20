-- A pass is its moves, one after another.
use Rattle.std.proofs.Common.{◌≡◌, ◌∙◌, ◌+◌, ◌<◌, ◌≤◌, ◌-◌, true, false, is_none, ℕ, zero, suc, ◌++◌, Option, Some, None, Result, Ok, Err, refl, sym, ap, subst, inl, inr, ◌⊎◌, arith}
use Rattle.std.proofs.lemmas.List.Sums.{fold-append}
use Rattle.v6_base.specs.Trace.{Taken}
use Rattle.v6_base.proofs.Took.{took_none, took_then}
use Rattle.v6_base.specs.declared.entry.PanicKind.{PanicKind}
use Rattle.pick_rules.specs.declared.table.Table.{Table}
use Rattle.pick_rules.specs.Board.{Board}
use Rattle.pick_rules.specs.Effects.{Came, Lets, Stops}
use Rattle.pick_rules.specs.Logged.{Stop, Logged, nothing_logged, with_item, with_what_came, unless_stopped}
use Rattle.pick_rules.specs.Swapper.{swap_move}
use Rattle.image_keep.specs.Kept.{Kept}
use Rattle.swap_sched.specs.Match.{Matches, board_of}
use Rattle.swap_sched.specs.Moved.{HasMoved, kept_by_item, kept_after, answered}
use Rattle.swap_sched.specs.Pass.{came_of_move, while_it_runs, moved, moves_after, pass}
use Rattle.swap_sched.specs.inside.Does.{MakesMove, next_logged}

-- what is logged after something else
abbrev pub joined : Logged (Unit {0}) → Logged (Unit {0}) → Logged (Unit {0})
joined l m = record { items = l.items ++ m.items; board = m.board; stop = m.stop }

came_joined : (l : Logged (Unit {0})) → l.stop ≡ None → (c : Came (Unit {0}))
    → with_what_came l c ≡ joined l (with_what_came (nothing_logged l.board) c)
came_joined l e (Lets item) = λ i. record { items = (with_item l item).items; board = (with_item l item).board; stop = e i }
came_joined l e (Stops kind before) = refl

pub next_move : (l : Logged (Unit {0})) (s : ℕ) → l.stop ≡ None → l.board.table.running ≡ Some s → moved l ≡ joined l (next_logged l.board)
unfolding moved
next_move l s e f =
    (λ i. while_it_runs (f i) l (unless_stopped (e i) l (with_what_came l (came_of_move l.board (swap_move l.board)))))
    ∙ came_joined l e (came_of_move l.board (swap_move l.board))

-- After a sleep or a panic nothing moves.
pub rests_asleep : (l : Logged (Unit {0})) → l.board.table.running ≡ None → moved l ≡ l
unfolding moved
rests_asleep l f = λ i. while_it_runs (f i) l (unless_stopped l.stop l (with_what_came l (came_of_move l.board (swap_move l.board))))

pub rests_stopped : (l : Logged (Unit {0})) (stop : Stop (Unit {0})) → l.stop ≡ Some stop → moved l ≡ l
unfolding moved
rests_stopped l stop e =
    (λ i. while_it_runs l.board.table.running l (unless_stopped (e i) l (with_what_came l (came_of_move l.board (swap_move l.board)))))
    ∙ by l.board.table.running
  where
    by : (o : Option ℕ) → while_it_runs o l l ≡ l
    by None = refl
    by (Some s) = refl

rests_on : (b : Board) (n m : ℕ) → moved (moves_after b n) ≡ moves_after b n → moves_after b (m + n) ≡ moves_after b n
rests_on b n zero e = ap (moves_after b) (omega arith)
rests_on b n (suc m) e =
    let next : suc m + n ≡ suc (m + n) = omega arith in
    ap (moves_after b) next ∙ ap moved (rests_on b n m e) ∙ e

pub is_pass : (b : Board) (n : ℕ) → n ≤ 150 → moved (moves_after b n) ≡ moves_after b n → moves_after b n ≡ pass b
unfolding pass
is_pass b n l e =
    let all : 150 ≡ 150 - n + n = omega (arith, l) in
    sym (ap (moves_after b) all ∙ rests_on b n (150 - n) e)

pub is_whole : (b : Board) (n : ℕ) → n ≡ 150 → moves_after b n ≡ pass b
unfolding pass
is_whole b n e = ap (moves_after b) e

-- one move more
pub moves_on : (t u v : Table) (k m n : Kept) (a y z : Taken) (count : ℕ) (r : Result (Unit {0}) PanicKind)
    → HasMoved t k a (moves_after (board_of t k) count) u m y
    → (moves_after (board_of t k) count).stop ≡ None → u.running ≡ Some 0
    → MakesMove u m y r v n z
    → HasMoved t k a (moves_after (board_of t k) (suc count)) v n z
moves_on t u v k m n a y z count r h e f g = subst (λ l. HasMoved t k a l v n z) (sym next)
    (record {
      board = g.moved.board;
      images = g.moved.images ∙ (λ i. kept_after (h.images i) (next_logged (board_of u m)).items)
          ∙ sym (fold-append kept_by_item k before.items (next_logged (board_of u m)).items);
      tout = g.moved.tout ∙ h.tout;
      items = took_then a y z before.items (next_logged (board_of u m)).items _ h.items g.moved.items refl;
      matching = g.moved.matching;
    })
  where
    before : Logged (Unit {0})
    before = moves_after (board_of t k) count

    next : moved before ≡ joined before (next_logged (board_of u m))
    next = next_move before 0 e (ap (λ b. b.table.running) (sym h.board) ∙ f) ∙ ap (λ b. joined before (next_logged b)) (sym h.board)

pub stop_on : (t u v : Table) (k m n : Kept) (a y z : Taken) (count : ℕ) (r : Result (Unit {0}) PanicKind)
    → HasMoved t k a (moves_after (board_of t k) count) u m y
    → (moves_after (board_of t k) count).stop ≡ None → u.running ≡ Some 0
    → MakesMove u m y r v n z
    → r ≡ answered (moves_after (board_of t k) (suc count)).stop
stop_on t u v k m n a y z count r h e f g =
    g.answer ∙ ap (λ b. answered (next_logged b).stop) h.board
    ∙ sym (ap (λ (l : Logged (Unit {0})). answered l.stop) (next_move before 0 e (ap (λ b. b.table.running) (sym h.board) ∙ f)))
  where
    before : Logged (Unit {0})
    before = moves_after (board_of t k) count

pub none_stopped : (o : Option (Stop (Unit {0}))) → Ok tt ≡ answered o → o ≡ None
none_stopped None e = refl
none_stopped (Some stop) e = absurd (cc e)

pub some_stopped : (o : Option (Stop (Unit {0}))) (kind : PanicKind) → Err kind ≡ answered o → (stop : Stop (Unit {0})) × (o ≡ Some stop)
some_stopped None kind e = absurd (cc e)
some_stopped (Some stop) kind e = (stop, refl)

-- In the middle of a pass: so many moves have been made, and no panic has come.
pub record InPass (t : Table) (k : Kept) (a : Taken) (count : ℕ) (u : Table) (m : Kept) (y : Taken) : Type 0 where
  pub moved : HasMoved t k a (moves_after (board_of t k) count) u m y
  pub goes : (moves_after (board_of t k) count).stop ≡ None
  pub runs : (u.running ≡ None) ⊎ (u.running ≡ Some 0)

pub begins : (t : Table) (k : Kept) (a : Taken) → Matches t k → t.running ≡ Some 0 → InPass t k a 0 t k a
begins t k a m r = record {
  moved = record { board = refl; images = refl; tout = refl; items = took_none a; matching = m };
  goes = refl;
  runs = inr r;
}

awake : (o : Option ℕ) → is_none o ≡ false → (o ≡ None) ⊎ (o ≡ Some 0) → o ≡ Some 0
awake o e (inl f) = absurd (let h : is_none o ≡ true = ap is_none f in cc (e, h))
awake o e (inr f) = f

asleep : (o : Option ℕ) → is_none o ≡ true → o ≡ None
asleep None e = refl
asleep (Some s) e = absurd (cc e)

still : (o p : Option ℕ) → (o ≡ None) ⊎ (o ≡ p) → p ≡ Some 0 → (o ≡ None) ⊎ (o ≡ Some 0)
still o p (inl e) f = inl e
still o p (inr e) f = inr (e ∙ f)

module _ (t u v : Table) (k m n : Kept) (a y z : Taken) (count : ℕ) (r : Result (Unit {0}) PanicKind) (i : InPass t k a count u m y)
    (e : is_none u.running ≡ false) (g : MakesMove u m y r v n z) where
  one_more : HasMoved t k a (moves_after (board_of t k) (suc count)) v n z
  one_more = moves_on t u v k m n a y z count r i.moved i.goes (awake u.running e i.runs) g

  answer : r ≡ answered (moves_after (board_of t k) (suc count)).stop
  answer = stop_on t u v k m n a y z count r i.moved i.goes (awake u.running e i.runs) g

  pub goes_on : r ≡ Ok tt → InPass t k a (count + 1) v n z
  goes_on f =
      let next : suc count ≡ count + 1 = omega arith in
      subst (λ c. InPass t k a c v n z) next
      (record { moved = one_more; goes = none_stopped _ (sym f ∙ answer); runs = still v.running u.running g.runs (awake u.running e i.runs) })

  module _ (kind : PanicKind) (f : r ≡ Err kind) (l : count < 150) where
    whole : moves_after (board_of t k) (suc count) ≡ pass (board_of t k)
    whole =
        let s : (stop : Stop (Unit {0})) × ((moves_after (board_of t k) (suc count)).stop ≡ Some stop) = some_stopped _ kind (sym f ∙ answer) in
        is_pass (board_of t k) (suc count) (omega (arith, l)) (rests_stopped (moves_after (board_of t k) (suc count)) s.0 s.1)

    pub panic_does : HasMoved t k a (pass (board_of t k)) v n z
    panic_does = subst (λ x. HasMoved t k a x v n z) whole one_more

    pub panic_answer : Err kind ≡ answered (pass (board_of t k)).stop
    panic_answer = sym f ∙ answer ∙ ap (λ (x : Logged (Unit {0})). answered x.stop) whole

module _ (t u : Table) (k m : Kept) (a y : Taken) (count : ℕ) (i : InPass t k a count u m y) where
  rest_does : moves_after (board_of t k) count ≡ pass (board_of t k) → HasMoved t k a (pass (board_of t k)) u m y
  rest_does w = subst (λ x. HasMoved t k a x u m y) w i.moved

  rest_answer : moves_after (board_of t k) count ≡ pass (board_of t k) → Ok tt ≡ answered (pass (board_of t k)).stop
  rest_answer w = sym (ap answered i.goes) ∙ ap (λ (x : Logged (Unit {0})). answered x.stop) w

  sleeping : is_none u.running ≡ true → count ≤ 150 → moves_after (board_of t k) count ≡ pass (board_of t k)
  sleeping e l = is_pass (board_of t k) count l (rests_asleep (moves_after (board_of t k) count) (ap (λ b. b.table.running) (sym i.moved.board) ∙ asleep u.running e))

  pub sleep_does : is_none u.running ≡ true → count ≤ 150 → HasMoved t k a (pass (board_of t k)) u m y
  sleep_does e l = rest_does (sleeping e l)

  pub sleep_answer : is_none u.running ≡ true → count ≤ 150 → Ok tt ≡ answered (pass (board_of t k)).stop
  sleep_answer e l = rest_answer (sleeping e l)

  pub end_does : count ≡ 150 → HasMoved t k a (pass (board_of t k)) u m y
  end_does e = rest_does (is_whole (board_of t k) count e)

  pub end_answer : count ≡ 150 → Ok tt ≡ answered (pass (board_of t k)).stop
  end_answer e = rest_answer (is_whole (board_of t k) count e)

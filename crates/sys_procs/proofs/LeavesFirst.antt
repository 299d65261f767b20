-- Who ends leaves its text first, if it has one, and goes on from there.
use Rattle.std.proofs.Common.{◌≡◌, ◌∙◌, ℕ, ◌++◌, Option, Some, None, Result, refl, sym, ap, subst}
use Rattle.v6_base.specs.Trace.{Taken, Took}
use Rattle.v6_base.specs.declared.entry.PanicKind.{PanicKind}
use Rattle.v6_base.proofs.Took.{took_more}
use Rattle.pick_rules.specs.Board.{Board}
use Rattle.pick_rules.specs.Effects.{came}
use Rattle.pick_rules.specs.Logged.{Logged, Stop, logged, log_one, left_by}
use Rattle.fs_nodes.specs.FileSystem.{FileSystem}
use Rattle.sys_procs.specs.declared.procs.Procs.{Procs}
use Rattle.sys_procs.specs.World.{World}
use Rattle.sys_procs.specs.Texts.{xfree}
use Rattle.sys_procs.specs.Comes.{Comes}
use Rattle.sys_procs.specs.inside.Begun.{nothing}
use Rattle.sys_procs.specs.Agree.{ended_by}
use Rattle.sys_procs.specs.Handed as parts
use Rattle.sys_procs.specs.Done.{HasLeft, HasEnded}
use Rattle.sys_procs.proofs.Following.{after_items, logged_after}

module _ (w : World) (s : ℕ) (next : World → Comes) where
  left_effects : (o : Option ℕ)
      → (xfree w s o next).effects ≡ (xfree w s o nothing).effects ++ (next (xfree w s o nothing).state).effects
  left_effects None = refl
  left_effects (Some k) = refl

  left_state : (o : Option ℕ) → (xfree w s o next).state ≡ (next (xfree w s o nothing).state).state
  left_state None = refl
  left_state (Some k) = refl

  pub left_answer : (o : Option ℕ) → (xfree w s o next).answer ≡ (next (xfree w s o nothing).state).answer
  left_answer None = refl
  left_answer (Some k) = refl

  left_goes : (b : Board) (o : Option ℕ) → (logged b (xfree w s o nothing).effects).stop ≡ None
  unfolding log_one came
  left_goes b None = refl
  left_goes b (Some k) = refl

module _ {p q r : Procs} {fs gs : FileSystem} {result : Result (Unit {0}) PanicKind} {start mid end : Taken}
    (w : World) (s : ℕ) (o : Option ℕ)
    (next : World → Comes) (left : HasLeft p q fs start mid (xfree w s o nothing))
    (rest : HasEnded q r gs result mid end (next (parts.handed q fs))) where
  is_left : parts.handed q fs ≡ (xfree w s o nothing).state
  is_left =
      left.state
      ∙ ap (λ (x : Option (Stop World)). left_by x (xfree w s o nothing).state) (left_goes w s next (parts.board p) o)

  both : parts.came p (xfree w s o next)
      ≡ after_items (parts.came p (xfree w s o nothing)).items (parts.came q (next (parts.handed q fs)))
  both =
      ap (logged (parts.board p)) (left_effects w s next o)
      ∙ logged_after (parts.board p) (xfree w s o nothing).effects (next (xfree w s o nothing).state).effects
      (left_goes w s next (parts.board p) o)
      ∙ (λ i. after_items (parts.came p (xfree w s o nothing)).items (logged (sym left.shown i) (next (sym is_left i)).effects))

  ends : (next (parts.handed q fs)).state ≡ (xfree w s o next).state
  ends = ap (λ (v : World). (next v).state) is_left ∙ sym (left_state w s next o)

  pub ended_behind : HasEnded p r gs result start end (xfree w s o next)
  ended_behind = record {
    answer = rest.answer ∙ sym (ap (λ (l : Logged World). ended_by l.stop) both);
    left = record {
      state = rest.left.state ∙ (λ i. left_by (sym both i).stop (ends i));
      shown = rest.left.shown ∙ sym (ap (λ (l : Logged World). l.board) both);
      items = subst (λ (l : Logged World). Took start l.items end) (sym both)
          (took_more start mid end (parts.came p (xfree w s o nothing)).items
          (parts.came q (next (parts.handed q fs))).items left.items rest.left.items);
    };
  }

-- An end from another board that is the same.
pub ended_from : {p q r : Procs} {gs : FileSystem} {result : Result (Unit {0}) PanicKind} {start end : Taken} {c : Comes}
    → parts.board q ≡ parts.board p → HasEnded q r gs result start end c → HasEnded p r gs result start end c
ended_from {p} {q} {r} {gs} {result} {start} {end} {c} same e =
    let log : parts.came q c ≡ parts.came p c = ap (λ (b : Board). logged b c.effects) same in
    record {
      answer = e.answer ∙ ap (λ (l : Logged World). ended_by l.stop) log;
      left = record {
        state = e.left.state ∙ ap (λ (l : Logged World). left_by l.stop c.state) log;
        shown = e.left.shown ∙ ap (λ (l : Logged World). l.board) log;
        items = subst (λ (l : Logged World). Took start l.items end) log e.left.items;
      };
    }

-- What a call comes to by what it shows: nothing, or lines that name no place.
use Rattle.std.proofs.Common.{◌≡◌, ◌∙◌, List, [], ◌∷◌, None, Ok, sym, ap, subst}
use Rattle.v6_base.specs.Trace.{Item, Log, Taken, Took}
use Rattle.v6_base.specs.declared.entry.Entry.{Entry}
use Rattle.v6_base.specs.declared.answer.Answer.{Answer}
use Rattle.pick_rules.specs.Board.{Board}
use Rattle.pick_rules.specs.Apply.{applied}
use Rattle.pick_rules.specs.Logged.{Logged, logged, left_by}
use Rattle.fs_nodes.specs.FileSystem.{FileSystem}
use Rattle.sys_procs.specs.declared.procs.Procs.{Procs}
use Rattle.sys_procs.specs.World.{World}
use Rattle.sys_procs.specs.Comes.{Comes, comes, logs}
use Rattle.sys_procs.specs.Agree.{answered}
use Rattle.sys_procs.specs.Handed.{board, came, handed}
use Rattle.sys_procs.specs.Done.{HasDone}
use Rattle.sys_procs.proofs.Tables.{logged_line, logged_lines}

-- A call shows these items, with no panic, and leaves a board and a world; and so it answers.
pub record Says (p : Procs) (c : Comes) (items : List Item) (b : Board) (w : World) (a : Answer) : Type 0 where
  pub shown : came p c ≡ record { items = items; board = b; stop = None }
  pub state : c.state ≡ w
  pub answer : c.answer ≡ a

pub says_line : (p : Procs) (c : Comes) (line : Entry) (w : World) (a : Answer) → c ≡ logs line (comes w a) → Says p c (Log line ∷ []) (applied (board p) line) w a
says_line p c line w a is = record {
  shown = ap (λ (c : Comes). logged (board p) c.effects) is ∙ logged_line (board p) line;
  state = ap (λ (c : Comes). c.state) is;
  answer = ap (λ (c : Comes). c.answer) is;
}

pub says_lines : (p : Procs) (c : Comes) (line next : Entry) (w : World) (a : Answer) → c ≡ logs line (logs next (comes w a))
    → Says p c (Log line ∷ Log next ∷ []) (applied (applied (board p) line) next) w a
says_lines p c line next w a is = record {
  shown = ap (λ (c : Comes). logged (board p) c.effects) is ∙ logged_lines (board p) line next;
  state = ap (λ (c : Comes). c.state) is;
  answer = ap (λ (c : Comes). c.answer) is;
}

module _ {p : Procs} {c : Comes} {items : List Item} {b : Board} {w : World} {a : Answer} (says : Says p c items b w a) where
  pub its_answer : Ok a ≡ answered (came p c).stop c.answer
  its_answer = ap (λ a. Ok a) (sym says.answer) ∙ sym (ap (λ (l : Logged World). answered l.stop c.answer) says.shown)

  pub its_state : w ≡ left_by (came p c).stop c.state
  its_state = sym says.state ∙ sym (ap (λ (l : Logged World). left_by l.stop c.state) says.shown)

  pub its_board : b ≡ (came p c).board
  its_board = sym (ap (λ (l : Logged World). l.board) says.shown)

  pub its_items : (t u : Taken) → Took t items u → Took t (came p c).items u
  its_items t u took = subst (λ (l : Logged World). Took t l.items u) (sym says.shown) took

  -- so the call has done what its row says
  pub its_call : {new : Procs} {fs : FileSystem} {start end : Taken} → handed new fs ≡ w → board new ≡ b → Took start items end
      → HasDone p new fs (Ok a) start end c
  its_call state shown took =
      record { answer = its_answer; state = state ∙ its_state; shown = shown ∙ its_board; items = its_items _ _ took }

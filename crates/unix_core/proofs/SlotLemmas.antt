-- A slot in which a process goes on with a call: its turn begins so.
use Rattle.std.proofs.Common.{◌≡◌, if◌then◌else◌, ℕ, false, sym, ap, subst}
use Rattle.v6_base.specs.Trace.{Took, Taken}
use Rattle.pick_rules.specs.Logged.{logged}
use Rattle.abstract_unix.specs.declared.ending.Ending.{Ending}
use Rattle.unix_core.specs.declared.world.World.{World}
use Rattle.abstract_unix.specs.Unix.{System, process_of}
use Rattle.abstract_unix.specs.Steps.{Steps}
use Rattle.abstract_unix.specs.Calls.{resumed}
use Rattle.abstract_unix.specs.Turn.{is_user, instruction, begins_turn}
use Rattle.unix_core.specs.Parts.{HasCome}

module _ (m : System) (s : ℕ) (calls : is_user (process_of m.unix s) ≡ false) where
  later : resumed m.unix s ≡ begins_turn m s
  later = ap (λ b. if b then instruction m.unix s else resumed m.unix s) (sym calls)

  pub later_come : (e : Ending) (w : World) → HasCome m.board (resumed m.unix s) e w → HasCome m.board (begins_turn m s) e w
  later_come e w come = subst (λ x. HasCome m.board x e w) later come

  pub later_took : (a b : Taken) → Took a (logged m.board (resumed m.unix s).effects).items b → Took a (logged m.board (begins_turn m s).effects).items b
  later_took a b took = subst (λ (x : Steps). Took a (logged m.board x.effects).items b) later took

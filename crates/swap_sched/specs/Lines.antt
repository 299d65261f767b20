-- Lines of the log of which each fits the board that those before it make.
use Rattle.std.specs.Prelude.{List, [], ◌∷◌}
use Rattle.v6_base.specs.declared.entry.Entry.{Entry}
use Rattle.pick_rules.specs.Board.{Board}
use Rattle.pick_rules.specs.Apply.{applied}
use Rattle.pick_rules.specs.Fits.{FitsBoard}

unfoldable pub FitEach : Board → List Entry → Type 0
FitEach b [] = Unit {0}
FitEach b (e ∷ entries) = FitsBoard b e × FitEach (applied b e) entries

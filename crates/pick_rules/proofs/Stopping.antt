-- Where an event stops: nothing follows in its log.
use Rattle.std.proofs.Common.{◌≡◌, List, [], ◌∷◌, fold, Some, refl}
use Rattle.v6_base.specs.Trace.{Item}
use Rattle.pick_rules.specs.Board.{Board}
use Rattle.pick_rules.specs.Effects.{Effect}
use Rattle.pick_rules.specs.Logged.{Stop, Logged, log_one}

module _ {W : Type 0} where
  abbrev pub halted : List Item → Board → Stop W → Logged W
  halted xs b stop = record { items = xs; board = b; stop = Some stop }

  pub stays_stopped : (xs : List Item) (b : Board) (stop : Stop W) (es : List (Effect W))
      → fold log_one (halted xs b stop) es ≡ halted xs b stop
  unfolding log_one
  stays_stopped xs b stop [] = refl
  stays_stopped xs b stop (x ∷ es) = stays_stopped xs b stop es

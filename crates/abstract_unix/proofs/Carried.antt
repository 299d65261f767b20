-- What the effects of an event carry: the state that stands just before each demand for a place. One of them is what the event leaves
-- where it ends in a panic.
use Rattle.std.proofs.Common.{◌≡◌, ℕ, nat_le, Bool, true, false, cond, List, [], ◌∷◌, ◌++◌, map, fold, Option, Some, None, refl, sym, subst}
use Rattle.v6_base.specs.Trace.{Item, Byte, Log}
use Rattle.v6_base.specs.declared.entry.Entry.{Entry}
use Rattle.v6_base.specs.declared.entry.Entry.TheVariants as line
use Rattle.v6_base.specs.declared.entry.PanicKind.{PanicKind}
use Rattle.v6_base.specs.declared.entry.PanicKind.TheVariants as panic
use Rattle.pick_rules.specs.Apply.{applied}
use Rattle.pick_rules.specs.Board.{Board, blocks, placed, swap_fit, free_text}
use Rattle.pick_rules.specs.Effects.{Effect, Show, Size, Fork, Text, Image, Exit, Came, Lets, Stops, at_fit, image_at, new_text_at, came, lifted}
use Rattle.pick_rules.specs.Logged.{Stop, Logged, with_what_came, log_one, logged, left_by}
use Rattle.pick_rules.specs.Table.{row_at}
use Rattle.pick_rules.proofs.Stopping.{stays_stopped}

module _ {W : Type 0} where
  -- P holds of the state that an effect carries, if it carries one
  abbrev pub Carries : (W → Type 0) → Effect W → Type 0
  Carries P (Show item) = Unit {0}
  Carries P (Size s clicks before) = P before
  Carries P (Fork s child before) = P before
  Carries P (Text s clicks before) = P before
  Carries P (Image s clicks before) = P before
  Carries P (Exit s before) = P before

  abbrev pub AllCarry : (W → Type 0) → List (Effect W) → Type 0
  AllCarry P [] = Unit {0}
  AllCarry P (e ∷ es) = Carries P e × AllCarry P es

  -- one that carries none
  pub shown_carry : (P : W → Type 0) (items : List Item) → AllCarry P (map Show items)
  shown_carry P [] = tt
  shown_carry P (item ∷ items) = (tt, shown_carry P items)

  pub append_carry : (P : W → Type 0) (xs ys : List (Effect W)) → AllCarry P xs → AllCarry P ys → AllCarry P (xs ++ ys)
  append_carry P [] ys p q = q
  append_carry P (x ∷ xs) ys p q = (p.0, append_carry P xs ys p.1 q)

  more_one : (P Q : W → Type 0) → ((w : W) → P w → Q w) → (e : Effect W) → Carries P e → Carries Q e
  more_one P Q more (Show item) p = tt
  more_one P Q more (Size s clicks before) p = more before p
  more_one P Q more (Fork s child before) p = more before p
  more_one P Q more (Text s clicks before) p = more before p
  more_one P Q more (Image s clicks before) p = more before p
  more_one P Q more (Exit s before) p = more before p

  pub more_carry : (P Q : W → Type 0) → ((w : W) → P w → Q w) → (es : List (Effect W)) → AllCarry P es → AllCarry Q es
  more_carry P Q more [] p = tt
  more_carry P Q more (e ∷ es) p = (more_one P Q more e p.0, more_carry P Q more es p.1)

  -- what holds of all states
  any_one : (P : W → Type 0) → ((w : W) → P w) → (e : Effect W) → Carries P e
  any_one P all (Show item) = tt
  any_one P all (Size s clicks before) = all before
  any_one P all (Fork s child before) = all before
  any_one P all (Text s clicks before) = all before
  any_one P all (Image s clicks before) = all before
  any_one P all (Exit s before) = all before

  any_carry : (P : W → Type 0) → ((w : W) → P w) → (es : List (Effect W)) → AllCarry P es
  any_carry P all [] = tt
  any_carry P all (e ∷ es) = (any_one P all e, any_carry P all es)

  -- what holds of those that are carried where there is none of some other thing
  abbrev pub Unless : Option ℕ → (W → Type 0) → W → Type 0
  Unless o P w = o ≡ None → P w

  pub none_carry : (P : W → Type 0) (o : Option ℕ) (es : List (Effect W)) → (o ≡ None → AllCarry P es) → AllCarry (Unless o P) es
  none_carry P None es p = more_carry P (Unless None P) (λ w q n. q) es (p refl)
  none_carry P (Some x) es p = any_carry (Unless (Some x) P) (λ w n. absurd (cc n)) es

  -- What an event leaves: the state after it, or one that an effect of it carries.
  abbrev OfStop : (W → Type 0) → Option (Stop W) → Type 0
  OfStop P None = Unit {0}
  OfStop P (Some stop) = P stop.before

  abbrev OfCame : (W → Type 0) → Came W → Type 0
  OfCame P (Lets item) = Unit {0}
  OfCame P (Stops kind before) = P before

  at_came : (P : W → Type 0) {X : Type 0} (kind : PanicKind) (before : W) (o : Option X) (entry : X → Entry) → P before
      → OfCame P (at_fit kind before o entry)
  at_came P kind before None entry p = p
  at_came P kind before (Some x) entry p = tt

  one_came : (P : W → Type 0) (b : Board) (e : Effect W) → Carries P e → OfCame P (came b e)
  unfolding came
  one_came P b (Show item) p = tt
  one_came P b (Size s clicks before) p = by (nat_le clicks (row_at b.table s).size)
    where
      by : (o : Bool) → OfCame P (cond {A = Came W} o (Lets (Log (line.SizeKeep s clicks)))
          (image_at before (placed b s clicks) (λ place. line.Size s clicks place)))
      by true = tt
      by false = at_came P panic.Swap before (placed b s clicks) (λ place. line.Size s clicks place) p
  one_came P b (Fork s child before) p =
      at_came P panic.Swap before (placed b s (row_at b.table s).size) (λ place. line.Fork s child place) p
  one_came P b (Text s clicks before) p = by (free_text b)
    where
      by : (o : Option ℕ) → OfCame P (new_text_at before o (swap_fit b (blocks clicks)) (λ k block. line.Text s k clicks block))
      by None = p
      by (Some k) = at_came P panic.Swap before (swap_fit b (blocks clicks)) (line.Text s k clicks) p
  one_came P b (Image s clicks before) p = at_came P panic.Swap before (placed b s clicks) (λ place. line.Image s clicks place) p
  one_came P b (Exit s before) p = at_came P panic.Zombie before (swap_fit b 1) (λ block. line.Exit s block) p

  abbrev going : List Item → Board → Logged W
  going xs b = record { items = xs; board = b; stop = None }

  stop_carried : (P : W → Type 0) (xs : List Item) (b : Board) (es : List (Effect W)) → AllCarry P es → OfStop P (fold log_one (going xs b) es).stop
  unfolding log_one
  stop_carried P xs b [] all = tt
  stop_carried P xs b (e ∷ es) all = by (came b e) (one_came P b e all.0) (λ ys c. stop_carried P ys c es all.1)
    where
      by : (c : Came W) → OfCame P c → ((ys : List Item) (d : Board) → OfStop P (fold log_one (going ys d) es).stop)
          → OfStop P (fold log_one (with_what_came (going xs b) c) es).stop
      by (Lets (Log entry)) p rest = rest (xs ++ Log entry ∷ []) (applied b entry)
      by (Lets (Byte l byte)) p rest = rest (xs ++ Byte l byte ∷ []) b
      by (Stops kind before) p rest = subst (λ (l : Logged W). OfStop P l.stop) (sym (stays_stopped _ _ _ es)) p

  pub left_carried : (P : W → Type 0) (b : Board) (es : List (Effect W)) (after : W) → AllCarry P es → P after
      → P (left_by (logged b es).stop after)
  left_carried P b es after all p = by (logged b es).stop (stop_carried P [] b es all)
    where
      by : (o : Option (Stop W)) → OfStop P o → P (left_by o after)
      by None s = p
      by (Some stop) s = s

-- effects over another state
module _ {V W : Type 0} (P : W → Type 0) (f : V → W) where
  lifted_one : (e : Effect V) → Carries (λ v. P (f v)) e → Carries P (lifted f e)
  lifted_one (Show item) p = tt
  lifted_one (Size s clicks before) p = p
  lifted_one (Fork s child before) p = p
  lifted_one (Text s clicks before) p = p
  lifted_one (Image s clicks before) p = p
  lifted_one (Exit s before) p = p

  pub lifted_carry : (es : List (Effect V)) → AllCarry (λ v. P (f v)) es → AllCarry P (map (lifted f) es)
  lifted_carry [] p = tt
  lifted_carry (e ∷ es) p = (lifted_one e p.0, lifted_carry es p.1)

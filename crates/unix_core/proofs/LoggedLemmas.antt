-- The log that effects leave: over another state, after one another, and where they only show.
use Rattle.std.proofs.Common.{◌≡◌, ◌∙◌, ℕ, Bool, true, false, List, [], ◌∷◌, ◌++◌, map, fold, Option, Some, None, nat_le, cond, refl, sym, ap, append_assoc}
use Rattle.std.proofs.lemmas.List.{append-nil}
use Rattle.std.proofs.lemmas.List.Sums.{fold-append}
use Rattle.v6_base.specs.Trace.{Item, Log}
use Rattle.v6_base.specs.declared.entry.PanicKind.{PanicKind}
use Rattle.v6_base.specs.declared.entry.PanicKind.TheVariants as panic
use Rattle.v6_base.specs.declared.entry.Entry.{Entry}
use Rattle.v6_base.specs.declared.entry.Entry.TheVariants as line
use Rattle.pick_rules.specs.Table.{row_at}
use Rattle.pick_rules.specs.Board.{Board, blocks, placed, swap_fit, free_text}
use Rattle.pick_rules.specs.Effects.{Effect, Show, Size, Fork, Text, Image, Exit, Came, Lets, Stops, at_fit, image_at, new_text_at, came, lifted}
use Rattle.pick_rules.specs.Logged.{Logged, Stop, logged, log_one, board_after, with_what_came, unless_stopped}
use Rattle.pick_rules.proofs.Stopping.{halted, stays_stopped}

-- What effects over another state leave is the same, over that state.
module _ {V W : Type 0} (f : V → W) where
  abbrev pub stop_of : Option (Stop V) → Option (Stop W)
  stop_of None = None
  stop_of (Some stop) = Some (record { why = stop.why; before = f stop.before })

  abbrev pub over : Logged V → Logged W
  over l = record { items = l.items; board = l.board; stop = stop_of l.stop }

  abbrev came_over : Came V → Came W
  came_over (Lets item) = Lets item
  came_over (Stops kind before) = Stops kind (f before)

  at_fit_over : {P : Type 0} (kind : PanicKind) (before : V) (o : Option P) (entry : P → Entry) → at_fit kind (f before) o entry ≡ came_over (at_fit kind before o entry)
  at_fit_over kind before (Some place) entry = refl
  at_fit_over kind before None entry = refl

  text_over : (before : V) (k block : Option ℕ) (entry : ℕ → ℕ → Entry) → new_text_at (f before) k block entry ≡ came_over (new_text_at before k block entry)
  text_over before None block entry = refl
  text_over before (Some k) block entry = at_fit_over panic.Swap before block (entry k)

  size_over : (b : Board) (s clicks : ℕ) (before : V) (keeps : Bool)
      → cond keeps (Lets (Log (line.SizeKeep s clicks))) (image_at (f before) (placed b s clicks) (λ place. line.Size s clicks place))
      ≡ came_over (cond keeps (Lets (Log (line.SizeKeep s clicks))) (image_at before (placed b s clicks) (λ place. line.Size s clicks place)))
  size_over b s clicks before true = refl
  size_over b s clicks before false = at_fit_over panic.Swap before (placed b s clicks) (λ place. line.Size s clicks place)

  came_lifted : (b : Board) (e : Effect V) → came b (lifted f e) ≡ came_over (came b e)
  unfolding came
  came_lifted b (Show item) = refl
  came_lifted b (Size s clicks before) = size_over b s clicks before (nat_le clicks (row_at b.table s).size)
  came_lifted b (Fork s child before) = at_fit_over panic.Swap before (placed b s (row_at b.table s).size) (λ place. line.Fork s child place)
  came_lifted b (Text s clicks before) = text_over before (free_text b) (swap_fit b (blocks clicks)) (λ k block. line.Text s k clicks block)
  came_lifted b (Image s clicks before) = at_fit_over panic.Swap before (placed b s clicks) (λ place. line.Image s clicks place)
  came_lifted b (Exit s before) = at_fit_over panic.Zombie before (swap_fit b 1) (λ block. line.Exit s block)

  what_came_over : (l : Logged V) (c : Came V) → with_what_came (over l) (came_over c) ≡ over (with_what_came l c)
  what_came_over l (Lets item) = refl
  what_came_over l (Stops kind before) = refl

  unless_over : (o : Option (Stop V)) (l next : Logged V) → unless_stopped (stop_of o) (over l) (over next) ≡ over (unless_stopped o l next)
  unless_over None l next = refl
  unless_over (Some stop) l next = refl

  one_over : (l : Logged V) (e : Effect V) → log_one (over l) (lifted f e) ≡ over (log_one l e)
  unfolding log_one
  one_over l e =
      ap (λ c. unless_stopped (stop_of l.stop) (over l) (with_what_came (over l) c)) (came_lifted l.board e)
      ∙ ap (unless_stopped (stop_of l.stop) (over l)) (what_came_over l (came l.board e))
      ∙ unless_over l.stop l (with_what_came l (came l.board e))

  all_over : (es : List (Effect V)) (l : Logged V) → fold log_one (over l) (map (lifted f) es) ≡ over (fold log_one l es)
  all_over [] l = refl
  all_over (e ∷ es) l = ap (λ x. fold log_one x (map (lifted f) es)) (one_over l e) ∙ all_over es (log_one l e)

  pub logged_over : (b : Board) (es : List (Effect V)) → logged b (map (lifted f) es) ≡ over (logged b es)
  logged_over b es = all_over es (record { items = []; board = b; stop = None })

-- Effects after one another; what only shows never stops.
module _ {W : Type 0} where
  abbrev pub after_items : List Item → Logged W → Logged W
  after_items items l = record l { items = items ++ l.items }

  what_came_after : (items : List Item) (l : Logged W) (c : Came W) → with_what_came (after_items items l) c ≡ after_items items (with_what_came l c)
  what_came_after items l (Lets item) = ap (λ i. record (with_what_came l (Lets item)) { items = i }) (append_assoc items l.items (item ∷ []))
  what_came_after items l (Stops kind before) =
      ap (λ i. record (with_what_came l (Stops kind before)) { items = i }) (append_assoc items l.items (Log (line.Panic kind) ∷ []))

  unless_after : (items : List Item) (o : Option (Stop W)) (l next : Logged W) → unless_stopped o (after_items items l) (after_items items next) ≡ after_items items (unless_stopped o l next)
  unless_after items None l next = refl
  unless_after items (Some stop) l next = refl

  one_after : (items : List Item) (l : Logged W) (e : Effect W) → log_one (after_items items l) e ≡ after_items items (log_one l e)
  unfolding log_one
  one_after items l e =
      ap (unless_stopped l.stop (after_items items l)) (what_came_after items l (came l.board e))
      ∙ unless_after items l.stop l (with_what_came l (came l.board e))

  all_after : (items : List Item) (es : List (Effect W)) (l : Logged W) → fold log_one (after_items items l) es ≡ after_items items (fold log_one l es)
  all_after items [] l = refl
  all_after items (e ∷ es) l = ap (λ x. fold log_one x es) (one_after items l e) ∙ all_after items es (log_one l e)

  abbrev pub only_shown : List Item → Board → Logged W
  only_shown items b = record { items = items; board = b; stop = None }

  shown_from : (items before : List Item) (b : Board) → fold log_one (only_shown before b) (map Show items) ≡ only_shown (before ++ items) (fold board_after b items)
  unfolding log_one came
  shown_from [] before b = ap (λ i. only_shown i b) (sym (append-nil before))
  shown_from (item ∷ items) before b =
      shown_from items (before ++ item ∷ []) (board_after b item)
      ∙ ap (λ i. only_shown i (fold board_after (board_after b item) items)) (append_assoc before (item ∷ []) items)

  -- the log of what only shows
  pub logged_shown : (b : Board) (items : List Item) → logged {W = W} b (map Show items) ≡ only_shown items (fold board_after b items)
  logged_shown b items = shown_from items [] b

  -- the log of what shows, and of other effects after it
  pub logged_after : (b : Board) (items : List Item) (es : List (Effect W))
      → logged b (map Show items ++ es) ≡ after_items items (logged (logged {W = W} b (map Show items)).board es)
  logged_after b items es =
      fold-append log_one (only_shown [] b) (map Show items) es
      ∙ ap (λ l. fold log_one l es) (logged_shown b items ∙ ap (λ i. only_shown i (fold board_after b items)) (sym (append-nil items)))
      ∙ all_after items es (only_shown [] (fold board_after b items))
      ∙ ap (λ (l : Logged W). after_items items (logged l.board es)) (sym (logged_shown b items))

-- what shows, and then effects over another state
pub logged_both : {V W : Type 0} (f : V → W) (b : Board) (items : List Item) (es : List (Effect V))
    → logged b (map Show items ++ map (lifted f) es) ≡ after_items items (over f (logged (logged {W = W} b (map Show items)).board es))
logged_both {V} {W} f b items es =
    logged_after b items (map (lifted f) es) ∙ ap (after_items items) (logged_over f (logged {W = W} b (map Show items)).board es)

-- Effects, and then others: the log of both, where the first ones don't stop.
module _ {W : Type 0} (b : Board) (es more : List (Effect W)) where
  pub logged_then : (logged b es).stop ≡ None → logged b (es ++ more) ≡ after_items (logged b es).items (logged (logged b es).board more)
  logged_then none =
      let first : logged b es ≡ after_items (logged b es).items (only_shown [] (logged b es).board) =
      (λ i. record { items = sym (append-nil (logged b es).items) i; board = (logged b es).board; stop = none i }) in
      fold-append log_one (only_shown [] b) es more
      ∙ ap (λ (l : Logged W). fold log_one l more) first
      ∙ all_after (logged b es).items more (only_shown [] (logged b es).board)

  -- and where they stop
  pub logged_halted : (stop : Stop W) → (logged b es).stop ≡ Some stop → logged b (es ++ more) ≡ logged b es
  logged_halted stop some =
      let first : logged b es ≡ halted (logged b es).items (logged b es).board stop = (λ i. record (logged b es) { stop = some i }) in
      fold-append log_one (only_shown [] b) es more
      ∙ ap (λ (l : Logged W). fold log_one l more) first
      ∙ stays_stopped (logged b es).items (logged b es).board stop more
      ∙ sym first

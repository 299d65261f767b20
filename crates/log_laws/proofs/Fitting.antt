-- Lines that fit one after another, and the log of effects that are apt.
use Rattle.std.proofs.Common.{◌≡◌, ◌∙◌, List, [], ◌∷◌, ◌++◌, Option, Some, None, fold, refl, sym, ap, subst, inr}
use Rattle.v6_base.specs.Trace.{Item, Byte, Log, entries_of}
use Rattle.v6_base.specs.declared.entry.Chan.{Chan}
use Rattle.v6_base.specs.declared.entry.Entry.{Entry}
use Rattle.v6_base.specs.declared.entry.Entry.TheVariants as line
use Rattle.pick_rules.specs.Board.{Board}
use Rattle.pick_rules.specs.Effects.{Effect, Show, Came, Lets, Stops, came}
use Rattle.pick_rules.specs.Logged.{Stop, Logged, with_what_came, log_one, logged}
use Rattle.pick_rules.specs.Ranges.{IsChannel, IsInRange}
use Rattle.pick_rules.specs.Fits.{FitsBoard}
use Rattle.pick_rules.specs.Lawful.{Stage, Blank, Booted, Open, Idling, Bared, Over, Seen, Fits, FitsStage, FitAll, seen_after}
use Rattle.pick_rules.proofs.Stopping.{stays_stopped}

pub fit_append : (seen : Seen) (xs ys : List Entry) → FitAll seen xs → FitAll (fold seen_after seen xs) ys
    → FitAll seen (xs ++ ys)
unfolding FitAll
fit_append seen [] ys f g = g
fit_append seen (x ∷ xs) ys f g = (f.0, fit_append (seen_after seen x) xs ys f.1 g)

pub entries_append : (xs ys : List Item) → entries_of (xs ++ ys) ≡ entries_of xs ++ entries_of ys
entries_append [] ys = refl
entries_append (Log e ∷ xs) ys = ap (λ zs. e ∷ zs) (entries_append xs ys)
entries_append (Byte l byte ∷ xs) ys = entries_append xs ys

-- what some items give
abbrev pub seen_items : Seen → List Item → Seen
seen_items seen items = fold seen_after seen (entries_of items)

pub seen_append : (seen : Seen) (xs ys : List Item) → seen_items seen (xs ++ ys) ≡ seen_items (seen_items seen xs) ys
seen_append seen [] ys = refl
seen_append seen (Log e ∷ xs) ys = seen_append (seen_after seen e) xs ys
seen_append seen (Byte l byte ∷ xs) ys = seen_append seen xs ys

pub fit_items : (seen : Seen) (xs ys : List Item) → FitAll seen (entries_of xs)
    → FitAll (seen_items seen xs) (entries_of ys) → FitAll seen (entries_of (xs ++ ys))
fit_items seen xs ys f g = rw (entries_append xs ys) (fit_append seen (entries_of xs) (entries_of ys) f g)

pub fit_item : (seen : Seen) (xs : List Item) (i : Item) → FitAll seen (entries_of xs)
    → FitAll (seen_items seen xs) (entries_of (i ∷ []))
    → FitAll seen (entries_of (xs ++ i ∷ []))
fit_item seen xs i f g = fit_items seen xs (i ∷ []) f g

-- the log has not ended, and no exec is in its middle
abbrev pub IsGoing : Stage → Type 0
IsGoing Blank = ⊥
IsGoing Booted = ⊥
IsGoing Open = Unit {0}
IsGoing Idling = Unit {0}
IsGoing (Bared s) = ⊥
IsGoing Over = ⊥

may_come : (stage : Stage) (b : Board) (e : Entry) → IsGoing stage → FitsBoard b e → FitsStage stage b e
may_come Blank b e g f = absurd g
may_come Booted b e g f = absurd g
may_come Open b e g f = f
may_come Idling b e g f = inr f
may_come (Bared s) b e g f = absurd g
may_come Over b e g f = absurd g

pub going_fits : (seen : Seen) (e : Entry) → IsGoing seen.stage → IsInRange e → FitsBoard seen.board e → Fits seen e
going_fits seen e g r f = (r, may_come seen.stage seen.board e g f)

module _ {W : Type 0} where
  -- what comes of an effect fits
  abbrev pub AptCame : Seen → Came W → (Seen → Type 0) → Type 0
  AptCame seen (Lets (Log e)) rest = Fits seen e × rest (seen_after seen e)
  AptCame seen (Lets (Byte l byte)) rest = rest seen
  AptCame seen (Stops kind before) rest = Fits seen (line.Panic kind)

  -- what comes of each effect fits what the effects before it give, and Q holds of what they all give
  unfoldable pub Apt : (Seen → Type 0) → Seen → List (Effect W) → Type 0
  Apt Q seen [] = Q seen
  Apt Q seen (e ∷ es) = AptCame seen (came seen.board e) (λ now. Apt Q now es)

  -- a log that a panic has stopped has ended
  abbrev pub Ends : (Seen → Type 0) → Option (Stop W) → Seen → Type 0
  Ends Q None seen = Q seen
  Ends Q (Some stop) seen = seen.stage ≡ Over

  pub record Fitted (Q : Seen → Type 0) (seen : Seen) (l : Logged W) : Type 0 where
    pub fit : FitAll seen (entries_of l.items)
    pub board : (seen_items seen l.items).board ≡ l.board
    pub ends : Ends Q l.stop (seen_items seen l.items)

  abbrev going : List Item → Seen → Logged W
  going xs seen = record { items = xs; board = seen.board; stop = None }

  fits_from : (Q : Seen → Type 0) (first seen : Seen) (xs : List Item) (es : List (Effect W))
      → FitAll first (entries_of xs) → seen_items first xs ≡ seen → Apt Q seen es
      → Fitted Q first (fold log_one (going xs seen) es)
  unfolding log_one Apt FitAll
  fits_from Q first seen xs [] f e q = record { fit = f; board = ap (λ s. s.board) e; ends = subst Q (sym e) q }
  fits_from Q first seen xs (x ∷ es) f e q = by (λ next ys. fits_from Q first next ys es) (came seen.board x) q
    where
      by : ((next : Seen) (ys : List Item) → FitAll first (entries_of ys) → seen_items first ys ≡ next → Apt Q next es → Fitted Q first (fold log_one (going ys next) es))
          → (c : Came W) → AptCame seen c (λ now. Apt Q now es)
          → Fitted Q first (fold log_one (with_what_came (going xs seen) c) es)
      by rest (Lets (Log entry)) a = rest (seen_after seen entry) (xs ++ Log entry ∷ [])
          (fit_item first xs (Log entry) f (subst (λ s. FitAll s (entry ∷ [])) (sym e) (a.0, tt)))
          (seen_append first xs (Log entry ∷ []) ∙ ap (λ s. seen_after s entry) e) a.1
      by rest (Lets (Byte l byte)) a = rest seen (xs ++ Byte l byte ∷ [])
          (fit_item first xs (Byte l byte) f tt) (seen_append first xs (Byte l byte ∷ []) ∙ e) a
      by rest (Stops kind before) a = subst (Fitted Q first) (sym (stays_stopped _ _ _ es)) (record {
        fit = fit_item first xs (Log (line.Panic kind)) f (subst (λ s. FitAll s (line.Panic kind ∷ [])) (sym e) (a, tt));
        board = ap (λ s. s.board) (seen_append first xs (Log (line.Panic kind) ∷ []) ∙ ap (λ s. seen_after s (line.Panic kind)) e);
        ends = ap (λ s. s.stage) (seen_append first xs (Log (line.Panic kind) ∷ []));
      })

  -- the log of apt effects fits, and Q holds after it, unless it has stopped
  pub apt_fits : (Q : Seen → Type 0) (seen : Seen) (es : List (Effect W)) → Apt Q seen es
      → Fitted Q seen (logged seen.board es)
  unfolding FitAll
  apt_fits Q seen es a = fits_from Q seen seen [] es tt refl a

  -- effects one after another
  pub apt_append : (P Q : Seen → Type 0) (seen : Seen) (xs ys : List (Effect W)) → Apt P seen xs
      → ((now : Seen) → P now → Apt Q now ys) → Apt Q seen (xs ++ ys)
  unfolding Apt
  apt_append P Q seen [] ys a h = h seen a
  apt_append P Q seen (x ∷ xs) ys a h = by (came seen.board x) a (λ now. apt_append P Q now xs ys)
    where
      by : (c : Came W) → AptCame seen c (λ now. Apt P now xs)
          → ((now : Seen) → Apt P now xs → ((next : Seen) → P next → Apt Q next ys) → Apt Q now (xs ++ ys))
          → AptCame seen c (λ now. Apt Q now (xs ++ ys))
      by (Lets (Log entry)) b rest = (b.0, rest (seen_after seen entry) b.1 h)
      by (Lets (Byte l byte)) b rest = rest seen b h
      by (Stops kind before) b rest = b

  pub apt_more : (P Q : Seen → Type 0) (seen : Seen) (es : List (Effect W)) → ((now : Seen) → P now → Q now)
      → Apt P seen es → Apt Q seen es
  unfolding Apt
  apt_more P Q seen [] h a = h seen a
  apt_more P Q seen (x ∷ es) h a = by (came seen.board x) a (λ now. apt_more P Q now es h)
    where
      by : (c : Came W) → AptCame seen c (λ now. Apt P now es) → ((now : Seen) → Apt P now es → Apt Q now es)
          → AptCame seen c (λ now. Apt Q now es)
      by (Lets (Log entry)) b rest = (b.0, rest (seen_after seen entry) b.1)
      by (Lets (Byte l byte)) b rest = rest seen b
      by (Stops kind before) b rest = b

  -- a wake fits always
  pub wake_apt : (Q : Seen → Type 0) (seen : Seen) (chan : Chan) (es : List (Effect W)) → IsGoing seen.stage
      → IsChannel chan → Apt Q (seen_after seen (line.Wake chan)) es
      → Apt Q seen (Show (Log (line.Wake chan)) ∷ es)
  unfolding Apt came FitsBoard
  wake_apt Q seen chan es g r a = (going_fits seen (line.Wake chan) g r tt, a)

-- An audit of a file ends in one way.
use Rattle.std.proofs.Common.{◌≡◌, ◌⊎◌, ◌∙◌, ◌+◌, ◌≤◌, ℕ, List, [], ◌∷◌, ◌++◌, length, map, fold, refl, sym, ap, subst, arith, inl, inr}
use Rattle.std.proofs.lemmas.List.{append-nil}
use Rattle.v6_base.specs.declared.entry.Chan.{Chan}
use Rattle.v6_base.specs.declared.entry.Chan.TheVariants.{RunIn, RunOut, Tout, Keys, Show, Wait, Read, Write, Disk, KeysOf, ShowOf}
use Rattle.v6_base.specs.declared.entry.Place.{Place}
use Rattle.v6_base.specs.declared.entry.Place.TheVariants as place
use Rattle.v6_base.specs.declared.entry.Entry.{Entry}
use Rattle.v6_base.specs.declared.entry.Entry.TheVariants as kind
use Rattle.v6_base.specs.LogLine.{entry_line}
use Rattle.pick_rules.specs.Ranges.{IsChannel, IsPlace, IsInRange}
use Rattle.pick_rules.specs.Lawful.{Seen, Over, Fits, FitAll, nothing_seen, seen_of, seen_after}
use Rattle.log_text.specs.Held.{HoldsChannel, HoldsPlace, IsHeld}
use Rattle.log_text.proofs.EntryLemmas.{one_line_each}
use Rattle.log_audit.specs.Judge.{IsLine}
use Rattle.v6_run.specs.declared.status.Status.{Status}
use Rattle.v6_run.specs.declared.status.Status.TheVariants.{Done, Usage, ReadFault, WriteFault, CoreSize, ScriptFault, ImageFault, SecondFault, Panic, NoMemory, Unlawful, BadLog, LogTooLong}
use Rattle.v6_run.specs.Logs.{lines_of, AreLawful, FitBefore, IsUnfitAt, IsMissingAt, IsBadAt, AuditEnds, AuditsEndInOneWay}

-- a number in its range is one that its field can hold
slot : (n : ℕ) → n ≤ 49 → n ≤ 255
slot n l = omega (arith, l)

text : (n : ℕ) → n ≤ 39 → n ≤ 255
text n l = omega (arith, l)

block : (n : ℕ) → n ≤ 4871 → n ≤ 65535
block n l = omega (arith, l)

signal : (n : ℕ) → n ≤ 19 → n ≤ 255
signal n l = omega (arith, l)

terminal : (n : ℕ) → n ≤ 7 → n ≤ 255
terminal n l = omega (arith, l)

channel : (c : Chan) → IsChannel c → HoldsChannel c
channel RunIn h = tt
channel RunOut h = tt
channel Tout h = tt
channel Keys h = tt
channel Show h = tt
channel (Wait s) h = slot s h
channel (Read i) h = h.1
channel (Write i) h = h.1
channel (Disk s) h = slot s h
channel (KeysOf l) h = terminal l h.1
channel (ShowOf l) h = terminal l h.1

at_place : (p : Place) → IsPlace p → HoldsPlace p
at_place (place.Core c) h = h
at_place (place.Swap b) h = block b h.1

pub held : (e : Entry) → IsInRange e → IsHeld e
held (kind.Boot core time) h = h
held (kind.Go s) h = slot s h
held kind.Idle h = tt
held (kind.Trap s) h = slot s h
held kind.TickUser h = tt
held kind.TickKernel h = tt
held kind.TickIdle h = tt
held (kind.Sleep s pri chan) h = (slot s h.0, h.1, channel chan h.2)
held (kind.Wake chan) h = channel chan h
held (kind.Signal s n) h = (slot s h.0, signal n h.1.1)
held (kind.Nice s nice) h = (slot s h.0, h.1)
held (kind.Time time) h = h
held (kind.Size s clicks p) h = (slot s h.0, h.1, at_place p h.2)
held (kind.SizeKeep s clicks) h = (slot s h.0, h.1)
held (kind.Fork s child p) h = (slot s h.0, slot child h.1, at_place p h.2)
held (kind.Leave s k sticky) h = (slot s h.0, text k h.1)
held (kind.Bare s) h = slot s h
held (kind.Text s k clicks b) h = (slot s h.0, text k h.1, h.2, block b h.3.1)
held (kind.Share s k) h = (slot s h.0, text k h.1)
held (kind.Image s clicks p) h = (slot s h.0, h.1, at_place p h.2)
held (kind.SwapIn s c) h = (slot s h.0, h.1)
held (kind.SwapOut s b) h = (slot s h.0, block b h.1.1)
held (kind.Exit s b) h = (slot s h.0, block b h.1.1)
held (kind.Reap s) h = slot s h
held (kind.Panic kind) h = tt
held kind.End h = tt

-- Of two logs that fit and begin the same lines, one ends where the other does, or the other goes on with a line that fits.
pub record Ends (a b : List Entry) (ra rb : List (List ℕ)) : Type 0 where
  pub log : a ≡ b
  pub rest : ra ≡ rb

pub record GoesOn (s : Seen) (log : List Entry) (rest : List (List ℕ)) : Type 0 where
  pub entry : Entry
  pub more : List (List ℕ)
  pub line : rest ≡ entry_line entry ∷ more
  pub fits : Fits (fold seen_after s log) entry

pub meet : (s : Seen) (a b : List Entry) (ra rb : List (List ℕ)) → map entry_line a ++ ra ≡ map entry_line b ++ rb → FitAll s a → FitAll s b → Ends a b ra rb ⊎ (GoesOn s a ra ⊎ GoesOn s b rb)
unfolding FitAll
meet s [] [] ra rb e f g = inl (record { log = refl; rest = e })
meet s [] (y ∷ b) ra rb e f g = inr (inl (record { entry = y; more = map entry_line b ++ rb; line = e; fits = g.0 }))
meet s (x ∷ a) [] ra rb e f g = inr (inr (record { entry = x; more = map entry_line a ++ ra; line = sym e; fits = f.0 }))
meet s (x ∷ a) (y ∷ b) ra rb e f g = by (meet (seen_after s x) a b ra rb tail f.1 (subst (λ z. FitAll (seen_after s z) b) (sym same) g.1))
  where
    head : entry_line x ≡ entry_line y
    head = cc e

    tail : map entry_line a ++ ra ≡ map entry_line b ++ rb
    tail = cc e

    same : x ≡ y
    same = one_line_each x y (held x f.0.0) (held y g.0.0) head

    by : Ends a b ra rb ⊎ (GoesOn (seen_after s x) a ra ⊎ GoesOn (seen_after s x) b rb) → Ends (x ∷ a) (y ∷ b) ra rb ⊎ (GoesOn s (x ∷ a) ra ⊎ GoesOn s (y ∷ b) rb)
    by (inl k) = inl (record { log = ap (λ z. z ∷ a) same ∙ ap (λ l. y ∷ l) k.log; rest = k.rest })
    by (inr (inl k)) = inr (inl (record { entry = k.entry; more = k.more; line = k.line; fits = k.fits }))
    by (inr (inr k)) = inr (inr (record { entry = k.entry; more = k.more; line = k.line; fits = subst (λ z. Fits (fold seen_after (seen_after s z) b) k.entry) same k.fits }))

module _ (lines : List (List ℕ)) where
  meets : (n m : ℕ) (a b : List Entry) (ra rb : List (List ℕ)) → FitBefore lines n a ra → FitBefore lines m b rb → Ends a b ra rb ⊎ (GoesOn nothing_seen a ra ⊎ GoesOn nothing_seen b rb)
  meets n m a b ra rb x y = meet nothing_seen a b ra rb (sym x.spelt ∙ y.spelt) x.fit y.fit

  same_number : (n m : ℕ) (a b : List Entry) (ra rb : List (List ℕ)) → FitBefore lines n a ra → FitBefore lines m b rb → a ≡ b → n ≡ m
  same_number n m a b ra rb x y e = x.number ∙ ap (λ (l : List Entry). length l + 1) e ∙ sym y.number

-- no line goes on where there is none
pub no_line : (s : Seen) (a : List Entry) → GoesOn s a [] → ⊥
no_line s a k = let e = k.line in cc e

-- a line that doesn't fit doesn't go on, nor one that is none of a log
pub unfit_stops : (log : List Entry) (l : List ℕ) (after : List (List ℕ)) (e : Entry) → IsLine e l → (Fits (seen_of log) e → ⊥) → GoesOn nothing_seen log (l ∷ after) → ⊥
unfit_stops log l after e is n k = n (subst (Fits (seen_of log)) (sym same) k.fits)
  where
    here : l ≡ entry_line k.entry
    here = let f = k.line in cc f

    same : e ≡ k.entry
    same = one_line_each e k.entry (held e is.range) (held k.entry k.fits.0) (sym is.spelt ∙ here)

pub bad_stops : (log : List Entry) (l : List ℕ) (after : List (List ℕ)) → ((e : Entry) → IsLine e l → ⊥) → GoesOn nothing_seen log (l ∷ after) → ⊥
bad_stops log l after n k = n k.entry (record { range = k.fits.0; spelt = here })
  where
    here : l ≡ entry_line k.entry
    here = let f = k.line in cc f

-- what stands after the lines that fit: nothing, a line that doesn't fit, or one that is none
whole : (lines : List (List ℕ)) (h : AreLawful lines) → FitBefore lines (length h.log + 1) h.log []
whole lines h = record { spelt = h.spelt ∙ sym (append-nil (map entry_line h.log)); fit = h.lawful.fit; number = refl }

lawful_unfit : (lines : List (List ℕ)) (n : ℕ) → AreLawful lines → IsUnfitAt lines n → ⊥
lawful_unfit lines n h k = by (meets lines (length h.log + 1) n h.log k.log [] (k.line ∷ k.after) (whole lines h) k.before)
  where
    by : Ends h.log k.log [] (k.line ∷ k.after) ⊎ (GoesOn nothing_seen h.log [] ⊎ GoesOn nothing_seen k.log (k.line ∷ k.after)) → ⊥
    by (inl x) = let e = x.rest in cc e
    by (inr (inl x)) = no_line nothing_seen h.log x
    by (inr (inr x)) = unfit_stops k.log k.line k.after k.entry k.is k.unfit x

lawful_missing : (lines : List (List ℕ)) (n : ℕ) → AreLawful lines → IsMissingAt lines n → ⊥
lawful_missing lines n h k = by (meets lines (length h.log + 1) n h.log k.log [] [] (whole lines h) k.before)
  where
    by : Ends h.log k.log [] [] ⊎ (GoesOn nothing_seen h.log [] ⊎ GoesOn nothing_seen k.log []) → ⊥
    by (inl x) = k.unended (subst (λ l. (seen_of l).stage ≡ Over) x.log h.lawful.over)
    by (inr (inl x)) = no_line nothing_seen h.log x
    by (inr (inr x)) = no_line nothing_seen k.log x

lawful_bad : (lines : List (List ℕ)) (n : ℕ) → AreLawful lines → IsBadAt lines n → ⊥
lawful_bad lines n h k = by (meets lines (length h.log + 1) n h.log k.log [] (k.line ∷ k.after) (whole lines h) k.before)
  where
    by : Ends h.log k.log [] (k.line ∷ k.after) ⊎ (GoesOn nothing_seen h.log [] ⊎ GoesOn nothing_seen k.log (k.line ∷ k.after)) → ⊥
    by (inl x) = let e = x.rest in cc e
    by (inr (inl x)) = no_line nothing_seen h.log x
    by (inr (inr x)) = bad_stops k.log k.line k.after k.bad x

one_unfit : (lines : List (List ℕ)) (n m : ℕ) → IsUnfitAt lines n → IsUnfitAt lines m → n ≡ m
one_unfit lines n m h k = by (meets lines n m h.log k.log (h.line ∷ h.after) (k.line ∷ k.after) h.before k.before)
  where
    by : Ends h.log k.log (h.line ∷ h.after) (k.line ∷ k.after) ⊎ (GoesOn nothing_seen h.log (h.line ∷ h.after) ⊎ GoesOn nothing_seen k.log (k.line ∷ k.after)) → n ≡ m
    by (inl x) = same_number lines n m h.log k.log (h.line ∷ h.after) (k.line ∷ k.after) h.before k.before x.log
    by (inr (inl x)) = absurd (unfit_stops h.log h.line h.after h.entry h.is h.unfit x)
    by (inr (inr x)) = absurd (unfit_stops k.log k.line k.after k.entry k.is k.unfit x)

unfit_missing : (lines : List (List ℕ)) (n m : ℕ) → IsUnfitAt lines n → IsMissingAt lines m → ⊥
unfit_missing lines n m h k = by (meets lines n m h.log k.log (h.line ∷ h.after) [] h.before k.before)
  where
    by : Ends h.log k.log (h.line ∷ h.after) [] ⊎ (GoesOn nothing_seen h.log (h.line ∷ h.after) ⊎ GoesOn nothing_seen k.log []) → ⊥
    by (inl x) = let e = x.rest in cc e
    by (inr (inl x)) = unfit_stops h.log h.line h.after h.entry h.is h.unfit x
    by (inr (inr x)) = no_line nothing_seen k.log x

one_missing : (lines : List (List ℕ)) (n m : ℕ) → IsMissingAt lines n → IsMissingAt lines m → n ≡ m
one_missing lines n m h k = by (meets lines n m h.log k.log [] [] h.before k.before)
  where
    by : Ends h.log k.log [] [] ⊎ (GoesOn nothing_seen h.log [] ⊎ GoesOn nothing_seen k.log []) → n ≡ m
    by (inl x) = same_number lines n m h.log k.log [] [] h.before k.before x.log
    by (inr (inl x)) = absurd (no_line nothing_seen h.log x)
    by (inr (inr x)) = absurd (no_line nothing_seen k.log x)

unfit_bad : (lines : List (List ℕ)) (n m : ℕ) → IsUnfitAt lines n → IsBadAt lines m → ⊥
unfit_bad lines n m h k = by (meets lines n m h.log k.log (h.line ∷ h.after) (k.line ∷ k.after) h.before k.before)
  where
    by : Ends h.log k.log (h.line ∷ h.after) (k.line ∷ k.after) ⊎ (GoesOn nothing_seen h.log (h.line ∷ h.after) ⊎ GoesOn nothing_seen k.log (k.line ∷ k.after)) → ⊥
    by (inl x) = let same : h.line ≡ k.line = (let e = x.rest in cc e) in k.bad h.entry (subst (IsLine h.entry) same h.is)
    by (inr (inl x)) = unfit_stops h.log h.line h.after h.entry h.is h.unfit x
    by (inr (inr x)) = bad_stops k.log k.line k.after k.bad x

missing_bad : (lines : List (List ℕ)) (n m : ℕ) → IsMissingAt lines n → IsBadAt lines m → ⊥
missing_bad lines n m h k = by (meets lines n m h.log k.log [] (k.line ∷ k.after) h.before k.before)
  where
    by : Ends h.log k.log [] (k.line ∷ k.after) ⊎ (GoesOn nothing_seen h.log [] ⊎ GoesOn nothing_seen k.log (k.line ∷ k.after)) → ⊥
    by (inl x) = let e = x.rest in cc e
    by (inr (inl x)) = no_line nothing_seen h.log x
    by (inr (inr x)) = bad_stops k.log k.line k.after k.bad x

one_bad : (lines : List (List ℕ)) (n m : ℕ) → IsBadAt lines n → IsBadAt lines m → n ≡ m
one_bad lines n m h k = by (meets lines n m h.log k.log (h.line ∷ h.after) (k.line ∷ k.after) h.before k.before)
  where
    by : Ends h.log k.log (h.line ∷ h.after) (k.line ∷ k.after) ⊎ (GoesOn nothing_seen h.log (h.line ∷ h.after) ⊎ GoesOn nothing_seen k.log (k.line ∷ k.after)) → n ≡ m
    by (inl x) = same_number lines n m h.log k.log (h.line ∷ h.after) (k.line ∷ k.after) h.before k.before x.log
    by (inr (inl x)) = absurd (bad_stops h.log h.line h.after h.bad x)
    by (inr (inr x)) = absurd (bad_stops k.log k.line k.after k.bad x)

-- the two ways to be unlawful
abbrev AtLine : List (List ℕ) → ℕ → Type 0
AtLine lines n = IsUnfitAt lines n ⊎ IsMissingAt lines n

one_line : (lines : List (List ℕ)) (n m : ℕ) → AtLine lines n → AtLine lines m → n ≡ m
one_line lines n m (inl h) (inl k) = one_unfit lines n m h k
one_line lines n m (inl h) (inr k) = absurd (unfit_missing lines n m h k)
one_line lines n m (inr h) (inl k) = absurd (unfit_missing lines m n k h)
one_line lines n m (inr h) (inr k) = one_missing lines n m h k

lawful_line : (lines : List (List ℕ)) (n : ℕ) → AreLawful lines → AtLine lines n → ⊥
lawful_line lines n h (inl k) = lawful_unfit lines n h k
lawful_line lines n h (inr k) = lawful_missing lines n h k

bad_line : (lines : List (List ℕ)) (n m : ℕ) → AtLine lines n → IsBadAt lines m → ⊥
bad_line lines n m (inl h) k = unfit_bad lines n m h k
bad_line lines n m (inr h) k = missing_bad lines n m h k

done_way : (bytes : List ℕ) (t : Status) → AuditEnds bytes Done → AuditEnds bytes t → Done ≡ t
done_way bytes Done h k = refl
done_way bytes Usage h k = absurd k
done_way bytes (ReadFault p) h k = absurd k
done_way bytes (WriteFault p) h k = absurd k
done_way bytes CoreSize h k = absurd k
done_way bytes (ScriptFault f) h k = absurd k
done_way bytes (ImageFault f) h k = absurd k
done_way bytes (SecondFault f) h k = absurd k
done_way bytes (Panic p) h k = absurd k
done_way bytes NoMemory h k = absurd k
done_way bytes (Unlawful m) h k = absurd (lawful_line (lines_of bytes) m h.1 k.1)
done_way bytes (BadLog m) h k = absurd (lawful_bad (lines_of bytes) m h.1 k.1)
done_way bytes LogTooLong h k = absurd (h.0 k)

unlawful_way : (bytes : List ℕ) (n : ℕ) (t : Status) → AuditEnds bytes (Unlawful n) → AuditEnds bytes t → Unlawful n ≡ t
unlawful_way bytes n Done h k = absurd (lawful_line (lines_of bytes) n k.1 h.1)
unlawful_way bytes n Usage h k = absurd k
unlawful_way bytes n (ReadFault p) h k = absurd k
unlawful_way bytes n (WriteFault p) h k = absurd k
unlawful_way bytes n CoreSize h k = absurd k
unlawful_way bytes n (ScriptFault f) h k = absurd k
unlawful_way bytes n (ImageFault f) h k = absurd k
unlawful_way bytes n (SecondFault f) h k = absurd k
unlawful_way bytes n (Panic p) h k = absurd k
unlawful_way bytes n NoMemory h k = absurd k
unlawful_way bytes n (Unlawful m) h k = ap Unlawful (one_line (lines_of bytes) n m h.1 k.1)
unlawful_way bytes n (BadLog m) h k = absurd (bad_line (lines_of bytes) n m h.1 k.1)
unlawful_way bytes n LogTooLong h k = absurd (h.0 k)

bad_way : (bytes : List ℕ) (n : ℕ) (t : Status) → AuditEnds bytes (BadLog n) → AuditEnds bytes t → BadLog n ≡ t
bad_way bytes n Done h k = absurd (lawful_bad (lines_of bytes) n k.1 h.1)
bad_way bytes n Usage h k = absurd k
bad_way bytes n (ReadFault p) h k = absurd k
bad_way bytes n (WriteFault p) h k = absurd k
bad_way bytes n CoreSize h k = absurd k
bad_way bytes n (ScriptFault f) h k = absurd k
bad_way bytes n (ImageFault f) h k = absurd k
bad_way bytes n (SecondFault f) h k = absurd k
bad_way bytes n (Panic p) h k = absurd k
bad_way bytes n NoMemory h k = absurd k
bad_way bytes n (Unlawful m) h k = absurd (bad_line (lines_of bytes) m n k.1 h.1)
bad_way bytes n (BadLog m) h k = ap BadLog (one_bad (lines_of bytes) n m h.1 k.1)
bad_way bytes n LogTooLong h k = absurd (h.0 k)

long_way : (bytes : List ℕ) (t : Status) → AuditEnds bytes LogTooLong → AuditEnds bytes t → LogTooLong ≡ t
long_way bytes Done h k = absurd (k.0 h)
long_way bytes Usage h k = absurd k
long_way bytes (ReadFault p) h k = absurd k
long_way bytes (WriteFault p) h k = absurd k
long_way bytes CoreSize h k = absurd k
long_way bytes (ScriptFault f) h k = absurd k
long_way bytes (ImageFault f) h k = absurd k
long_way bytes (SecondFault f) h k = absurd k
long_way bytes (Panic p) h k = absurd k
long_way bytes NoMemory h k = absurd k
long_way bytes (Unlawful m) h k = absurd (k.0 h)
long_way bytes (BadLog m) h k = absurd (k.0 h)
long_way bytes LogTooLong h k = refl

pub audits_end_in_one_way : AuditsEndInOneWay
audits_end_in_one_way bytes Done t h k = done_way bytes t h k
audits_end_in_one_way bytes Usage t h k = absurd h
audits_end_in_one_way bytes (ReadFault p) t h k = absurd h
audits_end_in_one_way bytes (WriteFault p) t h k = absurd h
audits_end_in_one_way bytes CoreSize t h k = absurd h
audits_end_in_one_way bytes (ScriptFault f) t h k = absurd h
audits_end_in_one_way bytes (ImageFault f) t h k = absurd h
audits_end_in_one_way bytes (SecondFault f) t h k = absurd h
audits_end_in_one_way bytes (Panic p) t h k = absurd h
audits_end_in_one_way bytes NoMemory t h k = absurd h
audits_end_in_one_way bytes (Unlawful m) t h k = unlawful_way bytes m t h k
audits_end_in_one_way bytes (BadLog m) t h k = bad_way bytes m t h k
audits_end_in_one_way bytes LogTooLong t h k = long_way bytes t h k

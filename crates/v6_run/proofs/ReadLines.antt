-- What each byte of a log makes of what was read of it, and what its end does.
use Rattle.std.proofs.Common.{◌≡◌, ◌≢◌, ◌∙◌, ◌+◌, ◌<◌, ℕ, cond, List, [], ◌∷◌, ◌++◌, length, map, fold, refl, sym, ap, subst, arith}
use Rattle.std.proofs.lemmas.Bool.{ne_eqb}
use Rattle.std.proofs.lemmas.List.{append-nil}
use Rattle.v6_base.specs.LogLine.{entry_line}
use Rattle.v6_base.specs.declared.entry.Entry.{Entry}
use Rattle.pick_rules.specs.Lawful.{Seen, Over, Fits, FitAll, nothing_seen, seen_of, seen_after}
use Rattle.log_audit.specs.Judge.{IsLine}
use Rattle.v6_run.specs.declared.audit.Reading.{Reading}
use Rattle.v6_run.specs.Logs.{ended_lines, rest_of, last_line, lines_of, AreLawful, IsUnfitAt, IsMissingAt, IsBadAt}
use Rattle.v6_run.specs.Audit.{HasRead, IsLongAt}
use Rattle.v6_run.proofs.PartsOfLogs.{ended_feed, rest_feed, ended_other, rest_other}

-- a log with a line more
pub fit_more : (s : Seen) (log : List Entry) (e : Entry) → FitAll s log → Fits (fold seen_after s log) e → FitAll s (log ++ e ∷ [])
unfolding FitAll
fit_more s [] e f k = (k, tt)
fit_more s (x ∷ log) e f k = (f.0, fit_more (seen_after s x) log e f.1 k)

pub seen_more : (s : Seen) (log : List Entry) (e : Entry) → fold seen_after s (log ++ e ∷ []) ≡ seen_after (fold seen_after s log) e
seen_more s [] e = refl
seen_more s (x ∷ log) e = seen_more (seen_after s x) log e

lines_more : (log : List Entry) (e : Entry) → map entry_line (log ++ e ∷ []) ≡ map entry_line log ++ entry_line e ∷ []
lines_more [] e = refl
lines_more (x ∷ log) e = ap (λ ls. entry_line x ∷ ls) (lines_more log e)

count_more : (log : List Entry) (e : Entry) → length (log ++ e ∷ []) ≡ length log + 1
count_more [] e = refl
count_more (x ∷ log) e = let h = count_more log e in omega (arith, h)

-- the lines with the one that now ends
ends : (front : List ℕ) (r : Reading) (h : HasRead front r) → ended_lines (front ++ 10 ∷ []) ≡ map entry_line h.log ++ r.line.items ∷ []
ends front r h = ended_feed front ∙ ap (λ ls. ls ++ rest_of front ∷ []) h.spelt ∙ ap (λ l. map entry_line h.log ++ l ∷ []) h.rest

longer : (front : List ℕ) (byte : ℕ) → length (front ++ byte ∷ []) ≡ length front + 1
longer [] byte = refl
longer (x ∷ front) byte = let h = longer front byte in omega (arith, h)

pub read_line : (front : List ℕ) (old new : Reading) (e : Entry) → HasRead front old → IsLine e old.line.items → Fits old.audit e → new.audit ≡ seen_after old.audit e
    → new.lines ≡ old.lines + 1 → new.line.items ≡ [] → HasRead (front ++ 10 ∷ []) new
read_line front old new e h is f s n l = record {
  log = h.log ++ e ∷ [];
  spelt = ends front old h ∙ ap (λ x. map entry_line h.log ++ x ∷ []) is.spelt ∙ sym (lines_more h.log e);
  fit = fit_more nothing_seen h.log e h.fit (subst (λ x. Fits x e) h.seen f);
  seen = s ∙ ap (λ x. seen_after x e) h.seen ∙ sym (seen_more nothing_seen h.log e);
  count = let a = h.count in let b = count_more h.log e in omega (arith, a, b, n);
  rest = rest_feed front ∙ sym l;
  short = let a : length new.line.items ≡ 0 = ap length l in omega (arith, a);
  few = let a = h.few in let b = longer front 10 in omega (arith, a, b, n);
}

pub read_byte : (front : List ℕ) (byte : ℕ) (old new : Reading) → byte ≢ 10 → HasRead front old → length old.line.items < 80 → new.audit ≡ old.audit → new.lines ≡ old.lines → new.line.items ≡ old.line.items ++ byte ∷ []
    → HasRead (front ++ byte ∷ []) new
read_byte front byte old new t h m s n l = record {
  log = h.log;
  spelt = ended_other front byte t ∙ h.spelt;
  fit = h.fit;
  seen = s ∙ h.seen;
  count = n ∙ h.count;
  rest = rest_other front byte t ∙ ap (λ x. x ++ byte ∷ []) h.rest ∙ sym l;
  short = let a : length new.line.items ≡ length (old.line.items ++ byte ∷ []) = ap length l in let b = longer old.line.items byte in omega (arith, a, b, m);
  few = let a = h.few in let b = longer front byte in omega (arith, a, b, n);
}

pub unfit_line : (front : List ℕ) (r : Reading) (n : ℕ) (e : Entry) → HasRead front r → n ≡ r.lines + 1 → IsLine e r.line.items → (Fits r.audit e → ⊥) → IsUnfitAt (ended_lines (front ++ 10 ∷ [])) n
unfit_line front r n e h m is f = record {
  log = h.log;
  line = r.line.items;
  after = [];
  before = record { spelt = ends front r h; fit = h.fit; number = m ∙ ap (λ x. x + 1) h.count };
  entry = e;
  is = is;
  unfit = λ k. f (subst (λ x. Fits x e) (sym h.seen) k);
}

pub bad_line : (front : List ℕ) (r : Reading) (n : ℕ) → HasRead front r → n ≡ r.lines + 1 → ((e : Entry) → IsLine e r.line.items → ⊥) → IsBadAt (ended_lines (front ++ 10 ∷ [])) n
bad_line front r n h m f = record {
  log = h.log;
  line = r.line.items;
  after = [];
  before = record { spelt = ends front r h; fit = h.fit; number = m ∙ ap (λ x. x + 1) h.count };
  bad = f;
}

pub long_line : (front : List ℕ) (byte : ℕ) (r : Reading) (n : ℕ) → byte ≢ 10 → HasRead front r → n ≡ r.lines + 1 → length r.line.items ≡ 80 → IsLongAt (front ++ byte ∷ []) n
long_line front byte r n t h m l = record {
  log = h.log;
  spelt = ended_other front byte t ∙ h.spelt;
  fit = h.fit;
  number = m ∙ ap (λ x. x + 1) h.count;
  long =
      let a : length (rest_of (front ++ byte ∷ [])) ≡ length (r.line.items ++ byte ∷ []) = ap length (rest_other front byte t ∙ ap (λ x. x ++ byte ∷ []) h.rest) in
      let b = longer r.line.items byte in omega (arith, a, b, l);
}

-- the end of the file
no_rest : (rest : List ℕ) → rest ≡ [] → last_line rest ≡ []
no_rest rest e = ap last_line e

pub closed : (front : List ℕ) (r : Reading) → HasRead front r → r.line.items ≡ [] → lines_of front ≡ ended_lines front
closed front r h e = ap (λ l. ended_lines front ++ l) (no_rest (rest_of front) (h.rest ∙ e)) ∙ append-nil (ended_lines front)

some_rest : (rest : List ℕ) → rest ≢ [] → last_line rest ≡ rest ∷ []
some_rest [] n = absurd (n refl)
some_rest (x ∷ rest) n = ap (λ b. cond b [] ((x ∷ rest) ∷ [])) (ne_eqb (length (x ∷ rest)) 0 (λ e. omega (arith, e)))

pub unclosed : (front : List ℕ) (r : Reading) → HasRead front r → r.line.items ≢ [] → lines_of front ≡ ended_lines (front ++ 10 ∷ [])
unclosed front r h n = ap (λ l. ended_lines front ++ l) (some_rest (rest_of front) (λ e. n (sym h.rest ∙ e))) ∙ sym (ended_feed front)

pub over_log : (lines : List (List ℕ)) (log : List Entry) → lines ≡ map entry_line log → FitAll nothing_seen log → (seen_of log).stage ≡ Over → AreLawful lines
over_log lines log e f o = record { log = log; spelt = e; lawful = record { fit = f; over = o } }

pub open_log : (lines : List (List ℕ)) (log : List Entry) (n : ℕ) → lines ≡ map entry_line log → FitAll nothing_seen log → (seen_of log).stage ≢ Over → n ≡ length log + 1 → IsMissingAt lines n
open_log lines log n e f o m = record { log = log; before = record { spelt = e ∙ sym (append-nil (map entry_line log)); fit = f; number = m }; unended = o }

pub length_lines : (log : List Entry) → length (map entry_line log) ≡ length log
length_lines [] = refl
length_lines (x ∷ log) = let h = length_lines log in omega (arith, h)

pub no_items : (items : List ℕ) → length items ≡ 0 → items ≡ []
no_items [] e = refl
no_items (x ∷ items) e = absurd (omega (arith, e))

-- What is at fault among the first bytes of a file is at fault in the file, whatever comes after them.
use Rattle.std.proofs.Common.{◌≡◌, ◌⊎◌, ◌∙◌, ◌+◌, ◌-◌, ◌<◌, ◌≤◌, ◌==◌, ℕ, zero, suc, Bool, true, false, cond, List, [], ◌∷◌, ◌++◌, append_assoc, length, length-append, map, take, Result, Ok, Err, refl, sym, ap, subst, arith, inl, inr}
use Rattle.std.proofs.lemmas.Bool.{ne_eqb}
use Rattle.std.proofs.lemmas.List.{append-nil}
use Rattle.std.specs.List.{onto_first}
use Rattle.v6_base.specs.LogLine.{entry_line}
use Rattle.v6_base.specs.declared.entry.Entry.{Entry}
use Rattle.pick_rules.specs.Lawful.{FitAll, nothing_seen}
use Rattle.log_text.proofs.EntryLemmas.{line_short}
use Rattle.log_audit.specs.Judge.{IsLine}
use Rattle.v6_run.specs.declared.audit.Reading.{Reading}
use Rattle.v6_run.specs.declared.audit.LogError.{LogError}
use Rattle.v6_run.specs.declared.audit.LogError.TheVariants.{Unread, Unlawful, Bad, TooLong}
use Rattle.v6_run.specs.declared.audit.TheConstants.{LOG_LIMIT}
use Rattle.v6_run.specs.Logs.{parts_of, all_but_last, last_of, ended_lines, rest_of, last_line, lines_of, AreLawful, IsUnfitAt, IsMissingAt, IsBadAt, IsTooLong, IsShort, most_bytes, longest_line}
use Rattle.v6_run.specs.Audit.{HasRead, IsLongAt, IsAtFault, Sums, Closes, AuditsTo}
use Rattle.v6_run.proofs.PartsOfLogs.{Lines, First, first, all_of, last_is, rest_feed, Begins, ended_stay, lines_stay}
use Rattle.v6_run.proofs.OneWay.{Ends, GoesOn, held, meet, no_line, unfit_stops, bad_stops}

-- the parts of two pieces: the last of the first piece goes on with the first of the second
abbrev joined : Lines → List ℕ → Lines → Lines
joined parts part more = all_but_last parts ++ (last_of parts ++ part) ∷ more

joined_on : (x : ℕ) (b : Bool) (q : List ℕ) (qs : Lines) (part : List ℕ) (more : Lines)
    → cond b ([] ∷ joined (q ∷ qs) part more) (onto_first x (joined (q ∷ qs) part more)) ≡ joined (cond b ([] ∷ q ∷ qs) (onto_first x (q ∷ qs))) part more
joined_on x true q qs part more = refl
joined_on x false q [] part more = refl
joined_on x false q (r ∷ rs) part more = refl

come_on : (front more : List ℕ) (f : First (parts_of more)) → parts_of (front ++ more) ≡ joined (parts_of front) f.part f.more
come_on [] more f = f.is
come_on (x ∷ front) more f =
    let g : First (parts_of front) = first front in
    ap (λ p. cond (x == 10) ([] ∷ p) (onto_first x p)) (come_on front more f ∙ ap (λ p. joined p f.part f.more) g.is)
    ∙ joined_on x (x == 10) g.part g.more f.part f.more
    ∙ sym (ap (λ p. joined (cond (x == 10) ([] ∷ p) (onto_first x p)) f.part f.more) g.is)

all_but : (parts : Lines) (a b : List ℕ) (rest : Lines) → all_but_last (parts ++ a ∷ b ∷ rest) ≡ parts ++ a ∷ all_but_last (b ∷ rest)
all_but [] a b rest = refl
all_but (p ∷ []) a b rest = refl
all_but (p ∷ q ∷ parts) a b rest = ap (λ ps. p ∷ ps) (all_but (q ∷ parts) a b rest)

some_line : (r : List ℕ) → 0 < length r → last_line r ≡ r ∷ []
some_line [] l = absurd (omega (arith, l))
some_line (x ∷ r) l = ap (λ b. cond b [] ((x ∷ r) ∷ [])) (ne_eqb (length (x ∷ r)) 0 (λ e. omega (arith, e)))

-- the line that begins behind the last LF of the first bytes
pub record LineFrom (front bytes : List ℕ) : Type 0 where
  pub more : List ℕ
  pub after : Lines
  pub lines : lines_of bytes ≡ ended_lines front ++ (rest_of front ++ more) ∷ after

line_from : (front more : List ℕ) → 0 < length (rest_of front) → LineFrom front (front ++ more)
line_from front more some = let f : First (parts_of more) = first more in by f.part f.more (come_on front more f)
  where
    by : (part : List ℕ) (ps : Lines) → parts_of (front ++ more) ≡ joined (parts_of front) part ps → LineFrom front (front ++ more)
    by part [] e = record {
      more = part;
      after = [];
      lines =
          let long = length-append (rest_of front) part in
          ap (λ p. all_but_last p ++ last_line (last_of p)) e
          ∙ ap (λ l. l ++ last_line (last_of (joined (parts_of front) part []))) (all_of (ended_lines front) (rest_of front ++ part))
          ∙ ap (λ r. ended_lines front ++ last_line r) (last_is (ended_lines front) (rest_of front ++ part))
          ∙ ap (λ l. ended_lines front ++ l) (some_line (rest_of front ++ part) (omega (arith, long, some)));
    }
    by part (r ∷ rs) e = record {
      more = part;
      after = all_but_last (r ∷ rs) ++ last_line (last_of (joined (parts_of front) part (r ∷ rs)));
      lines =
          ap (λ p. all_but_last p ++ last_line (last_of p)) e
          ∙ ap (λ l. l ++ last_line (last_of (joined (parts_of front) part (r ∷ rs)))) (all_but (ended_lines front) (rest_of front ++ part) r rs)
          ∙ append_assoc (ended_lines front) ((rest_of front ++ part) ∷ all_but_last (r ∷ rs)) (last_line (last_of (joined (parts_of front) part (r ∷ rs))));
    }

-- so many bytes of a file, where these come first
take_front : (front more : List ℕ) (n : ℕ) → length front ≤ n → take n (front ++ more) ≡ front ++ take (n - length front) more
take_front [] more n l = let e : n ≡ n - 0 = omega arith in ap (λ m. take m more) e
take_front (x ∷ front) more zero l = absurd (omega (arith, l))
take_front (x ∷ front) more (suc n) l =
    let e : n - length front ≡ suc n - length (x ∷ front) = omega arith in
    ap (λ ls. x ∷ ls) (take_front front more n (omega (arith, l)) ∙ ap (λ m. front ++ take m more) e)

-- no line of a log is so long
long_bad : (front more : List ℕ) → longest_line < length (rest_of front) → (e : Entry) → IsLine e (rest_of front ++ more) → ⊥
long_bad front more l e is =
    let a = length-append (rest_of front) more in
    let b : length (rest_of front ++ more) ≡ length (entry_line e) = ap length is.spelt in
    let c = line_short e (held e is.range) in omega (arith, a, b, c, l)

-- where the lines go on with one that stops, no log that fits has them all
stopped : (a log : List Entry) (line : List ℕ) (after : Lines) → map entry_line a ≡ map entry_line log ++ line ∷ after → FitAll nothing_seen a → FitAll nothing_seen log
    → (GoesOn nothing_seen log (line ∷ after) → ⊥) → ⊥
stopped a log line after s f g stops = by (meet nothing_seen a log [] (line ∷ after) (append-nil (map entry_line a) ∙ s) f g)
  where
    by : Ends a log [] (line ∷ after) ⊎ (GoesOn nothing_seen a [] ⊎ GoesOn nothing_seen log (line ∷ after)) → ⊥
    by (inl x) = let r = x.rest in cc r
    by (inr (inl x)) = no_line nothing_seen a x
    by (inr (inr x)) = stops x

-- A file whose first bytes have a line at fault isn't too long.
lines_within : (front more : List ℕ) → length front ≤ most_bytes + 1 → (log : List Entry) (line : List ℕ) (after : Lines) → ended_lines front ≡ map entry_line log ++ line ∷ after
    → (t : IsTooLong (front ++ more)) → (rest : Lines) × (map entry_line t.log ≡ map entry_line log ++ line ∷ rest)
lines_within front more l log line after s t =
    let piece : List ℕ = take (most_bytes + 1 - length front) more in
    let k : Begins (ended_lines front) (ended_lines (front ++ piece)) = ended_stay front piece in (
      after ++ k.more,
      sym t.spelt ∙ ap ended_lines (take_front front more (most_bytes + 1) l) ∙ k.is ∙ ap (λ ls. ls ++ k.more) s ∙ append_assoc (map entry_line log) (line ∷ after) k.more,
    )

unfit_on : (front more : List ℕ) (n : ℕ) → IsUnfitAt (ended_lines front) n → IsUnfitAt (lines_of (front ++ more)) n
unfit_on front more n h =
    let k : Begins (ended_lines front) (lines_of (front ++ more)) = lines_stay front more in
    record {
      log = h.log;
      line = h.line;
      after = h.after ++ k.more;
      before = record { spelt = k.is ∙ ap (λ ls. ls ++ k.more) h.before.spelt ∙ append_assoc (map entry_line h.log) (h.line ∷ h.after) k.more; fit = h.before.fit; number = h.before.number };
      entry = h.entry;
      is = h.is;
      unfit = h.unfit;
    }

unfit_short : (front more : List ℕ) (n : ℕ) → length front ≤ most_bytes + 1 → IsUnfitAt (ended_lines front) n → IsShort (front ++ more)
unfit_short front more n l h t =
    let k = lines_within front more l h.log h.line h.after h.before.spelt t in
    stopped t.log h.log h.line k.0 k.1 t.fit h.before.fit (unfit_stops h.log h.line k.0 h.entry h.is h.unfit)

bad_on : (front more : List ℕ) (n : ℕ) → IsBadAt (ended_lines front) n → IsBadAt (lines_of (front ++ more)) n
bad_on front more n h =
    let k : Begins (ended_lines front) (lines_of (front ++ more)) = lines_stay front more in
    record {
      log = h.log;
      line = h.line;
      after = h.after ++ k.more;
      before = record { spelt = k.is ∙ ap (λ ls. ls ++ k.more) h.before.spelt ∙ append_assoc (map entry_line h.log) (h.line ∷ h.after) k.more; fit = h.before.fit; number = h.before.number };
      bad = h.bad;
    }

bad_short : (front more : List ℕ) (n : ℕ) → length front ≤ most_bytes + 1 → IsBadAt (ended_lines front) n → IsShort (front ++ more)
bad_short front more n l h t =
    let k = lines_within front more l h.log h.line h.after h.before.spelt t in
    stopped t.log h.log h.line k.0 k.1 t.fit h.before.fit (bad_stops h.log h.line k.0 h.bad)

-- a line that is too long before it ends
long_on : (front more : List ℕ) (n : ℕ) → IsLongAt front n → IsBadAt (lines_of (front ++ more)) n
long_on front more n h =
    let l = h.long in
    let k : LineFrom front (front ++ more) = line_from front more (omega (arith, l)) in
    record {
      log = h.log;
      line = rest_of front ++ k.more;
      after = k.after;
      before = record { spelt = k.lines ∙ ap (λ ls. ls ++ (rest_of front ++ k.more) ∷ k.after) h.spelt; fit = h.fit; number = h.number };
      bad = long_bad front k.more h.long;
    }

long_short : (front more : List ℕ) (n : ℕ) → length front ≤ most_bytes + 1 → IsLongAt front n → IsShort (front ++ more)
long_short front more n l h t = let f : First (parts_of piece) = first piece in by f.part f.more (come_on front piece f)
  where
    piece : List ℕ
    piece = take (most_bytes + 1 - length front) more

    here : take (most_bytes + 1) (front ++ more) ≡ front ++ piece
    here = take_front front more (most_bytes + 1) l

    by : (part : List ℕ) (ps : Lines) → parts_of (front ++ piece) ≡ joined (parts_of front) part ps → ⊥
    by part [] e =
        let a : rest_of (take (most_bytes + 1) (front ++ more)) ≡ rest_of front ++ part = ap rest_of here ∙ ap last_of e ∙ last_is (ended_lines front) (rest_of front ++ part) in
        let b : length (rest_of (take (most_bytes + 1) (front ++ more))) ≡ length (rest_of front ++ part) = ap length a in
        let c = length-append (rest_of front) part in
        let d = t.short in
        let g = h.long in omega (arith, b, c, d, g)
    by part (r ∷ rs) e =
        stopped t.log h.log (rest_of front ++ part) (all_but_last (r ∷ rs))
        (sym t.spelt ∙ ap ended_lines here ∙ ap all_but_last e ∙ all_but (ended_lines front) (rest_of front ++ part) r rs ∙ ap (λ ls. ls ++ (rest_of front ++ part) ∷ all_but_last (r ∷ rs)) h.spelt)
        t.fit h.fit (bad_stops h.log (rest_of front ++ part) (all_but_last (r ∷ rs)) (long_bad front part h.long))

-- A file ends as its first bytes do where they are at fault,
pub fault_ends : (front more : List ℕ) (error : LogError) → length front ≤ LOG_LIMIT → IsAtFault front error → AuditsTo (front ++ more) (Err error)
fault_ends front more Unread l h = absurd h
fault_ends front more (Unlawful n) l h = (unfit_short front more n l h, inl (unfit_on front more n h))
fault_ends front more (Bad n) l (inl h) = (bad_short front more n l h, bad_on front more n h)
fault_ends front more (Bad n) l (inr h) = (long_short front more n l h, long_on front more n h)
fault_ends front more TooLong l h = absurd h

-- as its end tells where it isn't longer than 2^40 bytes,
not_long : (bytes : List ℕ) → length bytes ≤ most_bytes → IsShort bytes
not_long bytes l t = let k = t.long in absurd (omega (arith, k, l))

pub close_ends : (bytes : List ℕ) (r : Result ℕ LogError) → length bytes ≤ most_bytes → Closes bytes r → AuditsTo bytes r
close_ends bytes (Ok count) l h = ((not_long bytes l, h.0), h.1)
close_ends bytes (Err Unread) l h = tt
close_ends bytes (Err (Unlawful n)) l h = (not_long bytes l, h)
close_ends bytes (Err (Bad n)) l h = (not_long bytes l, h)
close_ends bytes (Err TooLong) l h = absurd h

-- and is too long where they are the most that are read.
pub long_ends : (front more : List ℕ) (r : Reading) → HasRead front r → length front ≡ LOG_LIMIT → AuditsTo (front ++ more) (Err TooLong)
long_ends front more r h l = record {
  long = let a = length-append front more in omega (arith, a, l);
  log = h.log;
  spelt = ap ended_lines all ∙ h.spelt;
  fit = h.fit;
  short = let a : length (rest_of (take (most_bytes + 1) (front ++ more))) ≡ length r.line.items = ap length (ap rest_of all ∙ h.rest) in let b = h.short in omega (arith, a, b);
}
  where
    none : most_bytes + 1 - length front ≡ 0
    none = omega (arith, l)

    all : take (most_bytes + 1) (front ++ more) ≡ front
    all = take_front front more (most_bytes + 1) (omega (arith, l)) ∙ ap (λ m. front ++ take m more) none ∙ append-nil front

-- the end of a file
pub sums_close : (bytes : List ℕ) (lines : List (List ℕ)) (r : Result ℕ LogError) → lines_of bytes ≡ lines → Sums lines r → Closes bytes r
sums_close bytes lines (Ok count) e h = (subst AreLawful (sym e) h.0, h.1 ∙ ap length (sym e))
sums_close bytes lines (Err Unread) e h = absurd h
sums_close bytes lines (Err (Unlawful n)) e h = inr (subst (λ ls. IsMissingAt ls n) (sym e) h)
sums_close bytes lines (Err (Bad n)) e h = absurd h
sums_close bytes lines (Err TooLong) e h = absurd h

-- where its last line, which no LF ends, is at fault
pub fault_closes : (bytes : List ℕ) (error : LogError) → lines_of bytes ≡ ended_lines (bytes ++ 10 ∷ []) → IsAtFault (bytes ++ 10 ∷ []) error → Closes bytes (Err error)
fault_closes bytes Unread e h = absurd h
fault_closes bytes (Unlawful n) e h = inl (subst (λ ls. IsUnfitAt ls n) (sym e) h)
fault_closes bytes (Bad n) e (inl h) = subst (λ ls. IsBadAt ls n) (sym e) h
fault_closes bytes (Bad n) e (inr h) =
    absurd (let a : length (rest_of (bytes ++ 10 ∷ [])) ≡ 0 = ap length (rest_feed bytes) in let b = h.long in omega (arith, a, b))
fault_closes bytes TooLong e h = absurd h

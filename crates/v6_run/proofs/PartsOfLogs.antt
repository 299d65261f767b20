-- The lines of a file, byte by byte.
use Rattle.std.proofs.Common.{◌≡◌, ◌≢◌, ◌∙◌, ◌==◌, ℕ, Bool, true, false, cond, List, [], ◌∷◌, ◌++◌, append_assoc, refl, sym, ap}
use Rattle.std.proofs.lemmas.Bool.{ne_eqb, eq-eqb, eqb-true}
use Rattle.std.proofs.lemmas.List.{append-nil}
use Rattle.std.specs.List.{onto_first}
use Rattle.v6_run.specs.Logs.{parts_of, all_but_last, last_of, ended_lines, rest_of, last_line, lines_of}

abbrev pub Lines : Type 0
Lines = List (List ℕ)

-- there is a first part always
pub record First (parts : Lines) : Type 0 where
  pub part : List ℕ
  pub more : Lines
  pub is : parts ≡ part ∷ more

pub first : (bytes : List ℕ) → First (parts_of bytes)
first [] = record { part = []; more = []; is = refl }
first (x ∷ bytes) = by (x == 10) (first bytes)
  where
    by : (b : Bool) → First (parts_of bytes) → First (cond b ([] ∷ parts_of bytes) (onto_first x (parts_of bytes)))
    by true rest = record { part = []; more = parts_of bytes; is = refl }
    by false rest = record { part = x ∷ rest.part; more = rest.more; is = ap (onto_first x) rest.is }

-- a byte in front, and parts behind
front_of : (x : ℕ) (b : Bool) (parts tail : Lines) → First parts → cond b ([] ∷ (parts ++ tail)) (onto_first x (parts ++ tail)) ≡ cond b ([] ∷ parts) (onto_first x parts) ++ tail
front_of x true parts tail f = refl
front_of x false parts tail f = ap (λ p. onto_first x (p ++ tail)) f.is ∙ sym (ap (λ p. onto_first x p ++ tail) f.is)

-- with an LF a new part begins
pub feed : (bytes : List ℕ) → parts_of (bytes ++ 10 ∷ []) ≡ parts_of bytes ++ [] ∷ []
feed [] = refl
feed (x ∷ bytes) = ap (λ p. cond (x == 10) ([] ∷ p) (onto_first x p)) (feed bytes) ∙ front_of x (x == 10) (parts_of bytes) ([] ∷ []) (first bytes)

-- the parts but the last, and the last
pub all_of : (parts : Lines) (part : List ℕ) → all_but_last (parts ++ part ∷ []) ≡ parts
all_of [] part = refl
all_of (p ∷ []) part = refl
all_of (p ∷ q ∷ parts) part = ap (λ ps. p ∷ ps) (all_of (q ∷ parts) part)

pub last_is : (parts : Lines) (part : List ℕ) → last_of (parts ++ part ∷ []) ≡ part
last_is [] part = refl
last_is (p ∷ []) part = refl
last_is (p ∷ q ∷ parts) part = last_is (q ∷ parts) part

both : (part : List ℕ) (more : Lines) → part ∷ more ≡ all_but_last (part ∷ more) ++ last_of (part ∷ more) ∷ []
both part [] = refl
both part (q ∷ more) = ap (λ ps. part ∷ ps) (both q more)

pub whole : (bytes : List ℕ) → parts_of bytes ≡ ended_lines bytes ++ rest_of bytes ∷ []
whole bytes = let f : First (parts_of bytes) = first bytes in f.is ∙ both f.part f.more ∙ sym (ap (λ p. all_but_last p ++ last_of p ∷ []) f.is)

pub ended_feed : (bytes : List ℕ) → ended_lines (bytes ++ 10 ∷ []) ≡ ended_lines bytes ++ rest_of bytes ∷ []
ended_feed bytes = ap all_but_last (feed bytes) ∙ all_of (parts_of bytes) [] ∙ whole bytes

pub rest_feed : (bytes : List ℕ) → rest_of (bytes ++ 10 ∷ []) ≡ []
rest_feed bytes = ap last_of (feed bytes) ∙ last_is (parts_of bytes) []

-- another byte goes behind the last part
abbrev pub onto_last : Lines → ℕ → Lines
onto_last parts byte = all_but_last parts ++ (last_of parts ++ byte ∷ []) ∷ []

onto_both : (x byte : ℕ) (b : Bool) (part : List ℕ) (more : Lines)
    → cond b ([] ∷ onto_last (part ∷ more) byte) (onto_first x (onto_last (part ∷ more) byte)) ≡ onto_last (cond b ([] ∷ part ∷ more) (onto_first x (part ∷ more))) byte
onto_both x byte true part more = refl
onto_both x byte false part [] = refl
onto_both x byte false part (q ∷ more) = refl

pub other : (bytes : List ℕ) (byte : ℕ) → byte ≢ 10 → parts_of (bytes ++ byte ∷ []) ≡ onto_last (parts_of bytes) byte
other [] byte n = ap (λ b. cond b ([] ∷ [] ∷ []) ((byte ∷ []) ∷ [])) (ne_eqb byte 10 n)
other (x ∷ bytes) byte n =
    let f : First (parts_of bytes) = first bytes in
    ap (λ p. cond (x == 10) ([] ∷ p) (onto_first x p)) (other bytes byte n ∙ ap (λ p. onto_last p byte) f.is)
    ∙ onto_both x byte (x == 10) f.part f.more
    ∙ sym (ap (λ p. onto_last (cond (x == 10) ([] ∷ p) (onto_first x p)) byte) f.is)

pub ended_other : (bytes : List ℕ) (byte : ℕ) → byte ≢ 10 → ended_lines (bytes ++ byte ∷ []) ≡ ended_lines bytes
ended_other bytes byte n = ap all_but_last (other bytes byte n) ∙ all_of (ended_lines bytes) (rest_of bytes ++ byte ∷ [])

pub rest_other : (bytes : List ℕ) (byte : ℕ) → byte ≢ 10 → rest_of (bytes ++ byte ∷ []) ≡ rest_of bytes ++ byte ∷ []
rest_other bytes byte n = ap last_of (other bytes byte n) ∙ last_is (ended_lines bytes) (rest_of bytes ++ byte ∷ [])

-- what has been ended stays, whatever comes
pub record Begins (lines : Lines) (all : Lines) : Type 0 where
  pub more : Lines
  pub is : all ≡ lines ++ more

pub ended_stay : (front more : List ℕ) → Begins (ended_lines front) (ended_lines (front ++ more))
ended_stay front [] = record { more = []; is = ap ended_lines (append-nil front) ∙ sym (append-nil (ended_lines front)) }
ended_stay front (x ∷ more) = by (x == 10) refl (ended_stay (front ++ x ∷ []) more)
  where
    same : ended_lines (front ++ x ∷ more) ≡ ended_lines ((front ++ x ∷ []) ++ more)
    same = ap ended_lines (sym (append_assoc front (x ∷ []) more))

    by : (b : Bool) → (x == 10) ≡ b → Begins (ended_lines (front ++ x ∷ [])) (ended_lines ((front ++ x ∷ []) ++ more)) → Begins (ended_lines front) (ended_lines (front ++ x ∷ more))
    by true e next =
        let ten : x ≡ 10 = eqb-true x 10 e in
        record {
          more = rest_of front ∷ next.more;
          is = same ∙ next.is ∙ ap (λ y. ended_lines (front ++ y ∷ []) ++ next.more) ten ∙ ap (λ l. l ++ next.more) (ended_feed front) ∙ append_assoc (ended_lines front) (rest_of front ∷ []) next.more;
        }
    by false e next =
        record { more = next.more; is = same ∙ next.is ∙ ap (λ l. l ++ next.more) (ended_other front x (λ f. let g = eq-eqb x 10 f in cc (g, e))) }

pub lines_stay : (front more : List ℕ) → Begins (ended_lines front) (lines_of (front ++ more))
lines_stay front more =
    let k : Begins (ended_lines front) (ended_lines (front ++ more)) = ended_stay front more in
    record {
      more = k.more ++ last_line (rest_of (front ++ more));
      is = ap (λ l. l ++ last_line (rest_of (front ++ more))) k.is ∙ append_assoc (ended_lines front) k.more (last_line (rest_of (front ++ more)));
    }

-- The bytes of arguments as they are read one after another, and the arguments that they are.
use Rattle.std.proofs.Common.{◌≡◌, ◌≤◌, ◌<◌, ◌≢◌, ℕ, zero, suc, ◌+◌, ◌-◌, ◌==◌, ◌∙◌, if◌then◌else◌, Bool, true, false, List, [], ◌∷◌, ◌++◌, length, ◌%◌, take, refl, sym, ap, arith, Option, Some, None, Result, Ok, Err, IfOk}
use Rattle.std.specs.List.{concat}
use Rattle.std.proofs.lemmas.Bool.{eqb-true, eq-eqb, ne_eqb}
use Rattle.std.proofs.lemmas.List.{append_assoc, append-nil, length-take}
use Rattle.v6_base.specs.Image.{Image}
use Rattle.v6_base.specs.Access.{then_do}
use Rattle.v6_base.specs.declared.errno.Errno.{Errno}
use Rattle.v6_base.specs.declared.errno.Errno.TheVariants.{E2BIG}
use Rattle.sys_procs.specs.declared.arguments.Reading.{Reading}
use Rattle.sys_procs.specs.declared.arguments.Arguments.TheInside.{Inside}
use Rattle.sys_procs.specs.inside.Packed.{split, ArePacked}
use Rattle.sys_procs.specs.Stack.{fubyte, next_argument, next_reading, in_front, in_first, packed, arguments}

-- the bytes that are still to be read
unfoldable pub flat : Image → ℕ → Option Reading → Result (List ℕ) Errno
flat image zero None = Ok []
flat image zero (Some r) = then_do (fubyte image r.at) (λ byte. Err E2BIG)
flat image (suc room) None = Ok []
flat image (suc room) (Some r) =
    then_do (fubyte image r.at) (λ byte.
    then_do (next_reading image r byte) (λ next.
    then_do (flat image room next) (λ later. Ok (byte ∷ later))))

abbrev pub parted : Result (List ℕ) Errno → Result (List (List ℕ)) Errno
parted r = then_do r (λ bytes. Ok (split bytes))

-- bytes before those that are still to be read
abbrev pub joined : List ℕ → Result (List ℕ) Errno → Result (List ℕ) Errno
joined front r = then_do r (λ later. Ok (front ++ later))

-- all bytes of a list of arguments
abbrev pub all_bytes : Image → ℕ → Result (List ℕ) Errno
all_bytes image list = then_do (next_argument image list) (λ first. flat image 510 first)

then_same : {A B : Type 0} (r : Result A Errno) (f g : A → Result B Errno) → ((a : A) → f a ≡ g a) → then_do r f ≡ then_do r g
then_same (Ok a) f g same = same a
then_same (Err e) f g same = refl

then_then : {A B C : Type 0} (r : Result A Errno) (f : A → Result B Errno) (g : B → Result C Errno)
    → then_do (then_do r f) g ≡ then_do r (λ a. then_do (f a) g)
then_then (Ok a) f g = refl
then_then (Err e) f g = refl

front_parted : (b : ℕ) (r : Result (List ℕ) Errno)
    → then_do (parted r) (λ later. Ok (in_front b later)) ≡ parted (then_do r (λ later. Ok (b ∷ later)))
unfolding split
front_parted b (Ok bytes) = refl
front_parted b (Err e) = refl

parted_all : (image : Image) (room : ℕ) (next : Option Reading) → packed image room next ≡ parted (flat image room next)
unfolding packed flat split
parted_all image zero None = refl
parted_all image zero (Some r) = sym (then_then (fubyte image r.at) (λ byte. Err E2BIG) (λ bytes. Ok (split bytes)))
parted_all image (suc room) None = refl
parted_all image (suc room) (Some r) =
    then_same (fubyte image r.at)
    (λ byte. then_do (next_reading image r byte) (λ next. then_do (packed image room next) (λ later. Ok (in_front byte later))))
    (λ byte. parted (then_do (next_reading image r byte) (λ next. then_do (flat image room next) (λ later. Ok (byte ∷ later)))))
    (λ byte. then_same (next_reading image r byte)
    (λ next. then_do (packed image room next) (λ later. Ok (in_front byte later)))
    (λ next. parted (then_do (flat image room next) (λ later. Ok (byte ∷ later))))
    (λ next. ap (λ p. then_do p (λ later. Ok (in_front byte later))) (parted_all image room next) ∙ front_parted byte (flat image room next))
    ∙ sym (then_then (next_reading image r byte) (λ next. then_do (flat image room next) (λ later. Ok (byte ∷ later))) (λ bytes. Ok (split bytes))))
    ∙ sym (then_then (fubyte image r.at)
    (λ byte. then_do (next_reading image r byte) (λ next. then_do (flat image room next) (λ later. Ok (byte ∷ later))))
    (λ bytes. Ok (split bytes)))

pub arguments_parted : (image : Image) (list : ℕ) → arguments image list ≡ parted (all_bytes image list)
arguments_parted image list =
    then_same (next_argument image list) (λ first. packed image 510 first) (λ first. parted (flat image 510 first)) (λ first. parted_all image 510 first)
    ∙ sym (then_then (next_argument image list) (λ first. flat image 510 first) (λ bytes. Ok (split bytes)))

joined_none : (r : Result (List ℕ) Errno) → joined [] r ≡ r
joined_none (Ok later) = refl
joined_none (Err e) = refl

-- nothing is read yet
pub none_read : (image : Image) (list : ℕ) (first : Option Reading) → Ok first ≡ next_argument image list
    → joined [] (flat image 510 first) ≡ all_bytes image list
none_read image list first is = joined_none (flat image 510 first) ∙ ap (λ r. then_do r (λ next. flat image 510 next)) is

one_less : (n : ℕ) → n < 510 → 510 - n ≡ suc (510 - (n + 1))
one_less n less = omega arith

joined_more : (front : List ℕ) (b : ℕ) (r : Result (List ℕ) Errno)
    → joined front (then_do r (λ later. Ok (b ∷ later))) ≡ joined (front ++ b ∷ []) r
joined_more front b (Ok later) = ap Ok (sym (append_assoc front (b ∷ []) later))
joined_more front b (Err e) = refl

-- one byte more is read
pub one_read : (image : Image) (n : ℕ) (front : List ℕ) (r : Reading) (b : ℕ) (next : Option Reading) → n < 510
    → Ok b ≡ fubyte image r.at → Ok next ≡ next_reading image r b
    → joined (front ++ b ∷ []) (flat image (510 - (n + 1)) next) ≡ joined front (flat image (510 - n) (Some r))
unfolding flat
one_read image n front r b next less byte on =
    sym (joined_more front b (flat image (510 - (n + 1)) next))
    ∙ ap (λ x. joined front (then_do x (λ more. then_do (flat image (510 - (n + 1)) more) (λ later. Ok (b ∷ later))))) on
    ∙ ap (λ x. joined front (then_do x (λ byte. then_do (next_reading image r byte) (λ more.
    then_do (flat image (510 - (n + 1)) more) (λ later. Ok (byte ∷ later)))))) byte
    ∙ ap (λ k. joined front (flat image k (Some r))) (sym (one_less n less))

flat_unread : (image : Image) (room : ℕ) (r : Reading) (e : Errno) → Err e ≡ fubyte image r.at → Err e ≡ flat image room (Some r)
unfolding flat
flat_unread image zero r e is = ap (λ x. then_do x (λ byte. Err E2BIG)) is
flat_unread image (suc room) r e is =
    ap (λ x. then_do x (λ byte. then_do (next_reading image r byte) (λ next. then_do (flat image room next) (λ later. Ok (byte ∷ later))))) is

-- where what is left is refused, so is all
ends : (image : Image) (list : ℕ) (front : List ℕ) (rest : Result (List ℕ) Errno) (e : Errno)
    → joined front rest ≡ all_bytes image list → Err e ≡ rest → Err e ≡ arguments image list
ends image list front rest e whole is = ap (λ r. parted (joined front r)) is ∙ ap parted whole ∙ sym (arguments_parted image list)

pub unread : (image : Image) (list n : ℕ) (front : List ℕ) (r : Reading) (e : Errno)
    → joined front (flat image (510 - n) (Some r)) ≡ all_bytes image list → Err e ≡ fubyte image r.at → Err e ≡ arguments image list
unread image list n front r e whole is = ends image list front (flat image (510 - n) (Some r)) e whole (flat_unread image (510 - n) r e is)

flat_many : (image : Image) (k : ℕ) (r : Reading) (b : ℕ) → k ≡ 0 → Ok b ≡ fubyte image r.at → Err E2BIG ≡ flat image k (Some r)
unfolding flat
flat_many image k r b none is = ap (λ x. then_do {B = List ℕ} x (λ byte. Err E2BIG)) is ∙ ap (λ j. flat image j (Some r)) (sym none)

pub too_many : (image : Image) (list n : ℕ) (front : List ℕ) (r : Reading) (b : ℕ) → n ≡ 510
    → joined front (flat image (510 - n) (Some r)) ≡ all_bytes image list → Ok b ≡ fubyte image r.at → Err E2BIG ≡ arguments image list
too_many image list n front r b most whole is =
    ends image list front (flat image (510 - n) (Some r)) E2BIG whole (flat_many image (510 - n) r b (omega arith) is)

flat_lost : (image : Image) (k room : ℕ) (r : Reading) (b : ℕ) (e : Errno) → k ≡ suc room → Ok b ≡ fubyte image r.at → Err e ≡ next_reading image r b
    → Err e ≡ flat image k (Some r)
unfolding flat
flat_lost image k room r b e more byte on =
    ap (λ x. then_do x (λ next. then_do (flat image room next) (λ later. Ok (b ∷ later)))) on
    ∙ ap (λ x. then_do x (λ byte. then_do (next_reading image r byte) (λ next. then_do (flat image room next) (λ later. Ok (byte ∷ later))))) byte
    ∙ ap (λ j. flat image j (Some r)) (sym more)

pub lost : (image : Image) (list n : ℕ) (front : List ℕ) (r : Reading) (b : ℕ) (e : Errno) → n < 510
    → joined front (flat image (510 - n) (Some r)) ≡ all_bytes image list → Ok b ≡ fubyte image r.at → Err e ≡ next_reading image r b
    → Err e ≡ arguments image list
lost image list n front r b e less whole byte on =
    ends image list front (flat image (510 - n) (Some r)) e whole
    (flat_lost image (510 - n) (510 - (n + 1)) r b e (one_less n less) byte on)

flat_end : (image : Image) (room : ℕ) → flat image room None ≡ Ok []
unfolding flat
flat_end image zero = refl
flat_end image (suc room) = refl

-- all is read
pub all_read : (image : Image) (list n : ℕ) (front : List ℕ) → joined front (flat image (510 - n) None) ≡ all_bytes image list
    → Ok front ≡ all_bytes image list
all_read image list n front whole =
    ap Ok (sym (append-nil front)) ∙ ap (joined front) (sym (flat_end image (510 - n))) ∙ whole

pub all_parted : (image : Image) (list : ℕ) (front : List ℕ) → Ok front ≡ all_bytes image list → Ok (split front) ≡ arguments image list
all_parted image list front is = ap parted is ∙ sym (arguments_parted image list)

-- the arguments have all the bytes that are read
pub record IsWhole (next : Option Reading) (bytes : List ℕ) : Type 0 where
  pub all : concat (split bytes) ≡ bytes
  pub some : (r : Reading) → next ≡ Some r → 0 < length (split bytes)

abbrev placed : Bool → ℕ → List (List ℕ) → List (List ℕ)
placed is_nul b later = if is_nul then (0 ∷ []) ∷ later else in_first b later

placed_all : (b : ℕ) (is_nul : Bool) (later : List (List ℕ)) → (is_nul ≡ true → b ≡ 0) → (is_nul ≡ false → 0 < length later)
    → (concat (placed is_nul b later) ≡ b ∷ concat later) × (0 < length (placed is_nul b later))
placed_all b true later nul more = (ap (λ x. x ∷ concat later) (sym (nul refl)), omega arith)
placed_all b false [] nul more = absurd (let h : 0 < 0 = more refl in omega arith)
placed_all b false (first ∷ later) nul more = (refl, omega arith)

whole_more : (r : Reading) (b : ℕ) (later : List ℕ) (next : Option Reading) → IsWhole next later
    → ((b == 0) ≡ false → 0 < length (split later)) → IsWhole (Some r) (b ∷ later)
unfolding split
whole_more r b later next is more =
    let both = placed_all b (b == 0) (split later) (λ h. eqb-true b 0 h) more in record {
      all = both.0 ∙ ap (λ l. b ∷ l) is.all;
      some = λ other same. both.1;
    }

then_is : {A B : Type 0} (P : B → Type 0) (r : Result A Errno) (f : A → Result B Errno)
    → ((a : A) → r ≡ Ok a → IfOk (f a) P) → IfOk (then_do r f) P
then_is P (Ok a) f each = each a refl
then_is P (Err e) f each = tt

if_ok_more : (P Q : List ℕ → Type 0) (r : Result (List ℕ) Errno) (b : ℕ) → IfOk r P → ((later : List ℕ) → P later → Q (b ∷ later))
    → IfOk (then_do r (λ later. Ok (b ∷ later))) Q
if_ok_more P Q (Ok later) b is more = more later is
if_ok_more P Q (Err e) b is more = tt

-- after a byte that is no NUL the argument goes on
goes_on : (image : Image) (r : Reading) (b : ℕ) (z : Bool) (next : Option Reading) → z ≡ false
    → (if z then next_argument image r.list else Ok (Some (record r { at = (r.at + 1) % 65536 }))) ≡ Ok next
    → next ≡ Some (record r { at = (r.at + 1) % 65536 })
goes_on image r b true next plain is = absurd (cc)
goes_on image r b false next plain is = cc

all_whole : (image : Image) (room : ℕ) (next : Option Reading) → IfOk (flat image room next) (IsWhole next)
unfolding flat split
all_whole image zero None = record { all = refl; some = λ r is. cc }
all_whole image zero (Some r) = then_is (IsWhole (Some r)) (fubyte image r.at) (λ byte. Err E2BIG) (λ byte is. tt)
all_whole image (suc room) None = record { all = refl; some = λ r is. cc }
all_whole image (suc room) (Some r) =
    then_is (IsWhole (Some r)) (fubyte image r.at)
    (λ byte. then_do (next_reading image r byte) (λ next. then_do (flat image room next) (λ later. Ok (byte ∷ later))))
    (λ byte got. then_is (IsWhole (Some r)) (next_reading image r byte) (λ next. then_do (flat image room next) (λ later. Ok (byte ∷ later)))
    (λ next on. if_ok_more (IsWhole next) (IsWhole (Some r)) (flat image room next) byte (all_whole image room next)
    (λ later is. whole_more r byte later next is
    (λ no. is.some _ (goes_on image r byte (byte == 0) next no on)))))

only : (next : Option Reading) (r : Result (List ℕ) Errno) → IfOk r (IsWhole next) → IfOk r (λ bytes. concat (split bytes) ≡ bytes)
only next (Ok bytes) is = is.all
only next (Err e) is = tt

at_ok : (bytes : List ℕ) (r : Result (List ℕ) Errno) → Ok bytes ≡ r → IfOk r (λ l. concat (split l) ≡ l) → concat (split bytes) ≡ bytes
at_ok bytes (Ok other) is all = let same : bytes ≡ other = cc in ap (λ l. concat (split l)) same ∙ all ∙ sym same
at_ok bytes (Err e) is all = absurd (cc)

pub whole_read : (image : Image) (list : ℕ) (front : List ℕ) → Ok front ≡ all_bytes image list → concat (split front) ≡ front
whole_read image list front is = at_ok front (all_bytes image list) is (then_is (λ bytes. concat (split bytes) ≡ bytes) (next_argument image list) (λ first. flat image 510 first)
    (λ first got. only first (flat image 510 first) (all_whole image 510 first)))

-- each argument has a NUL, so there are no more of them than bytes
count_by_test : (b : ℕ) (z : Bool) (later : List (List ℕ)) → length (placed z b later) ≡ (if z then 1 else 0) + length later
count_by_test b true later = omega arith
count_by_test b false [] = refl
count_by_test b false (first ∷ later) = omega arith

few_more : (b : ℕ) (z : Bool) → (if z then 1 else 0) ≤ 1
few_more b true = omega arith
few_more b false = omega arith

placed_count : (b : ℕ) (later : List (List ℕ)) → length (in_front b later) ≡ (if b == 0 then 1 else 0) + length later
placed_count b later = count_by_test b (b == 0) later

pub count_least : (bytes : List ℕ) → length (split bytes) ≤ length bytes
unfolding split
count_least [] = omega arith
count_least (b ∷ later) = let less = count_least later in let one = few_more b (b == 0) in omega (arith, placed_count b (split later), less, one)

pub count_more : (front : List ℕ) (b : ℕ) → length (split (front ++ b ∷ [])) ≡ length (split front) + (if b == 0 then 1 else 0)
unfolding split
count_more [] b = placed_count b [] ∙ omega arith
count_more (x ∷ front) b =
    let more = count_more front b in
    omega (arith, placed_count x (split (front ++ b ∷ [])), placed_count x (split front), more)

pub few : (a : Inside) → ArePacked a → a.count ≤ 510
few a are = omega (arith, are.most, are.number, count_least (take a.length a.bytes), length-take a.length a.bytes)

pub is_none : (next : Option Reading) → ((r : Reading) → next ≡ Some r → ⊥) → next ≡ None
is_none None not_some = refl
is_none (Some r) not_some = absurd (not_some r refl)

pub nul_counts : (n b : ℕ) → b ≡ 0 → n + 1 ≡ n + (if b == 0 then 1 else 0)
nul_counts n b nul = ap (λ z. n + (if z then 1 else 0)) (sym (eq-eqb b 0 nul))

pub other_counts : (n b : ℕ) → b ≢ 0 → n ≡ n + (if b == 0 then 1 else 0)
other_counts n b other = sym (ap (λ z. n + (if z then 1 else 0)) (ne_eqb b 0 other) ∙ omega arith)

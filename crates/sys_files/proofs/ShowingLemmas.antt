-- What is shown of the bytes of a memory, one after another.
use Rattle.std.proofs.Common.{◌≡◌, ◌<◌, ◌≤◌, Option, Some, None, ℕ, zero, suc, Bool, true, false, List, [], ◌∷◌, ◌++◌, ◌+◌, ◌-◌, ◌%◌, length, take, nat_lt, Result, Ok, Err, refl, sym, ◌∙◌, ap, arith}
use Rattle.std.specs.Result.{is_ok}
use Rattle.std.proofs.Math.Seq.{take-append-add}
use Rattle.std.proofs.lemmas.Bool.{ltb-true, ltb-false, lt-ltb, le-ltb}
use Rattle.std.proofs.lemmas.List.{append-nil, length-append, take_all, take-append-le}
use Rattle.v6_base.specs.Image.{Image}
use Rattle.v6_base.specs.Access.{load_byte}
use Rattle.v6_base.specs.Copy.{load_bytes, in_front}
use Rattle.v6_base.proofs.Copies.{load_wraps}
use Rattle.v6_base.specs.declared.space.Trap.{Trap}
use Rattle.fs_tree.specs.Name.{read_then, readable}
use Rattle.tty_line.specs.Terminal.{Terminal}
use Rattle.tty_line.specs.Output.{after_shown, written}
use Rattle.tty_line.proofs.OutputLemmas.{written_few, written_parts, written_short}

-- An address after some others: the first of these, and then the others.
next_place : (at i : ℕ) → ((at + 1) % 65536 + i) % 65536 ≡ (at + suc i) % 65536
next_place at i = omega arith

-- Bytes of which the first can be read.
first_read : (r : Result ℕ Trap) (later : List ℕ) (n : ℕ) → length (read_then r later) ≡ suc n → (byte : ℕ) × (r ≡ Ok byte) × (length later ≡ n)
first_read (Ok byte) later n long = (byte, refl, omega (arith, long))
first_read (Err trap) later n long = absurd (omega (arith, long))

pub readable_none : (image : Image) (at : ℕ) → readable image at 0 ≡ []
unfolding readable
readable_none image at = refl

-- Bytes that can all be read, and then one that can be read.
pub readable_more : (image : Image) (at i byte : ℕ) → at < 65536 → length (readable image at i) ≡ i → Ok byte ≡ load_byte image ((at + i) % 65536)
    → readable image at (i + 1) ≡ readable image at i ++ byte ∷ []
unfolding readable
readable_more image at zero byte low long is =
    let here : (at + 0) % 65536 ≡ at = omega (arith, low) in
    ap (λ r. read_then r []) (sym (is ∙ ap (load_byte image) here))
readable_more image at (suc i) byte low long is =
    let next : ℕ = (at + 1) % 65536 in
    let first = first_read (load_byte image at) (readable image next i) i long in
    let later = readable_more image next i byte (omega arith) first.2 (is ∙ ap (load_byte image) (sym (next_place at i))) in
    let one : suc i + 1 ≡ suc (i + 1) = omega arith in
    ap (readable image at) one ∙ ap (λ r. read_then r (readable image next (i + 1))) first.1 ∙ ap (λ l. first.0 ∷ l) later
    ∙ ap (λ r. read_then r (readable image next i) ++ byte ∷ []) (sym first.1)

-- Bytes that can all be read, and then one that cannot be read.
pub readable_stops : (image : Image) (at i n : ℕ) (trap : Trap) → at < 65536 → length (readable image at i) ≡ i → i < n
    → Err trap ≡ load_byte image ((at + i) % 65536) → readable image at n ≡ readable image at i
unfolding readable
readable_stops image at i zero trap low long more is = absurd (omega (arith, more))
readable_stops image at zero (suc n) trap low long more is =
    let here : (at + 0) % 65536 ≡ at = omega (arith, low) in
    ap (λ r. read_then r (readable image ((at + 1) % 65536) n)) (sym (is ∙ ap (load_byte image) here))
readable_stops image at (suc i) (suc n) trap low long more is =
    let next : ℕ = (at + 1) % 65536 in
    let first = first_read (load_byte image at) (readable image next i) i long in
    ap (read_then (load_byte image at))
    (readable_stops image next i n trap (omega arith) first.2 (omega (arith, more)) (is ∙ ap (load_byte image) (sym (next_place at i))))

-- Bytes that can all be read, and then others.
pub readable_parts : (image : Image) (at i n : ℕ) → at < 65536 → length (readable image at i) ≡ i
    → readable image at (i + n) ≡ readable image at i ++ readable image ((at + i) % 65536) n
unfolding readable
readable_parts image at zero n low long =
    let none : 0 + n ≡ n = omega arith in
    let here : at ≡ (at + 0) % 65536 = omega (arith, low) in
    ap (readable image at) none ∙ ap (λ a. readable image a n) here
readable_parts image at (suc i) n low long =
    let next : ℕ = (at + 1) % 65536 in
    let more : suc i + n ≡ suc (i + n) = omega arith in
    let first = first_read (load_byte image at) (readable image next i) i long in
    ap (readable image at) more ∙ ap (λ r. read_then r (readable image next (i + n))) first.1
    ∙ ap (λ l. first.0 ∷ l) (readable_parts image next i n (omega arith) first.2)
    ∙ ap (λ a. first.0 ∷ readable image next i ++ readable image a n) (next_place at i)
    ∙ ap (λ r. read_then r (readable image next i) ++ readable image ((at + suc i) % 65536) n) (sym first.1)

-- Where not all of some bytes can be read, no more can be read of more.
short_by : (r : Result ℕ Trap) (some all : List ℕ) (n : ℕ) → length (read_then r some) < suc n → (length some < n → all ≡ some) → read_then r all ≡ read_then r some
short_by (Ok byte) some all n short same = ap (λ l. byte ∷ l) (same (omega (arith, short)))
short_by (Err trap) some all n short same = refl

pub readable_short : (image : Image) (at n k : ℕ) → length (readable image at n) < n → n ≤ k → readable image at k ≡ readable image at n
unfolding readable
readable_short image at zero k short few = absurd (omega (arith, short))
readable_short image at (suc n) zero short few = absurd (omega (arith, few))
readable_short image at (suc n) (suc k) short few =
    let next : ℕ = (at + 1) % 65536 in
    short_by (load_byte image at) (readable image next n) (readable image next k) n short (λ less. readable_short image next n k less (omega (arith, few)))

-- Bytes that can all be read, and then others that cannot all be read.
pub readable_ends : (image : Image) (at i n k : ℕ) → at < 65536 → length (readable image at i) ≡ i → i + n ≤ k → length (readable image ((at + i) % 65536) n) < n
    → readable image at k ≡ readable image at i ++ readable image ((at + i) % 65536) n
readable_ends image at i n k low long few short =
    let parts : k ≡ i + (k - i) = omega (arith, few) in
    ap (readable image at) parts ∙ readable_parts image at i (k - i) low long
    ∙ ap (λ l. readable image at i ++ l) (readable_short image ((at + i) % 65536) n (k - i) short (omega (arith, few)))

few_by : (r : Result ℕ Trap) (later : List ℕ) (n : ℕ) → length later ≤ n → length (read_then r later) ≤ suc n
few_by (Ok byte) later n few = omega (arith, few)
few_by (Err trap) later n few = omega arith

pub readable_few : (image : Image) (at n : ℕ) → length (readable image at n) ≤ n
unfolding readable
readable_few image at zero = omega arith
readable_few image at (suc n) = few_by (load_byte image at) (readable image ((at + 1) % 65536) n) n (readable_few image ((at + 1) % 65536) n)

-- Bytes that are loaded at once are those that can be read.
read_by : (r : Result ℕ Trap) (o : Option (List ℕ)) (bytes later : List ℕ) → in_front r o ≡ Some bytes → ((l : List ℕ) → o ≡ Some l → later ≡ l) → read_then r later ≡ bytes
read_by (Ok byte) (Some l) bytes later is same = ap (λ m. byte ∷ m) (same l refl) ∙ some_same is
  where
    some_same : Some (byte ∷ l) ≡ Some bytes → byte ∷ l ≡ bytes
    some_same e = cc
read_by (Ok byte) None bytes later is same = absurd (cc)
read_by (Err trap) o bytes later is same = absurd (cc)

pub loaded_readable : (image : Image) (at n : ℕ) (bytes : List ℕ) → at < 65536 → load_bytes image at n ≡ Some bytes → readable image at n ≡ bytes
unfolding readable
loaded_readable image at zero bytes low is = cc
loaded_readable image at (suc n) bytes low is =
    let next : ℕ = (at + 1) % 65536 in
    let flat : at % 65536 ≡ at = omega (arith, low) in
    read_by (load_byte image at) (load_bytes image (at + 1) n) bytes (readable image next n) (ap (λ a. in_front (load_byte image a) (load_bytes image (at + 1) n)) (sym flat) ∙ is)
    (λ l e. loaded_readable image next n l (omega arith) (load_wraps image next (at + 1) n (omega arith) ∙ e))

-- Of some bytes a front, and the others: there are none where not all of the front can be read.
pub readable_front : (image : Image) (at n k : ℕ) → at < 65536 → n ≤ k
    → (more : List ℕ) × (readable image at k ≡ readable image at n ++ more) × (length (readable image at n) < n → more ≡ [])
readable_front image at n k low few = by (nat_lt (length (readable image at n)) n) refl
  where
    by : (b : Bool) → nat_lt (length (readable image at n)) n ≡ b
        → (more : List ℕ) × (readable image at k ≡ readable image at n ++ more) × (length (readable image at n) < n → more ≡ [])
    by true short =
        let same = readable_short image at n k (ltb-true (length (readable image at n)) n short) few in
        ([], same ∙ sym (append-nil (readable image at n)), λ less. refl)
    by false long =
        let most = readable_few image at n in
        let least : n ≤ length (readable image at n) = ltb-false (length (readable image at n)) n long in
        let all : length (readable image at n) ≡ n = omega (arith, most, least) in
        let parts : k ≡ n + (k - n) = omega (arith, few) in (
          readable image ((at + n) % 65536) (k - n),
          ap (readable image at) parts ∙ readable_parts image at n (k - n) low all,
          λ less. absurd (omega (arith, less, all)),
        )

-- A byte after some that can all be read can be read where one more of them is.
pub readable_next : (image : Image) (at n k : ℕ) → at < 65536 → length (readable image at n) ≡ n → n < k
    → is_ok (load_byte image ((at + n) % 65536)) ≡ nat_lt n (length (readable image at k))
readable_next image at n k low whole more = by (load_byte image ((at + n) % 65536)) refl
  where
    by : (r : Result ℕ Trap) → r ≡ load_byte image ((at + n) % 65536) → is_ok r ≡ nat_lt n (length (readable image at k))
    by (Err trap) is =
        let stops = readable_stops image at n k trap low whole more is in
        let long : length (readable image at k) ≡ n = ap length stops ∙ whole in
        sym (le-ltb n (length (readable image at k)) (omega (arith, long)))
    by (Ok byte) is =
        let next = readable_more image at n byte low whole is in
        let one : length (readable image at (n + 1)) ≡ n + 1 = ap length next ∙ length-append (readable image at n) (byte ∷ []) ∙ ap (λ m. m + 1) whole in
        let front = readable_front image at (n + 1) k low (omega (arith, more)) in
        let long = ap length front.1 ∙ length-append (readable image at (n + 1)) front.0 in
        sym (lt-ltb n (length (readable image at k)) (omega (arith, long, one)))

-- A front of bytes that can be read can be read.
whole_by : (xs ys more : List ℕ) (n : ℕ) (b : Bool) → nat_lt (length xs) n ≡ b → length xs ≤ n → n ≤ length ys → ys ≡ xs ++ more → (length xs < n → more ≡ [])
    → length xs ≡ n
whole_by xs ys more n true short few long is stops =
    let less = ltb-true (length xs) n short in
    let none = ap length (stops less) in
    let all = ap length is ∙ length-append xs more in
    absurd (omega (arith, less, none, all, long))
whole_by xs ys more n false least few long is stops = let most = ltb-false (length xs) n least in omega (arith, few, most)

pub readable_whole : (image : Image) (at n k : ℕ) → at < 65536 → n ≤ length (readable image at k) → length (readable image at n) ≡ n
readable_whole image at n k low long =
    let few = readable_few image at k in
    let front = readable_front image at n k low (omega (arith, long, few)) in
    whole_by (readable image at n) (readable image at k) front.0 n (nat_lt (length (readable image at n)) n) refl (readable_few image at n) long front.1 front.2

-- So many bytes from an address on can be read, and a line has taken them.
pub record AreTaken (t : Terminal) (image : Image) (at n : ℕ) : Type 0 where
  pub whole : length (readable image at n) ≡ n
  pub all : written t (readable image at n) ≡ n

pub taken_none : (t : Terminal) (image : Image) (at : ℕ) → AreTaken t image at 0
taken_none t image at =
    let none = readable_none image at in
    record { whole = ap length none; all = ap (written t) none }

pub taken_all : (t : Terminal) (image : Image) (at n : ℕ) → AreTaken t image at n → take n (readable image at n) ≡ readable image at n
taken_all t image at n are = take_all n (readable image at n) (let whole = are.whole in omega (arith, whole))

module _ (t : Terminal) (image : Image) (at n most : ℕ) (low : at < 65536) (are : AreTaken t image at n) where
  abbrev read : List ℕ
  read = readable image at n

  abbrev piece : List ℕ
  piece = readable image ((at + n) % 65536) most

  abbrev taken : ℕ
  taken = written (after_shown t read) piece

  taken_few : taken ≤ length piece
  taken_few = written_few (after_shown t read) piece

  piece_few : length piece ≤ most
  piece_few = readable_few image ((at + n) % 65536) most

  pub taken_parts : readable image at (n + most) ≡ read ++ piece
  taken_parts = readable_parts image at n most low are.whole

  -- a piece that is taken whole
  pub taken_piece : most ≤ taken → take taken piece ≡ piece
  taken_piece all = let less = piece_few in take_all taken piece (omega (arith, less, all))

  pub taken_more : most ≤ taken → AreTaken t image at (n + most)
  taken_more all =
      let few = taken_few in
      let less = piece_few in
      let whole = are.whole in
      record {
        whole = ap length taken_parts ∙ length-append read piece ∙ omega (arith, whole, few, less, all);
        all = ap (written t) taken_parts ∙ written_parts t read piece (are.all ∙ sym are.whole) ∙ omega (arith, whole, few, less, all);
      }

  -- and one that isn't: no byte after it is taken
  module _ (k : ℕ) (few : n + most ≤ k) (less : taken < most) where
    front : (more : List ℕ) × (readable image ((at + n) % 65536) (k - n) ≡ piece ++ more) × (length piece < most → more ≡ [])
    front = readable_front image ((at + n) % 65536) most (k - n) (omega arith) (omega (arith, few))

    all : readable image at k ≡ read ++ (piece ++ front.0)
    all =
        let count : k ≡ n + (k - n) = omega (arith, few) in
        ap (readable image at) count ∙ readable_parts image at n (k - n) low are.whole ∙ ap (λ l. read ++ l) front.1

    one : written (after_shown t read) (piece ++ front.0) ≡ taken
    one = by (nat_lt taken (length piece)) refl
      where
        by : (b : Bool) → nat_lt taken (length piece) ≡ b → written (after_shown t read) (piece ++ front.0) ≡ taken
        by true short = written_short (after_shown t read) piece front.0 (ltb-true taken (length piece) short)
        by false long =
            let least = ltb-false taken (length piece) long in
            let most = taken_few in
            let none : front.0 ≡ [] = front.2 (omega (arith, least, less)) in
            ap (λ l. written (after_shown t read) (piece ++ l)) none ∙ ap (written (after_shown t read)) (append-nil piece)

    pub taken_stops : written t (readable image at k) ≡ n + taken
    taken_stops =
        ap (written t) all ∙ written_parts t read (piece ++ front.0) (are.all ∙ sym are.whole) ∙ (λ i. are.whole i + one i)

    pub taken_front : take (n + taken) (readable image at k) ≡ read ++ take taken piece
    taken_front =
        ap (take (n + taken)) all ∙ ap (λ m. take (m + taken) (read ++ (piece ++ front.0))) (sym are.whole)
        ∙ take-append-add read (piece ++ front.0) taken
        ∙ ap (λ l. read ++ l) (take-append-le taken piece front.0 taken_few)

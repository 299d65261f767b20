-- What is shown of bytes one after another.
use Rattle.std.proofs.Common.{◌≡◌, ◌<◌, ◌≤◌, ℕ, suc, Bool, true, false, cond, Option, Some, None, List, [], ◌∷◌, ◌++◌, ◌+◌, ◌-◌, ◌%◌, ◌&&◌, length, take, drop, get_or, refl, sym, ◌∙◌, ap, append_assoc, replicate, nat_lt, nat_le, arith, length-append}
use Rattle.std.proofs.lemmas.Bool.{lt-ltb, le-ltb, ltb-false}
use Rattle.std.proofs.lemmas.List.{replicate-append-replicate, append-nil, length-replicate, take_more, drop_more}
use Rattle.std.proofs.lemmas.List.Sums.{fold-append}
use Rattle.tty_line.specs.Terminal.{Terminal, flags}
use Rattle.tty_line.specs.Output.{escaped, in_capitals, column_after, column_after_all, shown_byte, shown_bytes, forms, shows, after_shown, is_stopped, written}

pub replicate_more : (n x : ℕ) → replicate n x ++ x ∷ [] ≡ replicate (n + 1) x
replicate_more n x = replicate-append-replicate n 1 x

pub column_after_all-append : (column : ℕ) (xs ys : List ℕ)
    → column_after_all column (xs ++ ys) ≡ column_after_all (column_after_all column xs) ys
column_after_all-append column xs ys = fold-append column_after column xs ys

pub shown_bytes-append : (word column : ℕ) (xs ys : List ℕ)
    → shown_bytes word column (xs ++ ys)
    ≡ shown_bytes word column xs ++ shown_bytes word (column_after_all column (shown_bytes word column xs)) ys
shown_bytes-append word column [] ys = refl
shown_bytes-append word column (x ∷ xs) ys =
    let first : List ℕ = shown_byte word column x in
    let at : ℕ = column_after_all column first in
    ap (λ l. first ++ l) (shown_bytes-append word at xs ys)
    ∙ ap (λ k. first ++ (shown_bytes word at xs ++ shown_bytes word k ys))
    (sym (column_after_all-append column first (shown_bytes word at xs)))
    ∙ sym (append_assoc first (shown_bytes word at xs)
    (shown_bytes word (column_after_all column (first ++ shown_bytes word at xs)) ys))

-- one byte more
pub shown_bytes_then : (word column : ℕ) (xs : List ℕ) (x : ℕ)
    → shown_bytes word column (xs ++ x ∷ [])
    ≡ shown_bytes word column xs ++ shown_byte word (column_after_all column (shown_bytes word column xs)) x
shown_bytes_then word column xs x =
    shown_bytes-append word column xs (x ∷ [])
    ∙ ap (λ l. shown_bytes word column xs ++ l)
    (append-nil (shown_byte word (column_after_all column (shown_bytes word column xs)) x))

-- What a byte becomes that is shown are at most 8.
few_in_capitals : (o : Option ℕ) (byte : ℕ) → length (in_capitals o byte) ≤ 8
few_in_capitals (Some mark) byte = omega arith
few_in_capitals None byte = by (nat_le 0o141 byte && nat_le byte 0o172) where
  by : (small : Bool) → length {A = ℕ} (cond small ((byte - 0o040) ∷ []) (byte ∷ [])) ≤ 8
  by true = omega arith
  by false = omega arith

few_letters : (byte : ℕ) (capitals : Bool)
    → length {A = ℕ} (cond capitals (in_capitals (escaped byte) byte) (byte ∷ [])) ≤ 8
few_letters byte true = few_in_capitals (escaped byte) byte
few_letters byte false = omega arith

few_by : (column byte : ℕ) (quiet tab line capitals : Bool)
    → length {A = ℕ} (cond quiet [] (cond tab (replicate (8 - column % 8) 0o040) (cond line (0o015 ∷ 0o012 ∷ [])
    (cond capitals (in_capitals (escaped byte) byte) (byte ∷ []))))) ≤ 8
few_by column byte true tab line capitals = omega arith
few_by column byte false true line capitals =
    let spaces : List ℕ = replicate (8 - column % 8) 0o040 in
    let long : length spaces ≡ 8 - column % 8 = length-replicate (8 - column % 8) 0o040 in
    omega (arith, long)
few_by column byte false false true capitals = omega arith
few_by column byte false false false capitals = few_letters byte capitals

pub few_shown : (word column byte : ℕ) → length (shown_byte word column byte) ≤ 8
few_shown word column byte = few_by column (byte % 128) _ _ _ _

-- What is shown of bytes in two parts, one after the other: where they wait, they wait one after the other.
pub after_shown-append : (t : Terminal) (xs ys : List ℕ) → after_shown (after_shown t xs) ys ≡ after_shown t (xs ++ ys)
after_shown-append t xs ys = after_by t.is_paced where
  bytes : forms t xs ++ forms (after_shown t xs) ys ≡ forms t (xs ++ ys)
  bytes = sym (shown_bytes-append (flags t) t.column xs ys)

  column : column_after_all (column_after_all t.column (forms t xs)) (forms (after_shown t xs) ys)
      ≡ column_after_all t.column (forms t (xs ++ ys))
  column = sym (column_after_all-append t.column (forms t xs) (forms (after_shown t xs) ys)) ∙ ap (column_after_all t.column) bytes

  with_parts : ℕ → List ℕ → Terminal
  with_parts column output = record t { column = column; output = output }

  after_by : (b : Bool) →
      with_parts (column_after_all (column_after_all t.column (forms t xs)) (forms (after_shown t xs) ys))
      (cond b (cond b (t.output ++ forms t xs) t.output ++ forms (after_shown t xs) ys) (cond b (t.output ++ forms t xs) t.output))
      ≡ with_parts (column_after_all t.column (forms t (xs ++ ys))) (cond b (t.output ++ forms t (xs ++ ys)) t.output)
  after_by true = ap (λ k. with_parts k ((t.output ++ forms t xs) ++ forms (after_shown t xs) ys)) column
      ∙ ap (with_parts (column_after_all t.column (forms t (xs ++ ys))))
      (append_assoc t.output (forms t xs) (forms (after_shown t xs) ys) ∙ ap (λ l. t.output ++ l) bytes)
  after_by false = ap (λ k. with_parts k t.output) column

-- without a pace a write takes all
pub written-all : (t : Terminal) (bytes : List ℕ) → t.is_paced ≡ false → written t bytes ≡ length bytes
written-all t [] is = refl
written-all t (byte ∷ bytes) is =
    ap (λ b. cond (b && nat_lt 50 (length t.output)) 0 (suc (written (after_shown t (byte ∷ [])) bytes))) is
    ∙ ap suc (written-all (after_shown t (byte ∷ [])) bytes is)

-- what a write takes of all, after some that it took
pub written_more : (t : Terminal) (bytes : List ℕ) (i : ℕ) → i < length bytes
    → written t bytes ≡ i + written (after_shown t (take i bytes)) (drop i bytes)
    → is_stopped (after_shown t (take i bytes)) ≡ false
    → written t bytes ≡ (i + 1) + written (after_shown t (take (i + 1) bytes)) (drop (i + 1) bytes)
written_more t bytes i within so_far goes =
    let byte : ℕ = get_or bytes i 0 in
    let now : Terminal = after_shown t (take i bytes) in
    let rest : List ℕ = drop (i + 1) bytes in
    let front : drop i bytes ≡ byte ∷ rest = drop_more bytes i 0 within in
    let next : after_shown now (byte ∷ []) ≡ after_shown t (take (i + 1) bytes) =
    after_shown-append t (take i bytes) (byte ∷ []) ∙ ap (after_shown t) (sym (take_more bytes i 0 within)) in
    let one : written now (byte ∷ rest) ≡ suc (written (after_shown now (byte ∷ [])) rest) =
    ap (λ b. cond b 0 (suc (written (after_shown now (byte ∷ [])) rest))) goes in
    let all = so_far ∙ ap (λ l. i + written now l) front ∙ ap (λ n. i + n) (one ∙ ap (λ u. suc (written u rest)) next) in
    omega (arith, all)

-- with a pace nothing is shown at once
pub shows_nothing : (t : Terminal) (bytes : List ℕ) → t.is_paced ≡ true → shows t bytes ≡ []
shows_nothing t bytes is = ap (λ (b : Bool). cond b [] (forms t bytes)) is

pub stopped : (t : Terminal) → t.is_paced ≡ true → 50 < length t.output → is_stopped t ≡ true
stopped t is more = ap (λ b. b && nat_lt 50 (length t.output)) is ∙ lt-ltb 50 (length t.output) more

pub not_stopped : (t : Terminal) → t.is_paced ≡ true → length t.output ≤ 50 → is_stopped t ≡ false
not_stopped t is few = ap (λ b. b && nat_lt 50 (length t.output)) is ∙ le-ltb 50 (length t.output) few

pub written_stopped : (t : Terminal) (bytes : List ℕ) → is_stopped t ≡ true → written t bytes ≡ 0
written_stopped t [] is = refl
written_stopped t (byte ∷ bytes) is = ap (λ b. cond b 0 (suc (written (after_shown t (byte ∷ [])) bytes))) is

-- nothing is shown, and the terminal stays
pub after_nothing : (t : Terminal) → after_shown t [] ≡ t
after_nothing t = by t.is_paced where
  by : (b : Bool) → ◌≡◌ {A = Terminal} (record t { column = t.column; output = cond b (t.output ++ []) t.output }) t
  by true = ap (λ bytes. record t { output = bytes }) (append-nil t.output)
  by false = refl

few_by_one : (b : Bool) (n k : ℕ) → n ≤ k → cond b 0 (suc n) ≤ suc k
few_by_one true n k few = omega arith
few_by_one false n k few = omega (arith, few)

pub written_few : (t : Terminal) (xs : List ℕ) → written t xs ≤ length xs
written_few t [] = omega arith
written_few t (x ∷ xs) = few_by_one (is_stopped t) (written (after_shown t (x ∷ [])) xs) (length xs) (written_few (after_shown t (x ∷ [])) xs)

-- What a write takes of bytes in two parts, of which it takes the first whole.
pub written_parts : (t : Terminal) (xs ys : List ℕ) → written t xs ≡ length xs
    → written t (xs ++ ys) ≡ length xs + written (after_shown t xs) ys
written_parts t [] ys all = let same = ap (λ (u : Terminal). written u ys) (after_nothing t) in omega (arith, same)
written_parts t (x ∷ xs) ys all = by (is_stopped t) refl (written_parts (after_shown t (x ∷ [])) xs ys) where
  next : Terminal
  next = after_shown t (x ∷ [])

  by : (b : Bool) → is_stopped t ≡ b
      → (written next xs ≡ length xs → written next (xs ++ ys) ≡ length xs + written (after_shown next xs) ys)
      → written t (x ∷ xs ++ ys) ≡ suc (length xs) + written (after_shown t (x ∷ xs)) ys
  by true is later =
      let none : written t (x ∷ xs) ≡ 0 = ap (λ b. cond b 0 (suc (written next xs))) is in
      absurd (omega (arith, none, all))
  by false is later =
      let goes : written t (x ∷ xs) ≡ suc (written next xs) = ap (λ b. cond b 0 (suc (written next xs))) is in
      let rest : written next (xs ++ ys) ≡ length xs + written (after_shown t (x ∷ xs)) ys =
      later (omega (arith, goes, all)) ∙ ap (λ (u : Terminal). length xs + written u ys) (after_shown-append t (x ∷ []) xs) in
      let one : written t (x ∷ xs ++ ys) ≡ suc (written next (xs ++ ys)) = ap (λ b. cond b 0 (suc (written next (xs ++ ys)))) is in
      omega (arith, rest, one)

-- Where it stops in the first it takes none of the second.
pub written_short : (t : Terminal) (xs ys : List ℕ) → written t xs < length xs → written t (xs ++ ys) ≡ written t xs
written_short t [] ys less = absurd (omega (arith, less))
written_short t (x ∷ xs) ys less = by (is_stopped t) refl (written_short (after_shown t (x ∷ [])) xs ys) where
  next : Terminal
  next = after_shown t (x ∷ [])

  by : (b : Bool) → is_stopped t ≡ b → (written next xs < length xs → written next (xs ++ ys) ≡ written next xs)
      → written t (x ∷ xs ++ ys) ≡ written t (x ∷ xs)
  by true is later = ap (λ b. cond b 0 (suc (written next (xs ++ ys)))) is ∙ sym (ap (λ b. cond b 0 (suc (written next xs))) is)
  by false is later =
      let goes : written t (x ∷ xs) ≡ suc (written next xs) = ap (λ b. cond b 0 (suc (written next xs))) is in
      ap (λ b. cond b 0 (suc (written next (xs ++ ys)))) is ∙ ap suc (later (omega (arith, goes, less))) ∙ sym goes

-- What is shown of bytes in two parts.
pub shows-append : (t : Terminal) (xs ys : List ℕ) → shows t xs ++ shows (after_shown t xs) ys ≡ shows t (xs ++ ys)
shows-append t xs ys = by t.is_paced where
  by : (b : Bool) → cond b [] (forms t xs) ++ cond b [] (forms (after_shown t xs) ys) ≡ cond b [] (forms t (xs ++ ys))
  by true = refl
  by false = sym (shown_bytes-append (flags t) t.column xs ys)

pub shows_none : (t : Terminal) → shows t [] ≡ []
shows_none t = by t.is_paced where
  by : (b : Bool) → cond {A = List ℕ} b [] [] ≡ []
  by true = refl
  by false = refl

-- A write lets no more bytes wait than there is room for.
pub room_nothing : (t : Terminal) → length t.output ≤ 1008 → length (after_shown t []).output ≤ 1008
room_nothing t room = let same = ap (λ (u : Terminal). length u.output) (after_nothing t) in omega (arith, same, room)

-- one byte becomes at most 8
pub few_forms : (t : Terminal) (x : ℕ) → length (forms t (x ∷ [])) ≤ 8
few_forms t x =
    let few = few_shown (flags t) t.column x in
    let long = ap (length {A = ℕ}) (append-nil (shown_byte (flags t) t.column x)) in omega (arith, few, long)

room_one : (t : Terminal) (x : ℕ) → is_stopped t ≡ false → length t.output ≤ 1008 → length (after_shown t (x ∷ [])).output ≤ 1008
room_one t x goes room = by t.is_paced refl where
  by : (b : Bool) → t.is_paced ≡ b → length {A = ℕ} (cond b (t.output ++ forms t (x ∷ [])) t.output) ≤ 1008
  by true is =
      let few : length t.output ≤ 50 = ltb-false 50 (length t.output) (sym (ap (λ b. b && nat_lt 50 (length t.output)) is) ∙ goes) in
      let long = length-append t.output (forms t (x ∷ [])) in
      let most = few_forms t x in
      omega (arith, few, long, most)
  by false is = room

pub room_written : (t : Terminal) (bytes : List ℕ) → length t.output ≤ 1008 → length (after_shown t (take (written t bytes) bytes)).output ≤ 1008
room_written t [] room = room_nothing t room
room_written t (x ∷ xs) room = by (is_stopped t) refl (room_written (after_shown t (x ∷ [])) xs) where
  next : Terminal
  next = after_shown t (x ∷ [])

  by : (b : Bool) → is_stopped t ≡ b → (length next.output ≤ 1008 → length (after_shown next (take (written next xs) xs)).output ≤ 1008)
      → length (after_shown t (take (cond b 0 (suc (written next xs))) (x ∷ xs))).output ≤ 1008
  by true is later = room_nothing t room
  by false is later =
      let same = ap (λ (u : Terminal). length u.output) (after_shown-append t (x ∷ []) (take (written next xs) xs)) in
      let rest = later (room_one t x is room) in
      omega (arith, same, rest)

-- What a word of an instruction says of its fields.
use Rattle.std.proofs.Common.{◌≡◌, ℕ, List, [], ◌∷◌, ◌++◌, length, get_or, nat_lt, Bool, true, false, ◌+◌, ◌*◌, ◌/◌, ◌%◌, ◌<◌, sym, ap, ◌∙◌, refl, arith, subst}
use Rattle.std.proofs.lemmas.Bool.{ltb-true, ltb-false}
use Rattle.std.proofs.lemmas.List.{length-append, get_or_append_left, get_or_push}
use Rattle.pdp_decode.specs.declared.handler.Handler.{Handler}
use Rattle.pdp_decode.specs.declared.handler.Handler.TheVariants.{Other}
use Rattle.pdp_decode.specs.declared.instr.Width.{Width}
use Rattle.pdp_decode.specs.declared.instr.Width.TheVariants.{Word, Byte}
use Rattle.pdp_decode.specs.declared.instr.Reg.{Reg}
use Rattle.pdp_decode.specs.declared.instr.Operand.{Operand}
use Rattle.pdp_decode.specs.declared.instr.Flags.{Flags}
use Rattle.pdp_decode.specs.declared.instr.Instr.{Instr}
use Rattle.pdp_decode.specs.declared.instr.Instr.TheVariants.{Sob, Rts, Branch, Codes}
use Rattle.pdp_decode.specs.declared.instr.Condition.{Condition}
use Rattle.pdp_decode.specs.declared.instr.Condition.TheVariants.{Always, NotEqual, Equal, GreaterOrEqual, Less, Greater, LessOrEqual, Plus, Minus, Higher, LowerOrSame, OverflowClear, OverflowSet, CarryClear, CarrySet}
use Rattle.pdp_decode.specs.declared.addressing.Addressing.{Addressing}
use Rattle.pdp_decode.specs.Numbers.{byte_bit, reg_code, code, one_if, flag_bits, branch_code}
use Rattle.pdp_decode.specs.Decode.{reg_of, operand_of, flags_of, decode_of}
use Rattle.pdp_decode.specs.Handlers.{IsAddressed, IsDouble, IsSingle, IsExtended, IsHandlerOf, IsDispatch}
use Rattle.pdp_decode.proofs.Alone.{operand_back, reg_back, reg_small, code_small}

-- a word ends in the codes of its source and its destination
double_at : (w : Width) (make : Operand → Operand → Instr) (s d : Operand) (a b : Addressing) (n k : ℕ) → n ≡ 0o10000 * k + 0o100 * code s + code d → decode_of n ≡ make s d → IsAddressed a w s → IsAddressed b w d → IsDouble n w make a b
double_at w make s d a b n k word is source dest =
    let small = code_small d in
    let high : n / 0o100 ≡ 0o100 * k + code s = omega (arith, word, small) in
    let low : n ≡ 0o100 * (0o100 * k + code s) + code d = omega (arith, word) in
    let first : s ≡ operand_of (n / 0o100) = sym (operand_back s (n / 0o100) k high) in
    let second : d ≡ operand_of n = sym (operand_back d n (0o100 * k + code s) low) in
    record {
      is = is ∙ (ap (λ (x : Operand). make x d) first ∙ ap (λ (x : Operand). make (operand_of (n / 0o100)) x) second);
      source = subst (λ (x : Operand). IsAddressed a w x) first source;
      dest = subst (λ (x : Operand). IsAddressed b w x) second dest;
    }

pub double_by : (w : Width) (make : Operand → Operand → Instr) (s d : Operand) (a b : Addressing) (n k : ℕ) → n ≡ byte_bit w + 0o10000 * k + 0o100 * code s + code d → decode_of n ≡ make s d → IsAddressed a w s → IsAddressed b w d → IsDouble n w make a b
double_by Word make s d a b n k word is source dest = double_at Word make s d a b n k (omega (arith, word)) is source dest
double_by Byte make s d a b n k word is source dest = double_at Byte make s d a b n (k + 0o10) (omega (arith, word)) is source dest

single_at : (w : Width) (make : Operand → Instr) (d : Operand) (a : Addressing) (n k : ℕ) → n ≡ 0o100 * k + code d → decode_of n ≡ make d → IsAddressed a w d → IsSingle n w make a
single_at w make d a n k word is dest =
    let second : d ≡ operand_of n = sym (operand_back d n k word) in
    record {
      is = is ∙ ap make second;
      dest = subst (λ (x : Operand). IsAddressed a w x) second dest;
    }

pub single_by : (w : Width) (make : Operand → Instr) (d : Operand) (a : Addressing) (n k : ℕ) → n ≡ byte_bit w + 0o100 * k + code d → decode_of n ≡ make d → IsAddressed a w d → IsSingle n w make a
single_by Word make d a n k word is dest = single_at Word make d a n k (omega (arith, word)) is dest
single_by Byte make d a n k word is dest = single_at Byte make d a n (k + 0o1000) (omega (arith, word)) is dest

pub register_by : (r : Reg) (n k : ℕ) → n ≡ 0o10 * k + reg_code r → r ≡ reg_of (n % 0o10)
register_by r n k word =
    let small = reg_small r in
    let e : n % 0o10 ≡ reg_code r = omega (arith, word, small) in
    sym (ap reg_of e ∙ reg_back r)

pub extended_by : (make : Reg → Operand → Instr) (r : Reg) (o : Operand) (a : Addressing) (n k : ℕ) → n ≡ 0o1000 * k + 0o100 * reg_code r + code o → decode_of n ≡ make r o → IsAddressed a Word o → IsExtended n make a
extended_by make r o a n k word is operand =
    let small = code_small o in
    let high : n / 0o100 ≡ 0o10 * k + reg_code r = omega (arith, word, small) in
    let low : n ≡ 0o100 * (0o10 * k + reg_code r) + code o = omega (arith, word) in
    let first : r ≡ reg_of (n / 0o100 % 0o10) = register_by r (n / 0o100) k high in
    let second : o ≡ operand_of n = sym (operand_back o n (0o10 * k + reg_code r) low) in
    record {
      is = is ∙ (ap (λ (x : Reg). make x o) first ∙ ap (λ (x : Operand). make (reg_of (n / 0o100 % 0o10)) x) second);
      operand = subst (λ (x : Operand). IsAddressed a Word x) second operand;
    }

pub register_of : (r : Reg) (o : Operand) (n k : ℕ) → n ≡ 0o1000 * k + 0o100 * reg_code r + code o → r ≡ reg_of (n / 0o100 % 0o10)
register_of r o n k word =
    let small = code_small o in
    let high : n / 0o100 ≡ 0o10 * k + reg_code r = omega (arith, word, small) in
    register_by r (n / 0o100) k high

pub count_by : (r : Reg) (m n : ℕ) → n ≡ 0o077000 + 0o100 * reg_code r + m → m < 0o100 → decode_of n ≡ Sob r m → decode_of n ≡ Sob (reg_of (n / 0o100 % 0o10)) (n % 0o100)
count_by r m n word few is =
    let high : n / 0o100 ≡ 0o10 * 0o77 + reg_code r = omega (arith, word, few) in
    let first : r ≡ reg_of (n / 0o100 % 0o10) = register_by r (n / 0o100) 0o77 high in
    let second : m ≡ n % 0o100 = omega (arith, word, few) in
    is ∙ (ap (λ (x : Reg). Sob x m) first ∙ ap (λ (x : ℕ). Sob (reg_of (n / 0o100 % 0o10)) x) second)

pub return_by : (r : Reg) (n : ℕ) → n ≡ 0o000200 + reg_code r → decode_of n ≡ Rts r → decode_of n ≡ Rts (reg_of (n % 0o10))
return_by r n word is =
    let low : n ≡ 0o10 * 0o20 + reg_code r = omega (arith, word) in
    is ∙ ap Rts (register_by r n 0o20 low)

flags_back : (set n z v c : Bool) (word : ℕ) → word ≡ 0o000240 + 0o20 * one_if set + flag_bits (record { n = n; z = z; v = v; c = c }) → flags_of word ≡ record { n = n; z = z; v = v; c = c }
unfolding flags_of
flags_back true true true true true word is = rw is refl
flags_back true true true true false word is = rw is refl
flags_back true true true false true word is = rw is refl
flags_back true true true false false word is = rw is refl
flags_back true true false true true word is = rw is refl
flags_back true true false true false word is = rw is refl
flags_back true true false false true word is = rw is refl
flags_back true true false false false word is = rw is refl
flags_back true false true true true word is = rw is refl
flags_back true false true true false word is = rw is refl
flags_back true false true false true word is = rw is refl
flags_back true false true false false word is = rw is refl
flags_back true false false true true word is = rw is refl
flags_back true false false true false word is = rw is refl
flags_back true false false false true word is = rw is refl
flags_back true false false false false word is = rw is refl
flags_back false true true true true word is = rw is refl
flags_back false true true true false word is = rw is refl
flags_back false true true false true word is = rw is refl
flags_back false true true false false word is = rw is refl
flags_back false true false true true word is = rw is refl
flags_back false true false true false word is = rw is refl
flags_back false true false false true word is = rw is refl
flags_back false true false false false word is = rw is refl
flags_back false false true true true word is = rw is refl
flags_back false false true true false word is = rw is refl
flags_back false false true false true word is = rw is refl
flags_back false false true false false word is = rw is refl
flags_back false false false true true word is = rw is refl
flags_back false false false true false word is = rw is refl
flags_back false false false false true word is = rw is refl
flags_back false false false false false word is = rw is refl

pub codes_by : (set : Bool) (f : Flags) (n : ℕ) → n ≡ 0o000240 + 0o20 * one_if set + flag_bits f → decode_of n ≡ Codes set f → decode_of n ≡ Codes set (flags_of n)
codes_by set f n word is = is ∙ ap (λ (x : Flags). Codes set x) (sym (flags_back set f.n f.z f.v f.c n word))

code_even : (t : Condition) → branch_code t % 0o400 ≡ 0
code_even Always = refl
code_even NotEqual = refl
code_even Equal = refl
code_even GreaterOrEqual = refl
code_even Less = refl
code_even Greater = refl
code_even LessOrEqual = refl
code_even Plus = refl
code_even Minus = refl
code_even Higher = refl
code_even LowerOrSame = refl
code_even OverflowClear = refl
code_even OverflowSet = refl
code_even CarryClear = refl
code_even CarrySet = refl

pub branch_by : (t : Condition) (m n : ℕ) → n ≡ branch_code t + m → m < 0o400 → decode_of n ≡ Branch t m → decode_of n ≡ Branch t (n % 0o400)
branch_by t m n word few is =
    let even = code_even t in
    let e : m ≡ n % 0o400 = omega (arith, word, few, even) in
    is ∙ ap (λ (x : ℕ). Branch t x) e

-- one entry more
pub pushed : (xs : List Handler) (h : Handler) (k : ℕ) → length xs ≡ k → ((n : ℕ) → n < k → IsHandlerOf (get_or xs n Other) n) → IsHandlerOf h k → (n : ℕ) → n < k + 1 → IsHandlerOf (get_or (xs ++ h ∷ []) n Other) n
pushed xs h k is before new n within = by (nat_lt n k) refl
  where
    by : (b : Bool) → nat_lt n k ≡ b → IsHandlerOf (get_or (xs ++ h ∷ []) n Other) n
    by true e =
        let low = ltb-true n k e in
        let inside : n < length xs = omega (arith, low, is) in
        subst (λ (x : Handler). IsHandlerOf x n) (sym (get_or_append_left xs (h ∷ []) Other n inside)) (before n low)
    by false e =
        let high = ltb-false n k e in
        let last : n ≡ k = omega (arith, high, within) in
        let seat : length xs ≡ n = omega (arith, last, is) in
        subst (λ (x : Handler). IsHandlerOf x n) (sym (get_or_push xs h Other n seat)) (subst (λ (j : ℕ). IsHandlerOf h j) (sym last) new)

pub filled : (xs : List Handler) (h : Handler) (k : ℕ) → k ≡ 65535 → length xs ≡ k → ((n : ℕ) → n < k → IsHandlerOf (get_or xs n Other) n) → IsHandlerOf h 65535 → IsDispatch (xs ++ h ∷ [])
filled xs h k last is before new =
    let more = length-append xs (h ∷ []) in
    let all = pushed xs h k is before (subst (λ (j : ℕ). IsHandlerOf h j) (sym last) new) in
    record {
      size = omega (arith, more, is, last);
      each = λ n within. (all n (omega (arith, within, last))).handles;
      known = λ n within. (all n (omega (arith, within, last))).known;
    }

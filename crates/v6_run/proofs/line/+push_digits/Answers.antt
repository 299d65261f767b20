use Rattle.std.proofs.Common.{◌≡◌, ℕ, ◌+◌, ◌^◌, ◌<◌, ◌≤◌, ◌++◌, ◌/◌, ◌%◌, ◌∙◌, List, [], ◌∷◌, sym, ap, length, decimal, append_assoc, length-append, arith}
use Rattle.std.proofs.lemmas.Fmt.{decimal_step, decimal_digit}
use Rattle.v6_run.proofs.line.+push_digits.Goals as goal

-- a number of two digits or more has one digit more than its tenth
length-decimal-step : (n : ℕ) → 10 ≤ n → n < 2 ^ 64 → length (decimal n) ≡ length (decimal (n / 10)) + 1
length-decimal-step n more small = ap length (decimal_step n more small) ∙ length-append (decimal (n / 10)) ((48 + n % 10) ∷ [])

last_digit : (old middle new : List ℕ) (n : ℕ) → 10 ≤ n → n < 2 ^ 64 → middle ≡ old ++ decimal (n / 10) → new ≡ middle ++ (48 + n % 10) ∷ [] → new ≡ old ++ decimal n
last_digit old middle new n more small first last =
    last ∙ ap (λ l. l ++ (48 + n % 10) ∷ []) first ∙ append_assoc old (decimal (n / 10)) ((48 + n % 10) ∷ []) ∙ ap (λ l. old ++ l) (sym (decimal_step n more small))

pub push_digits-requires : goal.push_digits-requires
push_digits-requires t c =
    (omega (arith, c.decreases), omega (arith, length-decimal-step c.args.number c.if-number-lt10.false (omega arith), c.requires))

pub push_digit-requires : goal.push_digit-requires
push_digit-requires t c = record {
  digit = c.if-number-lt10.true;
  room = omega (arith, c.requires, ap length (decimal_digit c.args.number c.if-number-lt10.true));
}

pub push_digit-requires-else-number-lt10-clause-room : goal.push_digit-requires-else-number-lt10-clause-room
push_digit-requires-else-number-lt10-clause-room t c =
    omega (arith, c.requires, length-decimal-step c.args.number c.if-number-lt10.false (omega arith), ap length c.push_digits.ensures, length-append c.args.line.now.bytes (decimal (c.args.number / 10)))

pub returns-then-number-lt10 : goal.returns-then-number-lt10
returns-then-number-lt10 t c = c.push_digit.ensures ∙ ap (λ l. c.args.line.now.bytes ++ l) (sym (decimal_digit c.args.number c.if-number-lt10.true))

pub returns-else-number-lt10 : goal.returns-else-number-lt10
returns-else-number-lt10 t c = last_digit _ _ _ c.args.number c.if-number-lt10.false (omega arith) c.push_digits.ensures c.push_digit-else-number-lt10.ensures

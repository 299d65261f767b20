-- The choice as a function and in words is the same.
use Rattle.std.proofs.Common.{◌≡◌, ◌∙◌, inl, inr, ℕ, ◌<◌, Bool, true, false, Option, Some, None, refl, sym, ap, subst, arith}
use Rattle.std.proofs.lemmas.Int.{ints}
use Rattle.pick_rules.specs.declared.table.Table.{Table}
use Rattle.pick_rules.specs.Choice.{chosen, distance, GoesFirst, IsChoice}
use Rattle.pick_rules.proofs.ChoiceLemmas.{slot_after, all_round, is_choice, back}

-- the function has what the words say
pub chosen_is_choice : (t : Table) → t.last < 50 → IsChoice t (chosen t)
chosen_is_choice t h = subst (IsChoice t) (all_round t) (is_choice t h)

true_false : (b : Bool) → b ≡ true → b ≡ false → ⊥
true_false b t f = cc (t, f)

-- of two slots that go before each other, the distance is one
same_distance : (t : Table) (s r : ℕ) → GoesFirst t s r → GoesFirst t r s → distance t.last s ≡ distance t.last r
same_distance t s r (inl a) (inl b) = absurd (omega (arith, ints, a, b))
same_distance t s r (inl a) (inr b) = let e = b.0 in absurd (omega (arith, ints, a, e))
same_distance t s r (inr a) (inl b) = let e = a.0 in absurd (omega (arith, ints, b, e))
same_distance t s r (inr a) (inr b) = let x = a.1 in let y = b.1 in omega (arith, x, y)

-- the words fit one answer alone
pub one_choice : (t : Table) → t.last < 50 → (o p : Option ℕ) → IsChoice t o → IsChoice t p → o ≡ p
one_choice t h None None f g = refl
one_choice t h None (Some r) f g = absurd (true_false _ g.runs (f r g.slot))
one_choice t h (Some s) None f g = absurd (true_false _ f.runs (g s f.slot))
one_choice t h (Some s) (Some r) f g =
    let e : distance t.last s ≡ distance t.last r = same_distance t s r (f.least r g.slot g.runs) (g.least s f.slot f.runs) in
    ap Some (sym (back t.last s h f.slot) ∙ ap (slot_after t.last) e ∙ back t.last r h g.slot)

-- what has what the words say is the function's value
pub choice_is : (t : Table) → t.last < 50 → (o : Option ℕ) → IsChoice t o → o ≡ chosen t
choice_is t h o f = one_choice t h o (chosen t) f (chosen_is_choice t h)

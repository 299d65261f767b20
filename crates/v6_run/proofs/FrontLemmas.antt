-- Fronts of what should have been written.
use Rattle.std.proofs.Common.{◌≡◌, ℕ, List, [], ◌++◌, refl, sym, ap, ◌∙◌, append_assoc, Result, Ok, Err, OnOk}
use Rattle.std.proofs.lemmas.List.{append-nil}
use Rattle.v6_run.specs.Fronts.{HoldsFront}

pub front_of_nothing : (old text : List ℕ) → HoldsFront old text old
front_of_nothing old text = record { part = []; rest = text; split = refl; holds = sym (append-nil old) }

pub front_of_all : (old text new : List ℕ) → new ≡ old ++ text → HoldsFront old text new
front_of_all old text new is = record { part = text; rest = []; split = sym (append-nil text); holds = is }

-- Two texts, one behind the other: a front of the first is one of both, and so is all of the first with a front of the second.
module _ (old first second : List ℕ) where
  pub front_of_first : (new : List ℕ) → HoldsFront old first new → HoldsFront old (first ++ second) new
  front_of_first new front = record {
    part = front.part;
    rest = front.rest ++ second;
    split = ap (λ l. l ++ second) front.split ∙ append_assoc front.part front.rest second;
    holds = front.holds;
  }

  module _ (now new : List ℕ) (was : now ≡ old ++ first) where
    pub front_of_both : HoldsFront now second new → HoldsFront old (first ++ second) new
    front_of_both front = record {
      part = first ++ front.part;
      rest = front.rest;
      split = ap (λ l. first ++ l) front.split ∙ sym (append_assoc first front.part front.rest);
      holds = front.holds ∙ ap (λ l. l ++ front.part) was ∙ append_assoc old first front.part;
    }

    pub whole_of_both : new ≡ now ++ second → new ≡ old ++ (first ++ second)
    whole_of_both is = is ∙ ap (λ l. l ++ second) was ∙ append_assoc old first second

-- what holds where a writing ended well
pub whole_on : {T E : Type 0} (r : Result T E) (P Q : Type 0) → (P → Q) → OnOk r P → OnOk r Q
whole_on (Ok x) P Q by holds = by holds
whole_on (Err e) P Q by holds = holds

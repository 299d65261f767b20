-- What a port has got of a text, and of one of the texts that may be written there.
use Rattle.std.specs.Prelude.{◌≡◌, ◌≢◌, ℕ, List, ◌++◌}

-- what was written grew by a front of the text, which may be all of it or nothing
pub record HoldsFront (old text new : List ℕ) : Type 0 where
  pub part : List ℕ
  pub rest : List ℕ
  pub split : text ≡ part ++ rest
  pub holds : new ≡ old ++ part

-- what was written grew by all of such a text
pub record HoldsSome (writes : List ℕ → Type 0) (old new : List ℕ) : Type 0 where
  pub text : List ℕ
  pub fits : writes text
  pub holds : new ≡ old ++ text

-- it grew by a front of a text, which is such a text where it grew at all
pub record HoldsFrontOfSome (writes : List ℕ → Type 0) (old new : List ℕ) : Type 0 where
  pub text : List ℕ
  pub fits : new ≢ old → writes text
  pub front : HoldsFront old text new

-- this text alone may be written
abbrev pub exactly : List ℕ → List ℕ → Type 0
exactly text bytes = bytes ≡ text

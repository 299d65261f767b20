-- What no change of files changes stays the same over one change after another.
use Rattle.std.proofs.Common.{ℕ, List, refl, ◌∙◌, arith}
use Rattle.fs_laws.specs.Rest.{SameAround}

pub rest_stays : (blocks : List (List ℕ)) → SameAround blocks blocks
rest_stays blocks = record { boot = refl; i_size = refl; f_size = refl; behind = λ n past. refl }

pub rest_then : (a b c : List (List ℕ)) → SameAround a b → SameAround b c → SameAround a c
rest_then a b c first second = record {
  boot = second.boot ∙ first.boot;
  i_size = second.i_size ∙ first.i_size;
  f_size = second.f_size ∙ first.f_size;
  behind = λ n past. second.behind n (let same = first.f_size in omega (arith, past, same)) ∙ first.behind n past;
}

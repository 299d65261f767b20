-- What is said of a result, at the variant that it is.
use Rattle.std.proofs.Common.{◌≡◌, sym, subst, Result, Ok, Err, IfOk, IfErr, IsErrAnd, MatchResult}
use Rattle.v6_run.specs.declared.status.Status.{Status}
use Rattle.v6_run.specs.Errors.{end_of}

pub value_where_ok : {T E : Type 0} (r : Result T E) (x : T) (P : T → Type 0) → r ≡ Ok x → IfOk r P → P x
value_where_ok (Ok y) x P is holds = let same_value : y ≡ x = cc in subst P same_value holds
value_where_ok (Err e) x P is holds = cc

pub error_where_err : {T E : Type 0} (r : Result T E) (e : E) (P : E → Type 0) → r ≡ Err e → IfErr r P → P e
error_where_err (Ok y) e P is holds = cc
error_where_err (Err f) e P is holds = let same_error : f ≡ e = cc in subst P same_error holds

pub match_where_ok : {T E : Type 0} (r : Result T E) (x : T) (P : T → Type 0) (Q : E → Type 0) → r ≡ Ok x → MatchResult r P Q → P x
match_where_ok (Ok y) x P Q is holds = let same_value : y ≡ x = cc in subst P same_value holds
match_where_ok (Err e) x P Q is holds = cc

pub match_where_err : {T E : Type 0} (r : Result T E) (e : E) (P : T → Type 0) (Q : E → Type 0) → r ≡ Err e → MatchResult r P Q → Q e
match_where_err (Ok y) e P Q is holds = cc
match_where_err (Err f) e P Q is holds = let same_error : f ≡ e = cc in subst Q same_error holds

-- an error that `?` passes on
pub error_passed : {T E : Type 0} (r : Result T E) (e : E) (P : E → Type 0) → IsErrAnd r (λ f. f ≡ e) → P e → IfErr r P
error_passed (Ok x) e P is holds = absurd is
error_passed (Err f) e P is holds = subst P (sym is) holds

pub match_passed : {T E : Type 0} (r : Result T E) (e : E) (P : T → Type 0) (Q : E → Type 0) → IsErrAnd r (λ f. f ≡ e) → Q e → MatchResult r P Q
match_passed (Ok x) e P Q is holds = absurd is
match_passed (Err f) e P Q is holds = subst Q (sym is) holds

-- its status
pub end_passed : {T E : Type 0} (status : E → Status) (r : Result T E) (e : E) (P : Status → Type 0) → IsErrAnd r (λ f. f ≡ e) → P (status e) → P (end_of status r)
end_passed status (Ok x) e P is holds = absurd is
end_passed status (Err f) e P is holds = subst (λ g. P (status g)) (sym is) holds

-- whatever is said of the whole result
pub result_passed : {T E : Type 0} (P : Result T E → Type 0) (r : Result T E) (e : E) → IsErrAnd r (λ f. f ≡ e) → P (Err e) → P r
result_passed P (Ok x) e is holds = absurd is
result_passed P (Err f) e is holds = subst (λ g. P (Err g)) (sym is) holds

-- How the words of rows go on: a test that is passed, and one that is not.
use Rattle.std.proofs.Common.{◌≡◌, Bool, true, false, Option, Some, Result, Ok, Err, [], refl, ap}
use Rattle.v6_base.specs.declared.errno.Errno.{Errno}
use Rattle.sys_files.specs.Handed.{Handed}
use Rattle.sys_files.specs.Did.{Did, check, must, need, fails}

pub check_ok : {A : Type 0} (h : Handed) (test : Result A Errno) (next : A → Did) (a : A) → test ≡ Ok a → check h test next ≡ next a
check_ok h test next a is = ap (λ t. check h t next) is

pub check_err : {A : Type 0} (h : Handed) (test : Result A Errno) (next : A → Did) (e : Errno) → test ≡ Err e → check h test next ≡ fails h e
check_err h test next e is = ap (λ t. check h t next) is

pub must_hold : (h : Handed) (e : Errno) (holds : Bool) (next : Unit {0} → Did) → holds ≡ true → check h (must e holds) next ≡ next tt
must_hold h e holds next is = ap (λ b. check h (must e b) next) is

pub must_fail : (h : Handed) (e : Errno) (holds : Bool) (next : Unit {0} → Did) → holds ≡ false → check h (must e holds) next ≡ fails h e
must_fail h e holds next is = ap (λ b. check h (must e b) next) is

pub need_there : {A : Type 0} (h : Handed) (e : Errno) (there : Option A) (next : A → Did) (a : A) → there ≡ Some a → check h (need e there) next ≡ next a
need_there h e there next a is = ap (λ o. check h (need e o) next) is

-- Nothing is shown on any way.
pub check_quiet : {A : Type 0} (h : Handed) (test : Result A Errno) (next : A → Did) → ((a : A) → (next a).items ≡ []) → (check h test next).items ≡ []
check_quiet h (Ok a) next quiet = quiet a
check_quiet h (Err e) next quiet = refl

-- setuid, setgid and nice by the tests that they make.
use Rattle.std.proofs.Common.{◌≡◌, ◌≢◌, ◌∙◌, ℕ, ◌%◌, ◌<◌, ◌≤◌, ◌||◌, ◌==◌, Bool, true, false, cond, nat_lt, pos, get_or, refl, sym, ap}
use Rattle.std.specs.Int.{int_min}
use Rattle.std.proofs.lemmas.Bool.{lt-ltb, le-ltb, eq-eqb, ne_eqb}
use Rattle.v6_base.specs.declared.entry.Entry.TheVariants.{Nice}
use Rattle.v6_base.specs.declared.errno.Errno.TheVariants.{EPERM}
use Rattle.u_area.specs.declared.area.UArea.{UArea}
use Rattle.sys_procs.specs.World.{World, process_of, change}
use Rattle.sys_procs.specs.Comes.{Comes, returns, fails, logs}
use Rattle.sys_procs.specs.Ids.{as_user, as_group, id_given, set_uid, set_gid, kept_nice, nice_to}

-- the user or the group may be taken
pub uid_taken : (w : World) (s : ℕ) (u : UArea) → u ≡ (process_of w s).u → ((get_or u.r 0 0 % 256 == u.ruid) || (u.uid == 0)) ≡ true
    → set_uid w s ≡ returns (change w s (as_user (get_or u.r 0 0 % 256))) s
unfolding set_uid
uid_taken w s u is test =
    ap (λ b. cond b (returns (change w s (as_user (id_given (process_of w s)))) s) (fails w EPERM))
    (ap (λ (v : UArea). (get_or v.r 0 0 % 256 == v.ruid) || (v.uid == 0)) (sym is) ∙ test)
    ∙ ap (λ (v : UArea). returns (change w s (as_user (get_or v.r 0 0 % 256))) s) (sym is)

pub gid_taken : (w : World) (s : ℕ) (u : UArea) → u ≡ (process_of w s).u → ((get_or u.r 0 0 % 256 == u.rgid) || (u.uid == 0)) ≡ true
    → set_gid w s ≡ returns (change w s (as_group (get_or u.r 0 0 % 256))) s
unfolding set_gid
gid_taken w s u is test =
    ap (λ b. cond b (returns (change w s (as_group (id_given (process_of w s)))) s) (fails w EPERM))
    (ap (λ (v : UArea). (get_or v.r 0 0 % 256 == v.rgid) || (v.uid == 0)) (sym is) ∙ test)
    ∙ ap (λ (v : UArea). returns (change w s (as_group (get_or v.r 0 0 % 256))) s) (sym is)

-- nice, by its sign and by who calls
abbrev up : World → ℕ → ℕ → Comes
up w s n = logs (Nice s (int_min (pos 20) (pos n))) (returns w s)

abbrev down : World → ℕ → ℕ → Comes
down w s n = logs (Nice s (kept_nice n)) (returns w s)

abbrev to_zero : World → ℕ → Comes
to_zero w s = logs (Nice s (pos 0)) (fails w EPERM)

abbrev nice_by : World → ℕ → ℕ → Bool → Bool → Comes
nice_by w s n is_up super = cond is_up (up w s n) (cond super (down w s n) (to_zero w s))

nice_is : (w : World) (s : ℕ) (u : UArea) (is_up super : Bool) → u ≡ (process_of w s).u → nat_lt (get_or u.r 0 0) 32768 ≡ is_up → (u.uid == 0) ≡ super
    → nice_to w s ≡ nice_by w s (get_or u.r 0 0) is_up super
unfolding nice_to
nice_is w s u is_up super is sign caller =
    ap (λ (v : UArea). nice_by w s (get_or v.r 0 0) (nat_lt (get_or v.r 0 0) 32768) (v.uid == 0)) (sym is)
    ∙ (ap (λ b. nice_by w s (get_or u.r 0 0) b (u.uid == 0)) sign ∙ ap (λ b. nice_by w s (get_or u.r 0 0) is_up b) caller)

pub nice_up : (w : World) (s : ℕ) (u : UArea) → u ≡ (process_of w s).u → get_or u.r 0 0 < 32768 → nice_to w s ≡ up w s (get_or u.r 0 0)
nice_up w s u is low = nice_is w s u true (u.uid == 0) is (lt-ltb (get_or u.r 0 0) 32768 low) refl

pub nice_down : (w : World) (s : ℕ) (u : UArea) → u ≡ (process_of w s).u → 32768 ≤ get_or u.r 0 0 → u.uid ≡ 0 → nice_to w s ≡ down w s (get_or u.r 0 0)
nice_down w s u is high super = nice_is w s u false true is (le-ltb (get_or u.r 0 0) 32768 high) (eq-eqb u.uid 0 super)

pub nice_refused : (w : World) (s : ℕ) (u : UArea) → u ≡ (process_of w s).u → 32768 ≤ get_or u.r 0 0 → u.uid ≢ 0 → nice_to w s ≡ to_zero w s
nice_refused w s u is high other = nice_is w s u false false is (le-ltb (get_or u.r 0 0) 32768 high) (ne_eqb u.uid 0 other)

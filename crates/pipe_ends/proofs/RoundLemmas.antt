-- What a round of a write comes to.
use Rattle.std.proofs.Common.{◌≡◌, ◌↔◌, inl, inr, subst, ◌+◌, ◌-◌, ◌%◌, ◌<◌, ◌≤◌, ℕ, zero, suc, Bool, true, false, cond, List, slice_index, Option, Some, None, refl, sym, ap, ◌∙◌, arith}
use Rattle.std.specs.Prelude.{◌==◌, nat_lt, nat_le}
use Rattle.std.proofs.lemmas.Bool.{lt-ltb, le-ltb, le-leb, lt-leb, eq-eqb, ne_eqb, cases_eq, cases_lt}
use Rattle.v6_base.specs.Image.{Image}
use Rattle.v6_base.specs.declared.errno.Errno.{Errno}
use Rattle.fs_nodes.specs.Keys.{Stores}
use Rattle.pipe_ends.specs.declared.ends.Pipe.{Pipe}
use Rattle.pipe_ends.specs.declared.ends.Piped.TheVariants.{Done, Wait, Broken, Error}
use Rattle.pipe_ends.specs.declared.ends.TheConstants.{PIPSIZ}
use Rattle.pipe_ends.specs.Pipes.{pipe_file}
use Rattle.pipe_ends.specs.Writes.{WriteCall, Writing, PipeWrite, size_in, fitting, append_of, appended, ends_as, waits, unless_error, rounds, write_call, writes}

-- A write that has come so far comes to what it was to come to, and there are more rounds than bytes left.
pub record ComesTo (c : WriteCall) (w : Writing) (all : PipeWrite) : Type 0 where
  pub fuel : ℕ
  pub enough : w.left < fuel
  pub same : rounds fuel c w ≡ all

-- a write from an address on of which so many bytes are left
abbrev pub so_far : Stores → Pipe → ℕ → ℕ → ℕ → Writing
so_far store p at count left = record { store = store; pipe = p; at = (at + (count - left)) % 65536; left = left }

-- one of two cases
past : {X : Type 0} (a : Bool) (x y : X) → a ≡ false → cond a x y ≡ y
past a x y none = ap (λ t. cond t x y) none

at_first : {X : Type 0} (a : Bool) (x y : X) → a ≡ true → cond a x y ≡ x
at_first a x y all = ap (λ t. cond t x y) all

-- the answer of a round, after its tests
abbrev pub after_tests : ℕ → WriteCall → Writing → PipeWrite
after_tests more c w =
    unless_error (appended w (append_of c w)) (append_of c w).error (rounds more c (appended w (append_of c w)))

some_left : (w : Writing) → 0 < w.left → (w.left == 0) ≡ false
some_left w some = ne_eqb w.left 0 (λ e. omega (arith, some, e))

pub done_in : (f : ℕ) (c : WriteCall) (w : Writing) → w.left ≡ 0 → rounds (suc f) c w ≡ ends_as w (Done c.count)
done_in f c w none = at_first (w.left == 0) _ _ (eq-eqb w.left 0 none)

pub broken_in : (f : ℕ) (c : WriteCall) (w : Writing) → 0 < w.left → c.ends < 2 → rounds (suc f) c w ≡ ends_as w Broken
broken_in f c w some few =
    past (w.left == 0) _ _ (some_left w some) ∙ at_first (nat_lt c.ends 2) _ _ (lt-ltb c.ends 2 few)

pub waits_in : (f : ℕ) (c : WriteCall) (w : Writing) → 0 < w.left → 2 ≤ c.ends → PIPSIZ ≤ size_in w → rounds (suc f) c w ≡ waits w
waits_in f c w some both full =
    past (w.left == 0) _ _ (some_left w some) ∙ past (nat_lt c.ends 2) _ _ (le-ltb c.ends 2 both)
    ∙ at_first (nat_le PIPSIZ (size_in w)) _ _ (le-leb PIPSIZ (size_in w) full)

done_at : (f : ℕ) (c : WriteCall) (w : Writing) → w.left ≡ 0 → w.left < f → rounds f c w ≡ ends_as w (Done c.count)
done_at zero c w none more = refl
done_at (suc f) c w none more = done_in f c w none

broken_at : (f : ℕ) (c : WriteCall) (w : Writing) → 0 < w.left → c.ends < 2 → w.left < f → rounds f c w ≡ ends_as w Broken
broken_at zero c w some few more = absurd (omega (arith, more))
broken_at (suc f) c w some few more = broken_in f c w some few

waits_at : (f : ℕ) (c : WriteCall) (w : Writing) → 0 < w.left → 2 ≤ c.ends → PIPSIZ ≤ size_in w → w.left < f
    → rounds f c w ≡ waits w
waits_at zero c w some both full more = absurd (omega (arith, more))
waits_at (suc f) c w some both full more = waits_in f c w some both full

pub appends_at : (f : ℕ) (c : WriteCall) (w : Writing) → 0 < w.left → 2 ≤ c.ends → size_in w < PIPSIZ
    → rounds (suc f) c w ≡ after_tests f c w
appends_at f c w some both room =
    past (w.left == 0) _ _ (some_left w some) ∙ past (nat_lt c.ends 2) _ _ (le-ltb c.ends 2 both)
    ∙ past (nat_le PIPSIZ (size_in w)) _ _ (lt-leb PIPSIZ (size_in w) room)

-- no byte is left
pub comes_done : (c : WriteCall) (w : Writing) (all : PipeWrite) → ComesTo c w all → w.left ≡ 0 → all ≡ ends_as w (Done c.count)
comes_done c w all k none = sym k.same ∙ done_at k.fuel c w none k.enough

-- an end is gone
pub comes_broken : (c : WriteCall) (w : Writing) (all : PipeWrite) → ComesTo c w all → 0 < w.left → c.ends < 2
    → all ≡ ends_as w Broken
comes_broken c w all k some few = sym k.same ∙ broken_at k.fuel c w some few k.enough

-- the pipe is full
pub comes_waits : (c : WriteCall) (w : Writing) (all : PipeWrite) → ComesTo c w all → 0 < w.left → 2 ≤ c.ends
    → PIPSIZ ≤ size_in w → all ≡ waits w
comes_waits c w all k some both full = sym k.same ∙ waits_at k.fuel c w some both full k.enough

-- what is appended is a byte at least
pub less_left : (w : Writing) (f : ℕ) → 0 < w.left → size_in w < PIPSIZ → w.left < suc f → w.left - fitting w < f
less_left w f some room more = omega (arith, some, room, more)

-- an append has an error
error_by : (f : ℕ) (c : WriteCall) (w : Writing) (e : Errno) → w.left < f → 0 < w.left → 2 ≤ c.ends → size_in w < PIPSIZ
    → (append_of c w).error ≡ Some e → rounds f c w ≡ ends_as (appended w (append_of c w)) (Error e)
error_by zero c w e more some both room is = absurd (omega (arith, more))
error_by (suc f) c w e more some both room is =
    let next : Writing = appended w (append_of c w) in
    appends_at f c w some both room ∙ ap (λ o. unless_error next o (rounds f c next)) is

pub comes_error : (c : WriteCall) (w : Writing) (all : PipeWrite) (e : Errno) → ComesTo c w all → 0 < w.left → 2 ≤ c.ends
    → size_in w < PIPSIZ → (append_of c w).error ≡ Some e → all ≡ ends_as (appended w (append_of c w)) (Error e)
comes_error c w all e k some both room is = sym k.same ∙ error_by k.fuel c w e k.enough some both room is

-- an append has none, and the tests come once more
goes_by : (f : ℕ) (c : WriteCall) (w : Writing) (all : PipeWrite) → w.left < f → rounds f c w ≡ all → 0 < w.left
    → 2 ≤ c.ends → size_in w < PIPSIZ → (append_of c w).error ≡ None → ComesTo c (appended w (append_of c w)) all
goes_by zero c w all more same some both room is = absurd (omega (arith, more))
goes_by (suc f) c w all more same some both room is =
    let next : Writing = appended w (append_of c w) in
    record {
      fuel = f;
      enough = less_left w f some room more;
      same = sym (ap (λ o. unless_error next o (rounds f c next)) is) ∙ sym (appends_at f c w some both room) ∙ same;
    }

pub comes_on : (c : WriteCall) (w : Writing) (all : PipeWrite) → ComesTo c w all → 0 < w.left → 2 ≤ c.ends
    → size_in w < PIPSIZ → (append_of c w).error ≡ None → ComesTo c (appended w (append_of c w)) all
comes_on c w all k some both room is = goes_by k.fuel c w all k.enough k.same some both room is

-- what a test of the ends says, where neither the pipe nor its references have changed
pub ends_tell : (xs ys : List ℕ) (i j : ℕ) (b t : Bool) → xs ≡ ys → i ≡ j → b ≡ nat_lt (slice_index xs i) 2 → b ≡ t
    → nat_lt (slice_index ys j) 2 ≡ t
ends_tell xs ys i j b t e f h k =
    sym (ap (λ zs. nat_lt (slice_index zs j) 2) e) ∙ sym (ap (λ n. nat_lt (slice_index xs n) 2) f) ∙ sym h ∙ k

pub same_writing : (w v : Writing) → w.store ≡ v.store → w.pipe ≡ v.pipe → w.at ≡ v.at → w.left ≡ v.left → w ≡ v
same_writing w v store pipe at left =
    ap (λ (x : Stores). let r : Writing = record { store = x; pipe = w.pipe; at = w.at; left = w.left } in r) store
    ∙ ap (λ (x : Pipe). let r : Writing = record { store = v.store; pipe = x; at = w.at; left = w.left } in r) pipe
    ∙ ap (λ (x : ℕ). let r : Writing = record { store = v.store; pipe = v.pipe; at = x; left = w.left } in r) at
    ∙ ap (λ (x : ℕ). let r : Writing = record { store = v.store; pipe = v.pipe; at = v.at; left = x } in r) left

-- the next byte comes from behind what was appended
pub wraps : (at count left n : ℕ) → left ≤ count → n ≤ left
    → (at + (count - (left - n))) % 65536 ≡ ((at + (count - left)) % 65536 + n) % 65536
wraps at count left n few less = omega (arith, few, less)

-- What is so of each way in which a round ends is so of what a write comes to.
by_error : (P : PipeWrite → Type 0) (w : Writing) (o : Option Errno) (on : PipeWrite) → ((e : Errno) → P (ends_as w (Error e)))
    → P on → P (unless_error w o on)
by_error P w None on error next = next
by_error P w (Some e) on error next = error e

by_rounds : (c : WriteCall) (P : PipeWrite → Type 0)
    → ((w : Writing) → P (ends_as w (Done c.count)))
    → ((w : Writing) → c.ends < 2 → P (ends_as w Broken))
    → ((w : Writing) → 0 < w.left → 2 ≤ c.ends → PIPSIZ ≤ size_in w → P (waits w))
    → ((w : Writing) (e : Errno) → P (ends_as w (Error e)))
    → (f : ℕ) (w : Writing) → P (rounds f c w)
by_rounds c P all few full error zero w = all w
by_rounds c P all few full error (suc f) w = elim (cases_eq w.left 0) [
  | inl none ↦ subst P (sym (done_in f c w none)) (all w)
  | inr more ↦
      let some : 0 < w.left = omega (arith, more) in
      elim (cases_lt c.ends 2) [
        | inl less ↦ subst P (sym (broken_in f c w some less)) (few w less)
        | inr both ↦ elim (cases_lt (size_in w) PIPSIZ) [
          | inl room ↦
              let next : Writing = appended w (append_of c w) in
              subst P (sym (appends_at f c w some both room))
              (by_error P next (append_of c w).error _ (λ e. error next e) (by_rounds c P all few full error f next))
          | inr above ↦ subst P (sym (waits_in f c w some both above)) (full w some both above)
        ]
      ]
]

-- Broken says that bytes were left and an end was gone.
pub broken_says : (c : WriteCall) (w : Writing) (f : ℕ) → (rounds f c w).answer ≡ Broken → c.ends < 2
broken_says c w f =
    by_rounds c (λ r. r.answer ≡ Broken → c.ends < 2) (λ v is. absurd (cc)) (λ v few is. few)
    (λ v some both full is. absurd (cc)) (λ v e is. absurd (cc)) f w

some_written : (c : WriteCall) (w : Writing) (f : ℕ) → (rounds (suc f) c w).answer ≡ Broken → 0 < w.left
some_written c w f is = elim (cases_eq w.left 0) [
  | inl none ↦ let e : Done c.count ≡ Broken = sym (ap (λ (r : PipeWrite). r.answer) (done_in f c w none)) ∙ is in absurd (cc)
  | inr more ↦ omega (arith, more)
]

pub broken_where : (store : Stores) (ends : ℕ) (p : Pipe) (image : Image) (at count time : ℕ)
    → ((writes store ends p image at count time).answer ≡ Broken) ↔ ((0 < count) × (ends < 2))
unfolding writes
broken_where store ends p image at count time =
    let c : WriteCall = write_call ends image count time in
    let w : Writing = record { store = store; pipe = p; at = at; left = count } in (
      λ is. (some_written c w count is, broken_says c w (suc count) is),
      λ h. ap (λ (r : PipeWrite). r.answer) (broken_in count c w h.0 h.1),
    )

-- Wait says that bytes are left, both ends are there and the pipe is full, and that the writer counts as waiting.
pub record IsFull (ends left : ℕ) (r : PipeWrite) : Type 0 where
  pub some : 0 < left
  pub both : 2 ≤ ends
  pub full : PIPSIZ ≤ (pipe_file r.store r.pipe).size
  pub marked : r.pipe.writer_waits ≡ true

pub waits_where : (store : Stores) (ends : ℕ) (p : Pipe) (image : Image) (at count time left : ℕ)
    → (writes store ends p image at count time).answer ≡ Wait left → IsFull ends left (writes store ends p image at count time)
unfolding writes
waits_where store ends p image at count time left =
    by_rounds (write_call ends image count time) (λ r. r.answer ≡ Wait left → IsFull ends left r)
    (λ v is. absurd (cc)) (λ v few is. absurd (cc))
    (λ v some both full is.
    let same : v.left ≡ left = cc in
    record { some = omega (arith, same, some); both = both; full = full; marked = refl })
    (λ v e is. absurd (cc)) (suc count) (record { store = store; pipe = p; at = at; left = count })

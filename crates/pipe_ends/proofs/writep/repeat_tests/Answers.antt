use Rattle.std.proofs.Common.{◌≡◌, ◌+◌, ◌-◌, ◌%◌, ◌<◌, ◌≤◌, ℕ, min, suc, true, false, Some, None, refl, sym, ap, ◌∙◌, subst, arith}
use Rattle.std.proofs.lemmas.Bool.{ltb-true, ltb-false}
use Rattle.fs_nodes.proofs.RestLemmas.{rest_stays, rest_then}
use Rattle.v6_base.specs.declared.errno.Errno.{Errno}
use Rattle.pipe_ends.specs.declared.ends.Pipe.{Pipe}
use Rattle.pipe_ends.specs.declared.ends.Piped.TheVariants.{Done, Broken, Error}
use Rattle.pipe_ends.specs.declared.ends.TheConstants.{PIPSIZ}
use Rattle.pipe_ends.specs.Pipes.{ends_of}
use Rattle.pipe_ends.specs.Writes.{WriteCall, Writing, PipeWrite, fitting, append_of, appended, ends_as, waits, rounds, write_call, writes}
use Rattle.pipe_ends.proofs.RoundLemmas.{ComesTo, so_far, comes_done, comes_broken, comes_waits, comes_error, comes_on, ends_tell, same_writing, wraps}
use Rattle.pipe_ends.proofs.writep.repeat_tests.Given.{Over}
use Rattle.pipe_ends.proofs.writep.repeat_tests.Goals as goal
use Rattle.pipe_ends.proofs.writep.repeat_tests.Goals.{After-is_broken, After-size_of-size, After-append, After-loop-left}

-- the call, what it comes to, and how far it had come where this round began
abbrev call : (g : Over) → After-is_broken g → WriteCall
call g c =
    write_call (ends_of c.args.n.now.references c.args.p.now) (g.S.Space.image c.args.space.now) c.args.count c.args.time

abbrev all : (g : Over) → After-is_broken g → PipeWrite
all g c =
    writes c.args.n.now.store (ends_of c.args.n.now.references c.args.p.now) c.args.p.now (g.S.Space.image c.args.space.now)
    c.args.at c.args.count c.args.time

abbrev begun : (g : Over) → After-is_broken g → Writing
begun g c = so_far c.loop-left.n.store c.loop-left.p c.args.at c.args.count c.loop-left.left

-- later in the round
abbrev sized : (g : Over) → After-size_of-size g → After-is_broken g
sized g c = (goal.at.After-size_of-size g c).After-is_broken

abbrev behind : (g : Over) → After-append g → After-is_broken g
behind g c = (goal.at.After-append g c).After-is_broken

pub loop-left-init : goal.loop-left-init
unfolding writes
loop-left-init g c =
    let ends : ℕ = ends_of c.args.n.now.references c.args.p.now in
    let w : WriteCall = write_call ends (g.S.Space.image c.args.space.now) c.args.count c.args.time in
    let from : ℕ → PipeWrite = λ a.
    rounds (suc c.args.count) w (record { store = c.args.n.now.store; pipe = c.args.p.now; at = a; left = c.args.count }) in
    record {
      comes = record {
        fuel = suc c.args.count;
        enough = omega arith;
        same = ap from (let f = c.ranges.at.fits in omega (arith, f));
      };
      few = omega arith;
      ino = refl;
      references = refl;
      rest = rest_stays _;
    }

-- the pipe has lost an end
broken : (g : Over) (c : After-is_broken g) → c.is_broken.result ≡ true
    → all g c ≡ ends_as (begun g c) Broken
broken g c is =
    let some = c.loop-left-test.true in
    let held = c.loop-left.invariant in
    comes_broken _ _ _ held.comes (omega (arith, some))
    (ltb-true _ 2 (ends_tell c.loop-left.n.references _ c.loop-left.p.ino _ c.is_broken.result true held.references held.ino
    c.is_broken.ensures is))

pub returns-then-is_broken-clause-store : goal.returns-then-is_broken-clause-store
returns-then-is_broken-clause-store g c =
    let k = (goal.at.returns-then-is_broken-clause-store g c).After-is_broken in
    sym (ap (λ (r : PipeWrite). r.store) (broken g k c.if-is_broken.true))

pub returns-then-is_broken-clause-pipe : goal.returns-then-is_broken-clause-pipe
returns-then-is_broken-clause-pipe g c =
    let k = (goal.at.returns-then-is_broken-clause-pipe g c).After-is_broken in
    sym (ap (λ (r : PipeWrite). r.pipe) (broken g k c.if-is_broken.true))

-- both ends are there
both : (g : Over) (c : After-size_of-size g) → 2 ≤ ends_of c.args.n.now.references c.args.p.now
both g c =
    let held = c.loop-left.invariant in
    ltb-false _ 2 (ends_tell c.loop-left.n.references _ c.loop-left.p.ino _ c.is_broken.result false held.references held.ino
    c.is_broken.ensures c.if-is_broken.false)

-- the pipe is full
full : (g : Over) (c : After-size_of-size g) → PIPSIZ ≤ c.size_of-size.result → all g (sized g c) ≡ waits (begun g (sized g c))
full g c is =
    let some = c.loop-left-test.true in
    let size = c.size_of-size.ensures.size in
    comes_waits _ _ _ c.loop-left.invariant.comes (omega (arith, some)) (both g c) (subst (λ n. PIPSIZ ≤ n) size is)

pub returns-then-size-ge-PIPSIZ-clause-store : goal.returns-then-size-ge-PIPSIZ-clause-store
returns-then-size-ge-PIPSIZ-clause-store g c =
    let k = (goal.at.returns-then-size-ge-PIPSIZ-clause-store g c).After-size_of-size in
    sym (ap (λ (r : PipeWrite). r.store) (full g k c.if-size-ge-PIPSIZ.true))

pub returns-then-size-ge-PIPSIZ-clause-pipe : goal.returns-then-size-ge-PIPSIZ-clause-pipe
returns-then-size-ge-PIPSIZ-clause-pipe g c =
    let k = (goal.at.returns-then-size-ge-PIPSIZ-clause-pipe g c).After-size_of-size in
    sym (ap (λ (r : PipeWrite). r.pipe) (full g k c.if-size-ge-PIPSIZ.true))

pub returns-then-size-ge-PIPSIZ-clause-answer : goal.returns-then-size-ge-PIPSIZ-clause-answer
returns-then-size-ge-PIPSIZ-clause-answer g c =
    let k = (goal.at.returns-then-size-ge-PIPSIZ-clause-answer g c).After-size_of-size in
    sym (ap (λ (r : PipeWrite). r.answer) (full g k c.if-size-ge-PIPSIZ.true))

-- what was appended is what fits
len : (g : Over) (c : After-append g) → fitting (begun g (behind g c)) ≡ c.min-len.result
len g c =
    let is = c.min-len.ensures in
    let size = c.size_of-size.ensures.size in
    sym (is ∙ ap (λ n. min c.loop-left.left (4096 - n)) size)

-- how far the append has come
abbrev after : (g : Over) → After-append g → Writing
after g c = appended (begun g (behind g c)) (append_of (call g (behind g c)) (begun g (behind g c)))

came : (g : Over) (c : After-append g) → (c.append.new.n.store ≡ (after g c).store) × (c.append.new.p ≡ (after g c).pipe)
    × (c.append.result ≡ (append_of (call g (behind g c)) (begun g (behind g c))).error)
came g c =
    c.append.ensures.come (call g (behind g c)) (begun g (behind g c)) refl refl refl refl refl (len g c)

-- the pipe was not full
room : (g : Over) (c : After-append g) → (c.size_of-size.result < PIPSIZ)
room g c = c.if-size-ge-PIPSIZ.false

-- an append has ended with an error
refused : (g : Over) (c : After-append g) (e : Errno) → c.append.result ≡ Some e
    → all g (behind g c) ≡ ends_as (after g c) (Error e)
refused g c e is =
    let some = c.loop-left-test.true in
    let size = c.size_of-size.ensures.size in
    comes_error _ _ _ e c.loop-left.invariant.comes (omega (arith, some)) (both g (goal.at.After-append g c).After-size_of-size)
    (subst (λ n. n < PIPSIZ) size (room g c)) (sym (came g c).2 ∙ is)

pub returns-in-Some-clause-store : goal.returns-in-Some-clause-store
returns-in-Some-clause-store g c =
    let k = (goal.at.returns-in-Some-clause-store g c).After-append in
    (came g k).0 ∙ sym (ap (λ (r : PipeWrite). r.store) (refused g k c.in-Some.e c.in-Some.is))

pub returns-in-Some-clause-pipe : goal.returns-in-Some-clause-pipe
returns-in-Some-clause-pipe g c =
    let k = (goal.at.returns-in-Some-clause-pipe g c).After-append in
    (came g k).1 ∙ sym (ap (λ (r : PipeWrite). r.pipe) (refused g k c.in-Some.e c.in-Some.is))

pub returns-in-Some-clause-answer : goal.returns-in-Some-clause-answer
returns-in-Some-clause-answer g c =
    let k = (goal.at.returns-in-Some-clause-answer g c).After-append in
    sym (ap (λ (r : PipeWrite). r.answer) (refused g k c.in-Some.e c.in-Some.is))

-- it has not, and the tests come once more
goes_on : (g : Over) (c : After-append g) → c.append.result ≡ None → ComesTo (call g (behind g c)) (after g c) (all g (behind g c))
goes_on g c is =
    let some = c.loop-left-test.true in
    let size = c.size_of-size.ensures.size in
    comes_on _ _ _ c.loop-left.invariant.comes (omega (arith, some)) (both g (goal.at.After-append g c).After-size_of-size)
    (subst (λ n. n < PIPSIZ) size (room g c)) (sym (came g c).2 ∙ is)

pub loop-left-preserved : goal.loop-left-preserved
loop-left-preserved g c =
    let k = (goal.at.loop-left-preserved g c).After-append in
    let few = c.loop-left.invariant.few in
    let is = c.min-len.ensures in
    let l = len g k in
    let P : Writing → Type 0 = λ w. ComesTo (call g (behind g k)) w (all g (behind g k)) in
    let old : ℕ = (c.args.at + (c.args.count - c.loop-left.left)) % 65536 in
    record {
      comes = subst P (sym (same_writing
          (so_far c.append.new.n.store c.append.new.p c.args.at c.args.count (c.loop-left.left - c.min-len.result))
          (after g k) (came g k).0 (came g k).1
          (wraps c.args.at c.args.count c.loop-left.left c.min-len.result few (omega (arith, is))
          ∙ ap (λ n. (old + n) % 65536) (sym l))
          (sym (ap (λ n. c.loop-left.left - n) l))))
          (goes_on g k c.in_default.is);
      few = omega (arith, few);
      ino = ap (λ (p : Pipe). p.ino) (came g k).1 ∙ c.loop-left.invariant.ino;
      references = c.append.ensures.references ∙ c.loop-left.invariant.references;
      rest = rest_then _ _ _ c.loop-left.invariant.rest c.append.ensures.rest;
    }

-- no byte is left
done : (g : Over) (c : After-loop-left g) → c.loop-left.left ≡ 0
    → writes c.args.n.now.store (ends_of c.args.n.now.references c.args.p.now) c.args.p.now (g.S.Space.image c.args.space.now)
    c.args.at c.args.count c.args.time
    ≡ ends_as (so_far c.loop-left.n.store c.loop-left.p c.args.at c.args.count c.loop-left.left) (Done c.args.count)
done g c none = comes_done _ _ _ c.loop-left.invariant.comes none

pub returns-clause-store : goal.returns-clause-store
returns-clause-store g c =
    let none = c.loop-left-test.false in
    sym (ap (λ (r : PipeWrite). r.store) (done g c (omega (arith, none))))

pub returns-clause-pipe : goal.returns-clause-pipe
returns-clause-pipe g c =
    let none = c.loop-left-test.false in
    sym (ap (λ (r : PipeWrite). r.pipe) (done g c (omega (arith, none))))

pub returns-clause-answer : goal.returns-clause-answer
returns-clause-answer g c =
    let none = c.loop-left-test.false in
    sym (ap (λ (r : PipeWrite). r.answer) (done g c (omega (arith, none))))

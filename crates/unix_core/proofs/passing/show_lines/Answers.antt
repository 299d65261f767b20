use Rattle.std.proofs.Common.{◌≡◌, ◌∙◌, ◌+◌, ◌++◌, ℕ, zero, suc, [], refl, sym, ap, append_assoc, arith}
use Rattle.std.proofs.lemmas.List.{append-nil}
use Rattle.v6_base.specs.Trace.{sent}
use Rattle.v6_base.specs.Tape.{Recording, bytes_of}
use Rattle.v6_base.specs.declared.trace.TheConstants.{LINES}
use Rattle.v6_base.proofs.Took.{took_then, took_nothing}
use Rattle.unix_core.specs.Passing.{bytes_shown}
use Rattle.unix_core.proofs.passing.show_lines.Goals as goal

-- one line more
more : (l count : ℕ) (r : Recording) (n : ℕ) → n ≡ l + count → bytes_shown l (suc count) r ≡ bytes_shown l count r ++ sent n (bytes_of r n)
more l zero r n is = let e : l ≡ n = omega (arith, is) in append-nil (sent l (bytes_of r l)) ∙ ap (λ m. sent m (bytes_of r m)) e
more l (suc count) r n is =
    let e : n ≡ suc l + count = omega (arith, is) in
    ap (λ items. sent l (bytes_of r l) ++ items) (more (suc l) count r n e)
    ∙ sym (append_assoc (sent l (bytes_of r l)) (bytes_shown (suc l) count r) (sent n (bytes_of r n)))

-- where no byte has gone out on any line
silent : (l count : ℕ) (r : Recording) → ((line : ℕ) → bytes_of r line ≡ []) → bytes_shown l count r ≡ []
silent l zero r none = refl
silent l (suc count) r none = (λ i. sent l (none l i) ++ silent (suc l) count r none i)

pub returns-then-is_silent-clause-items : goal.returns-then-is_silent-clause-items
returns-then-is_silent-clause-items g c = took_nothing _ _ (silent 0 LINES c.args.tape.now (c.is_silent.ensures.0 c.if-is_silent.true).1)

pub loop-l-preserved : goal.loop-l-preserved
loop-l-preserved g c =
    let l : ℕ = c.loop-l.l in
    let e : l + 1 ≡ suc l = omega arith in
    let here : l ≡ 0 + l = omega arith in record {
      items = took_then _ _ _ _ _ _ c.loop-l.invariant.items c.show_bytes.ensures.items
          (sym (more 0 l c.args.tape.now l here) ∙ ap (λ n. bytes_shown 0 n c.args.tape.now) (sym e));
      frame = g.met.T.Trace.goes_on _ _ _ c.loop-l.invariant.frame c.show_bytes.ensures.frame;
    }

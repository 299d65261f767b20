use Rattle.std.proofs.Common.{ℕ, List, [], ◌∷◌, take, get_or, sym, ap, ◌∙◌}
use Rattle.std.proofs.lemmas.List.{take_more}
use Rattle.v6_base.specs.Trace.{sent}
use Rattle.v6_base.proofs.Took.{took_then, sent-append}
use Rattle.unix_core.proofs.passing.show_bytes.Goals as goal

pub loop-i-preserved : goal.loop-i-preserved
loop-i-preserved g c =
    let bytes : List ℕ = c.bytes_on-bytes.result.now in
    let i : ℕ = c.loop-i.i in
    let l : ℕ = c.args.l in record {
      items = took_then _ _ _ _ _ _ c.loop-i.invariant.items c.out_on.ensures.took
          (sym (sent-append l (take i bytes) (get_or bytes i 0 ∷ [])) ∙ ap (sent l) (sym (take_more bytes i 0 c.loop-i-test.true)));
      frame = g.met.T.Trace.goes_on _ _ _ c.loop-i.invariant.frame c.out_on.ensures.frame;
    }

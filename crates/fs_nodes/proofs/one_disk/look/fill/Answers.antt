use Rattle.std.proofs.Common.{◌+◌, inl, inr, length-set, get_or-set_same, get_or-set_other, slice_set, slice_index, ap, ◌∙◌, sym, arith}
use Rattle.std.proofs.lemmas.Bool.Decides.{eqb_tells}
use Rattle.fs_nodes.specs.one_disk.FileSystem.{near_byte}
use Rattle.fs_nodes.proofs.one_disk.look.fill.Goals as goal

pub loop-k-preserved : goal.loop-k-preserved
loop-k-preserved c =
    let long = c.loop-k.invariant.0 in
    let low = c.loop-k-test.true in (
      length-set c.loop-k.buf c.loop-k.k c.byte_of.result ∙ long,
      λ j h. elim (eqb_tells j c.loop-k.k) [
        | inl e ↦ ap (slice_index (slice_set c.loop-k.buf c.loop-k.k c.byte_of.result)) e.1 ∙ get_or-set_same c.loop-k.buf c.loop-k.k c.byte_of.result 0 (omega (arith, long, low))
            ∙ c.byte_of.ensures ∙ ap (λ n. near_byte c.args.first.now c.args.second.now c.args.offset c.args.size (c.args.offset + n)) (sym e.1)
        | inr e ↦ get_or-set_other c.loop-k.buf c.loop-k.k j c.byte_of.result 0 e.1 ∙ c.loop-k.invariant.1 j (let o = e.1 in omega (arith, h, o))
      ],
    )

use Rattle.std.proofs.Common.{◌≡◌, ◌+◌, ◌%◌, ◌++◌, ◌∷◌, [], ap, ◌∙◌, sym, arith}
use Rattle.std.proofs.lemmas.List.FromFn.{map-range_with_len_more}
use Rattle.make_image.specs.Files.{byte_of}
use Rattle.make_image.proofs.tree.plain_file.Goals as goal

pub loop-i-preserved : goal.loop-i-preserved
loop-i-preserved c =
    let i = c.loop-i.i in
    let place : c.from-3.result + c.from-4.result + i ≡ c.args.n + c.args.k + i = omega arith in
    record {
      items = c.in_ok-push.ensures.items ∙ ap (λ x. c.loop-i.bytes.items ++ x % 256 ∷ []) place ∙ ap (λ l. l ++ byte_of c.args.n c.args.k i ∷ []) c.loop-i.invariant.items ∙ sym (map-range_with_len_more (byte_of c.args.n c.args.k) 0 i i (omega arith));
      len = omega (arith, c.in_ok-push.ensures.len);
    }

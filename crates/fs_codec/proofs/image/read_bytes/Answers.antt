use Rattle.std.proofs.Common.{◌≡◌, ◌-◌, ℕ, length, replicate, ap, ◌∙◌, arith}
use Rattle.fs_codec.proofs.ImageLemmas.{there_and_zeros}
use Rattle.fs_codec.proofs.image.read_bytes.Goals as goal

pub returns : goal.returns
returns c =
    let size : ℕ = c.min-end.result - c.min-start.result in
    let back : length c.split_at_mut-there.result.1.now ≡ length c.args.into.now - size = omega (arith, c.split_at_mut-there.ensures.back_len) in
    there_and_zeros c.args.image.now c.copy_from_slice.new.self c.fill.new.self c.args.at (length c.args.into.now) c.min-start.result c.min-end.result c.min-start.ensures c.min-end.ensures c.copy_from_slice.ensures.after (c.fill.ensures.after (λ y e. e) ∙ ap (λ (k : ℕ). replicate k 0) back)

use Rattle.std.proofs.Common.{◌≡◌, ◌∙◌, ◌+◌, ◌*◌, ◌++◌, List, ℕ, length, ap, arith}
use Rattle.fs_codec.specs.Words.{bytes_from}
use Rattle.image_keep.specs.declared.memory.TheConstants.{SWAP_BYTES}
use Rattle.unix_core.specs.declared.boot.TheConstants.{SWAP_AT}
use Rattle.unix_core.proofs.FillLemmas.{none_yet, bytes_more, length-bytes_from}
use Rattle.unix_core.proofs.boot.swap_area.Goals as goal

pub loop-n-init : goal.loop-n-init
loop-n-init c = c.in_ok-swap.ensures.items ∙ none_yet c.args.image.now SWAP_AT

pub loop-n-preserved : goal.loop-n-preserved
loop-n-preserved c =
    let image : List ℕ = c.args.image.now in
    let more : 512 * c.loop-n.n + 512 ≡ 512 * (c.loop-n.n + 1) = omega arith in
    c.in_ok-push_block.ensures
    ∙ ap (λ l. l ++ bytes_from image (SWAP_AT + 512 * c.loop-n.n) 512) c.loop-n.invariant
    ∙ bytes_more image SWAP_AT (512 * c.loop-n.n) 512
    ∙ ap (bytes_from image SWAP_AT) more

pub returns-clause-bytes : goal.returns-clause-bytes
returns-clause-bytes c =
    let all : 512 * c.loop-n.n ≡ SWAP_BYTES = omega arith in
    c.loop-n.invariant ∙ ap (bytes_from c.args.image.now SWAP_AT) all

pub returns-clause-size : goal.returns-clause-size
returns-clause-size c =
    let all : 512 * c.loop-n.n ≡ SWAP_BYTES = omega arith in
    ap length c.loop-n.invariant ∙ length-bytes_from c.args.image.now SWAP_AT (512 * c.loop-n.n) ∙ all

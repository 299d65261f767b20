use Rattle.std.proofs.Common.{◌≡◌, ◌+◌, ◌-◌, take, drop, ap, arith}
use Rattle.core_mem.specs.Bytes.{part}
use Rattle.image_keep.proofs.memory.area_in.Goals as goal

pub returns : goal.returns
unfolding part
returns c =
    let size : c.args.at + 1024 - c.args.at ≡ 1024 = omega arith in
    ap (λ n. take n (drop c.args.at c.args.all.now)) size

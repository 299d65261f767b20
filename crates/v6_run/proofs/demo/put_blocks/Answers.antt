use Rattle.std.proofs.Common.{◌∙◌, ap, ◌≤◌, ◌*◌, ◌+◌, length, refl, arith}
use Rattle.v6_run.proofs.FinalLemmas.{put_none, none_long, more_long, put_more, put_all}
use Rattle.v6_run.proofs.demo.put_blocks.Goals as goal

pub numbers-init : goal.numbers-init
numbers-init c = record {
  put = put_none c.args.kernel.now.stored.root c.args.image.now;
  so_long = none_long c.args.kernel.now.stored.root;
  long = refl;
}

pub numbers-preserved : goal.numbers-preserved
numbers-preserved c =
    let n = c.numbers.n in
    let block = c.final_block.result in
    let is = c.final_block.ensures.below c.numbers-test.true in
    let whole = ap length is ∙ c.requires.form.whole n (let low = c.numbers-test.true in omega (arith, low)) in
    let inside : 512 * n + 512 ≤ length c.args.image.now = (let low = c.numbers-test.true in let long = c.requires.long in omega (arith, low, long)) in
    record {
      put = put_more c.args.kernel.now.stored.root c.args.image.now c.numbers.image _ block n c.numbers.invariant.put c.numbers.invariant.so_long is whole inside c.put_block.ensures.bytes;
      so_long = more_long c.args.kernel.now.stored.root block n is whole c.numbers.invariant.so_long;
      long = c.put_block.ensures.length ∙ c.numbers.invariant.long;
    }

pub returns : goal.returns
returns c =
    put_all c.args.kernel.now.stored.root c.args.image.now c.numbers.image c.numbers.n c.numbers.invariant.put c.numbers.invariant.so_long c.numbers-test.false c.numbers.auto.n-end c.requires.long

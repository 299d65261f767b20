use Rattle.std.proofs.Common.{◌≡◌, ◌+◌, ◌-◌, ◌*◌, ◌++◌, vec_len}
use Rattle.make_image.specs.FreeList.{freed_down}
use Rattle.make_image.proofs.image.push_free_blocks.Given as goal

abbrev pub invariant-loop-block : goal.invariant-loop-block
invariant-loop-block l = record {
  items : l.image.items ++ (freed_down (4000 - l.block)).blocks ≡ l.fn.image.items ++ (freed_down (4000 - l.first_free)).blocks;
  len : vec_len l.image ≡ vec_len l.fn.image + 512 * (l.block - l.first_free);
}

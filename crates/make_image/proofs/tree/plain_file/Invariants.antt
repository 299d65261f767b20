use Rattle.std.proofs.Common.{◌≡◌, vec_len}
use Rattle.std.specs.Prelude.{map}
use Rattle.std.specs.List.{range_with_len}
use Rattle.make_image.specs.Files.{byte_of}
use Rattle.make_image.proofs.tree.plain_file.Given as goal

abbrev pub invariant-loop-i : goal.invariant-loop-i
invariant-loop-i l = record {
  items : l.bytes.items ≡ map (byte_of l.n l.k) (range_with_len 0 l.i);
  len : vec_len l.bytes ≡ l.i;
}

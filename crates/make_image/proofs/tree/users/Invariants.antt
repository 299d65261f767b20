use Rattle.std.proofs.Common.{◌≡◌, ◌+◌, ◌*◌, vec_len}
use Rattle.std.specs.List.{flat_map}
use Rattle.fs_codec.specs.Bytes.{entry_bytes}
use Rattle.make_image.specs.Files.{users}
use Rattle.make_image.proofs.tree.users.Given as goal

abbrev pub invariant-loop-k : goal.invariant-loop-k
invariant-loop-k l = record {
  items : l.bytes.items ≡ flat_map entry_bytes (users l.k);
  len : vec_len l.bytes ≡ 32 + 16 * l.k;
}

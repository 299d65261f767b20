use Rattle.std.proofs.Common.{◌≡◌, ◌*◌, take, vec_len}
use Rattle.std.specs.List.{flat_map}
use Rattle.fs_codec.specs.Bytes.{entry_bytes}
use Rattle.make_image.proofs.tree.directory.Given as goal

abbrev pub invariant-loop-entry : goal.invariant-loop-entry
invariant-loop-entry l = record {
  items : l.bytes.items ≡ flat_map entry_bytes (take l.entry-index l.entries);
  len : vec_len l.bytes ≡ 16 * l.entry-index;
}

use Rattle.std.proofs.Common.{◌≡◌, ◌≢◌, ◌&&◌, not, ℕ, true, false, ap, ◌∙◌}
use Rattle.std.proofs.lemmas.Bool.{ne_eqb}
use Rattle.fs_codec.specs.Fields.{fields_of}
use Rattle.fs_codec.specs.Modes.{is_device, holds_blocks}
use Rattle.file_rows.proofs.file_system.opened.open_file.Goals as goal

holds : (mode : ℕ) → mode ≢ 0 → is_device mode ≡ false → holds_blocks mode ≡ true
holds mode used plain = ap (λ t. not t && not (is_device mode)) (ne_eqb mode 0 used) ∙ ap not plain

pub returns-in_ok-volume-in-Ok : goal.returns-in_ok-volume-in-Ok
returns-in_ok-volume-in-Ok c = λ plain.
    c.in_ok-volume-in-Ok.ensures.apart (fields_of c.inode_in-node.result) c.inode_in-node.ensures (holds c.inode_in-node.result.mode c.if-node-ne0.true plain)

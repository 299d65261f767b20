use Rattle.std.proofs.Common.{◌≡◌, sym, ap, ◌∙◌}
use Rattle.std.proofs.Common.{rules}
use Rattle.fs_codec.specs.Bytes.{entry_bytes}
use Rattle.fs_codec.proofs.BytesLemmas.{entry_bytes_of}
use Rattle.make_image.proofs.bytes.push_entry.Goals as goal

pub returns-clause-items : goal.returns-clause-items
returns-clause-items c =
    let spelled : c.write_entry.new.b ≡ entry_bytes c.args.entry.now = sym (entry_bytes_of _ c.write_entry.array_long c.push_bytes.ensures.fits) ∙ ap entry_bytes c.write_entry.ensures in
    search rules

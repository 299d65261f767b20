use Rattle.std.proofs.Common.{sym, ap, ◌∙◌}
use Rattle.fs_codec.specs.Bytes.{bytes_of}
use Rattle.fs_codec.proofs.BytesLemmas.{part}
use Rattle.u_area.specs.declared.area.UArea.{UArea}
use Rattle.u_area.specs.Area.{times}
use Rattle.u_area.proofs.AreaLemmas.{parts_of_area, fetched_is}
use Rattle.u_area.proofs.fields.time_bytes.Goals as goal

pub returns : goal.returns
unfolding part
returns c =
    let u : UArea = c.requires.stored.0 in
    c.twelve_bytes.ensures
    ∙ (parts_of_area c.args.b.now u c.requires.stored.1 c.requires.stored.2).times
    ∙ ap (λ (w : UArea). bytes_of (times w)) (sym (fetched_is c.args.b.now u c.requires.stored.1 c.requires.stored.2))

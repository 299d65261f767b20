use Rattle.std.proofs.Common.{[], refl}
use Rattle.v6_base.specs.Image.{Image}
use Rattle.sys_files.specs.Handed.{handed}
use Rattle.sys_files.proofs.CreatingLemmas.{opened_kept, opened_more}
use Rattle.sys_files.proofs.creating.open_to_write.Goals as goal

pub returns-clause-kept : goal.returns-clause-kept
returns-clause-kept c = λ image.
    opened_kept (handed c.args.f.now c.args.u.now c.args.row.now image) _ c.args.ino _ refl c.requires.open
    c.requires.pipes c.requires.mounts c.requires.referenced (c.open_found.ensures.state image)

none : Image
none = record { text = []; «data» = []; stack = [] }

pub returns-clause-more : goal.returns-clause-more
returns-clause-more c =
    λ i. opened_more (handed c.args.f.now c.args.u.now c.args.row.now none) _ c.args.ino _ i c.requires.referenced
    (c.open_found.ensures.state none)

use Rattle.std.proofs.Common.{◌==◌}
use Rattle.file_rows.proofs.ReferenceLemmas.{one_left}
use Rattle.file_rows.proofs.system_calls.shared.share_once.Goals as goal

pub returns-clause-references : goal.returns-clause-references
returns-clause-references c = λ is i.
    one_left (c.args.ino == i) _ _ _ (c.share.ensures.references c.if-not-share.false i) (c.unshare.ensures.references is i)

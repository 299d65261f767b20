use Rattle.sys_files.proofs.EnteringLemmas.{changed_keeps}
use Rattle.fs_nodes.specs.Keys.{with_truncated}
use Rattle.fs_nodes.proofs.CountLaws.{counts_cut}
use Rattle.sys_files.proofs.creating.truncate.Goals as goal

pub returns-clause-kept : goal.returns-clause-kept
returns-clause-kept c =
    let old = c.args.nodes.now in
    changed_keeps old c.truncate.new.self c.args.ino (λ node. with_truncated old.store c.args.ino node c.args.now)
    (c.see.ensures.used c.args.ino c.requires.referenced) c.truncate.ensures.store
    (λ node. counts_cut old.store c.args.ino node c.args.now) c.truncate.ensures.references c.truncate.ensures.rest

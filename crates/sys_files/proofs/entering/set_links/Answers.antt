use Rattle.fs_nodes.specs.Keys.{with_fields}
use Rattle.sys_files.proofs.EnteringLemmas.{changed_keeps}
use Rattle.sys_files.proofs.NodeCounts.{fields_counts}
use Rattle.sys_files.proofs.entering.set_links.Goals as goal

pub returns-clause-kept : goal.returns-clause-kept
returns-clause-kept c =
    let old = c.args.nodes.now in
    changed_keeps old c.set_links.new.self c.args.ino
    (λ node. with_fields old.store c.args.ino (record node { nlink = c.args.nlink; modtime = c.args.now }))
    (c.see.ensures.used c.args.ino c.requires.referenced) c.set_links.ensures.store
    (λ node. fields_counts old.store c.args.ino (record node { nlink = c.args.nlink; modtime = c.args.now }))
    c.set_links.ensures.references c.set_links.ensures.rest

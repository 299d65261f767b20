use Rattle.fs_nodes.specs.Keys.{with_fields}
use Rattle.sys_files.proofs.EnteringLemmas.{changed_keeps}
use Rattle.sys_files.proofs.NodeCounts.{fields_counts}
use Rattle.sys_files.proofs.making.set_device.Goals as goal

pub returns-then-is_device_at-clause-kept : goal.returns-then-is_device_at-clause-kept
returns-then-is_device_at-clause-kept c =
    let old = c.args.nodes.now in
    changed_keeps old c.set_device.new.self c.args.ino
    (λ node. with_fields old.store c.args.ino (record node { device = c.args.device }))
    (c.see.ensures.used c.args.ino c.requires.referenced) c.set_device.ensures.store
    (λ node. fields_counts old.store c.args.ino (record node { device = c.args.device }))
    c.set_device.ensures.references c.set_device.ensures.rest

use Rattle.fs_codec.specs.Bytes.{entry_bytes}
use Rattle.mount_tab.specs.Mounted.{split_of}
use Rattle.fs_tree.specs.Entries.{written}
use Rattle.sys_files.proofs.EnteringLemmas.{written_keeps}
use Rattle.sys_files.proofs.entering.enter.Goals as goal

pub returns-clause-kept : goal.returns-clause-kept
returns-clause-kept c =
    written_keeps c.args.tree.now.nodes c.enter.new.self.nodes c.args.dir
    (λ node. written c.args.tree.now.nodes.store c.args.dir node c.args.offset
    (entry_bytes (record { ino = (split_of c.args.tree.now.mounts c.args.ino).1; name = c.args.name })) c.args.now)
    c.enter.result
    (c.see.ensures.used c.args.dir c.requires.entry.referenced) c.enter.ensures.entry c.enter.ensures.references
    c.enter.ensures.rest

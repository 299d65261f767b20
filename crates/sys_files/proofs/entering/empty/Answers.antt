use Rattle.std.proofs.Common.{[], ◌∷◌}
use Rattle.fs_tree.specs.Entries.{written}
use Rattle.sys_files.proofs.EnteringLemmas.{written_keeps}
use Rattle.sys_files.proofs.entering.empty.Goals as goal

pub returns-clause-kept : goal.returns-clause-kept
returns-clause-kept c =
    written_keeps c.args.tree.now.nodes c.remove.new.self.nodes c.args.dir
    (λ node. written c.args.tree.now.nodes.store c.args.dir node c.args.offset (0 ∷ 0 ∷ []) c.args.now) c.remove.result
    (c.see.ensures.used c.args.dir c.requires.referenced) c.remove.ensures.entry c.remove.ensures.references
    c.remove.ensures.rest

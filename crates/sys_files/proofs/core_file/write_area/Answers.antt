use Rattle.fs_laws.specs.Pieces.{Moving}
use Rattle.fs_codec.specs.Store.{Node}
use Rattle.fs_nodes.specs.Keys.{with_node}
use Rattle.fs_tree.specs.Entries.{written}
use Rattle.fs_nodes.proofs.KeyLaws.{counts_set}
use Rattle.sys_files.proofs.EnteringLemmas.{changed_keeps}
use Rattle.sys_files.proofs.core_file.write_area.Goals as goal

pub returns-clause-kept : goal.returns-clause-kept
returns-clause-kept c =
    let old = c.args.nodes.now in
    let m : Node → Moving (Unit {0}) = λ node. written old.store c.args.ino node 0 c.store.new.b c.args.now in
    changed_keeps old c.write_kernel.new.self c.args.ino (λ node. with_node old.store c.args.ino (m node).node (m node).room)
    (c.see.ensures.used c.args.ino c.requires.referenced) (λ node is. (c.write_kernel.ensures.moved node is).store)
    (λ node. counts_set old.store c.args.ino (m node).room (m node).node)
    c.write_kernel.ensures.references c.write_kernel.ensures.rest

use Rattle.fs_laws.specs.Pieces.{Moving, write_file}
use Rattle.fs_codec.specs.Store.{Node}
use Rattle.fs_nodes.specs.Keys.{room_at, with_node}
use Rattle.fs_nodes.specs.Copy.{get_from}
use Rattle.fs_nodes.proofs.KeyLaws.{counts_set}
use Rattle.sys_files.proofs.EnteringLemmas.{changed_keeps}
use Rattle.sys_files.proofs.WritingLemmas.{node_there}
use Rattle.sys_files.proofs.core_file.write_part.Goals as goal

pub returns-clause-there : goal.returns-clause-there
returns-clause-there g c = node_there c.args.nodes.now.store c.args.ino (c.see.ensures.used c.args.ino c.requires.referenced)

pub returns-clause-kept : goal.returns-clause-kept
returns-clause-kept g c =
    let old = c.args.nodes.now in
    let m : Node → Moving (Unit {0}) =
    λ node. write_file (get_from (g.S.Space.image c.args.space.now) c.args.at) node (room_at old.store c.args.ino)
    (tt {0}) c.args.offset c.args.count c.args.now in
    changed_keeps old c.write_at.new.self c.args.ino (λ node. with_node old.store c.args.ino (m node).node (m node).room)
    (c.see.ensures.used c.args.ino c.requires.referenced) (λ node is. (c.write_at.ensures.moved node is).store)
    (λ node. counts_set old.store c.args.ino (m node).room (m node).node)
    c.write_at.ensures.references c.write_at.ensures.rest

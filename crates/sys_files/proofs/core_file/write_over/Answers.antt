use Rattle.std.proofs.Common.{refl}
use Rattle.fs_tree.specs.Finding.{inodes_of}
use Rattle.sys_files.specs.Handed.{Handed, handed, node_in, with_inodes}
use Rattle.sys_files.proofs.WritingLemmas.{node_there}
use Rattle.sys_files.proofs.CoreLemmas.{over_goes}
use Rattle.sys_files.proofs.core_file.write_over.Goals as goal

pub returns-clause-did : goal.returns-clause-did
returns-clause-did g c = λ row.
    let h : Handed = handed c.args.f.now c.args.u.now row (g.S.Space.image c.args.space.now) in
    let store = c.args.f.now.tree.nodes.store in
    over_goes c.args.now h (with_inodes h (inodes_of c.write_parts.new.nodes)) c.args.ino c.user_of.result
    (inodes_of c.truncate.new.nodes)
    c.in_ok-test_plain.field-0 c.in_ok-access.field-0 c.write_parts.result c.in_ok-test_plain.ensures c.user_of.ensures
    (c.in_ok-access.ensures (node_in store c.args.ino)
    (node_there store c.args.ino (c.see.ensures.used c.args.ino c.requires.referenced)))
    c.truncate.ensures.inodes
    (c.write_parts.ensures.did (with_inodes h (inodes_of c.truncate.new.nodes)) refl refl refl)

use Rattle.std.proofs.Common.{◌≡◌, ◌+◌, ◌*◌, length, subst, arith}
use Rattle.v6_base.specs.Image.{Image}
use Rattle.u_area.specs.declared.layout.TheConstants.{AREA_SIZE}
use Rattle.fs_tree.specs.Finding.{inodes_of}
use Rattle.sys_files.specs.Making.{entry_written}
use Rattle.sys_files.proofs.LoadedLemmas.{stack_at_top}
use Rattle.sys_files.proofs.core_file.write_stack.Goals as goal

pub returns-clause-answer : goal.returns-clause-answer
returns-clause-answer g c =
    let image : Image = g.S.Space.image c.args.space.now in
    let data_many = c.requires.data in
    let data_size = c.from-data.ensures in
    let many = c.requires.stack in
    let size = c.from-stack.ensures in
    let behind : 1024 + 64 * c.from-data.result ≡ AREA_SIZE + length image.data = omega (arith, data_many, data_size) in
    subst (λ offset. c.write_bytes.result ≡ (entry_written (inodes_of c.args.nodes.now) c.args.ino offset image.stack c.args.now).answer) behind
    (c.write_bytes.ensures.written image.stack
    (stack_at_top image c.stack_at.result (64 * c.args.u.now.stack_size) (64 * c.from-stack.result)
    (g.met.S.Space.formed c.args.space.now) c.stack_at.ensures many (omega (arith, many, size)))).0

pub returns-clause-inodes : goal.returns-clause-inodes
returns-clause-inodes g c =
    let image : Image = g.S.Space.image c.args.space.now in
    let data_many = c.requires.data in
    let data_size = c.from-data.ensures in
    let many = c.requires.stack in
    let size = c.from-stack.ensures in
    let behind : 1024 + 64 * c.from-data.result ≡ AREA_SIZE + length image.data = omega (arith, data_many, data_size) in
    subst (λ offset. inodes_of c.write_bytes.new.nodes ≡ (entry_written (inodes_of c.args.nodes.now) c.args.ino offset image.stack c.args.now).inodes) behind
    (c.write_bytes.ensures.written image.stack
    (stack_at_top image c.stack_at.result (64 * c.args.u.now.stack_size) (64 * c.from-stack.result)
    (g.met.S.Space.formed c.args.space.now) c.stack_at.ensures many (omega (arith, many, size)))).1

use Rattle.std.proofs.Common.{◌*◌, arith}
use Rattle.v6_base.specs.Image.{Image}
use Rattle.sys_files.proofs.LoadedLemmas.{data_at_base}
use Rattle.sys_files.proofs.core_file.write_data.Goals as goal

pub returns-clause-answer : goal.returns-clause-answer
returns-clause-answer g c =
    let image : Image = g.S.Space.image c.args.space.now in
    let many = c.requires.data in
    let size = c.from-data.ensures in
    (c.write_bytes.ensures.written image.data
    (data_at_base image c.data_at.result (64 * c.args.u.now.text_size) (64 * c.from-data.result)
    (g.met.S.Space.formed c.args.space.now) c.data_at.ensures c.requires.text (omega (arith, many, size)))).0

pub returns-clause-inodes : goal.returns-clause-inodes
returns-clause-inodes g c =
    let image : Image = g.S.Space.image c.args.space.now in
    let many = c.requires.data in
    let size = c.from-data.ensures in
    (c.write_bytes.ensures.written image.data
    (data_at_base image c.data_at.result (64 * c.args.u.now.text_size) (64 * c.from-data.result)
    (g.met.S.Space.formed c.args.space.now) c.data_at.ensures c.requires.text (omega (arith, many, size)))).1

use Rattle.std.proofs.Common.{ap, ◌∙◌}
use Rattle.v6_base.specs.Image.{Image}
use Rattle.fs_laws.specs.Pieces.{Moving, read_file}
use Rattle.fs_nodes.specs.Keys.{Stores, room_at}
use Rattle.fs_nodes.specs.Copy.{put_into}
use Rattle.open_files.specs.declared.file.OpenFile.{OpenFile}
use Rattle.sys_files.specs.Handed.{Handed, handed, node_in, file_of}
use Rattle.sys_files.specs.Moving.{with_moved}
use Rattle.sys_files.proofs.MovingLemmas.{file_is, node_there, moved_state}
use Rattle.sys_files.proofs.moving.read_bytes.Goals as goal

pub returns-clause-done : goal.returns-clause-done
returns-clause-done g c u row =
    let image : Image = g.S.Space.image c.args.space.now in
    let store : Stores = c.args.f.now.tree.nodes.store in
    let node = node_there store c.args.file.now.ino (c.see.ensures.used c.args.file.now.ino c.requires.file.referred) in
    let moves = c.read_at-read.ensures.moved (node_in store c.args.file.now.ino) node in
    moves.done ∙ ap (λ (x : OpenFile). (read_file (put_into c.args.at) (node_in store x.ino) (room_at store x.ino) image x.offset c.args.count c.args.now).done) (file_is c.args.f.now c.args.entry c.args.file.now c.requires.file u row image)

pub returns-clause-error : goal.returns-clause-error
returns-clause-error g c u row =
    let image : Image = g.S.Space.image c.args.space.now in
    let store : Stores = c.args.f.now.tree.nodes.store in
    let node = node_there store c.args.file.now.ino (c.see.ensures.used c.args.file.now.ino c.requires.file.referred) in
    let moves = c.read_at-read.ensures.moved (node_in store c.args.file.now.ino) node in
    moves.error ∙ ap (λ (x : OpenFile). (read_file (put_into c.args.at) (node_in store x.ino) (room_at store x.ino) image x.offset c.args.count c.args.now).error) (file_is c.args.f.now c.args.entry c.args.file.now c.requires.file u row image)

pub returns-clause-state : goal.returns-clause-state
returns-clause-state g c u row =
    let image : Image = g.S.Space.image c.args.space.now in
    let h : Handed = handed c.args.f.now u row image in
    let store : Stores = c.args.f.now.tree.nodes.store in
    let file : OpenFile = c.args.file.now in
    let is = file_is c.args.f.now c.args.entry c.args.file.now c.requires.file u row image in
    let m : OpenFile → Moving Image = λ x. read_file (put_into c.args.at) (node_in store x.ino) (room_at store x.ino) image x.offset c.args.count c.args.now in
    let node = node_there store file.ino (c.see.ensures.used file.ino c.requires.file.referred) in
    let moves = c.read_at-read.ensures.moved (node_in store file.ino) node in
    let parts = moved_state h c.args.entry c.read_at-read.result.done file m c.read_at-read.new.self c.move_on.new.table is moves.store c.read_at-read.ensures.references c.move_on.ensures moves.done in
    ap (λ (k : Handed). record k { image = g.S.Space.image c.read_at-read.new.space }) parts
    ∙ ap (λ memory. record (with_moved h c.args.entry (m (file_of h c.args.entry))) { image = memory }) (moves.memory ∙ ap (λ x. (m x).memory) is)

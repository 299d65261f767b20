use Rattle.fs_codec.specs.Fields.{fields_of}
use Rattle.fs_laws.specs.Shown.{file_of}
use Rattle.fs_laws.proofs.ShownLemmas.{node_shown}
use Rattle.fs_blocks.specs.State.{State, disk}
use Rattle.fs_nodes.specs.one_disk.Numbers.{Clears}
use Rattle.fs_nodes.specs.one_disk.Table.{seen}
use Rattle.fs_nodes.proofs.NumbersBack.{listed, freed}
use Rattle.fs_nodes.proofs.SeenLemmas.{volume_seen}
use Rattle.fs_nodes.proofs.HeldLemmas.{over}
use Rattle.fs_nodes.proofs.one_disk.numbers.free_inode.Goals as goal
use Rattle.fs_nodes.proofs.one_disk.numbers.free_inode.Goals.{After-clear_inode}

-- what the volume and the file come to
step : (c : After-clear_inode) → Clears c.args.volume.now.state c.clear_inode.new.volume.state c.args.table.now c.args.ino (file_of (disk (seen c.args.volume.now.state c.args.table.now)) (fields_of c.args.node))
step c = c.clear_inode.ensures _ (node_shown (disk (seen c.args.volume.now.state c.args.table.now)) (fields_of c.args.node) c.requires.used)

pub push_number-requires : goal.push_number-requires
push_number-requires c = (step (goal.at.push_number-requires c).After-clear_inode).held

pub returns-clause-store : goal.returns-clause-store
returns-clause-store c = λ file is.
    freed (seen c.args.volume.now.state c.args.table.now) (seen c.clear_inode.new.volume.state c.args.table.now) (seen c.push_number.new.volume.state c.args.table.now) c.args.ino file (c.clear_inode.ensures file is).writes c.push_number.ensures.store

pub returns-clause-others : goal.returns-clause-others
returns-clause-others c =
    let t = step (goal.at.returns-clause-others c).After-clear_inode in
    let between : State = c.clear_inode.new.volume.state in
    let last : State = c.push_number.new.volume.state in
    listed (seen c.args.volume.now.state c.args.table.now) (seen between c.args.table.now) (seen last c.args.table.now) c.args.ino _ _ _ t.writes c.push_number.ensures.rest
    (volume_seen between c.args.table.now (over between c.args.table.now t.held)) (volume_seen last c.args.table.now (over last c.args.table.now c.push_number.ensures.held))

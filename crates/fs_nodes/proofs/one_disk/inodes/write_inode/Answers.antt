use Rattle.std.proofs.Common.{◌≡◌, ◌/◌, ◌+◌, ◌-◌, ap, ◌∙◌, nat_eq, arith}
use Rattle.std.specs.List.{count_by}
use Rattle.fs_laws.specs.Chain.{free}
use Rattle.fs_blocks.specs.State.{disk}
use Rattle.fs_laws.proofs.ChangeLemmas.{place_is}
use Rattle.fs_nodes.proofs.InodeLemmas.{place_not_free, inode_put}
use Rattle.fs_nodes.proofs.one_disk.inodes.write_inode.Goals as goal

pub change-requires-clause-used : goal.change-requires-clause-used
change-requires-clause-used c =
    let low = c.requires.low in
    let same : (c.args.ino - 1) / 16 + 2 ≡ (c.args.ino + 31) / 16 = omega (arith, low) in
    ap (λ b. count_by (nat_eq b) (free (disk c.args.volume.now.state))) same ∙ place_not_free _ _ (place_is (disk c.args.volume.now.state) c.args.ino c.see.ensures.sound.sound low c.requires.high)

pub returns-clause-written : goal.returns-clause-written
returns-clause-written c =
    let e = c.change.ensures in
    inode_put c.args.volume.now.state c.change.new.self.state c.args.ino _ c.write_node.new.b c.see.ensures.blocks c.see.ensures.sound (place_is (disk c.args.volume.now.state) c.args.ino c.see.ensures.sound.sound c.requires.low c.requires.high)
    c.requires.low c.write_node.array_long c.write_node.ensures e.blocks e.free e.head e.changed

pub returns-clause-stored : goal.returns-clause-stored
returns-clause-stored c = c.change.ensures.stored

use Rattle.std.proofs.Common.{◌≤◌, List, sym, subst}
use Rattle.fs_nodes.specs.declared.one_disk.table.Referenced.{Referenced}
use Rattle.fs_nodes.specs.one_disk.Table.{entries_of}
use Rattle.fs_nodes.proofs.HeldLemmas.{keeps_filled, carried_late}
use Rattle.fs_nodes.proofs.one_disk.table.carry_inode.Goals as goal

pub keep-requires : goal.keep-requires
keep-requires c =
    let P : List Referenced → Type 0 = λ l. 1 ≤ entries_of l c.args.ino in
    subst P (sym c.deref_mut.ensures.value) c.requires

pub returns : goal.returns
returns c old h carries used root =
    carried_late old c.args.volume.now.state c.args.table.now.items _ c.args.ino c.args.node.now c.see.ensures.blocks c.see.ensures.sound
    (keeps_filled c.args.table.now.items c.deref_mut.result.now c.keep.new.table c.args.ino c.args.node.now c.deref_mut.ensures.value c.keep.ensures) c.see_addresses.ensures h carries used root

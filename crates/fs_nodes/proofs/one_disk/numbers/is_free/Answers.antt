use Rattle.std.proofs.Common.{◌&&◌, not, sym, ap, ◌∙◌}
use Rattle.fs_laws.specs.Numbers.{is_free_number}
use Rattle.fs_nodes.specs.one_disk.FileSystem.{store_now}
use Rattle.fs_nodes.specs.one_disk.Numbers.{refers_to}
use Rattle.fs_nodes.specs.one_disk.Table.{seen}
use Rattle.fs_nodes.proofs.NumbersLate.{free_seen, free_alone, entry_not_free}
use Rattle.fs_blocks.proofs.LateLemmas.{late_stays}
use Rattle.fs_nodes.proofs.one_disk.numbers.is_free.Goals as goal

pub returns-in-Some-clause-free : goal.returns-in-Some-clause-free
returns-in-Some-clause-free c = sym (entry_not_free c.args.volume.now.state c.args.table.now c.args.ino _ c.requires c.in-Some.ensures.some.0 c.in-Some.ensures.some.1)

pub returns-in-None-clause-free : goal.returns-in-None-clause-free
returns-in-None-clause-free c = c.is_free_there.ensures.free ∙ sym (free_seen c.args.volume.now.state c.args.table.now c.args.ino c.requires c.in-None.ensures.none)

pub returns-in-Some-clause-spare : goal.returns-in-Some-clause-spare
returns-in-Some-clause-spare c =
    sym (ap (λ t. t && not (refers_to c.args.table.now c.args.ino)) (entry_not_free c.args.volume.now.state c.args.table.now c.args.ino _ c.requires c.in-Some.ensures.some.0 c.in-Some.ensures.some.1))

pub returns-in-None-clause-spare : goal.returns-in-None-clause-spare
returns-in-None-clause-spare c =
    c.is_free_there.ensures.free ∙ sym (free_seen c.args.volume.now.state c.args.table.now c.args.ino c.requires c.in-None.ensures.none)
    ∙ free_alone (is_free_number (store_now (seen c.args.volume.now.state c.args.table.now)) c.args.ino) c.args.table.now c.args.ino c.in-None.ensures.none

pub returns-in-Some-clause-stored : goal.returns-in-Some-clause-stored
returns-in-Some-clause-stored c = late_stays _ _

pub returns-in-None-clause-stored : goal.returns-in-None-clause-stored
returns-in-None-clause-stored c = c.is_free_there.ensures.stored

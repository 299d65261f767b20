use Rattle.std.proofs.Common.{◌∙◌, sym, ap, subst}
use Rattle.fs_nodes.specs.FileSystem.{FileSystem, SameRest}
use Rattle.fs_tree.specs.declared.tree.Tree.{Tree}
use Rattle.sys_files.specs.declared.files.Files.{Files}
use Rattle.fs_nodes.proofs.RestLemmas.{rest_stays}
use Rattle.unix_core.specs.Parts.{system_at, goes_on}
use Rattle.abstract_unix.specs.Outside.{hangup_of}
use Rattle.unix_core.proofs.BootKernelLemmas.{kernel_good}
use Rattle.unix_core.proofs.EventLemmas.{event_takes, event_items}
use Rattle.unix_core.proofs.HangupLemmas.{hangup_goes, hangup_settles}
use Rattle.unix_core.proofs.machine.Machine.hangup.Goals as goal

pub hang_up-requires-clause-good : goal.hang_up-requires-clause-good
hang_up-requires-clause-good g c = let m = c.args.self.now in kernel_good m.stage m.world c.requires.started c.requires.kernel

pub hang_up-requires-clause-timed : goal.hang_up-requires-clause-timed
hang_up-requires-clause-timed g c = (c.requires.kernel.counted (ap goes_on c.requires.started)).timed

pub returns-clause-takes : goal.returns-clause-takes
returns-clause-takes g c =
    event_takes (hangup_of (system_at c.args.self.now.world) c.args.l) (hangup_goes (system_at c.args.self.now.world) c.args.l) (hangup_settles (system_at c.args.self.now.world) c.args.l) c.hang_up.new.self.world c.hang_up.ensures.unix c.hang_up.ensures.board
    _ _ c.settle_anew.ensures.kernel c.settle_anew.ensures.started c.settle_anew.ensures.system

pub returns-clause-rest : goal.returns-clause-rest
returns-clause-rest g c =
    let nodes : FileSystem = c.args.self.now.world.files.tree.nodes in
    subst (λ (x : FileSystem). SameRest nodes x) (ap (λ (t : Tree). t.nodes) (sym c.hang_up.ensures.tree) ∙ ap (λ (f : Files). f.tree.nodes) (sym c.settle_anew.ensures.files))
    (rest_stays nodes.blocks)

pub returns-clause-tree : goal.returns-clause-tree
returns-clause-tree g c = ap (λ (f : Files). f.tree) c.settle_anew.ensures.files ∙ c.hang_up.ensures.tree

pub returns-clause-images : goal.returns-clause-images
returns-clause-images g c = c.settle_anew.ensures.images ∙ c.hang_up.ensures.images

pub returns-clause-items : goal.returns-clause-items
returns-clause-items g c =
    event_items (hangup_of (system_at c.args.self.now.world) c.args.l) (hangup_goes (system_at c.args.self.now.world) c.args.l) (hangup_settles (system_at c.args.self.now.world) c.args.l) c.hang_up.new.self.world c.hang_up.ensures.unix c.hang_up.ensures.board
    _ _ _ c.hang_up.ensures.items c.settle_anew.ensures.items

pub returns-clause-frame : goal.returns-clause-frame
returns-clause-frame g c = g.met.T.Trace.goes_on _ _ _ c.hang_up.ensures.frame c.settle_anew.ensures.frame

use Rattle.std.proofs.Common.{take, sym, ap, ◌∙◌}
use Rattle.fs_codec.specs.Store.{Store}
use Rattle.fs_nodes.specs.one_disk.FileSystem.{store_now}
use Rattle.fs_nodes.specs.one_disk.Table.{seen}
use Rattle.fs_nodes.proofs.NumbersLemmas.{with_spare}
use Rattle.fs_nodes.proofs.NumbersLate.{Lists, lists_late}
use Rattle.fs_nodes.proofs.one_disk.numbers.set_list.Goals as goal
use Rattle.fs_nodes.proofs.one_disk.numbers.set_list.Goals.{After-see_sizes}

step : (c : After-see_sizes) → Lists c.args.volume.now.state c.set_spare.new.self.state c.args.table.now
step c =
    let e = c.set_spare.ensures in
    lists_late c.args.volume.now.state c.set_spare.new.self.state c.args.table.now c.requires.held c.see-2.ensures.blocks c.see-2.ensures.sound c.see_sizes.ensures.sizes e.others e.blocks e.free

pub returns-clause-held : goal.returns-clause-held
returns-clause-held c = (step (goal.at.returns-clause-held c).After-see_sizes).held

pub returns-clause-store : goal.returns-clause-store
returns-clause-store c =
    let e = c.set_spare.ensures in
    let s : Store = store_now (seen c.args.volume.now.state c.args.table.now) in
    (step (goal.at.returns-clause-store c).After-see_sizes).store
    ∙ ap (λ l. with_spare s l c.set_spare.new.self.state.changed) e.spare ∙ ap (with_spare s c.args.list.now) e.changed

pub returns-clause-rest : goal.returns-clause-rest
returns-clause-rest c = (step (goal.at.returns-clause-rest c).After-see_sizes).rest

pub returns-clause-words : goal.returns-clause-words
returns-clause-words c = let e = c.set_spare.ensures in ap (λ n. take n c.set_spare.new.self.state.head.inode) (sym e.count) ∙ e.spare

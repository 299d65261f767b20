use Rattle.std.proofs.Common.{List, sym, subst}
use Rattle.fs_nodes.specs.declared.one_disk.table.Referenced.{Referenced}
use Rattle.fs_nodes.specs.one_disk.Numbers.{Releases}
use Rattle.fs_nodes.proofs.ReleaseLemmas.{releases_when}
use Rattle.fs_nodes.proofs.one_disk.put.release.Goals as goal

pub returns-clause-released : goal.returns-clause-released
returns-clause-released c = λ e here once.
    let P : List Referenced → Type 0 = λ l. Releases c.args.volume.now.state c.save.new.volume.state c.args.table.now.items l e in
    subst P (sym c.remove.ensures.items)
    (releases_when c.args.volume.now.state c.save.new.volume.state c.args.table.now.items c.deref_mut.result.now c.save.new.table c.args.k e c.deref_mut.ensures.value c.requires.held c.requires.place here once c.save.ensures.stays c.save.ensures.table c.see_sizes.ensures.sizes)

pub returns-clause-stored : goal.returns-clause-stored
returns-clause-stored c = c.save.ensures.stored

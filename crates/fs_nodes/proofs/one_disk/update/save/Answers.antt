use Rattle.std.proofs.Common.{◌≡◌, true, false, get_or, sym, subst}
use Rattle.std.proofs.lemmas.List.{get_or_default}
use Rattle.fs_codec.specs.Fields.{fields_of}
use Rattle.fs_nodes.specs.declared.one_disk.table.Referenced.{Referenced}
use Rattle.fs_nodes.specs.one_disk.Inodes.{WritesInode}
use Rattle.fs_nodes.proofs.UpdateLemmas.{saved_either}
use Rattle.fs_nodes.proofs.one_disk.update.save.Goals as goal

pub returns-clause-stays : goal.returns-clause-stays
returns-clause-stays c =
    let is : get_or c.args.table.now c.args.k c.index-table-k-2.result ≡ get_or c.args.table.now c.args.k c.index-table-k.result =
    get_or_default c.args.table.now c.args.k c.index-table-k-2.result c.index-table-k.result c.requires.low in
    let P : Referenced → Type 0 = λ r. r.is_changed ≡ true → WritesInode c.args.volume.now.state r.ino (fields_of r.node) c.write_entry.new.volume.state in
    let Q : Referenced → Type 0 = λ r. r.is_changed ≡ false → c.write_entry.new.volume.state ≡ c.args.volume.now.state in
    saved_either c.args.volume.now.state c.write_entry.new.volume.state c.args.table.now c.args.k c.index-table-k-2.result c.requires.held c.requires.low c.see_sizes.ensures.sizes c.see_sizes-2.ensures.sizes c.see.ensures.blocks
    (subst P (sym is) c.write_entry.ensures.written) (subst Q (sym is) c.write_entry.ensures.same)

pub returns-clause-stored : goal.returns-clause-stored
returns-clause-stored c = c.write_entry.ensures.stored

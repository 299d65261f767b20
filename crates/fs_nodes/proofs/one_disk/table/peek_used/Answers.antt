use Rattle.std.proofs.Common.{◌≡◌, Option, None, sym, subst}
use Rattle.std.specs.Prelude.{MatchOption}
use Rattle.fs_codec.specs.Store.{Node}
use Rattle.fs_nodes.specs.one_disk.FileSystem.{ShowsNode}
use Rattle.fs_nodes.specs.one_disk.Table.{seen}
use Rattle.fs_nodes.proofs.NodesLemmas.{shows_entry}
use Rattle.fs_nodes.proofs.PeekLemmas.{number_seen}
use Rattle.fs_blocks.proofs.LateLemmas.{late_stays}
use Rattle.fs_nodes.proofs.one_disk.table.peek_used.Goals as goal

pub returns-in-Some-clause-used : goal.returns-in-Some-clause-used
returns-in-Some-clause-used c =
    shows_entry (seen c.args.volume.now.state c.args.table.now) c.args.table.now c.args.ino c.in-Some.k c.index-table-k.result c.requires.nodes.table c.in-Some.ensures.some.0 (c.in-Some.ensures.some.1 c.index-table-k.result)

pub returns-clause-used : goal.returns-clause-used
returns-clause-used c =
    let P : Option Node → Type 0 = λ found. MatchOption c.read_used.result (found ≡ None) (λ node. ShowsNode found node) in
    subst P (sym (number_seen c.args.volume.now.state c.args.table.now c.args.ino c.requires c.in_default.ensures.none)) c.read_used.ensures.used

pub returns-in-Some-clause-stored : goal.returns-in-Some-clause-stored
returns-in-Some-clause-stored c = late_stays _ _

pub returns-clause-stored : goal.returns-clause-stored
returns-clause-stored c = c.read_used.ensures.stored

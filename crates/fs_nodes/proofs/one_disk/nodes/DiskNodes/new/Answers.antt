use Rattle.std.proofs.Common.{◌+◌, List, replicate, sym, ap, ◌∙◌, subst}
use Rattle.fs_codec.specs.Disk.{inode_count}
use Rattle.fs_laws.proofs.WholeLemmas.{whole_is}
use Rattle.fs_blocks.specs.State.{disk}
use Rattle.fs_nodes.specs.declared.one_disk.table.Referenced.{Referenced}
use Rattle.fs_nodes.specs.one_disk.FileSystem.{store_now}
use Rattle.fs_nodes.specs.one_disk.Table.{references_in, seen, IsHeld}
use Rattle.fs_nodes.proofs.TableLemmas.{no_references}
use Rattle.fs_nodes.proofs.NodesLemmas.{count_is}
use Rattle.fs_nodes.proofs.LateLemmas.{held_none, over_none, store_none}
use Rattle.fs_nodes.proofs.one_disk.nodes.DiskNodes.new.Goals as goal

pub invariant_of-result : goal.invariant_of-result
invariant_of-result c =
    let P : List Referenced → Type 0 = IsHeld c.args.volume.state in
    subst P (sym c.new.ensures) (held_none c.args.volume.state (whole_is (disk c.args.volume.state) c.requires.sound) c.see.ensures.blocks c.see.ensures.sound c.see_sizes.ensures.sizes)

pub returns-clause-store : goal.returns-clause-store
returns-clause-store c =
    ap (λ (es : List Referenced). store_now (seen c.args.volume.state es)) c.new.ensures
    ∙ store_none c.args.volume.state (over_none c.args.volume.state c.see.ensures.blocks c.see.ensures.sound)

pub returns-clause-none : goal.returns-clause-none
returns-clause-none c =
    ap (references_in (inode_count (disk c.args.volume.state))) c.new.ensures ∙ no_references (inode_count (disk c.args.volume.state))
    ∙ ap (λ n. replicate (n + 1) 0) (sym (count_is (seen c.args.volume.state c.new.result.items)))

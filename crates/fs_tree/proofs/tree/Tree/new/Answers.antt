use Rattle.std.proofs.Common.{ℕ, None, ap, ◌∙◌, arith}
use Rattle.mount_tab.specs.Mounted.{MountTable}
use Rattle.fs_tree.proofs.tree.Tree.new.Goals as goal

pub returns-clause-mounts : goal.returns-clause-mounts
returns-clause-mounts c = λ few.
    let count = c.root_count-count.ensures in
    let of_first : ℕ → MountTable = λ n. record { first = n; second = 0; covered = None } in
    c.new-mounts.ensures ∙ ap of_first (c.word-first.ensures (omega (arith, few, count)) ∙ count)

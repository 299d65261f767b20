use Rattle.std.proofs.Common.{◌∙◌, ℕ, None, ap, arith}
use Rattle.mount_tab.specs.Mounted.{MountTable}
use Rattle.fs_tree.proofs.MountLemmas.{new_mounts}
use Rattle.unix_core.proofs.boot.one_mounts.Goals as goal

pub word-first-requires : goal.word-first-requires
word-first-requires c = let few = c.requires.few in let count = c.root_count.ensures in omega (arith, few, count)

pub new-requires : goal.new-requires
new-requires c =
    let few = c.requires.few in
    let count = c.root_count.ensures in
    let first = c.word-first.ensures in
    omega (arith, few, count, first)

pub returns-clause-mounts : goal.returns-clause-mounts
returns-clause-mounts c =
    let of_first : ℕ → MountTable = λ n. record { first = n; second = 0; covered = None } in
    new_mounts c.new.result c.args.nodes.now.store
    (c.new.ensures ∙ ap of_first (c.word-first.ensures ∙ c.root_count.ensures)) c.requires.one

pub returns-clause-uncovered : goal.returns-clause-uncovered
returns-clause-uncovered c = ap (λ (m : MountTable). m.covered) c.new.ensures

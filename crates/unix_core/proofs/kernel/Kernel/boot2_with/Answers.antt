use Rattle.std.proofs.Common.{◌≡◌, ◌∙◌, Some, sym, ap, subst}
use Rattle.fs_nodes.specs.Keys.{Stores}
use Rattle.fs_tree.specs.Mounting.{AreMounts}
use Rattle.abstract_unix.specs.Runs.{boots}
use Rattle.abstract_unix.proofs.FirstTidy.{few_keys}
use Rattle.unix_core.specs.Boots.{RefusesBoot2, blocks_on, swap_on, core_on}
use Rattle.unix_core.specs.Parts.{AreFirst}
use Rattle.unix_core.proofs.BootLemmas.{boots_as, second_fine, second_good, ok_mapped, no_error}
use Rattle.unix_core.proofs.kernel.Kernel.boot2_with.Goals as goal

pub returns-in-Some-clause-refused : goal.returns-in-Some-clause-refused
returns-in-Some-clause-refused c = (c.in_default.ensures, sym c.second_fault.ensures ∙ c.in-Some.is)

pub file_systems_of-requires-clause-second : goal.file_systems_of-requires-clause-second
file_systems_of-requires-clause-second c = second_good c.args.image.now c.args.second.now (sym c.second_fault.ensures ∙ c.in_default-second_fault.is)

pub file_systems_of-requires-clause-few : goal.file_systems_of-requires-clause-few
file_systems_of-requires-clause-few c =
    few_keys c.args.image.now (Some c.args.second.now) c.in_default.ensures (second_fine c.args.image.now c.args.second.now (sym c.second_fault.ensures ∙ c.in_default-second_fault.is))

pub two_mounts-mounts-requires : goal.two_mounts-mounts-requires
two_mounts-mounts-requires c =
    few_keys c.args.image.now (Some c.args.second.now) c.in_default.ensures (second_fine c.args.image.now c.args.second.now (sym c.second_fault.ensures ∙ c.in_default-second_fault.is))

pub new-requires-clause-mounts : goal.new-requires-clause-mounts
new-requires-clause-mounts c =
    subst (λ (s : Stores). AreMounts c.two_mounts-mounts.result s) (sym c.in-Ok.ensures.store) c.two_mounts-mounts.ensures.mounts

pub new-requires-clause-procs : goal.new-requires-clause-procs
new-requires-clause-procs c =
    subst (λ n. AreFirst c.in-Ok-rooms_of.rooms.procs c.args.core n)
    (c.in-Ok.ensures.time ∙ sym (ap (λ (s : Stores). s.root.stamp) c.in-Ok.ensures.store)) c.in-Ok-rooms_of.ensures.procs

pub returns-clause-system : goal.returns-clause-system
returns-clause-system c =
    ok_mapped c.new.result _ (λ kernel. boots c.args.image.now (Some c.args.second.now) c.args.core c.args.lines ≡ Some kernel.system)
    (λ kernel is. boots_as c.args.image.now (Some c.args.second.now) c.args.core c.args.lines c.in-Ok.nodes.store kernel.system c.in_default.ensures
    (second_fine c.args.image.now c.args.second.now (sym c.second_fault.ensures ∙ c.in_default-second_fault.is))
    c.in-Ok.ensures.store is) c.new.ensures.system

pub returns-clause-blocks : goal.returns-clause-blocks
returns-clause-blocks c =
    ok_mapped c.new.result _ (λ kernel. kernel.blocks ≡ blocks_on c.args.image.now (Some c.args.second.now))
    (λ kernel is. is ∙ c.in-Ok.ensures.blocks) c.new.ensures.blocks

pub returns-clause-stored : goal.returns-clause-stored
returns-clause-stored c =
    ok_mapped c.new.result _ (λ kernel. kernel.stored ≡ blocks_on c.args.image.now (Some c.args.second.now))
    (λ kernel is. is ∙ c.in-Ok.ensures.stored) c.new.ensures.stored

pub returns-clause-swap : goal.returns-clause-swap
returns-clause-swap c =
    ok_mapped c.new.result _ (λ kernel. kernel.swap ≡ swap_on c.args.image.now)
    (λ kernel is. is ∙ c.in-Ok-rooms_of.ensures.swap) c.new.ensures.swap

pub returns-clause-core : goal.returns-clause-core
returns-clause-core c =
    ok_mapped c.new.result _ (λ kernel. kernel.core ≡ core_on c.args.core)
    (λ kernel is. is ∙ c.in-Ok-rooms_of.ensures.core) c.new.ensures.core

pub returns-clause-refused : goal.returns-clause-refused
returns-clause-refused c = no_error c.new.result (RefusesBoot2 c.args.image.now c.args.second.now) c.new.ensures.made

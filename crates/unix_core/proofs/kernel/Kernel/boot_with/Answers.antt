use Rattle.std.proofs.Common.{◌≡◌, ◌∙◌, ◌≤◌, None, Some, refl, sym, ap, subst}
use Rattle.fs_nodes.specs.Keys.{Stores}
use Rattle.abstract_unix.specs.Runs.{boots}
use Rattle.abstract_unix.proofs.FirstTidy.{few_nodes}
use Rattle.unix_core.specs.Boots.{RefusesBoot, blocks_on, swap_on, core_on}
use Rattle.unix_core.specs.Parts.{AreFirst}
use Rattle.unix_core.proofs.BootLemmas.{boots_as, ok_mapped, no_error}
use Rattle.unix_core.proofs.kernel.Kernel.boot_with.Goals as goal

pub one_mounts-mounts-requires-clause-one : goal.one_mounts-mounts-requires-clause-one
one_mounts-mounts-requires-clause-one c = ap (λ (s : Stores). s.second) c.in-Ok.ensures.store

pub one_mounts-mounts-requires-clause-few : goal.one_mounts-mounts-requires-clause-few
one_mounts-mounts-requires-clause-few c =
    subst (λ (s : Stores). s.root.count ≤ 65535) (sym c.in-Ok.ensures.store) (few_nodes c.args.image.now c.in_default.ensures)

pub new-requires-clause-procs : goal.new-requires-clause-procs
new-requires-clause-procs c =
    subst (λ n. AreFirst c.in-Ok-rooms_of.rooms.procs c.args.core n)
    (c.in-Ok.ensures.time ∙ sym (ap (λ (s : Stores). s.root.stamp) c.in-Ok.ensures.store)) c.in-Ok-rooms_of.ensures.procs

pub returns-clause-system : goal.returns-clause-system
returns-clause-system c =
    ok_mapped c.new.result _ (λ kernel. boots c.args.image.now None c.args.core c.args.lines ≡ Some kernel.system)
    (λ kernel is. boots_as c.args.image.now None c.args.core c.args.lines c.in-Ok.nodes.store kernel.system c.in_default.ensures refl
    c.in-Ok.ensures.store is) c.new.ensures.system

pub returns-clause-blocks : goal.returns-clause-blocks
returns-clause-blocks c =
    ok_mapped c.new.result _ (λ kernel. kernel.blocks ≡ blocks_on c.args.image.now None)
    (λ kernel is. is ∙ c.in-Ok.ensures.blocks) c.new.ensures.blocks

pub returns-clause-stored : goal.returns-clause-stored
returns-clause-stored c =
    ok_mapped c.new.result _ (λ kernel. kernel.stored ≡ blocks_on c.args.image.now None)
    (λ kernel is. is ∙ c.in-Ok.ensures.stored) c.new.ensures.stored

pub returns-clause-swap : goal.returns-clause-swap
returns-clause-swap c =
    ok_mapped c.new.result _ (λ kernel. kernel.swap ≡ swap_on c.args.image.now)
    (λ kernel is. is ∙ c.in-Ok-rooms_of.ensures.swap) c.new.ensures.swap

pub returns-clause-core : goal.returns-clause-core
returns-clause-core c =
    ok_mapped c.new.result _ (λ kernel. kernel.core ≡ core_on c.args.core)
    (λ kernel is. is ∙ c.in-Ok-rooms_of.ensures.core) c.new.ensures.core

pub returns-clause-refused : goal.returns-clause-refused
returns-clause-refused c = no_error c.new.result (RefusesBoot c.args.image.now) c.new.ensures.made

use Rattle.std.proofs.Common.{◌≡◌, ◌∙◌, ℕ, sym, ap}
use Rattle.v6_base.specs.Image.{Image}
use Rattle.u_area.specs.declared.area.UArea.{UArea}
use Rattle.image_keep.specs.State.{ImagesState}
use Rattle.image_keep.specs.Kept as kept
use Rattle.fs_tree.specs.Name.{name_at}
use Rattle.fs_tree.specs.Finding.{Finding, inodes_of, find_in}
use Rattle.sys_procs.specs.Handed.{IsAlive, process_here}
use Rattle.sys_procs.specs.inside.Handed.{memory_here}
use Rattle.sys_procs.proofs.Alive.{calls_alive, area_here}
use Rattle.sys_procs.proofs.MemoryLemmas.{image_here}
use Rattle.sys_procs.proofs.tested.find_program.Goals as goal

alive : (c : goal.After-find_name) → IsAlive c.args.p.now c.args.s
alive c = calls_alive c.args.p.now c.args.tree.now.nodes c.args.s c.requires.calls

area : (c : goal.After-find_name) → c.area-u.result ≡ (process_here c.args.p.now c.args.s).u
area c = c.area-u.ensures.u ∙ area_here c.args.p.now c.args.s (alive c)

image : (c : goal.After-find_name)
    → kept.image_of c.space-space.result.images.now.kept c.space-space.result.slot
    ≡ memory_here c.args.p.now c.args.s
image c =
    sym (image_here c.args.p.now c.args.s (alive c) c.area-u.ensures.holds
    ∙ (ap (λ (i : ImagesState). kept.image_of i.kept c.args.s) (sym c.space-space.ensures.images)
    ∙ ap (λ n. kept.image_of c.space-space.result.images.now.kept n) (sym c.space-space.ensures.slot)))

-- a search of the name for a process with such an area and such a memory
abbrev search_in : goal.After-find_name → UArea → Image → Finding ℕ
search_in c u m =
    find_in (inodes_of c.args.tree.now.nodes) c.args.tree.now.mounts (record { uid = u.uid; gid = u.gid }) u.dir
    (name_at m c.args.name)

pub returns-clause-answer : goal.returns-clause-answer
returns-clause-answer c = c.find_name.ensures.answer ∙ (λ i. (search_in c (area c i) (image c i)).answer)

pub returns-clause-inodes : goal.returns-clause-inodes
returns-clause-inodes c = c.find_name.ensures.inodes ∙ (λ i. (search_in c (area c i) (image c i)).inodes)

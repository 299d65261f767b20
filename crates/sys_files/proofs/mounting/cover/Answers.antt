use Rattle.std.proofs.Common.{◌≡◌, true, Err, sym, ap, ◌∙◌, arith}
use Rattle.v6_base.specs.declared.errno.Errno.TheVariants.{EBUSY}
use Rattle.mount_tab.specs.Mounted.{MountTable}
use Rattle.fs_tree.specs.Finding.{inodes_of}
use Rattle.sys_files.specs.Handed.{Handed, handed}
use Rattle.sys_files.specs.Did.{unnamed, is_done}
use Rattle.sys_files.specs.Mounting.{can_cover}
use Rattle.sys_files.proofs.GivingLemmas.{gives}
use Rattle.sys_files.proofs.PartLemmas.{until_told}
use Rattle.sys_files.proofs.MountingLemmas.{can_parts, covers_not, covers_it, covered_now}
use Rattle.sys_files.proofs.mounting.cover.Goals as goal

pub returns-then-not-can_cover-clause-did : goal.returns-then-not-can_cover-clause-did
returns-then-not-can_cover-clause-did c = λ u row image.
    let h : Handed = handed c.args.f.now u row image in
    ap unnamed (covers_not h c.args.device c.args.dir (sym (c.can_cover.ensures.can u row image) ∙ c.if-not-can_cover.true))
    ∙ until_told h c.args.dir (Err EBUSY) (inodes_of c.let_go.new.nodes) c.let_go.ensures.inodes

pub returns-then-not-can_cover-clause-more : goal.returns-then-not-can_cover-clause-more
returns-then-not-can_cover-clause-more c = λ i.
    let less = (gives c.args.f.now.tree.nodes c.let_go.new.nodes c.args.dir c.requires.referenced c.let_go.ensures.inodes
    c.let_go.ensures.rest).references i in
    omega (arith, less)

pub cover-requires : goal.cover-requires
cover-requires c = c.requires.there (c.can_cover.ensures.other c.if-not-can_cover.false)

pub returns-clause-did : goal.returns-clause-did
returns-clause-did c = λ u row image.
    let h : Handed = handed c.args.f.now u row image in
    let yes : can_cover h c.args.device c.args.dir ≡ true = sym (c.can_cover.ensures.can u row image)
    ∙ c.if-not-can_cover.false in
    ap unnamed (covers_it h c.args.device c.args.dir yes)
    ∙ ap (λ (m : MountTable). is_done (record h { mounts = m }))
    (sym (covered_now c.args.f.now.tree.mounts c.cover.new.self c.args.dir
    c.cover.result c.cover.ensures (can_parts h c.args.device c.args.dir yes).free))

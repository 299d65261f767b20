use Rattle.std.proofs.Common.{Some, None, Ok, sym, ap, ◌∙◌}
use Rattle.v6_base.specs.declared.errno.Errno.TheVariants.{EINVAL}
use Rattle.mount_tab.specs.Mounted.{MountTable}
use Rattle.fs_tree.specs.Finding.{inodes_of}
use Rattle.sys_files.specs.Handed.{Handed, handed}
use Rattle.sys_files.specs.Did.{unnamed, fails, is_done, until_end}
use Rattle.sys_files.proofs.PartLemmas.{until_told}
use Rattle.sys_files.proofs.MountingLemmas.{not_mounted, in_use, uncovers_it}
use Rattle.sys_files.proofs.mounting.unmount_disk.Goals as goal

pub returns-then-is_unmounted-clause-did : goal.returns-then-is_unmounted-clause-did
returns-then-is_unmounted-clause-did c = λ u row image.
    ap unnamed (not_mounted (handed c.args.f.now u row image) c.args.device (sym c.is_unmounted.ensures
    ∙ c.if-is_unmounted.true))

pub returns-then-is_in_use-clause-did : goal.returns-then-is_in_use-clause-did
returns-then-is_in_use-clause-did c = λ u row image.
    ap unnamed (in_use (handed c.args.f.now u row image) c.args.device (sym c.is_unmounted.ensures ∙ c.if-is_unmounted.false)
    (sym (c.is_in_use.ensures u row image) ∙ c.if-is_in_use.true))

pub let_go-requires : goal.let_go-requires
let_go-requires c = record { referenced = c.requires c.in-Ok.dir c.in-Ok.ensures.0 }

pub returns-in-Ok-clause-did : goal.returns-in-Ok-clause-did
returns-in-Ok-clause-did c = λ u row image.
    let h : Handed = handed c.args.f.now u row image in
    ap unnamed (uncovers_it h c.args.device (sym c.is_unmounted.ensures ∙ c.if-is_unmounted.false)
    (sym (c.is_in_use.ensures u row image) ∙ c.if-is_in_use.false) (Some c.in-Ok.dir) c.in-Ok.ensures.0)
    ∙ ap (λ (m : MountTable). unnamed (until_end c.in-Ok.dir (is_done (record h { mounts = m })))) (sym c.in-Ok.ensures.1)
    ∙ until_told (record h { mounts = c.uncover.new.self }) c.in-Ok.dir (Ok tt) (inodes_of c.let_go.new.nodes)
    c.let_go.ensures.inodes

pub returns-in-Err-clause-did : goal.returns-in-Err-clause-did
returns-in-Err-clause-did c = λ u row image.
    let h : Handed = handed c.args.f.now u row image in
    ap unnamed (uncovers_it h c.args.device (sym c.is_unmounted.ensures ∙ c.if-is_unmounted.false)
    (sym (c.is_in_use.ensures u row image) ∙ c.if-is_in_use.false) None c.in-Err.ensures.0)
    ∙ ap (λ (m : MountTable). fails (record h { mounts = m }) EINVAL) (sym c.in-Err.ensures.1)

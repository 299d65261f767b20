use Rattle.std.proofs.Common.{refl}
use Rattle.fs_nodes.proofs.CountLaws.{counts_synced}
use Rattle.sys_files.specs.Handed.{Handed, handed}
use Rattle.sys_files.specs.Names.{sync_all}
use Rattle.sys_files.proofs.DoesLemmas.{does_quietly}
use Rattle.sys_files.proofs.KeptLemmas.{kept_same}
use Rattle.sys_files.proofs.names.sync_all.Goals as goal

pub returns-clause-does : goal.returns-clause-does
returns-clause-does g c =
    let h : Handed = handed c.args.f.now c.args.u.now c.args.row.now (g.S.Space.image c.args.space.now) in
    does_quietly (sync_all h c.args.now) refl c.done.ensures
    (λ i. record h { inodes = record { store = c.update_all.ensures.store i; references = c.update_all.ensures.references i } })
    refl
    (kept_same h (sync_all h c.args.now).state c.requires.sound refl refl refl refl refl refl
    (counts_synced h.inodes.store c.args.now))

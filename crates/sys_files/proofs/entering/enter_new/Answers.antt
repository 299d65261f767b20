use Rattle.std.proofs.Common.{◌≡◌, Result, Err, rules, sym, ap, ◌∙◌}
use Rattle.v6_base.specs.declared.errno.Errno.{Errno}
use Rattle.fs_codec.specs.Bytes.{entry_bytes}
use Rattle.fs_tree.specs.Finding.{Inodes}
use Rattle.sys_files.specs.Handed.{Handed, handed, number_of, with_inodes}
use Rattle.sys_files.specs.Did.{check}
use Rattle.sys_files.specs.Making.{entry_written, with_links}
use Rattle.sys_files.proofs.PartLemmas.{searched, not_searched}
use Rattle.sys_files.proofs.entering.enter_new.Goals as goal

pub returns-in_err-enter-clause-did : goal.returns-in_err-enter-clause-did
returns-in_err-enter-clause-did c = λ row image next.
    let h : Handed = handed c.args.f.now c.args.u.now row image in
    let after : Handed = handed (record c.args.f.now { tree = c.enter.new.tree }) c.args.u.now row image in
    let is : Err c.in_err-enter.field-0.0 ≡ c.from_residual.result = search rules in
    not_searched h after (entry_written h.inodes c.args.room.dir c.args.room.offset
    (entry_bytes (record { ino = number_of h c.args.ino; name = c.args.room.name })) c.args.now)
    (λ now done. next (with_links now c.args.ino 1 c.args.now) c.args.ino)
    (λ i. record h { inodes = c.enter.ensures.inodes i; marks = c.enter.ensures.marks i; mounts = c.enter.ensures.mounts i })
    c.in_err-enter.field-0.0 c.in_err-enter.ensures.answer
    ∙ ap (λ (r : Result (Unit {0}) Errno). check after r (λ done. next after c.args.ino)) is

pub returns-clause-did : goal.returns-clause-did
returns-clause-did c = λ row image next.
    let h : Handed = handed c.args.f.now c.args.u.now row image in
    let after : Handed = handed (record c.args.f.now { tree = c.enter.new.tree }) c.args.u.now row image in
    searched h after (entry_written h.inodes c.args.room.dir c.args.room.offset
    (entry_bytes (record { ino = number_of h c.args.ino; name = c.args.room.name })) c.args.now)
    (λ now done. next (with_links now c.args.ino 1 c.args.now) c.args.ino)
    (λ i. record h { inodes = c.enter.ensures.inodes i; marks = c.enter.ensures.marks i; mounts = c.enter.ensures.mounts i })
    c.in_ok-enter.field-0 c.in_ok-enter.ensures.answer
    ∙ ap (λ (n : Inodes). next (with_inodes after n) c.args.ino) (sym c.set_links.ensures.inodes)

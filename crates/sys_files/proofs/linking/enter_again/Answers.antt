use Rattle.std.proofs.Common.{◌≡◌, ◌+◌, Err, rules, refl, sym, ap, ◌∙◌, arith}
use Rattle.fs_codec.specs.Bytes.{entry_bytes}
use Rattle.mount_tab.specs.Mounted.{split_of}
use Rattle.fs_tree.specs.Finding.{Inodes, inodes_of}
use Rattle.sys_files.specs.Handed.{handed, node_in}
use Rattle.sys_files.specs.Did.{is_done}
use Rattle.sys_files.specs.Entering.{did_of}
use Rattle.sys_files.proofs.LinkingLemmas.{again_refused, again_unwritten, again_written}
use Rattle.sys_files.proofs.LinksLemmas.{entry_written-links}
use Rattle.sys_files.proofs.linking.enter_again.Goals as goal

pub overflow_add-nlink : goal.overflow_add-nlink
overflow_add-nlink c =
    let n = inodes_of c.args.f.now.tree.nodes in
    let few = c.requires.few in
    let same : (node_in c.enter.new.tree.nodes.store c.args.ino).nlink
    ≡ (node_in c.args.f.now.tree.nodes.store c.args.ino).nlink =
    ap (λ (m : Inodes). (node_in m.store c.args.ino).nlink) c.enter.ensures.inodes
    ∙ entry_written-links n c.args.room.dir c.args.room.offset
    (entry_bytes (record { ino = (split_of c.args.f.now.tree.mounts c.args.ino).1; name = c.args.room.name })) c.args.now
    c.args.ino in
    omega (arith, c.links_of-nlink.ensures, few, same)

pub returns-then-not-is_one_disk-clause-did : goal.returns-then-not-is_one_disk-clause-did
returns-then-not-is_one_disk-clause-did c = λ row image.
    again_refused (handed c.args.f.now c.args.u.now row image) c.args.ino c.args.now c.args.room.dir c.args.room.offset
    c.args.room.name (sym (c.is_one_disk.ensures.is c.args.u.now row image) ∙ c.if-not-is_one_disk.true)

pub enter-requires-clause-disk : goal.enter-requires-clause-disk
enter-requires-clause-disk c = c.is_one_disk.ensures.same c.if-not-is_one_disk.false

pub returns-in_err-enter-clause-did : goal.returns-in_err-enter-clause-did
returns-in_err-enter-clause-did c = λ row image.
    let is : Err c.in_err-enter.field-0.0 ≡ c.from_residual.result = search rules in
    again_unwritten (handed c.args.f.now c.args.u.now row image) c.args.ino c.args.now c.args.room.dir c.args.room.offset
    c.args.room.name c.in_err-enter.field-0.0 _
    (sym (c.is_one_disk.ensures.is c.args.u.now row image) ∙ c.if-not-is_one_disk.false) c.in_err-enter.ensures.answer
    c.enter.ensures.inodes
    ∙ ap (λ marks. did_of (handed (record c.args.f.now {
      tree = record c.enter.new.tree { marks = marks; mounts = c.args.f.now.tree.mounts };
    }) c.args.u.now row image) (Err c.in_err-enter.field-0.0)) (sym c.enter.ensures.marks)
    ∙ ap (λ mounts. did_of (handed (record c.args.f.now { tree = record c.enter.new.tree { mounts = mounts } }) c.args.u.now row
    image) (Err c.in_err-enter.field-0.0)) (sym c.enter.ensures.mounts)
    ∙ ap (did_of (handed (record c.args.f.now { tree = c.enter.new.tree }) c.args.u.now row image)) is

pub returns-clause-did : goal.returns-clause-did
returns-clause-did c = λ row image.
    again_written (handed c.args.f.now c.args.u.now row image) c.args.ino c.args.now c.args.room.dir c.args.room.offset
    c.args.room.name c.in_ok-enter.field-0 _ _ c.links_of-nlink.result (c.links_of-nlink.result + 1)
    (sym (c.is_one_disk.ensures.is c.args.u.now row image) ∙ c.if-not-is_one_disk.false) c.in_ok-enter.ensures.answer
    c.enter.ensures.inodes c.links_of-nlink.ensures refl c.set_links.ensures.inodes
    ∙ ap (λ marks. is_done (handed (record c.args.f.now {
      tree = record { nodes = c.set_links.new.nodes; marks = marks; mounts = c.args.f.now.tree.mounts };
    }) c.args.u.now row image)) (sym c.enter.ensures.marks)
    ∙ ap (λ mounts. is_done (handed (record c.args.f.now {
      tree = record { nodes = c.set_links.new.nodes; marks = c.enter.new.tree.marks; mounts = mounts };
    }) c.args.u.now row image)) (sym c.enter.ensures.mounts)

use Rattle.std.proofs.Common.{◌≡◌, Err, rules, sym, ap, ◌∙◌}
use Rattle.sys_files.specs.Handed.{handed}
use Rattle.sys_files.specs.Did.{is_done}
use Rattle.sys_files.specs.Entering.{did_of}
use Rattle.sys_files.proofs.LinkingLemmas.{unlink_refused, unlink_busy, unlink_unwritten, unlink_written}
use Rattle.sys_files.proofs.linking.remove_entry.Goals as goal

pub returns-then-not-may_link-clause-did : goal.returns-then-not-may_link-clause-did
returns-then-not-may_link-clause-did c = λ row image.
    unlink_refused (handed c.args.f.now c.args.u.now row image) c.args.dir c.args.offset c.args.ino c.args.now
    (sym (c.may_link.ensures row image) ∙ c.if-not-may_link.true)

pub returns-then-is_covered-clause-did : goal.returns-then-is_covered-clause-did
returns-then-is_covered-clause-did c = λ row image.
    unlink_busy (handed c.args.f.now c.args.u.now row image) c.args.dir c.args.offset c.args.ino c.args.now
    (sym (c.may_link.ensures row image) ∙ c.if-not-may_link.false)
    (sym (c.is_covered.ensures c.args.u.now row image) ∙ c.if-is_covered.true)

pub returns-in_err-empty-clause-did : goal.returns-in_err-empty-clause-did
returns-in_err-empty-clause-did c = λ row image.
    let is : Err c.in_err-empty.field-0.0 ≡ c.from_residual.result = search rules in
    unlink_unwritten (handed c.args.f.now c.args.u.now row image) c.args.dir c.args.offset c.args.ino c.args.now
    c.in_err-empty.field-0.0 _
    (sym (c.may_link.ensures row image) ∙ c.if-not-may_link.false)
    (sym (c.is_covered.ensures c.args.u.now row image) ∙ c.if-is_covered.false) c.in_err-empty.ensures.answer
    c.empty.ensures.inodes
    ∙ ap (λ marks. did_of (handed (record c.args.f.now {
      tree = record c.empty.new.tree { marks = marks; mounts = c.args.f.now.tree.mounts };
    }) c.args.u.now row image) (Err c.in_err-empty.field-0.0)) (sym c.empty.ensures.marks)
    ∙ ap (λ mounts. did_of (handed (record c.args.f.now { tree = record c.empty.new.tree { mounts = mounts } }) c.args.u.now row
    image) (Err c.in_err-empty.field-0.0)) (sym c.empty.ensures.mounts)
    ∙ ap (did_of (handed (record c.args.f.now { tree = c.empty.new.tree }) c.args.u.now row image)) is

pub returns-clause-did : goal.returns-clause-did
returns-clause-did c = λ row image.
    unlink_written (handed c.args.f.now c.args.u.now row image) c.args.dir c.args.offset c.args.ino c.args.now
    c.in_ok-empty.field-0 _ _ c.links_of-nlink.result c.saturating_sub.result
    (sym (c.may_link.ensures row image) ∙ c.if-not-may_link.false)
    (sym (c.is_covered.ensures c.args.u.now row image) ∙ c.if-is_covered.false) c.in_ok-empty.ensures.answer
    c.empty.ensures.inodes
    c.links_of-nlink.ensures c.saturating_sub.ensures c.set_links.ensures.inodes
    ∙ ap (λ marks. is_done (handed (record c.args.f.now {
      tree = record { nodes = c.set_links.new.nodes; marks = marks; mounts = c.args.f.now.tree.mounts };
    }) c.args.u.now row image)) (sym c.empty.ensures.marks)
    ∙ ap (λ mounts. is_done (handed (record c.args.f.now {
      tree = record { nodes = c.set_links.new.nodes; marks = c.empty.new.tree.marks; mounts = mounts };
    }) c.args.u.now row image)) (sym c.empty.ensures.mounts)

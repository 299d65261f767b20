use Rattle.std.proofs.Common.{◌≡◌, Err, rules, ap, ◌∙◌}
use Rattle.fs_tree.specs.Name.{name_at}
use Rattle.fs_tree.specs.Finding.{inodes_of, remove_in}
use Rattle.sys_files.specs.Handed.{Handed, handed, user_of, with_inodes}
use Rattle.sys_files.specs.Did.{unnamed, until_end}
use Rattle.sys_files.specs.Entering.{did_of}
use Rattle.sys_files.specs.Making.{empties, removes, found_to_remove}
use Rattle.sys_files.proofs.EnteringLemmas.{taken}
use Rattle.sys_files.proofs.GivingLemmas.{gives, takes_gives, gives_first}
use Rattle.sys_files.proofs.PartLemmas.{searched, not_searched, unnamed_told, unnamed_directory, until}
use Rattle.sys_files.proofs.linking.unlink.Goals as goal

pub returns-in_err-dir-clause-did : goal.returns-in_err-dir-clause-did
returns-in_err-dir-clause-did g c = λ row.
    let h : Handed = handed c.args.f.now c.args.u.now row (g.S.Space.image c.args.space.now) in
    let after : Handed = handed (record c.args.f.now { tree = c.find_to_remove.new.tree }) c.args.u.now row
    (g.S.Space.image c.args.space.now) in
    let is : Err c.in_err-dir.field-0.0 ≡ c.from_residual.result = search rules in
    unnamed_directory (found_to_remove h c.args.name) _
    ∙ ap unnamed (not_searched h after (remove_in h.inodes h.mounts h.marks (user_of h.u) h.u.dir (name_at h.image c.args.name))
    (removes c.args.now)
    (λ i. record h { inodes = c.find_to_remove.ensures.inodes i; marks = c.find_to_remove.ensures.marks i; mounts = c.find_to_remove.ensures.mounts i })
    c.in_err-dir.field-0.0 c.in_err-dir.ensures.answer)
    ∙ ap (did_of after) is

pub returns-clause-did : goal.returns-clause-did
returns-clause-did g c = λ row.
    let image = g.S.Space.image c.args.space.now in
    let h : Handed = handed c.args.f.now c.args.u.now row image in
    let after : Handed = handed (record c.args.f.now { tree = c.find_to_remove.new.tree }) c.args.u.now row image in
    let end : Handed = handed c.remove_entry-result.new.f c.args.u.now row image in
    let dir = c.in_ok-dir.dir in
    let ino = c.in_ok-dir.ino in
    let result = c.remove_entry-result.result in
    unnamed_directory (found_to_remove h c.args.name) _
    ∙ ap unnamed (searched h after (remove_in h.inodes h.mounts h.marks (user_of h.u) h.u.dir (name_at h.image c.args.name))
    (removes c.args.now)
    (λ i. record h { inodes = c.find_to_remove.ensures.inodes i; marks = c.find_to_remove.ensures.marks i; mounts = c.find_to_remove.ensures.mounts i })
    (dir, c.in_ok-dir.offset, ino) c.in_ok-dir.ensures.answer)
    ∙ until (with_inodes end (inodes_of c.let_go.new.nodes)) ino (until_end dir (empties c.args.now after dir c.in_ok-dir.offset ino)) result
    (inodes_of c.let_go-2.new.nodes)
    (until end dir (empties c.args.now after dir c.in_ok-dir.offset ino) result (inodes_of c.let_go.new.nodes)
    (unnamed_told end (empties c.args.now after dir c.in_ok-dir.offset ino) result (c.remove_entry-result.ensures.did row image))
    c.let_go.ensures.inodes)
    c.let_go-2.ensures.inodes

pub let_go-requires-2 : goal.let_go-requires-2
let_go-requires-2 g c = record {
  referenced = taken c.args.f.now.tree.nodes c.let_go.new.nodes c.in_ok-dir.ino
      (gives_first c.args.f.now.tree.nodes c.find_to_remove.new.tree.nodes c.remove_entry-result.new.f.tree.nodes
      c.let_go.new.nodes c.in_ok-dir.dir c.in_ok-dir.ino
      c.in_ok-dir.ensures.found c.remove_entry-result.ensures.kept c.let_go.ensures.inodes c.let_go.ensures.rest);
}

pub returns-clause-kept : goal.returns-clause-kept
returns-clause-kept g c =
    let first = gives_first c.args.f.now.tree.nodes c.find_to_remove.new.tree.nodes
    c.remove_entry-result.new.f.tree.nodes c.let_go.new.nodes c.in_ok-dir.dir c.in_ok-dir.ino
    c.in_ok-dir.ensures.found c.remove_entry-result.ensures.kept c.let_go.ensures.inodes c.let_go.ensures.rest in
    takes_gives c.args.f.now.tree.nodes c.let_go.new.nodes c.let_go-2.new.nodes c.in_ok-dir.ino first
    (gives c.let_go.new.nodes c.let_go-2.new.nodes c.in_ok-dir.ino
    (taken c.args.f.now.tree.nodes c.let_go.new.nodes c.in_ok-dir.ino first) c.let_go-2.ensures.inodes
    c.let_go-2.ensures.rest)

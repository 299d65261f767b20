use Rattle.std.proofs.Common.{sym, refl, ap, ◌∙◌, arith}
use Rattle.fs_codec.specs.declared.modes.TheConstants.{IALLOC}
use Rattle.fs_nodes.proofs.RestLemmas.{rest_then}
use Rattle.fs_tree.specs.Finding.{inodes_of}
use Rattle.sys_files.specs.Handed.{Handed, handed, with_inodes}
use Rattle.sys_files.specs.Did.{Did, unnamed, until_end}
use Rattle.sys_files.specs.Making.{new_in}
use Rattle.sys_files.specs.Piping.{opens_ends}
use Rattle.sys_files.proofs.AnyLemmas.{any_row, any_image}
use Rattle.sys_files.proofs.EnteringLemmas.{rest_from}
use Rattle.sys_files.proofs.KeptLemmas.{kept_references}
use Rattle.sys_files.proofs.PartLemmas.{named, not_named, until_answered}
use Rattle.sys_files.proofs.GivingLemmas.{still_few}
use Rattle.sys_files.proofs.PipeMadeLemmas.{pipe_kept}
use Rattle.sys_files.proofs.piping.make_pipe.Goals as goal

pub make_inode-requires-clause-there : goal.make_inode-requires-clause-there
make_inode-requires-clause-there c = λ other. absurd (other refl)

pub returns-in-Err-clause-did : goal.returns-in-Err-clause-did
returns-in-Err-clause-did c row image =
    let h : Handed = handed c.args.f.now c.args.u.now row image in
    ap unnamed (not_named h (new_in h.inodes 0 IALLOC (record { uid = 0; gid = 0 }) c.args.now) c.in-Err.e
    (inodes_of c.make_inode.new.nodes) (λ now ino. until_end ino (opens_ends now ino)) c.in-Err.ensures.answer
    c.make_inode.ensures.inodes)

pub returns-clause-did : goal.returns-clause-did
returns-clause-did c row image =
    let h : Handed = handed c.args.f.now c.args.u.now row image in
    let now : Handed = with_inodes h (inodes_of c.make_inode.new.nodes) in
    ap unnamed (named h (new_in h.inodes 0 IALLOC (record { uid = 0; gid = 0 }) c.args.now) c.in-Ok.ino
    (inodes_of c.make_inode.new.nodes) (λ now ino. until_end ino (opens_ends now ino)) c.in-Ok.ensures.answer
    c.make_inode.ensures.inodes)
    ∙ until_answered (handed c.open_ends-answer.new.f c.open_ends-answer.new.u row image) c.in-Ok.ino
    (opens_ends now c.in-Ok.ino)
    c.open_ends-answer.result (inodes_of c.let_go.new.nodes) (ap unnamed (c.open_ends-answer.ensures.did row image))
    c.let_go.ensures.inodes

pub returns-clause-blocks : goal.returns-clause-blocks
returns-clause-blocks c =
    rest_then c.args.f.now.tree.nodes.blocks c.make_inode.new.nodes.blocks c.let_go.new.nodes.blocks
    c.in-Ok.ensures.found.blocks
    (rest_from c.make_inode.new.nodes c.open_ends-answer.new.f.tree.nodes c.let_go.new.nodes c.open_ends-answer.ensures.blocks
    c.let_go.ensures.rest)

pub returns-in-Err-clause-kept : goal.returns-in-Err-clause-kept
returns-in-Err-clause-kept c row image =
    let h = handed c.args.f.now c.args.u.now row image in
    kept_references h (with_inodes h (inodes_of c.make_inode.new.nodes)) (c.requires row image) refl refl refl refl refl
    c.in-Err.ensures.none.references c.in-Err.ensures.none.counts

pub open_ends-answer-requires-clause-few : goal.open_ends-answer-requires-clause-few
open_ends-answer-requires-clause-few c =
    let few = still_few c.args.f.now.tree.nodes c.make_inode.new.nodes c.in-Ok.ino c.in-Ok.ensures.found
    (c.requires any_row any_image).few c.in-Ok.ino in
    omega (arith, few)

pub open_ends-answer-requires-clause-open : goal.open_ends-answer-requires-clause-open
open_ends-answer-requires-clause-open c = (c.requires any_row any_image).is_open

pub open_ends-answer-requires-clause-pipes : goal.open_ends-answer-requires-clause-pipes
open_ends-answer-requires-clause-pipes c = (c.requires any_row any_image).pipes

pub returns-clause-kept : goal.returns-clause-kept
returns-clause-kept c row image =
    pipe_kept (handed c.args.f.now c.args.u.now row image) (handed c.open_ends-answer.new.f c.open_ends-answer.new.u row image)
    c.args.f.now.tree.nodes c.make_inode.new.nodes c.let_go.new.nodes c.in-Ok.ino (c.requires row image) refl
    c.in-Ok.ensures.found c.in-Ok.ensures.fresh
    (sym (ap (λ (d : Did). d.state) (c.open_ends-answer.ensures.did row image))) c.let_go.ensures.inodes

use Rattle.std.proofs.Common.{◌≡◌, ◌<◌, ◌∙◌, List, ℕ, slice_index, sym, subst, arith}
use Rattle.sys_procs.proofs.ReadParts.{goes_on, ends_here, later_unread}
use Rattle.sys_procs.proofs.exec.read_next.Goals as goal

pub read_part-error-requires-clause-few : goal.read_part-error-requires-clause-few
read_part-error-requires-clause-few c =
    let ends = c.part_end-next.ensures in
    omega (arith, ends)

pub returns-in-None-clause-state : goal.returns-in-None-clause-state
returns-in-None-clause-state c =
    goes_on c.args.p.now c.read_part-error.new.p c.args.tree.now.nodes c.read_part-error.new.tree.nodes c.args.t
    c.args.program.now.text_clicks c.args.at c.part_end-next.result c.args.end c.args.program.now c.requires.unread
    c.read_part-error.ensures.there c.read_part-error.ensures.state c.part_end-next.ensures c.requires.before c.requires.fits
    (sym c.read_part-error.ensures.error ∙ c.in-None.is)

pub returns-in-Some-clause-state : goal.returns-in-Some-clause-state
returns-in-Some-clause-state c =
    let ino = c.args.program.now.ino in
    ends_here c.args.p.now c.read_part-error.new.p c.args.tree.now.nodes c.read_part-error.new.tree.nodes c.args.t
    c.args.program.now.text_clicks c.args.at c.part_end-next.result c.args.end c.args.program.now c.requires.unread
    c.read_part-error.ensures.there c.read_part-error.ensures.state c.part_end-next.ensures c.requires.before c.requires.fits
    _ (sym c.read_part-error.ensures.error ∙ c.in-Some.is)
    (c.see.ensures.used ino
    (subst (λ (l : List ℕ). 0 < slice_index l ino) (sym c.read_part-error.ensures.others.references) c.requires.referenced))
    c.read_part-error.ensures.unread

pub returns-in-Some-clause-unread : goal.returns-in-Some-clause-unread
returns-in-Some-clause-unread c =
    let ends = c.part_end-next.ensures in
    later_unread c.read_part-error.new.p.images.kept c.args.t c.args.program.now.text_clicks c.part_end-next.result c.args.end
    (omega (arith, ends)) c.read_part-error.ensures.unread

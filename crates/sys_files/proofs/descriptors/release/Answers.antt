use Rattle.std.proofs.Common.{◌≡◌, ◌++◌, sym, ap, ◌∙◌}
use Rattle.v6_base.proofs.Took.{took_then}
use Rattle.fs_tree.specs.Finding.{Inodes}
use Rattle.open_files.specs.declared.file.Closed.{Closed}
use Rattle.sys_files.specs.Handed.{Handed, handed, let_go}
use Rattle.sys_files.specs.Descriptors.{pipe_roused, line_closed, with_roused, with_gone, released}
use Rattle.sys_files.proofs.descriptors.release.Goals as goal

pub drop_pipe-requires : goal.drop_pipe-requires
drop_pipe-requires g c = record { there = c.rouse_pipe-in-Last.ensures.kept }

pub returns-in-Still-clause-state : goal.returns-in-Still-clause-state
returns-in-Still-clause-state g c = λ u row image.
    c.rouse_pipe.ensures.state u row image
    ∙ ap (λ (told : Closed). (released (handed c.args.f.now u row image) told).state) (sym c.in-Still.is)

pub returns-in-Last-clause-state : goal.returns-in-Last-clause-state
returns-in-Last-clause-state g c = λ u row image.
    let rest : handed c.drop_pipe.new.f u row image ≡ with_gone
    (with_roused (handed c.args.f.now u row image) c.in-Last.file) c.in-Last.file =
    c.drop_pipe.ensures.state u row image
    ∙ ap (λ (k : Handed). with_gone k c.in-Last.file) (c.rouse_pipe-in-Last.ensures.state u row image) in
    ap (λ (n : Inodes). record (handed c.close_line.new.f u row image) { inodes = n }) c.let_go.ensures.inodes
    ∙ ap (λ (k : Handed). let_go k c.in-Last.file.ino) (c.close_line.ensures.state u row image)
    ∙ ap (λ (k : Handed). let_go (line_closed k c.in-Last.file).state c.in-Last.file.ino) rest
    ∙ ap (λ (told : Closed). (released (handed c.args.f.now u row image) told).state) (sym c.in-Last.is)

pub returns-in-Last-clause-items : goal.returns-in-Last-clause-items
returns-in-Last-clause-items g c = λ u row image.
    let rest : handed c.drop_pipe.new.f u row image ≡ with_gone
    (with_roused (handed c.args.f.now u row image) c.in-Last.file) c.in-Last.file =
    c.drop_pipe.ensures.state u row image
    ∙ ap (λ (k : Handed). with_gone k c.in-Last.file) (c.rouse_pipe-in-Last.ensures.state u row image) in
    took_then _ _ _ (pipe_roused c.in-Last.file) (line_closed (handed c.drop_pipe.new.f u row image) c.in-Last.file).items _
    c.rouse_pipe-in-Last.ensures.items (c.close_line.ensures.items u row image)
    (ap (λ (k : Handed). pipe_roused c.in-Last.file ++ (line_closed k c.in-Last.file).items) rest
    ∙ ap (λ (told : Closed). (released (handed c.args.f.now u row image) told).items) (sym c.in-Last.is))

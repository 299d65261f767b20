use Rattle.std.proofs.Common.{ℕ, refl, sym, ap, ◌∙◌}
use Rattle.sys_files.specs.Handed.{Handed, handed}
use Rattle.sys_files.specs.Moving.{gives_count, read_of, with_read, reads_line}
use Rattle.sys_files.specs.Entering.{did_with}
use Rattle.sys_files.proofs.MovingLemmas.{file_is}
use Rattle.sys_files.proofs.ReadLemmas.{gives_told, read_of_line, read_gives}
use Rattle.sys_files.proofs.moving.read_from.Goals as goal

pub returns-in-Some-clause-did : goal.returns-in-Some-clause-did
returns-in-Some-clause-did g c =
    let row = c.args.row.now in
    let h : Handed = handed c.args.f.now c.args.u.now row (g.S.Space.image c.args.space.now) in
    let parts : Handed = handed c.read_bytes-moved.new.f c.args.u.now row (g.S.Space.image c.read_bytes-moved.new.space) in
    sym (read_of_line h c.args.entry c.args.at c.args.count c.args.now c.in-Some.l c.args.file.now
    (file_is c.args.f.now c.args.entry c.args.file.now c.requires.file c.args.u.now row (g.S.Space.image c.args.space.now)) (sym c.in-Some.is ∙ c.line_at-line.ensures.line h refl))
    ∙ sym (ap (λ (k : Handed). reads_line k c.in-Some.l c.args.entry c.args.at c.args.count) (c.read_bytes-moved.ensures.state c.args.u.now row))
    ∙ sym (ap (λ (e : ℕ). reads_line parts c.in-Some.l e c.args.at c.args.count) c.from-entry.ensures)
    ∙ c.read_line.ensures.did parts refl refl refl refl

pub returns-in-None-clause-did : goal.returns-in-None-clause-did
returns-in-None-clause-did g c =
    let row = c.args.row.now in
    let h : Handed = handed c.args.f.now c.args.u.now row (g.S.Space.image c.args.space.now) in
    let after : Handed = with_read h c.args.entry (read_of h c.args.entry c.args.at c.args.count c.args.now) in
    let done = c.read_bytes-moved.ensures.done c.args.u.now row in
    let error = c.read_bytes-moved.ensures.error c.args.u.now row in
    sym (read_gives h c.args.entry c.args.at c.args.count c.args.now c.args.file.now
    (file_is c.args.f.now c.args.entry c.args.file.now c.requires.file c.args.u.now row (g.S.Space.image c.args.space.now)) (sym c.in-None.is ∙ c.line_at-line.ensures.line h refl))
    ∙ sym (λ i. gives_count after (done i) (error i))
    ∙ gives_told after c.read_bytes-moved.result.done c.read_bytes-moved.result.error c.give_count.result (c.give_count.ensures after refl)
    ∙ sym (ap (λ (k : Handed). did_with k c.give_count.result) (c.read_bytes-moved.ensures.state c.args.u.now row))

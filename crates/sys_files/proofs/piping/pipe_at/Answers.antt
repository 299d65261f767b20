use Rattle.std.proofs.Common.{ℕ, ◌<◌, Option, unwrap_or, length, sym, ap, ◌∙◌, subst}
use Rattle.std.proofs.lemmas.Option.{same_Some}
use Rattle.open_files.specs.declared.file.OpenFile.{OpenFile}
use Rattle.sys_files.specs.Handed.{no_file}
use Rattle.sys_files.specs.Pipes.{pipe_of, place_of}
use Rattle.sys_files.proofs.piping.pipe_at.Goals as goal

pub get-requires : goal.get-requires
get-requires c =
    let file : OpenFile = c.file.result.now in
    c.requires.pipes.there c.args.entry file c.file.ensures (c.requires.pipe file c.file.ensures)

pub returns-clause-pipe : goal.returns-clause-pipe
returns-clause-pipe c u row image =
    c.get.ensures.value
    ∙ sym (ap (λ (o : Option OpenFile). pipe_of c.args.f.now.pipes (unwrap_or o no_file).ino) c.file.ensures)

pub returns-clause-there : goal.returns-clause-there
returns-clause-there c =
    let pipes = c.args.f.now.pipes in
    subst (λ (ino : ℕ). place_of pipes ino < length pipes) (sym c.get.ensures.ino)
    (c.requires.pipes.there c.args.entry c.file.result.now c.file.ensures (c.requires.pipe c.file.result.now c.file.ensures))

pub returns-clause-file : goal.returns-clause-file
returns-clause-file c file is = c.get.ensures.ino ∙ ap (λ (x : OpenFile). x.ino) (same_Some _ file (sym c.file.ensures ∙ is))

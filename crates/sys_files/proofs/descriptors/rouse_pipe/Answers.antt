use Rattle.std.proofs.Common.{Bool, false, [], ◌∷◌, length, cond, ap, ◌∙◌, sym, subst, arith}
use Rattle.v6_base.specs.Trace.{Log, Took}
use Rattle.v6_base.specs.declared.entry.Chan.TheVariants.{Read, Write}
use Rattle.v6_base.specs.declared.entry.Entry.TheVariants.{Wake}
use Rattle.v6_base.proofs.Took.{took_more}
use Rattle.pipe_ends.specs.declared.ends.Pipe.{Pipe}
use Rattle.sys_files.specs.Pipes.{place_of}
use Rattle.sys_files.proofs.PipeLemmas.{with_pipe_place, with_pipe_long}
use Rattle.sys_files.proofs.descriptors.rouse_pipe.Goals as goal

pub returns-then-file-clause-kept : goal.returns-then-file-clause-kept
returns-then-file-clause-kept g c = λ is.
    let p : Pipe = record c.get-pipe.result { reader_waits = false; writer_waits = false } in
    let place = ap (λ l. place_of l c.args.file.ino) c.set.ensures ∙ with_pipe_place c.args.f.now.pipes p c.args.file.ino in
    let long = ap length c.set.ensures ∙ with_pipe_long c.args.f.now.pipes p in
    let low = c.requires.there is in
    omega (arith, place, long, low)

pub returns-then-file-clause-items : goal.returns-then-file-clause-items
returns-then-file-clause-items g c =
    let ino = c.args.file.ino in
    let P : Bool → Type 0 = λ b. Took (g.T.Trace.taken c.args.trace.now)
    (cond b (Log (Wake (Write ino)) ∷ Log (Wake (Read ino)) ∷ []) []) (g.T.Trace.taken c.entry-then-file.new.self) in
    subst P (sym c.if-file.true) (took_more _ _ _ (Log (Wake (Write ino)) ∷ [])
    (Log (Wake (Read ino)) ∷ []) c.entry.ensures.took c.entry-then-file.ensures.took)

use Rattle.std.proofs.Common.{◌≡◌}
use Rattle.v6_base.specs.Trace.{Took}
use Rattle.v6_base.proofs.Took.{took_nothing}
use Rattle.pipe_ends.specs.declared.ends.Piped.TheVariants.{Wait, Broken}
use Rattle.sys_files.specs.Did.{Did}
use Rattle.sys_files.proofs.PipingLemmas.{waits_quiet, ended_write}
use Rattle.sys_files.proofs.piping.end_write.Goals as goal

pub returns-in-Wait-clause-items : goal.returns-in-Wait-clause-items
returns-in-Wait-clause-items g c h =
    let held = g.T.Trace.taken c.args.trace.now in
    ended_write (λ (d : Did). Took held d.items held) h c.args.slot c.args.ino c.args.transfer.entry c.args.transfer.at
    c.args.transfer.count c.args.piped (Wait c.in-Wait.left) c.in-Wait.is (took_nothing held _ (waits_quiet h _ _ _))

pub returns-in-Broken-clause-answer : goal.returns-in-Broken-clause-answer
returns-in-Broken-clause-answer g c h area own =
    ended_write (λ (d : Did). c.break_pipe.result ≡ d.answer) h c.args.slot c.args.ino c.args.transfer.entry c.args.transfer.at
    c.args.transfer.count c.args.piped Broken c.in-Broken.is (c.break_pipe.ensures.answer h)

pub returns-in-Broken-clause-items : goal.returns-in-Broken-clause-items
returns-in-Broken-clause-items g c h =
    ended_write (λ (d : Did). Took (g.T.Trace.taken c.args.trace.now) d.items (g.T.Trace.taken c.break_pipe.new.trace)) h
    c.args.slot c.args.ino c.args.transfer.entry c.args.transfer.at c.args.transfer.count c.args.piped Broken c.in-Broken.is
    (c.break_pipe.ensures.items h)

use Rattle.std.proofs.Common.{length, ap, arith, length-append}
use Rattle.tty_line.specs.Output.{shown_byte}
use Rattle.tty_line.proofs.OutputLemmas.{few_shown}
use Rattle.tty_line.proofs.QueueLemmas.{all_wait}
use Rattle.tty_line.proofs.queue.Queue.show.Goals as goal

pub returns-clause-queue : goal.returns-clause-queue
returns-clause-queue c =
    all_wait c.args.self.now _ (shown_byte c.args.flags c.args.column c.args.byte) c.requires.room
    (few_shown c.args.flags c.args.column c.args.byte) c.show.ensures.items

pub returns-clause-most : goal.returns-clause-most
returns-clause-most c =
    let all = all_wait c.args.self.now _ (shown_byte c.args.flags c.args.column c.args.byte) c.requires.room
    (few_shown c.args.flags c.args.column c.args.byte) c.show.ensures.items in
    omega (
      arith,
      ap length all,
      length-append c.args.self.now (shown_byte c.args.flags c.args.column c.args.byte),
      few_shown c.args.flags c.args.column c.args.byte,
      c.requires.room,
    )

use Rattle.std.proofs.Common.{◌∙◌, Some, None, refl, sym}
use Rattle.v6_base.specs.declared.answer.Answer.TheVariants.{Fail}
use Rattle.v6_base.specs.declared.errno.Errno.TheVariants.{EAGAIN}
use Rattle.sys_procs.proofs.Dones.{done_as, done_none}
use Rattle.sys_procs.proofs.Forks.{fork_row}
use Rattle.sys_procs.proofs.fork.fork_one.Goals as goal

-- A slot is free.
pub returns-in-Some-clause-does : goal.returns-in-Some-clause-does
returns-in-Some-clause-does g c =
    done_as (fork_row c.args.p.now c.args.s c.args.tree.now.nodes (Some c.in-Some.child) c.see.ensures.rows.long
    (sym c.new_slot.ensures.slot ∙ c.in-Some.is)) c.fork_into.ensures.does

-- All slots are used.
pub returns-in-None-clause-does : goal.returns-in-None-clause-does
returns-in-None-clause-does g c =
    done_none _ (Fail EAGAIN)
    (fork_row c.args.p.now c.args.s c.args.tree.now.nodes None c.see.ensures.rows.long (sym c.new_slot.ensures.slot ∙ c.in-None.is)) refl
    (c.pass_word.ensures.state c.args.tree.now.nodes) c.pass_word.ensures.board

use Rattle.std.proofs.Common.{◌∙◌, sym, ap}
use Rattle.v6_base.specs.declared.entry.Entry.TheVariants as line
use Rattle.pick_rules.specs.Logged.{Logged, logged}
use Rattle.sys_procs.specs.Agree.{board_of}
use Rattle.abstract_unix.specs.Unix.{Unix}
use Rattle.abstract_unix.specs.Outside.{wakes}
use Rattle.unix_core.proofs.BoardLemmas.{board_woken, logged_line}
use Rattle.unix_core.proofs.settling.wake.Goals as goal

pub returns-then-called-clause-board : goal.returns-then-called-clause-board
returns-then-called-clause-board g c k =
    ap (λ t. board_of t k) c.wake.ensures.table ∙ board_woken c.args.table.now k c.args.chan
    ∙ sym (ap (λ b. (logged {W = Unix} (board_of c.args.table.now k) (wakes b c.args.chan)).board) c.if-called.true
    ∙ ap (λ (l : Logged Unix). l.board) (logged_line (board_of c.args.table.now k) (line.Wake c.args.chan)))

pub returns-then-called-clause-items : goal.returns-then-called-clause-items
returns-then-called-clause-items g c b = rw (c.if-called.true, logged_line b (line.Wake c.args.chan)) c.wake.ensures.items

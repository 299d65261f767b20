use Rattle.std.proofs.Common.{◌≡◌, ◌∙◌, rules, sym, ap}
use Rattle.v6_base.specs.declared.entry.Entry.TheVariants as line
use Rattle.pick_rules.specs.Sleepers.{fall_asleep}
use Rattle.pick_rules.specs.Logged.{Logged, logged}
use Rattle.sys_procs.specs.Agree.{board_of}
use Rattle.abstract_unix.specs.Unix.{Unix}
use Rattle.abstract_unix.specs.Turn.{end_effects}
use Rattle.unix_core.proofs.BoardLemmas.{board_trapped, board_asleep, logged_line}
use Rattle.unix_core.proofs.settling.end_turn.Goals as goal

pub returns-in-Trapped-clause-board : goal.returns-in-Trapped-clause-board
returns-in-Trapped-clause-board g c k =
    ap (λ t. board_of t k) c.trap.ensures.table ∙ board_trapped c.args.table.now k c.args.s
    ∙ sym (ap (λ e. (logged {W = Unix} (board_of c.args.table.now k) (end_effects c.args.s e)).board) c.in-Trapped.is
    ∙ ap (λ (l : Logged Unix). l.board) (logged_line (board_of c.args.table.now k) (line.Trap c.args.s)))

pub returns-in-Trapped-clause-items : goal.returns-in-Trapped-clause-items
returns-in-Trapped-clause-items g c b =
    rw (c.in-Trapped.is, logged_line b (line.Trap c.args.s)) c.entry.ensures.took

pub returns-in-Slept-clause-board : goal.returns-in-Slept-clause-board
returns-in-Slept-clause-board g c k =
    let slept : c.sleep.new.self ≡ fall_asleep c.args.table.now c.args.s c.in-Slept.pri c.in-Slept.chan = search rules in
    ap (λ t. board_of t k) slept ∙ board_asleep c.args.table.now k c.args.s c.in-Slept.pri c.in-Slept.chan
    ∙ sym (ap (λ e. (logged {W = Unix} (board_of c.args.table.now k) (end_effects c.args.s e)).board) c.in-Slept.is
    ∙ ap (λ (l : Logged Unix). l.board) (logged_line (board_of c.args.table.now k) (line.Sleep c.args.s c.in-Slept.pri c.in-Slept.chan)))

pub returns-in-Slept-clause-items : goal.returns-in-Slept-clause-items
returns-in-Slept-clause-items g c b = search (rules, logged_line)

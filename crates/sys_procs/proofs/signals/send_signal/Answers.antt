use Rattle.std.proofs.Common.{◌≡◌, ◌∙◌, List, map, true, sym, ap, subst}
use Rattle.v6_base.specs.Trace.{Item}
use Rattle.v6_base.specs.declared.entry.Entry.TheVariants as line
use Rattle.pick_rules.specs.Effects.{Show}
use Rattle.pick_rules.specs.Logged.{Logged, logged}
use Rattle.pick_rules.specs.declared.table.Table.{Table}
use Rattle.pick_rules.specs.Sleepers.{signalled}
use Rattle.proc_tab.specs.declared.row.Row.{Row}
use Rattle.proc_tab.specs.Processes.{Processes, member_at}
use Rattle.sig_core.specs.Signals.{is_signal, posted}
use Rattle.sys_procs.specs.declared.procs.Procs.{Procs}
use Rattle.sys_procs.specs.World.{World}
use Rattle.sys_procs.specs.Agree.{Agree, board_of}
use Rattle.sys_procs.specs.Handed.{board, handed}
use Rattle.sys_procs.proofs.Alive.{is_within}
use Rattle.sys_procs.proofs.Tables.{logged_line}
use Rattle.sys_procs.proofs.Signalled.{posted_pid, posted_ppid, sent, none_sent, one_line, board_signalled, agree_signalled, agree_row, member_there}
use Rattle.sys_procs.proofs.signals.send_signal.Goals as goal

pub set_row-requires-clause-pid : goal.set_row-requires-clause-pid
set_row-requires-clause-pid g c =
    ap (λ (r : Row). r.pid) c.post.ensures.row ∙ (posted_pid c.row.result.now c.args.sig ∙ ap (λ (r : Row). r.pid) c.row.ensures)

pub set_row-requires-clause-ppid : goal.set_row-requires-clause-ppid
set_row-requires-clause-ppid g c =
    ap (λ (r : Row). r.ppid) c.post.ensures.row
    ∙ (posted_ppid c.row.result.now c.args.sig ∙ ap (λ (r : Row). r.ppid) c.row.ensures)

-- What is no signal does nothing.
pub returns-then-not-post-clause-state : goal.returns-then-not-post-clause-state
returns-then-not-post-clause-state g c = λ fs.
    none_sent c.args.p.now c.args.s c.args.sig fs c.requires.used c.requires.low (sym c.post.ensures.signal ∙ c.if-not-post.true)

pub returns-clause-state : goal.returns-clause-state
returns-clause-state g c = λ fs.
    let p : Procs = c.args.p.now in
    let row : Row = c.post.new.row in
    let it = member_there (member_at p.rows.slots c.args.s) c.requires.used in
    ap (λ (t : Table). handed (record p { rows = c.set_row.new.self; table = t }) fs) c.signal_slot.ensures.table
    ∙ (ap (λ (v : Processes). handed (record p { rows = v; table = signalled p.table c.args.s }) fs) c.set_row.ensures
    ∙ sent p c.args.s c.args.sig row fs c.requires.used c.requires.low (is_within p.rows.slots c.args.s it.0 it.1)
    (c.post.ensures.row ∙ ap (λ (r : Row). posted r c.args.sig) c.row.ensures))

pub returns-clause-board : goal.returns-clause-board
returns-clause-board g c =
    let p : Procs = c.args.p.now in
    let is : is_signal c.args.sig ≡ true = sym c.post.ensures.signal ∙ c.if-not-post.false in
    ap (λ (t : Table). board_of t p.images.kept) c.signal_slot.ensures.table
    ∙ (board_signalled p.table p.images.kept c.args.s c.args.sig
    ∙ (sym (ap (λ (l : Logged World). l.board) (logged_line (board p) (line.Signal c.args.s c.args.sig)))
    ∙ sym (ap (λ (items : List Item). (logged {W = World} (board p) (map Show items)).board) (one_line c.args.s c.args.sig is))))

pub returns-clause-agree : goal.returns-clause-agree
returns-clause-agree g c =
    let p : Procs = c.args.p.now in
    let it = member_there (member_at p.rows.slots c.args.s) c.requires.used in
    subst (λ (t : Table). Agree c.set_row.new.self t p.images.kept) (sym c.signal_slot.ensures.table)
    (agree_signalled c.set_row.new.self p.table p.images.kept c.args.s
    (subst (λ (v : Processes). Agree v p.table p.images.kept) (sym c.set_row.ensures)
    (agree_row p.rows p.table p.images.kept c.args.s it.0 c.post.new.row c.requires.agree c.requires.above c.requires.low
    (is_within p.rows.slots c.args.s it.0 it.1) it.1))
    c.requires.above c.requires.low)

use Rattle.std.proofs.Common.{◌∙◌, true, refl, sym, ap, subst, arith}
use Rattle.v6_base.proofs.Took.{took_nothing}
use Rattle.sig_core.specs.declared.numbers.TheConstants.{SIGHUP}
use Rattle.unix_core.specs.declared.world.World.{World}
use Rattle.unix_core.specs.Slots.{IsTimed}
use Rattle.unix_core.specs.Parts.{unix_of, system_at}
use Rattle.abstract_unix.specs.Turn.{Happened}
use Rattle.unix_core.proofs.CountLemmas.{timed_same}
use Rattle.unix_core.proofs.TurnCounts.{line_timed}
use Rattle.unix_core.proofs.TableLemmas.{with_table}
use Rattle.unix_core.proofs.KeyLemmas.{key_good, key_unix, key_board}
use Rattle.unix_core.proofs.TypedLemmas.{with_lines, lines_good, both_good, both_unix, both_board, both_took}
use Rattle.unix_core.proofs.HangupLemmas.{hung_unix, hung_board, hung_took, hung_nowhere, hung_shut}
use Rattle.unix_core.proofs.machine.Machine.hang_up.Goals as goal

-- a line that isn't there, or isn't open
pub returns-then-l-count-clause-unix : goal.returns-then-l-count-clause-unix
returns-then-l-count-clause-unix g c = sym (ap (λ (h : Happened). h.unix) (hung_nowhere (system_at c.args.self.now.world) c.args.l (omega (arith, c.if-l-count.true, c.count.ensures.count))))

pub returns-then-l-count-clause-board : goal.returns-then-l-count-clause-board
returns-then-l-count-clause-board g c = sym (ap (λ (h : Happened). h.log.board) (hung_nowhere (system_at c.args.self.now.world) c.args.l (omega (arith, c.if-l-count.true, c.count.ensures.count))))

pub returns-then-l-count-clause-items : goal.returns-then-l-count-clause-items
returns-then-l-count-clause-items g c = took_nothing _ _ (ap (λ (h : Happened). h.log.items) (hung_nowhere (system_at c.args.self.now.world) c.args.l (omega (arith, c.if-l-count.true, c.count.ensures.count))))

pub returns-then-not-is_open-clause-unix : goal.returns-then-not-is_open-clause-unix
returns-then-not-is_open-clause-unix g c = sym (ap (λ (h : Happened). h.unix) (hung_shut (system_at c.args.self.now.world) c.args.l (sym c.is_open.ensures.open ∙ c.if-not-is_open.true)))

pub returns-then-not-is_open-clause-board : goal.returns-then-not-is_open-clause-board
returns-then-not-is_open-clause-board g c = sym (ap (λ (h : Happened). h.log.board) (hung_shut (system_at c.args.self.now.world) c.args.l (sym c.is_open.ensures.open ∙ c.if-not-is_open.true)))

pub returns-then-not-is_open-clause-items : goal.returns-then-not-is_open-clause-items
returns-then-not-is_open-clause-items g c = took_nothing _ _ (ap (λ (h : Happened). h.log.items) (hung_shut (system_at c.args.self.now.world) c.args.l (sym c.is_open.ensures.open ∙ c.if-not-is_open.true)))

-- one that is
pub is_open-requires : goal.is_open-requires
is_open-requires g c = omega (arith, c.if-l-count.false, c.count.ensures.count)

pub signal_line-requires : goal.signal_line-requires
signal_line-requires g c = record { agree = c.requires.good.agree }

pub flush-show-requires : goal.flush-show-requires
flush-show-requires g c = omega (arith, c.if-l-count.false, c.count.ensures.count)

pub wake-requires : goal.wake-requires
wake-requires g c = c.signal_line.ensures.agree.table

pub wake-requires-2 : goal.wake-requires-2
wake-requires-2 g c = c.wake.ensures.good

pub returns-clause-good : goal.returns-clause-good
returns-clause-good g c =
    let w : World = c.args.self.now.world in
    both_good (with_lines (record w { procs = c.signal_line.new.p }) c.flush-show.new.self)
    (lines_good (record w { procs = c.signal_line.new.p }) c.flush-show.new.self (key_good w c.requires.good c.signal_line.new.p c.args.l SIGHUP c.signal_line.ensures.agree c.signal_line.ensures.state c.signal_line.ensures.board))
    c.keys_of.result c.show_of.result true c.wake.new.table c.wake.ensures.table c.wake.ensures.good (c.wake.ensures.board c.signal_line.new.p.images.kept)
    c.flush-show.result c.wake-2.new.table c.wake-2.ensures.table c.wake-2.ensures.good (c.wake-2.ensures.board c.signal_line.new.p.images.kept)

pub returns-clause-timed : goal.returns-clause-timed
returns-clause-timed g c =
    let w : World = c.args.self.now.world in
    let sent : World = record w { procs = c.signal_line.new.p } in
    timed_same w.slots (unix_of sent) (unix_of (with_table (with_lines sent c.flush-show.new.self) c.wake-2.new.table)) refl refl
    (subst (IsTimed w.slots) (sym (key_unix w c.requires.good c.signal_line.new.p c.args.l SIGHUP c.signal_line.ensures.agree c.signal_line.ensures.state c.signal_line.ensures.board))
    (line_timed w.slots c.args.l SIGHUP (unix_of w) c.requires.timed))

pub returns-clause-unix : goal.returns-clause-unix
returns-clause-unix g c =
    let w : World = c.args.self.now.world in
    both_unix (with_lines (record w { procs = c.signal_line.new.p }) c.flush-show.new.self)
    (lines_good (record w { procs = c.signal_line.new.p }) c.flush-show.new.self (key_good w c.requires.good c.signal_line.new.p c.args.l SIGHUP c.signal_line.ensures.agree c.signal_line.ensures.state c.signal_line.ensures.board))
    c.keys_of.result c.show_of.result true c.wake.new.table c.wake.ensures.table c.wake.ensures.good (c.wake.ensures.board c.signal_line.new.p.images.kept)
    c.flush-show.result c.wake-2.new.table c.wake-2.ensures.table c.wake-2.ensures.good (c.wake-2.ensures.board c.signal_line.new.p.images.kept)
    ∙ hung_unix w c.args.l (record w { procs = c.signal_line.new.p }) (key_unix w c.requires.good c.signal_line.new.p c.args.l SIGHUP c.signal_line.ensures.agree c.signal_line.ensures.state c.signal_line.ensures.board) (key_board w c.requires.good c.signal_line.new.p c.args.l SIGHUP c.signal_line.ensures.agree c.signal_line.ensures.state c.signal_line.ensures.board)
    c.flush-show.new.self c.flush-show.ensures.line c.keys_of.result c.keys_of.ensures c.show_of.result c.show_of.ensures
    c.flush-show.result c.flush-show.ensures.show (sym c.is_open.ensures.open ∙ c.if-not-is_open.false)

pub returns-clause-board : goal.returns-clause-board
returns-clause-board g c =
    let w : World = c.args.self.now.world in
    both_board (with_lines (record w { procs = c.signal_line.new.p }) c.flush-show.new.self)
    (lines_good (record w { procs = c.signal_line.new.p }) c.flush-show.new.self (key_good w c.requires.good c.signal_line.new.p c.args.l SIGHUP c.signal_line.ensures.agree c.signal_line.ensures.state c.signal_line.ensures.board))
    c.keys_of.result c.show_of.result true c.wake.new.table c.wake.ensures.table c.wake.ensures.good (c.wake.ensures.board c.signal_line.new.p.images.kept)
    c.flush-show.result c.wake-2.new.table c.wake-2.ensures.table c.wake-2.ensures.good (c.wake-2.ensures.board c.signal_line.new.p.images.kept)
    ∙ hung_board w c.args.l (record w { procs = c.signal_line.new.p }) (key_unix w c.requires.good c.signal_line.new.p c.args.l SIGHUP c.signal_line.ensures.agree c.signal_line.ensures.state c.signal_line.ensures.board) (key_board w c.requires.good c.signal_line.new.p c.args.l SIGHUP c.signal_line.ensures.agree c.signal_line.ensures.state c.signal_line.ensures.board)
    c.flush-show.new.self c.flush-show.ensures.line c.keys_of.result c.keys_of.ensures c.show_of.result c.show_of.ensures
    c.flush-show.result c.flush-show.ensures.show (sym c.is_open.ensures.open ∙ c.if-not-is_open.false)

pub returns-clause-images : goal.returns-clause-images
returns-clause-images g c = c.signal_line.ensures.images

pub returns-clause-items : goal.returns-clause-items
returns-clause-items g c =
    let w : World = c.args.self.now.world in
    hung_took w c.args.l (record w { procs = c.signal_line.new.p }) (key_unix w c.requires.good c.signal_line.new.p c.args.l SIGHUP c.signal_line.ensures.agree c.signal_line.ensures.state c.signal_line.ensures.board) (key_board w c.requires.good c.signal_line.new.p c.args.l SIGHUP c.signal_line.ensures.agree c.signal_line.ensures.state c.signal_line.ensures.board)
    c.flush-show.new.self c.flush-show.ensures.line c.keys_of.result c.keys_of.ensures c.show_of.result c.show_of.ensures
    c.flush-show.result c.flush-show.ensures.show (sym c.is_open.ensures.open ∙ c.if-not-is_open.false)
    _ _ _ (c.signal_line.ensures.items w.files.tree.nodes)
    (both_took (with_lines (record w { procs = c.signal_line.new.p }) c.flush-show.new.self)
    (lines_good (record w { procs = c.signal_line.new.p }) c.flush-show.new.self (key_good w c.requires.good c.signal_line.new.p c.args.l SIGHUP c.signal_line.ensures.agree c.signal_line.ensures.state c.signal_line.ensures.board))
    c.keys_of.result c.show_of.result true c.wake.new.table c.wake.ensures.table c.wake.ensures.good (c.wake.ensures.board c.signal_line.new.p.images.kept)
    c.flush-show.result c.wake-2.new.table c.wake-2.ensures.table c.wake-2.ensures.good (c.wake-2.ensures.board c.signal_line.new.p.images.kept)
    _ _ _ (c.wake.ensures.items _) (c.wake-2.ensures.items _))

pub returns-clause-frame : goal.returns-clause-frame
returns-clause-frame g c =
    g.met.T.Trace.goes_on _ _ _ c.signal_line.ensures.frame (g.met.T.Trace.goes_on _ _ _ c.wake.ensures.frame c.wake-2.ensures.frame)

use Rattle.std.proofs.Common.{◌∙◌, refl, sym, ap, subst, arith}
use Rattle.sys_files.specs.declared.files.Files.{Files}
use Rattle.v6_base.proofs.Took.{took_nothing}
use Rattle.unix_core.specs.declared.world.World.{World}
use Rattle.unix_core.specs.declared.slots.Slots.{Slots}
use Rattle.unix_core.specs.Slots.{IsTimed}
use Rattle.unix_core.specs.Parts.{unix_of, system_at}
use Rattle.abstract_unix.specs.Turn.{Happened}
use Rattle.unix_core.proofs.CountLemmas.{timed_same}
use Rattle.unix_core.proofs.TurnCounts.{key_timed}
use Rattle.unix_core.proofs.TableLemmas.{with_table}
use Rattle.unix_core.proofs.TypedLemmas.{with_lines, lines_good, both_good, both_stop, both_unix, both_board, both_took, typed_unix, typed_board, typed_took, typed_nowhere}
use Rattle.unix_core.proofs.machine.Machine.take_key.Goals as goal

-- a line that isn't there
pub returns-then-l-count-clause-unix : goal.returns-then-l-count-clause-unix
returns-then-l-count-clause-unix g c = sym (ap (λ (h : Happened). h.unix) (typed_nowhere (system_at c.args.self.now.world) c.args.l c.args.byte (omega (arith, c.if-l-count.true, c.count.ensures.count))))

pub returns-then-l-count-clause-board : goal.returns-then-l-count-clause-board
returns-then-l-count-clause-board g c = sym (ap (λ (h : Happened). h.log.board) (typed_nowhere (system_at c.args.self.now.world) c.args.l c.args.byte (omega (arith, c.if-l-count.true, c.count.ensures.count))))

pub returns-then-l-count-clause-items : goal.returns-then-l-count-clause-items
returns-then-l-count-clause-items g c = took_nothing _ _ (ap (λ (h : Happened). h.log.items) (typed_nowhere (system_at c.args.self.now.world) c.args.l c.args.byte (omega (arith, c.if-l-count.true, c.count.ensures.count))))

-- one that is
pub typed-keyed-requires : goal.typed-keyed-requires
typed-keyed-requires g c = omega (arith, c.if-l-count.false, c.count.ensures.count)

pub send_key-requires : goal.send_key-requires
send_key-requires g c = lines_good c.args.self.now.world c.typed-keyed.new.self c.requires.good

pub wake-requires : goal.wake-requires
wake-requires g c = c.send_key.ensures.good.agree.table

pub wake-requires-2 : goal.wake-requires-2
wake-requires-2 g c = c.wake.ensures.good

pub returns-clause-good : goal.returns-clause-good
returns-clause-good g c =
    let sent = c.send_key.new.self in
    both_good sent.world c.send_key.ensures.good c.keys_of.result c.show_of.result c.calls.result c.wake.new.table c.wake.ensures.table c.wake.ensures.good
    (c.wake.ensures.board sent.world.procs.images.kept) c.calls_show.result c.wake-2.new.table c.wake-2.ensures.table c.wake-2.ensures.good
    (c.wake-2.ensures.board sent.world.procs.images.kept)

pub returns-clause-timed : goal.returns-clause-timed
returns-clause-timed g c =
    let w : World = c.args.self.now.world in
    let sent = c.send_key.new.self in
    let typed_ : World = with_lines w c.typed-keyed.new.self in
    timed_same sent.world.slots (unix_of sent.world) (unix_of (with_table sent.world c.wake-2.new.table)) refl refl
    (subst (λ (x : Slots). IsTimed x (unix_of sent.world)) (sym c.send_key.ensures.slots)
    (subst (IsTimed w.slots) (sym c.send_key.ensures.unix)
    (key_timed w.slots c.args.l (unix_of typed_) c.typed-keyed.result
    (timed_same w.slots (unix_of w) (unix_of typed_) refl refl c.requires.timed))))

pub returns-clause-unix : goal.returns-clause-unix
returns-clause-unix g c =
    let sent = c.send_key.new.self in
    both_unix sent.world c.send_key.ensures.good c.keys_of.result c.show_of.result c.calls.result c.wake.new.table c.wake.ensures.table c.wake.ensures.good
    (c.wake.ensures.board sent.world.procs.images.kept) c.calls_show.result c.wake-2.new.table c.wake-2.ensures.table c.wake-2.ensures.good
    (c.wake-2.ensures.board sent.world.procs.images.kept)
    ∙ typed_unix c.args.self.now.world c.args.l c.args.byte c.typed-keyed.new.self c.typed-keyed.ensures.line c.typed-keyed.result c.typed-keyed.ensures.keyed
    sent.world c.send_key.ensures.unix c.send_key.ensures.board c.keys_of.result c.keys_of.ensures c.show_of.result c.show_of.ensures
    c.calls.result c.calls.ensures c.calls_show.result c.calls_show.ensures
    (both_stop sent.world c.send_key.ensures.good c.keys_of.result c.show_of.result c.calls.result c.wake.new.table c.wake.ensures.table c.wake.ensures.good
    (c.wake.ensures.board sent.world.procs.images.kept) c.calls_show.result c.wake-2.new.table c.wake-2.ensures.table c.wake-2.ensures.good
    (c.wake-2.ensures.board sent.world.procs.images.kept))

pub returns-clause-board : goal.returns-clause-board
returns-clause-board g c =
    let sent = c.send_key.new.self in
    both_board sent.world c.send_key.ensures.good c.keys_of.result c.show_of.result c.calls.result c.wake.new.table c.wake.ensures.table c.wake.ensures.good
    (c.wake.ensures.board sent.world.procs.images.kept) c.calls_show.result c.wake-2.new.table c.wake-2.ensures.table c.wake-2.ensures.good
    (c.wake-2.ensures.board sent.world.procs.images.kept)
    ∙ typed_board c.args.self.now.world c.args.l c.args.byte c.typed-keyed.new.self c.typed-keyed.ensures.line c.typed-keyed.result c.typed-keyed.ensures.keyed
    sent.world c.send_key.ensures.unix c.send_key.ensures.board c.keys_of.result c.keys_of.ensures c.show_of.result c.show_of.ensures
    c.calls.result c.calls.ensures c.calls_show.result c.calls_show.ensures
    (both_stop sent.world c.send_key.ensures.good c.keys_of.result c.show_of.result c.calls.result c.wake.new.table c.wake.ensures.table c.wake.ensures.good
    (c.wake.ensures.board sent.world.procs.images.kept) c.calls_show.result c.wake-2.new.table c.wake-2.ensures.table c.wake-2.ensures.good
    (c.wake-2.ensures.board sent.world.procs.images.kept))

pub returns-clause-tree : goal.returns-clause-tree
returns-clause-tree g c = ap (λ (f : Files). f.tree) c.send_key.ensures.files

pub returns-clause-images : goal.returns-clause-images
returns-clause-images g c = c.send_key.ensures.images

pub returns-clause-items : goal.returns-clause-items
returns-clause-items g c =
    let sent = c.send_key.new.self in
    typed_took c.args.self.now.world c.args.l c.args.byte c.typed-keyed.new.self c.typed-keyed.ensures.line c.typed-keyed.result c.typed-keyed.ensures.keyed
    sent.world c.send_key.ensures.unix c.send_key.ensures.board c.keys_of.result c.keys_of.ensures c.show_of.result c.show_of.ensures
    c.calls.result c.calls.ensures c.calls_show.result c.calls_show.ensures
    (both_stop sent.world c.send_key.ensures.good c.keys_of.result c.show_of.result c.calls.result c.wake.new.table c.wake.ensures.table c.wake.ensures.good
    (c.wake.ensures.board sent.world.procs.images.kept) c.calls_show.result c.wake-2.new.table c.wake-2.ensures.table c.wake-2.ensures.good
    (c.wake-2.ensures.board sent.world.procs.images.kept))
    _ _ _ _ c.typed-keyed.ensures.items c.send_key.ensures.items
    (both_took sent.world c.send_key.ensures.good c.keys_of.result c.show_of.result c.calls.result c.wake.new.table c.wake.ensures.table c.wake.ensures.good
    (c.wake.ensures.board sent.world.procs.images.kept) c.calls_show.result c.wake-2.new.table c.wake-2.ensures.table c.wake-2.ensures.good
    (c.wake-2.ensures.board sent.world.procs.images.kept)
    _ _ _ (c.wake.ensures.items _) (c.wake-2.ensures.items _))

pub returns-clause-frame : goal.returns-clause-frame
returns-clause-frame g c =
    g.met.T.Trace.goes_on _ _ _ c.typed-keyed.ensures.frame (g.met.T.Trace.goes_on _ _ _ c.send_key.ensures.frame
    (g.met.T.Trace.goes_on _ _ _ c.wake.ensures.frame c.wake-2.ensures.frame))

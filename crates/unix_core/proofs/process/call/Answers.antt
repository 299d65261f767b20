use Rattle.std.proofs.Common.{refl, subst}
use Rattle.v6_base.specs.Trace.{Took}
use Rattle.pick_rules.specs.Logged.{logged}
use Rattle.unix_core.specs.declared.world.World.{World}
use Rattle.abstract_unix.specs.declared.asked.Asked.{Asked}
use Rattle.abstract_unix.specs.Steps.{Steps}
use Rattle.abstract_unix.specs.Calls.{system_call}
use Rattle.unix_core.specs.Slots.{HasWaited}
use Rattle.unix_core.specs.Parts.{unix_of, board_in, HasCome}
use Rattle.unix_core.proofs.SystemLemmas.{asked_here, entered_ready, entered_user, entered_board, entered_call, entered_waits}
use Rattle.unix_core.proofs.process.call.Goals as goal

pub does_call-requires-clause-ready : goal.does_call-requires-clause-ready
does_call-requires-clause-ready g c =
    entered_ready c.args.world.now c.args.fixed.now.slot c.requires.ready c.ask-asked.result c.sysent_of-entry.result _ _ c.enter.new.images
    refl c.words_passed.ensures c.enter.ensures.kept

pub does_call-requires-clause-user : goal.does_call-requires-clause-user
does_call-requires-clause-user g c =
    entered_user c.args.world.now c.args.fixed.now.slot c.requires.ready c.ask-asked.result c.sysent_of-entry.result _ _ c.enter.new.images
    refl c.words_passed.ensures c.enter.ensures.kept c.requires.user

pub returns-clause-come : goal.returns-clause-come
returns-clause-come g c =
    let w : World = c.args.world.now in
    let s = c.args.fixed.now.slot in
    let a : Asked = c.ask-asked.result in
    let asks = asked_here w s c.requires.ready c.ask-asked.ensures.holds c.args.number a c.ask-asked.ensures.asked in
    let same = entered_board w s c.requires.ready a c.sysent_of-entry.result _ _ c.enter.new.images refl c.words_passed.ensures
    c.enter.ensures.kept in
    let steps = entered_call w s c.requires.ready a c.sysent_of-entry.result _ _ c.enter.new.images refl c.words_passed.ensures
    c.enter.ensures.kept c.args.number asks
    c.sysent_of-entry.ensures in
    subst (λ b. HasCome b (system_call c.args.number (unix_of w) s) c.does_call.result
    c.does_call.new.world) same
    (subst (λ (x : Steps). HasCome (board_in (record w { procs = record w.procs { images = c.enter.new.images } })) x
    c.does_call.result c.does_call.new.world) steps c.does_call.ensures.come)

pub returns-clause-items : goal.returns-clause-items
returns-clause-items g c =
    let w : World = c.args.world.now in
    let s = c.args.fixed.now.slot in
    let a : Asked = c.ask-asked.result in
    let asks = asked_here w s c.requires.ready c.ask-asked.ensures.holds c.args.number a c.ask-asked.ensures.asked in
    let same = entered_board w s c.requires.ready a c.sysent_of-entry.result _ _ c.enter.new.images refl c.words_passed.ensures
    c.enter.ensures.kept in
    let steps = entered_call w s c.requires.ready a c.sysent_of-entry.result _ _ c.enter.new.images refl c.words_passed.ensures
    c.enter.ensures.kept c.args.number asks
    c.sysent_of-entry.ensures in
    subst (λ b. Took (g.T.Trace.taken c.args.trace.now)
    (logged b (system_call c.args.number (unix_of w) s).effects).items
    (g.T.Trace.taken c.does_call.new.trace)) same
    (subst (λ (x : Steps). Took (g.T.Trace.taken c.args.trace.now)
    (logged (board_in (record w { procs = record w.procs { images = c.enter.new.images } })) x.effects).items
    (g.T.Trace.taken c.does_call.new.trace)) steps c.does_call.ensures.items)

pub returns-clause-slots : goal.returns-clause-slots
returns-clause-slots g c goes =
    let w : World = c.args.world.now in
    let s = c.args.fixed.now.slot in
    let a : Asked = c.ask-asked.result in
    let asks = asked_here w s c.requires.ready c.ask-asked.ensures.holds c.args.number a c.ask-asked.ensures.asked in
    subst (λ b. HasWaited b w.slots c.does_call.new.world.slots)
    (entered_waits w s c.requires.ready a c.sysent_of-entry.result _ _ c.enter.new.images refl c.words_passed.ensures
    c.enter.ensures.kept c.args.number asks c.sysent_of-entry.ensures) (c.does_call.ensures.slots goes)

pub returns-clause-within : goal.returns-clause-within
returns-clause-within g c = c.does_call.ensures.within

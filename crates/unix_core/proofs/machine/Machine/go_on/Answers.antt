use Rattle.std.proofs.Common.{◌≡◌, false}
use Rattle.fs_nodes.proofs.RestLemmas.{rest_then}
use Rattle.unix_core.specs.declared.world.World.{World}
use Rattle.abstract_unix.specs.Unix.{System, process_of}
use Rattle.abstract_unix.specs.Turn.{is_user, begins_turn}
use Rattle.unix_core.specs.Parts.{unix_of, board_in, system_at, IsReady}
use Rattle.unix_core.proofs.SlotLemmas.{later_come, later_took}
use Rattle.unix_core.proofs.TrapLemmas.{resume_user}
use Rattle.unix_core.proofs.WorldLemmas.{slot_is, is_living}
use Rattle.unix_core.proofs.machine.Machine.go_on.Goals as goal

pub deliver_after-requires-clause-user : goal.deliver_after-requires-clause-user
deliver_after-requires-clause-user g c =
    let w : World = c.args.self.now.world in
    let first = c.resume-ending in
    let ready : IsReady w c.args.s = record { good = (c.requires.kernel.resting c.requires.resting).good; runs = c.requires.runs; user = c.requires.user } in
    resume_user w first.new.world c.args.s (board_in w) first.result ready.good.pending (slot_is w c.args.s ready) (is_living w c.args.s ready) first.ensures.come

pub returns-clause-come : goal.returns-clause-come
returns-clause-come g c =
    let w : World = c.args.self.now.world in
    let s = c.args.s in
    let m : System = system_at w in
    let calls : is_user (process_of (unix_of w) s) ≡ false = (c.requires.kernel.resting c.requires.resting).calls s c.requires.runs c.requires.user in
    c.deliver_after.ensures.come (board_in w) (begins_turn m s) (later_come m s calls _ _ c.resume-ending.ensures.come)

pub returns-clause-items : goal.returns-clause-items
returns-clause-items g c =
    let w : World = c.args.self.now.world in
    let s = c.args.s in
    let m : System = system_at w in
    let calls : is_user (process_of (unix_of w) s) ≡ false = (c.requires.kernel.resting c.requires.resting).calls s c.requires.runs c.requires.user in
    c.deliver_after.ensures.items (board_in w) (begins_turn m s) _ (later_come m s calls _ _ c.resume-ending.ensures.come)
    (later_took m s calls _ _ c.resume-ending.ensures.items)

pub returns-clause-frame : goal.returns-clause-frame
returns-clause-frame g c = g.met.T.Trace.goes_on _ _ _ c.resume-ending.ensures.frame c.deliver_after.ensures.frame

pub returns-clause-rest : goal.returns-clause-rest
returns-clause-rest g c = rest_then _ _ _ c.resume-ending.ensures.rest c.deliver_after.ensures.rest

use Rattle.std.proofs.Common.{refl, sym, ap, subst}
use Rattle.v6_base.specs.declared.answer.Answer.{Answer}
use Rattle.v6_base.proofs.Took.{took_nothing}
use Rattle.pick_rules.specs.Logged.{logged}
use Rattle.abstract_unix.specs.Calls.{given_area, answers}
use Rattle.abstract_unix.specs.declared.ending.Ending.TheVariants.{Trapped}
use Rattle.unix_core.specs.declared.world.World.{World}
use Rattle.unix_core.specs.Parts.{unix_of, board_in, HasCome}
use Rattle.unix_core.proofs.AreaLemmas.{ruled_come, ruled_ready}
use Rattle.unix_core.proofs.process.conclude.Goals as goal

pub give-requires : goal.give-requires
give-requires g c = c.requires.good.running c.args.s c.requires.runs c.requires.user

pub returns-in-Ret-clause-come : goal.returns-in-Ret-clause-come
returns-in-Ret-clause-come g c =
    let w : World = c.args.world.now in
    subst (λ (a : Answer). HasCome (board_in w) (answers (unix_of w) c.args.s a) Trapped (record w { procs = record w.procs { images = c.give.new.images } }))
    (sym c.in-Ret.is)
    (ruled_come w c.args.s c.requires (given_area c.in-Ret.r0 c.in-Ret.r1) c.give.new.images c.give.ensures)

pub returns-in-Ret-clause-ready : goal.returns-in-Ret-clause-ready
returns-in-Ret-clause-ready g c =
    let w : World = c.args.world.now in
    ruled_ready w c.args.s c.requires (given_area c.in-Ret.r0 c.in-Ret.r1) c.give.new.images c.give.ensures
    (record { clicks = refl; files = refl; dir = refl; pending = refl; call = refl })

pub returns-in-Ret-clause-items : goal.returns-in-Ret-clause-items
returns-in-Ret-clause-items g c =
    let w : World = c.args.world.now in
    took_nothing _ _ (ap (λ (a : Answer). (logged (board_in w) (answers (unix_of w) c.args.s a).effects).items) c.in-Ret.is)

pub returns-in-Sleep-clause-items : goal.returns-in-Sleep-clause-items
returns-in-Sleep-clause-items g c =
    let w : World = c.args.world.now in
    took_nothing _ _ (ap (λ (a : Answer). (logged (board_in w) (answers (unix_of w) c.args.s a).effects).items) c.in-Sleep.is)

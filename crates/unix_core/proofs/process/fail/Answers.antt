use Rattle.std.proofs.Common.{◌≡◌, ◌∙◌, ◌<◌, ℕ, if◌then◌else◌, refl, sym, ap, subst}
use Rattle.std.proofs.lemmas.Bool.{lt-ltb}
use Rattle.v6_base.proofs.Took.{took_nothing}
use Rattle.pick_rules.specs.Logged.{logged}
use Rattle.sig_core.specs.declared.numbers.TheConstants.{SIGSYS}
use Rattle.abstract_unix.specs.Unix.{Unix}
use Rattle.abstract_unix.specs.Steps.{Steps, returns, signals}
use Rattle.abstract_unix.specs.Calls.{refused_area, refuses, with_area}
use Rattle.abstract_unix.specs.declared.ending.Ending.TheVariants.{Trapped}
use Rattle.unix_core.specs.declared.world.World.{World}
use Rattle.unix_core.specs.Parts.{unix_of, board_in, HasCome}
use Rattle.unix_core.proofs.AreaLemmas.{ruled_come, ruled_ready}
use Rattle.unix_core.proofs.process.fail.Goals as goal

-- an error below 100 is just told
told : (u : Unix) (s n m : ℕ) → n < 100 → n ≡ m → returns (with_area u s (refused_area n)) ≡ refuses u s m
told u s n m low same =
    ap (λ b. if b then returns (with_area u s (refused_area n)) else signals u s SIGSYS) (sym (lt-ltb n 100 low)) ∙ ap (refuses u s) same

pub refuse-requires : goal.refuse-requires
refuse-requires g c = c.requires.good.running c.args.s c.requires.runs c.requires.user

pub returns-clause-come : goal.returns-clause-come
returns-clause-come g c =
    let w : World = c.args.world.now in
    let n = c.error_number-number.result in
    subst (λ (x : Steps). HasCome (board_in w) x Trapped (record w { procs = record w.procs { images = c.refuse.new.images } }))
    (told (unix_of w) c.args.s n _ c.if-number-ge-FIRST_SIGNAL.false c.error_number-number.ensures)
    (ruled_come w c.args.s c.requires (refused_area n) c.refuse.new.images c.refuse.ensures)

pub returns-clause-ready : goal.returns-clause-ready
returns-clause-ready g c =
    let w : World = c.args.world.now in
    ruled_ready w c.args.s c.requires (refused_area c.error_number-number.result) c.refuse.new.images c.refuse.ensures
    (record { clicks = refl; files = refl; dir = refl; pending = refl; call = refl })

pub returns-clause-items : goal.returns-clause-items
returns-clause-items g c =
    let w : World = c.args.world.now in
    took_nothing _ _ (ap (λ (x : Steps). (logged (board_in w) x.effects).items)
    (sym (told (unix_of w) c.args.s c.error_number-number.result _ c.if-number-ge-FIRST_SIGNAL.false c.error_number-number.ensures)))

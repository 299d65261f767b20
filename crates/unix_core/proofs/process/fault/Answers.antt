use Rattle.std.proofs.Common.{◌≡◌, ◌∙◌, ℕ, Bool, true, false, if◌then◌else◌, refl, sym, ap, subst}
use Rattle.v6_base.specs.Trace.{Took}
use Rattle.v6_base.proofs.Took.{took_nothing}
use Rattle.pick_rules.specs.Logged.{logged}
use Rattle.image_keep.specs.Kept.{area_of}
use Rattle.sig_core.specs.declared.numbers.TheConstants.{SIGINS}
use Rattle.pdp_step.specs.declared.outcome.Kind.TheVariants as kind
use Rattle.abstract_unix.specs.declared.ending.Ending.TheVariants.{Trapped}
use Rattle.abstract_unix.specs.Unix.{Unix, process_of}
use Rattle.abstract_unix.specs.Steps.{Steps, returns, signals}
use Rattle.unix_core.proofs.AreaLemmas.{own_area}
use Rattle.pdp_step.specs.declared.outcome.Kind.{Kind}
use Rattle.unix_core.specs.declared.world.World.{World}
use Rattle.abstract_unix.specs.Turn.{faults, passes_setd}
use Rattle.unix_core.specs.Parts.{unix_of, board_in, HasCome, IsReady}
use Rattle.unix_core.proofs.process.fault.Goals as goal

pub returns-in-Segment-clause-come : goal.returns-in-Segment-clause-come
returns-in-Segment-clause-come g c =
    let w : World = c.args.world.now in
    subst (λ (k : Kind). HasCome (board_in w) (faults (unix_of w) c.args.s k) c.grow_stack.result c.grow_stack.new.world)
    (sym c.in-Segment.is) c.grow_stack.ensures.come

-- whether an illegal instruction is passed by
passes : (w : World) (s word : ℕ) (b : Bool) → IsReady w s → ((u : Unix) → (process_of u s).u ≡ area_of w.procs.images.kept s → b ≡ passes_setd u s word)
    → b ≡ passes_setd (unix_of w) s word
passes w s word b ready each = each (unix_of w) (sym (own_area w s ready))

module _ (u : Unix) (s word : ℕ) (k : Kind) (is : k ≡ kind.Illegal word) where
  passed_by : passes_setd u s word ≡ true → returns u ≡ faults u s k
  passed_by by = ap (λ b. if b then returns u else signals u s SIGINS) (sym by) ∙ ap (faults u s) (sym is)

  not_passed : passes_setd u s word ≡ false → signals u s SIGINS ≡ faults u s k
  not_passed by = ap (λ b. if b then returns u else signals u s SIGINS) (sym by) ∙ ap (faults u s) (sym is)

pub passes_setd-requires : goal.passes_setd-requires
passes_setd-requires g c = c.requires.good.running c.args.s c.requires.runs c.requires.user

pub returns-then-passes_setd-clause-come : goal.returns-then-passes_setd-clause-come
returns-then-passes_setd-clause-come g c =
    let w : World = c.args.world.now in
    let told = sym (passes w c.args.s c.in-Illegal.word c.passes_setd.result c.requires c.passes_setd.ensures) ∙ c.if-passes_setd.true in
    subst (λ (x : Steps). HasCome (board_in w) x Trapped w) (passed_by (unix_of w) c.args.s c.in-Illegal.word c.args.kind c.in-Illegal.is told)
    (record { ending = refl; unix = refl; board = refl })

pub returns-then-passes_setd-clause-items : goal.returns-then-passes_setd-clause-items
returns-then-passes_setd-clause-items g c =
    let w : World = c.args.world.now in
    let told = sym (passes w c.args.s c.in-Illegal.word c.passes_setd.result c.requires c.passes_setd.ensures) ∙ c.if-passes_setd.true in
    took_nothing _ _ (ap (λ (x : Steps). (logged (board_in w) x.effects).items) (sym (passed_by (unix_of w) c.args.s c.in-Illegal.word c.args.kind c.in-Illegal.is told)))

pub returns-else-passes_setd-clause-come : goal.returns-else-passes_setd-clause-come
returns-else-passes_setd-clause-come g c =
    let w : World = c.args.world.now in
    let told = sym (passes w c.args.s c.in-Illegal.word c.passes_setd.result c.requires c.passes_setd.ensures) ∙ c.if-passes_setd.false in
    subst (λ (x : Steps). HasCome (board_in w) x c.signal-in-Illegal.result c.signal-in-Illegal.new.world)
    (not_passed (unix_of w) c.args.s c.in-Illegal.word c.args.kind c.in-Illegal.is told) c.signal-in-Illegal.ensures.come

pub returns-else-passes_setd-clause-items : goal.returns-else-passes_setd-clause-items
returns-else-passes_setd-clause-items g c =
    let w : World = c.args.world.now in
    let told = sym (passes w c.args.s c.in-Illegal.word c.passes_setd.result c.requires c.passes_setd.ensures) ∙ c.if-passes_setd.false in
    subst (λ (x : Steps). Took (g.T.Trace.taken c.args.trace.now) (logged (board_in w) x.effects).items (g.T.Trace.taken c.signal-in-Illegal.new.trace))
    (not_passed (unix_of w) c.args.s c.in-Illegal.word c.args.kind c.in-Illegal.is told) c.signal-in-Illegal.ensures.items

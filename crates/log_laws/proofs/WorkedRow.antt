-- A log that is lawful, and two that aren't, by computation: `/etc/init` writes two letters and exits.
use Rattle.std.proofs.Common.{◌≡◌, refl, List, [], ◌∷◌, Option, Some, None, ◌≢◌, arith, inl, ℕ, ◌<◌, ◌≤◌}
use Rattle.std.proofs.lemmas.Int.{ints}
use Rattle.v6_base.specs.declared.entry.Chan.TheVariants.{RunOut, Keys, Wait}
use Rattle.v6_base.specs.declared.entry.Place.{Place}
use Rattle.v6_base.specs.declared.entry.Place.TheVariants.{Core}
use Rattle.v6_base.specs.declared.entry.Entry.{Entry}
use Rattle.v6_base.specs.declared.entry.Entry.TheVariants.{Boot, Go, Idle, Trap, Sleep, Wake, Bare, Image, Exit, End}
use Rattle.map_fit.specs.Fit.{is_clear, first_fit}
use Rattle.pick_rules.specs.Priority.{pswp, setpri}
use Rattle.pick_rules.specs.Search.{least}
use Rattle.pick_rules.specs.Sleepers.{runout_told, setrun, wakeup, fall_asleep}
use Rattle.pick_rules.specs.Choice.{chosen, settle}
use Rattle.pick_rules.specs.Board.{placed}
use Rattle.pick_rules.specs.Apply.{applied}
use Rattle.pick_rules.specs.Fits.{FitsBoard}
use Rattle.pick_rules.specs.Lawful.{Lawful, FitAll, nothing_seen}

-- The last wake is for its parent, in slot 0. One for any other slot fits as well, since nobody waits there.
two_letters : ℕ → List Entry
two_letters parent =
    Boot 1200 0 ∷ Sleep 0 pswp RunOut ∷ Go 1 ∷ Bare 1 ∷ Image 1 37 (Core 1) ∷ Trap 1 ∷ Go 1 ∷ Trap 1 ∷ Trap 1 ∷ Wake Keys
    ∷ Exit 1 4000 ∷ Wake (Wait 1) ∷ Wake (Wait parent) ∷ Idle ∷ End ∷ []

is_there : (p : Place) → Some p ≢ None
is_there p e = absurd (cc e)

two_letters_lawful : (parent : ℕ) → parent ≤ 49 → Lawful (two_letters parent)
unfolding two_letters applied fall_asleep setpri runout_told wakeup setrun settle chosen least placed first_fit is_clear FitsBoard FitAll
two_letters_lawful parent in_range =
    let one : 1 ≤ 49 = omega arith in
    let user : 0 < 1 = omega arith in
    record {
      fit = (
        ((omega arith, omega arith), (omega arith, omega arith)),
        (
          ((omega arith, (omega (arith, ints), omega (arith, ints)), tt), refl),
          (
            (one, refl),
            (
              (one, (record { runs = refl; user = user }, is_there _, refl)),
              (
                (
                  (one, omega arith, omega arith),
                  (refl, (record { runs = refl; user = user }, refl, record { least = omega arith; most = omega arith }, refl)),
                ),
                (
                  (one, record { runs = refl; user = user }),
                  (
                    (one, refl),
                    (
                      (one, record { runs = refl; user = user }),
                      (
                        (one, record { runs = refl; user = user }),
                        (
                          (tt, tt),
                          (
                            ((one, (omega arith, omega arith)), (record { runs = refl; user = user }, refl, refl)),
                            ((one, tt), ((in_range, tt), ((tt, refl), ((tt, inl refl), tt)))),
                          ),
                        ),
                      ),
                    ),
                  ),
                ),
              ),
            ),
          ),
        ),
      );
      over = refl;
    }

-- With a slot past the last, 49, the same log isn't lawful, for its range alone.
no_other_slot : (parent : ℕ) → Lawful (two_letters parent) → parent ≤ 49
unfolding two_letters FitAll
no_other_slot parent lawful = lawful.fit.1.1.1.1.1.1.1.1.1.1.1.1.0.0

-- a log in which a slot without a process is chosen
another_slot : List Entry
another_slot = Boot 1200 0 ∷ Sleep 0 pswp RunOut ∷ Go 2 ∷ []

two_slots : ◌≡◌ {A = Option Entry} (Some (Go 1)) (Some (Go 2)) → ⊥
two_slots e = absurd (cc e)

another_slot_refused : FitAll nothing_seen another_slot → ⊥
unfolding another_slot applied fall_asleep settle chosen least FitsBoard FitAll
another_slot_refused f = two_slots f.1.1.0.1

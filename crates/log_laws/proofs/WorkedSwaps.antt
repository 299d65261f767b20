-- A lawful log with images in the swap area, by computation. Core has 64 clicks, of which the first image has 17 from click 1
-- on. Two children find room after it, a third doesn't, and goes to the swap area: three blocks. The swapper is told, and finds
-- nobody who waits. When the first process waits for a child it goes out for the third, which comes in at its place.
use Rattle.std.proofs.Common.{◌≡◌, refl, ℕ, ◌≤◌, List, [], ◌∷◌, Option, Some, inl, inr, arith}
use Rattle.std.proofs.lemmas.Int.{ints}
use Rattle.v6_base.specs.declared.entry.Chan.TheVariants.{RunIn, RunOut, Wait}
use Rattle.v6_base.specs.declared.entry.Place.{Place}
use Rattle.v6_base.specs.declared.entry.Place.TheVariants.{Core, Swap}
use Rattle.v6_base.specs.declared.entry.Entry.{Entry}
use Rattle.v6_base.specs.declared.entry.Entry.TheVariants.{Boot, Go, Trap, Sleep, Fork, SwapIn, SwapOut, End}
use Rattle.map_fit.specs.Fit.{is_clear, first_fit}
use Rattle.pick_rules.specs.Priority.{pswp, pwait, setpri}
use Rattle.pick_rules.specs.Ranges.{IsPriority}
use Rattle.pick_rules.specs.Search.{least}
use Rattle.pick_rules.specs.Sleepers.{made_ready, runout_told, runin_told, fall_asleep}
use Rattle.pick_rules.specs.Choice.{chosen, settle}
use Rattle.pick_rules.specs.Board.{placed}
use Rattle.pick_rules.specs.Swapper.{swap_move}
use Rattle.pick_rules.specs.Apply.{applied}
use Rattle.pick_rules.specs.Fits.{FitsBoard}
use Rattle.pick_rules.specs.Lawful.{Lawful, FitAll}

-- The third child stands from this block on.
three_children : ℕ → List Entry
three_children block =
    Boot 64 0 ∷ Sleep 0 pswp RunOut ∷ Go 1 ∷ Fork 1 2 (Core 18) ∷ Trap 1 ∷ Go 2 ∷ Fork 2 3 (Core 35) ∷ Trap 2 ∷ Go 3
    ∷ Fork 3 4 (Swap block) ∷ Trap 3 ∷ Go 0 ∷ Sleep 0 pswp RunIn ∷ Go 1 ∷ Sleep 1 pwait (Wait 1) ∷ Go 0 ∷ SwapOut 1 4003 ∷ SwapIn 4 1
    ∷ Sleep 0 pswp RunOut ∷ Go 4 ∷ End ∷ []

pswp_within : IsPriority pswp
pswp_within = (omega (arith, ints), omega (arith, ints))

pwait_within : IsPriority pwait
pwait_within = (omega (arith, ints), omega (arith, ints))

three_children_lawful : Lawful (three_children 4000)
unfolding three_children applied made_ready fall_asleep setpri runout_told runin_told settle chosen least placed first_fit is_clear swap_move FitsBoard FitAll
three_children_lawful =
    let zero : 0 ≤ 49 = omega arith in
    let one : 1 ≤ 49 = omega arith in
    let two : 2 ≤ 49 = omega arith in
    let three : 3 ≤ 49 = omega arith in
    let four : 4 ≤ 49 = omega arith in
    record {
      fit = (
        ((omega arith, omega arith), (omega arith, omega arith)),
        (
          ((zero, pswp_within, tt), refl),
          (
            (one, refl),
            (
              ((one, two, omega arith), (record { runs = refl; user = omega arith }, refl, refl)),
              (
                (one, record { runs = refl; user = omega arith }),
                (
                  (two, refl),
                  (
                    ((two, three, omega arith), (record { runs = refl; user = omega arith }, refl, refl)),
                    (
                      (two, record { runs = refl; user = omega arith }),
                      (
                        (three, refl),
                        (
                          ((three, four, (omega arith, omega arith)), (record { runs = refl; user = omega arith }, refl, refl)),
                          (
                            (three, record { runs = refl; user = omega arith }),
                            (
                              (zero, refl),
                              (
                                ((zero, pswp_within, tt), inr (refl, refl, refl, refl)),
                                (
                                  (one, refl),
                                  (
                                    ((one, pwait_within, one), inl (record { runs = refl; user = omega arith }, (refl, refl))),
                                    (
                                      (zero, refl),
                                      (
                                        ((one, (omega arith, omega arith)), (refl, refl, refl)),
                                        (((four, omega arith), (refl, refl)), (((zero, pswp_within, tt), inr (refl, refl, refl, refl)), ((four, refl), ((tt, refl), tt)))),
                                      ),
                                    ),
                                  ),
                                ),
                              ),
                            ),
                          ),
                        ),
                      ),
                    ),
                  ),
                ),
              ),
            ),
          ),
        ),
      );
      over = refl;
    }

-- At no other block is the same log lawful.
block_is : (a b : ℕ) → ◌≡◌ {A = Option Place} (Some (Swap a)) (Some (Swap b)) → a ≡ b
block_is a b e = cc e

no_other_block : (block : ℕ) → Lawful (three_children block) → 4000 ≡ block
unfolding three_children applied made_ready setpri runout_told fall_asleep settle chosen least placed first_fit is_clear FitsBoard FitAll
no_other_block block lawful = block_is 4000 block lawful.fit.1.1.1.1.1.1.1.1.1.0.1.2

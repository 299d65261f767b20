-- Passes, worked by hand from `sched` in Lions' Commentary: who comes in, who goes out for it, and when process 0 sleeps. Each
-- is a board, and the lines that its pass leaves. Core has so many clicks from click 1 on, the swap area begins at block 4000,
-- and eight clicks are a block.
use Rattle.std.proofs.Common.{◌≡◌, ℕ, List, [], ◌∷◌, ◌++◌, replicate, pos, true, false, Option, Some, refl}
use Rattle.v6_base.specs.Trace.{Item, Log}
use Rattle.v6_base.specs.declared.entry.Chan.{Chan}
use Rattle.v6_base.specs.declared.entry.Chan.TheVariants.{RunIn, RunOut}
use Rattle.v6_base.specs.declared.entry.Place.{Place}
use Rattle.v6_base.specs.declared.entry.Place.TheVariants.{Core, Swap}
use Rattle.v6_base.specs.declared.entry.PanicKind.TheVariants as panic
use Rattle.v6_base.specs.declared.entry.Entry.TheVariants.{Sleep, SwapIn, SwapOut, Panic}
use Rattle.map_fit.specs.Fit.{is_clear, first_fit}
use Rattle.pick_rules.specs.declared.row.Stat.{Stat}
use Rattle.pick_rules.specs.declared.row.Stat.TheVariants.{Sleeping, Waiting, Ready}
use Rattle.pick_rules.specs.declared.row.TableRow.{TableRow}
use Rattle.pick_rules.specs.Priority.{pswp}
use Rattle.pick_rules.specs.Search.{least}
use Rattle.pick_rules.specs.Sleepers.{runout_told, fall_asleep}
use Rattle.pick_rules.specs.Table.{empty_row, row_at}
use Rattle.pick_rules.specs.Board.{TextPlace, Board, text_at}
use Rattle.pick_rules.specs.Apply.{applied}
use Rattle.pick_rules.specs.Swapper.{swap_move}
use Rattle.swap_sched.specs.Pass.{moved, pass}

-- slots 1, 2 and so on, in a core of so many clicks, beside texts; process 0 runs
scene : ℕ → List TableRow → List (Option TextPlace) → Board
scene core rows texts = record {
  table = record {
    rows = record empty_row { stat = Ready } ∷ (rows ++ replicate 40 empty_row);
    curpri = pos 0;
    runrun = false;
    runin = false;
    runout = false;
    last = 0;
    running = Some 0;
    ticks = 0;
    now = 0;
    tout = 0;
  };
  texts = texts;
  core = core;
}

-- a slot that does this, has been where it is for so many seconds, and has so many clicks at a place
slot : Stat → ℕ → ℕ → Place → TableRow
slot stat time size place = record empty_row { stat = stat; time = time; size = size; place = Some place }

-- the same with a text
with_text : TableRow → ℕ → TableRow
with_text row k = record row { text = Some k }

-- a text of so many clicks with one user, which isn't in core
text : ℕ → ℕ → Option TextPlace
text clicks block = Some (record { clicks = clicks; users = 1; loaded = 0; click = 0; block = block })

comes : ℕ → ℕ → Item
comes s c = Log (SwapIn s c)

goes : ℕ → ℕ → Item
goes s block = Log (SwapOut s block)

sleeps : Chan → List Item
sleeps chan = Log (Sleep 0 pswp chan) ∷ []

log_of : Board → List Item
log_of b = (pass b).items

module _ where
  -- Nobody is out of core.
  nobody : log_of (scene 64 (slot Ready 9 37 (Core 1) ∷ []) []) ≡ sleeps RunOut
  unfolding scene slot sleeps log_of pass moved swap_move least first_fit is_clear applied fall_asleep runout_told
  nobody = refl

  -- Somebody has been out for three seconds: the one who runs goes out for it, and waits then for its own time.
  third_second : log_of (scene 64 (slot Ready 3 37 (Core 1) ∷ slot Ready 3 37 (Swap 4000) ∷ []) []) ≡ goes 1 4005 ∷ comes 2 1 ∷ sleeps RunIn
  unfolding scene slot comes goes sleeps log_of pass moved swap_move least first_fit is_clear applied fall_asleep runout_told
  third_second = refl

  -- Two seconds aren't enough for who is out, nor one for who is in core.
  second_second : log_of (scene 64 (slot Ready 9 37 (Core 1) ∷ slot Ready 2 37 (Swap 4000) ∷ []) []) ≡ sleeps RunIn
  unfolding scene slot sleeps log_of pass moved swap_move least first_fit is_clear applied fall_asleep runout_told
  second_second = refl

  just_in : log_of (scene 64 (slot Ready 1 37 (Core 1) ∷ slot Ready 9 37 (Swap 4000) ∷ []) []) ≡ sleeps RunIn
  unfolding scene slot sleeps log_of pass moved swap_move least first_fit is_clear applied fall_asleep runout_told
  just_in = refl

  two_seconds_in : log_of (scene 64 (slot Ready 2 37 (Core 1) ∷ slot Ready 9 37 (Swap 4000) ∷ []) []) ≡ goes 1 4005 ∷ comes 2 1 ∷ sleeps RunIn
  unfolding scene slot comes goes sleeps log_of pass moved swap_move least first_fit is_clear applied fall_asleep runout_told
  two_seconds_in = refl

  -- Who has been in core for longest goes out first, not the largest; and who has been out for longest comes in first.
  longest : log_of (scene 100 (slot Ready 5 30 (Core 1) ∷ slot Sleeping 2 40 (Core 31) ∷ slot Ready 4 60 (Swap 4000) ∷ []) [])
      ≡ goes 1 4008 ∷ goes 2 4012 ∷ comes 3 1 ∷ comes 1 61 ∷ sleeps RunOut
  unfolding scene slot comes goes sleeps log_of pass moved swap_move least first_fit is_clear applied fall_asleep runout_told
  longest = refl

  -- Of equals the lowest comes in first, and goes out first.
  lowest_in : log_of (scene 100 (slot Ready 4 30 (Swap 4000) ∷ slot Ready 4 30 (Swap 4004) ∷ []) []) ≡ comes 1 1 ∷ comes 2 31 ∷ sleeps RunOut
  unfolding scene slot comes sleeps log_of pass moved swap_move least first_fit is_clear applied fall_asleep runout_told
  lowest_in = refl

  lowest_out : log_of (scene 64 (slot Ready 5 30 (Core 1) ∷ slot Ready 5 30 (Core 31) ∷ slot Ready 3 30 (Swap 4000) ∷ []) [])
      ≡ goes 1 4004 ∷ comes 3 1 ∷ sleeps RunIn
  unfolding scene slot comes goes sleeps log_of pass moved swap_move least first_fit is_clear applied fall_asleep runout_told
  lowest_out = refl

  -- Who waits goes out at once, the lowest first, however short the time.
  waiters : log_of (scene 64 (slot Ready 9 16 (Core 1) ∷ slot Waiting 0 24 (Core 17) ∷ slot Waiting 9 24 (Core 41) ∷ slot Ready 0 30 (Swap 4000) ∷ []) [])
      ≡ goes 2 4004 ∷ goes 3 4007 ∷ comes 4 17 ∷ sleeps RunOut
  unfolding scene slot comes goes sleeps log_of pass moved swap_move least first_fit is_clear applied fall_asleep runout_told
  waiters = refl

  -- What is needed is the image with its text, where that isn't in core.
  with_its_text : log_of (scene 64 (slot Ready 9 20 (Core 1) ∷ with_text (slot Ready 1 30 (Swap 4000)) 0 ∷ []) (text 20 4100 ∷ [])) ≡ sleeps RunIn
  unfolding scene slot with_text text sleeps log_of pass moved swap_move least first_fit is_clear applied fall_asleep runout_told
  with_its_text = refl

  -- The text stands first, the image after it, and its time begins anew.
  text_first : log_of (scene 70 (slot Ready 9 20 (Core 1) ∷ with_text (slot Ready 1 30 (Swap 4000)) 0 ∷ []) (text 20 4100 ∷ []))
      ≡ comes 2 21 ∷ sleeps RunOut
  unfolding scene slot with_text text comes sleeps log_of pass moved swap_move least first_fit is_clear applied fall_asleep runout_told
  text_first = refl

  text_then_image : (row_at (pass (scene 70 (slot Ready 9 20 (Core 1) ∷ with_text (slot Ready 1 30 (Swap 4000)) 0 ∷ []) (text 20 4100 ∷ []))).board.table 2)
      ≡ record (with_text (slot Ready 0 30 (Core 41)) 0) { time = 0 }
  unfolding scene slot with_text text pass moved swap_move least first_fit is_clear applied fall_asleep runout_told
  text_then_image = refl

  text_is_loaded : text_at (pass (scene 70 (slot Ready 9 20 (Core 1) ∷ with_text (slot Ready 1 30 (Swap 4000)) 0 ∷ []) (text 20 4100 ∷ []))).board 0
      ≡ Some (record { clicks = 20; users = 1; loaded = 1; click = 21; block = 4100 })
  unfolding scene slot with_text text pass moved swap_move least first_fit is_clear applied fall_asleep runout_told
  text_is_loaded = refl

  -- The swap area is full: nobody can go out.
  full : log_of (scene 64 (slot Waiting 9 37 (Core 1) ∷ slot Ready 0 37 (Swap 4000) ∷ slot Sleeping 0 6936 (Swap 4005) ∷ []) [])
      ≡ Log (Panic panic.Swap) ∷ []
  unfolding scene slot log_of pass moved swap_move least first_fit is_clear applied fall_asleep runout_told
  full = refl

  -- Process 0 leaves word of what it waits for: somebody out of core, or core.
  waits_for_work : (pass (scene 64 (slot Ready 9 37 (Core 1) ∷ []) [])).board.table.runout ≡ true
  unfolding scene slot pass moved swap_move least first_fit is_clear applied fall_asleep runout_told
  waits_for_work = refl

  waits_for_core : (pass (scene 64 (slot Ready 9 37 (Core 1) ∷ slot Ready 2 37 (Swap 4000) ∷ []) [])).board.table.runin ≡ true
  unfolding scene slot pass moved swap_move least first_fit is_clear applied fall_asleep runout_told
  waits_for_core = refl

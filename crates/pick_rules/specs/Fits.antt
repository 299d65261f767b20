-- Which line of the log fits a board.
use Rattle.std.specs.Prelude.{◌≡◌, ◌≢◌, ◌⊎◌, ℕ, ◌<◌, ◌≤◌, ◌==◌, ℤ, if◌then◌else◌, find, Option, Some, None}
use Rattle.v6_base.specs.declared.entry.Chan.{Chan}
use Rattle.v6_base.specs.declared.entry.Chan.TheVariants.{RunIn, RunOut, Tout, Keys, Show, Wait, Read, Write, Disk, KeysOf, ShowOf}
use Rattle.v6_base.specs.declared.entry.PanicKind.{PanicKind}
use Rattle.v6_base.specs.declared.entry.PanicKind.TheVariants as panic
use Rattle.v6_base.specs.declared.entry.Entry.{Entry}
use Rattle.v6_base.specs.declared.entry.Entry.TheVariants.{Boot, Go, Idle, Trap, TickUser, TickKernel, TickIdle, Sleep, Wake, Signal, Nice, Time, Size, SizeKeep, Fork, Leave, Bare, Text, Share, Image, SwapIn, SwapOut, Exit, Reap, Panic, End}
use Rattle.pick_rules.specs.declared.row.Mode.{Mode}
use Rattle.pick_rules.specs.declared.row.Mode.TheVariants as mode
use Rattle.pick_rules.specs.declared.row.Stat.TheVariants.{Empty, Zombie}
use Rattle.pick_rules.specs.Search.{slots_above_0}
use Rattle.pick_rules.specs.declared.table.Table.{Table}
use Rattle.pick_rules.specs.Table.{row_at, is_empty}
use Rattle.pick_rules.specs.Priority.{pswp, pribio, ppipe, ttipri, ttopri, pwait, pslep}
use Rattle.pick_rules.specs.Choice.{settle}
use Rattle.pick_rules.specs.Board.{Board, limit, blocks, text_at, free_text, placed, swap_fit}
use Rattle.pick_rules.specs.Swapper.{In, Out, Waits, swap_move}

-- in what mode the running slot is, if any
abbrev pub mode_of : Table → Option ℕ → Mode
mode_of t None = mode.Idle
mode_of t (Some s) = if (s == 0) then mode.Kernel else (if (row_at t s).calling then mode.Kernel else mode.User)

abbrev pub mode_now : Board → Mode
mode_now b = mode_of b.table b.table.running

abbrev pub free_slot : Board → Option ℕ
free_slot b = find (λ s. is_empty (row_at b.table s).stat) slots_above_0

-- a slot other than 0 runs
pub record IsRunning (b : Board) (s : ℕ) : Type 0 where
  pub runs : b.table.running ≡ Some s
  pub user : 0 < s

-- it has no place and no text, since its exec has given them up
pub record IsBare (b : Board) (s : ℕ) : Type 0 where
  pub runs : IsRunning b s
  pub place : (row_at b.table s).place ≡ None
  pub text : (row_at b.table s).text ≡ None

-- what a process sleeps on, and at which priority
abbrev pub IsSleep : ℕ → Chan → ℤ → Type 0
IsSleep s (Read i) pri = pri ≡ ppipe
IsSleep s (Write i) pri = pri ≡ ppipe
IsSleep s Keys pri = pri ≡ ttipri
IsSleep s (KeysOf l) pri = pri ≡ ttipri
IsSleep s Show pri = pri ≡ ttopri
IsSleep s (ShowOf l) pri = pri ≡ ttopri
IsSleep s (Wait t) pri = (pri ≡ pwait) × (t ≡ s)
IsSleep s Tout pri = pri ≡ pslep
IsSleep s (Disk t) pri = (pri ≡ pribio) × (t ≡ s)
IsSleep s RunIn pri = ⊥
IsSleep s RunOut pri = ⊥

abbrev pub FitsSleep : Board → ℕ → ℤ → Chan → Type 0
FitsSleep b s pri chan =
    (IsRunning b s × IsSleep s chan pri)
    ⊎ ((b.table.running ≡ Some 0) × (s ≡ 0) × (pri ≡ pswp) × (swap_move b ≡ Waits chan))

-- an image's clicks: its u area's 16, and no more than the limit
pub record IsSize (b : Board) (clicks : ℕ) : Type 0 where
  pub least : 16 ≤ clicks
  pub most : clicks ≤ limit b.core

-- a panic has its cause: a demand for a block, for blocks or for a text has none
abbrev pub PanicsInCall : Board → PanicKind → Type 0
PanicsInCall b panic.Swap = swap_fit b (blocks (limit b.core)) ≡ None
PanicsInCall b panic.Zombie = swap_fit b 1 ≡ None
PanicsInCall b panic.Text = free_text b ≡ None

pub record PanicsInPass (b : Board) : Type 0 where
  pub runs : b.table.running ≡ Some 0
  pub s : ℕ
  pub out : swap_move b ≡ Out s
  pub full : swap_fit b (blocks (row_at b.table s).size) ≡ None

abbrev pub FitsPanic : Board → PanicKind → Type 0
FitsPanic b kind = (((s : ℕ) × IsRunning b s) × PanicsInCall b kind) ⊎ ((kind ≡ panic.Swap) × PanicsInPass b)

unfoldable pub FitsBoard : Board → Entry → Type 0
FitsBoard b (Boot core time) = ⊥
FitsBoard b (Go s) = settle b.table ≡ Some (Go s)
FitsBoard b Idle = settle b.table ≡ Some Idle
FitsBoard b (Trap s) = IsRunning b s
FitsBoard b TickUser = mode_now b ≡ mode.User
FitsBoard b TickKernel = mode_now b ≡ mode.Kernel
FitsBoard b TickIdle = mode_now b ≡ mode.Idle
FitsBoard b (Sleep s pri chan) = FitsSleep b s pri chan
FitsBoard b (Wake chan) = Unit {0}
FitsBoard b (Signal s n) = (0 < s) × ((row_at b.table s).stat ≢ Empty)
FitsBoard b (Nice s nice) = IsRunning b s
FitsBoard b (Time time) = (s : ℕ) × IsRunning b s
FitsBoard b (Size s clicks place) =
    IsRunning b s × IsSize b clicks × ((row_at b.table s).size < clicks) × (placed b s clicks ≡ Some place)
FitsBoard b (SizeKeep s clicks) = IsRunning b s × IsSize b clicks × (clicks ≤ (row_at b.table s).size)
FitsBoard b (Fork s child place) =
    IsRunning b s × (free_slot b ≡ Some child) × (placed b s (row_at b.table s).size ≡ Some place)
FitsBoard b (Leave s k sticky) = IsRunning b s × ((row_at b.table s).text ≡ Some k)
FitsBoard b (Bare s) = IsRunning b s × ((row_at b.table s).place ≢ None) × ((row_at b.table s).text ≡ None)
FitsBoard b (Text s k clicks block) =
    IsBare b s × (free_text b ≡ Some k) × (1 ≤ clicks) × (clicks ≤ limit b.core) × (swap_fit b (blocks clicks) ≡ Some block)
FitsBoard b (Share s k) = IsBare b s × (text_at b k ≢ None)
FitsBoard b (Image s clicks place) =
    IsRunning b s × ((row_at b.table s).place ≡ None) × IsSize b clicks × (placed b s clicks ≡ Some place)
FitsBoard b (SwapIn s c) = (b.table.running ≡ Some 0) × (swap_move b ≡ In s c)
FitsBoard b (SwapOut s block) =
    (b.table.running ≡ Some 0) × (swap_move b ≡ Out s) × (swap_fit b (blocks (row_at b.table s).size) ≡ Some block)
FitsBoard b (Exit s block) = IsRunning b s × ((row_at b.table s).text ≡ None) × (swap_fit b 1 ≡ Some block)
FitsBoard b (Reap s) = ((r : ℕ) × IsRunning b r) × ((row_at b.table s).stat ≡ Zombie)
FitsBoard b (Panic kind) = FitsPanic b kind
FitsBoard b End = settle b.table ≡ None

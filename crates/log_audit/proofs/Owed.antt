-- What a line that fits owes to the call that takes it.
use Rattle.std.proofs.Common.{◌≡◌, ◌≢◌, ◌∙◌, ◌<◌, ◌≤◌, ℕ, true, false, Option, Some, None, is_none, refl, sym, ap, subst, arith, inl, inr}
use Rattle.v6_base.specs.declared.entry.Place.{Place}
use Rattle.v6_base.specs.declared.entry.Place.TheVariants.{Swap}
use Rattle.v6_base.specs.declared.entry.Entry.{Entry}
use Rattle.v6_base.specs.declared.entry.Entry.TheVariants.{Boot, Go, Idle, Trap, TickUser, TickKernel, TickIdle, Sleep, Wake, Signal, Nice, Time, Size, SizeKeep, Fork, Leave, Bare, Text, Share, Image, SwapIn, SwapOut, Exit, Reap, Panic, End}
use Rattle.pick_rules.specs.Table.{row_at, is_empty, is_zombie}
use Rattle.pick_rules.specs.Board.{blocks, text_at, placed, core_fit, swap_fit}
use Rattle.pick_rules.specs.Choice.{chosen}
use Rattle.pick_rules.specs.Swapper.{need}
use Rattle.pick_rules.specs.Fits.{FitsBoard, IsRunning, IsSize}
use Rattle.pick_rules.specs.Lawful as log
use Rattle.pick_rules.specs.Lawful.{FitsStage, IsOfExec}
use Rattle.pick_rules.proofs.Found.{IsFound, found_in}
use Rattle.log_audit.specs.declared.world.TextRow.{TextRow}
use Rattle.log_audit.specs.declared.world.World.{World}
use Rattle.log_audit.specs.World.{text_place, board_of}
use Rattle.log_audit.specs.Sound.{IsAlive, IsWhole, IsStripped, entry_at}
use Rattle.log_audit.proofs.MapLemmas.{text_is}
use Rattle.log_audit.proofs.TakeLemmas.{Runs, runner, goes, comes, Brought, in_found, IsOut, out_of_core, go_chosen, idle_chosen}

pub record OfSize (w : World) (s clicks : ℕ) (place : Place) : Type 0 where
  pub user : 0 < s
  pub runs : Runs w s
  pub some : 1 ≤ clicks
  pub most : clicks ≤ 2048
  pub found : placed (board_of w) s clicks ≡ Some place

pub record OfKeep (w : World) (s clicks : ℕ) : Type 0 where
  pub runs : Runs w s
  pub some : 1 ≤ clicks
  pub less : clicks ≤ (row_at w.table s).size

pub record OfFork (w : World) (s child : ℕ) (place : Place) : Type 0 where
  pub user : 0 < s
  pub free : is_empty (row_at w.table child).stat ≡ true
  pub some : 1 ≤ (row_at w.table s).size
  pub found : placed (board_of w) s (row_at w.table s).size ≡ Some place

pub record OfLeave (w : World) (s k : ℕ) : Type 0 where
  pub user : 0 < s
  pub shared : (row_at w.table s).text ≡ Some k

pub record OfBare (w : World) (s : ℕ) : Type 0 where
  pub user : 0 < s
  pub runs : w.table.running ≡ Some s
  pub placed : (row_at w.table s).place ≢ None

pub record OfIn (w : World) (s c : ℕ) : Type 0 where
  pub user : 0 < s
  pub runs : Runs w s
  pub out : (block : ℕ) × ((row_at w.table s).place ≡ Some (Swap block))
  pub found : core_fit (board_of w) (need (board_of w) s) ≡ Some c

pub record OfOut (w : World) (s block : ℕ) : Type 0 where
  pub user : 0 < s
  pub runs : Runs w s
  pub found : swap_fit (board_of w) (blocks (row_at w.table s).size) ≡ Some block

pub record OfExit (w : World) (s block : ℕ) : Type 0 where
  pub user : 0 < s
  pub runs : Runs w s
  pub plain : (row_at w.table s).text ≡ None
  pub found : swap_fit (board_of w) 1 ≡ Some block

-- where each process has a place
abbrev pub Owed : World → Entry → Type 0
Owed w (Boot core time) = ⊥
Owed w (Go s) = chosen w.table ≡ Some s
Owed w Idle = chosen w.table ≡ None
Owed w (Trap s) = Unit {0}
Owed w TickUser = Unit {0}
Owed w TickKernel = Unit {0}
Owed w TickIdle = Unit {0}
Owed w (Sleep s pri chan) = w.table.running ≡ Some s
Owed w (Wake chan) = Unit {0}
Owed w (Signal s n) = Unit {0}
Owed w (Nice s nice) = Unit {0}
Owed w (Time time) = Unit {0}
Owed w (Size s clicks place) = OfSize w s clicks place
Owed w (SizeKeep s clicks) = OfKeep w s clicks
Owed w (Fork s child place) = OfFork w s child place
Owed w (Leave s k sticky) = OfLeave w s k
Owed w (Bare s) = OfBare w s
Owed w (Text s k clicks block) = ⊥
Owed w (Share s k) = ⊥
Owed w (Image s clicks place) = ⊥
Owed w (SwapIn s c) = OfIn w s c
Owed w (SwapOut s block) = OfOut w s block
Owed w (Exit s block) = OfExit w s block
Owed w (Reap s) = is_zombie (row_at w.table s).stat ≡ true
Owed w (Panic kind) = Unit {0}
Owed w End = Unit {0}

-- who runs has its place, so its exec has not given it up
not_bare : (w : World) (s : ℕ) → IsWhole w → IsRunning (board_of w) s → (row_at w.table s).place ≡ None → ⊥
not_bare w s h r e = (runner w s h r).placed e

pub owed : (w : World) (e : Entry) → IsWhole w → FitsBoard (board_of w) e → Owed w e
unfolding FitsBoard
owed w (Boot core time) h f = f
owed w (Go s) h f = go_chosen w.table s f
owed w Idle h f = idle_chosen w.table f
owed w (Trap s) h f = tt
owed w TickUser h f = tt
owed w TickKernel h f = tt
owed w TickIdle h f = tt
owed w (Sleep s pri chan) h (inl f) = f.0.runs
owed w (Sleep s pri chan) h (inr f) = f.0 ∙ ap Some (sym f.1)
owed w (Wake chan) h f = tt
owed w (Signal s n) h f = tt
owed w (Nice s nice) h f = tt
owed w (Time time) h f = tt
owed w (Size s clicks place) h f =
    let z : IsSize (board_of w) clicks = f.1 in let a = z.least in let b = z.most in
    record { user = f.0.user; runs = runner w s h f.0; some = omega (arith, a); most = omega (arith, b); found = f.3 }
owed w (SizeKeep s clicks) h f =
    let z : IsSize (board_of w) clicks = f.1 in let a = z.least in
    record { runs = runner w s h f.0; some = omega (arith, a); less = f.2 }
owed w (Fork s child place) h f =
    let r : Runs w s = runner w s h f.0 in
    let k : IsFound (λ q. is_empty (row_at w.table q).stat) 1 49 child = found_in _ 1 49 child f.1 in
    record { user = f.0.user; free = k.passes; some = (h.loose.each s).some r.placed r.alive; found = f.2 }
owed w (Leave s k sticky) h f = record { user = f.0.user; shared = f.1 }
owed w (Bare s) h f = record { user = f.0.user; runs = f.0.runs; placed = f.1 }
owed w (Text s k clicks block) h f = not_bare w s h f.0.runs f.0.place
owed w (Share s k) h f = not_bare w s h f.0.runs f.0.place
owed w (Image s clicks place) h f = not_bare w s h f.0 f.1
owed w (SwapIn s c) h f =
    let r : (0 < s) × Runs w s = comes w s c h f.1 in
    let b : Brought (board_of w) s c = in_found (board_of w) s c f.1 in
    let o : IsOut w.table s = out_of_core w s r.0 r.1.placed b.shall in
    record { user = r.0; runs = r.1; out = (o.block, o.place); found = b.room }
owed w (SwapOut s block) h f =
    let r : (0 < s) × Runs w s = goes w s h f.1 in
    record { user = r.0; runs = r.1; found = f.2 }
owed w (Exit s block) h f = record { user = f.0.user; runs = runner w s h f.0; plain = f.1; found = f.2 }
owed w (Reap s) h f = ap is_zombie f.1
owed w (Panic kind) h f = tt
owed w End h f = tt

pub owes : (w : World) (e : Entry) → IsWhole w → FitsStage log.Idling (board_of w) e → Owed w e
owes w e h (inl f) = subst (Owed w) (sym f) tt
owes w e h (inr f) = owed w e h f

-- in the exec of a slot
pub record InExec (w : World) (s : ℕ) : Type 0 where
  pub stripped : IsStripped w s
  pub bare : (row_at w.table s).place ≡ None
  pub used : is_empty (row_at w.table s).stat ≡ false
  pub alive : is_zombie (row_at w.table s).stat ≡ false

pub record OfText (w : World) (s k clicks block : ℕ) : Type 0 where
  pub exec : InExec w s
  pub plain : (row_at w.table s).text ≡ None
  pub free : entry_at w.texts k ≡ None
  pub some : 1 ≤ clicks
  pub most : clicks ≤ 2048
  pub found : swap_fit (board_of w) (blocks clicks) ≡ Some block

pub record OfShare (w : World) (s k : ℕ) : Type 0 where
  pub exec : InExec w s
  pub plain : (row_at w.table s).text ≡ None
  pub there : entry_at w.texts k ≢ None

pub record OfImage (w : World) (s clicks : ℕ) (place : Place) : Type 0 where
  pub exec : InExec w s
  pub some : 1 ≤ clicks
  pub most : clicks ≤ 2048
  pub found : placed (board_of w) s clicks ≡ Some place

abbrev pub ExecOwed : World → Entry → Type 0
ExecOwed w (Boot core time) = ⊥
ExecOwed w (Go s) = ⊥
ExecOwed w Idle = ⊥
ExecOwed w (Trap s) = ⊥
ExecOwed w TickUser = ⊥
ExecOwed w TickKernel = ⊥
ExecOwed w TickIdle = ⊥
ExecOwed w (Sleep s pri chan) = ⊥
ExecOwed w (Wake chan) = ⊥
ExecOwed w (Signal s n) = ⊥
ExecOwed w (Nice s nice) = ⊥
ExecOwed w (Time time) = ⊥
ExecOwed w (Size s clicks place) = ⊥
ExecOwed w (SizeKeep s clicks) = ⊥
ExecOwed w (Fork s child place) = ⊥
ExecOwed w (Leave s k sticky) = ⊥
ExecOwed w (Bare s) = ⊥
ExecOwed w (Text s k clicks block) = OfText w s k clicks block
ExecOwed w (Share s k) = OfShare w s k
ExecOwed w (Image s clicks place) = OfImage w s clicks place
ExecOwed w (SwapIn s c) = ⊥
ExecOwed w (SwapOut s block) = ⊥
ExecOwed w (Exit s block) = ⊥
ExecOwed w (Reap s) = ⊥
ExecOwed w (Panic kind) = Unit {0}
ExecOwed w End = ⊥

in_exec : (w : World) (s r : ℕ) → IsStripped w s → r ≡ s → (row_at w.table r).place ≡ None → InExec w r
in_exec w s r h e p =
    let k : IsStripped w r = subst (IsStripped w) (sym e) h in
    let a : IsAlive w.table (Some r) = subst (IsAlive w.table) k.runs k.alive in
    record { stripped = k; bare = p; used = a.0; alive = a.1 }

no_text : (o : Option TextRow) → is_none (text_place o) ≡ true → o ≡ None
no_text None e = refl
no_text (Some t) e = absurd (cc e)

pub exec_owed : (w : World) (s : ℕ) (e : Entry) → IsStripped w s → IsOfExec s e → FitsBoard (board_of w) e → ExecOwed w e
unfolding FitsBoard
exec_owed w s (Boot core time) h o f = o
exec_owed w s (Go r) h o f = o
exec_owed w s Idle h o f = o
exec_owed w s (Trap r) h o f = o
exec_owed w s TickUser h o f = o
exec_owed w s TickKernel h o f = o
exec_owed w s TickIdle h o f = o
exec_owed w s (Sleep r pri chan) h o f = o
exec_owed w s (Wake chan) h o f = o
exec_owed w s (Signal r n) h o f = o
exec_owed w s (Nice r nice) h o f = o
exec_owed w s (Time time) h o f = o
exec_owed w s (Size r clicks place) h o f = o
exec_owed w s (SizeKeep r clicks) h o f = o
exec_owed w s (Fork r child place) h o f = o
exec_owed w s (Leave r k sticky) h o f = o
exec_owed w s (Bare r) h o f = o
exec_owed w s (Text r k clicks block) h o f =
    let n : IsFound (λ q. is_none (text_at (board_of w) q)) 0 40 k = found_in _ 0 40 k f.1 in
    let m = f.3 in
    record {
      exec = in_exec w s r h o f.0.place;
      plain = f.0.text;
      free = no_text (entry_at w.texts k) (sym (ap is_none (text_is w.texts k)) ∙ n.passes);
      some = f.2;
      most = omega (arith, m);
      found = f.4;
    }
exec_owed w s (Share r k) h o f =
    record { exec = in_exec w s r h o f.0.place; plain = f.0.text; there = λ g. f.1 (text_is w.texts k ∙ ap text_place g) }
exec_owed w s (Image r clicks place) h o f =
    let z : IsSize (board_of w) clicks = f.2 in let a = z.least in let b = z.most in
    record { exec = in_exec w s r h o f.1; some = omega (arith, a); most = omega (arith, b); found = f.3 }
exec_owed w s (SwapIn r c) h o f = o
exec_owed w s (SwapOut r block) h o f = o
exec_owed w s (Exit r block) h o f = o
exec_owed w s (Reap r) h o f = o
exec_owed w s (Panic kind) h o f = tt
exec_owed w s End h o f = o

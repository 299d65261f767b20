-- The calls on processes that want no place for an image: each leaves files, directories, inodes and switches as they are.
use Rattle.std.proofs.Common.{◌≡◌, ◌≢◌, ◌∙◌, ℕ, true, false, cond, get_or, set, Some, None, sym, ap}
use Rattle.std.specs.Prelude.{unwrap_or}
use Rattle.std.proofs.lemmas.List.{get_or-set_same, get_or-set_other}
use Rattle.v6_base.specs.declared.answer.Answer.{Answer}
use Rattle.v6_base.specs.declared.entry.Entry.{Entry}
use Rattle.v6_base.specs.declared.entry.Entry.TheVariants as line
use Rattle.sys_procs.specs.Process.{Process, no_process}
use Rattle.sys_procs.specs.World.{World, process_of, change, without_process}
use Rattle.sys_procs.specs.Comes.{Comes, comes, logs}
use Rattle.sys_procs.specs.Times.{with_time}
use Rattle.abstract_unix.specs.Whole.{told_in}
use Rattle.abstract_unix.proofs.Owing.{some_within, told_change, told_unseen, told_dead}
use Rattle.abstract_unix.proofs.Moved.{AreTamed, IsMildLine, mild_wake, mild_nice, mild_time, mild_reap}
use Rattle.abstract_unix.proofs.ProcessRows.{SameProcess, IsGrave, Plain, gives, refuses, waits, changes, due, nice, wakes, dated, buries}

-- What a call comes to that is so: it makes no demand.
pub record IsMild (base : World) (c : Comes) : Type 0 where
  pub effects : AreTamed (λ (x : World). ⊥) c.effects
  pub inodes : c.state.inodes ≡ base.inodes
  pub switches : c.state.switches ≡ base.switches
  pub texts : c.state.texts ≡ base.texts
  pub told : told_in c.state.processes ≡ told_in base.processes

-- A world near another one, in which the process of a slot lives.
pub record IsNear (base w : World) (s : ℕ) : Type 0 where
  pub inodes : w.inodes ≡ base.inodes
  pub switches : w.switches ≡ base.switches
  pub texts : w.texts ≡ base.texts
  pub told : told_in w.processes ≡ told_in base.processes
  pub here : get_or w.processes s None ≡ Some (process_of w s)
  pub lives : (process_of w s).is_zombie ≡ false

module _ (base : World) (s : ℕ) where
  mild_comes : (w : World) (a : Answer) → IsNear base w s → IsMild base (comes w a)
  mild_comes w a near = record { effects = tt; inodes = near.inodes; switches = near.switches; texts = near.texts; told = near.told }

  mild_logs : (e : Entry) (rest : Comes) → IsMildLine e → IsMild base rest → IsMild base (logs e rest)
  mild_logs e rest mild m = record { effects = (mild, m.effects); inodes = m.inodes; switches = m.switches; texts = m.texts; told = m.told }

  -- The process of the slot is changed, in nothing that counts.
  pub near_change : (w : World) (rule : Process → Process) → IsNear base w s → SameProcess (process_of w s) (rule (process_of w s)) → IsNear base (change w s rule) s
  near_change w rule near same =
      let p : Process = process_of w s in
      let got : get_or (set w.processes s (Some (rule p))) s None ≡ Some (rule p) =
      get_or-set_same w.processes s (Some (rule p)) None (some_within w.processes s p near.here) in
      let its : process_of (change w s rule) s ≡ rule p = ap (λ o. unwrap_or o no_process) got in
      record {
        inodes = near.inodes;
        switches = near.switches;
        texts = near.texts;
        told = told_change w.processes s p (rule p) near.here (λ i. cond (same.dead i) None (Some (record { files = same.files i; dir = same.dir i }))) ∙ near.told;
        here = got ∙ ap (λ (x : Process). Some x) (sym its);
        lives = ap (λ (x : Process). x.is_zombie) its ∙ same.dead ∙ near.lives;
      }

  -- one that has ended is buried
  near_drop : (w : World) (d : ℕ) → IsGrave w d → IsNear base w s → IsNear base (without_process w d) s
  near_drop w d grave near =
      let other : s ≢ d = λ same.
      let its : grave.process ≡ process_of w s = sym (ap (λ o. unwrap_or o no_process) grave.at) ∙ ap (process_of w) (sym same) in
      let never : true ≡ false = sym grave.dead ∙ ap (λ (q : Process). q.is_zombie) its ∙ near.lives in
      cc never in
      let stays : get_or (set w.processes d None) s None ≡ get_or w.processes s None = get_or-set_other w.processes d s None None other in
      let its : process_of (without_process w d) s ≡ process_of w s = ap (λ o. unwrap_or o no_process) stays in
      record {
        inodes = near.inodes;
        switches = near.switches;
        texts = near.texts;
        told = told_unseen w.processes d None (sym (told_dead w.processes d grave.process grave.at grave.dead)) ∙ near.told;
        here = stays ∙ near.here ∙ ap (λ (q : Process). Some q) (sym its);
        lives = ap (λ (q : Process). q.is_zombie) its ∙ near.lives;
      }

  pub mild_plain : (w : World) (c : Comes) → Plain s w c → IsNear base w s → IsMild base c
  mild_plain w c (gives v r0 r1) near = mild_comes w _ near
  mild_plain w c (refuses v e) near = mild_comes w _ near
  mild_plain w c (waits v rule pri chan same sleeping is range) near = mild_comes (change w s rule) _ (near_change w rule near same)
  mild_plain w c (changes v rule d same pending rest) near = mild_plain (change w s rule) c rest (near_change w rule near same)
  mild_plain w c (due v tout d rest) near =
      mild_plain (record w { clock = record w.clock { tout = tout } }) c rest
      (record { inodes = near.inodes; switches = near.switches; texts = near.texts; told = near.told; here = near.here; lives = near.lives })
  mild_plain w c (nice v value d range rest) near = mild_logs (line.Nice s value) d (mild_nice s value) (mild_plain w d rest near)
  mild_plain w c (wakes v chan d range rest) near = mild_logs (line.Wake chan) d (mild_wake chan) (mild_plain w d rest near)
  mild_plain w c (dated v time d range rest) near =
      mild_logs (line.Time time) d (mild_time time) (mild_plain (with_time w time) d rest
      (record { inodes = near.inodes; switches = near.switches; texts = near.texts; told = near.told; here = near.here; lives = near.lives }))
  mild_plain w c (buries v k d grave rest) near =
      mild_logs (line.Reap k) d (mild_reap k) (mild_plain (without_process w k) d rest (near_drop w k grave near))

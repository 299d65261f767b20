-- exec, break, kill and the growth of a stack leave the processes of other slots alone, and so does each row.
use Rattle.std.proofs.Common.{◌≡◌, ◌≢◌, ℕ, Bool, true, false, ◌==◌, List, [], map, length, Option, Some, None, slice_index, sym, subst}
use Rattle.std.specs.Prelude.{⊤, MatchOption, Result, Ok, Err}
use Rattle.std.specs.Option.{option_map}
use Rattle.v6_base.specs.declared.entry.Entry.TheVariants.{Bare, Share}
use Rattle.v6_base.specs.declared.errno.Errno.{Errno}
use Rattle.seg_regs.specs.Sizes.{is_refused}
use Rattle.fs_tree.specs.Finding.{with_reference}
use Rattle.pick_rules.specs.Effects as effect
use Rattle.pick_rules.specs.Effects.{Show}
use Rattle.u_area.specs.declared.area.UArea.{UArea}
use Rattle.mount_tab.specs.Mounted.{MountTable}
use Rattle.sys_procs.specs.Process.{Process}
use Rattle.sys_procs.specs.World.{World, process_of, change}
use Rattle.sys_procs.specs.Comes.{Comes, does, logs}
use Rattle.sys_procs.specs.TextTable.{entry_of, with_text}
use Rattle.sys_procs.specs.Texts.{free_entry, new_text, with_user, with_entry, shares_text, makes_text, xalloc_by, xalloc}
use Rattle.sys_procs.specs.Tests.{node_at}
use Rattle.sys_procs.specs.Break.{break_at, grow, grown_stack, grown_or_not, clicks_up_to, sized, expands}
use Rattle.sys_procs.specs.Signals.{signal_lines, meant_in, all_signalled, is_reached, kill_to}
use Rattle.sys_procs.specs.ExecFile.{Tested, tests, with_moved, data_read, reads_text, image_clicks, bared, begins, executes, begins_anew, loads, done_by, exec_file}
use Rattle.sys_procs.proofs.TestedSlots.{tests_processes}
use Rattle.abstract_unix.specs.declared.calls.ProcessCall.{ProcessCall}
use Rattle.abstract_unix.specs.declared.calls.ProcessCall.TheVariants as process
use Rattle.abstract_unix.specs.Calls.{process_row}
use Rattle.abstract_unix.proofs.ProcessRows.{plain_row}
use Rattle.unix_core.proofs.PrivateSlots.{Spared, spared_then, spared_signalled, carry_shown, carry_both}
use Rattle.unix_core.proofs.PrivateRows.{IsSparing, spared_change, sparing_comes, sparing_logs, sparing_if, sparing_xfree, sparing_plain}

module _ (ps : List (Option Process)) (r s : ℕ) (other : r ≢ s) where
  abbrev SparedIn : World → Type 0
  SparedIn w = Spared ps w.processes r

  -- A text is shared.
  sparing_xalloc_by : (w : World) (ino size : ℕ) (o : Option ℕ) (next : World → Bool → Comes) → SparedIn w
      → ((v : World) (b : Bool) → SparedIn v → IsSparing ps r (next v b)) → IsSparing ps r (xalloc_by w s ino size o next)
  sparing_xalloc_by w ino size (Some k) next h rest =
      let entry = record w { texts = with_user w.texts k } in
      sparing_logs ps r s other (Share s k) _ (rest (shares_text w s k) false (spared_change ps r s other entry (with_entry k) h))
  sparing_xalloc_by w ino size None next h rest =
      let k = free_entry w.texts in
      let entry = record w { texts = with_text w.texts k (new_text ino size); inodes = with_reference w.inodes ino } in
      let made : World = makes_text w s ino size in
      let after : IsSparing ps r (next made true) = rest made true (spared_change ps r s other entry (with_entry k) h) in
      record { effects = (h, after.effects); state = after.state }

  sparing_xalloc : (w : World) (ino size : ℕ) (next : World → Bool → Comes) → SparedIn w
      → ((v : World) (b : Bool) → SparedIn v → IsSparing ps r (next v b)) → IsSparing ps r (xalloc w s ino size next)
  sparing_xalloc w ino size next h rest =
      sparing_if ps r s other (size == 0) _ _ (rest w false h) (sparing_xalloc_by w ino size (entry_of w.texts ino) next h rest)

  -- The new one comes.
  spared_read : (b : Bool) (w : World) (program : _) → SparedIn w → SparedIn (reads_text b w s program)
  spared_read true w program h = h
  spared_read false w program h = h

  sparing_executes : (w : World) (u : UArea) (program : _) → SparedIn w → IsSparing ps r (executes w s u program)
  sparing_executes w u program h =
      let m = data_read w s program in
      let read : World = with_moved w program.ino m in
      sparing_comes ps r s other _ _ (spared_change ps r s other read (λ p. begins u p (node_at w program.ino) program m.memory.data) h)

  sparing_begins : (w : World) (u : UArea) (program : _) → SparedIn w → IsSparing ps r (begins_anew w s u program)
  sparing_begins w u program h =
      let places : World → Bool → Comes = λ placed is_new.
      does (effect.Image s (image_clicks program.plan) placed) (executes (reads_text is_new placed s program) s u program) in
      let placed : (v : World) (b : Bool) → SparedIn v → IsSparing ps r (places v b) = λ v b k.
      let rest : IsSparing ps r (executes (reads_text b v s program) s u program) =
      sparing_executes (reads_text b v s program) u program (spared_read b v program k) in
      record { effects = (k, rest.effects); state = rest.state } in
      sparing_xalloc w program.ino _ places h placed

  -- The old image goes.
  sparing_loads : (w : World) (program : _) → SparedIn w → IsSparing ps r (loads w s program)
  sparing_loads w program h =
      let fills : World → Comes = λ left. logs (Bare s) (begins_anew (change left s bared) s (process_of left s).u program) in
      let filled : (v : World) → SparedIn v → IsSparing ps r (fills v) = λ v k.
      sparing_logs ps r s other (Bare s) _ (sparing_begins (change v s bared) (process_of v s).u program (spared_change ps r s other v bared k)) in
      sparing_xfree ps r s other w (process_of w s).text fills h filled

  sparing_done : (w : World) (a : Result _ Errno) → SparedIn w → IsSparing ps r (done_by w s a)
  sparing_done w (Ok program) h = sparing_loads w program h
  sparing_done w (Err e) h = sparing_comes ps r s other w _ h

  sparing_exec : (mounts : MountTable) (w : World) (name list : ℕ) → SparedIn w → IsSparing ps r (exec_file mounts w s name list)
  unfolding exec_file
  sparing_exec mounts w name list h =
      let t : Tested = tests mounts w s name list in
      sparing_done t.world t.answer (subst (λ qs. Spared ps qs r) (sym (tests_processes mounts w s name list)) h)

  -- break, and the growth of a stack
  sparing_expands : (w : World) (d n : ℕ) → SparedIn w → IsSparing ps r (expands w s d n)
  sparing_expands w d n h = record { effects = (h, tt); state = spared_change ps r s other w (sized d n) h }

  sparing_break : (w : World) (at : ℕ) → SparedIn w → IsSparing ps r (break_at w s at)
  unfolding break_at
  sparing_break w at h =
      let p : Process = process_of w s in
      let d = clicks_up_to p.u.text_size at in
      sparing_if ps r s other (is_refused p.u.text_size d p.u.stack_size w.limit) _ _ (sparing_comes ps r s other w _ h)
      (sparing_expands w d p.u.stack_size h)

  abbrev pub IsSparingCall : Comes → Type 0
  IsSparingCall c = IsSparing ps r c

  sparing_stack : (w : World) (d : ℕ) (o : Option ℕ) → SparedIn w → MatchOption (option_map (expands w s d) o) ⊤ IsSparingCall
  sparing_stack w d None h = tt
  sparing_stack w d (Some n) h = sparing_expands w d n h

  pub sparing_grow : (w : World) (sp : ℕ) → SparedIn w → MatchOption (grow w s sp) ⊤ IsSparingCall
  unfolding grow
  sparing_grow w sp h =
      let p : Process = process_of w s in
      sparing_stack w p.u.data_size (grown_stack p.u.text_size p.u.data_size p.u.stack_size w.limit sp) h

  -- where it grows, and where it doesn't
  pub sparing_grown : (w : World) (sp : ℕ) → SparedIn w → IsSparing ps r (grown_or_not w s (grow w s sp))
  sparing_grown w sp h = by (grow w s sp) (sparing_grow w sp h)
    where
      by : (o : Option Comes) → MatchOption o ⊤ IsSparingCall → IsSparing ps r (grown_or_not w s o)
      by None grown = sparing_comes ps r s other w _ h
      by (Some c) grown = grown

  -- kill
  sparing_kill : (w : World) (n : ℕ) → length w.processes ≡ 50 → SparedIn w → IsSparing ps r (kill_to w s n)
  unfolding kill_to
  sparing_kill w n long h =
      let who = is_reached s (process_of w s) in
      let slots : List ℕ = meant_in who w.processes in
      sparing_if ps r s other (length slots == 0) _ _ (sparing_comes ps r s other w _ h)
      (record {
        effects = carry_both SparedIn (map Show (signal_lines n slots)) [] (carry_shown SparedIn (signal_lines n slots)) tt;
        state = spared_then ps w.processes (all_signalled who n w.processes) r h (spared_signalled w.processes who n r long);
      })

  -- each row
  pub sparing_row : (call : ProcessCall) (mounts : MountTable) (w : World) (args : List ℕ) → length w.processes ≡ 50 → SparedIn w
      → IsSparing ps r (process_row call mounts w s args)
  sparing_row process.Exec mounts w a long h = sparing_exec mounts w (slice_index a 0) (slice_index a 1) h
  sparing_row process.Break mounts w a long h = sparing_break w (slice_index a 0) h
  sparing_row process.Kill mounts w a long h = sparing_kill w (slice_index a 0) long h
  sparing_row call mounts w a long h = sparing_plain ps r s other w _ (plain_row call tt mounts s w a) h

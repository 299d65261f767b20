use Rattle.std.proofs.Common.{◌≡◌, ◌≤◌, ◌∙◌, ℕ, false, List, refl, sym, ap, subst}
use Rattle.v6_base.proofs.Took.{took_nothing}
use Rattle.pick_rules.specs.Logged.{logged}
use Rattle.unix_core.specs.Parts.{unix_of, board_in}
use Rattle.sys_files.specs.Handed.{Handed}
use Rattle.sys_files.specs.Did.{Did}
use Rattle.sys_procs.specs.Comes.{Comes}
use Rattle.abstract_unix.specs.Unix.{process_of, mounts_of}
use Rattle.abstract_unix.specs.declared.calls.SystemCall.{SystemCall}
use Rattle.abstract_unix.specs.Calls.{handed_of, world_of, file_row, process_row, reads_disk, loads_program, did_by, came_by, waits_in_call, does_call}
use Rattle.unix_core.specs.declared.world.World.{World}
use Rattle.unix_core.specs.declared.slots.Slots.{Slots}
use Rattle.unix_core.specs.Slots.{HasWaited}
use Rattle.unix_core.proofs.CountLemmas.{has_not_waited}
use Rattle.unix_core.proofs.EndingLemmas.{timed_next, came_next, did_next, exit_end, fork_end, never_next}
use Rattle.unix_core.proofs.process.does_call.Goals as goal

pub returns-in-Indirect-clause-items : goal.returns-in-Indirect-clause-items
returns-in-Indirect-clause-items g c =
    let w : World = c.args.world.now in
    took_nothing _ _ (ap (λ (call : SystemCall). (logged (board_in w) (does_call (unix_of w) c.args.fixed.now.slot call c.args.args).effects).items) c.in-Indirect.is)

pub returns-in-Exit-clause-call : goal.returns-in-Exit-clause-call
returns-in-Exit-clause-call g c =
    never_next _ _ _ _ c.exit.ensures.come (exit_end (unix_of c.args.world.now) c.args.fixed.now.slot)

pub returns-in-Fork-clause-good : goal.returns-in-Fork-clause-good
returns-in-Fork-clause-good g c goes = (c.fork.ensures.ready goes).good

pub returns-in-Fork-clause-runs : goal.returns-in-Fork-clause-runs
returns-in-Fork-clause-runs g c goes other = (c.fork.ensures.ready goes).runs

pub returns-in-Fork-clause-call : goal.returns-in-Fork-clause-call
returns-in-Fork-clause-call g c =
    never_next _ _ _ _ c.fork.ensures.come (fork_end (unix_of c.args.world.now) c.args.fixed.now.slot)

pub returns-in-OnFiles-clause-good : goal.returns-in-OnFiles-clause-good
returns-in-OnFiles-clause-good g c goes = c.call_files.ensures.ready.good

pub returns-in-OnFiles-clause-runs : goal.returns-in-OnFiles-clause-runs
returns-in-OnFiles-clause-runs g c goes other = c.call_files.ensures.ready.runs

pub returns-in-OnFiles-clause-call : goal.returns-in-OnFiles-clause-call
returns-in-OnFiles-clause-call g c =
    let w : World = c.args.world.now in
    let s = c.args.fixed.now.slot in
    let h : Handed = handed_of (unix_of w) (process_of (unix_of w) s) in
    let did : Did = file_row c.in-OnFiles.on_files h s c.args.args w.procs.table.now in
    never_next _ _ _ _ c.call_files.ensures.come
    (timed_next (reads_disk c.in-OnFiles.on_files h did.answer) s (did_by (unix_of w) s did) (did_next (unix_of w) s did))

pub returns-in-OnProcesses-clause-good : goal.returns-in-OnProcesses-clause-good
returns-in-OnProcesses-clause-good g c goes = (c.call_processes.ensures.ready goes).good

pub returns-in-OnProcesses-clause-runs : goal.returns-in-OnProcesses-clause-runs
returns-in-OnProcesses-clause-runs g c goes other = (c.call_processes.ensures.ready goes).runs

pub returns-in-OnProcesses-clause-call : goal.returns-in-OnProcesses-clause-call
returns-in-OnProcesses-clause-call g c =
    let w : World = c.args.world.now in
    let s = c.args.fixed.now.slot in
    let row : Comes = process_row c.in-OnProcesses.on_processes (mounts_of (unix_of w)) (world_of (unix_of w)) s c.args.args in
    never_next _ _ _ _ c.call_processes.ensures.come
    (timed_next (loads_program c.in-OnProcesses.on_processes row.answer) s (came_by (unix_of w) s row) (came_next (unix_of w) s row))

-- whether it waits
no_wait : (w : World) (s : ℕ) (args : List ℕ) (call own : SystemCall) → call ≡ own → waits_in_call (unix_of w) s own args ≡ false
    → waits_in_call (unix_of w) s call args ≡ false
no_wait w s args call own is none = ap (λ x. waits_in_call (unix_of w) s x args) is ∙ none

pub returns-in-Indirect-clause-slots : goal.returns-in-Indirect-clause-slots
returns-in-Indirect-clause-slots g c goes =
    has_not_waited _ _ _ refl c.requires.waits (no_wait c.args.world.now c.args.fixed.now.slot c.args.args c.args.call _ c.in-Indirect.is refl)

pub returns-in-Exit-clause-slots : goal.returns-in-Exit-clause-slots
returns-in-Exit-clause-slots g c goes =
    has_not_waited _ _ _ c.exit.ensures.slots c.requires.waits (no_wait c.args.world.now c.args.fixed.now.slot c.args.args c.args.call _ c.in-Exit.is refl)

pub returns-in-Fork-clause-slots : goal.returns-in-Fork-clause-slots
returns-in-Fork-clause-slots g c goes =
    has_not_waited _ _ _ c.fork.ensures.slots c.requires.waits (no_wait c.args.world.now c.args.fixed.now.slot c.args.args c.args.call _ c.in-Fork.is refl)

pub returns-in-Unknown-clause-slots : goal.returns-in-Unknown-clause-slots
returns-in-Unknown-clause-slots g c goes =
    has_not_waited _ _ _ c.fail.ensures.slots c.requires.waits (no_wait c.args.world.now c.args.fixed.now.slot c.args.args c.args.call _ c.in-Unknown.is refl)

pub returns-in-OnFiles-clause-slots : goal.returns-in-OnFiles-clause-slots
returns-in-OnFiles-clause-slots g c goes =
    let w : World = c.args.world.now in
    subst (λ (x : SystemCall). HasWaited (waits_in_call (unix_of w) c.args.fixed.now.slot x c.args.args) w.slots c.call_files.new.world.slots)
    (sym c.in-OnFiles.is) c.call_files.ensures.slots

pub returns-in-OnProcesses-clause-slots : goal.returns-in-OnProcesses-clause-slots
returns-in-OnProcesses-clause-slots g c goes =
    let w : World = c.args.world.now in
    subst (λ (x : SystemCall). HasWaited (waits_in_call (unix_of w) c.args.fixed.now.slot x c.args.args) w.slots c.call_processes.new.world.slots)
    (sym c.in-OnProcesses.is) (c.call_processes.ensures.slots goes)

pub returns-in-Indirect-clause-within : goal.returns-in-Indirect-clause-within
returns-in-Indirect-clause-within g c = c.requires.waits.within

pub returns-in-Exit-clause-within : goal.returns-in-Exit-clause-within
returns-in-Exit-clause-within g c = subst (λ (x : Slots). x.left ≤ x.due) (sym c.exit.ensures.slots) c.requires.waits.within

pub returns-in-Fork-clause-within : goal.returns-in-Fork-clause-within
returns-in-Fork-clause-within g c = subst (λ (x : Slots). x.left ≤ x.due) (sym c.fork.ensures.slots) c.requires.waits.within

pub returns-in-Unknown-clause-within : goal.returns-in-Unknown-clause-within
returns-in-Unknown-clause-within g c = subst (λ (x : Slots). x.left ≤ x.due) (sym c.fail.ensures.slots) c.requires.waits.within

pub returns-in-OnFiles-clause-within : goal.returns-in-OnFiles-clause-within
returns-in-OnFiles-clause-within g c = c.call_files.ensures.slots.within

pub returns-in-OnProcesses-clause-within : goal.returns-in-OnProcesses-clause-within
returns-in-OnProcesses-clause-within g c = c.call_processes.ensures.within

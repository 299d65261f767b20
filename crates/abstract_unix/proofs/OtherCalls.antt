-- Calls leave the other disk alone.
use Rattle.std.proofs.Common.{◌≡◌, ◌≢◌, ◌∙◌, ℕ, List, [], ◌∷◌, Option, Some, None, is_none, refl, sym, ap, subst}
use Rattle.std.specs.Prelude.{Result, IfOk}
use Rattle.std.proofs.lemmas.List.Elements.{All-head}
use Rattle.v6_base.specs.Trace.{Taken}
use Rattle.v6_base.specs.declared.answer.Answer.{Answer}
use Rattle.v6_base.specs.declared.entry.PanicKind.{PanicKind}
use Rattle.pick_rules.specs.Logged.{Stop, left_by}
use Rattle.fs_nodes.specs.FileSystem.{FileSystem}
use Rattle.fs_nodes.specs.Keys.{Stores}
use Rattle.fs_tree.specs.Finding.{Inodes}
use Rattle.mount_tab.specs.Mounted.{MountTable}
use Rattle.proc_tab.specs.Processes.{lowest}
use Rattle.sys_files.specs.Handed.{Handed}
use Rattle.sys_files.specs.Does.{Does}
use Rattle.sys_files.specs.Frame.{LeavesOther}
use Rattle.sys_files.specs.Moving.{resumes}
use Rattle.sys_files.specs.Sound.{IsSound}
use Rattle.sys_files.proofs.OtherCloses.{closed_apart}
use Rattle.sys_files.proofs.CoreWalk.{core_leaves_other}
use Rattle.sys_files.proofs.OtherWalks.{IsOn, on_root, on_second}
use Rattle.sys_procs.specs.declared.procs.Procs.{Procs}
use Rattle.sys_procs.specs.World.{World, process_of, members, change}
use Rattle.sys_procs.specs.Agree.{answered}
use Rattle.sys_procs.specs.Comes.{Comes}
use Rattle.sys_procs.specs.Done.{HasDone}
use Rattle.sys_procs.specs.Handed.{came, handed}
use Rattle.sys_procs.specs.Fork.{fork_into, fork_one}
use Rattle.sys_procs.specs.Resume.{awake, resume_proc}
use Rattle.sys_procs.specs.Exit.{end_proc}
use Rattle.sys_procs.specs.Frame as its
use Rattle.abstract_unix.specs.declared.calls.FileCall.{FileCall}
use Rattle.abstract_unix.specs.declared.calls.FileCall.TheVariants as file
use Rattle.abstract_unix.specs.declared.calls.ProcessCall.{ProcessCall}
use Rattle.abstract_unix.specs.Calls.{file_row, process_row, process_named}
use Rattle.abstract_unix.specs.OtherDisk.{GoesOn, closed, CallsLeaveOther}
use Rattle.abstract_unix.proofs.ProcessRows.{resume_plain}
use Rattle.abstract_unix.proofs.OtherRows.{row_leaves_other, resume_leaves_other}
use Rattle.abstract_unix.proofs.OtherProcs.{plain_inodes, end_far, process_leaves_other}
use Rattle.abstract_unix.proofs.RootNames.{file_stays, process_stays, core_stays}
use Rattle.abstract_unix.proofs.RootRuns.{runs_stay}

files_on : (h : Handed) (slot now : ℕ) → IsSound h → GoesOn h → LeavesOther h (resumes h slot now)
files_on h slot now sound goes =
    resume_leaves_other h slot now sound goes.pending
    (λ which. record { end = record { file = goes.file; there = goes.there; pipe = goes.pipe; named = goes.named }; left = goes.left })

-- a call that changes no node
still : (w : World) (s : ℕ) (c : Comes) → c.state.inodes.store ≡ w.inodes.store → its.LeavesOther w s [] c
still w s c same = record {
  second = λ keeps. ap (λ (stores : Stores). stores.second) same;
  root = λ keeps. ap (λ (stores : Stores). stores.root) same;
}

processes_on : (w : World) (s : ℕ) → its.LeavesOther w s [] (resume_proc w s)
processes_on w s =
    still w s (resume_proc w s) (ap (λ (n : Inodes). n.store) (plain_inodes s (change w s awake) (resume_proc w s) (resume_plain s w)))

fork_still : (w : World) (s : ℕ) (o : Option ℕ) → (fork_into w s o).state.inodes.store ≡ w.inodes.store
fork_still w s None = refl
fork_still w s (Some child) = refl

forks : (w : World) (s : ℕ) → its.LeavesOther w s [] (fork_one w s)
unfolding fork_one
forks w s = still w s (fork_one w s) (fork_still w s (lowest is_none (members w)))

closes : (h : Handed) → IsSound h → LeavesOther h (closed h)
closes h sound = record {
  second = λ keeps. (closed_apart (λ (stores : Stores). stores.second) 0 on_root h sound keeps).same;
  root = λ keeps. (closed_apart (λ (stores : Stores). stores.root) 1 on_second h sound keeps).same;
}

ends : (w : World) (s status : ℕ) → its.LeavesOther w s ((process_of w s).u.dir ∷ []) (end_proc w s status)
ends w s status = record {
  second = λ keeps. end_far (λ (stores : Stores). stores.second) 0 on_root w s status
      (All-head (IsOn 0 w.inodes.store) (process_of w s).u.dir [] keeps.named) keeps.text;
  root = λ keeps. end_far (λ (stores : Stores). stores.root) 1 on_second w s status
      (All-head (IsOn 1 w.inodes.store) (process_of w s).u.dir [] keeps.named) keeps.text;
}

pub calls_leave_other : CallsLeaveOther
calls_leave_other = record {
  files = row_leaves_other;
  files_on = files_on;
  processes = process_leaves_other;
  processes_on = processes_on;
  forks = forks;
  core = core_leaves_other;
  closes = closes;
  ends = ends;
  files_stay = file_stays;
  processes_stay = process_stays;
  core_stays = core_stays;
  runs_stay = runs_stay;
}

-- What a call has done leaves the other disk alone, since its row does.
pub call_left_other : (call : FileCall) (h new : Handed) (slot : ℕ) (args : List ℕ) (now : ℕ) (result : Answer) (start end : Taken)
    → IsSound h → Does h new result start end (file_row call h slot args now) → call ≢ file.Sync → call ≢ file.Pipe
    → LeavesOther h (record (file_row call h slot args now) { state = new })
call_left_other call h new slot args now result start end sound does sync pipe =
    let row = row_leaves_other call h slot args now sound sync pipe in
    record {
      second = λ keeps. ap (λ (x : Handed). x.inodes.store.second) does.state ∙ row.second keeps;
      root = λ keeps. ap (λ (x : Handed). x.inodes.store.root) does.state ∙ row.root keeps;
    }

-- the same of a call on processes, where it answers
pub process_left_other : (call : ProcessCall) (mounts : MountTable) (p q : Procs) (fs gs : FileSystem) (s : ℕ) (args : List ℕ)
    (result : Result Answer PanicKind) (start end : Taken)
    → HasDone p q gs result start end (process_row call mounts (handed p fs) s args)
    → IfOk result (λ answer. its.LeavesOther (handed p fs) s (process_named call mounts (handed p fs) s args) (record (process_row call mounts (handed p fs) s args) { state = handed q gs }))
process_left_other call mounts p q fs gs s args result start end done = by (came p comes).stop done.answer done.state where
  w : World
  w = handed p fs

  comes : Comes
  comes = process_row call mounts w s args

  Leaves : Result Answer PanicKind → Type 0
  Leaves r = IfOk r (λ answer. its.LeavesOther w s (process_named call mounts w s args) (record comes { state = handed q gs }))

  by : (stop : Option (Stop World)) → result ≡ answered stop comes.answer → handed q gs ≡ left_by stop comes.state → Leaves result
  by None is state =
      let row = process_leaves_other call mounts w s args in
      subst Leaves (sym is) (record {
        second = λ keeps. ap (λ (x : World). x.inodes.store.second) state ∙ row.second keeps;
        root = λ keeps. ap (λ (x : World). x.inodes.store.root) state ∙ row.root keeps;
      })
  by (Some stop) is state = subst Leaves (sym is) tt

use Rattle.std.proofs.Common.{◌≡◌, ◌≢◌, ◌∙◌, ◌==◌, ℕ, Bool, true, false, sym, ap, subst}
use Rattle.std.proofs.lemmas.Bool.{eq-eqb, ne_eqb}
use Rattle.u_area.specs.declared.layout.TheConstants.{DISK_WAIT}
use Rattle.v6_base.specs.Trace.{Took}
use Rattle.v6_base.proofs.Took.{took_nothing}
use Rattle.pick_rules.specs.Logged.{logged}
use Rattle.u_area.specs.declared.area.UArea.{UArea}
use Rattle.u_area.specs.Pending.{is_on_files}
use Rattle.image_keep.specs.Kept.{area_of}
use Rattle.sys_files.specs.Moving.{resumes}
use Rattle.sys_procs.specs.Resume.{resume_proc}
use Rattle.unix_core.specs.declared.world.World.{World}
use Rattle.abstract_unix.specs.Unix.{process_of}
use Rattle.abstract_unix.specs.Steps.{Steps}
use Rattle.abstract_unix.specs.Calls.{handed_of, world_of}
use Rattle.unix_core.specs.Parts.{unix_of, board_in, HasCome, IsReady}
use Rattle.unix_core.proofs.AreaLemmas.{own_area}
use Rattle.unix_core.proofs.EndingLemmas.{came_lives, did_lives, never_ended}
use Rattle.unix_core.proofs.SystemLemmas.{resumes_disk, resumes_files, resumes_wait}
use Rattle.unix_core.proofs.process.resume.Goals as goal

-- whether who runs has waited for the disk
disk : (w : World) (s : ℕ) → IsReady w s → (n : ℕ) (b : Bool) → n ≡ (area_of w.procs.images.kept s).pending → (n == DISK_WAIT) ≡ b
    → ((process_of (unix_of w) s).u.pending == DISK_WAIT) ≡ b
disk w s ready n b is told = sym (ap (λ k. k == DISK_WAIT) (is ∙ ap (λ (u : UArea). u.pending) (own_area w s ready))) ∙ told

other : (w : World) (s : ℕ) → IsReady w s → (n : ℕ) → n ≡ (area_of w.procs.images.kept s).pending → n ≢ DISK_WAIT
    → ((process_of (unix_of w) s).u.pending == DISK_WAIT) ≡ false
other w s ready n is not = disk w s ready n false is (ne_eqb n DISK_WAIT not)

-- what is pending of who runs
pends : (w : World) (s : ℕ) → IsReady w s → (n : ℕ) → n ≡ (area_of w.procs.images.kept s).pending → is_on_files n ≡ is_on_files (process_of (unix_of w) s).u.pending
pends w s ready n is = ap is_on_files (is ∙ ap (λ (u : UArea). u.pending) (own_area w s ready))

pub pending_of-pending-requires : goal.pending_of-pending-requires
pending_of-pending-requires g c = c.requires.good.running c.args.s c.requires.runs c.requires.user

pub returns-then-pending-eq-DISK_WAIT-clause-come : goal.returns-then-pending-eq-DISK_WAIT-clause-come
returns-then-pending-eq-DISK_WAIT-clause-come g c =
    let w : World = c.args.world.now in
    subst (λ (x : Steps). HasCome (board_in w) x c.end_wait.result c.end_wait.new.world)
    (resumes_disk (unix_of w) c.args.s (disk w c.args.s c.requires _ true c.pending_of-pending.ensures (eq-eqb _ DISK_WAIT c.if-pending-eq-DISK_WAIT.true)))
    c.end_wait.ensures.come

pub returns-then-pending-eq-DISK_WAIT-clause-good : goal.returns-then-pending-eq-DISK_WAIT-clause-good
returns-then-pending-eq-DISK_WAIT-clause-good g c = c.end_wait.ensures.ready.good

pub returns-then-pending-eq-DISK_WAIT-clause-runs : goal.returns-then-pending-eq-DISK_WAIT-clause-runs
returns-then-pending-eq-DISK_WAIT-clause-runs g c = c.end_wait.ensures.ready.runs

pub returns-then-pending-eq-DISK_WAIT-clause-items : goal.returns-then-pending-eq-DISK_WAIT-clause-items
returns-then-pending-eq-DISK_WAIT-clause-items g c =
    let w : World = c.args.world.now in
    took_nothing _ _ (ap (λ (x : Steps). (logged (board_in w) x.effects).items)
    (sym (resumes_disk (unix_of w) c.args.s (disk w c.args.s c.requires _ true c.pending_of-pending.ensures (eq-eqb _ DISK_WAIT c.if-pending-eq-DISK_WAIT.true)))))

pub go_on_files-requires-clause-pending : goal.go_on_files-requires-clause-pending
go_on_files-requires-clause-pending g c = ap is_on_files (sym c.pending_of-pending.ensures) ∙ sym c.is_on_files.ensures ∙ c.if-is_on_files.true

pub returns-then-is_on_files-clause-come : goal.returns-then-is_on_files-clause-come
returns-then-is_on_files-clause-come g c =
    let w : World = c.args.world.now in
    let is = sym (pends w c.args.s c.requires _ c.pending_of-pending.ensures) ∙ sym c.is_on_files.ensures ∙ c.if-is_on_files.true in
    subst (λ (x : Steps). HasCome (board_in w) x c.go_on_files.result c.go_on_files.new.world)
    (resumes_files (unix_of w) c.args.s (other w c.args.s c.requires _ c.pending_of-pending.ensures c.if-pending-eq-DISK_WAIT.false) is) c.go_on_files.ensures.come

pub returns-then-is_on_files-clause-good : goal.returns-then-is_on_files-clause-good
returns-then-is_on_files-clause-good g c = c.go_on_files.ensures.ready.good

pub returns-then-is_on_files-clause-runs : goal.returns-then-is_on_files-clause-runs
returns-then-is_on_files-clause-runs g c = c.go_on_files.ensures.ready.runs

pub returns-then-is_on_files-clause-alive : goal.returns-then-is_on_files-clause-alive
returns-then-is_on_files-clause-alive g c =
    let w : World = c.args.world.now in
    never_ended _ _ _ _ c.go_on_files.ensures.come
    (did_lives (unix_of w) c.args.s (resumes (handed_of (unix_of w) (process_of (unix_of w) c.args.s)) c.args.s w.procs.table.now))

pub returns-then-is_on_files-clause-items : goal.returns-then-is_on_files-clause-items
returns-then-is_on_files-clause-items g c =
    let w : World = c.args.world.now in
    let is = sym (pends w c.args.s c.requires _ c.pending_of-pending.ensures) ∙ sym c.is_on_files.ensures ∙ c.if-is_on_files.true in
    subst (λ (x : Steps). Took (g.T.Trace.taken c.args.trace.now) (logged (board_in w) x.effects).items (g.T.Trace.taken c.go_on_files.new.trace))
    (resumes_files (unix_of w) c.args.s (other w c.args.s c.requires _ c.pending_of-pending.ensures c.if-pending-eq-DISK_WAIT.false) is) c.go_on_files.ensures.items

pub returns-clause-come : goal.returns-clause-come
returns-clause-come g c =
    let w : World = c.args.world.now in
    let is = sym (pends w c.args.s c.requires _ c.pending_of-pending.ensures) ∙ sym c.is_on_files.ensures ∙ c.if-is_on_files.false in
    subst (λ (x : Steps). HasCome (board_in w) x c.go_on_waiting.result c.go_on_waiting.new.world)
    (resumes_wait (unix_of w) c.args.s (other w c.args.s c.requires _ c.pending_of-pending.ensures c.if-pending-eq-DISK_WAIT.false) is) c.go_on_waiting.ensures.come

pub returns-clause-good : goal.returns-clause-good
returns-clause-good g c = c.go_on_waiting.ensures.ready.good

pub returns-clause-runs : goal.returns-clause-runs
returns-clause-runs g c = c.go_on_waiting.ensures.ready.runs

pub returns-clause-alive : goal.returns-clause-alive
returns-clause-alive g c =
    let w : World = c.args.world.now in
    never_ended _ _ _ _ c.go_on_waiting.ensures.come
    (came_lives (unix_of w) c.args.s (resume_proc (world_of (unix_of w)) c.args.s))

pub returns-clause-items : goal.returns-clause-items
returns-clause-items g c =
    let w : World = c.args.world.now in
    let is = sym (pends w c.args.s c.requires _ c.pending_of-pending.ensures) ∙ sym c.is_on_files.ensures ∙ c.if-is_on_files.false in
    subst (λ (x : Steps). Took (g.T.Trace.taken c.args.trace.now) (logged (board_in w) x.effects).items (g.T.Trace.taken c.go_on_waiting.new.trace))
    (resumes_wait (unix_of w) c.args.s (other w c.args.s c.requires _ c.pending_of-pending.ensures c.if-pending-eq-DISK_WAIT.false) is) c.go_on_waiting.ensures.items

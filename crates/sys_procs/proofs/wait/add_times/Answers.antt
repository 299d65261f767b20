use Rattle.std.proofs.Common.{◌≡◌, ◌∙◌, ◌+◌, ◌%◌, ◌^◌, ℕ, List, slice_index, ap}
use Rattle.u_area.specs.declared.area.UArea.{UArea}
use Rattle.u_area.specs.Fields.{with_child_times}
use Rattle.sys_procs.specs.declared.procs.Procs.{Procs}
use Rattle.sys_procs.specs.World.{with_process}
use Rattle.sys_procs.specs.Handed.{handed, process_here}
use Rattle.sys_procs.proofs.Graves.{TellsOf, tells, added}
use Rattle.sys_procs.proofs.wait.add_times.Goals as goal

pub returns-clause-state : goal.returns-clause-state
returns-clause-state c = λ dead sized e fs.
    let p : Procs = c.args.p.now in
    let own : UArea = (process_here p c.args.s).u in
    let half : TellsOf c.args.half.now dead = tells c.args.half.now dead sized e in
    let first : ℕ = slice_index c.child_times.result 0 in
    let second : ℕ = slice_index c.child_times.result 1 in
    let was : first ≡ own.child_user =
    ap (λ (l : List ℕ). slice_index l 0) c.child_times.ensures ∙ ap (λ (u : UArea). u.child_user) c.area_bytes.ensures.read in
    let was_too : second ≡ own.child_system =
    ap (λ (l : List ℕ). slice_index l 1) c.child_times.ensures ∙ ap (λ (u : UArea). u.child_system) c.area_bytes.ensures.read in
    let user : ((first + c.from.result) % 4294967296 + c.long_at-child_user.result) % 4294967296 ≡ (own.child_user + dead.user_time + dead.child_user) % 2 ^ 32 =
    added first _ _ dead.user_time dead.child_user (c.from.ensures ∙ (c.word_at-user_time.ensures ∙ half.user_time)) (c.long_at-child_user.ensures ∙ half.child_user)
    ∙ ap (λ n. (n + dead.user_time + dead.child_user) % 2 ^ 32) was in
    let system : ((second + c.from-2.result) % 4294967296 + c.long_at-child_system.result) % 4294967296 ≡ (own.child_system + dead.system_time + dead.child_system) % 2 ^ 32 =
    added second _ _ dead.system_time dead.child_system (c.from-2.ensures ∙ (c.word_at-system_time.ensures ∙ half.system_time)) (c.long_at-child_system.ensures ∙ half.child_system)
    ∙ ap (λ n. (n + dead.system_time + dead.child_system) % 2 ^ 32) was_too in
    c.put_child_times.ensures.state fs
    ∙ (λ i. with_process (handed p fs) c.args.s (record (process_here p c.args.s) { u = with_child_times own (user i) (system i) }))

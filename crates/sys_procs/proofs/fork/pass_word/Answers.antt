use Rattle.std.proofs.Common.{◌∙◌, ◌+◌, ◌%◌, ℕ, get_or, ap}
use Rattle.u_area.specs.declared.area.UArea.{UArea}
use Rattle.u_area.specs.Fields.{with_register}
use Rattle.sys_procs.specs.Process.{Process}
use Rattle.sys_procs.specs.World.{with_process}
use Rattle.sys_procs.specs.Handed.{handed, process_here}
use Rattle.sys_procs.proofs.fork.pass_word.Goals as goal

pub returns-clause-state : goal.returns-clause-state
returns-clause-state c = λ fs.
    let own : Process = process_here c.args.p.now c.args.s in
    c.put_register.ensures.state fs
    ∙ ap (λ (n : ℕ). with_process (handed c.args.p.now fs) c.args.s (record own { u = with_register own.u 7 ((n + 2) % 65536) }))
    (c.register-pc.ensures ∙ ap (λ (u : UArea). get_or u.r 7 0) c.area_bytes.ensures.read)

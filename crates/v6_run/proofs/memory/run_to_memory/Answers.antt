use Rattle.std.proofs.Common.{◌∙◌, sym, subst, ap}
use Rattle.v6_port.specs.declared.host.OutPort.TheVariants as out_port
use Rattle.v6_port.specs.Outside.{Out, same, Outside, OnlyAt}
use Rattle.v6_port.specs.Causes.{Calm}
use Rattle.abstract_unix.specs.Unix.{System}
use Rattle.abstract_unix.specs.Runs.{started, course}
use Rattle.take_script.specs.Events.{events_of}
use Rattle.v6_run.specs.Ports.{final_of}
use Rattle.v6_run.specs.Outputs.{memory_writes}
use Rattle.v6_run.proofs.OutputLemmas.{fault_where_err, calm_where_ok, told_where_ok, told_where_err}
use Rattle.v6_run.proofs.MemoryLemmas.{memory_unopened, memory_stopped, memory_unfinished, memory_left}
use Rattle.v6_run.proofs.memory.run_to_memory.Goals as goal

pub returns-then-is_err-clause-outcome : goal.returns-then-is_err-clause-outcome
returns-then-is_err-clause-outcome g c =
    let run = course (started c.args.kernel.now.system) (events_of c.args.events.now) in
    let opened = c.open_final.ensures in
    memory_unopened c.args.name.now run _ _ opened.only opened.bytes (told_where_err c.open_final.result _ c.if-is_err.ensures.value opened.closed) (fault_where_err c.open_final.result _ _ c.if-is_err.ensures.value opened.cause)

pub returns-then-is_err-2-clause-outcome : goal.returns-then-is_err-2-clause-outcome
returns-then-is_err-2-clause-outcome g c =
    let run = course (started c.args.kernel.now.system) (events_of c.args.events.now) in
    let a : Outside = g.H.Host.outside c.args.host.now in
    let played = c.play_unshown-ends.ensures in
    let opens = subst (λ (o : Outside). OnlyAt (same (Out out_port.Final)) a o) (sym played.outside) c.open_final.ensures.only in
    let opened = ap (λ (o : Outside). (final_of o).bytes) played.outside ∙ c.open_final.ensures.bytes in
    let calm = subst (λ (o : Outside). Calm a o) (sym played.outside) (calm_where_ok c.open_final.result _ _ c.if-is_err.ensures.value c.open_final.ensures.cause) in
    let left = c.leave_memory.ensures in
    let leaves = subst (λ (m : System). memory_writes c.play_unshown-ends.result m left.written.0) played.system left.written.1 in
    memory_stopped c.args.name.now run a _ opens opened (told_where_ok c.open_final.result _ c.if-is_err.ensures.value c.open_final.ensures.expected) c.play_unshown-ends.result played.ending left.written.0 leaves _ left.only left.is_open left.written.3 calm
    (fault_where_err c.leave_memory.result _ _ c.if-is_err-2.ensures.value left.cause)

pub returns-then-is_err-3-clause-outcome : goal.returns-then-is_err-3-clause-outcome
returns-then-is_err-3-clause-outcome g c =
    let run = course (started c.args.kernel.now.system) (events_of c.args.events.now) in
    let a : Outside = g.H.Host.outside c.args.host.now in
    let played = c.play_unshown-ends.ensures in
    let opens = subst (λ (o : Outside). OnlyAt (same (Out out_port.Final)) a o) (sym played.outside) c.open_final.ensures.only in
    let opened = ap (λ (o : Outside). (final_of o).bytes) played.outside ∙ c.open_final.ensures.bytes in
    let calm = subst (λ (o : Outside). Calm a o) (sym played.outside) (calm_where_ok c.open_final.result _ _ c.if-is_err.ensures.value c.open_final.ensures.cause) in
    let left = c.leave_memory.ensures in
    let leaves = subst (λ (m : System). memory_writes c.play_unshown-ends.result m left.written.0) played.system left.written.1 in
    memory_unfinished c.args.name.now run a _ opens opened (told_where_ok c.open_final.result _ c.if-is_err.ensures.value c.open_final.ensures.expected) c.play_unshown-ends.result played.ending left.written.0 leaves _ left.only
    (told_where_ok c.leave_memory.result _ c.if-is_err-2.ensures.value left.written.2) _ c.finish_final.ensures.only c.finish_final.ensures.bytes
    (told_where_err c.finish_final.result _ c.if-is_err-3.ensures.value c.finish_final.ensures.still_open) calm
    (calm_where_ok c.leave_memory.result _ _ c.if-is_err-2.ensures.value left.cause)
    (fault_where_err c.finish_final.result _ _ c.if-is_err-3.ensures.value c.finish_final.ensures.cause)

pub returns-clause-outcome : goal.returns-clause-outcome
returns-clause-outcome g c =
    let run = course (started c.args.kernel.now.system) (events_of c.args.events.now) in
    let a : Outside = g.H.Host.outside c.args.host.now in
    let played = c.play_unshown-ends.ensures in
    let opens = subst (λ (o : Outside). OnlyAt (same (Out out_port.Final)) a o) (sym played.outside) c.open_final.ensures.only in
    let opened = ap (λ (o : Outside). (final_of o).bytes) played.outside ∙ c.open_final.ensures.bytes in
    let calm = subst (λ (o : Outside). Calm a o) (sym played.outside) (calm_where_ok c.open_final.result _ _ c.if-is_err.ensures.value c.open_final.ensures.cause) in
    let left = c.leave_memory.ensures in
    let leaves = subst (λ (m : System). memory_writes c.play_unshown-ends.result m left.written.0) played.system left.written.1 in
    memory_left c.args.name.now run a _ opens opened (told_where_ok c.open_final.result _ c.if-is_err.ensures.value c.open_final.ensures.expected) c.play_unshown-ends.result played.ending left.written.0 leaves _ left.only
    (told_where_ok c.leave_memory.result _ c.if-is_err-2.ensures.value left.written.2) _ c.finish_final.ensures.only c.finish_final.ensures.bytes
    (told_where_ok c.finish_final.result _ c.if-is_err-3.ensures.value c.finish_final.ensures.closed) calm
    (calm_where_ok c.leave_memory.result _ _ c.if-is_err-2.ensures.value left.cause)
    (calm_where_ok c.finish_final.result _ _ c.if-is_err-3.ensures.value c.finish_final.ensures.cause)

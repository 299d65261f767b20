use Rattle.std.proofs.Common.{◌≡◌, true, refl, sym, ◌∙◌, ap}
use Rattle.v6_port.specs.declared.host.OutPort.TheVariants as out_port
use Rattle.v6_port.specs.Outside.{Out, IsOpen, PortState, same}
use Rattle.v6_run.specs.Outputs.{is_other}
use Rattle.v6_run.proofs.LinePorts.{right_true}
use Rattle.v6_run.proofs.LeaveLemmas.{second_there, second_stays, other_named, leaves_not, leaves_then}
use Rattle.v6_run.proofs.outputs.leave_disks.Goals as goal

pub leave_disk-requires-clause-is_open : goal.leave_disk-requires-clause-is_open
leave_disk-requires-clause-is_open g c = c.requires.is_open out_port.Final refl

pub leave_second-requires-clause-second : goal.leave_second-requires-clause-second
leave_second-requires-clause-second g c =
    let left = c.leave_disk.ensures in
    sym (second_there _ _ left.stands.second) ∙ second_stays _ _ left.rest.second ∙ c.requires.second

pub leave_second-requires-clause-stored : goal.leave_second-requires-clause-stored
leave_second-requires-clause-stored g c = second_stays _ _ c.leave_disk.ensures.rest.second ∙ c.requires.second

pub leave_second-requires-clause-is_open : goal.leave_second-requires-clause-is_open
leave_second-requires-clause-is_open g c is =
    let two = c.args.two in
    ap (λ (state : PortState). state.is_open) (c.leave_disk.ensures.only.others (Out out_port.Second) refl)
    ∙ c.requires.is_open out_port.Second (right_true (same (Out out_port.Final) (Out out_port.Second)) (is_other two (Out out_port.Second)) (other_named two is))

pub returns-in-Ok-clause-written : goal.returns-in-Ok-clause-written
returns-in-Ok-clause-written g c =
    let left = c.in-Ok.ensures in
    let second = c.leave_second.ensures in
    let before = c.requires.is_open out_port.Final refl in
    let still : c.args.two ≡ true → IsOpen (g.H.Host.outside c.leave_disk.new.host) (Out out_port.Second) =
    λ is. ap (λ (state : PortState). state.is_open) (left.only.others (Out out_port.Second) refl)
    ∙ c.requires.is_open out_port.Second (right_true (same (Out out_port.Final) (Out out_port.Second)) (is_other c.args.two (Out out_port.Second)) (other_named c.args.two is)) in (
      left.written.0,
      left.written.1,
      leaves_then c.args.two _ _ _ _ left.only before left.is_open _ left.written.2 left.cause second.only still second.is_open
          c.leave_second.result second.whole second.front second.cause second.named,
    )

pub returns-in-Err-clause-written : goal.returns-in-Err-clause-written
returns-in-Err-clause-written g c =
    let left = c.in-Err.ensures in
    (left.written.0, left.written.1, leaves_not c.args.two _ _ _ _ left.only (c.requires.is_open out_port.Final refl) left.is_open left.written.3 left.cause)

use Rattle.std.proofs.Common.{◌≡◌, ◌++◌}
use Rattle.v6_port.specs.declared.host.OutPort.TheVariants.{Second}
use Rattle.v6_port.specs.Outside.{Out, IsOpen, OnlyAt, Tells, same}
use Rattle.v6_port.specs.Causes.{Calm}
use Rattle.v6_run.specs.Ports.{second_of}
use Rattle.v6_run.proofs.SecondLemmas.{second_so_far}
use Rattle.v6_run.proofs.outputs.write_second.Given as goal

abbrev pub invariant-numbers : goal.invariant-numbers
invariant-numbers g l =
    let old = g.H.Host.outside l.initial.host in
    let now = g.H.Host.outside l.host in record {
      only : OnlyAt (same (Out Second)) old now;
      calm : Calm old now;
      is_open : IsOpen now (Out Second);
      bytes : Tells old → (second_of now).bytes ≡ (second_of old).bytes ++ second_so_far l.kernel.stored.second l.n;
    }

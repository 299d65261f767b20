use Rattle.std.proofs.Common.{◌≡◌, ◌++◌}
use Rattle.v6_port.specs.declared.host.OutPort.TheVariants.{Final}
use Rattle.v6_port.specs.Outside.{Out, IsOpen, OnlyAt, Tells, same}
use Rattle.v6_port.specs.Causes.{Calm}
use Rattle.v6_run.specs.Ports.{final_of}
use Rattle.v6_run.proofs.FinalLemmas.{so_far}
use Rattle.v6_run.proofs.outputs.write_blocks.Given as goal

abbrev pub invariant-numbers : goal.invariant-numbers
invariant-numbers g l =
    let old = g.H.Host.outside l.initial.host in
    let now = g.H.Host.outside l.host in record {
      only : OnlyAt (same (Out Final)) old now;
      calm : Calm old now;
      is_open : IsOpen now (Out Final);
      bytes : Tells old → (final_of now).bytes ≡ (final_of old).bytes ++ so_far l.kernel.stored.root l.n;
    }

use Rattle.std.proofs.Common.{◌≡◌, ◌-◌, ◌≤◌, ◌++◌, length}
use Rattle.v6_port.specs.Outside.{In, IsOpen, OnlyAt, Tells, same}
use Rattle.v6_port.specs.Causes.{Calm}
use Rattle.v6_run.proofs.files.read_left.Given as goal

abbrev pub invariant-file : goal.invariant-file
invariant-file g l =
    let old = g.H.Host.outside l.initial.host in
    let now = g.H.Host.outside l.host in record {
      only : OnlyAt (same (In l.port)) old now;
      calm : Calm old now;
      is_open : IsOpen now (In l.port);
      bytes : Tells old → (old.port (In l.port)).bytes ≡ l.all.items ++ (now.port (In l.port)).bytes;
      within : length l.all.items ≤ l.limit;
    }

abbrev pub decreases-file : goal.decreases-file
decreases-file g l = l.limit - length l.all.items

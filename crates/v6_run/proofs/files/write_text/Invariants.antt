use Rattle.std.proofs.Common.{◌≡◌, ◌-◌, ◌≤◌, ◌++◌, length, take}
use Rattle.v6_port.specs.Outside.{Out, IsOpen, OnlyAt, Tells, same}
use Rattle.v6_port.specs.Causes.{Calm}
use Rattle.v6_run.proofs.files.write_text.Given as goal

abbrev pub invariant-text : goal.invariant-text
invariant-text g l =
    let old = g.H.Host.outside l.initial.host in
    let now = g.H.Host.outside l.host in record {
      only : OnlyAt (same (Out l.port)) old now;
      calm : Calm old now;
      is_open : IsOpen now (Out l.port);
      bytes : Tells old → (now.port (Out l.port)).bytes ≡ (old.port (Out l.port)).bytes ++ take l.at l.text;
      within : l.at ≤ length l.text;
    }

abbrev pub decreases-text : goal.decreases-text
decreases-text g l = length l.text - l.at

use Rattle.std.proofs.Common.{◌≡◌, ◌<◌, length, drop, MatchOption}
use Rattle.std.specs.Option.{option_map}
use Rattle.v6_port.specs.Files.{bytes_at, given_by, first_of}
use Rattle.v6_port.proofs.files.find.Given as goal

abbrev pub invariant-loop-i : goal.invariant-loop-i
invariant-loop-i l = record {
  given : given_by l.files l.name ≡ first_of (given_by (drop l.i l.files) l.name) (option_map (bytes_at l.files) l.found);
  below : MatchOption l.found (Unit {0}) (λ i. i < length l.files);
}

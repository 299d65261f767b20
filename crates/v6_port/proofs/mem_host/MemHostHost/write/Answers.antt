use Rattle.std.proofs.Common.{◌≡◌, ◌+◌, ◌<◌, ◌≤◌, ◌++◌, length, take, ap, rules}
use Rattle.v6_port.specs.declared.rooms.Room.{Room}
use Rattle.v6_port.proofs.MemoryLemmas.{writes, room_used, same_read}
use Rattle.v6_port.proofs.mem_host.MemHostHost.write.Goals as goal
use Rattle.v6_port.proofs.mem_host.MemHostHost.write.Goals.{else-is_full-via-then-is_full+else-not-is_empty, else-is_full-via-else-is_full}

pub returns-clause-writes : goal.returns-clause-writes
returns-clause-writes c =
    let below : c.place-place.result < length c.args.self.now.rooms = search rules in
    let appended : c.append.new.self.bytes.items ≡ c.index-self-place-2.result.bytes.items ++ take c.append.result c.args.piece.now = search rules in
    let part : c.append.result ≤ length c.args.piece.now = c.append.ensures.part in
    let reads : c.index-self-place-2.result ≡ c.index-self-place.result = same_read c.args.self.now.rooms _ _ _ below c.index-self-place-2.is c.index-self-place.is in
    let free : c.index-self-place-2.result.free ≡ c.index-self-place.result.free = ap (λ (r : Room). r.free) reads in
    let some : 0 < length c.args.piece.now → 0 < c.append.result = λ not_empty. elim c.else-is_full.branch [
      | else-is_full-via-then-is_full+else-not-is_empty w ↦ search rules
      | else-is_full-via-else-is_full w ↦ search rules
    ] in
    writes _ _ _ c.args.self.now.readings _ _ _ _ _ _ c.place-place.ensures.place below c.index-self-place-2.is appended part _ some

pub returns-clause-counts : goal.returns-clause-counts
returns-clause-counts c =
    let below : c.place-place.result < length c.args.self.now.rooms = search rules in
    let appended : c.append.new.self.bytes.items ≡ c.index-self-place-2.result.bytes.items ++ take c.append.result c.args.piece.now = search rules in
    let part : c.append.result ≤ length c.args.piece.now = c.append.ensures.part in
    let used : c.append.new.self.free + c.append.result ≡ c.index-self-place-2.result.free = search rules in
    record {
      calls = search rules;
      fails = search rules;
      chunk = search rules;
      room = room_used _ _ c.args.self.now.files.items c.args.self.now.readings _ c.args.self.now.ports _ _ _ _ c.place-place.ensures.place below c.index-self-place-2.is appended part used;
    }

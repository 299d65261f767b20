use Rattle.std.proofs.Common.{◌≡◌, ◌+◌, ◌<◌, length, rules}
use Rattle.v6_port.proofs.MemoryLemmas.{takes_room, room_kept, on_error}
use Rattle.v6_port.proofs.mem_host.MemHost.room.Goals as goal

pub returns-clause-ok : goal.returns-clause-ok
returns-clause-ok c =
    let in_rooms : c.place.result < length c.args.self.now.rooms = search rules in
    let in_names : c.place-2.result < length c.args.self.now.names = search rules in
    let freed : c.grow.new.self.free ≡ c.index-self-place.result.free + c.args.bytes = search rules in
    let kept : c.grow.new.self.bytes.items ≡ c.index-self-place.result.bytes.items = search rules in
    takes_room _ _ _ _ _ _ _ _ _ _ _ _ _ _ _ _ c.place.ensures.place c.place-2.ensures.place in_rooms in_names c.index-self-place.is c.in_ok-name.ensures.ok freed kept

pub returns-in_err-grow-clause-err : goal.returns-in_err-grow-clause-err
returns-in_err-grow-clause-err c =
    let freed : c.grow.new.self.free ≡ c.index-self-place.result.free = search rules in
    let kept : c.grow.new.self.bytes.items ≡ c.index-self-place.result.bytes.items = search rules in
    on_error _ _ (room_kept c.args.self.now.files.items c.args.self.now.names c.args.self.now.readings c.args.self.now.rooms c.args.self.now.ports
    c.args.self.now.fails.items c.args.self.now.calls c.args.self.now.chunk _ c.grow.new.self c.place.result c.index-self-place.is freed kept)

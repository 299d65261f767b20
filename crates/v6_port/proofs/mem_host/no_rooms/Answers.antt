use Rattle.v6_port.proofs.MemoryLemmas.{and_empty, none_empty}
use Rattle.v6_port.proofs.mem_host.no_rooms.Goals as goal

pub returns : goal.returns
returns c =
    and_empty _ _ c.new.ensures.bytes c.new.ensures.free
    (and_empty _ _ c.new-2.ensures.bytes c.new-2.ensures.free
    (and_empty _ _ c.new-3.ensures.bytes c.new-3.ensures.free
    (and_empty _ _ c.new-4.ensures.bytes c.new-4.ensures.free
    (and_empty _ _ c.new-5.ensures.bytes c.new-5.ensures.free
    (and_empty _ _ c.new-6.ensures.bytes c.new-6.ensures.free
    (and_empty _ _ c.new-7.ensures.bytes c.new-7.ensures.free
    (and_empty _ _ c.new-8.ensures.bytes c.new-8.ensures.free
    (and_empty _ _ c.new-9.ensures.bytes c.new-9.ensures.free
    (and_empty _ _ c.new-10.ensures.bytes c.new-10.ensures.free
    (and_empty _ _ c.new-11.ensures.bytes c.new-11.ensures.free
    (and_empty _ _ c.new-12.ensures.bytes c.new-12.ensures.free
    (and_empty _ _ c.new-13.ensures.bytes c.new-13.ensures.free
    none_empty))))))))))))

use Rattle.std.proofs.Common.{◌≡◌, ℕ, ◌<◌, ◌≤◌, length, take, drop, rules, arith}
use Rattle.std.proofs.lemmas.List.{length-append, length-drop}
use Rattle.v6_port.specs.Files.{bytes_at}
use Rattle.v6_port.proofs.MemoryLemmas.{reads}
use Rattle.v6_port.proofs.mem_host.MemHostHost.read.Goals as goal

pub returns-clause-reads : goal.returns-clause-reads
returns-clause-reads c =
    let below : c.number-number.result < length c.args.self.now.readings = search rules in
    let rest_is : c.rest_of-rest.result.now ≡ drop c.in-Some.reading.at (bytes_at c.args.self.now.files.items c.in-Some.reading.file) = search rules in
    let copied : c.copy_from_slice.new.self ≡ take c.at_most-count.result c.rest_of-rest.result.now = search rules in
    let long : length c.copy_from_slice.new.self ≡ c.at_most-count.result = search rules in
    let within : c.at_most-count.result ≤ length c.args.buf.now = search rules in
    let some : 0 < length c.args.buf.now → 0 < length c.rest_of-rest.result.now → 0 < c.at_most-count.result = search rules in
    reads _ c.args.self.now.files.items c.args.self.now.readings _ _ _ _ _ _ _ _ c.number-number.ensures.number below c.in-Some.is rest_is _ copied long
    (λ wanted left. some (omega (arith, length-append {A = ℕ}, length-drop {A = ℕ})) left)

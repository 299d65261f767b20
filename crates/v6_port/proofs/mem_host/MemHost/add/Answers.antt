use Rattle.std.proofs.Common.{◌≡◌, rules}
use Rattle.v6_port.proofs.MemoryLemmas.{adds}
use Rattle.v6_port.proofs.mem_host.MemHost.add.Goals as goal

pub returns-clause-ok : goal.returns-clause-ok
returns-clause-ok c =
    let copied : c.in_ok-bytes.bytes.items ≡ c.args.bytes.now = search rules in
    adds _ _ _ _ _ _ _ _ _ _ _ _ c.in_ok-push.ensures.items c.in_ok-name.ensures.ok copied c.args.self.now.read_from

use Rattle.std.proofs.Common.{sym}
use Rattle.fs_tree.proofs.NameLemmas.{some_left, taken}
use Rattle.fs_tree.proofs.name.NameBytes.pass.Goals as goal

pub overflow_sub-self : goal.overflow_sub-self
overflow_sub-self g c =
    some_left c.args.self.now (g.S.Space.image c.self.inside.space.now) c.self.inside.at c.self.inside.left (sym c.self.view_is) c.requires

pub returns : goal.returns
returns g c byte first =
    taken c.args.self.now (g.S.Space.image c.self.inside.space.now) c.self.inside.at c.self.inside.left byte (sym c.self.view_is) first

use Rattle.std.proofs.Common.{nat_eq, ap, sym, ◌∙◌, count_by}
use Rattle.fs_laws.specs.Chain.{free}
use Rattle.fs_blocks.specs.State.{State, disk}
use Rattle.file_rows.proofs.file_system.volume.takes_block.Goals as goal

pub change-requires-clause-used : goal.change-requires-clause-used
change-requires-clause-used c =
    ap (λ (s : State). count_by (nat_eq c.args.b) (free (disk s))) c.block.follows.holds-at-none.0
    ∙ ap (λ n. count_by (nat_eq n) (free (disk c.alloc_block.new.self.state))) (sym c.if-n-b.true) ∙ c.in-Ok.ensures.taken.takes.fresh

use Rattle.std.proofs.Common.{ap}
use Rattle.image_keep.specs.State.{ImagesState}
use Rattle.part_rows.proofs.TableLemmas.{tied_deposit, plain_deposit}
use Rattle.part_rows.proofs.images.table.Table.deposit.Goals as goal

pub invariant_of-self : goal.invariant_of-self
invariant_of-self c =
    let old = c.args.self.now in
    record {
      tied = tied_deposit old.kinds old.images.kept _ c.args.swap c.args.at c.args.byte c.deposit.result old.tied c.deposit.ensures.put
          (λ e. ap (λ (i : ImagesState). i.kept) (c.deposit.ensures.same e));
      plain = plain_deposit old.images.kept _ c.args.swap c.args.at c.args.byte c.deposit.result old.plain c.deposit.ensures.put
          (λ e. ap (λ (i : ImagesState). i.kept) (c.deposit.ensures.same e));
    }

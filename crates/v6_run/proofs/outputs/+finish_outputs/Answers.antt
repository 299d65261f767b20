use Rattle.std.proofs.Common.{true, sym, ◌∙◌, arith}
use Rattle.v6_run.proofs.OpeningLemmas.{none_shut, fewer_left, left_apart, left_there, first_there, not_report, first_at, left_at, first_unshut, left_shut}
use Rattle.v6_run.proofs.outputs.+finish_outputs.Goals as goal

pub returns-in-empty : goal.returns-in-empty
returns-in-empty g t c = none_shut c.args.outputs.now _ c.in-empty.len_below

pub finish-requires : goal.finish-requires
finish-requires g t c =
    let held = c.args.outputs.now in
    let some = c.in-len1-up.len_at_least in
    let first = c.first-item.is in
    record {
      is_open = first_at held _ _ some first true (g.H.Host.outside c.args.host.now) c.requires.is_open;
      not_report = not_report held _ _ some first c.requires.there;
      there = first_there held _ _ some first c.requires.there;
    }

pub returns-then-is_err : goal.returns-then-is_err
returns-then-is_err g t c =
    first_unshut c.args.outputs.now _ _ c.in-len1-up.len_at_least c.first-item.is _ _ c.finish.result c.requires.is_open (sym c.is_err.ensures.value ∙ c.if-is_err.true) c.finish.ensures

pub finish_outputs-requires : goal.finish_outputs-requires
finish_outputs-requires g t c κs within =
    let held = c.args.outputs.now in
    let some = c.in-len1-up.len_at_least in
    let first = c.first-item.is in
    let apart = left_apart held _ _ some first c.requires.apart in
    let there = left_there held _ _ some first c.requires.there in
    let others = left_at held _ _ some first true (g.H.Host.outside c.args.host.now) c.requires.is_open _ c.requires.apart c.finish.ensures.only in
    (omega (arith, fewer_left held some, c.decreases), (within, (apart, (there, others))))

pub returns-else-is_err : goal.returns-else-is_err
returns-else-is_err g t c =
    left_shut c.args.outputs.now _ _ c.in-len1-up.len_at_least c.first-item.is _ _ _ c.finish.result _ c.requires.apart
    (sym c.is_err.ensures.value ∙ c.if-is_err.false) c.finish.ensures c.finish_outputs.ensures

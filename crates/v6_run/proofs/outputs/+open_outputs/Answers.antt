use Rattle.std.proofs.Common.{false, sym, ◌∙◌, arith}
use Rattle.v6_run.proofs.OpeningLemmas.{none_opened, fewer_left, left_apart, left_there, first_there, first_at, left_at, first_unopened, left_opened}
use Rattle.v6_run.proofs.outputs.+open_outputs.Goals as goal

pub returns-in-empty : goal.returns-in-empty
returns-in-empty g t c = none_opened c.args.outputs.now _ c.in-empty.len_below

pub open_write-requires : goal.open_write-requires
open_write-requires g t c =
    let held = c.args.outputs.now in
    let some = c.in-len1-up.len_at_least in
    let first = c.first-item.is in
    record { closed = first_at held _ _ some first false (g.H.Host.outside c.args.host.now) c.requires.closed; there = first_there held _ _ some first c.requires.there }

pub returns-then-is_err : goal.returns-then-is_err
returns-then-is_err g t c =
    first_unopened c.args.outputs.now _ _ c.in-len1-up.len_at_least c.first-item.is _ _ _ c.open_write.result c.requires.closed c.as_str.ensures.value
    (sym c.is_err.ensures.value ∙ c.if-is_err.true) c.open_write.ensures

pub open_outputs-requires : goal.open_outputs-requires
open_outputs-requires g t c κs within =
    let held = c.args.outputs.now in
    let some = c.in-len1-up.len_at_least in
    let first = c.first-item.is in
    let apart = left_apart held _ _ some first c.requires.apart in
    let there = left_there held _ _ some first c.requires.there in
    let others = left_at held _ _ some first false (g.H.Host.outside c.args.host.now) c.requires.closed _ c.requires.apart c.open_write.ensures.only in
    (omega (arith, fewer_left held some, c.decreases), (within, (apart, (there, others))))

pub returns-else-is_err : goal.returns-else-is_err
returns-else-is_err g t c =
    left_opened c.args.outputs.now _ _ c.in-len1-up.len_at_least c.first-item.is _ _ _ _ c.open_write.result _ c.as_str.ensures.value c.requires.apart
    (sym c.is_err.ensures.value ∙ c.if-is_err.false) c.open_write.ensures c.open_outputs.ensures

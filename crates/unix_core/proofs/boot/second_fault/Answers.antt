use Rattle.std.proofs.Common.{◌∙◌, sym, ap, Some, arith}
use Rattle.fs_nodes.specs.Keys.{key_count}
use Rattle.abstract_unix.specs.Runs.{stores_of}
use Rattle.unix_core.specs.Boots.{counted_fault, fault_or_count}
use Rattle.unix_core.proofs.boot.second_fault.Goals as goal

pub returns-in-Ok : goal.returns-in-Ok
returns-in-Ok c =
    let n = key_count (stores_of c.args.image.now (Some c.args.second.now)) in
    let first = c.inode_count.ensures.count in
    let second = c.inode_count-in-Ok.ensures.count in
    c.counted_fault.ensures ∙ ap counted_fault (omega (arith, first, second)) ∙ sym (ap (λ f. fault_or_count f n) c.in-Ok.ensures)

pub returns-in-Err : goal.returns-in-Err
returns-in-Err c =
    let n = key_count (stores_of c.args.image.now (Some c.args.second.now)) in
    sym (ap (λ f. fault_or_count f n) c.in-Err.ensures)

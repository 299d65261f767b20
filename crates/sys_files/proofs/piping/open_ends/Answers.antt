use Rattle.std.proofs.Common.{◌<◌, List, length, subst, sym, arith}
use Rattle.pipe_ends.specs.declared.ends.Pipe.{Pipe}
use Rattle.sys_files.proofs.OpeningLemmas.{entry_free}
use Rattle.sys_files.proofs.PipeLemmas.{pipes_low}
use Rattle.sys_files.proofs.piping.open_ends.Goals as goal

pub add-requires : goal.add-requires
add-requires c =
    let f = c.args.f.now in
    let room = c.in-Ok.ensures.room in
    let free = entry_free f.table room.0 room.1 in
    let low = pipes_low f.table f.pipes room.0 free.0 free.1 c.requires.pipes in
    let long = c.see_entries.ensures in
    let few : length f.pipes < 100 = omega (arith, low, long) in
    subst (λ (l : List Pipe). length l < 100) (sym c.add_ends.ensures.pipes) few

use Rattle.std.proofs.Common.{◌∙◌, ◌+◌, ◌*◌, ℕ, List, slice_index, sym, ap}
use Rattle.u_area.specs.Area.{fetched}
use Rattle.sys_procs.specs.Agree.{kind_of_stat}
use Rattle.unix_core.proofs.DiskWakes.{living_image, other_waits, no_wait, some_wait}
use Rattle.unix_core.proofs.slots.disk_end.Goals as goal

pub area_bytes-area-requires : goal.area_bytes-area-requires
area_bytes-area-requires c =
    living_image c.args.procs.now c.args.s c.requires.agree c.requires.above c.requires.slot
    (ap kind_of_stat (sym c.stat_of.ensures) ∙ c.lives.ensures.yes c.if-not-lives.false)

pub returns-then-not-lives : goal.returns-then-not-lives
returns-then-not-lives c =
    other_waits c.args.procs.now c.args.s c.requires.agree c.requires.above c.requires.slot
    (λ lives. c.lives.ensures.no c.if-not-lives.true (ap kind_of_stat c.stat_of.ensures ∙ lives)) c.requires.graves

pub returns-then-pending_call-ne-DISK_WAIT : goal.returns-then-pending_call-ne-DISK_WAIT
returns-then-pending_call-ne-DISK_WAIT c =
    no_wait c.args.procs.now c.args.s c.requires.agree c.requires.above c.requires.slot (living_image c.args.procs.now c.args.s c.requires.agree c.requires.above c.requires.slot
    (ap kind_of_stat (sym c.stat_of.ensures) ∙ c.lives.ensures.yes c.if-not-lives.false)) (fetched c.area_bytes-area.result.now) c.area_bytes-area.ensures.read
    (λ e. c.if-pending_call-ne-DISK_WAIT.true (c.pending_call.ensures ∙ e))

pub returns : goal.returns
returns c n few =
    some_wait c.args.procs.now c.args.s c.requires.agree c.requires.above c.requires.slot (living_image c.args.procs.now c.args.s c.requires.agree c.requires.above c.requires.slot
    (ap kind_of_stat (sym c.stat_of.ensures) ∙ c.lives.ensures.yes c.if-not-lives.false)) (fetched c.area_bytes-area.result.now) c.area_bytes-area.ensures.read
    (sym c.pending_call.ensures ∙ c.if-pending_call-ne-DISK_WAIT.false) c.end_kept.result
    (c.end_kept.ensures ∙ ap (λ (l : List ℕ). 65536 * slice_index l 4 + slice_index l 5) c.call_words.ensures) n

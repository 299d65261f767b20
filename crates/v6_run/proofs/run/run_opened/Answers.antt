use Rattle.std.proofs.Common.{◌<◌, true, false, refl, sym, ◌∙◌, subst}
use Rattle.abstract_unix.specs.Runs.{started, course, shown_by}
use Rattle.take_script.specs.Events.{events_of}
use Rattle.v6_run.specs.Words.{disk_files_value}
use Rattle.v6_run.specs.Opened.{AreApart}
use Rattle.v6_run.specs.Opening.{AreThere}
use Rattle.v6_port.specs.Outside.{Out}
use Rattle.v6_port.proofs.CauseLemmas.{only_then}
use Rattle.v6_run.proofs.ResultLemmas.{match_passed}
use Rattle.v6_run.proofs.LinePorts.{ports_apart, ports_there}
use Rattle.v6_run.proofs.OpeningLemmas.{only_opened, only_shut, good_opened, all_opened, all_shut, files_at, unshut_named, states_unshut, stopped_opening, lines_opened, log_opened, left_open, all_open, only_played, only_written}
use Rattle.v6_run.proofs.LeaveLemmas.{second_stays, leaves_on, left_on, shown_on, named_on, all_on, fronts_on}
use Rattle.v6_run.proofs.OutputLemmas.{stopped_playing, stopped_writing, stopped_finishing, came_to_end, run_leaves, second_leaves, phase_ended}
use Rattle.v6_run.proofs.run.run_opened.Goals as goal

pub open_outputs-requires-clause-apart : goal.open_outputs-requires-clause-apart
open_outputs-requires-clause-apart g c =
    let files = c.args.files.now in subst AreApart (sym c.requires.outputs) (ports_apart files.machine files.term.now files.log.now files.final_disk.now)

pub open_outputs-requires-clause-there : goal.open_outputs-requires-clause-there
open_outputs-requires-clause-there g c =
    let files = c.args.files.now in subst AreThere (sym c.requires.outputs) (ports_there files.machine files.term.now files.log.now files.final_disk.now)

pub open_outputs-requires-clause-closed : goal.open_outputs-requires-clause-closed
open_outputs-requires-clause-closed g c = files_at (disk_files_value c.args.files.now) _ c.requires.outputs false (g.H.Host.outside c.args.host.now) c.requires.closed

pub returns-in_err-open_outputs-clause-only : goal.returns-in_err-open_outputs-clause-only
returns-in_err-open_outputs-clause-only g c = only_opened (disk_files_value c.args.files.now) _ c.requires.outputs _ _ _ c.in_err-open_outputs.ensures

pub returns-in_err-open_outputs-clause-outcome : goal.returns-in_err-open_outputs-clause-outcome
returns-in_err-open_outputs-clause-outcome g c =
    let run = course (started c.args.kernel.now.system) (events_of c.args.events.now) in
    match_passed _ _ _ _ c.from_residual.ensures.1 (stopped_opening (disk_files_value c.args.files.now) _ c.requires.outputs _ _ run _ _ _ c.in_err-open_outputs.ensures)

pub play-requires-clause-lines : goal.play-requires-clause-lines
play-requires-clause-lines g c l below =
    let files = disk_files_value c.args.files.now in
    let b = g.H.Host.outside c.open_outputs.new.host in
    lines_opened files b b b (all_opened files _ c.requires.outputs _ _ c.in_ok-open_outputs.ensures) (λ p. refl) l (subst (λ n. l < n) c.lines.ensures below)

pub play-requires-clause-log : goal.play-requires-clause-log
play-requires-clause-log g c =
    let files = disk_files_value c.args.files.now in
    let b = g.H.Host.outside c.open_outputs.new.host in
    log_opened files b b b (all_opened files _ c.requires.outputs _ _ c.in_ok-open_outputs.ensures) (λ p. refl)

pub returns-in_err-ends-clause-only : goal.returns-in_err-ends-clause-only
returns-in_err-ends-clause-only g c =
    let files = disk_files_value c.args.files.now in
    let b = g.H.Host.outside c.open_outputs.new.host in
    let last = g.H.Host.outside c.play.new.host in
    only_played files _ b last (only_opened files _ c.requires.outputs _ _ _ c.in_ok-open_outputs.ensures) (shown_on _ _ b last c.lines.ensures c.in_err-ends.ensures.only)

pub returns-in_err-ends-clause-outcome : goal.returns-in_err-ends-clause-outcome
returns-in_err-ends-clause-outcome g c =
    let files = disk_files_value c.args.files.now in
    let b = g.H.Host.outside c.open_outputs.new.host in
    let last = g.H.Host.outside c.play.new.host in
    let run = course (started c.args.kernel.now.system) (events_of c.args.events.now) in
    let opens = c.in_ok-open_outputs.ensures in
    let only = only_opened files _ c.requires.outputs _ b _ opens in
    let good = good_opened files _ c.requires.outputs _ _ opens in
    let played = c.in_err-ends.ensures in
    let still = all_open files b last last (all_opened files _ c.requires.outputs _ b opens) played.is_open (λ p. refl) in
    match_passed _ _ _ _ c.from_residual-in_err-ends.ensures.1
    (stopped_playing files _ _ run (c.requires.lawful (events_of c.args.events.now)) _ _ _ only opens.bytes good (shown_on _ _ b last c.lines.ensures played.only) still
    c.in_err-ends.field-0.0 (named_on _ _ (Out c.in_err-ends.field-0.0) c.lines.ensures played.named) (fronts_on _ _ (shown_by run) b last c.lines.ensures played.fronts) opens.cause played.cause)

pub leave_disks-requires-clause-ended : goal.leave_disks-requires-clause-ended
leave_disks-requires-clause-ended g c = phase_ended _ _ c.in_ok-ends.ensures.phase

pub leave_disks-requires-clause-second : goal.leave_disks-requires-clause-second
leave_disks-requires-clause-second g c = second_stays _ _ c.in_ok-ends.ensures.rest.second ∙ c.requires.second ∙ sym c.has_second.ensures

pub leave_disks-requires-clause-is_open : goal.leave_disks-requires-clause-is_open
leave_disks-requires-clause-is_open g c p left =
    let files = disk_files_value c.args.files.now in
    let b = g.H.Host.outside c.open_outputs.new.host in
    let played = g.H.Host.outside c.play.new.host in
    left_open files b played played (all_opened files _ c.requires.outputs _ b c.in_ok-open_outputs.ensures) c.in_ok-ends.ensures.is_open p
    (left_on _ _ (Out p) c.has_second.ensures left)

pub returns-in_err-leave_disks-clause-only : goal.returns-in_err-leave_disks-clause-only
returns-in_err-leave_disks-clause-only g c =
    let files = disk_files_value c.args.files.now in
    let b = g.H.Host.outside c.open_outputs.new.host in
    let last = g.H.Host.outside c.play.new.host in
    let leaves = leaves_on _ _ _ _ _ _ _ c.has_second.ensures c.in_err-leave_disks.ensures.written.2 in
    only_written files _ _ _ (only_played files _ b last (only_opened files _ c.requires.outputs _ _ _ c.in_ok-open_outputs.ensures) (shown_on _ _ b last c.lines.ensures c.in_ok-ends.ensures.only)) leaves.only

pub returns-in_err-leave_disks-clause-outcome : goal.returns-in_err-leave_disks-clause-outcome
returns-in_err-leave_disks-clause-outcome g c =
    let files = disk_files_value c.args.files.now in
    let b = g.H.Host.outside c.open_outputs.new.host in
    let last = g.H.Host.outside c.play.new.host in
    let run = course (started c.args.kernel.now.system) (events_of c.args.events.now) in
    let opens = c.in_ok-open_outputs.ensures in
    let only = only_opened files _ c.requires.outputs _ b _ opens in
    let good = good_opened files _ c.requires.outputs _ _ opens in
    let played = c.in_ok-ends.ensures in
    let still = all_open files b last last (all_opened files _ c.requires.outputs _ b opens) played.is_open (λ p. refl) in
    let left = c.in_err-leave_disks.ensures in
    let leaves = leaves_on _ _ _ _ _ _ _ c.has_second.ensures left.written.2 in
    let fits = run_leaves c.args.kernel.now c.play.new.kernel c.leave_disks.new.kernel run played.system played.rest left.system left.stands left.rest c.requires.root left.form left.written.0 left.written.1 left.apart in
    let fits_other = second_leaves c.args.kernel.now c.play.new.kernel c.leave_disks.new.kernel run played.system played.rest left.system left.stands left.rest left.second_form in
    match_passed _ _ _ _ c.from_residual-in_err-leave_disks.ensures.1
    (stopped_writing files _ _ run (c.requires.lawful (events_of c.args.events.now)) _ _ _ only opens.bytes good (shown_on _ _ b last c.lines.ensures played.only) still
    (all_on _ _ (shown_by run) b last c.lines.ensures played.shown) _ played.ending _ _ fits fits_other _ leaves.only _ leaves opens.cause played.cause)

pub finish_outputs-requires-clause-apart : goal.finish_outputs-requires-clause-apart
finish_outputs-requires-clause-apart g c =
    let files = c.args.files.now in subst AreApart (sym c.requires.outputs) (ports_apart files.machine files.term.now files.log.now files.final_disk.now)

pub finish_outputs-requires-clause-there : goal.finish_outputs-requires-clause-there
finish_outputs-requires-clause-there g c =
    let files = c.args.files.now in subst AreThere (sym c.requires.outputs) (ports_there files.machine files.term.now files.log.now files.final_disk.now)

pub finish_outputs-requires-clause-is_open : goal.finish_outputs-requires-clause-is_open
finish_outputs-requires-clause-is_open g c =
    let files = disk_files_value c.args.files.now in
    let b = g.H.Host.outside c.open_outputs.new.host in
    let played = g.H.Host.outside c.play.new.host in
    let written = g.H.Host.outside c.leave_disks.new.host in
    let opened = all_opened files _ c.requires.outputs _ b c.in_ok-open_outputs.ensures in
    files_at files _ c.requires.outputs true written (all_open files b played written opened c.in_ok-ends.ensures.is_open c.in_ok-leave_disks.ensures.written.2.is_open)

pub returns-in_err-finish_outputs-clause-only : goal.returns-in_err-finish_outputs-clause-only
returns-in_err-finish_outputs-clause-only g c =
    let files = disk_files_value c.args.files.now in
    let b = g.H.Host.outside c.open_outputs.new.host in
    let last = g.H.Host.outside c.play.new.host in
    let leaves = leaves_on _ _ _ _ _ _ _ c.has_second.ensures c.in_ok-leave_disks.ensures.written.2 in
    let written = only_written files _ _ _
    (only_played files _ b last (only_opened files _ c.requires.outputs _ _ _ c.in_ok-open_outputs.ensures) (shown_on _ _ b last c.lines.ensures c.in_ok-ends.ensures.only)) leaves.only in
    only_then _ _ _ _ written (only_shut files _ c.requires.outputs _ _ _ c.in_err-finish_outputs.ensures)

pub returns-in_err-finish_outputs-clause-outcome : goal.returns-in_err-finish_outputs-clause-outcome
returns-in_err-finish_outputs-clause-outcome g c =
    let files = disk_files_value c.args.files.now in
    let b = g.H.Host.outside c.open_outputs.new.host in
    let last = g.H.Host.outside c.play.new.host in
    let run = course (started c.args.kernel.now.system) (events_of c.args.events.now) in
    let opens = c.in_ok-open_outputs.ensures in
    let only = only_opened files _ c.requires.outputs _ b _ opens in
    let good = good_opened files _ c.requires.outputs _ _ opens in
    let played = c.in_ok-ends.ensures in
    let still = all_open files b last last (all_opened files _ c.requires.outputs _ b opens) played.is_open (λ p. refl) in
    let left = c.in_ok-leave_disks.ensures in
    let leaves = leaves_on _ _ _ _ _ _ _ c.has_second.ensures left.written.2 in
    let finished = c.in_err-finish_outputs.ensures in
    let fits = run_leaves c.args.kernel.now c.play.new.kernel c.leave_disks.new.kernel run played.system played.rest left.system left.stands left.rest c.requires.root left.form left.written.0 left.written.1 left.apart in
    let fits_other = second_leaves c.args.kernel.now c.play.new.kernel c.leave_disks.new.kernel run played.system played.rest left.system left.stands left.rest left.second_form in
    match_passed _ _ _ _ c.from_residual-in_err-finish_outputs.ensures.1
    (stopped_finishing files _ _ run (c.requires.lawful (events_of c.args.events.now)) _ _ _ only opens.bytes good (shown_on _ _ b last c.lines.ensures played.only) still
    (all_on _ _ (shown_by run) b last c.lines.ensures played.shown) _ played.ending _ _ fits fits_other _ leaves.only leaves _ finished.bytes _
    (unshut_named files _ c.requires.outputs _ _ _ finished) (states_unshut files _ c.requires.outputs _ _ _ finished) opens.cause played.cause finished.cause)

pub returns-clause-only : goal.returns-clause-only
returns-clause-only g c =
    let files = disk_files_value c.args.files.now in
    let b = g.H.Host.outside c.open_outputs.new.host in
    let last = g.H.Host.outside c.play.new.host in
    let leaves = leaves_on _ _ _ _ _ _ _ c.has_second.ensures c.in_ok-leave_disks.ensures.written.2 in
    let written = only_written files _ _ _
    (only_played files _ b last (only_opened files _ c.requires.outputs _ _ _ c.in_ok-open_outputs.ensures) (shown_on _ _ b last c.lines.ensures c.in_ok-ends.ensures.only)) leaves.only in
    only_then _ _ _ _ written (only_shut files _ c.requires.outputs _ _ _ c.in_ok-finish_outputs.ensures)

pub returns-clause-outcome : goal.returns-clause-outcome
returns-clause-outcome g c =
    let files = disk_files_value c.args.files.now in
    let b = g.H.Host.outside c.open_outputs.new.host in
    let last = g.H.Host.outside c.play.new.host in
    let run = course (started c.args.kernel.now.system) (events_of c.args.events.now) in
    let opens = c.in_ok-open_outputs.ensures in
    let only = only_opened files _ c.requires.outputs _ b _ opens in
    let good = good_opened files _ c.requires.outputs _ _ opens in
    let played = c.in_ok-ends.ensures in
    let still = all_open files b last last (all_opened files _ c.requires.outputs _ b opens) played.is_open (λ p. refl) in
    let left = c.in_ok-leave_disks.ensures in
    let leaves = leaves_on _ _ _ _ _ _ _ c.has_second.ensures left.written.2 in
    let finished = c.in_ok-finish_outputs.ensures in
    let fits = run_leaves c.args.kernel.now c.play.new.kernel c.leave_disks.new.kernel run played.system played.rest left.system left.stands left.rest c.requires.root left.form left.written.0 left.written.1 left.apart in
    let fits_other = second_leaves c.args.kernel.now c.play.new.kernel c.leave_disks.new.kernel run played.system played.rest left.system left.stands left.rest left.second_form in
    came_to_end files _ _ run (c.requires.lawful (events_of c.args.events.now)) _ _ _ only opens.bytes good (shown_on _ _ b last c.lines.ensures played.only) still
    (all_on _ _ (shown_by run) b last c.lines.ensures played.shown) _ played.ending _ _ fits fits_other _ leaves.only leaves _ finished.bytes
    (all_shut files _ c.requires.outputs _ _ finished) opens.cause played.cause finished.cause

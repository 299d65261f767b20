use Rattle.std.proofs.Common.{◌≡◌, ◌<◌, ◌^◌, ◌-◌, sym, subst, Some, is_some, IfOk}
use Rattle.std.specs.Option.{option_map}
use Rattle.v6_port.specs.declared.host.OutPort.TheVariants as out_port
use Rattle.v6_port.specs.Outside.{Out, PortState, Tells}
use Rattle.v6_run.specs.Words.{command_in}
use Rattle.v6_run.specs.Report.{told_line}
use Rattle.v6_run.specs.Errors.{command_status, end_of}
use Rattle.v6_run.specs.Headline.{reports_done, done_line}
use Rattle.v6_run.specs.Answers.{AnswersWords}
use Rattle.v6_run.proofs.CommandLemmas as command
use Rattle.abstract_unix.proofs.Lawfully.{logs_are_lawful}
use Rattle.abstract_unix.proofs.OtherCalls.{calls_leave_other}
use Rattle.v6_run.proofs.OneWay.{audits_end_in_one_way}
use Rattle.v6_run.proofs.command.v6.Goals as goal

pub report-requires : goal.report-requires
report-requires g c =
    let old = g.H.Host.outside c.args.host.now in
    let middle = g.H.Host.outside c.answer-answer.new.host in
    let left = command.report_left _ c.answer-answer.result old middle c.answer-answer.ensures.answers in
    subst (λ (state : PortState). state.faults < 2 ^ 64 - 1) (sym left) (c.requires.faults (Out out_port.Report))

pub returns-clause-only : goal.returns-clause-only
returns-clause-only g c =
    let items = c.args.words.now.items in
    let old = g.H.Host.outside c.args.host.now in
    let middle = g.H.Host.outside c.answer-answer.new.host in
    let new = g.H.Host.outside c.report.new.host in
    let answer = c.answer-answer.result in
    let answers = subst (λ l. AnswersWords (command_in l) (end_of command_status answer) old middle) c.as_slice.ensures.value c.answer-answer.ensures.answers in
    let found = subst (λ l. IfOk answer (λ t. option_map reports_done (command_in l) ≡ Some (is_some t))) c.as_slice.ensures.value c.answer-answer.ensures.found in
    command.only_touched (command_in items) answer c.report.result old middle new answers c.report.ensures found

pub returns-clause-words : goal.returns-clause-words
returns-clause-words g c =
    let items = c.args.words.now.items in
    let old = g.H.Host.outside c.args.host.now in
    let middle = g.H.Host.outside c.answer-answer.new.host in
    let new = g.H.Host.outside c.report.new.host in
    let answer = c.answer-answer.result in
    let answers = subst (λ l. AnswersWords (command_in l) (end_of command_status answer) old middle) c.as_slice.ensures.value c.answer-answer.ensures.answers in
    let found = subst (λ l. IfOk answer (λ t. option_map reports_done (command_in l) ≡ Some (is_some t))) c.as_slice.ensures.value c.answer-answer.ensures.found in
    command.of_words (command_in items) answer c.report.result old middle new answers c.report.ensures found

pub returns-clause-unopened : goal.returns-clause-unopened
returns-clause-unopened g c =
    let items = c.args.words.now.items in
    let old = g.H.Host.outside c.args.host.now in
    let middle = g.H.Host.outside c.answer-answer.new.host in
    let new = g.H.Host.outside c.report.new.host in
    let answer = c.answer-answer.result in
    let answers = subst (λ l. AnswersWords (command_in l) (end_of command_status answer) old middle) c.as_slice.ensures.value c.answer-answer.ensures.answers in
    let found = subst (λ l. IfOk answer (λ t. option_map reports_done (command_in l) ≡ Some (is_some t))) c.as_slice.ensures.value c.answer-answer.ensures.found in
    command.unopened_where_refused (command_in items) answer c.report.result old middle new answers c.report.ensures found

pub returns-clause-complete : goal.returns-clause-complete
returns-clause-complete g c =
    let items = c.args.words.now.items in
    let old = g.H.Host.outside c.args.host.now in
    let middle = g.H.Host.outside c.answer-answer.new.host in
    let new = g.H.Host.outside c.report.new.host in
    let answer = c.answer-answer.result in
    let answers = subst (λ l. AnswersWords (command_in l) (end_of command_status answer) old middle) c.as_slice.ensures.value c.answer-answer.ensures.answers in
    let found = subst (λ l. IfOk answer (λ t. option_map reports_done (command_in l) ≡ Some (is_some t))) c.as_slice.ensures.value c.answer-answer.ensures.found in
    command.completed (command_in items) answer c.report.result old middle new answers c.report.ensures found

pub returns-clause-partial : goal.returns-clause-partial
returns-clause-partial g c =
    let items = c.args.words.now.items in
    let old = g.H.Host.outside c.args.host.now in
    let middle = g.H.Host.outside c.answer-answer.new.host in
    let new = g.H.Host.outside c.report.new.host in
    let answer = c.answer-answer.result in
    let answers = subst (λ l. AnswersWords (command_in l) (end_of command_status answer) old middle) c.as_slice.ensures.value c.answer-answer.ensures.answers in
    let found = subst (λ l. IfOk answer (λ t. option_map reports_done (command_in l) ≡ Some (is_some t))) c.as_slice.ensures.value c.answer-answer.ensures.found in
    command.partly_written (command_in items) answer c.report.result old middle new answers c.report.ensures found

pub returns-clause-steps : goal.returns-clause-steps
returns-clause-steps g c =
    let items = c.args.words.now.items in
    let old = g.H.Host.outside c.args.host.now in
    let middle = g.H.Host.outside c.answer-answer.new.host in
    let new = g.H.Host.outside c.report.new.host in
    let answer = c.answer-answer.result in
    let answers = subst (λ l. AnswersWords (command_in l) (end_of command_status answer) old middle) c.as_slice.ensures.value c.answer-answer.ensures.answers in
    let found = subst (λ l. IfOk answer (λ t. option_map reports_done (command_in l) ≡ Some (is_some t))) c.as_slice.ensures.value c.answer-answer.ensures.found in
    command.stopped_in_order (command_in items) answer c.report.result old middle new answers c.report.ensures found

pub returns-clause-order : goal.returns-clause-order
returns-clause-order g c =
    let items = c.args.words.now.items in
    let old = g.H.Host.outside c.args.host.now in
    let middle = g.H.Host.outside c.answer-answer.new.host in
    let new = g.H.Host.outside c.report.new.host in
    let answer = c.answer-answer.result in
    let answers = subst (λ l. AnswersWords (command_in l) (end_of command_status answer) old middle) c.as_slice.ensures.value c.answer-answer.ensures.answers in
    let found = subst (λ l. IfOk answer (λ t. option_map reports_done (command_in l) ≡ Some (is_some t))) c.as_slice.ensures.value c.answer-answer.ensures.found in
    command.in_order (command_in items) answer c.report.result old middle new answers c.report.ensures found

pub returns-clause-opened : goal.returns-clause-opened
returns-clause-opened g c =
    let items = c.args.words.now.items in
    let old = g.H.Host.outside c.args.host.now in
    let middle = g.H.Host.outside c.answer-answer.new.host in
    let new = g.H.Host.outside c.report.new.host in
    let answer = c.answer-answer.result in
    let answers = subst (λ l. AnswersWords (command_in l) (end_of command_status answer) old middle) c.as_slice.ensures.value c.answer-answer.ensures.answers in
    let found = subst (λ l. IfOk answer (λ t. option_map reports_done (command_in l) ≡ Some (is_some t))) c.as_slice.ensures.value c.answer-answer.ensures.found in
    command.after_opening (command_in items) answer c.report.result old middle new answers c.report.ensures found

pub returns-clause-none : goal.returns-clause-none
returns-clause-none g c =
    let items = c.args.words.now.items in
    let old = g.H.Host.outside c.args.host.now in
    let middle = g.H.Host.outside c.answer-answer.new.host in
    let new = g.H.Host.outside c.report.new.host in
    let answer = c.answer-answer.result in
    let answers = subst (λ l. AnswersWords (command_in l) (end_of command_status answer) old middle) c.as_slice.ensures.value c.answer-answer.ensures.answers in
    let found = subst (λ l. IfOk answer (λ t. option_map reports_done (command_in l) ≡ Some (is_some t))) c.as_slice.ensures.value c.answer-answer.ensures.found in
    command.none_written (command_in items) answer c.report.result old middle new answers c.report.ensures found

pub returns-clause-closed : goal.returns-clause-closed
returns-clause-closed g c =
    let items = c.args.words.now.items in
    let old = g.H.Host.outside c.args.host.now in
    let middle = g.H.Host.outside c.answer-answer.new.host in
    let new = g.H.Host.outside c.report.new.host in
    let answer = c.answer-answer.result in
    let answers = subst (λ l. AnswersWords (command_in l) (end_of command_status answer) old middle) c.as_slice.ensures.value c.answer-answer.ensures.answers in
    let found = subst (λ l. IfOk answer (λ t. option_map reports_done (command_in l) ≡ Some (is_some t))) c.as_slice.ensures.value c.answer-answer.ensures.found in
    command.all_closed (command_in items) answer c.report.result old middle new answers c.report.ensures found c.requires

pub returns-clause-cause : goal.returns-clause-cause
returns-clause-cause g c =
    let items = c.args.words.now.items in
    let old = g.H.Host.outside c.args.host.now in
    let middle = g.H.Host.outside c.answer-answer.new.host in
    let new = g.H.Host.outside c.report.new.host in
    let answer = c.answer-answer.result in
    let answers = subst (λ l. AnswersWords (command_in l) (end_of command_status answer) old middle) c.as_slice.ensures.value c.answer-answer.ensures.answers in
    let found = subst (λ l. IfOk answer (λ t. option_map reports_done (command_in l) ≡ Some (is_some t))) c.as_slice.ensures.value c.answer-answer.ensures.found in
    command.has_cause (command_in items) answer c.report.result old middle new answers c.report.ensures found

pub returns-clause-missing : goal.returns-clause-missing
returns-clause-missing g c =
    let items = c.args.words.now.items in
    let old = g.H.Host.outside c.args.host.now in
    let middle = g.H.Host.outside c.answer-answer.new.host in
    let new = g.H.Host.outside c.report.new.host in
    let answer = c.answer-answer.result in
    let answers = subst (λ l. AnswersWords (command_in l) (end_of command_status answer) old middle) c.as_slice.ensures.value c.answer-answer.ensures.answers in
    let found = subst (λ l. IfOk answer (λ t. option_map reports_done (command_in l) ≡ Some (is_some t))) c.as_slice.ensures.value c.answer-answer.ensures.found in
    command.misses_unknown (command_in items) answer c.report.result old middle new answers c.report.ensures found

pub returns-clause-reported : goal.returns-clause-reported
returns-clause-reported g c =
    let items = c.args.words.now.items in
    let old = g.H.Host.outside c.args.host.now in
    let middle = g.H.Host.outside c.answer-answer.new.host in
    let new = g.H.Host.outside c.report.new.host in
    let answer = c.answer-answer.result in
    let answers = subst (λ l. AnswersWords (command_in l) (end_of command_status answer) old middle) c.as_slice.ensures.value c.answer-answer.ensures.answers in
    let found = subst (λ l. IfOk answer (λ t. option_map reports_done (command_in l) ≡ Some (is_some t))) c.as_slice.ensures.value c.answer-answer.ensures.found in
    let line = subst (λ l. IfOk answer (λ t. Tells old → done_line (command_in l) old.fixed ≡ told_line t)) c.as_slice.ensures.value c.answer-answer.ensures.line in
    λ told. command.reported (command_in items) answer c.report.result old middle new answers c.report.ensures found
    (done_line (command_in items) old.fixed) told (command.line_where_told (Tells old) answer (done_line (command_in items) old.fixed) told line)

pub returns-clause-report_front : goal.returns-clause-report_front
returns-clause-report_front g c =
    let items = c.args.words.now.items in
    let old = g.H.Host.outside c.args.host.now in
    let middle = g.H.Host.outside c.answer-answer.new.host in
    let new = g.H.Host.outside c.report.new.host in
    let answer = c.answer-answer.result in
    let answers = subst (λ l. AnswersWords (command_in l) (end_of command_status answer) old middle) c.as_slice.ensures.value c.answer-answer.ensures.answers in
    let found = subst (λ l. IfOk answer (λ t. option_map reports_done (command_in l) ≡ Some (is_some t))) c.as_slice.ensures.value c.answer-answer.ensures.found in
    let line = subst (λ l. IfOk answer (λ t. Tells old → done_line (command_in l) old.fixed ≡ told_line t)) c.as_slice.ensures.value c.answer-answer.ensures.line in
    λ told. command.report_front (command_in items) answer c.report.result old middle new answers c.report.ensures found
    (done_line (command_in items) old.fixed) told (command.line_where_told (Tells old) answer (done_line (command_in items) old.fixed) told line)

pub returns-clause-audited : goal.returns-clause-audited
returns-clause-audited g c = audits_end_in_one_way

pub returns-clause-lawful : goal.returns-clause-lawful
returns-clause-lawful g c = logs_are_lawful

pub returns-clause-apart : goal.returns-clause-apart
returns-clause-apart g c = calls_leave_other

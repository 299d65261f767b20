use Rattle.std.proofs.Common.{IsSomeAnd, subst}
use Rattle.v6_run.specs.Words.{second_image, run_words_value, bytes_value}
use Rattle.v6_run.specs.Steps.{StopsSecond}
use Rattle.v6_run.specs.Answers.{HasSecond}
use Rattle.v6_run.proofs.ResultLemmas.{value_where_ok, match_where_ok, match_where_err, error_passed}
use Rattle.v6_run.proofs.RunLemmas.{image_refused, second_refused, script_unread, files_read}
use Rattle.v6_run.proofs.run.read_files.Goals as goal

pub returns-in_err-image-clause-refused : goal.returns-in_err-image-clause-refused
returns-in_err-image-clause-refused g c =
    let words = run_words_value c.args.words.now in
    let old = g.H.Host.outside c.args.host.now in
    let new = g.H.Host.outside c.read_image.new.host in
    let read = c.read_image.ensures in
    error_passed _ _ _ c.from_residual.ensures.1 (image_refused words _ old new read.only (match_where_err _ _ _ _ c.in_err-image.was read.cause))

pub returns-in_err-second-clause-refused : goal.returns-in_err-second-clause-refused
returns-in_err-second-clause-refused g c =
    let words = run_words_value c.args.words.now in
    let old = g.H.Host.outside c.args.host.now in
    let middle = g.H.Host.outside c.read_image.new.host in
    let new = g.H.Host.outside c.read_other.new.host in
    let first = c.read_image.ensures in
    let second = c.read_other.ensures in
    let image = c.in_ok-image.image.items in
    error_passed _ _ _ c.from_residual-in_err-second.ensures.1
    (second_refused words image old middle new first.only (match_where_ok _ _ _ _ c.in_ok-image.was first.cause) (value_where_ok _ _ _ c.in_ok-image.was first.good) (value_where_ok _ _ _ c.in_ok-image.was first.bytes)
    second.only c.in_err-second.field-0.0
    (subst (λ l. IsSomeAnd (second_image words.outputs) (λ name. StopsSecond l name c.in_err-second.field-0.0 middle new)) c.deref.ensures.value (match_where_err _ _ _ _ c.in_err-second.was second.cause)))

pub returns-in_err-script-clause-refused : goal.returns-in_err-script-clause-refused
returns-in_err-script-clause-refused g c =
    let words = run_words_value c.args.words.now in
    let old = g.H.Host.outside c.args.host.now in
    let middle = g.H.Host.outside c.read_image.new.host in
    let new = g.H.Host.outside c.read_other.new.host in
    let last = g.H.Host.outside c.read_file.new.host in
    let first = c.read_image.ensures in
    let second = c.read_other.ensures in
    let third = c.read_file.ensures in
    let image = c.in_ok-image.image.items in
    let has = subst (λ l. HasSecond l (second_image words.outputs) (bytes_value c.in_ok-second.second) middle) c.deref.ensures.value (value_where_ok _ _ _ c.in_ok-second.was second.second) in
    error_passed _ _ _ c.from_residual-in_err-script.ensures.1
    (script_unread words image old middle new first.only (match_where_ok _ _ _ _ c.in_ok-image.was first.cause) (value_where_ok _ _ _ c.in_ok-image.was first.good) (value_where_ok _ _ _ c.in_ok-image.was first.bytes)
    second.only _ has (match_where_ok _ _ _ _ c.in_ok-second.was second.cause) last third.only _ (match_where_err _ _ _ _ c.in_err-script.was third.cause))

pub returns-clause-files : goal.returns-clause-files
returns-clause-files g c =
    let words = run_words_value c.args.words.now in
    let old = g.H.Host.outside c.args.host.now in
    let middle = g.H.Host.outside c.read_image.new.host in
    let new = g.H.Host.outside c.read_other.new.host in
    let last = g.H.Host.outside c.read_file.new.host in
    let first = c.read_image.ensures in
    let second = c.read_other.ensures in
    let third = c.read_file.ensures in
    let image = c.in_ok-image.image.items in
    let has = subst (λ l. HasSecond l (second_image words.outputs) (bytes_value c.in_ok-second.second) middle) c.deref.ensures.value (value_where_ok _ _ _ c.in_ok-second.was second.second) in
    files_read words image old middle new first.only (match_where_ok _ _ _ _ c.in_ok-image.was first.cause) (value_where_ok _ _ _ c.in_ok-image.was first.good) (value_where_ok _ _ _ c.in_ok-image.was first.bytes)
    second.only _ has (match_where_ok _ _ _ _ c.in_ok-second.was second.cause) last third.only _ (match_where_ok _ _ _ _ c.in_ok-script.was third.cause) (value_where_ok _ _ _ c.in_ok-script.was third.bytes)

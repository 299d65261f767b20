use Rattle.std.proofs.Common.{◌≡◌, ◌∙◌, sym, ap, subst, Ok}
use Rattle.v6_port.specs.Outside.{PortState}
use Rattle.abstract_unix.specs.declared.ends.Ends.{Ends}
use Rattle.abstract_unix.specs.declared.ends.Ends.TheVariants as ends
use Rattle.abstract_unix.specs.declared.ends.Ends.TheVariants.{AtEnd}
use Rattle.v6_run.specs.Booted.{EndsFrom}
use Rattle.v6_run.specs.Words.{Run, second_files, outputs_value, run_words_value, bytes_value}
use Rattle.script_text.specs.Script.{script_of, Refuses}
use Rattle.v6_run.specs.Errors.{run_status}
use Rattle.v6_run.specs.Answers.{Answers}
use Rattle.v6_run.proofs.ResultLemmas.{value_where_ok, error_where_err, end_passed}
use Rattle.v6_run.proofs.RunLemmas.{second_sound, second_read, some_mapped, script_refused}
use Rattle.v6_run.proofs.BootedLemmas.{ends_from, fails_from}
use Rattle.v6_run.proofs.run.run.Goals as goal

pub returns-in_err-files : goal.returns-in_err-files
returns-in_err-files g c =
    let words = run_words_value c.args.words.now in
    let old = g.H.Host.outside c.args.host.now in
    let new = g.H.Host.outside c.read_files.new.host in
    end_passed run_status _ _ (λ s. Answers (Run words) s old new) c.from_residual.ensures.1 (error_where_err _ _ _ c.in_err-files.was c.read_files.ensures.refused)

pub returns-in_err-script : goal.returns-in_err-script
returns-in_err-script g c =
    let words = run_words_value c.args.words.now in
    let old = g.H.Host.outside c.args.host.now in
    let new = g.H.Host.outside c.read_files.new.host in
    let files = value_where_ok _ _ _ c.in_ok-files.was c.read_files.ensures.files in
    let refused = subst (λ bytes. Refuses bytes c.in_err-script.field-0.0) c.deref.ensures.value (error_where_err _ _ _ c.in_err-script.was c.read.ensures.refused) in
    end_passed run_status _ _ (λ s. Answers (Run words) s old new) c.from_residual-in_err-script.ensures.1 (script_refused words _ _ _ old new files _ refused)

pub run_booted-requires-clause-can : goal.run_booted-requires-clause-can
run_booted-requires-clause-can g c =
    let files = value_where_ok _ _ _ c.in_ok-files.was c.read_files.ensures.files in
    let second = bytes_value c.in_ok-files.files.second in
    record {
      least = c.requires.least;
      most = c.requires.most;
      good = files.good;
      second_good = second_sound c.in_ok-files.files.image.items _ second _ files.second;
      named = second_read _ _ _ _ files.second ∙ some_mapped _ (second_files (outputs_value c.args.words.now.outputs));
      slots = rw c.deref-2.ensures.value (value_where_ok _ _ _ c.in_ok-script.was c.read.ensures.slots);
      rates = rw c.deref-2.ensures.value (value_where_ok _ _ _ c.in_ok-script.was c.read.ensures.rates);
    }

pub run_booted-requires-clause-closed : goal.run_booted-requires-clause-closed
run_booted-requires-clause-closed g c p out =
    let files = value_where_ok _ _ _ c.in_ok-files.was c.read_files.ensures.files in
    ap (λ (state : PortState). state.is_open) (files.none p) ∙ c.requires.closed p out

pub returns-in-Ok-AtEnd : goal.returns-in-Ok-AtEnd
returns-in-Ok-AtEnd g c =
    let words = run_words_value c.args.words.now in
    let old = g.H.Host.outside c.args.host.now in
    let middle = g.H.Host.outside c.read_files.new.host in
    let new = g.H.Host.outside c.run_booted.new.host in
    let files = value_where_ok _ _ _ c.in_ok-files.was c.read_files.ensures.files in
    let image = c.in_ok-files.files.image.items in
    let second = bytes_value c.in_ok-files.files.second in
    let events = c.deref-2.result.now in
    let read = subst (λ l. script_of l ≡ Ok c.in_ok-script.script.events.items) c.deref.ensures.value (value_where_ok _ _ _ c.in_ok-script.was c.read.ensures.events) in
    let script_is = subst (λ l. script_of c.in_ok-files.files.script.items ≡ Ok l) (sym c.deref-2.ensures.value) read in
    let field = c.in-Ok-AtEnd.field-0-is in
    let none : c.in-Ok-AtEnd.field-0 ≡ AtEnd = cc in
    ends_from words image second _ old middle files events script_is new c.run_booted.ensures.only AtEnd
    (subst (λ (e : Ends). EndsFrom image second words events e middle new) none c.in-Ok-AtEnd.ensures.outcome)

pub returns-in-Ok-Panic : goal.returns-in-Ok-Panic
returns-in-Ok-Panic g c =
    let words = run_words_value c.args.words.now in
    let old = g.H.Host.outside c.args.host.now in
    let middle = g.H.Host.outside c.read_files.new.host in
    let new = g.H.Host.outside c.run_booted.new.host in
    let files = value_where_ok _ _ _ c.in_ok-files.was c.read_files.ensures.files in
    let image = c.in_ok-files.files.image.items in
    let second = bytes_value c.in_ok-files.files.second in
    let events = c.deref-2.result.now in
    let read = subst (λ l. script_of l ≡ Ok c.in_ok-script.script.events.items) c.deref.ensures.value (value_where_ok _ _ _ c.in_ok-script.was c.read.ensures.events) in
    let script_is = subst (λ l. script_of c.in_ok-files.files.script.items ≡ Ok l) (sym c.deref-2.ensures.value) read in
    let field = c.in-Ok-Panic.field-0-is in
    let same = c.in-Ok-Panic.kind-is in
    let some : c.in-Ok-Panic.field-0 ≡ ends.Panic c.in-Ok-Panic.kind = cc in
    ends_from words image second _ old middle files events script_is new c.run_booted.ensures.only (ends.Panic c.in-Ok-Panic.kind)
    (subst (λ (e : Ends). EndsFrom image second words events e middle new) some c.in-Ok-Panic.ensures.outcome)

pub returns : goal.returns
returns g c =
    let words = run_words_value c.args.words.now in
    let old = g.H.Host.outside c.args.host.now in
    let middle = g.H.Host.outside c.read_files.new.host in
    let new = g.H.Host.outside c.run_booted.new.host in
    let files = value_where_ok _ _ _ c.in_ok-files.was c.read_files.ensures.files in
    let image = c.in_ok-files.files.image.items in
    let second = bytes_value c.in_ok-files.files.second in
    let events = c.deref-2.result.now in
    let read = subst (λ l. script_of l ≡ Ok c.in_ok-script.script.events.items) c.deref.ensures.value (value_where_ok _ _ _ c.in_ok-script.was c.read.ensures.events) in
    let script_is = subst (λ l. script_of c.in_ok-files.files.script.items ≡ Ok l) (sym c.deref-2.ensures.value) read in
    fails_from words image second _ old middle files events script_is new c.run_booted.ensures.only _ c.in-Err.ensures.outcome

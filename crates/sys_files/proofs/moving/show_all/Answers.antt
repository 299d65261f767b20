use Rattle.std.proofs.Common.{◌≡◌, ◌≤◌, ◌<◌, ℕ, List, ◌++◌, ◌+◌, ◌%◌, take, length, sym, ◌∙◌, ap, subst, arith}
use Rattle.v6_base.specs.Trace.{Took, sent}
use Rattle.v6_base.proofs.Took.{took_then, took_nothing, sent-append}
use Rattle.fs_tree.specs.Name.{readable}
use Rattle.tty_line.specs.Terminal.{Terminal}
use Rattle.tty_line.specs.Output.{shows, after_shown, written}
use Rattle.tty_line.proofs.OutputLemmas.{after_nothing, after_shown-append, shows-append, shows_none, written_few}
use Rattle.lines_eight.specs.Lines.{terminal_at, with_terminal}
use Rattle.lines_eight.proofs.LinesLemmas.{at_set, set_same, set_again}
use Rattle.sys_files.proofs.ShowingLemmas.{AreTaken, readable_none, readable_few, taken_none, taken_all, taken_parts, taken_piece, taken_more, taken_stops, taken_front}
use Rattle.sys_files.proofs.moving.show_all.Goals as goal

pub loop-shown-init : goal.loop-shown-init
loop-shown-init g c =
    let image = g.S.Space.image c.args.space.now in
    let t : Terminal = terminal_at c.args.lines.now c.args.l in
    let none = readable_none image c.args.at in record {
      few = omega arith;
      are = taken_none t image c.args.at;
      line = sym (ap (λ bytes. with_terminal c.args.lines.now c.args.l (after_shown t bytes)) none
          ∙ ap (with_terminal c.args.lines.now c.args.l) (after_nothing t) ∙ set_same c.args.lines.now c.args.l);
      items = took_nothing _ _ (ap (λ l. sent c.args.l (shows t l)) none ∙ ap (sent c.args.l) (shows_none t));
      frame = g.met.T.Trace.stays _;
    }

-- what the lines are after a piece more, and what has gone out
more_lines : (lines now new : List Terminal) (l : ℕ) (t : Terminal) (read piece all : List ℕ) → l < length lines
    → now ≡ with_terminal lines l (after_shown t read) → new ≡ with_terminal now l (after_shown (terminal_at now l) piece)
    → read ++ piece ≡ all → new ≡ with_terminal lines l (after_shown t all)
more_lines lines now new l t read piece all there is after parts =
    after
    ∙ ap (λ (ts : List Terminal). with_terminal ts l (after_shown (terminal_at ts l) piece)) is
    ∙ set_again lines l (after_shown t read) _
    ∙ ap (λ (u : Terminal). with_terminal lines l (after_shown u piece)) (at_set lines l (after_shown t read) there)
    ∙ ap (with_terminal lines l) (after_shown-append t read piece)
    ∙ ap (λ bytes. with_terminal lines l (after_shown t bytes)) parts

more_items : (l : ℕ) (t u : Terminal) (read piece all : List ℕ) → u ≡ after_shown t read → read ++ piece ≡ all
    → sent l (shows t read) ++ sent l (shows u piece) ≡ sent l (shows t all)
more_items l t u read piece all is parts =
    ap (λ (v : Terminal). sent l (shows t read) ++ sent l (shows v piece)) is
    ∙ sym (sent-append l (shows t read) (shows (after_shown t read) piece))
    ∙ ap (sent l) (shows-append t read piece ∙ ap (shows t) parts)

pub overflow_add-shown : goal.overflow_add-shown
overflow_add-shown g c =
    let image = g.S.Space.image c.args.space.now in
    let piece : List ℕ = readable image ((c.args.at + c.loop-shown.shown) % 65536) c.min-most.result in
    let few = written_few (terminal_at c.loop-shown.lines c.args.l) piece in
    let less = readable_few image ((c.args.at + c.loop-shown.shown) % 65536) c.min-most.result in
    let h = c.loop-shown-test.true in
    omega (arith, c.show_piece-taken.ensures.taken, few, less, c.min-most.ensures, h, c.ranges.count)

pub loop-shown-preserved : goal.loop-shown-preserved
loop-shown-preserved g c =
    let image = g.S.Space.image c.args.space.now in
    let t : Terminal = terminal_at c.args.lines.now c.args.l in
    let shown : ℕ = c.loop-shown.shown in
    let most : ℕ = c.min-most.result in
    let read : List ℕ = readable image c.args.at shown in
    let piece : List ℕ = readable image ((c.args.at + shown) % 65536) most in
    let are = c.loop-shown.invariant.are in
    let h = c.loop-shown-test.true in
    let now : terminal_at c.loop-shown.lines c.args.l ≡ after_shown t read =
    ap (λ (ts : List Terminal). terminal_at ts c.args.l) c.loop-shown.invariant.line ∙ at_set c.args.lines.now c.args.l (after_shown t read) c.requires.there in
    let taken : c.show_piece-taken.result ≡ written (after_shown t read) piece = c.show_piece-taken.ensures.taken ∙ ap (λ (u : Terminal). written u piece) now in
    let all : most ≤ written (after_shown t read) piece = omega (arith, taken, c.if-taken-most.false) in
    let as_taken : take c.show_piece-taken.result piece ≡ piece =
    ap (λ n. take n piece) taken ∙ taken_piece t image c.args.at shown most (omega arith) are all in
    let whole : shown + c.show_piece-taken.result ≡ shown + most =
    let few = written_few (after_shown t read) piece in
    let less = readable_few image ((c.args.at + shown) % 65536) most in
    omega (arith, taken, all, few, less) in
    let next : readable image c.args.at (shown + c.show_piece-taken.result) ≡ read ++ piece =
    ap (readable image c.args.at) whole ∙ taken_parts t image c.args.at shown most (omega arith) are in
    let parts : read ++ take c.show_piece-taken.result piece ≡ readable image c.args.at (shown + c.show_piece-taken.result) =
    ap (λ bytes. read ++ bytes) as_taken ∙ sym next in
    record {
      few = omega (arith, c.min-most.ensures, h, whole);
      are = subst (AreTaken t image c.args.at) (sym whole) (taken_more t image c.args.at shown most (omega arith) are all);
      line = more_lines c.args.lines.now c.loop-shown.lines _ c.args.l t read (take c.show_piece-taken.result piece) _ c.requires.there
          c.loop-shown.invariant.line c.show_piece-taken.ensures.line parts;
      items = took_then _ _ _ _ _ _ c.loop-shown.invariant.items c.show_piece-taken.ensures.items
          (more_items c.args.l t _ read (take c.show_piece-taken.result piece) _ now parts);
      frame = g.met.T.Trace.goes_on _ _ _ c.loop-shown.invariant.frame c.show_piece-taken.ensures.frame;
    }

pub returns-then-taken-most-clause-taken : goal.returns-then-taken-most-clause-taken
returns-then-taken-most-clause-taken g c =
    let image = g.S.Space.image c.args.space.now in
    let t : Terminal = terminal_at c.args.lines.now c.args.l in
    let shown : ℕ = c.loop-shown.shown in
    let most : ℕ = c.min-most.result in
    let read : List ℕ = readable image c.args.at shown in
    let piece : List ℕ = readable image ((c.args.at + shown) % 65536) most in
    let are = c.loop-shown.invariant.are in
    let h = c.loop-shown-test.true in
    let now : terminal_at c.loop-shown.lines c.args.l ≡ after_shown t read =
    ap (λ (ts : List Terminal). terminal_at ts c.args.l) c.loop-shown.invariant.line ∙ at_set c.args.lines.now c.args.l (after_shown t read) c.requires.there in
    let taken : c.show_piece-taken.result ≡ written (after_shown t read) piece = c.show_piece-taken.ensures.taken ∙ ap (λ (u : Terminal). written u piece) now in
    let less : written (after_shown t read) piece < most = omega (arith, taken, c.if-taken-most.true) in
    let stops = taken_stops t image c.args.at shown most (omega arith) are c.args.count (omega (arith, c.min-most.ensures, h)) less in
    omega (arith, taken, stops)

pub returns-then-taken-most-clause-line : goal.returns-then-taken-most-clause-line
returns-then-taken-most-clause-line g c =
    let image = g.S.Space.image c.args.space.now in
    let t : Terminal = terminal_at c.args.lines.now c.args.l in
    let shown : ℕ = c.loop-shown.shown in
    let most : ℕ = c.min-most.result in
    let read : List ℕ = readable image c.args.at shown in
    let piece : List ℕ = readable image ((c.args.at + shown) % 65536) most in
    let are = c.loop-shown.invariant.are in
    let h = c.loop-shown-test.true in
    let now : terminal_at c.loop-shown.lines c.args.l ≡ after_shown t read =
    ap (λ (ts : List Terminal). terminal_at ts c.args.l) c.loop-shown.invariant.line ∙ at_set c.args.lines.now c.args.l (after_shown t read) c.requires.there in
    let taken : c.show_piece-taken.result ≡ written (after_shown t read) piece = c.show_piece-taken.ensures.taken ∙ ap (λ (u : Terminal). written u piece) now in
    let less : written (after_shown t read) piece < most = omega (arith, taken, c.if-taken-most.true) in
    let front = taken_front t image c.args.at shown most (omega arith) are c.args.count (omega (arith, c.min-most.ensures, h)) less in
    let parts : read ++ take c.show_piece-taken.result piece ≡ take (shown + c.show_piece-taken.result) (readable image c.args.at c.args.count) =
    ap (λ n. read ++ take n piece) taken ∙ sym front ∙ ap (λ n. take (shown + n) (readable image c.args.at c.args.count)) (sym taken) in
    more_lines c.args.lines.now c.loop-shown.lines _ c.args.l t read (take c.show_piece-taken.result piece) _ c.requires.there
    c.loop-shown.invariant.line c.show_piece-taken.ensures.line parts

pub returns-then-taken-most-clause-items : goal.returns-then-taken-most-clause-items
returns-then-taken-most-clause-items g c =
    let image = g.S.Space.image c.args.space.now in
    let t : Terminal = terminal_at c.args.lines.now c.args.l in
    let shown : ℕ = c.loop-shown.shown in
    let most : ℕ = c.min-most.result in
    let read : List ℕ = readable image c.args.at shown in
    let piece : List ℕ = readable image ((c.args.at + shown) % 65536) most in
    let are = c.loop-shown.invariant.are in
    let h = c.loop-shown-test.true in
    let now : terminal_at c.loop-shown.lines c.args.l ≡ after_shown t read =
    ap (λ (ts : List Terminal). terminal_at ts c.args.l) c.loop-shown.invariant.line ∙ at_set c.args.lines.now c.args.l (after_shown t read) c.requires.there in
    let taken : c.show_piece-taken.result ≡ written (after_shown t read) piece = c.show_piece-taken.ensures.taken ∙ ap (λ (u : Terminal). written u piece) now in
    let less : written (after_shown t read) piece < most = omega (arith, taken, c.if-taken-most.true) in
    let front = taken_front t image c.args.at shown most (omega arith) are c.args.count (omega (arith, c.min-most.ensures, h)) less in
    let parts : read ++ take c.show_piece-taken.result piece ≡ take (shown + c.show_piece-taken.result) (readable image c.args.at c.args.count) =
    ap (λ n. read ++ take n piece) taken ∙ sym front ∙ ap (λ n. take (shown + n) (readable image c.args.at c.args.count)) (sym taken) in
    took_then _ _ _ _ _ _ c.loop-shown.invariant.items c.show_piece-taken.ensures.items
    (more_items c.args.l t _ read (take c.show_piece-taken.result piece) _ now parts)

pub returns-clause-taken : goal.returns-clause-taken
returns-clause-taken g c =
    let image = g.S.Space.image c.args.space.now in
    let t : Terminal = terminal_at c.args.lines.now c.args.l in
    let end : c.loop-shown.shown ≡ c.args.count = omega (arith, c.loop-shown.invariant.few, c.loop-shown-test.false) in
    sym (ap (λ n. written t (readable image c.args.at n)) (sym end) ∙ c.loop-shown.invariant.are.all)

pub returns-clause-line : goal.returns-clause-line
returns-clause-line g c =
    let image = g.S.Space.image c.args.space.now in
    let t : Terminal = terminal_at c.args.lines.now c.args.l in
    let end : c.loop-shown.shown ≡ c.args.count = omega (arith, c.loop-shown.invariant.few, c.loop-shown-test.false) in
    c.loop-shown.invariant.line
    ∙ ap (λ bytes. with_terminal c.args.lines.now c.args.l (after_shown t bytes)) (sym (taken_all t image c.args.at c.loop-shown.shown c.loop-shown.invariant.are)
    ∙ ap (λ n. take c.loop-shown.shown (readable image c.args.at n)) end)

pub returns-clause-items : goal.returns-clause-items
returns-clause-items g c =
    let image = g.S.Space.image c.args.space.now in
    let t : Terminal = terminal_at c.args.lines.now c.args.l in
    let end : c.loop-shown.shown ≡ c.args.count = omega (arith, c.loop-shown.invariant.few, c.loop-shown-test.false) in
    subst (λ bytes. Took (g.T.Trace.taken c.args.trace.now) (sent c.args.l (shows t bytes)) (g.T.Trace.taken c.loop-shown.trace))
    (sym (taken_all t image c.args.at c.loop-shown.shown c.loop-shown.invariant.are) ∙ ap (λ n. take c.loop-shown.shown (readable image c.args.at n)) end)
    c.loop-shown.invariant.items

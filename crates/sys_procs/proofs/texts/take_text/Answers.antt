use Rattle.std.proofs.Common.{◌≡◌, ◌≢◌, ◌∙◌, ℕ, Option, Some, None, Err, refl, sym, ap}
use Rattle.std.proofs.lemmas.Result.{err_from_is_err_and}
use Rattle.v6_base.proofs.Took.{took_none}
use Rattle.fs_nodes.specs.FileSystem.{FileSystem}
use Rattle.sys_procs.specs.declared.procs.Procs.{Procs}
use Rattle.sys_procs.specs.declared.program.Program.{Program}
use Rattle.sys_procs.specs.Comes.{Comes}
use Rattle.image_keep.specs.SharedTexts.{found_text}
use Rattle.sys_procs.specs.World.{World, texts_in}
use Rattle.sys_procs.specs.Handed.{came, handed}
use Rattle.sys_procs.specs.inside.Begun.{new_if, new_entry, takes, taken_by}
use Rattle.sys_procs.proofs.TestsLemmas.{entry_is}
use Rattle.sys_procs.proofs.MadeText.{takes_none, takes_as, new_as, takes_by, answer_as, same_panic, left_as, shares_on}
use Rattle.sys_procs.proofs.texts.take_text.Goals as goal

pub returns-then-program-eq0-clause-left : goal.returns-then-program-eq0-clause-left
returns-then-program-eq0-clause-left g c =
    let program = c.args.program.now in
    left_as
    (takes_none (handed c.args.p.now c.args.tree.now.nodes) c.args.s program.ino program.text_clicks c.if-program-eq0.true)
    (record { state = refl; shown = refl; items = took_none (g.T.Trace.taken c.args.trace.now) })

-- The row, where an entry is found, or none.
module _ (p : Procs) (fs : FileSystem) (s : ℕ) (program : Program) (o : Option ℕ)
    (some : program.text_clicks ≢ 0) (found : found_text p.images.kept program.ino ≡ o) where
  abbrev its_row : Comes
  its_row = takes_by (handed p fs) s program.ino program.text_clicks o

  abbrev whole : Comes
  whole = takes (handed p fs) s program.ino program.text_clicks

  row : its_row ≡ whole
  row = takes_as (handed p fs) s program.ino program.text_clicks o some (entry_is p.images.kept program.ino ∙ found)

  answer : taken_by (came p its_row).stop (new_if (texts_in p.images.kept) o)
      ≡ taken_by (came p whole).stop (new_entry (texts_in p.images.kept) program.ino program.text_clicks)
  answer =
      answer_as p its_row whole (new_if (texts_in p.images.kept) o) (new_entry (texts_in p.images.kept) program.ino program.text_clicks)
      row (new_as (texts_in p.images.kept) program.ino program.text_clicks o some (entry_is p.images.kept program.ino ∙ found))

pub returns-in-Some-clause-left : goal.returns-in-Some-clause-left
returns-in-Some-clause-left g c =
    let program = c.args.program.now in
    left_as
    (row c.args.p.now c.args.tree.now.nodes c.args.s program (Some c.in-Some.t) c.if-program-eq0.false
    (sym c.find_text.ensures.text ∙ c.in-Some.is))
    (c.join_text.ensures.left program.ino program.text_clicks)

pub returns-in-Some-clause-answer : goal.returns-in-Some-clause-answer
returns-in-Some-clause-answer g c =
    let program = c.args.program.now in
    let w : World = handed c.args.p.now c.args.tree.now.nodes in
    ap (λ stop. taken_by stop None) (sym (shares_on c.args.p.now w c.args.s program.ino program.text_clicks c.in-Some.t))
    ∙ answer c.args.p.now c.args.tree.now.nodes c.args.s program (Some c.in-Some.t) c.if-program-eq0.false
    (sym c.find_text.ensures.text ∙ c.in-Some.is)

pub returns-in_ok-t-in-None-clause-left : goal.returns-in_ok-t-in-None-clause-left
returns-in_ok-t-in-None-clause-left g c =
    left_as
    (row c.args.p.now c.args.tree.now.nodes c.args.s c.args.program.now None c.if-program-eq0.false
    (sym c.find_text.ensures.text ∙ c.in-None.is))
    c.make_text.ensures.left

pub returns-in_ok-t-in-None-clause-answer : goal.returns-in_ok-t-in-None-clause-answer
returns-in_ok-t-in-None-clause-answer g c =
    let made = c.in_ok-t-in-None.ensures.made in
    (λ i. taken_by (sym made.0 i) (Some (made.1 i)))
    ∙ answer c.args.p.now c.args.tree.now.nodes c.args.s c.args.program.now None c.if-program-eq0.false
    (sym c.find_text.ensures.text ∙ c.in-None.is)

pub returns-in_err-t-in-None-clause-left : goal.returns-in_err-t-in-None-clause-left
returns-in_err-t-in-None-clause-left g c =
    left_as
    (row c.args.p.now c.args.tree.now.nodes c.args.s c.args.program.now None c.if-program-eq0.false
    (sym c.find_text.ensures.text ∙ c.in-None.is))
    c.make_text.ensures.left

pub returns-in_err-t-in-None-clause-answer : goal.returns-in_err-t-in-None-clause-answer
returns-in_err-t-in-None-clause-answer g c =
    let given = err_from_is_err_and c.from_residual.result c.from_residual.ensures.1 in
    let program = c.args.program.now in
    let found = sym c.find_text.ensures.text ∙ c.in-None.is in
    let it : Comes = takes_by (handed c.args.p.now c.args.tree.now.nodes) c.args.s program.ino program.text_clicks None in
    given.1
    ∙ (ap (λ e. Err e) given.2
    ∙ (same_panic (came c.args.p.now it).stop None (new_if (texts_in c.args.p.now.images.kept) None)
    c.in_err-t-in-None.field-0.0 c.in_err-t-in-None.ensures.kind
    ∙ answer c.args.p.now c.args.tree.now.nodes c.args.s program None c.if-program-eq0.false found))

use Rattle.std.proofs.Common.{◌∙◌, Some, set, refl, sym, ap}
use Rattle.image_keep.specs.Kept.{Kept}
use Rattle.fs_nodes.specs.FileSystem.{FileSystem}
use Rattle.sys_procs.specs.declared.procs.Procs.{Procs}
use Rattle.sys_procs.specs.inside.Begun.{nothing}
use Rattle.sys_procs.specs.Texts.{with_entry, xalloc_by}
use Rattle.sys_procs.specs.TextTable.{marks_of}
use Rattle.sys_procs.specs.World.{texts_in}
use Rattle.v6_base.specs.declared.entry.Entry.TheVariants as line
use Rattle.sys_procs.specs.Handed.{board, handed, process_here}
use Rattle.sys_procs.proofs.SameKept.{SameKept, same_handed, same_board, same_bare}
use Rattle.sys_procs.proofs.Dones.{left_logged}
use Rattle.sys_procs.proofs.Tables.{logged_line}
use Rattle.sys_procs.proofs.Retexted.{state, is_bare}
use Rattle.sys_procs.proofs.JoinedText.{more, joins, texts_joined, marks_joined, board_joined, images_joined}
use Rattle.sys_procs.proofs.texts.join_text.Given as given
use Rattle.sys_procs.proofs.texts.join_text.Goals as goal

abbrev it : (g : given.Over) → goal.After-entry g → Procs
it g c = record c.args.p.now { table = c.give_text.new.table; images = c.join_text.new.self }

it_is : (g : given.Over) (c : goal.After-entry g) → SameKept (it g c) (joins c.args.p.now c.args.s c.args.t)
it_is g c = record {
  rows = refl;
  table = c.give_text.ensures;
  kept = c.join_text.ensures ∙ images_joined c.args.p.now c.args.s c.args.t;
  switches = refl;
}

pub returns-clause-left : goal.returns-clause-left
returns-clause-left g c = λ ino size.
    let p : Procs = c.args.p.now in
    let fs : FileSystem = c.args.tree.now.nodes in
    left_logged {old = p} {new = it g c} {fs = fs} {c = xalloc_by (handed p fs) c.args.s ino size (Some c.args.t)
    (λ placed is_new. nothing placed)} (logged_line (board p) (line.Share c.args.s c.args.t))
    (same_handed (it_is g c) fs
    ∙ (state p c.args.s c.args.t (more p.images.kept c.args.t) c.requires.bare c.place-place.ensures.holds.seats fs
    ∙ (λ i. record (handed p fs) {
      processes = set (handed p fs).processes c.args.s (Some (with_entry c.args.t (process_here p c.args.s)));
      texts = texts_joined p.images.kept c.args.t i;
    })))
    (same_board (it_is g c) ∙ board_joined p c.args.s c.args.t)
    c.entry.ensures.took

pub returns-clause-bare : goal.returns-clause-bare
returns-clause-bare g c =
    same_bare (it_is g c)
    (is_bare c.args.p.now c.args.s c.args.t (more c.args.p.now.images.kept c.args.t) c.requires.bare c.place-place.ensures.holds.seats)

pub returns-clause-marks : goal.returns-clause-marks
returns-clause-marks g c =
    c.requires.marks ∙ (sym (marks_joined c.args.p.now.images.kept c.args.t)
    ∙ ap (λ (k : Kept). marks_of (texts_in k)) (sym (it_is g c).kept))

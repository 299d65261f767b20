use Rattle.std.proofs.Common.{◌≡◌, ◌∙◌, ◌-◌, ◌*◌, ℕ, replicate, sym, ap, subst, Some, IsSome, refl, arith}
use Rattle.std.proofs.lemmas.List.{length-replicate}
use Rattle.image_keep.specs.Kept.{Kept, IsKept, shared, text_of}
use Rattle.image_keep.specs.SharedTexts.{zeros_text, free_text}
use Rattle.image_keep.specs.Places.{swap_fit, blocks}
use Rattle.sys_procs.specs.declared.procs.Procs.{Procs}
use Rattle.sys_procs.specs.TextTable.{marks_of}
use Rattle.sys_procs.specs.World.{texts_in}
use Rattle.sys_procs.specs.inside.Handed.{IsBare}
use Rattle.sys_procs.proofs.SameKept.{SameKept, same_bare}
use Rattle.sys_procs.proofs.MadeText.{IsMade, Refused, unmarked, made_in, entry_free, left_refused, images_made, now, it_is, text_now, user_now, goes_on, left_made, bare_made, marks_made}
use Rattle.sys_procs.proofs.texts.make_text.Given as given
use Rattle.sys_procs.proofs.texts.make_text.Goals as goal

pub mark_text-requires-clause-unmarked : goal.mark_text-requires-clause-unmarked
mark_text-requires-clause-unmarked g c =
    unmarked c.args.p.now.images.kept c.args.ino c.args.tree.now.marks c.requires.marks
    (omega (arith, c.ranges.ino.fits)) c.requires.unknown

pub text_row-requires : goal.text_row-requires
text_row-requires g c =
    let bare = c.requires.bare in
    let all = c.place-place.ensures.holds in
    let made = made_in c.args.p.now c.args.clicks c.in-Ok.t (sym c.in-Ok.is ∙ c.new_text.ensures.text) in
    let there : shared c.new_text.new.self.kept c.in-Ok.t ≡ Some (zeros_text c.args.ino c.args.clicks made.block) =
    ap (λ (k : Kept). shared k c.in-Ok.t)
    (c.new_text.ensures.kept ∙ images_made c.args.p.now c.args.s c.args.ino c.args.clicks bare all c.in-Ok.t made)
    ∙ text_now c.args.p.now c.args.s c.args.ino c.args.clicks bare all c.in-Ok.t made in
    subst IsSome (sym there) refl

module _ (g : given.Over) (c : goal.After-entry g) where
  abbrev bare : IsBare c.args.p.now c.args.s
  bare = c.requires.bare

  abbrev all : IsKept c.args.p.now.images.kept
  all = c.place-place.ensures.holds

  abbrev made : IsMade (free_text c.args.p.now.images.kept) (swap_fit c.args.p.now.images.kept (blocks c.args.clicks)) c.in-Ok.t
  made = made_in c.args.p.now c.args.clicks c.in-Ok.t (sym c.in-Ok.is ∙ c.new_text.ensures.text)

  abbrev it : Procs
  it = record c.args.p.now { table = c.give_text.new.table; images = c.new_text.new.self }

  it_now : SameKept it (now c.args.p.now c.args.s c.args.ino c.args.clicks bare all c.in-Ok.t made)
  it_now =
      it_is c.args.p.now c.args.s c.args.ino c.args.clicks bare all c.in-Ok.t made
      c.give_text.new.table c.new_text.new.self c.give_text.ensures c.new_text.ensures.kept

pub returns-in-Ok-clause-left : goal.returns-in-Ok-clause-left
returns-in-Ok-clause-left g c =
    left_made c.args.p.now c.args.s c.args.ino c.args.clicks (bare g c) (all g c) c.in-Ok.t (made g c)
    (it g c) c.args.tree.now.nodes c.mark_text.new.self.nodes c.text_row.result.now.block
    (g.T.Trace.taken c.args.trace.now) (g.T.Trace.taken c.entry.new.self)
    (it_now g c) c.mark_text.ensures.inodes (ap (λ row. row.block) c.text_row.ensures) c.entry.ensures.took

pub returns-in-Ok-clause-made : goal.returns-in-Ok-clause-made
returns-in-Ok-clause-made g c = (
  goes_on c.args.p.now c.args.s c.args.ino c.args.clicks (bare g c) (all g c) c.in-Ok.t (made g c) c.args.tree.now.nodes,
  entry_free c.args.p.now.images.kept c.in-Ok.t (made g c).entry,
  ap (λ (k : Kept). text_of k c.args.s) (it_now g c).kept
      ∙ user_now c.args.p.now c.args.s c.args.ino c.args.clicks (bare g c) (all g c) c.in-Ok.t (made g c),
)

pub returns-in-Ok-clause-unread : goal.returns-in-Ok-clause-unread
returns-in-Ok-clause-unread g c =
    let nought : ℕ = 0 in
    let whole : 64 * c.args.clicks ≡ 64 * c.args.clicks - 0 = omega arith in
    record {
      text = zeros_text c.args.ino c.args.clicks (made g c).block;
      there =
          ap (λ (k : Kept). shared k c.in-Ok.t) (it_now g c).kept
          ∙ text_now c.args.p.now c.args.s c.args.ino c.args.clicks (bare g c) (all g c) c.in-Ok.t (made g c);
      out = refl;
      size = refl;
      long = length-replicate (64 * c.args.clicks) nought;
      zeros = ap (λ n. replicate n nought) whole;
    }

pub returns-in-Ok-clause-bare : goal.returns-in-Ok-clause-bare
returns-in-Ok-clause-bare g c =
    same_bare (it_now g c)
    (bare_made c.args.p.now c.args.s c.args.ino c.args.clicks (bare g c) (all g c) c.in-Ok.t (made g c))

pub returns-in-Ok-clause-marks : goal.returns-in-Ok-clause-marks
returns-in-Ok-clause-marks g c =
    c.mark_text.ensures.marks
    ∙ sym (ap (λ (k : Kept). marks_of (texts_in k)) (it_now g c).kept
    ∙ marks_made c.args.p.now c.args.s c.args.ino c.args.clicks (bare g c) (all g c) c.in-Ok.t (made g c)
    c.args.tree.now.marks c.requires.marks)

-- It isn't made.
module _ (g : given.Over) (c : goal.After-entry-in-Err g) where
  refused : Refused c.args.p.now c.args.s c.args.ino c.args.clicks c.args.tree.now.nodes
      c.panic_of-kind.result c.new_text.new.self
      (g.T.Trace.taken c.args.trace.now) (g.T.Trace.taken c.entry-in-Err.new.self)
  refused =
      left_refused c.args.p.now c.args.s c.args.ino c.args.clicks c.requires.bare c.place-place.ensures.holds
      c.args.tree.now.nodes c.in-Err.refusal c.panic_of-kind.result c.new_text.new.self
      (g.T.Trace.taken c.args.trace.now) (g.T.Trace.taken c.entry-in-Err.new.self)
      (sym c.in-Err.is ∙ c.new_text.ensures.text) c.panic_of-kind.ensures.full c.panic_of-kind.ensures.swap
      c.new_text.ensures.kept c.entry-in-Err.ensures.took

pub returns-in-Err-clause-left : goal.returns-in-Err-clause-left
returns-in-Err-clause-left g c = (refused g c).left

pub returns-in-Err-clause-kind : goal.returns-in-Err-clause-kind
returns-in-Err-clause-kind g c = (refused g c).panic

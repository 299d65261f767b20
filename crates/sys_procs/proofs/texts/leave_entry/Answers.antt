use Rattle.std.proofs.Common.{◌≡◌, ◌∙◌, ◌<◌, true, false, slice_index, inl, inr, refl, sym, ap, subst}
use Rattle.text_tab.specs.declared.left.Left.TheVariants.{Gone}
use Rattle.fs_nodes.proofs.RestLemmas.{rest_stays}
use Rattle.image_keep.specs.Kept.{Kept, text_of}
use Rattle.image_keep.specs.SharedTexts.{row_of_text}
use Rattle.text_tab.specs.Table as table
use Rattle.sys_procs.specs.declared.procs.Procs.{Procs}
use Rattle.sys_procs.specs.TextTable.{marks_of}
use Rattle.sys_procs.specs.World.{texts_in}
use Rattle.sys_procs.proofs.SameKept.{SameKept, same_alive}
use Rattle.sys_procs.proofs.LeftText as left
use Rattle.sys_procs.proofs.LeftText.{Shares, shares, is_there, referenced, is_marked, has_left, left_is, is_gone, state_stays, state_goes, is_alive, none_now, marks_stay, marks_gone}
use Rattle.sys_procs.proofs.texts.leave_entry.Given as given
use Rattle.sys_procs.proofs.texts.leave_entry.Goals as goal

pub inode_of-ino-requires : goal.inode_of-ino-requires
inode_of-ino-requires g c =
    is_there true (shares c.requires.alive c.requires.text c.see_texts.ensures.shared c.see.ensures.images)

pub is_sticky-sticky-requires : goal.is_sticky-sticky-requires
is_sticky-sticky-requires g c =
    let h = shares c.requires.alive c.requires.text c.see_texts.ensures.shared c.see.ensures.images in
    subst (λ n. 0 < slice_index c.args.tree.now.nodes.references n) (sym c.inode_of-ino.ensures.inode)
    (referenced true h c.args.tree.now.nodes.references c.requires.referred)

pub unmark_text-requires-clause-marked : goal.unmark_text-requires-clause-marked
unmark_text-requires-clause-marked g c =
    let h = shares c.requires.alive c.requires.text c.see_texts.ensures.shared c.see.ensures.images in
    is_marked true h c.args.tree.now.marks c.inode_of-ino.result c.requires.marks
    c.inode_of-ino.ensures.inode c.inode_of-ino.ensures.number

pub unmark_text-requires-clause-referenced : goal.unmark_text-requires-clause-referenced
unmark_text-requires-clause-referenced g c =
    let h = shares c.requires.alive c.requires.text c.see_texts.ensures.shared c.see.ensures.images in
    subst (λ n. 0 < slice_index c.args.tree.now.nodes.references n) (sym c.inode_of-ino.ensures.inode)
    (referenced true h c.args.tree.now.nodes.references c.requires.referred)

-- The text stays, or it goes.
module _ (g : given.Over) (c : goal.In-Used g) where
  abbrev used_by : Shares c.args.p.now c.args.s c.args.t
  used_by = shares c.requires.alive c.requires.text c.see_texts.ensures.shared c.see.ensures.images

  abbrev used_it : Procs
  used_it = record c.args.p.now { table = c.give_text.new.table; images = c.leave_text.new.self }

  used_is : SameKept used_it (left.now c.is_sticky-sticky.result used_by)
  used_is =
      left_is c.is_sticky-sticky.result used_by c.give_text.new.table c.leave_text.new.self
      c.give_text.ensures c.leave_text.ensures.kept

  stays : is_gone c.leave_text.result ≡ false
  stays = elim c.in-Used.is [
    | inl is ↦ ap is_gone is
    | inr is ↦ ap is_gone is
  ]

pub returns-in-Used : goal.returns-in-Used
returns-in-Used g c =
    let h : Shares c.args.p.now c.args.s c.args.t = used_by g c in
    record {
      left = has_left c.is_sticky-sticky.result h c.args.tree.now.nodes c.args.tree.now.nodes (used_it g c)
          (g.T.Trace.taken c.args.trace.now) (g.T.Trace.taken c.entry.new.self) c.inode_of-ino.result
          (used_is g c) c.inode_of-ino.ensures.inode
          (state_stays c.is_sticky-sticky.result h c.args.tree.now.nodes c.leave_text.result c.leave_text.ensures.left
          (stays g c))
          (c.is_sticky-sticky.ensures) c.entry.ensures.took;
      frame = c.entry.ensures.frame;
      alive = same_alive (used_is g c) (is_alive c.is_sticky-sticky.result h);
      none = ap (λ (k : Kept). text_of k c.args.s) (used_is g c).kept ∙ none_now c.is_sticky-sticky.result h;
      marks = c.requires.marks ∙ sym (ap (λ (k : Kept). marks_of (texts_in k)) (used_is g c).kept
          ∙ marks_stay c.is_sticky-sticky.result h c.leave_text.result c.leave_text.ensures.left (stays g c));
      mounts = refl;
      blocks = rest_stays _;
    }

module _ (g : given.Over) (c : goal.After-unmark_text g) where
  abbrev gone_by : Shares c.args.p.now c.args.s c.args.t
  gone_by = shares c.requires.alive c.requires.text c.see_texts.ensures.shared c.see.ensures.images

  abbrev gone_it : Procs
  gone_it = record c.args.p.now { table = c.give_text.new.table; images = c.leave_text.new.self }

  it_is : SameKept gone_it (left.now c.is_sticky-sticky.result gone_by)
  it_is =
      left_is c.is_sticky-sticky.result gone_by c.give_text.new.table c.leave_text.new.self
      c.give_text.ensures c.leave_text.ensures.kept

  goes : Gone ≡ table.left (row_of_text c.args.p.now.images.kept (text_of c.args.p.now.images.kept c.args.s)) c.is_sticky-sticky.result
  goes = sym c.in-Gone.is ∙ c.leave_text.ensures.left

pub returns-in-Gone-clause-left : goal.returns-in-Gone-clause-left
returns-in-Gone-clause-left g c =
    has_left c.is_sticky-sticky.result (gone_by g c) c.args.tree.now.nodes c.unmark_text.new.self.nodes (gone_it g c)
    (g.T.Trace.taken c.args.trace.now) (g.T.Trace.taken c.entry.new.self) c.inode_of-ino.result
    (it_is g c) c.inode_of-ino.ensures.inode
    (state_goes c.is_sticky-sticky.result (gone_by g c) c.args.tree.now.nodes c.unmark_text.new.self.nodes c.inode_of-ino.result
    (goes g c)
    c.inode_of-ino.ensures.inode c.unmark_text.ensures.inodes)
    (c.is_sticky-sticky.ensures) c.entry.ensures.took

pub returns-in-Gone-clause-alive : goal.returns-in-Gone-clause-alive
returns-in-Gone-clause-alive g c =
    same_alive (it_is g c) (is_alive c.is_sticky-sticky.result (gone_by g c))

pub returns-in-Gone-clause-none : goal.returns-in-Gone-clause-none
returns-in-Gone-clause-none g c =
    ap (λ (k : Kept). text_of k c.args.s) (it_is g c).kept ∙ none_now c.is_sticky-sticky.result (gone_by g c)

pub returns-in-Gone-clause-marks : goal.returns-in-Gone-clause-marks
returns-in-Gone-clause-marks g c =
    c.unmark_text.ensures.marks
    ∙ sym (ap (λ (k : Kept). marks_of (texts_in k)) (it_is g c).kept
    ∙ marks_gone c.is_sticky-sticky.result
    (gone_by g c) c.args.tree.now.marks c.inode_of-ino.result c.requires.marks c.inode_of-ino.ensures.inode (goes g c))

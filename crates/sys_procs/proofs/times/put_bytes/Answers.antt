use Rattle.std.proofs.Common.{◌≡◌, ◌∙◌, Bool, true, false, Option, Some, None, is_some, refl, sym, ap}
use Rattle.v6_base.specs.Image.{Image}
use Rattle.v6_base.specs.Copy.{store_bytes}
use Rattle.image_keep.specs.State.{ImagesState}
use Rattle.image_keep.specs.Kept as kept
use Rattle.image_keep.specs.Lent.{Lent, left_of}
use Rattle.fs_nodes.specs.FileSystem.{FileSystem}
use Rattle.sys_procs.specs.declared.procs.Procs.{Procs}
use Rattle.sys_procs.specs.Times.{stored}
use Rattle.sys_procs.specs.Handed.{handed}
use Rattle.sys_procs.specs.inside.Handed.{memory_here}
use Rattle.sys_procs.proofs.SameKept.{same_images, same_handed}
use Rattle.sys_procs.proofs.MemoryLemmas.{image_here, loan_state, loan_board, loan_alive, loan_same}
use Rattle.sys_procs.proofs.times.put_bytes.Goals as goal

-- the images after the loan
abbrev now : goal.After-copy_out → ImagesState
now c = c.copy_out.new.self.images.now

slot_is : (c : goal.After-copy_out) → c.copy_out.new.self.slot ≡ c.args.s
slot_is c = ap (λ (l : Lent). l.slot) c.copy_out.ensures.rest ∙ c.space-space.ensures.slot

left : (c : goal.After-copy_out) → left_of (now c).kept c.args.s ≡ left_of c.args.p.now.images.kept c.args.s
left c =
    ap (left_of (now c).kept) (sym (slot_is c))
    ∙ (ap (λ (l : Lent). l.left) c.copy_out.ensures.rest
    ∙ (ap (left_of c.space-space.result.images.now.kept) c.space-space.ensures.slot
    ∙ ap (λ (i : ImagesState). left_of i.kept c.args.s) c.space-space.ensures.images))

-- the image before, and the one after
before : (c : goal.After-copy_out) → memory_here c.args.p.now c.args.s ≡ kept.image_of c.space-space.result.images.now.kept c.space-space.result.slot
before c =
    image_here c.args.p.now c.args.s c.requires c.see_kept.ensures
    ∙ (ap (λ (i : ImagesState). kept.image_of i.kept c.args.s) (sym c.space-space.ensures.images)
    ∙ ap (λ n. kept.image_of c.space-space.result.images.now.kept n) (sym c.space-space.ensures.slot))

whole : (c : goal.After-copy_out) → c.copy_out.result ≡ true → store_bytes (memory_here c.args.p.now c.args.s) c.args.at c.args.bytes.now ≡ Some (kept.image_of (now c).kept c.args.s)
whole c is =
    ap (λ m. store_bytes m c.args.at c.args.bytes.now) (before c)
    ∙ (c.copy_out.ensures.done is ∙ ap (λ n. Some (kept.image_of (now c).kept n)) (slot_is c))

none : (c : goal.After-copy_out) → c.copy_out.result ≡ false → store_bytes (memory_here c.args.p.now c.args.s) c.args.at c.args.bytes.now ≡ None
none c is = ap (λ m. store_bytes m c.args.at c.args.bytes.now) (before c) ∙ c.copy_out.ensures.refused is

same : (c : goal.After-copy_out) → c.copy_out.result ≡ false → (now c).kept ≡ c.args.p.now.images.kept
same c is = loan_same c.args.p.now c.args.s c.requires c.see_kept.ensures.slots (now c) (left c)
    (ap (kept.image_of (now c).kept) (sym (slot_is c))
    ∙ (c.copy_out.ensures.same is
    ∙ (ap (λ n. kept.image_of c.space-space.result.images.now.kept n) c.space-space.ensures.slot
    ∙ ap (λ (i : ImagesState). kept.image_of i.kept c.args.s) c.space-space.ensures.images)))

pub returns-clause-done : goal.returns-clause-done
returns-clause-done c = by c.copy_out.result refl
  where
    by : (b : Bool) → c.copy_out.result ≡ b → b ≡ is_some (store_bytes (memory_here c.args.p.now c.args.s) c.args.at c.args.bytes.now)
    by true is = sym (ap is_some (whole c is))
    by false is = sym (ap is_some (none c is))

pub returns-clause-state : goal.returns-clause-state
returns-clause-state c = λ fs. by fs c.copy_out.result refl
  where
    p : Procs
    p = c.args.p.now

    by : (fs : FileSystem) (b : Bool) → c.copy_out.result ≡ b
        → handed (record p { images = now c }) fs ≡ (stored (handed p fs) c.args.s (store_bytes (memory_here p c.args.s) c.args.at c.args.bytes.now)).state
    by fs true is =
        loan_state p c.args.s c.requires c.see_kept.ensures.slots (now c) (left c) fs
        ∙ sym (ap (λ (o : Option Image). (stored (handed p fs) c.args.s o).state) (whole c is))
    by fs false is =
        same_handed (same_images {p = p} {i = now c} (same c is)) fs
        ∙ sym (ap (λ (o : Option Image). (stored (handed p fs) c.args.s o).state) (none c is))

pub returns-clause-board : goal.returns-clause-board
returns-clause-board c = loan_board c.args.p.now c.args.s c.requires c.see_kept.ensures.slots (now c) (left c)

pub returns-clause-alive : goal.returns-clause-alive
returns-clause-alive c = loan_alive c.args.p.now c.args.s c.requires c.see_kept.ensures.slots (now c) (left c)

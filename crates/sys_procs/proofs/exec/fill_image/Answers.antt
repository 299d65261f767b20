use Rattle.std.proofs.Common.{◌≡◌, ◌∙◌, ◌*◌, length, ℕ, sym, ap}
use Rattle.v6_base.specs.Image.{Image}
use Rattle.u_area.specs.declared.area.UArea.{UArea}
use Rattle.sys_procs.proofs.Alive.{area_here}
use Rattle.fs_laws.specs.Pieces.{Moving}
use Rattle.fs_nodes.specs.FileSystem.{FileSystem}
use Rattle.image_keep.specs.State.{ImagesState}
use Rattle.image_keep.specs.Kept.{IsKept}
use Rattle.image_keep.specs.Kept as kept
use Rattle.image_keep.specs.Lent.{Lent, left_of}
use Rattle.sys_procs.specs.declared.procs.Procs.{Procs}
use Rattle.sys_procs.specs.Process.{Process}
use Rattle.sys_procs.specs.World.{with_process}
use Rattle.sys_procs.specs.Stack.{first_stack}
use Rattle.sys_procs.specs.ExecFile.{cleared_image, data_read}
use Rattle.sys_procs.specs.Handed.{IsAlive, handed, process_here}
use Rattle.sys_procs.specs.inside.Handed.{memory_here}
use Rattle.sys_procs.proofs.MemoryLemmas.{image_here, loan_state, loan_board, loan_alive}
use Rattle.sys_procs.proofs.exec.fill_image.Goals as goal

-- the images after the loan
abbrev now : goal.After-fill → ImagesState
now c = c.fill.new.space.images.now

slot_is : (c : goal.After-fill) → c.fill.new.space.slot ≡ c.args.s
slot_is c = ap (λ (l : Lent). l.slot) c.fill.ensures.rest ∙ c.space-space.ensures.slot

left : (c : goal.After-fill) → left_of (now c).kept c.args.s ≡ left_of c.args.p.now.images.kept c.args.s
left c =
    ap (left_of (now c).kept) (sym (slot_is c))
    ∙ (ap (λ (l : Lent). l.left) c.fill.ensures.rest
    ∙ (ap (left_of c.space-space.result.images.now.kept) c.space-space.ensures.slot
    ∙ ap (λ (i : ImagesState). left_of i.kept c.args.s) c.space-space.ensures.images))

-- what is lent is cleared
lent_is : (c : goal.After-fill) → kept.image_of c.space-space.result.images.now.kept c.space-space.result.slot
    ≡ cleared_image (memory_here c.args.p.now c.args.s).text c.args.program.now.plan
lent_is c =
    ap (kept.image_of c.space-space.result.images.now.kept) c.space-space.ensures.slot
    ∙ (ap (λ (i : ImagesState). kept.image_of i.kept c.args.s) c.space-space.ensures.images
    ∙ (sym (image_here c.args.p.now c.args.s c.requires.alive c.see_kept.ensures) ∙ c.requires.cleared))

abbrev read : goal.After-fill → Moving Image
read c = data_read (handed c.args.p.now c.args.tree.now.nodes) c.args.s c.args.program.now

image_is : (c : goal.After-fill) → kept.image_of (now c).kept c.args.s
    ≡ record (read c).memory { stack = first_stack c.args.program.now.arguments }
image_is c =
    ap (kept.image_of (now c).kept) (sym (slot_is c)) ∙ c.fill.ensures.image (memory_here c.args.p.now c.args.s).text (lent_is c)

pub returns-clause-state : goal.returns-clause-state
returns-clause-state c =
    let p = c.args.p.now in
    let fs : FileSystem = c.fill.new.nodes in
    let old : Process = process_here p c.args.s in
    loan_state p c.args.s c.requires.alive c.see_kept.ensures.slots (now c) (left c) fs
    ∙ (λ i. with_process (record (handed p c.args.tree.now.nodes) {
      inodes = record {
        store = c.fill.ensures.store (memory_here p c.args.s).text (lent_is c) i;
        references = c.fill.ensures.references i;
      };
    }) c.args.s (record old { «data» = (image_is c i).data; stack = (image_is c i).stack }))

-- The text of a process is as long as its u area says.
long_is : (p : Procs) (s size : ℕ) → IsAlive p s → IsKept p.images.kept → (process_here p s).u.text_size ≡ size
    → length (memory_here p s).text ≡ 64 * size
long_is p s size alive holds same =
    ap (λ (m : Image). length m.text) (image_here p s alive holds)
    ∙ ((holds.sizes s alive.image).text_size
    ∙ (ap (λ (u : UArea). 64 * u.text_size) (area_here p s alive) ∙ ap (λ n. 64 * n) same))

pub fill-requires-clause-cleared : goal.fill-requires-clause-cleared
fill-requires-clause-cleared c = (
  (memory_here c.args.p.now c.args.s).text,
  long_is c.args.p.now c.args.s c.args.program.now.text_clicks c.requires.alive c.see_kept.ensures c.requires.text_size,
  ap (kept.image_of c.space-space.result.images.now.kept) c.space-space.ensures.slot
      ∙ (ap (λ (i : ImagesState). kept.image_of i.kept c.args.s) c.space-space.ensures.images
      ∙ (sym (image_here c.args.p.now c.args.s c.requires.alive c.see_kept.ensures) ∙ c.requires.cleared)),
)

pub returns-clause-board : goal.returns-clause-board
returns-clause-board c =
    loan_board c.args.p.now c.args.s c.requires.alive c.see_kept.ensures.slots (now c) (left c)

pub returns-clause-alive : goal.returns-clause-alive
returns-clause-alive c =
    loan_alive c.args.p.now c.args.s c.requires.alive c.see_kept.ensures.slots (now c) (left c)

use Rattle.std.proofs.Common.{◌≡◌, ◌∙◌, ◌+◌, ◌<◌, ◌≤◌, ◌==◌, ℕ, if◌then◌else◌, [], ◌∷◌, length, Result, count_by, slice_index, false, sym, ap, subst, arith}
use Rattle.u_area.specs.declared.area.UArea.{UArea}
use Rattle.proc_tab.specs.declared.row.Row.{Row}
use Rattle.fs_nodes.specs.FileSystem.{FileSystem}
use Rattle.fs_nodes.proofs.RestLemmas.{rest_then}
use Rattle.image_keep.specs.SharedTexts.{AreShared}
use Rattle.pick_rules.specs.Logged.{left_by}
use Rattle.v6_base.specs.Trace.{Taken, Took, Log}
use Rattle.v6_base.specs.declared.answer.Answer.{Answer}
use Rattle.v6_base.specs.declared.entry.Entry.TheVariants.{Bare}
use Rattle.v6_base.specs.declared.entry.PanicKind.{PanicKind}
use Rattle.seg_regs.specs.Sizes.{is_refused}
use Rattle.sys_procs.specs.declared.procs.Procs.{Procs}
use Rattle.sys_procs.specs.declared.program.Program.{Program}
use Rattle.sys_procs.specs.Process.{Process}
use Rattle.sys_procs.specs.TextTable.{is_text_of}
use Rattle.sys_procs.specs.World.{World, process_of, change, texts_in}
use Rattle.sys_procs.specs.Tests.{node_in}
use Rattle.sys_procs.specs.ExecFile.{data_clicks, bared, begins_anew, loads}
use Rattle.sys_procs.specs.inside.Tested.{IsTested}
use Rattle.sys_procs.specs.inside.Begun.{bare_board, leaves, row_in, area_in}
use Rattle.sys_procs.specs.Handed.{IsAlive, board, handed, process_here}
use Rattle.sys_procs.specs.Done.{HasDone, HasLeft}
use Rattle.sys_procs.proofs.Alive.{put_here}
use Rattle.sys_procs.proofs.Slots.{fifty_processes}
use Rattle.sys_procs.proofs.LeftWorld.{IsAfter, gone, is_after, text_there, leaves_free, loads_done}
use Rattle.sys_procs.proofs.exec.load.Goals as goal

-- The world when the text has been left, and the image has been given back.
module _ (p q r : Procs) (fs gs : FileSystem) (s : ℕ) (program : Program) (alive : IsAlive p s) (shared : AreShared p.images.kept)
    (referred : (i : ℕ) → count_by (is_text_of i) (texts_in p.images.kept) + (if i == program.ino then 1 else 0) ≤ slice_index
    fs.references i)
    {start middle : Taken} (left : HasLeft p q gs start middle (leaves (handed p fs) s))
    (bare : (hs : FileSystem) → handed r hs ≡ change (handed q hs) s bared) where
  abbrev w : World
  w = handed p fs

  abbrev l : World
  l = (leaves w s).state

  low : s < length w.processes
  low = let below = alive.below in omega (arith, below, fifty_processes p.rows.slots p.images.kept)

  facts : IsAfter w l s program.ino program.text_clicks
  facts = is_after w s program.ino program.text_clicks low referred (text_there p fs s alive shared)

  left_is : handed q gs ≡ l
  left_is = left.state ∙ ap (λ o. left_by o l) (leaves_free (board p) w s)

  gone_is : handed r gs ≡ gone w s program
  gone_is = bare gs ∙ ap (λ (x : World). change x s bared) left_is

  low_left : s < length l.processes
  low_left = let same = facts.long in omega (arith, low, same)

  row_is : (process_here p s).row ≡ (process_here r s).row
  row_is =
      sym (ap (λ (x : World). (process_of x s).row) gone_is
      ∙ (ap (λ (x : Process). x.row) (put_here l.processes s (bared (process_of l s)) low_left) ∙ facts.row))

  node_is : node_in gs.store program.ino ≡ node_in fs.store program.ino
  node_is = ap (λ (x : World). node_in x.inodes.store program.ino) left_is ∙ facts.node

  few : ((i : ℕ) → slice_index fs.references i ≤ 65530) → (i : ℕ) → slice_index gs.references i ≤ 65530
  few most i =
      let before = most i in
      let fewer = facts.fewer i in
      let same : slice_index gs.references i
      ≡ slice_index l.inodes.references i = ap (λ (x : World). slice_index x.inodes.references i) left_is in
      omega (arith, before, fewer, same)

  tested : IsTested w program → IsTested (handed r gs) program
  tested t =
      subst (λ (x : World). IsTested x program) (sym gone_is) (record {
        referenced = facts.referenced;
        sizes = subst (λ n. is_refused program.text_clicks (data_clicks program.plan) 20 n ≡ false) (sym facts.limit) t.sizes;
        init = t.init;
        shared = λ some. facts.sized (t.shared some);
      })

  -- The row and the u area that were made before are those that are made from what has been left.
  module _ (row before : Row) (u old : UArea) (old_is : old ≡ (process_here p s).u) (before_is : before ≡ (process_here p s).row)
      (made : row ≡ row_in (node_in fs.store program.ino) old.uid before)
      (area : u ≡ area_in (node_in fs.store program.ino) old program) where
    abbrev v : UArea
    v = (process_of l s).u

    row_then : row ≡ row_in (node_in gs.store program.ino) v.uid (process_here r s).row
    row_then =
        made
        ∙ (λ i. row_in (sym node_is i) ((ap (λ (x : UArea). x.uid) old_is ∙ sym facts.uid) i) ((before_is ∙ row_is) i))

    area_then : u ≡ area_in (node_in gs.store program.ino) v program
    area_then =
        area
        ∙ (λ i. area_in (sym node_is i) (old_is i) program)
        ∙ facts.area (node_in gs.store program.ino) program

    does : (z : Procs) (hs : FileSystem) {later end : Taken} {result : Result Answer PanicKind}
        → ((x : UArea) → row ≡ row_in (node_in gs.store program.ino) x.uid (process_here r s).row
        → u ≡ area_in (node_in gs.store program.ino) x program
        → HasDone r z hs result later end (begins_anew (handed r gs) s x program))
        → board r ≡ bare_board (board q) s → Took middle (Log (Bare s) ∷ []) later
        → HasDone p z hs result start end (loads w s program)
    does z hs {later} {end} {result} begun shown items =
        loads_done w s program {q = q} {r = r} left shown items
        (subst (λ (x : World). HasDone r z hs result later end (begins_anew x s v program)) gone_is (begun v row_then area_then))

pub begin_program-requires-clause-tested : goal.begin_program-requires-clause-tested
begin_program-requires-clause-tested g c =
    tested c.args.p.now c.leave_text.new.p c.leave_place.new.p c.args.tree.now.nodes c.leave_text.new.tree.nodes c.args.s
    c.args.program.now
    c.requires.alive c.see_texts.ensures.shared c.requires.referred c.leave_text.ensures.left c.leave_place.ensures.state
    c.requires.tested

pub begin_program-requires-clause-few : goal.begin_program-requires-clause-few
begin_program-requires-clause-few g c =
    few c.args.p.now c.leave_text.new.p c.leave_place.new.p c.args.tree.now.nodes c.leave_text.new.tree.nodes c.args.s
    c.args.program.now
    c.requires.alive c.see_texts.ensures.shared c.requires.referred c.leave_text.ensures.left c.leave_place.ensures.state
    c.requires.few

pub begin_program-requires-clause-pid : goal.begin_program-requires-clause-pid
begin_program-requires-clause-pid g c =
    ap (λ (row : Row). row.pid) (c.new_row-row.ensures)
    ∙ ap (λ (row : Row). row.pid) (c.row-row.ensures
    ∙ row_is c.args.p.now c.leave_text.new.p c.leave_place.new.p c.args.tree.now.nodes c.leave_text.new.tree.nodes c.args.s
    c.args.program.now
    c.requires.alive c.see_texts.ensures.shared c.requires.referred c.leave_text.ensures.left c.leave_place.ensures.state)

pub begin_program-requires-clause-ppid : goal.begin_program-requires-clause-ppid
begin_program-requires-clause-ppid g c =
    ap (λ (row : Row). row.ppid) (c.new_row-row.ensures)
    ∙ ap (λ (row : Row). row.ppid) (c.row-row.ensures
    ∙ row_is c.args.p.now c.leave_text.new.p c.leave_place.new.p c.args.tree.now.nodes c.leave_text.new.tree.nodes c.args.s
    c.args.program.now
    c.requires.alive c.see_texts.ensures.shared c.requires.referred c.leave_text.ensures.left c.leave_place.ensures.state)

pub returns-clause-does : goal.returns-clause-does
returns-clause-does g c =
    does c.args.p.now c.leave_text.new.p c.leave_place.new.p c.args.tree.now.nodes c.leave_text.new.tree.nodes c.args.s
    c.args.program.now
    c.requires.alive c.see_texts.ensures.shared c.requires.referred c.leave_text.ensures.left c.leave_place.ensures.state
    c.new_row-row.result c.row-row.result c.new_area-u.result c.area-u.result c.area-u.ensures c.row-row.ensures
    c.new_row-row.ensures
    c.new_area-u.ensures c.begin_program.new.p c.begin_program.new.tree.nodes c.begin_program.ensures.does
    c.leave_place.ensures.board
    c.leave_place.ensures.items

pub returns-clause-frame : goal.returns-clause-frame
returns-clause-frame g c =
    g.met.T.Trace.goes_on c.args.trace.now c.leave_text.new.trace c.begin_program.new.trace c.leave_text.ensures.frame
    (g.met.T.Trace.goes_on c.leave_text.new.trace c.leave_place.new.trace c.begin_program.new.trace c.leave_place.ensures.frame
    c.begin_program.ensures.frame)

pub returns-clause-blocks : goal.returns-clause-blocks
returns-clause-blocks g c =
    rest_then c.args.tree.now.nodes.blocks c.leave_text.new.tree.nodes.blocks c.begin_program.new.tree.nodes.blocks
    c.leave_text.ensures.blocks c.begin_program.ensures.blocks

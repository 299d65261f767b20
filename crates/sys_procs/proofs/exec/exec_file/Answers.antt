use Rattle.std.proofs.Common.{◌≡◌, ◌∙◌, ◌+◌, ◌<◌, ◌≤◌, ◌==◌, ℕ, if◌then◌else◌, List, set, get_or, count_by, slice_index, Ok, refl, sym, ap, subst, arith}
use Rattle.v6_base.specs.declared.answer.Answer.TheVariants.{Fail}
use Rattle.fs_nodes.specs.FileSystem.{FileSystem}
use Rattle.mount_tab.specs.Mounted.{MountTable}
use Rattle.sys_procs.specs.declared.procs.Procs.{Procs}
use Rattle.sys_procs.specs.declared.program.Program.{Program}
use Rattle.sys_procs.specs.World.{World, texts_in}
use Rattle.sys_procs.specs.TextTable.{is_text_of}
use Rattle.sys_procs.specs.Comes.{Comes}
use Rattle.sys_procs.specs.ExecFile.{loads, tests}
use Rattle.sys_procs.specs.Handed.{Calls, IsAlive, board, handed}
use Rattle.sys_procs.specs.Done.{HasDone}
use Rattle.sys_procs.proofs.Alive.{calls_alive}
use Rattle.sys_procs.proofs.Dones.{done_none, done_as}
use Rattle.sys_procs.proofs.LoadForms.{refused, loaded}
use Rattle.sys_procs.proofs.TestedSlots.{tests_refer, more_few, more_referred}
use Rattle.sys_procs.proofs.exec.exec_file.Goals as goal

-- The tests leave the processes as they were.
pub load-requires-clause-alive : goal.load-requires-clause-alive
load-requires-clause-alive g c =
    subst (λ (p : Procs). IsAlive p c.args.s) (sym c.test_program.ensures.procs)
    (calls_alive c.args.p.now c.args.tree.now.nodes c.args.s c.requires.calls)

-- The program that they let through is referred to once more, so that its own text, if it has one, isn't all that refers to it.
module _ (mounts : MountTable) (p q : Procs) (fs gs : FileSystem) (s name list : ℕ) (program : Program) (calls : Calls p fs s)
    (state : handed q gs ≡ (tests mounts (handed p fs) s name list).world)
    (answer : Ok program ≡ (tests mounts (handed p fs) s name list).answer)
    (some : 0 < slice_index gs.references program.ino) where
  abbrev more : List ℕ
  more = set fs.references program.ino (slice_index fs.references program.ino + 1)

  is : gs.references ≡ more
  is = ap (λ (w : World). w.inodes.references) state ∙ tests_refer mounts (handed p fs) s name list program (sym answer)

  some_more : 0 < slice_index more program.ino
  some_more = subst (λ l. 0 < slice_index l program.ino) is some

  few : (i : ℕ) → slice_index gs.references i ≤ 65530
  few i =
      let most = more_few fs.references program.ino 65500 some_more calls.few i in
      let same = ap (λ l. slice_index l i) is in
      omega (arith, most, same)

  referred : (i : ℕ) → count_by (is_text_of i) (texts_in p.images.kept) + (if i == program.ino then 1 else 0) ≤ slice_index
      gs.references i
  referred =
      subst (λ l. (i : ℕ) → count_by (is_text_of i) (texts_in p.images.kept) + (if i == program.ino then 1 else 0) ≤ slice_index l i)
      (sym is)
      (more_referred fs.references program.ino (λ i. count_by (is_text_of i) (texts_in p.images.kept)) some_more
      (λ i. let most = calls.referred i in omega (arith, most)))

pub load-requires-clause-few : goal.load-requires-clause-few
load-requires-clause-few g c =
    few c.args.tree.now.mounts c.args.p.now c.test_program.new.p c.args.tree.now.nodes c.test_program.new.tree.nodes c.args.s
    (get_or c.args.args 0 0)
    (get_or c.args.args 1 0)
    c.in-Ok.program c.requires.calls c.test_program.ensures.state c.in-Ok.ensures.answer c.in-Ok.ensures.tested.referenced

pub load-requires-clause-referred : goal.load-requires-clause-referred
load-requires-clause-referred g c =
    subst (λ (p : Procs). (i : ℕ) → count_by (is_text_of i) (texts_in p.images.kept) + (if i == c.in-Ok.program.ino then 1 else 0)
    ≤ slice_index c.test_program.new.tree.nodes.references i) (sym c.test_program.ensures.procs)
    (referred c.args.tree.now.mounts c.args.p.now c.test_program.new.p c.args.tree.now.nodes c.test_program.new.tree.nodes
    c.args.s
    (get_or c.args.args 0 0)
    (get_or c.args.args 1 0) c.in-Ok.program c.requires.calls c.test_program.ensures.state c.in-Ok.ensures.answer
    c.in-Ok.ensures.tested.referenced)

-- They let the call through.
pub returns-in-Ok-clause-does : goal.returns-in-Ok-clause-does
returns-in-Ok-clause-does g c =
    let w : World = handed c.args.p.now c.args.tree.now.nodes in
    let P : Procs → Comes → Type 0 = λ q x. HasDone q c.load.new.p c.load.new.tree.nodes c.load.result
    (g.T.Trace.taken c.args.trace.now) (g.T.Trace.taken c.load.new.trace) x in
    done_as
    (ap (λ (v : World). loads v c.args.s c.in-Ok.program) c.test_program.ensures.state
    ∙ loaded c.args.tree.now.mounts w c.args.s (get_or c.args.args 0 0) (get_or c.args.args 1 0) c.in-Ok.program
    c.in-Ok.ensures.answer)
    (subst (λ (q : Procs). P q (loads (handed c.test_program.new.p c.test_program.new.tree.nodes) c.args.s c.in-Ok.program))
    c.test_program.ensures.procs c.load.ensures.does)

-- They refuse it.
pub returns-in-Err-clause-does : goal.returns-in-Err-clause-does
returns-in-Err-clause-does g c =
    let w : World = handed c.args.p.now c.args.tree.now.nodes in
    done_none _ (Fail c.in-Err.e)
    (refused c.args.tree.now.mounts w c.args.s (get_or c.args.args 0 0) (get_or c.args.args 1 0) c.in-Err.e
    c.in-Err.ensures.answer)
    refl c.test_program.ensures.state (ap (λ (p : Procs). board p) c.test_program.ensures.procs)

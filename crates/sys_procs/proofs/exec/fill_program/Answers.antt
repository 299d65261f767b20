use Rattle.std.proofs.Common.{◌≡◌, ◌∙◌, ◌<◌, ℕ, Bool, is_some, sym, ap, arith}
use Rattle.v6_base.specs.Image.{Image}
use Rattle.fs_nodes.proofs.RestLemmas.{rest_then}
use Rattle.fs_nodes.specs.FileSystem.{FileSystem}
use Rattle.fs_tree.specs.Finding.{Inodes}
use Rattle.u_area.specs.declared.area.UArea.{UArea}
use Rattle.proc_tab.specs.declared.row.Row.{Row}
use Rattle.sys_procs.specs.declared.procs.Procs.{Procs}
use Rattle.sys_procs.specs.declared.program.Program.{Program}
use Rattle.sys_procs.specs.Process.{Process}
use Rattle.sys_procs.specs.TextTable.{text_bytes, marks_of}
use Rattle.sys_procs.specs.World.{World, process_of, texts_in, with_process}
use Rattle.sys_procs.specs.ExecFile.{data_read, reads_text}
use Rattle.sys_procs.specs.inside.Begun.{fills, filled, begins_in}
use Rattle.sys_procs.specs.Handed.{handed, process_here}
use Rattle.sys_procs.proofs.Alive.{put_here}
use Rattle.sys_procs.proofs.Slots.{fifty_processes}
use Rattle.sys_procs.proofs.LoadForms.{there_still}
use Rattle.sys_procs.proofs.exec.fill_program.Goals as goal

-- After its text is read the process is as it was; and then it is filled, and its row and its u area stay.
module _ (p q : Procs) (fs gs : FileSystem) (s : ℕ) (program : Program) (b : Bool)
    (read : handed q gs ≡ reads_text b (handed p fs) s program) where
  here : process_here q s ≡ process_here p s
  here = ap (λ (w : World). process_of w s) read ∙ there_still (handed p fs) s program b

  module _ (r : Procs) (hs : FileSystem) (low : s < 50) (is : handed r hs ≡ fills (handed q gs) s program) where
    abbrev memory : Image
    memory = (data_read (handed q gs) s program).memory

    filled_here : process_here r s ≡ filled program memory (process_here p s)
    filled_here =
        ap (λ (w : World). process_of w s) is
        ∙ (put_here (handed q gs).processes s (filled program memory (process_here q s))
        (omega (arith, low, fifty_processes q.rows.slots q.images.kept))
        ∙ ap (λ (x : Process). filled program memory x) here)

    row_is : (process_here p s).row ≡ (process_here r s).row
    row_is = sym (ap (λ (x : Process). x.row) filled_here)

    area_is : (process_here p s).u ≡ (process_here r s).u
    area_is = sym (ap (λ (x : Process). x.u) filled_here)

pub fill_image-requires-clause-cleared : goal.fill_image-requires-clause-cleared
fill_image-requires-clause-cleared c =
    let same = here c.args.p.now c.fill_text.new.p c.args.tree.now.nodes c.fill_text.new.tree.nodes c.args.s c.args.program.now
    (is_some c.args.new) c.fill_text.ensures.state in
    λ i. record {
      text = text_bytes (texts_in c.fill_text.new.p.images.kept) (process_here c.fill_text.new.p c.args.s).text;
      «data» = (ap (λ (q : Process). q.data) same ∙ c.requires.zeros) i;
      stack = (ap (λ (q : Process). q.stack) same ∙ c.requires.stack) i;
    }

pub begin-requires-clause-pid : goal.begin-requires-clause-pid
begin-requires-clause-pid c =
    c.requires.pid ∙ ap (λ (row : Row). row.pid)
    (row_is c.args.p.now c.fill_text.new.p c.args.tree.now.nodes c.fill_text.new.tree.nodes c.args.s c.args.program.now
    (is_some c.args.new)
    c.fill_text.ensures.state c.fill_image.new.p c.fill_image.new.tree.nodes c.requires.alive.below c.fill_image.ensures.state)

pub begin-requires-clause-ppid : goal.begin-requires-clause-ppid
begin-requires-clause-ppid c =
    c.requires.ppid ∙ ap (λ (row : Row). row.ppid)
    (row_is c.args.p.now c.fill_text.new.p c.args.tree.now.nodes c.fill_text.new.tree.nodes c.args.s c.args.program.now
    (is_some c.args.new)
    c.fill_text.ensures.state c.fill_image.new.p c.fill_image.new.tree.nodes c.requires.alive.below c.fill_image.ensures.state)

pub begin-requires-clause-text : goal.begin-requires-clause-text
begin-requires-clause-text c =
    c.requires.text_size ∙ ap (λ (u : UArea). u.text_size)
    (area_is c.args.p.now c.fill_text.new.p c.args.tree.now.nodes c.fill_text.new.tree.nodes c.args.s c.args.program.now
    (is_some c.args.new)
    c.fill_text.ensures.state c.fill_image.new.p c.fill_image.new.tree.nodes c.requires.alive.below c.fill_image.ensures.state)

pub begin-requires-clause-data_size : goal.begin-requires-clause-data_size
begin-requires-clause-data_size c =
    c.requires.data_size ∙ ap (λ (u : UArea). u.data_size)
    (area_is c.args.p.now c.fill_text.new.p c.args.tree.now.nodes c.fill_text.new.tree.nodes c.args.s c.args.program.now
    (is_some c.args.new)
    c.fill_text.ensures.state c.fill_image.new.p c.fill_image.new.tree.nodes c.requires.alive.below c.fill_image.ensures.state)

pub begin-requires-clause-stack_size : goal.begin-requires-clause-stack_size
begin-requires-clause-stack_size c =
    c.requires.stack_size ∙ ap (λ (u : UArea). u.stack_size)
    (area_is c.args.p.now c.fill_text.new.p c.args.tree.now.nodes c.fill_text.new.tree.nodes c.args.s c.args.program.now
    (is_some c.args.new)
    c.fill_text.ensures.state c.fill_image.new.p c.fill_image.new.tree.nodes c.requires.alive.below c.fill_image.ensures.state)

pub returns-clause-state : goal.returns-clause-state
returns-clause-state c =
    let p : Procs = c.fill_image.new.p in
    let fs : FileSystem = c.fill_image.new.tree.nodes in
    let last : World = with_process (handed p fs) c.args.s
    (record (process_here p c.args.s) { row = c.args.row; u = c.args.u.now }) in
    c.begin.ensures.state c.let_go.new.nodes
    ∙ (ap (λ (n : Inodes). record last { inodes = n }) c.let_go.ensures.inodes
    ∙ ap (λ (w : World). begins_in w c.args.s c.args.program.now.ino c.args.row c.args.u.now)
    (c.fill_image.ensures.state ∙ ap (λ (w : World). fills w c.args.s c.args.program.now) c.fill_text.ensures.state))

pub returns-clause-marked : goal.returns-clause-marked
returns-clause-marked c =
    ap (λ (w : World). marks_of w.texts) (c.begin.ensures.state c.fill_image.new.tree.nodes)
    ∙ (ap (λ (w : World). marks_of w.texts) c.fill_image.ensures.state ∙ c.fill_text.ensures.marked)

pub returns-clause-blocks : goal.returns-clause-blocks
returns-clause-blocks c =
    rest_then c.args.tree.now.nodes.blocks c.fill_text.new.tree.nodes.blocks c.let_go.new.nodes.blocks c.fill_text.ensures.blocks
    (rest_then c.fill_text.new.tree.nodes.blocks c.fill_image.new.tree.nodes.blocks c.let_go.new.nodes.blocks
    c.fill_image.ensures.blocks c.let_go.ensures.rest)

use Rattle.std.proofs.Common.{◌≡◌, ◌∙◌, ◌<◌, ◌≤◌, ◌∷◌, ℕ, List, map, replicate, Option, sym, ap, subst, slice_index}
use Rattle.std.specs.Prelude.{count_by}
use Rattle.u_area.specs.declared.area.UArea.{UArea}
use Rattle.u_area.specs.Fields.{with_end}
use Rattle.fs_tree.specs.Finding.{Inodes, put_back}
use Rattle.image_keep.specs.Kept.{Kept, Shared}
use Rattle.image_keep.proofs.Frames.{with_area_texts}
use Rattle.sys_procs.specs.Process.{Process}
use Rattle.sys_procs.specs.TextTable.{is_text_of}
use Rattle.sys_procs.specs.World.{World, with_process, text_in}
use Rattle.sys_procs.specs.Handed.{handed, process_here}
use Rattle.sys_procs.proofs.Referred.{dir_referred, left_referred}
use Rattle.sys_procs.proofs.exit.leave.Goals as goal

pub let_go-requires : goal.let_go-requires
let_go-requires c =
    let dir : c.directory-dir.result ≡ (process_here c.args.p.now c.args.s).u.dir = c.directory-dir.ensures ∙ ap (λ (u : UArea). u.dir) c.area_bytes.ensures.read in
    record {
      referenced = subst (λ d. 0 < slice_index c.args.tree.now.nodes.references d) (sym dir)
          (dir_referred c.args.p.now c.args.tree.now.nodes c.args.s c.requires);
    }

pub returns-clause-texts : goal.returns-clause-texts
returns-clause-texts c = ap (λ (k : Kept). k.texts) c.put_end.ensures.images ∙ (with_area_texts c.args.p.now.images.kept c.args.s _).texts

pub returns-clause-referred : goal.returns-clause-referred
returns-clause-referred c = λ ino.
    let dir : c.directory-dir.result ≡ (process_here c.args.p.now c.args.s).u.dir = c.directory-dir.ensures ∙ ap (λ (u : UArea). u.dir) c.area_bytes.ensures.read in
    let n : List (Option Shared) → ℕ = λ texts. count_by (is_text_of ino) (map text_in texts) in
    subst (λ m. m ≤ slice_index c.let_go.new.nodes.references ino) (sym (ap n (returns-clause-texts c)))
    (subst (λ (v : Inodes). n c.args.p.now.images.kept.texts ≤ slice_index v.references ino) (sym c.let_go.ensures.inodes)
    (left_referred c.args.p.now c.args.tree.now.nodes c.args.s c.requires c.directory-dir.result dir ino))

pub returns-clause-state : goal.returns-clause-state
returns-clause-state c =
    let w : World = handed c.args.p.now c.args.tree.now.nodes in
    let own : Process = process_here c.args.p.now c.args.s in
    let dir : c.directory-dir.result ≡ (process_here c.args.p.now c.args.s).u.dir = c.directory-dir.ensures ∙ ap (λ (u : UArea). u.dir) c.area_bytes.ensures.read in
    c.put_end.ensures.state c.let_go.new.nodes
    ∙ ap (λ (n : Inodes). with_process (record w { inodes = n }) c.args.s (record own { u = with_end own.u c.args.status (0 ∷ replicate 19 1) }))
    (c.let_go.ensures.inodes ∙ ap (put_back w.inodes) dir)

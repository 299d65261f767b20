use Rattle.std.proofs.Common.{◌≡◌, ◌∙◌, ℕ, List, Option, refl, sym, ap, subst, arith}
use Rattle.v6_base.specs.declared.answer.Answer.{Answer}
use Rattle.fs_nodes.specs.FileSystem.{SameAroundEach}
use Rattle.image_keep.specs.Kept.{area_of}
use Rattle.open_files.specs.declared.file.OpenFile.{OpenFile}
use Rattle.open_files.specs.Files.{AreOpen, HaveRoom}
use Rattle.u_area.specs.declared.area.UArea.{UArea}
use Rattle.u_area.specs.Area.{fetched}
use Rattle.unix_core.specs.declared.world.World.{World}
use Rattle.fs_tree.specs.declared.tree.Tree.{Tree}
use Rattle.sys_procs.specs.declared.procs.Procs.{Procs}
use Rattle.abstract_unix.specs.Unix.{process_of}
use Rattle.abstract_unix.specs.Calls.{shares}
use Rattle.unix_core.specs.Parts.{unix_of, IsReady}
use Rattle.abstract_unix.specs.Whole.{told_in}
use Rattle.abstract_unix.proofs.Owing.{names_open, few_numbers}
use Rattle.unix_core.proofs.GoodLemmas.{fifty_told}
use Rattle.unix_core.proofs.WorldLemmas.{told_here}
use Rattle.unix_core.proofs.AreaLemmas.{own_area}
use Rattle.unix_core.proofs.CameLemmas.{ready_calls, after, beside, over_then}
use Rattle.unix_core.proofs.ForkLemmas.{fork_took, fork_stops, fork_cut, fork_ready, fork_come}
use Rattle.unix_core.proofs.process.fork.Goals as goal

-- no file has so many numbers that fifteen more can't be counted
room_for : (w : World) (s : ℕ) → IsReady w s → HaveRoom w.files.table
room_for w s ready entry file is =
    let few = few_numbers w.files.tree.nodes.references w.files.table w.files.pipes (unix_of w).texts (told_in (unix_of w).processes) ready.good.owed (fifty_told w) entry file is in
    omega (arith, few)

pub area_bytes-requires : goal.area_bytes-requires
area_bytes-requires g c = c.requires.ready.good.running c.args.s c.requires.ready.runs c.requires.ready.user

pub fork_one-requires : goal.fork_one-requires
fork_one-requires g c = ready_calls c.args.world.now c.args.s c.requires.ready c.see_table.ensures c.see_kept.ensures

pub share_files-requires-clause-open : goal.share_files-requires-clause-open
share_files-requires-clause-open g c =
    let w : World = c.args.world.now in
    subst (λ (mine : List ℕ). AreOpen w.files.table mine) (sym (c.files-numbers.ensures ∙ ap (λ (u : UArea). u.files) (c.area_bytes.ensures.read ∙ own_area w c.args.s c.requires.ready)))
    (names_open w.files.tree.nodes.references w.files.table w.files.pipes (unix_of w).texts (told_in (unix_of w).processes) c.requires.ready.good.owed c.args.s _ (told_here w c.args.s c.requires.ready))

pub share_files-requires-clause-few : goal.share_files-requires-clause-few
share_files-requires-clause-few g c = room_for c.args.world.now c.args.s c.requires.ready

-- the world before the answer is concluded
abbrev shared : World → Tree → List (Option OpenFile) → Procs → World
shared w tree table procs = record w { files = record w.files { tree = tree; table = table }; procs = procs }

its_table : (w : World) (s : ℕ) (u : UArea) (numbers : List ℕ) (table : List (Option OpenFile)) (answer : Answer) → IsReady w s → u ≡ area_of w.procs.images.kept s → numbers ≡ u.files
    → table ≡ shares w.files.table numbers answer → table ≡ shares w.files.table (process_of (unix_of w) s).u.files answer
its_table w s u numbers table answer ready area read is =
    is ∙ (ap (λ (l : List ℕ). shares w.files.table l answer) read ∙ ap (λ (v : UArea). shares w.files.table v.files answer) (area ∙ own_area w s ready))

pub conclude-requires : goal.conclude-requires
conclude-requires g c =
    let w : World = c.args.world.now in
    let e = c.fork_one.ensures in
    fork_ready w (after w c.fork_one.new.tree c.fork_one.new.p) c.args.s c.requires.ready c.see.ensures
    (beside w c.fork_one.new.tree c.fork_one.new.p c.fork_one.ensures.mounts) e.does
    c.in-Ok.answer c.in-Ok.is (shared w c.fork_one.new.tree c.share_files.new.table c.fork_one.new.p) refl refl
    (its_table w c.args.s (fetched c.area_bytes.result.now) c.files-numbers.result _ c.in-Ok.answer c.requires.ready c.area_bytes.ensures.read c.files-numbers.ensures c.share_files.ensures) refl refl refl refl refl
    e.agree c.requires.user e.marks

pub returns-in-Ok-clause-come : goal.returns-in-Ok-clause-come
returns-in-Ok-clause-come g c =
    let w : World = c.args.world.now in
    let e = c.fork_one.ensures in
    fork_come w (after w c.fork_one.new.tree c.fork_one.new.p) c.args.s c.requires.ready c.see.ensures
    (beside w c.fork_one.new.tree c.fork_one.new.p c.fork_one.ensures.mounts) e.does
    c.in-Ok.answer c.in-Ok.is (shared w c.fork_one.new.tree c.share_files.new.table c.fork_one.new.p) refl refl
    (its_table w c.args.s (fetched c.area_bytes.result.now) c.files-numbers.result _ c.in-Ok.answer c.requires.ready c.area_bytes.ensures.read c.files-numbers.ensures c.share_files.ensures) refl refl refl refl refl
    e.agree
    c.conclude.result c.conclude.new.world c.conclude.ensures.come

pub returns-in-Ok-clause-items : goal.returns-in-Ok-clause-items
returns-in-Ok-clause-items g c =
    let w : World = c.args.world.now in
    let e = c.fork_one.ensures in
    fork_took w (after w c.fork_one.new.tree c.fork_one.new.p) c.args.s c.requires.ready c.see.ensures
    (beside w c.fork_one.new.tree c.fork_one.new.p c.fork_one.ensures.mounts) e.does
    c.in-Ok.answer c.in-Ok.is (shared w c.fork_one.new.tree c.share_files.new.table c.fork_one.new.p) refl refl
    (its_table w c.args.s (fetched c.area_bytes.result.now) c.files-numbers.result _ c.in-Ok.answer c.requires.ready c.area_bytes.ensures.read c.files-numbers.ensures c.share_files.ensures) refl refl refl refl refl
    e.agree _ c.conclude.ensures.items

pub returns-in-Ok-clause-covered : goal.returns-in-Ok-clause-covered
returns-in-Ok-clause-covered g c ends = absurd (let never = sym c.conclude.ensures.goes ∙ ends in cc never)

pub returns-in-Ok-clause-frame : goal.returns-in-Ok-clause-frame
returns-in-Ok-clause-frame g c = g.met.T.Trace.goes_on _ _ _ c.fork_one.ensures.frame c.conclude.ensures.frame

pub returns-in-Ok-clause-rest : goal.returns-in-Ok-clause-rest
returns-in-Ok-clause-rest g c =
    subst (λ b. SameAroundEach c.args.world.now.files.tree.nodes.blocks b) (sym c.conclude.ensures.blocks) c.fork_one.ensures.blocks

pub returns-in-Err-clause-come : goal.returns-in-Err-clause-come
returns-in-Err-clause-come g c =
    let w : World = c.args.world.now in
    let e = c.fork_one.ensures in
    fork_stops w (after w c.fork_one.new.tree c.fork_one.new.p) c.args.s c.requires.ready c.see.ensures
    (beside w c.fork_one.new.tree c.fork_one.new.p c.fork_one.ensures.mounts) e.does c.in-Err.kind c.in-Err.is

pub returns-in-Err-clause-ready : goal.returns-in-Err-clause-ready
returns-in-Err-clause-ready g c goes = over_then c.in-Err.kind goes

pub returns-in-Err-clause-items : goal.returns-in-Err-clause-items
returns-in-Err-clause-items g c =
    let w : World = c.args.world.now in
    let e = c.fork_one.ensures in
    fork_cut w (after w c.fork_one.new.tree c.fork_one.new.p) c.args.s c.requires.ready c.see.ensures
    (beside w c.fork_one.new.tree c.fork_one.new.p c.fork_one.ensures.mounts) e.does c.in-Err.kind c.in-Err.is

pub see_covered-requires : goal.see_covered-requires
see_covered-requires g c = c.fork_one.ensures.agree

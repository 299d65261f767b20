use Rattle.std.proofs.Common.{◌≡◌, ◌∙◌, [], ◌∷◌, Some, None, refl, ap}
use Rattle.std.specs.Option.{unwrap_or}
use Rattle.v6_base.specs.Trace.{Log}
use Rattle.v6_base.specs.declared.entry.Chan.TheVariants.{Wait}
use Rattle.v6_base.specs.declared.entry.Entry.TheVariants as line
use Rattle.v6_base.specs.declared.entry.PanicKind.TheVariants as panic
use Rattle.fs_nodes.specs.FileSystem.{FileSystem}
use Rattle.pick_rules.specs.Apply.{applied}
use Rattle.image_keep.specs.Kept.{area_of}
use Rattle.image_keep.specs.Places.{with_grave_at}
use Rattle.sys_procs.specs.declared.procs.Procs.{Procs}
use Rattle.sys_procs.specs.Exit.{dies, slot_of}
use Rattle.sys_procs.specs.Handed.{came, board, handed, process_here}
use Rattle.sys_procs.proofs.SameKept.{same_images, same_handed, same_board}
use Rattle.sys_procs.proofs.Dones.{ended_logged}
use Rattle.sys_procs.proofs.Ends.{DidEnd, end_state, end_board, end_agree, parent_is, logged_end, logged_no_end}
use Rattle.sys_procs.proofs.exit.die.Given as given
use Rattle.sys_procs.proofs.exit.die.Goals as goal

pub end-requires-clause-no_text : goal.end-requires-clause-no_text
end-requires-clause-no_text g c = c.requires.no_text

did : (g : given.Over) (c : goal.After-end_row g) → DidEnd c.args.p.now c.end_row.new.p c.args.s c.in-Ok.block c.slot_of-parent.result
did g c = record {
  table = c.end_row.ensures.table;
  rows = c.end_row.ensures.rows;
  images = c.end_row.ensures.images
      ∙ (c.end.ensures.kept ∙ ap (with_grave_at c.args.p.now.images.kept c.args.s (area_of c.args.p.now.images.kept c.args.s)) c.in-Ok.ensures.block);
  switches = c.end_row.ensures.switches;
}

found : (g : given.Over) (c : goal.After-end_row g) (fs : FileSystem)
    → c.slot_of-parent.result ≡ slot_of (handed c.args.p.now fs) (process_here c.args.p.now c.args.s).row.ppid
found g c fs = parent_is c.args.p.now c.args.s c.slot_of-parent.result c.row-row.result fs c.see.ensures.rows.long c.row-row.ensures c.slot_of-parent.ensures

ends : (g : given.Over) (c : goal.After-end_row g) (fs : FileSystem) → came c.args.p.now (dies (handed c.args.p.now fs) c.args.s) ≡ record {
  items = Log (line.Exit c.args.s c.in-Ok.block) ∷ Log (line.Wake (Wait 1)) ∷ Log (line.Wake (Wait (unwrap_or c.slot_of-parent.result 1))) ∷ [];
  board = applied (applied (applied (board c.args.p.now) (line.Exit c.args.s c.in-Ok.block)) (line.Wake (Wait 1))) (line.Wake (Wait (unwrap_or c.slot_of-parent.result 1)));
  stop = None;
}
ends g c fs =
    logged_end c.args.p.now c.args.s c.slot_of-parent.result fs c.requires.alive.agree c.see.ensures.images.slots
    (found g c fs) c.in-Ok.block c.in-Ok.ensures.block

pub returns-in-Ok-clause-does : goal.returns-in-Ok-clause-does
returns-in-Ok-clause-does g c = λ fs.
    let p : Procs = c.args.p.now in
    let parent = c.slot_of-parent.result in
    ended_logged (ends g c fs) refl
    (end_state p c.end_row.new.p c.args.s c.in-Ok.block parent c.requires.alive c.see.ensures.rows.long c.see.ensures.images.slots (did g c) fs (found g c fs))
    (end_board p c.end_row.new.p c.args.s c.in-Ok.block parent c.requires.alive c.see.ensures.rows.long c.see.ensures.images.slots (did g c))
    c.end_row.ensures.items

pub returns-in-Ok-clause-agree : goal.returns-in-Ok-clause-agree
returns-in-Ok-clause-agree g c =
    end_agree c.args.p.now c.end_row.new.p c.args.s c.in-Ok.block c.slot_of-parent.result c.requires.alive c.see.ensures.rows.long c.see.ensures.images.slots (did g c) c.requires.no_text

-- No block is left.
no_end : (g : given.Over) (c : goal.After-entry g) (fs : FileSystem) → came c.args.p.now (dies (handed c.args.p.now fs) c.args.s) ≡ record {
  items = Log (line.Panic panic.Zombie) ∷ [];
  board = board c.args.p.now;
  stop = Some (record { why = panic.Zombie; before = handed c.args.p.now fs });
}
no_end g c fs =
    logged_no_end c.args.p.now c.args.s c.slot_of-parent.result fs c.requires.alive.agree c.see.ensures.images.slots
    (parent_is c.args.p.now c.args.s c.slot_of-parent.result c.row-row.result fs c.see.ensures.rows.long c.row-row.ensures c.slot_of-parent.ensures)
    c.in-Err.ensures.block

images_stay : (g : given.Over) (c : goal.After-entry g) → c.end.new.self.kept ≡ c.args.p.now.images.kept
images_stay g c = c.end.ensures.kept ∙ ap (with_grave_at c.args.p.now.images.kept c.args.s (area_of c.args.p.now.images.kept c.args.s)) c.in-Err.ensures.block

pub returns-in-Err-clause-does : goal.returns-in-Err-clause-does
returns-in-Err-clause-does g c = λ fs.
    ended_logged (no_end g c fs) refl
    (same_handed (same_images {p = c.args.p.now} {i = c.end.new.self} (images_stay g c)) fs)
    (same_board (same_images {p = c.args.p.now} {i = c.end.new.self} (images_stay g c)))
    c.entry.ensures.took

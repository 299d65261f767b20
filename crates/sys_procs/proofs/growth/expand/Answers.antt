use Rattle.std.proofs.Common.{◌≡◌, ◌∙◌, ◌+◌, ◌≤◌, [], ◌∷◌, Option, Some, None, ℕ, refl, sym, ap, subst}
use Rattle.v6_base.specs.Trace.{Took, Log}
use Rattle.v6_base.specs.Image.{nseg}
use Rattle.v6_base.specs.declared.entry.Entry.{Entry}
use Rattle.v6_base.specs.declared.entry.Place.{Place}
use Rattle.u_area.specs.declared.area.UArea.{UArea}
use Rattle.pick_rules.specs.declared.table.Table.{Table}
use Rattle.pick_rules.specs.Table.{IsTable}
use Rattle.image_keep.specs.Kept.{Alive, Kept, area_of, image_of, place_of, text_of}
use Rattle.image_keep.specs.State.{ImagesState}
use Rattle.image_keep.specs.Growth.{most_clicks, area_resized, image_resized}
use Rattle.image_keep.specs.Moves.{with_image_moved}
use Rattle.sys_procs.specs.declared.procs.Procs.{Procs}
use Rattle.sys_procs.specs.Handed.{process_here}
use Rattle.sys_procs.proofs.SameKept.{SameKept, same_images, same_handed, same_board, same_alive}
use Rattle.sys_procs.proofs.Alive.{area_here}
use Rattle.sys_procs.proofs.LoadData.{few_segments}
use Rattle.sys_procs.proofs.Dones.{ended_logged}
use Rattle.sys_procs.proofs.GrownTexts.{slot_moved}
use Rattle.sys_procs.proofs.GrowLemmas.{grown, resized, log_stopped, log_sized, grown_alive, grown_state}
use Rattle.sys_procs.proofs.growth.expand.Goals as goal

pub resize-requires-clause-segments : goal.resize-requires-clause-segments
resize-requires-clause-segments g c =
    let p : Procs = c.args.p.now in
    subst (λ (u : UArea). nseg u.text_size + nseg c.args.d + nseg c.args.stack ≤ 8) (sym (area_here p c.args.s c.requires.alive))
    (few_segments (process_here p c.args.s).u.text_size c.args.d c.args.stack (most_clicks p.images.kept) c.requires.sizes)

-- It finds a place.
now : (p : Procs) (s d stack : ℕ) (place : Place) (o : Option Place) (t : Table) (i : ImagesState) → o ≡ Some place
    → i.kept ≡ with_image_moved p.images.kept s (area_resized (area_of p.images.kept s) d stack) (image_resized (image_of p.images.kept s) d stack) o
    → t ≡ (resized p s d stack place).table → SameKept (record p { table = t; images = i }) (resized p s d stack place)
now p s d stack place o t i found images table = record {
  rows = refl;
  table = table;
  kept = images ∙ ap (λ (q : Option Place). with_image_moved p.images.kept s (area_resized (area_of p.images.kept s) d stack)
      (image_resized (image_of p.images.kept s) d stack) q) found
      ∙ slot_moved p.images.kept (text_of p.images.kept s) (place_of p.images.kept s) place s (Alive (grown p.images.kept s d stack place));
  switches = refl;
}

pub returns-in-Ok-clause-does : goal.returns-in-Ok-clause-does
returns-in-Ok-clause-does g c = λ fs.
    let p : Procs = c.args.p.now in
    let is = now p c.args.s c.args.d c.args.stack c.in-Ok.place _ c.put_size-line.new.table c.resize.new.self
    c.in-Ok.ensures.place c.resize.ensures.kept c.put_size-line.ensures.table in
    ended_logged (log_sized p c.args.s c.requires.alive c.see.ensures.images.slots c.args.d c.args.stack c.in-Ok.place fs
    c.in-Ok.ensures.place) refl
    (same_handed is fs
    ∙ grown_state p c.args.s c.requires.alive c.see.ensures.images.slots c.args.d c.args.stack c.in-Ok.place fs)
    (same_board is)
    (subst (λ (e : Entry). Took (g.T.Trace.taken c.args.trace.now) (Log e ∷ []) (g.T.Trace.taken c.entry.new.self))
    c.put_size-line.ensures.line c.entry.ensures.took)

pub returns-in-Ok-clause-agree : goal.returns-in-Ok-clause-agree
returns-in-Ok-clause-agree g c =
    let p : Procs = c.args.p.now in
    (same_alive (now p c.args.s c.args.d c.args.stack c.in-Ok.place _ c.put_size-line.new.table c.resize.new.self
    c.in-Ok.ensures.place c.resize.ensures.kept c.put_size-line.ensures.table)
    (grown_alive p c.args.s c.requires.alive c.see.ensures.images.slots c.args.d c.args.stack c.in-Ok.place
    c.in-Ok.ensures.place
    (subst (λ (t : Table). IsTable t) c.put_size-line.ensures.table c.put_size-line.ensures.good))).agree

-- There is none: nothing changes.
stays : (p : Procs) (s d stack : ℕ) (o : Option Place) (k : Kept) → o ≡ None
    → k ≡ with_image_moved p.images.kept s (area_resized (area_of p.images.kept s) d stack) (image_resized (image_of p.images.kept s) d stack) o
    → k ≡ p.images.kept
stays p s d stack o k none images =
    images ∙ ap (λ (q : Option Place). with_image_moved p.images.kept s (area_resized (area_of p.images.kept s) d stack)
    (image_resized (image_of p.images.kept s) d stack) q) none

pub returns-in-Err-clause-does : goal.returns-in-Err-clause-does
returns-in-Err-clause-does g c = λ fs.
    let p : Procs = c.args.p.now in
    let is : SameKept (record p { images = c.resize.new.self }) p =
    same_images (stays p c.args.s c.args.d c.args.stack _ c.resize.new.self.kept c.in-Err.ensures.place c.resize.ensures.kept) in
    ended_logged (log_stopped p c.args.s c.requires.alive c.see.ensures.images.slots c.args.d c.args.stack fs c.in-Err.ensures.place)
    refl (same_handed is fs) (same_board is)
    c.entry-in-Err.ensures.took

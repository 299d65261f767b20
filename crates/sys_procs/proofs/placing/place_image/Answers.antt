use Rattle.std.proofs.Common.{◌∙◌, ℕ, List, ap, subst}
use Rattle.pick_rules.specs.declared.table.Table.{Table}
use Rattle.pick_rules.specs.Table.{row_at, IsTable}
use Rattle.image_keep.specs.Kept.{Kept, IsKept, shared, image_of, text_bytes}
use Rattle.image_keep.specs.Places.{made_image}
use Rattle.sys_procs.specs.declared.procs.Procs.{Procs}
use Rattle.sys_procs.specs.inside.Handed.{IsBare}
use Rattle.sys_procs.proofs.SameKept.{SameKept, same_alive}
use Rattle.sys_procs.proofs.PlacingLemmas.{now, it_is, has_placed, unplaced, made_now, time_stays, out_stays, is_alive}
use Rattle.sys_procs.proofs.placing.place_image.Given as given
use Rattle.sys_procs.proofs.placing.place_image.Goals as goal

module _ (g : given.Over) (c : goal.After-entry g) where
  abbrev bare : IsBare c.args.p.now c.args.s
  bare = c.requires.bare

  abbrev all : IsKept c.args.p.now.images.kept
  all = c.place-place.ensures.holds

  abbrev text : List ℕ
  text = text_bytes c.args.p.now.images.kept (row_at c.args.p.now.table c.args.s).text

  abbrev it : Procs
  it = record c.args.p.now { table = c.put_place.new.table; images = c.new_image.new.images }

  it_now : SameKept it (now c.args.p.now c.args.s c.args.t c.args.d bare all c.in-Ok.place text c.in-Ok.ensures.place)
  it_now =
      it_is c.args.p.now c.args.s c.args.t c.args.d bare all c.in-Ok.place text c.in-Ok.ensures.place
      c.put_place.new.table c.new_image.new.images c.put_place.ensures.table c.new_image.ensures.images

pub returns-in-Ok-clause-does : goal.returns-in-Ok-clause-does
returns-in-Ok-clause-does g c = λ fs.
    has_placed c.args.p.now c.args.s c.args.t c.args.d c.requires.bare c.place-place.ensures.holds c.in-Ok.place
    (text g c) c.in-Ok.ensures.place
    fs (it g c) (g.T.Trace.taken c.args.trace.now) (g.T.Trace.taken c.entry.new.self) (it_now g c) c.entry.ensures.took

pub returns-in-Ok-clause-image : goal.returns-in-Ok-clause-image
returns-in-Ok-clause-image g c =
    ap (λ (k : Kept). image_of k c.args.s) (it_now g c).kept
    ∙ (made_now c.args.p.now c.args.s c.args.t c.args.d c.requires.bare c.place-place.ensures.holds c.in-Ok.place
    (text g c) c.in-Ok.ensures.place
    ∙ ap (λ o. made_image (text_bytes c.args.p.now.images.kept o) c.args.d 20)
    (c.requires.bare.agree.text c.args.s c.requires.bare.above c.requires.bare.below))

pub returns-in-Ok-clause-stays : goal.returns-in-Ok-clause-stays
returns-in-Ok-clause-stays g c = λ k x is none.
    ap (λ (n : Kept). shared n k) (it_now g c).kept
    ∙ out_stays c.args.p.now c.args.s c.args.t c.args.d c.requires.bare c.place-place.ensures.holds c.in-Ok.place
    (text g c) c.in-Ok.ensures.place k x is none

pub returns-in-Ok-clause-time : goal.returns-in-Ok-clause-time
returns-in-Ok-clause-time g c =
    ap (λ (t : Table). t.now) (it_now g c).table
    ∙ time_stays c.args.p.now c.args.s c.args.t c.args.d c.requires.bare c.place-place.ensures.holds c.in-Ok.place
    (text g c) c.in-Ok.ensures.place

pub returns-in-Ok-clause-alive : goal.returns-in-Ok-clause-alive
returns-in-Ok-clause-alive g c =
    same_alive (it_now g c)
    (is_alive c.args.p.now c.args.s c.args.t c.args.d c.requires.bare c.place-place.ensures.holds c.in-Ok.place
    (text g c) c.in-Ok.ensures.place
    (subst IsTable c.put_place.ensures.table c.put_place.ensures.good))

pub returns-in-Err-clause-does : goal.returns-in-Err-clause-does
returns-in-Err-clause-does g c = λ fs.
    unplaced c.args.p.now c.args.s c.args.t c.args.d c.requires.bare c.place-place.ensures.holds fs
    (made_image (text_bytes c.args.p.now.images.kept (row_at c.args.p.now.table c.args.s).text) c.args.d 20) c.new_image.new.images
    (g.T.Trace.taken c.args.trace.now)
    (g.T.Trace.taken c.entry-in-Err.new.self) c.in-Err.ensures.place c.new_image.ensures.images c.entry-in-Err.ensures.took

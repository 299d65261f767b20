use Rattle.std.proofs.Common.{◌≡◌, ◌≤◌, ◌+◌, refl, ap, lit<, arith, length}
use Rattle.v6_base.specs.declared.entry.Place.TheVariants.{Core}
use Rattle.image_keep.specs.Fields.{AreLaid}
use Rattle.image_keep.specs.Resized.{cleared_bytes}
use Rattle.image_keep.specs.Area.{made_area}
use Rattle.u_area.specs.Area.{area_bytes}
use Rattle.fs_codec.specs.Bytes.{bytes_of}
use Rattle.abstract_unix.specs.Init.{init_data}
use Rattle.sys_procs.specs.declared.procs.Procs.{Procs}
use Rattle.unix_core.proofs.BootImageLemmas.{keeps_nothing, first_place, made_at, text_at, made_held, filled_held, made_image, made_keeping, made_bare, made_cleared, filled_image, filled_keeping, first_made}
use Rattle.unix_core.specs.Parts.{first_size}
use Rattle.unix_core.proofs.FirstBytes.{StayAfter, stay_then, found_there, laid_stay, made_long, front_long, lent_stay, core_stays, swap_stays}
use Rattle.unix_core.proofs.kernel.make_first.Goals as goal

pub replace-requires : goal.replace-requires
replace-requires c = record {
  slot = lit< tt;
  nothing = keeps_nothing c.args.procs.now.images.kept c.requires.empty c.requires.least 1;
  text = text_at c.args.procs.now.images.kept c.requires.empty c.requires.least;
  text_size = refl;
}

pub put_program-requires-clause-image : goal.put_program-requires-clause-image
put_program-requires-clause-image c =
    made_image c.args.procs.now.images.kept c.requires.empty c.requires.least c.replace.new.self.kept 1 0 refl refl
    (made_at c.args.procs.now.images.kept c.requires.empty c.requires.least c.replace.new.self.kept c.replace.ensures.kept)

pub put_program-requires-clause-no_text : goal.put_program-requires-clause-no_text
put_program-requires-clause-no_text c =
    made_bare c.args.procs.now.images.kept c.requires.empty c.requires.least c.replace.new.self.kept 1 0 refl refl
    (made_at c.args.procs.now.images.kept c.requires.empty c.requires.least c.replace.new.self.kept c.replace.ensures.kept)

pub put_program-requires-clause-cleared : goal.put_program-requires-clause-cleared
put_program-requires-clause-cleared c =
    made_cleared c.args.procs.now.images.kept c.requires.empty c.requires.least c.replace.new.self.kept 1 0 refl refl
    (made_at c.args.procs.now.images.kept c.requires.empty c.requires.least c.replace.new.self.kept c.replace.ensures.kept)

pub area-u-requires : goal.area-u-requires
area-u-requires c =
    filled_image c.args.procs.now.images.kept c.requires.empty c.requires.least c.replace.new.self.kept 1 0 refl refl
    (made_at c.args.procs.now.images.kept c.requires.empty c.requires.least c.replace.new.self.kept c.replace.ensures.kept)
    c.put_program.new.procs.images.kept c.put_program.ensures.kept

pub set_area-requires-clause-image : goal.set_area-requires-clause-image
set_area-requires-clause-image c =
    filled_image c.args.procs.now.images.kept c.requires.empty c.requires.least c.replace.new.self.kept 1 0 refl refl
    (made_at c.args.procs.now.images.kept c.requires.empty c.requires.least c.replace.new.self.kept c.replace.ensures.kept)
    c.put_program.new.procs.images.kept c.put_program.ensures.kept

pub returns-clause-kept : goal.returns-clause-kept
returns-clause-kept c =
    first_made c.args.procs.now.images.kept c.requires.empty c.requires.least c.replace.new.self.kept 1 0 refl refl
    (made_at c.args.procs.now.images.kept c.requires.empty c.requires.least c.replace.new.self.kept c.replace.ensures.kept)
    c.put_program.new.procs.images.kept c.put_program.ensures.kept c.area-u.result _ c.set_area.new.self.kept c.area-u.ensures.u c.set_area.ensures.kept

pub returns-clause-others : goal.returns-clause-others
returns-clause-others c = ap (λ (p : Procs). record p { images = c.set_area.new.self }) c.put_program.ensures.others

-- its data are one click
data_long : length filled_held.image.data + length filled_held.image.stack ≡ 64
unfolding init_data bytes_of
data_long = refl

-- each byte after the image stays
long : (c : goal.After-set_area) → first_size ≤ length c.args.procs.now.images.core
long c = let size = c.requires.size in let least = c.requires.least in omega (arith, size, least)

stays : (c : goal.After-set_area) → StayAfter c.args.procs.now.images c.set_area.new.self
stays c =
    let old = c.args.procs.now.images in
    let made = c.replace.new.self in
    let filled = c.put_program.new.procs.images in
    let first = made_at old.kept c.requires.empty c.requires.least made.kept c.replace.ensures.kept in
    let held = made_keeping old.kept c.requires.empty c.requires.least made.kept 1 0 refl refl first in
    let full = filled_keeping old.kept c.requires.empty c.requires.least made.kept 1 0 refl refl first filled.kept c.put_program.ensures.kept in
    let laid = found_there c.replace.result _ (Core 1) (λ place. AreLaid old made place (cleared_bytes 1 0 (area_bytes (made_area 0 1 0))))
    c.replace.ensures.place (first_place old.kept c.requires.empty c.requires.least 1 0 refl refl) c.replace.ensures.written in
    let one : StayAfter old made = laid_stay old made _ (long c) made_long laid in
    let made_size : first_size ≤ length made.core = let l = long c in let same = one.core in omega (arith, l, same) in
    let two : StayAfter made filled = lent_stay made filled made_held filled_held held full refl refl refl data_long made_size c.put_program.ensures.bytes in
    let filled_size : first_size ≤ length filled.core = let same = two.core in omega (arith, made_size, same) in
    stay_then one (stay_then two (laid_stay filled c.set_area.new.self _ filled_size (front_long _) (c.set_area.ensures.written filled_held full)))

pub returns-clause-swap : goal.returns-clause-swap
returns-clause-swap c = swap_stays c.args.procs.now.images c.set_area.new.self (long c) (stays c)

pub returns-clause-core : goal.returns-clause-core
returns-clause-core c = core_stays c.args.procs.now.images c.set_area.new.self (long c) (stays c)

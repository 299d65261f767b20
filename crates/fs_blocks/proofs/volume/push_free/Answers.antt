use Rattle.std.proofs.Common.{rules, refl, arith, get_or-set_other, get_or-set_same}
use Rattle.buf_cache.specs.Cached.{cached_blocks}
use Rattle.fs_blocks.proofs.VolumeLemmas.{pushed_on_none, pushed_on_some, pushed_on_full, few_numbers}
use Rattle.fs_blocks.proofs.volume.push_free.Goals as goal

pub returns-then-head-eq0-clause-sound : goal.returns-then-head-eq0-clause-sound
returns-then-head-eq0-clause-sound c =
    (pushed_on_none (cached_blocks c.args.cache.now) (cached_blocks c.args.cache.now) c.args.head.now _ c.args.b
    (record { volume = c.requires.sound; fits = c.see_fields.ensures; zone = c.requires.zone; fresh = c.requires.fresh; others = λ k h. refl; same = record { i_size = refl; f_size = refl; ninode = refl; inode = refl; time = refl } })
    c.if-head-eq0.true refl (search rules) (search rules)).volume

pub returns-then-head-eq0-clause-first : goal.returns-then-head-eq0-clause-first
returns-then-head-eq0-clause-first c =
    (pushed_on_none (cached_blocks c.args.cache.now) (cached_blocks c.args.cache.now) c.args.head.now _ c.args.b
    (record { volume = c.requires.sound; fits = c.see_fields.ensures; zone = c.requires.zone; fresh = c.requires.fresh; others = λ k h. refl; same = record { i_size = refl; f_size = refl; ninode = refl; inode = refl; time = refl } })
    c.if-head-eq0.true refl (search rules) (search rules)).first

pub returns-then-head-eq-LIST_SIZE-clause-sound : goal.returns-then-head-eq-LIST_SIZE-clause-sound
returns-then-head-eq-LIST_SIZE-clause-sound c =
    (pushed_on_full (cached_blocks c.args.cache.now) (cached_blocks c.save_group.new.cache) c.args.head.now _ c.args.b
    (record { volume = c.requires.sound; fits = c.see_fields-then-head-eq-LIST_SIZE.ensures; zone = c.requires.zone; fresh = c.requires.fresh; others = c.save_group.ensures.others; same = record { i_size = refl; f_size = refl; ninode = refl; inode = refl; time = refl } })
    c.if-head-eq-LIST_SIZE.true refl (search rules) c.save_group.ensures.saved).volume

pub returns-then-head-eq-LIST_SIZE-clause-first : goal.returns-then-head-eq-LIST_SIZE-clause-first
returns-then-head-eq-LIST_SIZE-clause-first c =
    (pushed_on_full (cached_blocks c.args.cache.now) (cached_blocks c.save_group.new.cache) c.args.head.now _ c.args.b
    (record { volume = c.requires.sound; fits = c.see_fields-then-head-eq-LIST_SIZE.ensures; zone = c.requires.zone; fresh = c.requires.fresh; others = c.save_group.ensures.others; same = record { i_size = refl; f_size = refl; ninode = refl; inode = refl; time = refl } })
    c.if-head-eq-LIST_SIZE.true refl (search rules) c.save_group.ensures.saved).first

pub bounds-head-head : goal.bounds-head-head
bounds-head-head c = let h = few_numbers _ _ c.requires.sound in omega (arith, h)

pub overflow_add-head : goal.overflow_add-head
overflow_add-head c = let h = few_numbers _ _ c.requires.sound in omega (arith, h)

pub returns-clause-sound : goal.returns-clause-sound
returns-clause-sound c =
    let few = few_numbers _ _ c.requires.sound in
    let full = c.if-head-eq-LIST_SIZE.false in
    let some = c.if-head-eq0.false in
    let long = c.requires.sound.fits.free_long in
    (pushed_on_some (cached_blocks c.args.cache.now) (cached_blocks c.args.cache.now) c.args.head.now _ c.args.b
    (record { volume = c.requires.sound; fits = c.see_fields-2.ensures; zone = c.requires.zone; fresh = c.requires.fresh; others = λ k h. refl; same = record { i_size = refl; f_size = refl; ninode = refl; inode = refl; time = refl } })
    (omega arith) (omega (arith, few)) refl (λ k l. get_or-set_other c.args.head.now.free c.args.head.now.nfree k c.args.b 0 (omega arith)) (get_or-set_same c.args.head.now.free c.args.head.now.nfree c.args.b 0 (omega (arith, few, long)))).volume

pub returns-clause-first : goal.returns-clause-first
returns-clause-first c =
    let few = few_numbers _ _ c.requires.sound in
    let full = c.if-head-eq-LIST_SIZE.false in
    let some = c.if-head-eq0.false in
    let long = c.requires.sound.fits.free_long in
    (pushed_on_some (cached_blocks c.args.cache.now) (cached_blocks c.args.cache.now) c.args.head.now _ c.args.b
    (record { volume = c.requires.sound; fits = c.see_fields-2.ensures; zone = c.requires.zone; fresh = c.requires.fresh; others = λ k h. refl; same = record { i_size = refl; f_size = refl; ninode = refl; inode = refl; time = refl } })
    (omega arith) (omega (arith, few)) refl (λ k l. get_or-set_other c.args.head.now.free c.args.head.now.nfree k c.args.b 0 (omega arith)) (get_or-set_same c.args.head.now.free c.args.head.now.nfree c.args.b 0 (omega (arith, few, long)))).first

pub returns-then-head-eq0-clause-still : goal.returns-then-head-eq0-clause-still
returns-then-head-eq0-clause-still c =
    (pushed_on_none (cached_blocks c.args.cache.now) (cached_blocks c.args.cache.now) c.args.head.now _ c.args.b
    (record { volume = c.requires.sound; fits = c.see_fields.ensures; zone = c.requires.zone; fresh = c.requires.fresh; others = λ k h. refl; same = record { i_size = refl; f_size = refl; ninode = refl; inode = refl; time = refl } })
    c.if-head-eq0.true refl (search rules) (search rules)).still

pub returns-then-head-eq-LIST_SIZE-clause-still : goal.returns-then-head-eq-LIST_SIZE-clause-still
returns-then-head-eq-LIST_SIZE-clause-still c =
    (pushed_on_full (cached_blocks c.args.cache.now) (cached_blocks c.save_group.new.cache) c.args.head.now _ c.args.b
    (record { volume = c.requires.sound; fits = c.see_fields-then-head-eq-LIST_SIZE.ensures; zone = c.requires.zone; fresh = c.requires.fresh; others = c.save_group.ensures.others; same = record { i_size = refl; f_size = refl; ninode = refl; inode = refl; time = refl } })
    c.if-head-eq-LIST_SIZE.true refl (search rules) c.save_group.ensures.saved).still

pub returns-clause-still : goal.returns-clause-still
returns-clause-still c =
    let few = few_numbers _ _ c.requires.sound in
    let full = c.if-head-eq-LIST_SIZE.false in
    let some = c.if-head-eq0.false in
    let long = c.requires.sound.fits.free_long in
    (pushed_on_some (cached_blocks c.args.cache.now) (cached_blocks c.args.cache.now) c.args.head.now _ c.args.b
    (record { volume = c.requires.sound; fits = c.see_fields-2.ensures; zone = c.requires.zone; fresh = c.requires.fresh; others = λ k h. refl; same = record { i_size = refl; f_size = refl; ninode = refl; inode = refl; time = refl } })
    (omega arith) (omega (arith, few)) refl (λ k l. get_or-set_other c.args.head.now.free c.args.head.now.nfree k c.args.b 0 (omega arith)) (get_or-set_same c.args.head.now.free c.args.head.now.nfree c.args.b 0 (omega (arith, few, long)))).still

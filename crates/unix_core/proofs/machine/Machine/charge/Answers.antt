use Rattle.std.proofs.Common.{refl, sym, arith}
use Rattle.pick_rules.specs.declared.row.Mode.TheVariants.{User, Kernel, Idle}
use Rattle.image_keep.proofs.Frames.{area_back}
use Rattle.unix_core.proofs.MachineLemmas.{is_charged}
use Rattle.unix_core.proofs.PutLemmas.{good_alive}
use Rattle.unix_core.proofs.machine.Machine.charge.Goals as goal

pub add_tick-requires : goal.add_tick-requires
add_tick-requires c =
    let other = c.if-s-eq0.false in
    (good_alive c.args.self.now.world c.in-Some.s c.requires c.in-Some.is (omega (arith, other))).image

pub add_tick-requires-in-Kernel : goal.add_tick-requires-in-Kernel
add_tick-requires-in-Kernel c =
    let other = c.if-s-eq0.false in
    (good_alive c.args.self.now.world c.in-Some.s c.requires c.in-Some.is (omega (arith, other))).image

pub returns-in-User : goal.returns-in-User
returns-in-User c =
    let other = c.if-s-eq0.false in
    let done = is_charged User c.args.self.now.world c.in-Some.s c.requires c.in-Some.is (omega (arith, other)) c.add_tick.new.self c.add_tick.ensures.kept
    c.args.mode c.in-User.is in
    record { good = done.good; stage = refl; unix = done.unix; table = refl; board = done.board; slots = refl; blocks = refl }

pub returns-in-Kernel : goal.returns-in-Kernel
returns-in-Kernel c =
    let other = c.if-s-eq0.false in
    let done = is_charged Kernel c.args.self.now.world c.in-Some.s c.requires c.in-Some.is (omega (arith, other)) c.add_tick-in-Kernel.new.self
    c.add_tick-in-Kernel.ensures.kept c.args.mode c.in-Kernel.is in
    record { good = done.good; stage = refl; unix = done.unix; table = refl; board = done.board; slots = refl; blocks = refl }

pub returns-in-Idle : goal.returns-in-Idle
returns-in-Idle c =
    let m = c.args.self.now in
    let other = c.if-s-eq0.false in
    let done = is_charged Idle m.world c.in-Some.s c.requires c.in-Some.is (omega (arith, other)) m.world.procs.images
    (sym (area_back m.world.procs.images.kept c.in-Some.s)) c.args.mode c.in-Idle.is in
    record { good = done.good; stage = refl; unix = done.unix; table = refl; board = done.board; slots = refl; blocks = refl }

use Rattle.std.proofs.Common.{sym, subst}
use Rattle.log_audit.specs.declared.world.Stage.TheVariants.{Blank, Booted, Bared}
use Rattle.log_audit.specs.After.{IsAfterAt}
use Rattle.log_audit.proofs.Stages.{sound_whole, sound_runs, sound_stripped, sound_slot, fits_at}
use Rattle.log_audit.proofs.world.World.step.Goals as goal

pub begin-requires : goal.begin-requires
begin-requires c = record { first = fits_at c.args.self.now Blank c.args.e c.in-Blank.is c.requires.fits }

pub go_on-requires-clause-whole : goal.go_on-requires-clause-whole
go_on-requires-clause-whole c = sound_whole c.args.self.now Booted c.requires.sound c.in-Booted.is (λ p. p.1)

pub go_on-requires-clause-runs : goal.go_on-requires-clause-runs
go_on-requires-clause-runs c = sound_runs c.args.self.now c.requires.sound c.in-Booted.is

pub go_on-requires-clause-second : goal.go_on-requires-clause-second
go_on-requires-clause-second c = fits_at c.args.self.now Booted c.args.e c.in-Booted.is c.requires.fits

pub apply_exec-requires-clause-slot : goal.apply_exec-requires-clause-slot
apply_exec-requires-clause-slot c = sound_slot c.args.self.now c.in-Bared.s c.requires.sound c.in-Bared.is

pub apply_exec-requires-clause-stripped : goal.apply_exec-requires-clause-stripped
apply_exec-requires-clause-stripped c = sound_stripped c.args.self.now c.in-Bared.s c.requires.sound c.in-Bared.is

pub apply_exec-requires-clause-of_exec : goal.apply_exec-requires-clause-of_exec
apply_exec-requires-clause-of_exec c = (fits_at c.args.self.now (Bared c.in-Bared.s) c.args.e c.in-Bared.is c.requires.fits).0

pub apply_exec-requires-clause-fits : goal.apply_exec-requires-clause-fits
apply_exec-requires-clause-fits c = (fits_at c.args.self.now (Bared c.in-Bared.s) c.args.e c.in-Bared.is c.requires.fits).1

pub returns-in-Blank-clause-after : goal.returns-in-Blank-clause-after
returns-in-Blank-clause-after c = subst (λ y. IsAfterAt y c.args.e c.begin.new.self) (sym c.in-Blank.is) (c.begin.ensures.runs, c.begin.ensures.whole)

pub returns-in-Booted-clause-after : goal.returns-in-Booted-clause-after
returns-in-Booted-clause-after c = subst (λ y. IsAfterAt y c.args.e c.go_on.new.self) (sym c.in-Booted.is) c.go_on.ensures.after

pub returns-in-Bared-clause-after : goal.returns-in-Bared-clause-after
returns-in-Bared-clause-after c = subst (λ y. IsAfterAt y c.args.e c.apply_exec.new.self) (sym c.in-Bared.is) c.apply_exec.ensures.after

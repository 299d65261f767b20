use Rattle.log_audit.proofs.Stages.{taken_seen, taken_sound}
use Rattle.log_audit.proofs.world.World.take.Goals as goal

pub returns-clause-seen : goal.returns-clause-seen
returns-clause-seen c = taken_seen c.args.self.now c.step.new.self c.args.e c.stage_after-self.result c.requires.fits c.step.ensures.board c.stage_after-self.ensures

pub returns-clause-sound : goal.returns-clause-sound
returns-clause-sound c =
    taken_sound c.args.self.now c.step.new.self c.args.e c.stage_after-self.result c.requires.sound c.requires.range c.requires.fits c.step.ensures.after c.stage_after-self.ensures

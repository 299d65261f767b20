use Rattle.std.proofs.Common.{refl, ap, ◌∙◌}
use Rattle.fs_laws.specs.Chain.{free}
use Rattle.buf_cache.specs.Cached.{cached_blocks}
use Rattle.fs_blocks.specs.State.{Mounted, State, disk}
use Rattle.fs_blocks.proofs.VolumeLemmas.{head_changed}
use Rattle.fs_blocks.proofs.volume.Volume.set_spare.Goals as goal

pub invariant_of-self : goal.invariant_of-self
invariant_of-self c = record {
  volume = (head_changed (cached_blocks c.self.inside.cache) (cached_blocks c.self.inside.cache) c.self.inside.head _ c.self.invariant.volume c.see_fields.ensures refl refl refl refl c.requires (λ k h. refl)).1;
  flags = (let f = c.self.invariant.flags in record { flock = f.flock; ilock = f.ilock; fmod = f.fmod; ronly = f.ronly });
  sizes = (let f = c.self.invariant.sizes in record { i_size = f.i_size; f_size = f.f_size });
  stored = λ h. absurd (cc);
}

pub returns-clause-free : goal.returns-clause-free
returns-clause-free c =
    (head_changed (cached_blocks c.self.inside.cache) (cached_blocks c.self.inside.cache) c.self.inside.head _ c.self.invariant.volume c.see_fields.ensures refl refl refl refl c.requires (λ k h. refl)).0 ∙ ap (λ (s : State). free (disk s)) (ap (λ (m : Mounted). m.state) c.self.view_is)

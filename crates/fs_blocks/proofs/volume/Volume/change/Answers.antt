use Rattle.std.proofs.Common.{◌≡◌, ap, sym, subst, refl, ◌∙◌, nat_eq}
use Rattle.std.specs.List.{count_by}
use Rattle.fs_laws.specs.Chain.{free}
use Rattle.buf_cache.specs.Cached.{cached_blocks}
use Rattle.fs_blocks.specs.State.{Mounted, State, disk, disk_with, IsVolume}
use Rattle.fs_blocks.proofs.BlockLemmas.{set_others}
use Rattle.fs_blocks.proofs.VolumeLemmas.{volume_written, zone_refl, good_volume, same_refl}
use Rattle.fs_blocks.proofs.StoredLemmas.{stored_written, sizes_kept}
use Rattle.fs_blocks.proofs.volume.Volume.change.Goals as goal
use Rattle.fs_blocks.proofs.volume.Volume.change.Goals.{After-change}

used : (c : After-change) → count_by (nat_eq c.args.n) (free (disk_with (cached_blocks c.self.inside.cache) c.self.inside.head)) ≡ 0
used c = subst (λ (s : State). count_by (nat_eq c.args.n) (free (disk s)) ≡ 0) (sym (ap (λ (m : Mounted). m.state) c.self.view_is)) c.requires.used

step : (c : After-change) → (free (disk_with (cached_blocks c.change.new.self) c.self.inside.head) ≡ free (disk_with (cached_blocks c.self.inside.cache) c.self.inside.head)) × IsVolume (cached_blocks c.change.new.self) c.self.inside.head
step c =
    volume_written (cached_blocks c.self.inside.cache) (cached_blocks c.change.new.self) c.self.inside.head c.self.inside.head c.args.n c.self.invariant.volume c.self.invariant.volume.fits (zone_refl _ _ _) refl refl (good_volume _ _ c.self.invariant.volume).ninode
    (used c) (set_others _ _ c.args.n _ c.change.ensures.blocks)

pub invariant_of-self : goal.invariant_of-self
invariant_of-self c = record {
  volume = (step c).1;
  flags = c.self.invariant.flags;
  sizes = sizes_kept (cached_blocks c.self.inside.cache) (cached_blocks c.change.new.self) c.self.inside.head c.self.inside.head c.self.invariant.sizes
      (set_others _ _ c.args.n _ c.change.ensures.blocks 1 (λ is. c.requires.other (sym is))) (same_refl c.self.inside.head);
  stored = λ h. stored_written (cached_blocks c.self.inside.cache) (cached_blocks c.change.new.self) c.self.inside.head c.args.n (c.self.invariant.stored h) c.self.invariant.volume (step c).1 (step c).0 c.requires.other (used c) (set_others _ _ c.args.n _ c.change.ensures.blocks);
}

pub returns-clause-free : goal.returns-clause-free
returns-clause-free c = (step c).0 ∙ ap (λ (s : State). free (disk s)) (ap (λ (m : Mounted). m.state) c.self.view_is)

use Rattle.std.proofs.Common.{◌≡◌, List, ℕ, map, length, sym, ap, ◌∙◌, subst}
use Rattle.std.proofs.lemmas.List.{length-map}
use Rattle.std.specs.List.{refill}
use Rattle.buf_cache.specs.Cached.{Cached, cached_blocks, flushed, written, IsCached}
use Rattle.buf_cache.specs.Slots.{buffer_in, cached_in, clean, IsKept}
use Rattle.buf_cache.specs.declared.cache.Head.{Head}
use Rattle.buf_cache.proofs.CacheLemmas.{flushed_blocks, flushed_disk, blocks_are_disk}
use Rattle.buf_cache.proofs.SlotLemmas.{buffers_in, refilled, cleaned_is, cleaned_kept}
use Rattle.buf_cache.proofs.cache.Cache.sync.Goals as goal
use Rattle.buf_cache.proofs.cache.Cache.sync.Goals.{After-clean_all}

heads : (c : After-clean_all) → refill (length c.self.inside.heads.items) c.self.inside.heads.items c.clean_all.new.heads ≡ map clean c.self.inside.heads.items
heads c =
    let e : c.clean_all.new.heads ≡ map clean c.self.inside.heads.items = c.clean_all.ensures ∙ ap (map clean) c.deref_mut.ensures.value in
    refilled c.self.inside.heads.items c.clean_all.new.heads (ap length e ∙ length-map c.self.inside.heads.items clean) ∙ e

disk : (c : After-clean_all) → c.write_blocks.new.disk.items ≡ written (buffers_in c.self.inside.slots.items c.self.inside.heads.items) c.self.inside.disk.items
disk c =
    c.write_blocks.ensures
    ∙ ap (λ (l : List (List ℕ)). written (map (buffer_in l) c.deref-2.result.now) c.self.inside.disk.items) c.deref.ensures.value
    ∙ ap (λ (l : List Head). written (buffers_in c.self.inside.slots.items l) c.self.inside.disk.items) c.deref-2.ensures.0

pub invariant_of-self : goal.invariant_of-self
invariant_of-self c =
    let P : List Head → Type 0 = IsKept c.write_blocks.new.disk.items c.self.inside.slots.items in
    let Q : List (List ℕ) → Type 0 = λ d. IsKept d c.self.inside.slots.items (map clean c.self.inside.heads.items) in
    subst P (sym (heads (goal.at.invariant_of-self c).After-clean_all)) (subst Q (sym (disk (goal.at.invariant_of-self c).After-clean_all)) (cleaned_kept c.self.inside.disk.items c.self.inside.slots.items c.self.inside.heads.items c.self.invariant))

form : (c : After-clean_all) → IsCached c.args.self.now
form c = let P : Cached → Type 0 = IsCached in subst P c.self.view_is c.self.invariant.cached

to : (c : After-clean_all) → cached_in c.write_blocks.new.disk.items c.self.inside.slots.items (refill (length c.self.inside.heads.items) c.self.inside.heads.items c.clean_all.new.heads) ≡ flushed c.args.self.now
to c =
    ap (cached_in c.write_blocks.new.disk.items c.self.inside.slots.items) (heads c)
    ∙ ap (λ (d : List (List ℕ)). cached_in d c.self.inside.slots.items (map clean c.self.inside.heads.items)) (disk c)
    ∙ cleaned_is c.self.inside.disk.items c.self.inside.slots.items c.self.inside.heads.items
    ∙ ap flushed c.self.view_is

pub returns-clause-flushed : goal.returns-clause-flushed
returns-clause-flushed c = to (goal.at.returns-clause-flushed c).After-clean_all

pub returns-clause-blocks : goal.returns-clause-blocks
returns-clause-blocks c = ap cached_blocks (to (goal.at.returns-clause-blocks c).After-clean_all) ∙ flushed_blocks c.args.self.now (form (goal.at.returns-clause-blocks c).After-clean_all)

pub returns-clause-disk : goal.returns-clause-disk
returns-clause-disk c = ap (λ (x : Cached). x.disk) (to (goal.at.returns-clause-disk c).After-clean_all) ∙ flushed_disk c.args.self.now (form (goal.at.returns-clause-disk c).After-clean_all)

pub returns-clause-form : goal.returns-clause-form
returns-clause-form c = blocks_are_disk c.args.self.now (form (goal.at.returns-clause-form c).After-clean_all)

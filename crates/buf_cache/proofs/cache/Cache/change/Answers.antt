use Rattle.std.proofs.Common.{◌≡◌, ◌<◌, false, List, ℕ, get_or, slice_set, length, length-set, sym, ap, ◌∙◌, subst}
use Rattle.std.specs.List.{refill}
use Rattle.buf_cache.specs.Blocks.{block_at, patched, WritesLate}
use Rattle.buf_cache.specs.Cached.{Cached, cached_blocks, used, changed}
use Rattle.buf_cache.specs.Slots.{cached_in, dirty, IsKept}
use Rattle.buf_cache.specs.declared.cache.Head.{Head}
use Rattle.buf_cache.proofs.CacheLemmas.{changed_blocks, changed_late, changed_is, blocks_are_disk}
use Rattle.buf_cache.proofs.SlotLemmas.{refilled, some_first, first_slot, patched_is, patched_kept}
use Rattle.buf_cache.proofs.cache.Cache.change.Goals as goal
use Rattle.buf_cache.proofs.cache.Cache.change.Goals.{After-deref_mut, After-patch}

no_head : Head
no_head = record { block = 0; slot = 0; is_changed = false }

some : (c : After-deref_mut) → 0 < length c.self.inside.heads.items
some c = some_first c.self.inside.disk.items c.self.inside.slots.items c.self.inside.heads.items c.args.self.now c.args.n (c.self.view_is ∙ c.bring.ensures.used)

pub patch-requires-clause-some : goal.patch-requires-clause-some
patch-requires-clause-some c =
    let P : List Head → Type 0 = λ l. 0 < length l in
    subst P (sym c.deref_mut.ensures.value) (some_first c.self.inside.disk.items c.self.inside.slots.items c.self.inside.heads.items c.args.self.now c.args.n (c.self.view_is ∙ c.bring.ensures.used))

pub patch-requires-clause-slot : goal.patch-requires-clause-slot
patch-requires-clause-slot c = λ head.
    let P : List Head → Type 0 = λ l. (get_or l 0 head).slot < length c.self.inside.slots.items in
    subst P (sym c.deref_mut.ensures.value) (first_slot c.self.inside.disk.items c.self.inside.slots.items c.self.inside.heads.items head c.self.invariant
    (some_first c.self.inside.disk.items c.self.inside.slots.items c.self.inside.heads.items c.args.self.now c.args.n (c.self.view_is ∙ c.bring.ensures.used)))

heads : (c : After-patch) → refill (length c.self.inside.heads.items) c.self.inside.heads.items c.patch.new.heads ≡ slice_set c.self.inside.heads.items 0 (dirty (get_or c.self.inside.heads.items 0 no_head))
heads c =
    let hs : List Head = c.self.inside.heads.items in
    let e : c.patch.new.heads ≡ slice_set hs 0 (dirty (get_or hs 0 no_head)) = c.patch.ensures.heads no_head ∙ ap (λ (l : List Head). slice_set l 0 (dirty (get_or l 0 no_head))) c.deref_mut.ensures.value in
    refilled hs c.patch.new.heads (ap length e ∙ length-set hs 0 (dirty (get_or hs 0 no_head))) ∙ e

slots : (c : After-patch) → c.patch.new.slots.items
    ≡ slice_set c.self.inside.slots.items (get_or c.self.inside.heads.items 0 no_head).slot (patched c.args.at c.args.bytes.now (block_at c.self.inside.slots.items (get_or c.self.inside.heads.items 0 no_head).slot))
slots c =
    c.patch.ensures.slots no_head
    ∙ ap (λ (l : List Head). slice_set c.self.inside.slots.items (get_or l 0 no_head).slot (patched c.args.at c.args.bytes.now (block_at c.self.inside.slots.items (get_or l 0 no_head).slot))) c.deref_mut.ensures.value

same : (c : After-patch) → cached_in c.self.inside.disk.items c.self.inside.slots.items c.self.inside.heads.items ≡ used c.args.self.now c.args.n
same c = c.self.view_is ∙ c.bring.ensures.used

pub invariant_of-self : goal.invariant_of-self
invariant_of-self c =
    let P : List Head → Type 0 = IsKept c.self.inside.disk.items c.patch.new.slots.items in
    let Q : List (List ℕ) → Type 0 = λ s. IsKept c.self.inside.disk.items s (slice_set c.self.inside.heads.items 0 (dirty (get_or c.self.inside.heads.items 0 no_head))) in
    subst P (sym (heads (goal.at.invariant_of-self c).After-patch)) (subst Q (sym (slots (goal.at.invariant_of-self c).After-patch))
    (patched_kept c.self.inside.disk.items c.self.inside.slots.items c.self.inside.heads.items c.args.self.now c.args.n c.args.at c.args.bytes.now no_head c.self.invariant (same (goal.at.invariant_of-self c).After-patch)
    (changed_is c.args.self.now c.args.n c.args.at c.args.bytes.now c.bring.ensures.form c.requires.block c.requires.within)))

to : (c : After-patch) → cached_in c.self.inside.disk.items c.patch.new.slots.items (refill (length c.self.inside.heads.items) c.self.inside.heads.items c.patch.new.heads) ≡ changed c.args.self.now c.args.n c.args.at c.args.bytes.now
to c =
    let hs : List Head = c.self.inside.heads.items in
    ap (cached_in c.self.inside.disk.items c.patch.new.slots.items) (heads c)
    ∙ ap (λ (s : List (List ℕ)). cached_in c.self.inside.disk.items s (slice_set hs 0 (dirty (get_or hs 0 no_head)))) (slots c)
    ∙ patched_is c.self.inside.disk.items c.self.inside.slots.items hs c.args.self.now c.args.n c.args.at c.args.bytes.now no_head c.self.invariant
    (some_first c.self.inside.disk.items c.self.inside.slots.items hs c.args.self.now c.args.n (same c)) (same c)

pub returns-clause-changed : goal.returns-clause-changed
returns-clause-changed c = to (goal.at.returns-clause-changed c).After-patch

pub returns-clause-blocks : goal.returns-clause-blocks
returns-clause-blocks c = ap cached_blocks (to (goal.at.returns-clause-blocks c).After-patch) ∙ changed_blocks c.args.self.now c.args.n c.args.at c.args.bytes.now c.bring.ensures.form c.requires.block

pub returns-clause-stored : goal.returns-clause-stored
returns-clause-stored c =
    subst (λ (x : Cached). WritesLate c.args.self.now.disk (cached_blocks c.args.self.now) x.disk)
    (sym (to (goal.at.returns-clause-stored c).After-patch)) (changed_late c.args.self.now c.args.n c.args.at c.args.bytes.now c.bring.ensures.form)

pub returns-clause-form : goal.returns-clause-form
returns-clause-form c = blocks_are_disk c.args.self.now c.bring.ensures.form

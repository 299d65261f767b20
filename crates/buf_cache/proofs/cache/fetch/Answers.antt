use Rattle.std.proofs.Common.{◌≡◌, ◌∷◌, List, ℕ, map, length, drop, slice_set, [], sym, ap, ◌∙◌, subst, arith}
use Rattle.std.proofs.lemmas.List.{get_or_read}
use Rattle.buf_cache.specs.Blocks.{block_at}
use Rattle.buf_cache.specs.Cached.{written, buffers_with}
use Rattle.buf_cache.specs.Slots.{buffer_in, cached_in, IsKept}
use Rattle.buf_cache.specs.declared.cache.Head.{Head}
use Rattle.buf_cache.proofs.BufferLemmas.{written_length}
use Rattle.buf_cache.proofs.SlotLemmas.{buffers_in, heads_of, Takes, new_head, brought_is, brought_kept}
use Rattle.buf_cache.proofs.cache.fetch.Goals as goal
use Rattle.buf_cache.proofs.cache.fetch.Goals.{After-insert}

pub index-requires : goal.index-requires
index-requires c =
    let l = ap length c.take_slot-slot.ensures.disk ∙ written_length (drop 14 (map (buffer_in c.deref.result.now) c.args.heads.now.items)) c.args.disk.now.items in
    let n = c.requires.kept.cached.disk.count in
    let r = c.requires.block in
    omega (arith, l, n, r)

disk : (c : After-insert) → c.take_slot-slot.new.disk.items ≡ written (drop 14 (buffers_in c.args.slots.now.items c.args.heads.now.items)) c.args.disk.now.items
disk c = c.take_slot-slot.ensures.disk ∙ ap (λ (l : List (List ℕ)). written (drop 14 (buffers_in l c.args.heads.now.items)) c.args.disk.now.items) c.deref.ensures.value

none : (c : After-insert) → buffers_with (buffers_in c.args.slots.now.items c.args.heads.now.items) c.args.n ≡ 0
none c = heads_of c.args.slots.now.items c.args.heads.now.items c.args.n ∙ c.requires.none

takes : (c : After-insert) → Takes c.args.slots.now.items c.args.heads.now.items c.take_slot-slot.result c.take_slot-slot.new.heads.items
takes c = let e = c.take_slot-slot.ensures in record { heads = e.heads; low = e.low; others = e.others }

read : (c : After-insert) → c.index.result.now ≡ block_at c.take_slot-slot.new.disk.items c.args.n
read c =
    let l = ap length (disk c) ∙ written_length (drop 14 (buffers_in c.args.slots.now.items c.args.heads.now.items)) c.args.disk.now.items in
    let n = c.requires.kept.cached.disk.count in
    let r = c.requires.block in
    get_or_read c.take_slot-slot.new.disk.items c.args.n c.index.result.now (omega (arith, l, n, r)) c.index.ensures []

pub returns-clause-used : goal.returns-clause-used
returns-clause-used c =
    ap (cached_in c.take_slot-slot.new.disk.items (slice_set c.args.slots.now.items c.take_slot-slot.result c.index.result.now)) c.insert.ensures.items
    ∙ ap (λ (b : List ℕ). cached_in c.take_slot-slot.new.disk.items (slice_set c.args.slots.now.items c.take_slot-slot.result b) (new_head c.args.n c.take_slot-slot.result ∷ c.take_slot-slot.new.heads.items)) (read c)
    ∙ brought_is c.args.disk.now.items c.args.slots.now.items c.args.heads.now.items c.take_slot-slot.new.heads.items c.args.n c.take_slot-slot.result c.take_slot-slot.new.disk.items
    c.requires.kept (none c) (takes c) c.requires.block (disk c)

pub returns-clause-kept : goal.returns-clause-kept
returns-clause-kept c =
    let P : List ℕ → Type 0 = λ b. IsKept c.take_slot-slot.new.disk.items (slice_set c.args.slots.now.items c.take_slot-slot.result b) (new_head c.args.n c.take_slot-slot.result ∷ c.take_slot-slot.new.heads.items) in
    let Q : List Head → Type 0 = IsKept c.take_slot-slot.new.disk.items (slice_set c.args.slots.now.items c.take_slot-slot.result c.index.result.now) in
    subst Q (sym c.insert.ensures.items) (subst P (sym (read c))
    (brought_kept c.args.disk.now.items c.args.slots.now.items c.args.heads.now.items c.take_slot-slot.new.heads.items c.args.n c.take_slot-slot.result c.take_slot-slot.new.disk.items
    c.requires.kept (none c) (takes c) c.requires.block (disk c)))

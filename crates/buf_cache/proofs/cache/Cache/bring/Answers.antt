use Rattle.std.proofs.Common.{false, ◌≡◌, ◌<◌, List, length, get_or, sym, ap, ◌∙◌, subst}
use Rattle.std.specs.List.{refill}
use Rattle.buf_cache.specs.Cached.{Cached, used, IsCached}
use Rattle.buf_cache.specs.Slots.{blocks_with, cached_in, IsKept}
use Rattle.buf_cache.specs.declared.cache.Head.{Head}
use Rattle.buf_cache.proofs.SlotLemmas.{fronted, fronted_refill, fronted_is, fronted_kept}
use Rattle.buf_cache.proofs.cache.Cache.bring.Goals as goal
use Rattle.buf_cache.proofs.cache.Cache.bring.Goals.{After-to_front}

no_head : Head
no_head = record { block = 0; slot = 0; is_changed = false }

-- a block that is in a buffer
low : (c : After-to_front) → c.in-Some.place < length c.self.inside.heads.items
low c = let P : List Head → Type 0 = λ l. c.in-Some.place < length l in subst P c.deref.ensures.0 c.in-Some.ensures.some.0

heads : (c : After-to_front) → refill (length c.self.inside.heads.items) c.self.inside.heads.items c.to_front.new.heads ≡ fronted c.self.inside.heads.items c.in-Some.place no_head
heads c = fronted_refill c.self.inside.heads.items c.deref_mut.result.now c.to_front.new.heads c.in-Some.place no_head c.deref_mut.ensures.value (low c) (c.to_front.ensures no_head)

pub invariant_of-self : goal.invariant_of-self
invariant_of-self c =
    let P : List Head → Type 0 = IsKept c.self.inside.disk.items c.self.inside.slots.items in
    subst P (sym (heads (goal.at.invariant_of-self c).After-to_front)) (fronted_kept c.self.inside.disk.items c.self.inside.slots.items c.self.inside.heads.items c.in-Some.place c.args.n no_head c.self.invariant (low (goal.at.invariant_of-self c).After-to_front)
    (ap (λ (l : List Head). (get_or l c.in-Some.place no_head).block) (sym c.deref.ensures.0) ∙ c.in-Some.ensures.some.1 no_head) c.requires)

pub returns-in-Some-clause-used : goal.returns-in-Some-clause-used
returns-in-Some-clause-used c =
    ap (cached_in c.self.inside.disk.items c.self.inside.slots.items) (heads (goal.at.returns-in-Some-clause-used c).After-to_front)
    ∙ fronted_is c.self.inside.disk.items c.self.inside.slots.items c.self.inside.heads.items c.in-Some.place c.args.n no_head c.self.invariant (low (goal.at.returns-in-Some-clause-used c).After-to_front)
    (ap (λ (l : List Head). (get_or l c.in-Some.place no_head).block) (sym c.deref.ensures.0) ∙ c.in-Some.ensures.some.1 no_head)
    ∙ ap (λ v. used v c.args.n) c.self.view_is

pub returns-in-Some-clause-form : goal.returns-in-Some-clause-form
returns-in-Some-clause-form c = let P : Cached → Type 0 = IsCached in subst P c.self.view_is c.self.invariant.cached

-- a block that is not
pub fetch-requires : goal.fetch-requires
fetch-requires c = record {
  kept = c.self.invariant;
  block = c.requires;
  none = ap (λ (l : List Head). blocks_with l c.args.n) (sym c.deref.ensures.0) ∙ c.in_default.ensures.none;
}

pub invariant_of-self-2 : goal.invariant_of-self-2
invariant_of-self-2 c = c.fetch.ensures.kept

pub returns-clause-used : goal.returns-clause-used
returns-clause-used c = c.fetch.ensures.used ∙ ap (λ v. used v c.args.n) c.self.view_is

pub returns-clause-form : goal.returns-clause-form
returns-clause-form c = let P : Cached → Type 0 = IsCached in subst P c.self.view_is c.self.invariant.cached

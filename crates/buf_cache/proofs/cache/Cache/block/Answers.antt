use Rattle.std.proofs.Common.{false, ◌<◌, List, get_or, length, refl, sym, ap, ◌∙◌, subst}
use Rattle.buf_cache.specs.declared.cache.Head.{Head}
use Rattle.buf_cache.proofs.CacheLemmas.{used_blocks, used_late, blocks_are_disk}
use Rattle.buf_cache.proofs.SlotLemmas.{some_first, first_bytes}
use Rattle.buf_cache.proofs.cache.Cache.block.Goals as goal

no_head : Head
no_head = record { block = 0; slot = 0; is_changed = false }

pub bounds-deref-0 : goal.bounds-deref-0
bounds-deref-0 c =
    let P : List Head → Type 0 = λ l. 0 < length l in
    subst P (sym c.deref.ensures.0) (some_first c.self.inside.disk.items c.self.inside.slots.items c.self.inside.heads.items c.args.self.now c.args.n (c.self.view_is ∙ c.bring.ensures.used))

pub returns : goal.returns
unfolding no_head
returns c = (
  (refl, λ v. tt, c.self.view_is ∙ c.bring.ensures.used),
  record {
    same = tt;
    value = first_bytes c.self.inside.disk.items c.self.inside.slots.items c.self.inside.heads.items c.args.self.now c.args.n no_head c.index.result.now c.self.invariant (c.self.view_is ∙ c.bring.ensures.used) c.requires
        (c.index.ensures ∙ ap (λ (l : List Head). get_or c.self.inside.slots.items (get_or l 0 no_head).slot c.index.result.now) c.deref.ensures.0);
    blocks = used_blocks c.args.self.now c.args.n c.bring.ensures.form;
    stored = used_late c.args.self.now c.args.n c.bring.ensures.form;
    form = blocks_are_disk c.args.self.now c.bring.ensures.form;
  },
)

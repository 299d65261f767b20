use Rattle.std.proofs.Common.{◌∙◌, sym, subst, arith, ap, drop}
use Rattle.buf_cache.specs.Cached.{cached_blocks}
use Rattle.fs_blocks.specs.State.{IsGroup}
use Rattle.fs_blocks.proofs.BlockLemmas.{saved_group, changed_block, behind_front}
use Rattle.fs_blocks.proofs.volume.save_group.Goals as goal

pub returns-clause-saved : goal.returns-clause-saved
returns-clause-saved c =
    let h = c.change.ensures.form.count in
    let r = c.requires in
    let at = changed_block (cached_blocks c.args.cache.now) (cached_blocks c.change.new.self) c.args.b _ c.change.ensures.blocks (omega (arith, h, r)) in
    let long = c.see_words.ensures.long in
    subst (λ l. IsGroup l c.args.head.now) (sym at)
    (saved_group c.put_word.new.b c.put_words.new.b _ c.args.head.now long (c.put_words.auto.b ∙ c.put_word.auto.b) c.put_word.ensures.here c.put_words.ensures.here c.put_words.ensures.others)

pub returns-clause-behind : goal.returns-clause-behind
returns-clause-behind c =
    let h = c.change.ensures.form.count in
    let r = c.requires in
    let at = changed_block (cached_blocks c.args.cache.now) (cached_blocks c.change.new.self) c.args.b _ c.change.ensures.blocks (omega (arith, h, r)) in
    ap (drop 202) at ∙ behind_front c.put_words.new.b _ 202 (c.put_words.auto.b ∙ c.put_word.auto.b)

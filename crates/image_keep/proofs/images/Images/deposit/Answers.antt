use Rattle.image_keep.proofs.StateOf.{kept_is, core_is}
use Rattle.std.proofs.Common.{◌∙◌, ◌*◌, ◌++◌, ℕ, List, length, slice_set, sym, ap}
use Rattle.image_keep.specs.Kept.{Kept}
use Rattle.image_keep.proofs.InPlan.{core_kept}
use Rattle.image_keep.proofs.ByteSet.{byte_is_set, stands_in_line}
use Rattle.image_keep.specs.Inside.{stock_in}
use Rattle.image_keep.specs.Deposits.{with_byte_of}
use Rattle.image_keep.proofs.Depositing.{found, nobodys}
use Rattle.image_keep.proofs.Deposited.{there}
use Rattle.image_keep.proofs.images.Images.deposit.Goals as goal

pub returns-in-None-clause-nobodys : goal.returns-in-None-clause-nobodys
returns-in-None-clause-nobodys c told = nobodys (stock_in c.self.inside) c.args.self.now.kept c.args.swap c.args.at c.line_place-place.result (kept_is c.self.view_is) c.self.invariant.sound c.self.invariant.counted c.line_place-place.ensures (sym (rw c.deref.ensures.value at c.owner.ensures) ∙ c.in-None.is)

pub starts-starts-requires : goal.starts-starts-requires
starts-starts-requires c = (found (stock_in c.self.inside) c.args.self.now.kept c.in-Some.s c.args.swap c.args.at c.line_place-place.result (kept_is c.self.view_is) c.self.invariant.sound c.self.invariant.counted c.line_place-place.ensures c.row_of.result c.byte_of-byte.result c.requires.inside (sym (rw c.deref.ensures.value at c.owner.ensures) ∙ c.in-Some.is) (rw c.deref-2.ensures.value at c.row_of.ensures) c.byte_of-byte.ensures).has

pub put_byte-requires-clause-within : goal.put_byte-requires-clause-within
put_byte-requires-clause-within c = (found (stock_in c.self.inside) c.args.self.now.kept c.in-Some.s c.args.swap c.args.at c.line_place-place.result (kept_is c.self.view_is) c.self.invariant.sound c.self.invariant.counted c.line_place-place.ensures c.row_of.result c.byte_of-byte.result c.requires.inside (sym (rw c.deref.ensures.value at c.owner.ensures) ∙ c.in-Some.is) (rw c.deref-2.ensures.value at c.row_of.ensures) c.byte_of-byte.ensures).within

pub put_byte-requires-clause-storable : goal.put_byte-requires-clause-storable
put_byte-requires-clause-storable c = (found (stock_in c.self.inside) c.args.self.now.kept c.in-Some.s c.args.swap c.args.at c.line_place-place.result (kept_is c.self.view_is) c.self.invariant.sound c.self.invariant.counted c.line_place-place.ensures c.row_of.result c.byte_of-byte.result c.requires.inside (sym (rw c.deref.ensures.value at c.owner.ensures) ∙ c.in-Some.is) (rw c.deref-2.ensures.value at c.row_of.ensures) c.byte_of-byte.ensures).of.kind

pub returns-clause-put : goal.returns-clause-put
unfolding with_byte_of
returns-clause-put c told = (let f = (found (stock_in c.self.inside) c.args.self.now.kept c.in-Some.s c.args.swap c.args.at c.line_place-place.result (kept_is c.self.view_is) c.self.invariant.sound c.self.invariant.counted c.line_place-place.ensures c.row_of.result c.byte_of-byte.result c.requires.inside (sym (rw c.deref.ensures.value at c.owner.ensures) ∙ c.in-Some.is) (rw c.deref-2.ensures.value at c.row_of.ensures) c.byte_of-byte.ensures) in (c.in-Some.s, c.byte_of-byte.result, (f.has.0, f.has.1, f.of), c.put_byte.ensures.kept))

pub returns-clause-there : goal.returns-clause-there
unfolding with_byte_of
returns-clause-there c told = (let f = (found (stock_in c.self.inside) c.args.self.now.kept c.in-Some.s c.args.swap c.args.at c.line_place-place.result (kept_is c.self.view_is) c.self.invariant.sound c.self.invariant.counted c.line_place-place.ensures c.row_of.result c.byte_of-byte.result c.requires.inside (sym (rw c.deref.ensures.value at c.owner.ensures) ∙ c.in-Some.is) (rw c.deref-2.ensures.value at c.row_of.ensures) c.byte_of-byte.ensures) in there (stock_in c.self.inside) c.args.self.now.kept _ c.in-Some.s c.args.at c.args.b c.args.swap c.byte_of-byte.result (kept_is c.self.view_is) c.self.invariant.sound c.self.invariant.counted c.starts-starts.ensures.holds f.has f.of c.put_byte.ensures.kept)

pub returns-clause-core : goal.returns-clause-core
returns-clause-core c told =
    let f = (found (stock_in c.self.inside) c.args.self.now.kept c.in-Some.s c.args.swap c.args.at c.line_place-place.result (kept_is c.self.view_is) c.self.invariant.sound c.self.invariant.counted c.line_place-place.ensures c.row_of.result c.byte_of-byte.result c.requires.inside (sym (rw c.deref.ensures.value at c.owner.ensures) ∙ c.in-Some.is) (rw c.deref-2.ensures.value at c.row_of.ensures) c.byte_of-byte.ensures) in
    let there = stands_in_line c.args.self.now.kept c.in-Some.s c.args.at c.args.swap c.starts-starts.result c.starts-starts.ensures.starts f.has c.byte_of-byte.result f.of in
    let cut = sym (ap (λ (l : List ℕ). length l) (core_is c.self.view_is)) ∙ c.self.invariant.cut ∙ ap (λ n. 64 * n) (sym (core_kept (stock_in c.self.inside)) ∙ ap (λ (k : Kept). k.core) (kept_is c.self.view_is)) in
    (byte_is_set c.args.self.now.core c.args.self.now.swap c.put_byte.new.self.core c.put_byte.new.self.swap c.args.self.now.kept.core c.args.at c.args.b c.args.swap cut c.put_byte.ensures.core c.requires.inside
    (c.put_byte.ensures.bytes ∙ ap (λ i. slice_set (c.args.self.now.core ++ c.args.self.now.swap) i c.args.b) there)).core_is

pub returns-clause-area : goal.returns-clause-area
returns-clause-area c told =
    let f = (found (stock_in c.self.inside) c.args.self.now.kept c.in-Some.s c.args.swap c.args.at c.line_place-place.result (kept_is c.self.view_is) c.self.invariant.sound c.self.invariant.counted c.line_place-place.ensures c.row_of.result c.byte_of-byte.result c.requires.inside (sym (rw c.deref.ensures.value at c.owner.ensures) ∙ c.in-Some.is) (rw c.deref-2.ensures.value at c.row_of.ensures) c.byte_of-byte.ensures) in
    let there = stands_in_line c.args.self.now.kept c.in-Some.s c.args.at c.args.swap c.starts-starts.result c.starts-starts.ensures.starts f.has c.byte_of-byte.result f.of in
    let cut = sym (ap (λ (l : List ℕ). length l) (core_is c.self.view_is)) ∙ c.self.invariant.cut ∙ ap (λ n. 64 * n) (sym (core_kept (stock_in c.self.inside)) ∙ ap (λ (k : Kept). k.core) (kept_is c.self.view_is)) in
    (byte_is_set c.args.self.now.core c.args.self.now.swap c.put_byte.new.self.core c.put_byte.new.self.swap c.args.self.now.kept.core c.args.at c.args.b c.args.swap cut c.put_byte.ensures.core c.requires.inside
    (c.put_byte.ensures.bytes ∙ ap (λ i. slice_set (c.args.self.now.core ++ c.args.self.now.swap) i c.args.b) there)).swap_is

use Rattle.std.proofs.Common.{◌≡◌, ◌∙◌, ℕ, List, slice_index, ap}
use Rattle.u_area.specs.declared.area.UArea.{UArea}
use Rattle.image_keep.specs.Kept.{area_of}
use Rattle.image_keep.proofs.FieldPut.{user_law, system_law}
use Rattle.image_keep.proofs.images.Images.add_tick.Goals as goal

pub put_field-requires-clause-law : goal.put_field-requires-clause-law
put_field-requires-clause-law c = rw c.one_word.ensures (_, system_law _ _)

pub returns-then-in_kernel-clause-kept : goal.returns-then-in_kernel-clause-kept
returns-then-in_kernel-clause-kept c =
    let was : slice_index c.own_times.result 1 ≡ (area_of c.args.self.now.kept c.args.s).system_time = ap (λ (l : List ℕ). slice_index l 1) c.own_times.ensures ∙ ap (λ (u : UArea). u.system_time) c.area_bytes.ensures.read in
    rw (c.if-in_kernel.true, ← was) ((rw c.one_word.ensures at c.put_field.ensures.kept) _ (system_law _ _))

pub returns-then-in_kernel-clause-written : goal.returns-then-in_kernel-clause-written
returns-then-in_kernel-clause-written c =
    let was : slice_index c.own_times.result 1 ≡ (area_of c.args.self.now.kept c.args.s).system_time = ap (λ (l : List ℕ). slice_index l 1) c.own_times.ensures ∙ ap (λ (u : UArea). u.system_time) c.area_bytes.ensures.read in
    rw (c.if-in_kernel.true, ← was) (rw c.one_word.ensures at c.put_field.ensures.written)

pub put_field-requires-2-clause-law : goal.put_field-requires-2-clause-law
put_field-requires-2-clause-law c = rw c.one_word-2.ensures (_, user_law _ _)

pub returns-clause-kept : goal.returns-clause-kept
returns-clause-kept c =
    let was : slice_index c.own_times.result 0 ≡ (area_of c.args.self.now.kept c.args.s).user_time = ap (λ (l : List ℕ). slice_index l 0) c.own_times.ensures ∙ ap (λ (u : UArea). u.user_time) c.area_bytes.ensures.read in
    rw (c.if-in_kernel.false, ← was) ((rw c.one_word-2.ensures at c.put_field-2.ensures.kept) _ (user_law _ _))

pub returns-clause-written : goal.returns-clause-written
returns-clause-written c =
    let was : slice_index c.own_times.result 0 ≡ (area_of c.args.self.now.kept c.args.s).user_time = ap (λ (l : List ℕ). slice_index l 0) c.own_times.ensures ∙ ap (λ (u : UArea). u.user_time) c.area_bytes.ensures.read in
    rw (c.if-in_kernel.false, ← was) (rw c.one_word-2.ensures at c.put_field-2.ensures.written)

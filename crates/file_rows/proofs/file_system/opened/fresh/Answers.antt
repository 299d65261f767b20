use Rattle.std.proofs.Common.{◌≡◌, ◌+◌, ℕ, zero, suc, replicate, slice_index, refl, ap, ◌∙◌}
use Rattle.fs_nodes.specs.Keys.{Stores}
use Rattle.file_rows.proofs.file_system.opened.fresh.Goals as goal

zeros : (n i : ℕ) → slice_index (replicate n 0) i ≡ 0
zeros zero i = refl
zeros (suc n) zero = refl
zeros (suc n) (suc i) = zeros n i

pub returns : goal.returns
returns c = record {
  quiet = λ i. ap (λ l. slice_index l i) c.new.ensures.none ∙ zeros (c.new.result.store.root.count + 1) i;
  one = ap (λ (s : Stores). s.second) c.new.ensures.store;
}

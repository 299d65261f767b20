-- What is known on the way into core.
use Rattle.std.proofs.Common.{◌≡◌, ℕ, ◌+◌, ◌-◌, ◌*◌, ◌<◌, ◌≤◌, ◌&&◌, ◌||◌, not, List, length, set, false, Option, Some, None, refl, sym, ap, subst, ◌∙◌, arith}
use Rattle.std.proofs.lemmas.List.{length-set}
use Rattle.v6_base.specs.declared.entry.Place.TheVariants.{Core, Swap}
use Rattle.core_mem.specs.Bytes.{part, over}
use Rattle.text_tab.specs.declared.row.TextRow.{TextRow}
use Rattle.text_tab.specs.Table.{row_at as text_row, loaded_at}
use Rattle.map_fit.specs.declared.holes.Hole.{Hole}
use Rattle.map_fit.specs.Fit.{Range, first_fit}
use Rattle.map_fit.specs.Free.{is_free, is_within, IsMap}
use Rattle.image_keep.specs.declared.row.State.{State}
use Rattle.image_keep.specs.declared.row.State.TheVariants as state
use Rattle.image_keep.specs.declared.row.Row.{Row}
use Rattle.image_keep.specs.Kept.{Kept, text_of, area_of, clicks_of, IsOut}
use Rattle.image_keep.specs.Memory.{Stock, row_at, at_row, swap_at, clicks_in, IsSound, kept_of}
use Rattle.image_keep.specs.Places.{blocks, core_taken, swap_taken, core_fit}
use Rattle.image_keep.specs.Maps.{AreMaps}
use Rattle.image_keep.specs.Moves.{need_for, come_line, come_texts, text_need, clicks_to_load, swapped_in}
use Rattle.image_keep.specs.Counts.{IsCounted}
use Rattle.image_keep.proofs.Places.{core_map_is, swap_map_is, core_found, IsFound}
use Rattle.image_keep.proofs.SwapIn.{text_of_row, need_is, clicks_are, in_sound, in_kept, in_core_map, in_swap_map, in_counted}
use Rattle.image_keep.proofs.Facts.{Facts, facts, taken_blocks, few_taken}

pub record Plan (v : Stock) (k : Kept) (s b : ℕ) (core_map swap_map : List Hole) (row : Row) (n need : ℕ) : Type 0 where
  pub facts : Facts v s (Swap b)
  pub there : row ≡ row_at v.rows s
  pub clicks : clicks_to_load k s ≡ need + n
  pub size : n ≡ clicks_in (row_at v.rows s)
  pub wants : need ≡ need_for v.texts (row_at v.rows s).text
  pub few : n ≤ 1040
  pub fit : (o : Option ℕ) → ((taken : List Range) (first last : ℕ) → IsMap core_map taken first last → o ≡ first_fit taken first last (need + n)) → o ≡ core_fit k (clicks_to_load k s)
  pub taken : (x : ℕ) → b ≤ x → x < b + blocks n → is_free swap_map x ≡ false
  pub room : ((taken : List Range) (first last : ℕ) → IsMap swap_map taken first last → length swap_map ≤ length taken + 1) → length swap_map < 100

pub core_kept : (v : Stock) → (kept_of v).core ≡ v.core
unfolding kept_of
core_kept v = refl

pub plan : (v : Stock) (k : Kept) (s b : ℕ) (core_map swap_map : List Hole) (row : Row) (n need : ℕ) → kept_of v ≡ k → IsSound v → AreMaps v core_map swap_map → IsCounted v.rows v.texts → length v.texts ≡ 40
    → row ≡ row_at v.rows s → row.state ≡ state.Alive (Swap b) → n ≡ clicks_in row → need ≡ need_for v.texts row.text → IsOut k s → Plan v k s b core_map swap_map row n need
unfolding core_fit
plan v k s b core_map swap_map row n need view h maps c table at is size wants out =
    let f : Facts v s (Swap out.0) = facts v k s (Swap out.0) view h c out.1 out.2 in
    let same : out.0 ≡ b = one_block (row_at v.rows s).state out.0 b f.is (sym (ap (λ (r : Row). r.state) at) ∙ is) in
    let g : Facts v s (Swap b) = subst (λ j. Facts v s (Swap j)) same f in
    let size2 : n ≡ clicks_in (row_at v.rows s) = size ∙ ap clicks_in at in
    let wants2 : need ≡ need_for v.texts (row_at v.rows s).text = wants ∙ ap (λ (r : Row). need_for v.texts r.text) at in
    let sizes = g.sizes in
    let low = g.inside.0 in
    let most = few_taken v h.slots table in
    record {
      facts = g;
      there = at;
      clicks = total size2 wants2 g.is;
      size = size2;
      wants = wants2;
      few = omega (arith, size2, sizes);
      fit = λ o e. e (core_taken (kept_of v)) 1 v.core (core_map_is v core_map swap_map h maps)
          ∙ (let core_is : v.core ≡ k.core = sym (core_kept v) ∙ ap (λ (j : Kept). j.core) view in
          ap (λ i. first_fit (core_taken (kept_of v)) 1 i (need + n)) core_is
          ∙ ap (λ j. first_fit (core_taken j) 1 k.core (need + n)) view
          ∙ ap (first_fit (core_taken k) 1 k.core) (sym (total size2 wants2 g.is)));
      taken = λ x l m. taken_blocks v core_map swap_map s b x maps g.is low l (rw (← size2) m);
      room = λ e. (let a = e (swap_taken (kept_of v)) 4000 4871 (swap_map_is v core_map swap_map h maps) in let d = most.1 in omega (arith, a, d));
    }
  where
    one_block : (st : State) (x y : ℕ) → st ≡ state.Alive (Swap x) → st ≡ state.Alive (Swap y) → x ≡ y
    one_block st x y e d = cc

    total : n ≡ clicks_in (row_at v.rows s) → need ≡ need_for v.texts (row_at v.rows s).text → (row_at v.rows s).state ≡ state.Alive (Swap b) → clicks_to_load k s ≡ need + n
    total e d st =
        let a : text_need k (text_of k s) ≡ need =
        ap (λ j. text_need j (text_of j s)) (sym view) ∙ ap (text_need (kept_of v)) (text_of_row v s) ∙ need_is v (row_at v.rows s).text ∙ sym d in
        let q : clicks_of (area_of k s) ≡ n = ap (λ j. clicks_of (area_of j s)) (sym view) ∙ clicks_are v s (Swap b) h st ∙ sym e in
        rw (a, q) refl

-- where the piece begins
pub found_at : (v : Stock) (k : Kept) (s b : ℕ) (core_map swap_map : List Hole) (row : Row) (n need at : ℕ) → kept_of v ≡ k → IsSound v → Plan v k s b core_map swap_map row n need → core_fit k (clicks_to_load k s) ≡ Some at
    → (core_fit (kept_of v) (need + n) ≡ Some at) × (1 ≤ at) × (at + (need + n) ≤ v.core + 1)
found_at v k s b core_map swap_map row n need at view h p e =
    let fit : core_fit (kept_of v) (need + n) ≡ Some at = ap (λ j. core_fit j (need + n)) view ∙ ap (core_fit k) (sym p.clicks) ∙ e in
    let f : IsFound v (64 * (at - 1)) (64 * (need + n)) 1 v.core at (need + n) = core_found v at (need + n) h fit in
    (fit, f.low, f.high)

-- the memory then
pub record Came (v now : Stock) (k : Kept) (s at : ℕ) (core_new swap_new : List Hole) : Type 0 where
  pub sound : IsSound now
  pub maps : AreMaps now core_new swap_new
  pub counted : IsCounted now.rows now.texts
  pub kept : kept_of now ≡ swapped_in k s (Some at)
  pub core : now.core ≡ v.core

pub came_in : (v : Stock) (k : Kept) (s b at : ℕ) (core_map swap_map core_new swap_new : List Hole) (row : Row) (n need : ℕ) (line1 line2 : List ℕ) (texts : List (Option TextRow)) (rows : List Row)
    → kept_of v ≡ k → IsSound v → AreMaps v core_map swap_map → IsCounted v.rows v.texts → Plan v k s b core_map swap_map row n need → core_fit k (clicks_to_load k s) ≡ Some at
    → ((x : ℕ) → is_free core_new x ≡ (is_free core_map x && not (is_within at (need + n) x)))
    → ((x : ℕ) → is_free swap_new x ≡ (is_free swap_map x || is_within b (blocks n) x))
    → line1 ≡ come_line v.line v.core v.texts row.text at → texts ≡ come_texts v.texts row.text at
    → line2 ≡ over line1 (64 * (at + need - 1)) (part line1 (swap_at v.core b) (64 * n)) → rows ≡ set v.rows s (at_row (row_at v.rows s) (Core (at + need)))
    → Came v (record { line = line2; core = v.core; rows = rows; texts = texts }) k s at core_new swap_new
came_in v k s b at core_map swap_map core_new swap_new row n need line1 line2 texts rows view h maps c p e step_core step_swap l1 t l2 r =
    let f = found_at v k s b core_map swap_map row n need at view h p e in
    let g : Facts v s (Swap b) = p.facts in
    let q : Row = row_at v.rows s in
    let fit : core_fit (kept_of v) (need_for v.texts q.text + clicks_in q) ≡ Some at = ap (λ i. core_fit (kept_of v) (i + clicks_in q)) (sym p.wants) ∙ ap (λ i. core_fit (kept_of v) (need + i)) (sym p.size) ∙ f.0 in
    let one : line1 ≡ come_line v.line v.core v.texts q.text at = l1 ∙ ap (λ (x : Row). come_line v.line v.core v.texts x.text at) p.there in
    let two : texts ≡ come_texts v.texts q.text at = t ∙ ap (λ (x : Row). come_texts v.texts x.text at) p.there in
    let m : need ≡ need_for v.texts q.text = p.wants in
    let z : n ≡ clicks_in q = p.size in
    let three : line2 ≡ over (come_line v.line v.core v.texts q.text at) (64 * (at + need_for v.texts q.text - 1)) (part (come_line v.line v.core v.texts q.text at) (swap_at v.core b) (64 * clicks_in q)) =
    l2 ∙ ap (λ x. over x (64 * (at + need - 1)) (part x (swap_at v.core b) (64 * n))) one
    ∙ ap (λ i. over (come_line v.line v.core v.texts q.text at) (64 * (at + i - 1)) (part (come_line v.line v.core v.texts q.text at) (swap_at v.core b) (64 * n))) m
    ∙ ap (λ i. over (come_line v.line v.core v.texts q.text at) (64 * (at + need_for v.texts q.text - 1)) (part (come_line v.line v.core v.texts q.text at) (swap_at v.core b) (64 * i))) z in
    let four : rows ≡ set v.rows s (at_row q (Core (at + need_for v.texts q.text))) = r ∙ ap (λ i. set v.rows s (at_row q (Core (at + i)))) m in
    let now : Stock = record {
      line = over (come_line v.line v.core v.texts q.text at) (64 * (at + need_for v.texts q.text - 1)) (part (come_line v.line v.core v.texts q.text at) (swap_at v.core b) (64 * clicks_in q));
      core = v.core;
      rows = set v.rows s (at_row q (Core (at + need_for v.texts q.text)));
      texts = come_texts v.texts q.text at;
    } in
    let is : (let x : Stock = record { line = line2; core = v.core; rows = rows; texts = texts } in x) ≡ now = cc in
    let good : Came v now k s at core_new swap_new = record {
      sound = in_sound v s b at h g.low g.is g.used fit;
      maps = record {
        core = in_core_map v s b at h g.low g.is g.used fit core_map core_new maps.core (λ x. rw (← m, ← z) (step_core x));
        swap = in_swap_map v s b at h g.low g.is g.used fit swap_map swap_new maps.swap (λ x. rw (← z) (step_swap x));
      };
      counted = in_counted v s b at h g.low g.is g.used fit c;
      kept = in_kept v s b at h g.low g.is g.used fit ∙ ap (λ j. swapped_in j s (Some at)) view;
      core = refl;
    } in
    subst (λ (x : Stock). Came v x k s at core_new swap_new) (sym is) good

pub in_none : (k : Kept) (s : ℕ) → swapped_in k s None ≡ k
unfolding swapped_in
in_none k s = refl

pub long_texts : (texts : List (Option TextRow)) (x : Option ℕ) (at : ℕ) → length (come_texts texts x at) ≡ length texts
long_texts texts None at = refl
long_texts texts (Some t) at = length-set texts t (Some (loaded_at at (text_row texts t)))

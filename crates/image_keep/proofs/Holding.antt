-- The memory holds what is kept.
use Rattle.std.proofs.Common.{◌≡◌, ℕ, ◌+◌, ◌-◌, ◌*◌, ◌≤◌, List, ◌++◌, length, Option, Some, None, refl, sym, ap, subst, ◌∙◌, arith, length-append}
use Rattle.v6_base.specs.declared.entry.Place.{Place}
use Rattle.v6_base.specs.declared.entry.Place.TheVariants.{Core, Swap}
use Rattle.core_mem.specs.Bytes.{part}
use Rattle.core_mem.proofs.Parts.{part-add, part-part, part-left, part-right}
use Rattle.u_area.specs.declared.area.UArea.{UArea}
use Rattle.u_area.specs.Area.{fetched, area_bytes, widened, half_bytes, IsSized}
use Rattle.u_area.proofs.AreaLemmas.{fetched_is, half_widened}
use Rattle.text_tab.specs.declared.row.TextRow.{TextRow}
use Rattle.text_tab.specs.Table.{text_at}
use Rattle.image_keep.specs.declared.row.State.{State}
use Rattle.image_keep.specs.declared.row.State.TheVariants as state
use Rattle.image_keep.specs.declared.row.Row.{Row}
use Rattle.image_keep.specs.declared.images.Images.TheInside.{Inside}
use Rattle.image_keep.specs.Line.{Lists, line_of}
use Rattle.image_keep.specs.State.{ImagesState}
use Rattle.image_keep.specs.Inside.{stock_in, kept_in, state_of, AreImages}
use Rattle.image_keep.specs.Kept.{Kept, Alive, Grave, Held, Shared, keeping, shared, clicks_of}
use Rattle.image_keep.specs.Memory.{Stock, row_at, swap_at, place_at, place_size, spot_by, out_spot, in_spot, Owner, RowOf, OutOf, InOf, spot, AreApart, text_in, text_for, image_by, keeping_by, keeping_in, shared_in, kept_of, IsIn, HoldsBy, IsSound}
use Rattle.image_keep.specs.Holds.{CoreHolds, SwapHolds, MemoryHolds, image_bytes, keeping_spot, text_out, text_in_core, spot_of}
use Rattle.image_keep.proofs.Places.{slot_at, shared_at}
use Rattle.image_keep.proofs.InPlan.{core_kept}
use Rattle.image_keep.proofs.Own.{front}

-- what lies at a row's place is its image in bytes
module _ (line : List ℕ) (core : ℕ) (text : List ℕ) where
  whole : (at d k : ℕ) (u : UArea) → IsSized u → part (part line at (64 * (16 + d + k))) 0 1024 ≡ area_bytes u
      → part line at (64 * (16 + d + k)) ≡ area_bytes (fetched (part (part line at (64 * (16 + d + k))) 0 1024)) ++ ((image_by (part line at (64 * (16 + d + k))) d k text).data ++ (image_by (part line at (64 * (16 + d + k))) d k text).stack)
  unfolding image_by
  whole at d k u sized spelled =
      let n : ℕ = 64 * (16 + d + k) in
      let e : n ≡ 1024 + (64 * d + 64 * k) = omega arith in
      let assoc : at + 1024 + 64 * d ≡ at + (1024 + 64 * d) = omega arith in
      let split : part line at n ≡ part line at 1024 ++ (part line (at + 1024) (64 * d) ++ part line (at + (1024 + 64 * d)) (64 * k)) =
      ap (part line at) e ∙ part-add line at 1024 (64 * d + 64 * k) ∙ ap (λ x. part line at 1024 ++ x) (part-add line (at + 1024) (64 * d) (64 * k) ∙ ap (λ j. part line (at + 1024) (64 * d) ++ part line j (64 * k)) assoc) in
      let area : area_bytes (fetched (part (part line at n) 0 1024)) ≡ part line at 1024 =
      ap area_bytes (fetched_is (part (part line at n) 0 1024) u sized spelled) ∙ sym spelled ∙ front line at (16 + d + k) (omega arith) in
      let one : part (part line at n) 1024 (64 * d) ≡ part line (at + 1024) (64 * d) = part-part line at n 1024 (64 * d) (omega arith) in
      let two : part (part line at n) (1024 + 64 * d) (64 * k) ≡ part line (at + (1024 + 64 * d)) (64 * k) = part-part line at n (1024 + 64 * d) (64 * k) (omega arith) in
      split ∙ sym (joined _ _ _ _ _ _ area one two)
    where
      joined : (a a' b b' c c' : List ℕ) → a ≡ a' → b ≡ b' → c ≡ c' → a ++ (b ++ c) ≡ a' ++ (b' ++ c')
      joined a a' b b' c c' e f g = cc

  held_bytes : (st : State) (d k : ℕ) (held : Held) → HoldsBy line core st d k → keeping_by line core text st d k ≡ Alive held → part line (place_at core held.place) (64 * clicks_of held.u) ≡ image_bytes held
  unfolding keeping_by
  held_bytes state.Nothing d k held h e = absurd (cc e)
  held_bytes (state.Grave b) d k held h e = absurd (cc e)
  held_bytes (state.Alive place) d k held h e =
      let now : Held = record {
        u = fetched (part (part line (place_at core place) (64 * (16 + d + k))) 0 1024);
        image = image_by (part line (place_at core place) (64 * (16 + d + k))) d k text;
        place = place;
      } in
      let same : now ≡ held = cc e in
      let size : clicks_of now.u ≡ 16 + d + k = (let a = h.data_size in let b = h.stack_size in rw (a, b) refl) in
      subst (λ (x : Held). part line (place_at core x.place) (64 * clicks_of x.u) ≡ image_bytes x) same
      (ap (λ i. part line (place_at core place) (64 * i)) size ∙ whole (place_at core place) d k h.stored.0 h.stored.1 h.stored.2)

  grave_bytes : (st : State) (d k : ℕ) (u : UArea) (b : ℕ) → HoldsBy line core st d k → keeping_by line core text st d k ≡ Grave u b → (part line (swap_at core b) 512 ≡ half_bytes u) × (4000 ≤ b) × (b + 1 ≤ 4872)
  unfolding keeping_by
  grave_bytes state.Nothing d k u b h e = absurd (cc e)
  grave_bytes (state.Alive place) d k u b h e = absurd (cc e)
  grave_bytes (state.Grave y) d k u b h e =
      let st = h.stored in
      let place : y ≡ b = cc e in
      let is : fetched (widened (part line (swap_at core y) 512)) ≡ u = cc e in
      let read : fetched (widened (part line (swap_at core y) 512)) ≡ st.0 = ap (λ x. fetched (widened x)) st.2 ∙ fetched_is (widened (half_bytes st.0)) st.0 st.1 (half_widened st.0 st.1) in
      let i = h.inside in
      let low = i.0 in
      let high = i.1 in
      (ap (λ j. part line (swap_at core j) 512) (sym place) ∙ st.2 ∙ ap half_bytes (sym read ∙ is), omega (arith, place, low), omega (arith, place, high))

  inside_bytes : (st : State) (d k : ℕ) (held : Held) → HoldsBy line core st d k → keeping_by line core text st d k ≡ Alive held → IsIn core held.place (clicks_of held.u)
  unfolding keeping_by
  inside_bytes state.Nothing d k held h e = absurd (cc e)
  inside_bytes (state.Grave b) d k held h e = absurd (cc e)
  inside_bytes (state.Alive place) d k held h e =
      let now : Held = record {
        u = fetched (part (part line (place_at core place) (64 * (16 + d + k))) 0 1024);
        image = image_by (part line (place_at core place) (64 * (16 + d + k))) d k text;
        place = place;
      } in
      let same : now ≡ held = cc e in
      let size : clicks_of now.u ≡ 16 + d + k = (let a = h.data_size in let b = h.stack_size in rw (a, b) refl) in
      subst (λ (x : Held). IsIn core x.place (clicks_of x.u)) same (subst (IsIn core place) (sym size) h.inside)

  spot_is : (st : State) (d k : ℕ) → HoldsBy line core st d k → keeping_spot core (keeping_by line core text st d k) ≡ spot_by core st (16 + d + k)
  unfolding keeping_by
  spot_is state.Nothing d k h = refl
  spot_is (state.Grave b) d k h = refl
  spot_is (state.Alive place) d k h =
      let size : 16 + (fetched (part (part line (place_at core place) (64 * (16 + d + k))) 0 1024)).data_size + (fetched (part (part line (place_at core place) (64 * (16 + d + k))) 0 1024)).stack_size ≡ 16 + d + k =
      (let a = h.data_size in let b = h.stack_size in rw (a, b) refl) in
      ap (λ i. record { at = place_at core place; size = place_size place i }) size

-- bytes of the line are bytes of core or of the swap area
abbrev bytes_at : List ℕ → List ℕ → Place → ℕ → List ℕ
bytes_at core swap (Core click) n = part core (64 * (click - 1)) n
bytes_at core swap (Swap block) n = part swap (512 * (block - 4000)) n

at_place_is : (a : Lists) (core : ℕ) (place : Place) (n : ℕ) → length a.core ≡ 64 * core → IsIn core place n → part (line_of a) (place_at core place) (64 * n) ≡ bytes_at a.core a.swap place (64 * n)
at_place_is a core (Core c) n e i = let j = i.0 in let k = i.1 in part-left a.core a.swap (64 * (c - 1)) (64 * n) (omega (arith, e, j, k))
at_place_is a core (Swap b) n e i = part-right a.core a.swap (swap_at core b) (512 * (b - 4000)) (64 * n) (omega (arith, e))

out_is : (line : List ℕ) (core : ℕ) (o : Option TextRow) → text_out core (shared_in line core o) ≡ out_spot core o
out_is line core None = refl
out_is line core (Some t) = refl

in_is : (line : List ℕ) (core : ℕ) (o : Option TextRow) → text_in_core (shared_in line core o) ≡ in_spot o
in_is line core None = refl
in_is line core (Some t) = refl

spot_same : (v : Stock) (o : Owner) → IsSound v → spot_of (kept_of v) o ≡ spot v o
spot_same v (RowOf s) h =
    let r : Row = row_at v.rows s in
    ap (λ c. keeping_spot c (keeping (kept_of v) s)) (core_kept v) ∙ ap (keeping_spot v.core) (slot_at v s)
    ∙ spot_is v.line v.core (text_for v.line v.core v.texts r.text) r.state r.data_size r.stack_size (h.rows s)
spot_same v (OutOf t) h = ap (λ c. text_out c (shared (kept_of v) t)) (core_kept v) ∙ ap (text_out v.core) (shared_at v t) ∙ out_is v.line v.core (text_at v.texts t)
spot_same v (InOf t) h = ap text_in_core (shared_at v t) ∙ in_is v.line v.core (text_at v.texts t)

-- an entry by its row
pub entry_of : (line : List ℕ) (core : ℕ) (o : Option TextRow) (x : Shared) → shared_in line core o ≡ Some x → (o ≡ Some x.row) × (x.bytes ≡ text_in line core (Some x.row))
entry_of line core None x e = absurd (cc e)
entry_of line core (Some t) x e = let same : (let y : Shared = record { row = t; bytes = text_in line core (Some t) } in y) ≡ x = cc e in
    (ap (λ (y : Shared). Some y.row) same, sym (ap (λ (y : Shared). y.bytes) same) ∙ ap (λ (y : Shared). text_in line core (Some y.row)) same)

module _ (a : Lists) (v : Stock) (is : v.line ≡ line_of a) (cut : length a.core ≡ 64 * v.core) (h : IsSound v) where
  image_there : (s : ℕ) (held : Held) → keeping (kept_of v) s ≡ Alive held → bytes_at a.core a.swap held.place (64 * clicks_of held.u) ≡ image_bytes held
  image_there s held has =
      let r : Row = row_at v.rows s in
      let here : keeping_in v.line v.core v.texts r ≡ Alive held = sym (slot_at v s) ∙ has in
      let inside = inside_bytes v.line v.core (text_for v.line v.core v.texts r.text) r.state r.data_size r.stack_size held (h.rows s) here in
      sym (at_place_is a v.core held.place (clicks_of held.u) cut inside)
      ∙ ap (λ x. part x (place_at v.core held.place) (64 * clicks_of held.u)) (sym is)
      ∙ held_bytes v.line v.core (text_for v.line v.core v.texts r.text) r.state r.data_size r.stack_size held (h.rows s) here

  core_holding : CoreHolds a.core (kept_of v)
  unfolding text_in
  core_holding = record {
    size = cut ∙ ap (λ i. 64 * i) (sym (core_kept v));
    images = λ s held click has at. sym (ap (λ p. bytes_at a.core a.swap p (64 * clicks_of held.u)) at) ∙ image_there s held has;
    texts = λ t x has ne.
        let e = entry_of v.line v.core (text_at v.texts t) x (sym (shared_at v t) ∙ has) in
        let own = h.texts t x.row e.0 in
        let w = own.within ne in
        let low = w.0 in
        let high = w.1 in
        sym (part-left a.core a.swap (64 * (x.row.at - 1)) (64 * x.row.clicks) (omega (arith, cut, low, high)))
        ∙ ap (λ y. part y (64 * (x.row.at - 1)) (64 * x.row.clicks)) (sym is) ∙ own.copy ne ∙ sym e.1;
  }

  swap_holding : SwapHolds a.swap (kept_of v)
  unfolding text_in
  swap_holding =
      let z = h.size in
      let both : length (line_of a) ≡ length a.core + length a.swap = length-append a.core a.swap in
      let all : length v.line ≡ length (line_of a) = ap length is in
      record {
        size = omega (arith, z, both, all, cut);
        images = λ s held block has at. sym (ap (λ p. bytes_at a.core a.swap p (64 * clicks_of held.u)) at) ∙ image_there s held has;
        graves = λ s u b has.
            let r : Row = row_at v.rows s in
            let k = grave_bytes v.line v.core (text_for v.line v.core v.texts r.text) r.state r.data_size r.stack_size u b (h.rows s) (sym (slot_at v s) ∙ has) in
            sym (part-right a.core a.swap (swap_at v.core b) (512 * (b - 4000)) 512 (omega (arith, cut))) ∙ ap (λ x. part x (swap_at v.core b) 512) (sym is) ∙ k.0;
        texts = λ t x has.
            let e = entry_of v.line v.core (text_at v.texts t) x (sym (shared_at v t) ∙ has) in
            sym (part-right a.core a.swap (swap_at v.core x.row.block) (512 * (x.row.block - 4000)) (64 * x.row.clicks) (omega (arith, cut)))
            ∙ ap (λ y. part y (swap_at v.core x.row.block) (64 * x.row.clicks)) (sym is) ∙ sym e.1;
      }

  pub holding : MemoryHolds a.core a.swap (kept_of v)
  holding = record {
    in_core = core_holding;
    in_swap = swap_holding;
    apart = λ o p ne. subst (λ y. AreApart y (spot_of (kept_of v) p)) (sym (spot_same v o h)) (subst (AreApart (spot v o)) (sym (spot_same v p h)) (h.apart o p ne));
  }

pub holds : (a : Lists) (v : Stock) (k : Kept) → kept_of v ≡ k → v.line ≡ line_of a → length a.core ≡ 64 * v.core → IsSound v → MemoryHolds a.core a.swap k
holds a v k view is cut h = subst (MemoryHolds a.core a.swap) view (holding a v is cut h)

-- the bytes of the images hold what is kept
pub held_by : {a : Inside} {k : ImagesState} → AreImages a → state_of a ≡ k → MemoryHolds k.core k.swap k.kept
held_by {a} i e = subst (λ (k : ImagesState). MemoryHolds k.core k.swap k.kept) e (holds a.memory (stock_in a) (kept_in a) refl refl i.cut i.sound)

-- Whose byte stands at a place: the row that has it is found, and where none has it, it is nobody's.
use Rattle.std.proofs.Common.{◌≡◌, ◌∙◌, ℕ, ◌+◌, ◌-◌, ◌*◌, ◌<◌, ◌≤◌, ◌⊎◌, inl, inr, Bool, true, false, cond, List, length, get_or, Some, None, refl, sym, ap, subst, arith}
use Rattle.std.specs.List.{position, position_or_len}
use Rattle.std.proofs.lemmas.Grind.{common_steps}
use Rattle.std.proofs.lemmas.Bool.{false≢true, cases_lt, lt-ltb, le-ltb}
use Rattle.std.proofs.lemmas.List.Quantifiers.{position-Some}
use Rattle.std.proofs.lemmas.List.Sums.{fails_before_first}
use Rattle.v6_base.specs.declared.entry.Place.{Place}
use Rattle.v6_base.specs.declared.entry.Place.TheVariants.{Core, Swap}
use Rattle.v6_base.specs.declared.named.Named.{Named}
use Rattle.v6_base.specs.declared.named.Named.TheVariants.{InText, InData, InStack}
use Rattle.v6_base.specs.declared.named.Named.TheVariants as named_is
use Rattle.v6_base.specs.Image.{Image}
use Rattle.v6_base.specs.Words.{IsWithin}
use Rattle.core_mem.proofs.Parts.{length-part}
use Rattle.image_keep.specs.declared.row.State.{State}
use Rattle.image_keep.specs.declared.row.State.TheVariants as state
use Rattle.image_keep.specs.declared.row.Row.{Row}
use Rattle.image_keep.specs.Kept.{Kept, Held, HasImage, keeping, place_in, image_in, image_of, is_alive}
use Rattle.image_keep.specs.Memory.{Stock, no_row, row_at, place_at, clicks_in, kept_of, IsIn, IsSound}
use Rattle.image_keep.specs.Counts.{IsCounted}
use Rattle.image_keep.specs.Deposits.{memory_size, is_out, first_byte, StandsAt, IsByteOf, IsNobodys}
use Rattle.image_keep.specs.ByteOf.{line_place, byte_from, byte_by, byte_of, is_some_byte, has_byte}
use Rattle.image_keep.proofs.Frames.{alive_image}
use Rattle.image_keep.proofs.Places.{slot_at}
use Rattle.image_keep.proofs.Moves.{fits_in}
use Rattle.image_keep.proofs.Own.{own_means}
use Rattle.image_keep.proofs.InPlan.{core_kept}
use Rattle.image_keep.proofs.Facts.{Facts, facts}
use Rattle.image_keep.proofs.Growing.{image_parts}

-- A search that finds nothing has seen each one fail.
none_passes : {X : Type 0} (p : X → Bool) (xs : List X) (d : X) → position p xs ≡ None → (k : ℕ) → k < length xs → p (get_or xs k d) ≡ false
none_passes p xs d e k low =
    let past : length xs ≤ position_or_len p xs = grind (arith, common_steps) in
    fails_before_first p xs k d (omega arith)

-- what stands at a place, where data begin and a stack behind them
data Standing (start d k at : ℕ) (byte : Named) : Type 0 where
  OfData : (i : ℕ) → byte ≡ InData i → at ≡ start + i → i < d → Standing start d k at byte
  OfStack : (i : ℕ) → byte ≡ InStack i → at ≡ start + d + i → i < k → Standing start d k at byte
  OfNone : byte ≡ named_is.Nothing → (at < start) ⊎ (start + d + k ≤ at) → Standing start d k at byte

standing_by : (start d k at : ℕ) → (at < start) ⊎ (start ≤ at) → (at < start + d) ⊎ (start + d ≤ at) → (at < start + d + k) ⊎ (start + d + k ≤ at) → Standing start d k at (byte_from start d k at)
standing_by start d k at (inl a) y z = OfNone (rw (lt-ltb at start a) refl) (inl a)
standing_by start d k at (inr a) (inl b) z = OfData (at - start) (rw (le-ltb at start a, lt-ltb at (start + d) b) refl) (omega (arith, a)) (omega (arith, a, b))
standing_by start d k at (inr a) (inr b) (inl c) = OfStack (at - (start + d)) (rw (le-ltb at start a, le-ltb at (start + d) b, lt-ltb at (start + d + k) c) refl) (omega (arith, b)) (omega (arith, b, c))
standing_by start d k at (inr a) (inr b) (inr c) = OfNone (rw (le-ltb at start a, le-ltb at (start + d) b, le-ltb at (start + d + k) c) refl) (inr c)

standing : (start d k at : ℕ) → Standing start d k at (byte_from start d k at)
standing start d k at = standing_by start d k at (cases_lt at start) (cases_lt at (start + d)) (cases_lt at (start + d + k))

-- the same place in the line, and in core or in the swap area
record Side (place : Place) (swap : Bool) (at j : ℕ) : Type 0 where
  side : is_out place ≡ swap
  there : at ≡ first_byte place + j

side_of : (core n at p j : ℕ) (place : Place) (swap : Bool) → IsIn core place n → p ≡ line_place core swap at → at < cond swap 446464 (64 * core) → p ≡ place_at core place + j → j < 64 * n → Side place swap at j
side_of core n at p j (Core c) false i e low f g = record { side = refl; there = omega (arith, e, f) }
side_of core n at p j (Core c) true i e low f g = absurd (let a = i.0 in let b = i.1 in omega (arith, a, b, e, f, g))
side_of core n at p j (Swap b) false i e low f g = absurd (omega (arith, e, low, f))
side_of core n at p j (Swap b) true i e low f g = record { side = refl; there = omega (arith, e, f) }

pub line_of_side : (core at p j : ℕ) (place : Place) (swap : Bool) → p ≡ line_place core swap at → is_out place ≡ swap → at ≡ first_byte place + j → p ≡ place_at core place + j
line_of_side core at p j (Core c) false e f g = omega (arith, e, g)
line_of_side core at p j (Core c) true e f g = absurd (cc f)
line_of_side core at p j (Swap b) false e f g = absurd (cc f)
line_of_side core at p j (Swap b) true e f g = omega (arith, e, g)

-- a row that has a byte has an image
alive_by : (core : ℕ) (st : State) (d k p : ℕ) → is_some_byte (byte_by core st d k p) ≡ true → (place : Place) × (st ≡ state.Alive place)
alive_by core state.Nothing d k p e = absurd (false≢true e)
alive_by core (state.Alive place) d k p e = (place, refl)
alive_by core (state.Grave b) d k p e = absurd (false≢true e)

-- a slot's image, by its row
record RowImage (v : Stock) (k : Kept) (s : ℕ) (held : Held) : Type 0 where
  facts_are : Facts v s held.place
  data_long : length held.image.data ≡ 64 * (row_at v.rows s).data_size
  stack_long : length held.image.stack ≡ 64 * (row_at v.rows s).stack_size

imaged : (v : Stock) (k : Kept) (s : ℕ) → kept_of v ≡ k → IsSound v → IsCounted v.rows v.texts → (has : HasImage k s) → RowImage v k s has.0
imaged v k s view h c has =
    let place : Place = has.0.place in
    let f : Facts v s place = facts v k s place view h c (ap place_in has.1) has in
    let r : Row = row_at v.rows s in
    let parts = sym (ap image_in has.1) ∙ ap (λ j. image_of j s) (sym view) ∙ image_parts v s place f.is in
    let g = fits_in v.core (clicks_in r) 0 place f.inside in
    let z = h.size in
    let room : place_at v.core place + 64 * clicks_in r ≤ length v.line = omega (arith, g, z) in
    record {
      facts_are = f;
      data_long = ap (λ (m : Image). length m.data) parts ∙ length-part v.line (place_at v.core place + 1024) (64 * r.data_size) (omega (arith, room));
      stack_long = ap (λ (m : Image). length m.stack) parts ∙ length-part v.line (place_at v.core place + 1024 + 64 * r.data_size) (64 * r.stack_size) (omega (arith, room));
    }

-- the row that is found has the byte
pub record IsFound (v : Stock) (k : Kept) (s : ℕ) (swap : Bool) (at : ℕ) (byte : Named) : Type 0 where
  pub low : s < length v.rows
  pub has : HasImage k s
  pub of : StandsAt has.0 swap at byte
  pub within : IsWithin (image_of k s) byte

module _ (v : Stock) (k : Kept) (s : ℕ) (swap : Bool) (at p : ℕ) (view : kept_of v ≡ k) (h : IsSound v) (c : IsCounted v.rows v.texts) (is : p ≡ line_place v.core swap at) where
  stands : (has : HasImage k s) (d e : ℕ) (byte : Named) → at < cond swap 446464 (64 * v.core) → d ≡ length has.0.image.data → e ≡ length has.0.image.stack → 1024 + d + e ≡ 64 * clicks_in (row_at v.rows s)
      → IsIn v.core has.0.place (clicks_in (row_at v.rows s)) → is_some_byte byte ≡ true → Standing (place_at v.core has.0.place + 1024) d e p byte → StandsAt has.0 swap at byte
  stands has d e byte low dl el all inside some (OfData i b at_is less) =
      let g = side_of v.core (clicks_in (row_at v.rows s)) at p (1024 + i) has.0.place swap inside is low (omega (arith, at_is)) (omega (arith, all, less)) in
      subst (StandsAt has.0 swap at) (sym b) (record { side = g.side; kind = tt; within = omega (arith, dl, less); there = g.there })
  stands has d e byte low dl el all inside some (OfStack i b at_is less) =
      let g = side_of v.core (clicks_in (row_at v.rows s)) at p (1024 + d + i) has.0.place swap inside is low (omega (arith, at_is)) (omega (arith, all, less)) in
      subst (StandsAt has.0 swap at) (sym b) (record { side = g.side; kind = tt; within = omega (arith, el, less); there = g.there ∙ ap (λ n. first_byte has.0.place + (1024 + n + i)) dl })
  stands has d e byte low dl el all inside some (OfNone b off) = absurd (false≢true (sym (ap is_some_byte b) ∙ some))

  row_is : (has : HasImage k s) → byte_of v.core (row_at v.rows s) p ≡ byte_from (place_at v.core has.0.place + 1024) (64 * (row_at v.rows s).data_size) (64 * (row_at v.rows s).stack_size) p
  row_is has = ap (λ st. byte_by v.core st (row_at v.rows s).data_size (row_at v.rows s).stack_size p) (imaged v k s view h c has).facts_are.is

  pub found : (row : Row) (byte : Named) → at < memory_size k swap → position (has_byte v.core p) v.rows ≡ Some s → row ≡ row_at v.rows s → byte ≡ byte_of v.core row p → IsFound v k s swap at byte
  found row byte low e here read =
      let r : Row = row_at v.rows s in
      let one = position-Some (has_byte v.core p) v.rows s no_row e in
      let alive = alive_by v.core r.state r.data_size r.stack_size p one.1 in
      let means = slot_at v s ∙ own_means v s alive.0 v.line alive.1 in
      let has : HasImage k s = alive_image k s (ap (λ j. is_alive (keeping j s)) (sym view) ∙ ap is_alive means) in
      let m = imaged v k s view h c has in
      let dl = m.data_long in
      let el = m.stack_long in
      let core : v.core ≡ k.core = sym (core_kept v) ∙ ap (λ (j : Kept). j.core) view in
      let there : StandsAt has.0 swap at (byte_of v.core r p) =
      stands has (64 * r.data_size) (64 * r.stack_size) (byte_of v.core r p) (subst (λ n. at < cond swap 446464 (64 * n)) (sym core) low) (sym dl) (sym el) (omega arith) m.facts_are.inside one.1
      (subst (Standing (place_at v.core has.0.place + 1024) (64 * r.data_size) (64 * r.stack_size) p) (sym (row_is has)) (standing (place_at v.core has.0.place + 1024) (64 * r.data_size) (64 * r.stack_size) p)) in
      let same : byte_of v.core r p ≡ byte = ap (λ q. byte_of v.core q p) (sym here) ∙ sym read in
      let of_it : StandsAt has.0 swap at byte = subst (StandsAt has.0 swap at) same there in
      record { low = one.0; has = has; of = of_it; within = subst (λ i. IsWithin i byte) (sym (ap image_in has.1)) of_it.within }

  -- a byte of an image is one of its row
  some_of : (has : HasImage k s) (d e : ℕ) (byte found_byte : Named) → d ≡ length has.0.image.data → e ≡ length has.0.image.stack → StandsAt has.0 swap at byte
      → Standing (place_at v.core has.0.place + 1024) d e p found_byte → is_some_byte found_byte ≡ true
  some_of has d e byte found_byte dl el st (OfData i b at_is less) = ap is_some_byte b
  some_of has d e byte found_byte dl el st (OfStack i b at_is less) = ap is_some_byte b
  some_of has d e (InText i) found_byte dl el st (OfNone b off) = absurd st.kind
  some_of has d e (InData i) found_byte dl el st (OfNone b off) =
      let f = line_of_side v.core at p (1024 + i) has.0.place swap is st.side st.there in
      let w = st.within in
      absurd (elim off [ inl l ↦ omega (arith, f, l) | inr l ↦ omega (arith, f, l, dl, w) ])
  some_of has d e (InStack i) found_byte dl el st (OfNone b off) =
      let f = line_of_side v.core at p (1024 + length has.0.image.data + i) has.0.place swap is st.side st.there in
      let w = st.within in
      absurd (elim off [ inl l ↦ omega (arith, f, l) | inr l ↦ omega (arith, f, l, dl, el, w) ])
  some_of has d e named_is.Nothing found_byte dl el st (OfNone b off) = absurd st.kind

  pub no_row_has : position (has_byte v.core p) v.rows ≡ None → (byte : Named) → IsByteOf k swap at s byte → ⊥
  no_row_has none byte of =
      let has : HasImage k s = (of.0, of.1) in
      let r : Row = row_at v.rows s in
      let m = imaged v k s view h c has in
      let fails : has_byte v.core p r ≡ false = none_passes (has_byte v.core p) v.rows no_row none s m.facts_are.low in
      let some = some_of has (64 * r.data_size) (64 * r.stack_size) byte (byte_of v.core r p) (sym m.data_long) (sym m.stack_long) of.2
      (subst (Standing (place_at v.core has.0.place + 1024) (64 * r.data_size) (64 * r.stack_size) p) (sym (row_is has)) (standing (place_at v.core has.0.place + 1024) (64 * r.data_size) (64 * r.stack_size) p)) in
      false≢true (sym fails ∙ some)

-- what nobody has
pub nobodys : (v : Stock) (k : Kept) (swap : Bool) (at p : ℕ) → kept_of v ≡ k → IsSound v → IsCounted v.rows v.texts → p ≡ line_place v.core swap at → position (has_byte v.core p) v.rows ≡ None → IsNobodys k swap at
nobodys v k swap at p view h c is none = λ s byte of. no_row_has v k s swap at p view h c is none byte of

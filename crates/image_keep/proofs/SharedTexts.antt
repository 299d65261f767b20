-- Texts that are made, filled, joined and left.
use Rattle.std.proofs.Common.{◌≡◌, ◌≢◌, ℕ, ◌+◌, ◌-◌, ◌*◌, ◌<◌, ◌≤◌, ◌==◌, inl, inr, List, [], ◌++◌, length, take, drop, map, set, cond, Bool, true, false, replicate, Option, Some, None, IsSome, refl, sym, ap, subst, ◌∙◌, arith, append_assoc}
use Rattle.std.proofs.lemmas.Bool.{cases_eq, eqb-true, eqb-false}
use Rattle.std.proofs.lemmas.List.{length-replicate, map-set, set-get_or, length-append, take_at, drop_at}
use Rattle.std.proofs.lemmas.Option.{same_Some}
use Rattle.core_mem.specs.Bytes.{part, over}
use Rattle.core_mem.proofs.Parts.{part-over_same, part-over_apart, length-part, length-over, take-over, drop-over, part-add}
use Rattle.text_tab.specs.declared.row.TextRow.{TextRow}
use Rattle.text_tab.specs.Table.{text_at, new_text}
use Rattle.image_keep.specs.declared.row.State.{State}
use Rattle.image_keep.specs.declared.row.State.TheVariants as state
use Rattle.image_keep.specs.declared.row.Row.{Row}
use Rattle.image_keep.specs.Kept.{bytes_in, keeping, with_shared, with_text_of, shared}
use Rattle.image_keep.specs.Memory.{Stock, no_row, row_at, swap_at, Spot, no_spot, spot_by, out_spot, in_spot, Owner, RowOf, OutOf, InOf, spot, AreApart, text_in, text_for, image_by, keeping_by, keeping_in, shared_in, kept_of, IsText, IsSound}
use Rattle.image_keep.specs.Places.{blocks}
use Rattle.image_keep.specs.Counts.{IsCounted}
use Rattle.image_keep.specs.SharedTexts.{zeros_text, with_new_text, filled, with_text, retexted}
use Rattle.image_keep.proofs.Writes.{Wrote, IsOff, wrote_over, wrote_none, text_off, keeping_off, holds_off, is_text_off, shared_off, map_set_but, map_set_same, four, put_row, put_sound, out_numbers, turned, apart_none}
use Rattle.image_keep.proofs.Entries.{put_text, text_kept, text_sound}
use Rattle.image_keep.proofs.Places.{slot_at, shared_at, IsFound}
use Rattle.image_keep.proofs.Moves.{off_of}

-- A new text: nobody has it, and its blocks are free.
pub made_text : (v : Stock) (t ino clicks b : ℕ) → IsSound v → IsCounted v.rows v.texts → t < length v.texts → text_at v.texts t ≡ None → 0 < clicks → IsFound v (swap_at v.core b) (512 * blocks clicks) 4000 4871 b (blocks clicks)
    → (let new = over v.line (swap_at v.core b) (replicate (64 * clicks) 0) in
    IsSound (put_text v t (Some (new_text ino clicks b)) new) × (kept_of (put_text v t (Some (new_text ino clicks b)) new) ≡ with_shared (kept_of v) t (Some (zeros_text ino clicks b))))
unfolding text_in
made_text v t ino clicks b h c l none some f =
    let z = h.size in
    let low = f.low in
    let high = f.high in
    let bytes : List ℕ = replicate (64 * clicks) 0 in
    let long : length bytes ≡ 64 * clicks = length-replicate (64 * clicks) 0 in
    let new = over v.line (swap_at v.core b) bytes in
    let e : ℕ = swap_at v.core b + 512 * blocks clicks in
    let row : TextRow = new_text ino clicks b in
    let range : Spot = record { at = swap_at v.core b; size = 512 * blocks clicks } in
    let fits : swap_at v.core b + length bytes ≤ length v.line = omega (arith, z, low, high, long) in
    let w : Wrote v.line new (swap_at v.core b) e = wrote_over v.line (swap_at v.core b) e bytes fits (omega (arith, long)) in
    let off = λ (p : Owner). off_of range (spot v p) e (f.free p) refl in
    let there : part new (swap_at v.core b) (64 * clicks) ≡ bytes = part-over_same v.line (swap_at v.core b) bytes (64 * clicks) long (omega (arith, fits, long)) in
    let nobody = λ (s : ℕ) (x : (row_at v.rows s).text ≡ Some t). no_entry (text_at v.texts t) none (c.used s t x) in (
      text_sound v t (Some row) new (swap_at v.core b) e h l w (λ p n m. off p)
          (λ r q. subst (IsText new v.core) (same_Some row r q) (record {
            some = some;
            out = (low, omega (arith, high));
            within = λ ne. absurd (ne refl);
            copy = λ ne. absurd (ne refl);
          }))
          (record {
            out = λ p n m. f.free p;
            inner = λ p n m. apart_none (spot v p);
            both = turned no_spot range (apart_none range);
          }),
      text_kept v t (Some row) new (swap_at v.core b) e l w (λ s. off (RowOf s)) (λ u ne. off (OutOf u)) (λ s x. absurd (nobody s x))
          ∙ ap (λ x. with_shared (kept_of v) t (Some (record { row = row; bytes = x }))) there,
    )
  where
    no_entry : (o : Option TextRow) → o ≡ None → IsSome o → ⊥
    no_entry None e some = cc some
    no_entry (Some r) e some = cc e

-- A slot without an image takes a text, or leaves one.
pub text_row_kept : (v : Stock) (s : ℕ) (x : Option ℕ) → (row_at v.rows s).state ≡ state.Nothing → kept_of (put_row v s (record (row_at v.rows s) { text = x }) v.line) ≡ with_text_of (kept_of v) s x
unfolding kept_of keeping_by
text_row_kept v s x is =
    let r : Row = row_at v.rows s in
    four _ _ _ _ _ _ v.core
    (map_set_same (keeping_in v.line v.core v.texts) v.rows no_row s (record r { text = x })
    (ap (λ st. keeping_by v.line v.core (text_for v.line v.core v.texts x) st r.data_size r.stack_size) is
    ∙ sym (ap (λ st. keeping_by v.line v.core (text_for v.line v.core v.texts r.text) st r.data_size r.stack_size) is)))
    refl
    (map-set (λ (q : Row). q.text) v.rows s (record r { text = x }))

pub text_row_sound : (v : Stock) (s : ℕ) (x : Option ℕ) → IsSound v → s < length v.rows → IsSound (put_row v s (record (row_at v.rows s) { text = x }) v.line)
text_row_sound v s x h l =
    put_sound v s (record (row_at v.rows s) { text = x }) v.line 0 0 h l (wrote_none v.line 0 0) (λ p ne. inr (omega arith)) (λ p ne. h.apart (RowOf s) p (λ e. ne (sym e))) (h.rows s)

pub new_text_kept : (v : Stock) (s t ino clicks b : ℕ) → IsSound v → IsCounted v.rows v.texts → t < length v.texts → text_at v.texts t ≡ None → 0 < clicks → (row_at v.rows s).state ≡ state.Nothing
    → IsFound v (swap_at v.core b) (512 * blocks clicks) 4000 4871 b (blocks clicks)
    → (let w : Stock = put_text v t (Some (new_text ino clicks b)) (over v.line (swap_at v.core b) (replicate (64 * clicks) 0)) in
    kept_of (put_row w s (record (row_at v.rows s) { text = Some t }) w.line) ≡ with_new_text (kept_of v) s t ino clicks b)
unfolding with_new_text
new_text_kept v s t ino clicks b h c l none some is f =
    let w : Stock = put_text v t (Some (new_text ino clicks b)) (over v.line (swap_at v.core b) (replicate (64 * clicks) 0)) in
    text_row_kept w s (Some t) is ∙ ap (λ k. with_text_of k s (Some t)) (made_text v t ino clicks b h c l none some f).1

over_mid : (x y z : List ℕ) (i : ℕ) (ys : List ℕ) → length x ≡ i → length y ≡ length ys → over (x ++ (y ++ z)) i ys ≡ x ++ (ys ++ z)
unfolding over
over_mid x y z i ys e f =
    let a : take i (x ++ (y ++ z)) ≡ x = take_at x (y ++ z) i e in
    let long : length (x ++ y) ≡ i + length ys = length-append x y ∙ omega (arith, e, f) in
    let b : drop (i + length ys) (x ++ (y ++ z)) ≡ z = ap (drop (i + length ys)) (sym (append_assoc x y z)) ∙ drop_at (x ++ y) z (i + length ys) long in
    ap (λ t. t ++ (ys ++ drop (i + length ys) (x ++ (y ++ z)))) a ∙ ap (λ t. x ++ (ys ++ t)) b

-- Bytes are put into a text that is not in core.
pub part_filled : (line : List ℕ) (a n at : ℕ) (bytes : List ℕ) → at + length bytes ≤ n → a + n ≤ length line → part (over line (a + at) bytes) a n ≡ over (part line a n) at bytes
part_filled line a n at bytes fits inside =
    let m : ℕ = length bytes in
    let rest : ℕ = n - (at + m) in
    let k : n ≡ at + (m + rest) = omega arith in
    let new : List ℕ = over line (a + at) bytes in
    let one : part new a at ≡ part line a at = part-over_apart line (a + at) bytes a at (omega arith) (inl (omega arith)) in
    let two : part new (a + at) m ≡ bytes = part-over_same line (a + at) bytes m refl (omega arith) in
    let three : part new (a + at + m) rest ≡ part line (a + at + m) rest = part-over_apart line (a + at) bytes (a + at + m) rest (omega arith) (inr (omega arith)) in
    let cut : part line a n ≡ part line a at ++ (part line (a + at) m ++ part line (a + at + m) rest) = ap (part line a) k ∙ part-add line a at (m + rest) ∙ ap (λ x. part line a at ++ x) (part-add line (a + at) m rest) in
    let long : length (part line a at) ≡ at = length-part line a at (omega arith) in
    let mid : length (part line (a + at) m) ≡ m = length-part line (a + at) m (omega arith) in
    ap (part new a) k ∙ part-add new a at (m + rest) ∙ ap (λ x. part new a at ++ x) (part-add new (a + at) m rest)
    ∙ joined (part new a at) (part line a at) (part new (a + at) m) bytes (part new (a + at + m) rest) (part line (a + at + m) rest) one two three
    ∙ sym (written (part line a at) (part line (a + at) m) (part line (a + at + m) rest) at bytes long mid)
    ∙ ap (λ x. over x at bytes) (sym cut)
  where
    joined : (a a' b b' c c' : List ℕ) → a ≡ a' → b ≡ b' → c ≡ c' → a ++ (b ++ c) ≡ a' ++ (b' ++ c')
    joined a a' b b' c c' e f g = cc

    written : (x y z : List ℕ) (i : ℕ) (ys : List ℕ) → length x ≡ i → length y ≡ length ys → over (x ++ (y ++ z)) i ys ≡ x ++ (ys ++ z)
    written x y z i ys e f = over_mid x y z i ys e f

-- a row with that text, and one with another
row_filled : (line new : List ℕ) (core : ℕ) (st : State) (d k : ℕ) (text text2 : List ℕ) (a e : ℕ) → Wrote line new a e → IsOff (spot_by core st (16 + d + k)) a e
    → keeping_by new core text2 st d k ≡ with_text text2 (keeping_by line core text st d k)
unfolding keeping_by image_by
row_filled line new core state.Nothing d k text text2 a e w off = refl
row_filled line new core (state.Alive place) d k text text2 a e w off = keeping_off line new core a e text2 (state.Alive place) d k w off
row_filled line new core (state.Grave b) d k text text2 a e w off = keeping_off line new core a e text2 (state.Grave b) d k w off

pub record Filled (v : Stock) (t : ℕ) (row : TextRow) (at : ℕ) (bytes : List ℕ) : Type 0 where
  pub sound : IsSound (record v { line = over v.line (swap_at v.core row.block + at) bytes })
  pub texts : (kept_of (record v { line = over v.line (swap_at v.core row.block + at) bytes })).texts ≡ set (kept_of v).texts t (filled at bytes (shared (kept_of v) t))
  pub slots : (s : ℕ) → keeping (kept_of (record v { line = over v.line (swap_at v.core row.block + at) bytes })) s
      ≡ retexted t (bytes_in (filled at bytes (shared (kept_of v) t))) (row_at v.rows s).text (keeping (kept_of v) s)
  pub users : (kept_of (record v { line = over v.line (swap_at v.core row.block + at) bytes })).users ≡ (kept_of v).users
  pub core : (kept_of (record v { line = over v.line (swap_at v.core row.block + at) bytes })).core ≡ v.core

pub fills : (v : Stock) (t : ℕ) (row : TextRow) (at : ℕ) (bytes : List ℕ) → IsSound v → text_at v.texts t ≡ Some row → row.loaded ≡ 0 → at + length bytes ≤ 64 * row.clicks → Filled v t row at bytes
unfolding kept_of text_in text_for
fills v t row at bytes h here out fits =
    let z = h.size in
    let own = h.texts t row here in
    let o = own.out in
    let a0 = o.0 in
    let b0 = o.1 in
    let a : ℕ = swap_at v.core row.block in
    let e : ℕ = a + 512 * blocks row.clicks in
    let new : List ℕ = over v.line (a + at) bytes in
    let inside : a + 64 * row.clicks ≤ length v.line = omega (arith, z, a0, b0) in
    let w : Wrote v.line new a e = record {
      below = below v.line a at bytes (omega (arith, inside, fits));
      above = drop-over v.line (a + at) bytes e (omega (arith, fits)) (omega (arith, inside, fits));
      size = length-over v.line (a + at) bytes (omega (arith, inside, fits));
    } in
    let mine : spot v (OutOf t) ≡ record { at = a; size = 512 * blocks row.clicks } = ap (out_spot v.core) here in
    let off = λ (p : Owner) (ne : p ≢ OutOf t). off_of (record { at = a; size = 512 * blocks row.clicks }) (spot v p) e (subst (λ y. AreApart y (spot v p)) mine (h.apart (OutOf t) p (λ d. ne (sym d)))) refl in
    let text : text_in new v.core (Some row) ≡ over (part v.line a (64 * row.clicks)) at bytes = part_filled v.line a (64 * row.clicks) at bytes fits inside in
    let is : filled at bytes (shared_in v.line v.core (text_at v.texts t)) ≡ Some (record { row = row; bytes = over (part v.line a (64 * row.clicks)) at bytes }) = ap (λ x. filled at bytes (shared_in v.line v.core x)) here in
    let entry : filled at bytes (shared (kept_of v) t) ≡ Some (record { row = row; bytes = over (part v.line a (64 * row.clicks)) at bytes }) = ap (filled at bytes) (shared_at v t) ∙ is in
    let now : shared_in new v.core (text_at v.texts t) ≡ filled at bytes (shared (kept_of v) t) =
    ap (shared_in new v.core) here ∙ ap (λ x. Some (record { row = row; bytes = x })) text ∙ sym entry in
    let same_entry : v.texts ≡ set v.texts t (text_at v.texts t) = sym (set-get_or v.texts t None) in
    record {
      sound = record {
        slots = h.slots;
        size = w.size ∙ h.size;
        least = h.least;
        most = h.most;
        rows = λ s. holds_off v.line new v.core a e (row_at v.rows s).state (row_at v.rows s).data_size (row_at v.rows s).stack_size w (off (RowOf s) (λ x. cc x)) (h.rows s);
        texts = λ u r there. elim (cases_eq u t) [
          | inl d ↦
              (let q : r ≡ row = same_Some r row (sym there ∙ ap (text_at v.texts) d ∙ here) in
              subst (IsText new v.core) (sym q) (record { some = own.some; out = own.out; within = λ ne. absurd (ne out); copy = λ ne. absurd (ne out) }))
          | inr ne ↦ is_text_off v.line new v.core a e r w
              (subst (λ x. IsOff (out_spot v.core x) a e) there (off (OutOf u) (λ x. ne (out_numbers u t x))))
              (subst (λ x. IsOff (in_spot x) a e) there (off (InOf u) (λ x. cc x)))
              (h.texts u r there)
        ];
        apart = h.apart;
      };
      texts = ap (map (shared_in new v.core)) same_entry
          ∙ map_set_but (shared_in v.line v.core) (shared_in new v.core) v.texts None t (text_at v.texts t) (λ u ne. shared_off v.line new v.core a e (text_at v.texts u) w (off (OutOf u) (λ x. ne (out_numbers u t x))))
          ∙ ap (set (map (shared_in v.line v.core) v.texts) t) now;
      slots = λ s. slot_at (record v { line = new }) s ∙ one s entry text w off ∙ ap (retexted t (bytes_in (filled at bytes (shared (kept_of v) t))) (row_at v.rows s).text) (sym (slot_at v s));
      users = refl;
      core = refl;
    }
  where
    below : (line : List ℕ) (a at : ℕ) (ys : List ℕ) → a + at + length ys ≤ length line → take a (over line (a + at) ys) ≡ take a line
    below line a at ys l = take-over line (a + at) ys a (omega arith) l

    one : (s : ℕ) → filled at bytes (shared (kept_of v) t) ≡ Some (record { row = row; bytes = over (part v.line (swap_at v.core row.block) (64 * row.clicks)) at bytes })
        → text_in (over v.line (swap_at v.core row.block + at) bytes) v.core (Some row) ≡ over (part v.line (swap_at v.core row.block) (64 * row.clicks)) at bytes
        → Wrote v.line (over v.line (swap_at v.core row.block + at) bytes) (swap_at v.core row.block) (swap_at v.core row.block + 512 * blocks row.clicks)
        → ((p : Owner) → p ≢ OutOf t → IsOff (spot v p) (swap_at v.core row.block) (swap_at v.core row.block + 512 * blocks row.clicks))
        → keeping_in (over v.line (swap_at v.core row.block + at) bytes) v.core v.texts (row_at v.rows s)
        ≡ retexted t (bytes_in (filled at bytes (shared (kept_of v) t))) (row_at v.rows s).text (keeping_in v.line v.core v.texts (row_at v.rows s))
    one s entry text w off = by (row_at v.rows s).text refl
      where
        r : Row
        r = row_at v.rows s

        by : (x : Option ℕ) → (row_at v.rows s).text ≡ x → keeping_by (over v.line (swap_at v.core row.block + at) bytes) v.core (text_for (over v.line (swap_at v.core row.block + at) bytes) v.core v.texts x) (row_at v.rows s).state (row_at v.rows s).data_size (row_at v.rows s).stack_size
            ≡ retexted t (bytes_in (filled at bytes (shared (kept_of v) t))) x (keeping_by v.line v.core (text_for v.line v.core v.texts x) (row_at v.rows s).state (row_at v.rows s).data_size (row_at v.rows s).stack_size)
        by None d = keeping_off v.line (over v.line (swap_at v.core row.block + at) bytes) v.core (swap_at v.core row.block) (swap_at v.core row.block + 512 * blocks row.clicks) [] (row_at v.rows s).state (row_at v.rows s).data_size (row_at v.rows s).stack_size w (off (RowOf s) (λ x. cc x))
        by (Some k) d = at_text (k == t) refl
          where
            at_text : (b : Bool) → (k == t) ≡ b → keeping_by (over v.line (swap_at v.core row.block + at) bytes) v.core (text_in (over v.line (swap_at v.core row.block + at) bytes) v.core (text_at v.texts k)) (row_at v.rows s).state (row_at v.rows s).data_size (row_at v.rows s).stack_size
                ≡ cond b (with_text (bytes_in (filled at bytes (shared (kept_of v) t))) (keeping_by v.line v.core (text_in v.line v.core (text_at v.texts k)) (row_at v.rows s).state (row_at v.rows s).data_size (row_at v.rows s).stack_size))
                (keeping_by v.line v.core (text_in v.line v.core (text_at v.texts k)) (row_at v.rows s).state (row_at v.rows s).data_size (row_at v.rows s).stack_size)
            at_text true g =
                let new_text_is : text_in (over v.line (swap_at v.core row.block + at) bytes) v.core (text_at v.texts k) ≡ bytes_in (filled at bytes (shared (kept_of v) t)) =
                ap (λ j. text_in (over v.line (swap_at v.core row.block + at) bytes) v.core (text_at v.texts j)) (eqb-true k t g) ∙ ap (text_in (over v.line (swap_at v.core row.block + at) bytes) v.core) here ∙ text ∙ sym (ap bytes_in entry) in
                ap (λ x. keeping_by (over v.line (swap_at v.core row.block + at) bytes) v.core x (row_at v.rows s).state (row_at v.rows s).data_size (row_at v.rows s).stack_size) new_text_is
                ∙ row_filled v.line (over v.line (swap_at v.core row.block + at) bytes) v.core (row_at v.rows s).state (row_at v.rows s).data_size (row_at v.rows s).stack_size (text_in v.line v.core (text_at v.texts k)) (bytes_in (filled at bytes (shared (kept_of v) t)))
                (swap_at v.core row.block) (swap_at v.core row.block + 512 * blocks row.clicks) w (off (RowOf s) (λ x. cc x))
            at_text false g =
                ap (λ x. keeping_by (over v.line (swap_at v.core row.block + at) bytes) v.core x (row_at v.rows s).state (row_at v.rows s).data_size (row_at v.rows s).stack_size)
                (text_off v.line (over v.line (swap_at v.core row.block + at) bytes) v.core (swap_at v.core row.block) (swap_at v.core row.block + 512 * blocks row.clicks) (text_at v.texts k) w (off (OutOf k) (λ x. eqb-false k t g (out_numbers k t x))))
                ∙ keeping_off v.line (over v.line (swap_at v.core row.block + at) bytes) v.core (swap_at v.core row.block) (swap_at v.core row.block + 512 * blocks row.clicks) (text_in v.line v.core (text_at v.texts k)) (row_at v.rows s).state (row_at v.rows s).data_size (row_at v.rows s).stack_size w (off (RowOf s) (λ x. cc x))

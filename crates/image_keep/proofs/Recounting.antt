-- The table of texts counts users, and those of them in core: what that leaves of ranges, of maps and of what is kept.
use Rattle.std.proofs.Common.{◌≡◌, ◌≢◌, ℕ, ◌+◌, ◌<◌, ◌==◌, ◌&&◌, ◌||◌, inl, inr, List, length, set, cond, Bool, true, false, Option, Some, None, IsSome, refl, sym, ap, subst, ◌∙◌, arith}
use Rattle.std.proofs.lemmas.Bool.{cases_lt, cases_eq, ne_eqb}
use Rattle.std.proofs.lemmas.List.{get_or-set_same, get_or-set_other, get_or_past, set-get_or, set-set}
use Rattle.std.proofs.lemmas.Option.{same_Some}
use Rattle.v6_base.specs.declared.entry.Place.{Place}
use Rattle.v6_base.specs.declared.entry.Place.TheVariants.{Core, Swap}
use Rattle.text_tab.specs.declared.row.TextRow.{TextRow}
use Rattle.text_tab.specs.Table.{text_at, joined, loaded_at, with_change, row_of as text_row_of, row_at as text_row, IsUsed}
use Rattle.map_fit.specs.declared.holes.Hole.{Hole}
use Rattle.map_fit.specs.Free.{is_free}
use Rattle.image_keep.specs.declared.row.Row.{Row}
use Rattle.image_keep.specs.Kept.{Kept, Shared, shared, with_shared, changed}
use Rattle.image_keep.specs.Memory.{Stock, row_at, shared_in, kept_of, IsSound}
use Rattle.image_keep.specs.Maps.{AreMaps}
use Rattle.image_keep.specs.Moves.{leave_texts, moved_row, moved_entries, moved_texts, moving_units, forked_row, forked_entries, forked_texts}
use Rattle.image_keep.specs.Counts.{IsCounted, is_text, is_in_core, has_text, has_loaded}
use Rattle.image_keep.proofs.Entries.{put_text, text_counted}
use Rattle.image_keep.proofs.Places.{shared_at}
use Rattle.image_keep.proofs.Leaving.{entry_kept}
use Rattle.image_keep.proofs.TextMaps.{maps_same}
use Rattle.image_keep.proofs.SwapOut.{LeftCore, left_core, maps_eq, still_spots}
use Rattle.image_keep.proofs.Counting.{one, counted, not_same}

-- an entry whose ranges stay
pub record SameRanges (old new : TextRow) : Type 0 where
  pub clicks : new.clicks ≡ old.clicks
  pub block : new.block ≡ old.block
  pub at : new.at ≡ old.at
  pub zero : (new.loaded == 0) ≡ (old.loaded == 0)

pub joined_ranges : (row : TextRow) → SameRanges row (joined row)
joined_ranges row = record { clicks = refl; block = refl; at = refl; zero = refl }

pub loaded_ranges : (row : TextRow) (click : ℕ) → row.loaded ≢ 0 → SameRanges row (loaded_at click row)
loaded_ranges row click some = record {
  clicks = refl;
  block = refl;
  at = ap (λ b. cond b click row.at) (ne_eqb row.loaded 0 some);
  zero = ne_eqb (row.loaded + 1) 0 (λ e. omega (arith, e)) ∙ sym (ne_eqb row.loaded 0 some);
}

pub record Recounted (v w : Stock) (core_map swap_map : List Hole) (k : Kept) : Type 0 where
  pub sound : IsSound w
  pub maps : AreMaps w core_map swap_map
  pub kept : kept_of w ≡ k

used_row : (o : Option TextRow) → IsSome o → o ≡ Some (text_row_of o)
used_row None e = absurd (cc e)
used_row (Some row) e = refl

-- One entry counts otherwise, and all else stays.
pub recounted : (v : Stock) (t : ℕ) (rule : TextRow → TextRow) (core_map swap_map : List Hole) → IsSound v → AreMaps v core_map swap_map → IsUsed v.texts t → SameRanges (text_row v.texts t) (rule (text_row v.texts t))
    → Recounted v (record v { texts = with_change v.texts t rule }) core_map swap_map (with_shared (kept_of v) t (changed rule (shared (kept_of v) t)))
recounted v t rule core_map swap_map h maps used same =
    let row : TextRow = text_row v.texts t in
    let new : TextRow = rule row in
    let here : text_at v.texts t ≡ Some row = used_row (text_at v.texts t) used in
    record {
      sound = text_counted v t row new h here same.clicks same.block same.at same.zero;
      maps = maps_same v (put_text v t (Some new) v.line) core_map swap_map refl (still_spots v t row new here same.clicks same.block same.at same.zero) maps;
      kept = entry_kept v t row new here same.clicks same.block
          ∙ sym (ap (λ o. with_shared (kept_of v) t (changed rule o)) (shared_at v t ∙ ap (shared_in v.line v.core) here));
    }

-- an entry that stays as it is
pub same_entry : (texts : List (Option TextRow)) (t : ℕ) → IsUsed texts t → with_change texts t (λ row. row) ≡ texts
same_entry texts t used = ap (set texts t) (sym (used_row (text_at texts t) used)) ∙ set-get_or texts t None

same_change : (x : Option Shared) → changed (λ row. row) x ≡ x
same_change None = refl
same_change (Some x) = refl

pub same_shared : (k : Kept) (t : ℕ) → with_shared k t (changed (λ row. row) (shared k t)) ≡ k
same_shared k t = ap (with_shared k t) (same_change (shared k t)) ∙ ap (λ (l : List (Option Shared)). record k { texts = l }) (set-get_or k.texts t None)

stays : (v : Stock) (t : ℕ) (core_map core_new swap_map : List Hole) → IsSound v → AreMaps v core_map swap_map → IsUsed v.texts t → ((y : ℕ) → is_free core_new y ≡ is_free core_map y)
    → Recounted v (record v { texts = with_change v.texts t (λ row. row) }) core_new swap_map (with_shared (kept_of v) t (changed (λ row. row) (shared (kept_of v) t)))
stays v t core_map core_new swap_map h maps used step =
    subst (λ l. Recounted v (record v { texts = l }) core_new swap_map (with_shared (kept_of v) t (changed (λ row. row) (shared (kept_of v) t)))) (sym (same_entry v.texts t used))
    (record { sound = h; maps = maps_eq v core_map swap_map core_new maps step; kept = sym (same_shared (kept_of v) t) })

loads : (v : Stock) (t click : ℕ) (core_map core_new swap_map : List Hole) → IsSound v → AreMaps v core_map swap_map → IsUsed v.texts t → (text_row v.texts t).loaded ≢ 0 → ((y : ℕ) → is_free core_new y ≡ is_free core_map y)
    → Recounted v (record v { texts = with_change v.texts t (loaded_at click) }) core_new swap_map (with_shared (kept_of v) t (changed (loaded_at click) (shared (kept_of v) t)))
loads v t click core_map core_new swap_map h maps used some step =
    recounted v t (loaded_at click) core_new swap_map h (maps_eq v core_map swap_map core_new maps step) used (loaded_ranges (text_row v.texts t) click some)

or_no : (b : Bool) → (b || false) ≡ b
or_no true = refl
or_no false = refl

-- The image of one who shares a text goes to another place.
pub text_moved : (v : Stock) (x : Option ℕ) (from : Option Place) (to : Place) (core_map core_new swap_map : List Hole) → IsSound v → AreMaps v core_map swap_map
    → ((t : ℕ) → x ≡ Some t → IsUsed v.texts t)
    → ((c t : ℕ) → from ≡ Some (Core c) → x ≡ Some t → 0 < (text_row v.texts t).loaded)
    → ((c t : ℕ) → to ≡ Core c → x ≡ Some t → (text_row v.texts t).loaded ≢ 0)
    → ((y : ℕ) → is_free core_new y ≡ (is_free core_map y || moving_units v.texts x from to y))
    → Recounted v (record v { texts = moved_entries v.texts x from to }) core_new swap_map (moved_texts (kept_of v) x from to)
text_moved v None from to core_map core_new swap_map h maps used some there step = record { sound = h; maps = maps_eq v core_map swap_map core_new maps (λ y. step y ∙ none from to y); kept = refl }
  where
    none : (from : Option Place) (to : Place) (y : ℕ) → (is_free core_map y || moving_units v.texts None from to y) ≡ is_free core_map y
    none None to y = or_no (is_free core_map y)
    none (Some (Core c)) (Core d) y = or_no (is_free core_map y)
    none (Some (Core c)) (Swap b) y = or_no (is_free core_map y)
    none (Some (Swap b)) to y = or_no (is_free core_map y)
text_moved v (Some t) None (Core c) core_map core_new swap_map h maps used some there step = loads v t c core_map core_new swap_map h maps (used t refl) (there c t refl refl) (λ y. step y ∙ or_no (is_free core_map y))
text_moved v (Some t) None (Swap b) core_map core_new swap_map h maps used some there step = stays v t core_map core_new swap_map h maps (used t refl) (λ y. step y ∙ or_no (is_free core_map y))
text_moved v (Some t) (Some (Core c)) (Core d) core_map core_new swap_map h maps used some there step = stays v t core_map core_new swap_map h maps (used t refl) (λ y. step y ∙ or_no (is_free core_map y))
text_moved v (Some t) (Some (Core c)) (Swap b) core_map core_new swap_map h maps used some there step =
    let left : LeftCore v (Some t) core_new swap_map = left_core v (Some t) core_map core_new swap_map h maps used (λ u e. some c u refl e) step in
    record { sound = left.sound; maps = left.maps; kept = left.kept }
text_moved v (Some t) (Some (Swap b)) (Core c) core_map core_new swap_map h maps used some there step = loads v t c core_map core_new swap_map h maps (used t refl) (there c t refl refl) (λ y. step y ∙ or_no (is_free core_map y))
text_moved v (Some t) (Some (Swap b)) (Swap d) core_map core_new swap_map h maps used some there step = stays v t core_map core_new swap_map h maps (used t refl) (λ y. step y ∙ or_no (is_free core_map y))

-- A child shares the text.
pub text_forked : (v : Stock) (x : Option ℕ) (to : Place) (core_map swap_map : List Hole) → IsSound v → AreMaps v core_map swap_map
    → ((t : ℕ) → x ≡ Some t → IsUsed v.texts t) → ((c t : ℕ) → to ≡ Core c → x ≡ Some t → (text_row v.texts t).loaded ≢ 0)
    → Recounted v (record v { texts = forked_entries v.texts x to }) core_map swap_map (forked_texts (kept_of v) x to)
text_forked v None to core_map swap_map h maps used there = record { sound = h; maps = maps; kept = refl }
text_forked v (Some t) (Core c) core_map swap_map h maps used there =
    let m = loaded_ranges (joined (text_row v.texts t)) c (there c t refl refl) in
    recounted v t (forked_row (Core c)) core_map swap_map h maps (used t refl) (record { clicks = m.clicks; block = m.block; at = m.at; zero = m.zero })
text_forked v (Some t) (Swap b) core_map swap_map h maps used there = recounted v t (forked_row (Swap b)) core_map swap_map h maps (used t refl) (joined_ranges (text_row v.texts t))

-- The counts of one entry go with one row.
pub entry_counted : (rows : List Row) (texts : List (Option TextRow)) (s t : ℕ) (row : Row) (rule : TextRow → TextRow) → s < length rows → IsCounted rows texts → IsUsed texts t → row.text ≡ Some t
    → ((u : ℕ) → u ≢ t → is_text u (row_at rows s).text ≡ false)
    → ((rule (text_row texts t)).users + one (has_text t (row_at rows s)) ≡ (text_row texts t).users + one (has_text t row))
    → ((rule (text_row texts t)).loaded + one (has_loaded t (row_at rows s)) ≡ (text_row texts t).loaded + one (has_loaded t row))
    → IsCounted (set rows s row) (with_change texts t rule)
entry_counted rows texts s t row rule l c used is old users loaded = counted rows texts (with_change texts t rule) s row l c (record {
  used = λ u f. (let d : t ≡ u = same_Some t u (sym is ∙ f) in keeps u (subst (IsUsed texts) d used));
  stays = λ u j ne f g. keeps j g;
  was = λ u new f. entry u new f;
})
  where
    past : (o : Option TextRow) → o ≡ None → IsSome o → ⊥
    past None d g = cc g
    past (Some r) d g = cc d

    low : t < length texts
    low = elim (cases_lt t (length texts)) [ inl y ↦ y | inr y ↦ absurd (past (text_at texts t) (get_or_past texts t None y) used) ]

    now : text_at (with_change texts t rule) t ≡ Some (rule (text_row texts t))
    now = get_or-set_same texts t (Some (rule (text_row texts t))) None low

    some_is : (r : TextRow) → IsSome (Some r)
    some_is r = refl

    keeps : (u : ℕ) → IsUsed texts u → IsUsed (with_change texts t rule) u
    keeps u g = elim (cases_eq u t) [
      | inl d ↦ subst (λ j. IsUsed (with_change texts t rule) j) (sym d) (subst IsSome (sym now) (some_is (rule (text_row texts t))))
      | inr ne ↦ subst IsSome (sym (get_or-set_other texts t u (Some (rule (text_row texts t))) None ne)) g
    ]

    gone : (x y : Bool) → y ≡ false → (x && y) ≡ false
    gone true y e = e
    gone false y e = refl

    entry : (u : ℕ) (new : TextRow) → text_at (with_change texts t rule) u ≡ Some new → (was : TextRow) × (text_at texts u ≡ Some was)
        × (new.users + one (has_text u (row_at rows s)) ≡ was.users + one (has_text u row))
        × (new.loaded + one (has_loaded u (row_at rows s)) ≡ was.loaded + one (has_loaded u row))
    entry u new f = elim (cases_eq u t) [
      | inl d ↦
          (let same : new ≡ rule (text_row texts t) = same_Some new (rule (text_row texts t)) (sym f ∙ ap (text_at (with_change texts t rule)) d ∙ now) in (
            text_row texts t,
            ap (text_at texts) d ∙ used_row (text_at texts t) used,
            subst (λ j. new.users + one (has_text j (row_at rows s)) ≡ (text_row texts t).users + one (has_text j row)) (sym d) (ap (λ (r : TextRow). r.users + one (has_text t (row_at rows s))) same ∙ users),
            subst (λ j. new.loaded + one (has_loaded j (row_at rows s)) ≡ (text_row texts t).loaded + one (has_loaded j row)) (sym d) (ap (λ (r : TextRow). r.loaded + one (has_loaded t (row_at rows s))) same ∙ loaded),
          ))
      | inr ne ↦
          (let a : has_text u (row_at rows s) ≡ false = old u ne in
          let b : has_text u row ≡ false = ap (is_text u) is ∙ not_same t u ne in
          let c1 : has_loaded u (row_at rows s) ≡ false = gone (is_in_core (row_at rows s).state) (is_text u (row_at rows s).text) a in
          let c2 : has_loaded u row ≡ false = gone (is_in_core row.state) (is_text u row.text) b in (
            new,
            sym (get_or-set_other texts t u (Some (rule (text_row texts t))) None ne) ∙ f,
            ap (λ z. new.users + one z) (a ∙ sym b),
            ap (λ z. new.loaded + one z) (c1 ∙ sym c2),
          ))
    ]

-- where no count changes, the table stays as it is
same_entries : (texts : List (Option TextRow)) (x : Option ℕ) (from : Option Place) (to : Place) → ((row : TextRow) → moved_row from to row ≡ row) → ((t : ℕ) → x ≡ Some t → IsUsed texts t) → texts ≡ moved_entries texts x from to
same_entries texts None from to same used = refl
same_entries texts (Some t) from to same used =
    sym (ap (λ r. set texts t (Some r)) (same (text_row texts t)) ∙ same_entry texts t (used t refl))

pub stays_out : (texts : List (Option TextRow)) (x : Option ℕ) (from : Option Place) (b : ℕ) → ((c : ℕ) → from ≢ Some (Core c)) → ((t : ℕ) → x ≡ Some t → IsUsed texts t) → texts ≡ moved_entries texts x from (Swap b)
stays_out texts x None b out used = same_entries texts x None (Swap b) (λ row. refl) used
stays_out texts x (Some (Core c)) b out used = absurd (out c refl)
stays_out texts x (Some (Swap e)) b out used = same_entries texts x (Some (Swap e)) (Swap b) (λ row. refl) used

pub comes_in : (texts : List (Option TextRow)) (x : Option ℕ) (from : Option Place) (c : ℕ) → ((d : ℕ) → from ≢ Some (Core d)) → moved_entries texts x None (Core c) ≡ moved_entries texts x from (Core c)
comes_in texts x None c out = refl
comes_in texts x (Some (Core d)) c out = absurd (out d refl)
comes_in texts None (Some (Swap b)) c out = refl
comes_in texts (Some t) (Some (Swap b)) c out = refl

pub stays_in : (texts : List (Option TextRow)) (x : Option ℕ) (c d : ℕ) → ((t : ℕ) → x ≡ Some t → IsUsed texts t) → texts ≡ moved_entries texts x (Some (Core c)) (Core d)
stays_in texts x c d used = same_entries texts x (Some (Core c)) (Core d) (λ row. refl) used

pub goes_out : (texts : List (Option TextRow)) (x : Option ℕ) (c b : ℕ) → leave_texts texts x ≡ moved_entries texts x (Some (Core c)) (Swap b)
goes_out texts None c b = refl
goes_out texts (Some t) c b = refl

pub keeps_free : (b : Bool) → b ≡ (b || false)
keeps_free true = refl
keeps_free false = refl

pub ruleset entering = (stays_out, comes_in, keeps_free)

pub ruleset leaving_core = (stays_in, goes_out, keeps_free)

-- two changes of one entry
pub change_twice : (texts : List (Option TextRow)) (t : ℕ) (f g : TextRow → TextRow) → IsUsed texts t → with_change (with_change texts t f) t g ≡ with_change texts t (λ row. g (f row))
change_twice texts t f g used =
    ap (λ o. set (with_change texts t f) t (Some (g (text_row_of o)))) (get_or-set_same texts t (Some (f (text_row texts t))) None low)
    ∙ set-set texts t (Some (f (text_row texts t))) (Some (g (f (text_row texts t))))
  where
    past : (o : Option TextRow) → o ≡ None → IsSome o → ⊥
    past None d e = cc e
    past (Some r) d e = cc d

    low : t < length texts
    low = elim (cases_lt t (length texts)) [ inl y ↦ y | inr y ↦ absurd (past (text_at texts t) (get_or_past texts t None y) used) ]

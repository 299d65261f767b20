-- The processes as the rows and the images make them: what is read of a slot, and what a change of one slot makes of them.
use Rattle.std.proofs.Common.{◌≡◌, ◌≢◌, ◌∙◌, ℕ, ◌<◌, List, length, get_or, map, set, Option, Some, None, refl, sym, ap, inl, inr, arith}
use Rattle.std.specs.Option.{unwrap_or}
use Rattle.std.proofs.lemmas.Bool.{cases_eq}
use Rattle.std.proofs.lemmas.List.{same_lists, length-set, length-map, get_or-map, get_or-set_same, get_or-set_other, get_or_default}
use Rattle.std.proofs.lemmas.List.FromFn.{get_or-map-range_with_len, length-map-range_with_len}
use Rattle.v6_base.specs.Image.{Image}
use Rattle.u_area.specs.declared.area.UArea.{UArea}
use Rattle.proc_tab.specs.declared.row.Row.{Row}
use Rattle.proc_tab.specs.declared.member.Member.{Member}
use Rattle.proc_tab.specs.Processes.{member_at, row_of, changed, with_row}
use Rattle.image_keep.specs.Kept.{Held, Keeping, Nothing, Alive, Grave, Kept, keeping, with_keeping, text_of, described, imaged, with_area, with_image}
use Rattle.sys_procs.specs.Process.{Process, no_process, process_by, process_in, member_of}
use Rattle.sys_procs.specs.World.{processes_in}

-- what is in a slot
pub process_in_slot : (slots : List (Option Member)) (k : Kept) (s : ℕ) → s < 50 → get_or (processes_in slots k) s None ≡ process_in (member_at slots s) (keeping k s) (text_of k s)
unfolding processes_in
process_in_slot slots k s low = get_or-map-range_with_len (λ s. process_in (member_at slots s) (keeping k s) (text_of k s)) 0 50 s s None low (omega arith)

pub fifty_processes : (slots : List (Option Member)) (k : Kept) → length (processes_in slots k) ≡ 50
unfolding processes_in
fifty_processes slots k = length-map-range_with_len (λ s. process_in (member_at slots s) (keeping k s) (text_of k s)) 0 50

-- fifty are the processes, where each is who is in its slot
pub are_processes : (slots : List (Option Member)) (k : Kept) (ps : List (Option Process)) → length ps ≡ 50
    → ((s : ℕ) → s < 50 → get_or ps s None ≡ process_in (member_at slots s) (keeping k s) (text_of k s)) → processes_in slots k ≡ ps
are_processes slots k ps long each = same_lists (processes_in slots k) ps (fifty_processes slots k ∙ sym long) same
  where
    same : (s : ℕ) (d : Option Process) → s < length (processes_in slots k) → get_or (processes_in slots k) s d ≡ get_or ps s d
    same s d l =
        let low : s < 50 = omega (arith, l, fifty_processes slots k) in
        get_or_default (processes_in slots k) s d None l
        ∙ (process_in_slot slots k s low ∙ (sym (each s low) ∙ get_or_default ps s None d (omega (arith, low, long))))

-- one slot has changed
pub one_changed : (slots new : List (Option Member)) (k l : Kept) (s : ℕ) (o : Option Process) → s < 50
    → process_in (member_at new s) (keeping l s) (text_of l s) ≡ o
    → ((r : ℕ) → r < 50 → r ≢ s → process_in (member_at new r) (keeping l r) (text_of l r) ≡ process_in (member_at slots r) (keeping k r) (text_of k r))
    → processes_in new l ≡ set (processes_in slots k) s o
one_changed slots new k l s o low is others = are_processes new l (set (processes_in slots k) s o) (length-set (processes_in slots k) s o ∙ fifty_processes slots k) each
  where
    each : (r : ℕ) → r < 50 → get_or (set (processes_in slots k) s o) r None ≡ process_in (member_at new r) (keeping l r) (text_of l r)
    each r below = elim (cases_eq r s) [
      | inl here ↦
          ap (λ r. get_or (set (processes_in slots k) s o) r None) here
          ∙ (get_or-set_same (processes_in slots k) s o None (omega (arith, low, fifty_processes slots k))
          ∙ (sym is ∙ ap (λ r. process_in (member_at new r) (keeping l r) (text_of l r)) (sym here)))
      | inr other ↦
          get_or-set_other (processes_in slots k) s r o None other ∙ (process_in_slot slots k r below ∙ sym (others r below other))
    ]

-- The process in a slot, which has a row and an area.
abbrev pub own : List (Option Member) → Kept → ℕ → Process
own slots k s = unwrap_or (get_or (processes_in slots k) s None) no_process

pub own_is : (slots : List (Option Member)) (k : Kept) (s : ℕ) → s < 50 → own slots k s ≡ unwrap_or (process_in (member_at slots s) (keeping k s) (text_of k s)) no_process
own_is slots k s low = ap (λ o. unwrap_or o no_process) (process_in_slot slots k s low)

row_in : (o : Option Member) (x : Keeping) (t : Option ℕ) → (unwrap_or (process_in o x t) no_process).row ≡ row_of o
row_in None x t = refl
row_in (Some m) Nothing t = refl
row_in (Some m) (Alive held) t = refl
row_in (Some m) (Grave u block) t = refl

pub own_row : (slots : List (Option Member)) (k : Kept) (s : ℕ) → s < 50 → (own slots k s).row ≡ row_of (member_at slots s)
own_row slots k s low = ap (λ p. p.row) (own_is slots k s low) ∙ row_in (member_at slots s) (keeping k s) (text_of k s)

pub own_alive : (slots : List (Option Member)) (k : Kept) (s : ℕ) (m : Member) (held : Held) → s < 50 → member_at slots s ≡ Some m → keeping k s ≡ Alive held
    → own slots k s ≡ process_by m (Alive held) (text_of k s)
own_alive slots k s m held low here has =
    own_is slots k s low ∙ (ap (λ o. unwrap_or (process_in o (keeping k s) (text_of k s)) no_process) here ∙ ap (λ x. process_by m x (text_of k s)) has)

-- who is in the slots
member_in : (o : Option Member) (x : Keeping) (t : Option ℕ) → member_of (process_in o x t) ≡ o
member_in None x t = refl
member_in (Some m) Nothing t = refl
member_in (Some m) (Alive held) t = refl
member_in (Some m) (Grave u block) t = refl

pub members_are : (slots : List (Option Member)) (k : Kept) → length slots ≡ 50 → map member_of (processes_in slots k) ≡ slots
members_are slots k long = same_lists (map member_of (processes_in slots k)) slots (length-map (processes_in slots k) member_of ∙ (fifty_processes slots k ∙ sym long)) same
  where
    same : (s : ℕ) (d : Option Member) → s < length (map member_of (processes_in slots k)) → get_or (map member_of (processes_in slots k)) s d ≡ get_or slots s d
    same s d l =
        let within : s < length (processes_in slots k) = omega (arith, l, length-map (processes_in slots k) member_of) in
        let low : s < 50 = omega (arith, within, fifty_processes slots k) in
        get_or-map member_of (processes_in slots k) s None d within
        ∙ (ap member_of (process_in_slot slots k s low)
        ∙ (member_in (member_at slots s) (keeping k s) (text_of k s) ∙ get_or_default slots s None d (omega (arith, low, long))))

-- A slot's row, area or image is another one.
module _ (slots : List (Option Member)) (k : Kept) (s : ℕ) (m : Member) (held : Held) (low : s < 50) (here : member_at slots s ≡ Some m) (has : keeping k s ≡ Alive held) where
  pub row_changed : (row : Row) → s < length slots → processes_in (set slots s (changed (with_row row) (member_at slots s))) k ≡ set (processes_in slots k) s (Some (record (own slots k s) { row = row }))
  row_changed row within = one_changed slots (set slots s (changed (with_row row) (member_at slots s))) k k s _ low
      (ap (λ o. process_in o (keeping k s) (text_of k s)) (get_or-set_same slots s (changed (with_row row) (member_at slots s)) None within)
      ∙ (ap (λ o. process_in (changed (with_row row) o) (keeping k s) (text_of k s)) here
      ∙ (ap (λ x. process_in (Some (with_row row m)) x (text_of k s)) has
      ∙ ap (λ (p : Process). Some (record p { row = row })) (sym (own_alive slots k s m held low here has)))))
      (λ r below other. ap (λ o. process_in o (keeping k r) (text_of k r)) (get_or-set_other slots s r (changed (with_row row) (member_at slots s)) None other))

  kept_changed : (x : Keeping) (p : Process) → s < length k.slots → process_by m x (text_of k s) ≡ p → processes_in slots (with_keeping k s x) ≡ set (processes_in slots k) s (Some p)
  kept_changed x p within is = one_changed slots slots k (with_keeping k s x) s (Some p) low
      (ap (λ y. process_in (member_at slots s) y (text_of k s)) (get_or-set_same k.slots s x Nothing within)
      ∙ (ap (λ o. process_in o x (text_of k s)) here ∙ ap (λ p. Some p) is))
      (λ r below other. ap (λ y. process_in (member_at slots r) y (text_of k r)) (get_or-set_other k.slots s r x Nothing other))

  pub area_changed : (u : UArea) → s < length k.slots → processes_in slots (with_area k s u) ≡ set (processes_in slots k) s (Some (record (own slots k s) { u = u }))
  unfolding with_area
  area_changed u within =
      ap (λ x. processes_in slots (with_keeping k s (described u x))) has
      ∙ kept_changed (Alive (record held { u = u })) (record (own slots k s) { u = u }) within
      (ap (λ (p : Process). record p { u = u }) (sym (own_alive slots k s m held low here has)))

  pub image_changed : (image : Image) → s < length k.slots → processes_in slots (with_image k s image) ≡ set (processes_in slots k) s (Some (record (own slots k s) { «data» = image.data; stack = image.stack }))
  unfolding with_image
  image_changed image within =
      ap (λ x. processes_in slots (with_keeping k s (imaged image x))) has
      ∙ kept_changed (Alive (record held { image = image })) (record (own slots k s) { «data» = image.data; stack = image.stack }) within
      (ap (λ (p : Process). record p { «data» = image.data; stack = image.stack }) (sym (own_alive slots k s m held low here has)))

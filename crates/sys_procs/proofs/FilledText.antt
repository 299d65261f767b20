-- The bytes of a text are others: what is handed then, and what agrees.
use Rattle.std.proofs.Common.{◌≡◌, ◌∙◌, ℕ, Bool, true, false, if◌then◌else◌, List, map, get_or, set, Option, Some, None, refl, sym, ap, subst}
use Rattle.std.specs.Option.{unwrap_or}
use Rattle.std.specs.List.{range_with_len}
use Rattle.std.proofs.lemmas.List.{map-set, set-get_or}
use Rattle.std.proofs.Math.ListN.{get_or-map}
use Rattle.v6_base.specs.Runs.{run_set}
use Rattle.buf_cache.specs.Blocks.{patched}
use Rattle.image_keep.proofs.Storing.{run_over}
use Rattle.pick_rules.specs.declared.row.TableRow.{TableRow}
use Rattle.pick_rules.specs.Table.{row_at}
use Rattle.proc_tab.specs.declared.member.Member.{Member}
use Rattle.proc_tab.specs.Processes.{member_at}
use Rattle.swap_sched.specs.Match.{text_place}
use Rattle.image_keep.specs.Kept.{Held, Keeping, Nothing, Alive, Grave, Kept, Shared, keeping, shared, text_of, bytes_in, area_in, clicks_of}
use Rattle.image_keep.specs.SharedTexts.{filled, retexted, with_text}
use Rattle.image_keep.specs.Counts.{is_text}
use Rattle.sys_procs.specs.declared.procs.Procs.{Procs}
use Rattle.sys_procs.specs.Process.{process_in}
use Rattle.sys_procs.specs.TextTable.{Text, no_text, is_text_of, marks_of}
use Rattle.sys_procs.specs.TextTable as table
use Rattle.sys_procs.specs.World.{processes_in, text_in, texts_in}
use Rattle.sys_procs.specs.Agree.{Agrees}
use Rattle.sys_procs.specs.Handed.{IsAlive}
use Rattle.sys_procs.proofs.TextMarks.{marks_same}

-- what a slot keeps has another text
process_with : (m : Option Member) (x : Keeping) (bytes : List ℕ) (user : Option ℕ) → process_in m (with_text bytes x) user
    ≡ process_in m x user
process_with None x bytes user = refl
process_with (Some m) Nothing bytes user = refl
process_with (Some m) (Alive held) bytes user = refl
process_with (Some m) (Grave u block) bytes user = refl

process_filled : (m : Option Member) (x : Keeping) (t : ℕ) (bytes : List ℕ) (user : Option ℕ)
    → process_in m (retexted t bytes user x) user ≡ process_in m x user
process_filled m x t bytes user = by (is_text t user)
  where
    by : (b : Bool) → process_in m (if b then with_text bytes x else x) user ≡ process_in m x user
    by true = process_with m x bytes user
    by false = refl

agrees_with : (m : Option Member) (row : TableRow) (x : Keeping) (bytes : List ℕ) → Agrees m row x
    → Agrees m row (with_text bytes x)
agrees_with m row Nothing bytes a = a
agrees_with m row (Alive held) bytes a = record {
  stat = a.stat;
  image = a.image;
  place = a.place;
  size = λ other is. a.size held refl ∙ ap (λ x. clicks_of (area_in x)) is;
  quiet = a.quiet;
  textless = a.textless;
}
agrees_with m row (Grave u block) bytes a = a

agrees_filled : (m : Option Member) (row : TableRow) (x : Keeping) (t : ℕ) (bytes : List ℕ) (user : Option ℕ) → Agrees m row x
    → Agrees m row (retexted t bytes user x)
agrees_filled m row x t bytes user a = by (is_text t user)
  where
    by : (b : Bool) → Agrees m row (if b then with_text bytes x else x)
    by true = agrees_with m row x bytes a
    by false = a

-- who has an image has one then
image_with : (x : Keeping) (bytes : List ℕ) → ((held : Held) × (x ≡ Alive held))
    → (held : Held) × (with_text bytes x ≡ Alive held)
image_with Nothing bytes has = absurd (let e = has.1 in cc e)
image_with (Alive held) bytes has = (record held { image = record held.image { text = bytes } }, refl)
image_with (Grave u block) bytes has = absurd (let e = has.1 in cc e)

image_filled : (x : Keeping) (t : ℕ) (bytes : List ℕ) (user : Option ℕ) → ((held : Held) × (x ≡ Alive held))
    → (held : Held) × (retexted t bytes user x ≡ Alive held)
image_filled x t bytes user has = by (is_text t user)
  where
    by : (b : Bool) → (held : Held) × ((if b then with_text bytes x else x) ≡ Alive held)
    by true = image_with x bytes has
    by false = has

place_filled : (at : ℕ) (bytes : List ℕ) (o : Option Shared) → text_place (filled at bytes o) ≡ text_place o
place_filled at bytes None = refl
place_filled at bytes (Some x) = refl

module _ (p : Procs) (l : Kept) (t at : ℕ) (bytes : List ℕ) (x : Shared) (there : shared p.images.kept t ≡ Some x)
    (texts : l.texts ≡ set p.images.kept.texts t (filled at bytes (shared p.images.kept t)))
    (slots : (s : ℕ) → keeping l s ≡ retexted t (bytes_in (filled at bytes (shared p.images.kept t))) (text_of p.images.kept s)
    (keeping p.images.kept s))
    (users : l.users ≡ p.images.kept.users) where
  abbrev k : Kept
  k = p.images.kept

  same_text : (s : ℕ) → text_of l s ≡ text_of k s
  same_text s = ap (λ us. get_or us s None) users

  one_process : (members : List (Option Member)) (s : ℕ) → process_in (member_at members s) (keeping l s) (text_of l s)
      ≡ process_in (member_at members s) (keeping k s) (text_of k s)
  one_process members s =
      (λ i. process_in (member_at members s) (slots s i) (same_text s i))
      ∙ process_filled (member_at members s) (keeping k s) t (bytes_in (filled at bytes (shared k t))) (text_of k s)

  pub processes_filled : (members : List (Option Member)) → processes_in members l ≡ processes_in members k
  unfolding processes_in
  processes_filled members = λ i. map (λ s. one_process members s i) (range_with_len 0 50)

  pub text_there : table.text_of (texts_in k) t ≡ record { ino = x.row.ino; bytes = x.bytes; users = x.row.users }
  text_there = ap (λ o. unwrap_or o no_text) (get_or-map text_in k.texts t None ∙ ap text_in there)

  put_at : (old : List ℕ) → run_set old at bytes ≡ patched at bytes old
  unfolding run_set
  put_at old = refl

  filled_by : (y : Text) → y ≡ record { ino = x.row.ino; bytes = x.bytes; users = x.row.users }
      → text_in (filled at bytes (Some x)) ≡ Some (record y { bytes = patched at bytes y.bytes })
  filled_by y is =
      ap (λ new. Some (record { ino = x.row.ino; bytes = new; users = x.row.users })) (run_over x.bytes at bytes ∙ put_at x.bytes)
      ∙ ap (λ (z : Text). Some (record z { bytes = patched at bytes z.bytes })) (sym is)

  pub texts_filled : texts_in l ≡ table.with_text (texts_in k) t
      (record (table.text_of (texts_in k) t) { bytes = patched at bytes (table.text_of (texts_in k) t).bytes })
  texts_filled =
      ap (λ ts. map text_in ts) texts
      ∙ (map-set text_in k.texts t (filled at bytes (shared k t))
      ∙ ap (λ o. set (texts_in k) t o)
      (ap (λ o. text_in (filled at bytes o)) there ∙ filled_by (table.text_of (texts_in k) t) text_there))

  same_marks : (ino : ℕ) (o : Option Text) (y : Text) → o ≡ Some y
      → is_text_of ino (Some (record (unwrap_or o no_text) { bytes = patched at bytes (unwrap_or o no_text).bytes }))
      ≡ is_text_of ino o
  same_marks ino None y e = absurd (cc e)
  same_marks ino (Some z) y e = refl

  pub marks_filled : marks_of (texts_in l) ≡ marks_of (texts_in k)
  marks_filled =
      ap (λ ts. marks_of ts) texts_filled
      ∙ marks_same (texts_in k) t
      (Some (record (table.text_of (texts_in k) t) { bytes = patched at bytes (table.text_of (texts_in k) t).bytes }))
      (λ ino. same_marks ino (get_or (texts_in k) t None) (record { ino = x.row.ino; bytes = x.bytes; users = x.row.users })
      (get_or-map text_in k.texts t None ∙ ap text_in there))

  pub places_filled : map text_place l.texts ≡ map text_place k.texts
  places_filled =
      ap (λ ts. map text_place ts) texts
      ∙ (map-set text_place k.texts t (filled at bytes (shared k t))
      ∙ (ap (λ o. set (map text_place k.texts) t o) (place_filled at bytes (shared k t) ∙ sym (get_or-map text_place k.texts t None))
      ∙ set-get_or (map text_place k.texts) t None))

  abbrev whole : List ℕ
  whole = bytes_in (filled at bytes (shared k t))

  nothing_filled : (b : Bool) → (if b then with_text whole Nothing else Nothing) ≡ Nothing
  nothing_filled true = refl
  nothing_filled false = refl

  pub alive_filled : (s : ℕ) → IsAlive p s → IsAlive (record p { images = record p.images { kept = l } }) s
  alive_filled s alive =
      let a = alive.agree in
      let has = image_filled (keeping k s) t whole (text_of k s) alive.image in
      record {
        agree = record {
          table = a.table;
          rows = a.rows;
          kernel = a.kernel;
          images = slots 0 ∙ (ap (λ y. retexted t whole (text_of k 0) y) a.images ∙ nothing_filled (is_text t (text_of k 0)));
          each = λ r up low.
              subst (λ y. Agrees (member_at p.rows.slots r) (row_at p.table r) y) (sym (slots r))
              (agrees_filled (member_at p.rows.slots r) (row_at p.table r) (keeping k r) t whole (text_of k r) (a.each r up low));
          text = λ r up low. a.text r up low ∙ sym (same_text r);
          textless = same_text 0 ∙ a.textless;
        };
        above = alive.above;
        below = alive.below;
        image = (has.0, slots s ∙ has.1);
      }

-- A process without an image has taken a text, if it is to have one: what it has then.
use Rattle.std.proofs.Common.{◌≡◌, ◌∙◌, ℕ, ◌+◌, ◌*◌, ◌<◌, ◌==◌, Bool, true, false, if◌then◌else◌, List, length, get_or, set, Option, Some, None, IfSome, Ok, Err, slice_index, refl, sym, ap, inl, inr, arith}
use Rattle.std.specs.Option.{unwrap_or, option_map}
use Rattle.std.proofs.lemmas.Bool.{eqb-true, eqb-false, cases_eq, cases_lt}
use Rattle.std.proofs.lemmas.List.{get_or-set_same, get_or-set_other, get_or_past, length-set}
use Rattle.std.proofs.lemmas.List.Quantifiers.{position-Some}
use Rattle.v6_base.specs.declared.entry.PanicKind.{PanicKind}
use Rattle.image_keep.specs.Kept.{Kept, Nothing, shared, shared_clicks, bytes_in, text_of, text_clicks}
use Rattle.image_keep.specs.SharedTexts.{AreLong}
use Rattle.pick_rules.specs.Logged.{Stop}
use Rattle.proc_tab.specs.declared.member.Member.{Member}
use Rattle.proc_tab.specs.Processes.{member_at}
use Rattle.sys_procs.specs.declared.procs.Procs.{Procs}
use Rattle.sys_procs.specs.Process.{Process, no_process, process_in}
use Rattle.sys_procs.specs.TextTable.{Text, no_text, is_text_of, entry_of}
use Rattle.sys_procs.specs.Texts.{free_entry, joined, with_user, with_entry, xalloc_by}
use Rattle.sys_procs.specs.World.{World, process_of, texts_in}
use Rattle.sys_procs.specs.Comes.{Comes}
use Rattle.sys_procs.specs.inside.Begun.{nothing, takes, new_if, new_entry, taken_by}
use Rattle.sys_procs.specs.inside.Tested.{AreSized}
use Rattle.sys_procs.specs.Agree.{Lives, kind_of_member}
use Rattle.sys_procs.specs.Handed.{process_here}
use Rattle.sys_procs.specs.inside.Handed.{IsBare}
use Rattle.sys_procs.proofs.Alive.{put_here}
use Rattle.sys_procs.proofs.Slots.{own_is}
use Rattle.sys_procs.proofs.MemoryLemmas.{bytes_at}

-- The text of a process without an image is that of its slot.
text_by : (m : Option Member) (text : Option ℕ) → kind_of_member m ≡ Lives
    → (unwrap_or (process_in m Nothing text) no_process).text ≡ text
text_by None text e = absurd (cc e)
text_by (Some m) text e = refl

pub bare_text : (p : Procs) (s : ℕ) → IsBare p s → text_of p.images.kept s ≡ (process_here p s).text
bare_text p s bare =
    let b = bare.agree.bare in
    sym (ap (λ (q : Process). q.text) (own_is p.rows.slots p.images.kept s bare.below)
    ∙ (ap (λ x. (unwrap_or (process_in (member_at p.rows.slots s) x (text_of p.images.kept s)) no_process).text) b.image
    ∙ text_by (member_at p.rows.slots s) (text_of p.images.kept s) b.lives))

-- what is answered where a text is taken, and where it is not
pub goes_on : (o : Option (Stop World)) (entry new : Option ℕ) → Ok new ≡ taken_by o entry → (o ≡ None) × (new ≡ entry)
goes_on None entry new e = (refl, cc e)
goes_on (Some stop) entry new e = absurd (cc e)

pub record Stopped (o : Option (Stop World)) (kind : PanicKind) : Type 0 where
  pub stop : Stop World
  pub is : o ≡ Some stop
  pub why : kind ≡ stop.why

pub stopped_by : (o : Option (Stop World)) (entry : Option ℕ) (kind : PanicKind) → Err kind ≡ taken_by o entry → Stopped o kind
stopped_by None entry kind e = absurd (cc e)
stopped_by (Some stop) entry kind e = record { stop = stop; is = refl; why = cc e }

-- one more reference takes none away
more_references : (l : List ℕ) (i j : ℕ) → 0 < slice_index l j → 0 < slice_index (set l i (slice_index l i + 1)) j
more_references l i j some = elim (cases_eq j i) [
  | inl here ↦ elim (cases_lt i (length l)) [
    | inl low ↦
        (let is : slice_index (set l i (slice_index l i + 1)) j ≡ slice_index l i + 1 =
        ap (λ n. slice_index (set l i (slice_index l i + 1)) n) here ∙ get_or-set_same l i (slice_index l i + 1) 0 low in
        omega (arith, is))
    | inr past ↦ absurd (let none : slice_index l j ≡ 0 = ap (λ n. slice_index l n) here
        ∙ get_or_past l i 0 past in omega (arith, none, some))
  ]
  | inr other ↦ (let is = get_or-set_other l i j (slice_index l i + 1) 0 other in omega (arith, is, some))
]

-- the text of an entry that is found
record IsFound (texts : List (Option Text)) (ino e : ℕ) : Type 0 where
  low : e < length texts
  text : Text
  there : get_or texts e None ≡ Some text
  named : text.ino ≡ ino

found_by : (o : Option Text) (ino : ℕ) → is_text_of ino o ≡ true → (text : Text) × (o ≡ Some text) × (text.ino ≡ ino)
found_by None ino e = absurd (cc e)
found_by (Some text) ino e = (text, refl, eqb-true text.ino ino e)

is_found : (texts : List (Option Text)) (ino e : ℕ) → entry_of texts ino ≡ Some e → IsFound texts ino e
is_found texts ino e found =
    let at = position-Some (is_text_of ino) texts e None found in
    let it = found_by (get_or texts e None) ino at.1 in
    record { low = at.0; text = it.0; there = it.1; named = it.2 }

module _ (w : World) (s ino size : ℕ) where
  abbrev taken : Bool → Option ℕ → Comes
  taken b o = if b then nothing w else xalloc_by w s ino size o (λ placed is_new. nothing placed)

  abbrev pub after : World
  after = (takes w s ino size).state

  store_by : (b : Bool) (o : Option ℕ) → (taken b o).state.inodes.store ≡ w.inodes.store
  store_by true o = refl
  store_by false (Some k) = refl
  store_by false None = refl

  pub taken_store : after.inodes.store ≡ w.inodes.store
  taken_store = store_by (size == 0) (entry_of w.texts ino)

  references_by : (b : Bool) (o : Option ℕ) (j : ℕ) → 0 < slice_index w.inodes.references j
      → 0 < slice_index (taken b o).state.inodes.references j
  references_by true o j some = some
  references_by false (Some k) j some = some
  references_by false None j some = more_references w.inodes.references ino j some

  pub taken_references : (j : ℕ) → 0 < slice_index w.inodes.references j → 0 < slice_index after.inodes.references j
  taken_references j some = references_by (size == 0) (entry_of w.texts ino) j some

  module _ (low : s < length w.processes) where
    abbrev old : Process
    old = process_of w s

    with_text : (k : ℕ) → unwrap_or (get_or (set w.processes s (Some (with_entry k old))) s None) no_process ≡ with_entry k old
    with_text k = put_here w.processes s (with_entry k old) low

    row_by : (b : Bool) (o : Option ℕ) → (process_of (taken b o).state s).row ≡ old.row
    row_by true o = refl
    row_by false (Some k) = ap (λ (q : Process). q.row) (with_text k)
    row_by false None = ap (λ (q : Process). q.row) (with_text (free_entry w.texts))

    pub taken_row : (process_of after s).row ≡ old.row
    taken_row = row_by (size == 0) (entry_of w.texts ino)

    long_by : (b : Bool) (o : Option ℕ) → length (taken b o).state.processes ≡ length w.processes
    long_by true o = refl
    long_by false (Some k) = length-set w.processes s (Some (with_entry k old))
    long_by false None = length-set w.processes s (Some (with_entry (free_entry w.texts) old))

    pub taken_long : s < length after.processes
    taken_long = let same = long_by (size == 0) (entry_of w.texts ino) in omega (arith, same, low)

    -- The text of a process that was in an entry before has the clicks that were asked for.
    module _ (k : Kept) (long : AreLong k) where
      abbrev bytes_at_entry : ℕ → List ℕ
      bytes_at_entry e = (unwrap_or (get_or (texts_in k) e None) no_text).bytes

      clicks_at : (e : ℕ) → length (bytes_at_entry e) ≡ 64 * size → size ≡ shared_clicks (shared k e)
      clicks_at e is =
          let same : length (bytes_in (shared k e)) ≡ 64 * size = ap length (sym (bytes_at k.texts e)) ∙ is in
          let told : length (bytes_in (shared k e)) ≡ 64 * shared_clicks (shared k e) = long e in
          omega (arith, same, told)

      joined_clicks : (e : ℕ) → IsFound w.texts ino e → AreSized w.texts ino size → texts_in k ≡ with_user w.texts e
          → size ≡ shared_clicks (shared k e)
      joined_clicks e it sized is =
          let now : get_or (texts_in k) e None ≡ Some (joined it.text) =
          ap (λ ts. get_or ts e None) is
          ∙ (get_or-set_same w.texts e (option_map joined (get_or w.texts e None)) None it.low
          ∙ ap (λ o. option_map joined o) it.there) in
          clicks_at e (ap (λ o. length (unwrap_or o no_text).bytes) now ∙ sized e it.text it.there it.named)

      clicks_by : (b : Bool) (o : Option ℕ) → (size == 0) ≡ b → entry_of w.texts ino ≡ o → (0 < size → AreSized w.texts ino size)
          → old.text ≡ None → texts_in k ≡ (taken b o).state.texts → text_of k s ≡ (process_of (taken b o).state s).text
          → IfSome (if b then None else new_if w.texts o) (λ t. (text_of k s ≡ Some t) × (size ≡ shared_clicks (shared k t)))
          → size ≡ text_clicks k (text_of k s)
      clicks_by true o b e sized none texts text new = eqb-true size 0 b ∙ sym (ap (λ x. text_clicks k x) (text ∙ none))
      clicks_by false (Some t) b e sized none texts text new =
          let some = eqb-false size 0 b in
          joined_clicks t (is_found w.texts ino t e) (sized (some_clicks some)) texts
          ∙ sym (ap (λ x. text_clicks k x) (text ∙ ap (λ (q : Process). q.text) (with_text t)))
        where
          some_clicks : (size ≡ 0 → ⊥) → 0 < size
          some_clicks f = elim (cases_eq size 0) [
            | inl zero_ ↦ absurd (f zero_)
            | inr other ↦ omega (arith, other)
          ]
      clicks_by false None b e sized none texts text new = new.1 ∙ sym (ap (λ x. text_clicks k x) new.0)

      pub taken_clicks : (0 < size → AreSized w.texts ino size) → old.text ≡ None → texts_in k ≡ after.texts
          → text_of k s ≡ (process_of after s).text
          → IfSome (new_entry w.texts ino size) (λ t. (text_of k s ≡ Some t) × (size ≡ shared_clicks (shared k t)))
          → size ≡ text_clicks k (text_of k s)
      taken_clicks sized none texts text new = clicks_by (size == 0) (entry_of w.texts ino) refl refl sized none texts text new

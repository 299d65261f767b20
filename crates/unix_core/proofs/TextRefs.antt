-- How often texts refer to inodes: where a text is left, shared, made or read, the references of its inode go with it.
use Rattle.std.proofs.Common.{◌≡◌, ◌∙◌, ◌<◌, ◌≤◌, ◌+◌, ◌-◌, ◌==◌, ℕ, Bool, true, false, cond, if◌then◌else◌, List, length, get_or, set, map, position, Option, Some, None, is_none, slice_index, refl, sym, ap, arith}
use Rattle.std.specs.Option.{unwrap_or}
use Rattle.std.proofs.lemmas.List.{set-get_or, map-set, get_or-set_same}
use Rattle.std.proofs.lemmas.List.Quantifiers.{position-Some}
use Rattle.std.proofs.lemmas.List.Sums.{sum_by-set}
use Rattle.std.proofs.lemmas.Bool.{eq-eqb}
use Rattle.std.proofs.Math.ListN.{get_or-map}
use Rattle.buf_cache.specs.Blocks.{patched}
use Rattle.sys_procs.specs.declared.program.Program.{Program}
use Rattle.sys_procs.specs.TextTable.{Text, no_text, text_of, with_text, is_text_of}
use Rattle.sys_procs.specs.Texts.{free_entry, new_text, goes, remaining, without_text, leaves_text, with_user, makes_text}
use Rattle.sys_procs.specs.World as its
use Rattle.sys_procs.specs.World.{change, let_go}
use Rattle.sys_procs.specs.ExecFile.{entry_in, text_read, with_text_read}
use Rattle.open_files.specs.declared.file.OpenFile.{OpenFile}
use Rattle.pipe_ends.specs.declared.ends.Pipe.{Pipe}
use Rattle.abstract_unix.specs.Whole.{Told, Owes}
use Rattle.abstract_unix.proofs.Owing.{some_within}
use Rattle.abstract_unix.proofs.Dying.{put_refs}
use Rattle.abstract_unix.proofs.Sharing.{more_within}
use Rattle.unix_core.proofs.CameLemmas.{shared}
use Rattle.unix_core.proofs.ShareLemmas.{files_of_child, same_count}

-- a reference of an inode, as one of another
abbrev pub one : ℕ → ℕ → ℕ
one d ino = if d == ino then 1 else 0

-- A text takes the place of another.
abbrev refers : ℕ → Option Text → ℕ
refers ino o = cond (is_text_of ino o) 1 0

shared_set : (texts : List (Option Text)) (k : ℕ) (o : Option Text) (ino : ℕ) → k < length texts
    → shared (set texts k o) ino + refers ino (get_or texts k None) ≡ shared texts ino + refers ino o
shared_set texts k o ino low = sum_by-set (refers ino) texts k o None low

-- One of the same file does.
shared_same : (texts : List (Option Text)) (k : ℕ) (o : Option Text)
    → ((ino : ℕ) → is_text_of ino o ≡ is_text_of ino (get_or texts k None)) → (ino : ℕ)
    → shared (set texts k o) ino ≡ shared texts ino
shared_same texts k o same ino = same_count texts (set texts k o) (λ ino.
    map-set (is_text_of ino) texts k o
    ∙ ap (set (map (is_text_of ino) texts) k) (same ino ∙ sym (get_or-map (is_text_of ino) texts k None))
    ∙ set-get_or (map (is_text_of ino) texts) k false) ino

-- What is as often referred to by others in one world as in another.
pub record SameOthers (x y : its.World) : Type 0 where
  pub refs : (ino : ℕ) → slice_index y.inodes.references ino + shared x.texts ino
      ≡ slice_index x.inodes.references ino + shared y.texts ino

pub others_owe : {covered : Option ℕ} (x y : its.World) → SameOthers x y → (files : List (Option OpenFile)) (pipes : List Pipe) (ts : List (Option Told))
    → Owes covered x.inodes.references files pipes x.texts ts
    → Owes covered y.inodes.references files pipes y.texts ts
others_owe x y same files pipes ts owed = record {
  numbers = owed.numbers;
  referred = λ ino. let before = owed.referred ino in let refs = same.refs ino in omega (arith, before, refs);
  piped = owed.piped;
  fifteen = owed.fifteen;
}

-- A text is left. Where there is none of this number, no inode 0 is referred to.
module _ (x : its.World) (s k : ℕ) (sticky : Bool) (most : (ino : ℕ) → shared x.texts ino ≤ slice_index x.inodes.references ino)
    (zero : slice_index x.inodes.references 0 ≡ 0) where
  abbrev refs : List ℕ
  refs = x.inodes.references

  -- this stays in its entry, and its inode is let go or not
  abbrev left_if : Bool → Option Text → ℕ → its.World
  left_if b o ino =
      let left : its.World = change (record x { texts = set x.texts k o }) s without_text in if b then let_go left ino else left

  -- there is none
  none_texts : get_or x.texts k None ≡ None → set x.texts k None ≡ x.texts
  none_texts none = ap (set x.texts k) (sym none) ∙ set-get_or x.texts k None

  none_refs : set refs 0 (slice_index refs 0 - 1) ≡ refs
  none_refs = (let same : slice_index refs 0 - 1 ≡ slice_index refs 0 = omega (arith, zero) in ap (set refs 0) same)
      ∙ set-get_or refs 0 0

  left_none : get_or x.texts k None ≡ None → (b : Bool) → SameOthers x (left_if b None 0)
  left_none none true = record { refs = λ ino. (λ i. slice_index (none_refs i) ino + shared (sym (none_texts none) i) ino) }
  left_none none false = record { refs = λ ino. (λ i. slice_index refs ino + shared (sym (none_texts none) i) ino) }

  -- this is it, and it goes or stays
  abbrev fewer : Text → Text
  fewer text = record text { users = text.users - 1 }

  left_some : (text : Text) → get_or x.texts k None ≡ Some text → (b : Bool)
      → SameOthers x (left_if b (if b then None else Some (fewer text)) text.ino)
  left_some text is true =
      let low = some_within x.texts k text is in
      let some : 0 < slice_index refs text.ino =
      (let count = shared_set x.texts k None text.ino low in
      let own : refers text.ino (get_or x.texts k None) ≡ 1 =
      ap (refers text.ino) is ∙ ap (λ b. cond {A = ℕ} b 1 0) (eq-eqb text.ino text.ino refl) in
      let all = most text.ino in
      omega (arith, count, own, all)) in
      record {
        refs = λ ino.
            let count = shared_set x.texts k None ino low in
            let own : refers ino (get_or x.texts k None) ≡ one text.ino ino = ap (refers ino) is in
            let put = put_refs refs text.ino ino some in
            omega (arith, count, own, put);
      }
  left_some text is false =
      record {
        refs = λ ino. ap (λ n. slice_index refs ino + n)
            (sym (shared_same x.texts k (Some (fewer text)) (λ ino. ap (is_text_of ino) (sym is)) ino));
      }

  left_by : (o : Option Text) → get_or x.texts k None ≡ o
      → SameOthers x (left_if (goes (unwrap_or o no_text) sticky) (remaining sticky o) (unwrap_or o no_text).ino)
  left_by None is = left_none is (goes no_text sticky)
  left_by (Some text) is = left_some text is (goes text sticky)

  pub left_refs : SameOthers x (leaves_text x s k sticky)
  left_refs = left_by (get_or x.texts k None) refl

-- A text has one user more.
pub user_refs : (texts : List (Option Text)) (k ino : ℕ) → shared (with_user texts k) ino ≡ shared texts ino
user_refs texts k ino = same_count texts (with_user texts k) (files_of_child texts (Some k)) ino

-- A text is made, which refers to its inode, and its bytes are read.
module _ (x : its.World) (s d size k : ℕ) (free : position is_none x.texts ≡ Some k) where
  abbrev pub made : its.World
  made = makes_text x s d size

  empty : (o : Option Text) → is_none o ≡ true → o ≡ None
  empty None e = refl
  empty (Some text) e = absurd (cc e)

  entry_is : free_entry x.texts ≡ k
  entry_is = ap (λ o. unwrap_or o 40) free

  low : k < length x.texts
  low = let first = position-Some is_none x.texts k None free in first.0

  was : get_or x.texts k None ≡ None
  was = let first = position-Some is_none x.texts k None free in empty (get_or x.texts k None) first.1

  pub made_texts : made.texts ≡ with_text x.texts k (new_text d size)
  made_texts = ap (λ e. with_text x.texts e (new_text d size)) entry_is

  pub made_refs : d < length x.inodes.references → SameOthers x made
  made_refs within = record {
    refs = λ ino.
        let count = shared_set x.texts k (Some (new_text d size)) ino low in
        let old : refers ino (get_or x.texts k None) ≡ 0 = ap (refers ino) was in
        let more = more_within x.inodes.references d ino within in
        let now : shared made.texts ino ≡ shared (with_text x.texts k (new_text d size)) ino =
        ap (λ l. shared l ino) made_texts in
        omega (arith, count, old, more, now);
  }

  -- the process has that entry
  module _ (program : Program) (has : entry_in made s ≡ k) where
    there : text_of made.texts k ≡ new_text d size
    there = ap (λ l. text_of l k) made_texts
        ∙ ap (λ o. unwrap_or o no_text) (get_or-set_same x.texts k (Some (new_text d size)) None low)

    its_file : (ino : ℕ) → is_text_of ino (get_or made.texts k None) ≡ (d == ino)
    its_file ino = ap (λ l. is_text_of ino (get_or l k None)) made_texts
        ∙ ap (is_text_of ino) (get_or-set_same x.texts k (Some (new_text d size)) None low)

    abbrev filled : ℕ → List (Option Text)
    filled e = with_text made.texts e
        (record (text_of made.texts e) { bytes = patched 0 (text_read made program).memory (text_of made.texts e).bytes })

    pub read_refs : (ino : ℕ) → shared (with_text_read made s program).texts ino ≡ shared made.texts ino
    read_refs ino =
        ap (λ e. shared (filled e) ino) has
        ∙ shared_same made.texts k _ (λ ino. ap (λ (t : Text). t.ino == ino) there ∙ sym (its_file ino)) ino

-- A text that a child shares with its parent: its file stays, and so do the marks and the references of the texts.
use Rattle.std.proofs.Common.{◌≡◌, ◌∙◌, ◌+◌, ◌||◌, ℕ, Bool, false, cond, List, [], ◌∷◌, map, fold, get_or, set, count_by, Option, Some, None, refl, sym, ap, arith}
use Rattle.std.specs.List.{list_any, range_with_len}
use Rattle.std.specs.Option.{option_map}
use Rattle.std.proofs.lemmas.List.{map-set, set-get_or}
use Rattle.std.proofs.Math.ListN.{get_or-map}
use Rattle.fs_tree.specs.declared.marks.TheConstants.{INODE_NUMBERS}
use Rattle.open_files.specs.declared.file.OpenFile.{OpenFile}
use Rattle.pipe_ends.specs.declared.ends.Pipe.{Pipe}
use Rattle.sys_procs.specs.TextTable.{Text, is_text_of, marks_of}
use Rattle.sys_procs.specs.Texts.{joined, with_user, joined_by_child}
use Rattle.abstract_unix.specs.Whole.{Told, Owes}

joined_is : (ino : ℕ) (o : Option Text) → is_text_of ino (option_map joined o) ≡ is_text_of ino o
joined_is ino None = refl
joined_is ino (Some text) = refl

files_joined : (texts : List (Option Text)) (k ino : ℕ) → map (is_text_of ino) (with_user texts k) ≡ map (is_text_of ino) texts
files_joined texts k ino =
    map-set (is_text_of ino) texts k (option_map joined (get_or texts k None))
    ∙ ap (set (map (is_text_of ino) texts) k) (joined_is ino (get_or texts k None) ∙ sym (get_or-map (is_text_of ino) texts k None))
    ∙ set-get_or (map (is_text_of ino) texts) k false

-- whose files they are
pub files_of_child : (texts : List (Option Text)) (o : Option ℕ) (ino : ℕ) → map (is_text_of ino) (joined_by_child texts o) ≡ map (is_text_of ino) texts
files_of_child texts None ino = refl
files_of_child texts (Some k) ino = files_joined texts k ino

counted : {A : Type 0} (p : A → Bool) (xs : List A) (n : ℕ) → fold (λ c x. c + cond {A = ℕ} (p x) 1 0) n xs ≡ fold (λ c b. c + cond {A = ℕ} b 1 0) n (map p xs)
counted p [] n = refl
counted p (x ∷ xs) n = counted p xs (n + cond {A = ℕ} (p x) 1 0)

found : {A : Type 0} (p : A → Bool) (xs : List A) → list_any p xs ≡ list_any (λ b. b) (map p xs)
found p [] = refl
found p (x ∷ xs) = ap (λ b. p x || b) (found p xs)

module _ (old new : List (Option Text)) (same : (ino : ℕ) → map (is_text_of ino) new ≡ map (is_text_of ino) old) where
  pub same_count : (ino : ℕ) → count_by (is_text_of ino) new ≡ count_by (is_text_of ino) old
  same_count ino =
      counted (is_text_of ino) new 0 ∙ ap (fold (λ c b. c + cond {A = ℕ} b 1 0) 0) (same ino) ∙ sym (counted (is_text_of ino) old 0)

  same_found : (ino : ℕ) → list_any (is_text_of ino) new ≡ list_any (is_text_of ino) old
  same_found ino = found (is_text_of ino) new ∙ ap (list_any (λ b. b)) (same ino) ∙ sym (found (is_text_of ino) old)

  pub same_marks : marks_of new ≡ marks_of old
  unfolding marks_of
  same_marks = λ i. map (λ ino. same_found ino i) (range_with_len 0 INODE_NUMBERS)

  pub same_owes : {covered : Option ℕ} (refs : List ℕ) (files : List (Option OpenFile)) (pipes : List Pipe) (ts : List (Option Told)) → Owes covered refs files pipes old ts → Owes covered refs files pipes new ts
  same_owes refs files pipes ts owed = record {
    numbers = owed.numbers;
    referred = λ ino. let before = owed.referred ino in let count = same_count ino in omega (arith, before, count);
    piped = owed.piped;
    fifteen = owed.fifteen;
  }

-- The pipes that are open and their ends, when entries of the table and pipes change.
-- For calls that only touch entries: `pipes_changed`, `pipes_with_change` (dup, seek, read, write), `pipes_shared` (share),
-- `pipes_opened` (open, creat).
-- For close: `pipes_marked` and then `pipes_freed`, which takes all cases of an entry that is freed. For pipe: `pipes_made`, and
-- `pipes_low` for room.
-- For reads and writes of a pipe: `pipes_marked`, `with_pipe_place`, `with_pipe_same`, `place_ino`.
use Rattle.std.proofs.Common.{◌≡◌, ◌≢◌, ◌⊎◌, ℕ, Bool, true, false, not, suc, ◌+◌, ◌-◌, ◌<◌, ◌≤◌, ◌==◌, ◌&&◌, List, [], ◌∷◌, ◌++◌, length, get_or, cond, count_by, Option, Some, None, is_some, slice_index_or, slice_set, refl, sym, ap, ◌∙◌, subst, inl, inr, arith}
use Rattle.std.proofs.lemmas.Bool.{cases_lt, cases_eq, eqb-true, eq-eqb, ne_eqb, false≢true, and_from, and_parts, false_from_ne_true}
use Rattle.std.proofs.lemmas.Option.{none-some, same_Some}
use Rattle.std.proofs.lemmas.List.{get_or_read, set_past, get_or-set_same, get_or-set_other, length-set, length-append, get_or_append_left}
use Rattle.std.proofs.Math.Seq.{get_or-append_seam}
use Rattle.std.proofs.lemmas.List.Edits.{length-remove, get_or-remove_below, get_or-remove_above}
use Rattle.std.proofs.lemmas.List.Folds.{Any-from_list_any, list_any_at, position_or_len-set}
use Rattle.std.proofs.lemmas.List.Sums.{passes_at_first, fails_before_first, position_or_len_is, count_by-le-length}
use Rattle.open_files.specs.declared.file.OpenFile.{OpenFile}
use Rattle.open_files.specs.Files.{file_at, changed, with_change}
use Rattle.pipe_ends.specs.declared.ends.Pipe.{Pipe}
use Rattle.sys_files.specs.Pipes.{new_pipe, place_of, pipe_of, with_pipe, without_pipe, is_end_of, has_end, ArePipes}
use Rattle.sys_files.proofs.OwedLemmas.{used_low, count_changed}

-- the inode of the pipe at a place
abbrev pub ino_at : List Pipe → ℕ → ℕ
ino_at pipes i = (slice_index_or pipes i (new_pipe 0)).ino

-- Where there is a pipe of an inode, the one at its place is of it.
pub place_ino : (pipes : List Pipe) (ino : ℕ) → place_of pipes ino < length pipes → (pipe_of pipes ino).ino ≡ ino
place_ino pipes ino low = eqb-true (pipe_of pipes ino).ino ino
    (passes_at_first (λ (p : Pipe). p.ino == ino) pipes (new_pipe 0) low)

-- A pipe of an inode that stands anywhere has a place.
pub place_low : (pipes : List Pipe) (ino i : ℕ) → i < length pipes → ino_at pipes i ≡ ino → place_of pipes ino < length pipes
place_low pipes ino i low is = elim (cases_lt (place_of pipes ino) (length pipes)) [
  | inl there ↦ there
  | inr past ↦ absurd (false≢true
      (sym (fails_before_first (λ (p : Pipe). p.ino == ino) pipes i (new_pipe 0) (omega (arith, low, past)))
      ∙ eq-eqb (ino_at pipes i) ino is))
]

-- no two pipes are of one inode
abbrev pub AreApart : List Pipe → Type 0
AreApart pipes = (i j : ℕ) → i < length pipes → j < length pipes → ino_at pipes i ≡ ino_at pipes j → i ≡ j

pub apart_once : (pipes : List Pipe) → ((i : ℕ) → i < length pipes → place_of pipes (ino_at pipes i) ≡ i) → AreApart pipes
apart_once pipes once i j low short same = sym (once i low) ∙ ap (place_of pipes) same ∙ once j short

pub once_apart : (pipes : List Pipe) → AreApart pipes → (i : ℕ) → i < length pipes → place_of pipes (ino_at pipes i) ≡ i
once_apart pipes apart i low =
    position_or_len_is (λ (p : Pipe). p.ino == ino_at pipes i) pipes i (new_pipe 0) (omega (arith, low))
    (λ k below. ne_eqb (ino_at pipes k) (ino_at pipes i)
    (λ same. let is = apart k i (omega (arith, low, below)) low same in omega (arith, is, below)))
    (λ here. eq-eqb (ino_at pipes i) (ino_at pipes i) refl)

-- An end of the pipe of an inode is open.
pub record IsOpenEnd (files : List (Option OpenFile)) (ino : ℕ) : Type 0 where
  pub entry : ℕ
  pub file : OpenFile
  pub there : file_at files entry ≡ Some file
  pub pipe : file.kind.pipe ≡ true
  pub same : file.ino ≡ ino

pub end_found : (files : List (Option OpenFile)) (ino : ℕ) → has_end files ino ≡ true → IsOpenEnd files ino
end_found files ino has = let any = Any-from_list_any (is_end_of ino) files has in by any.0 any.1 any.2 any.3 any.4
  where
    by : (k : ℕ) (o : Option OpenFile) → k < length files → get_or files k o ≡ o → is_end_of ino o ≡ true → IsOpenEnd files ino
    by k (Some file) low is passes =
        let both = and_parts file.kind.pipe (file.ino == ino) passes in
        record {
          entry = k;
          file = file;
          there = sym (get_or_read files k (Some file) low (sym is) None);
          pipe = both.0;
          same = eqb-true file.ino ino both.1;
        }
    by k None low is passes = absurd (false≢true passes)

pub end_has : (files : List (Option OpenFile)) (ino : ℕ) → IsOpenEnd files ino → has_end files ino ≡ true
end_has files ino end =
    list_any_at (is_end_of ino) files end.entry None (used_low files end.entry end.file end.there)
    (ap (is_end_of ino) end.there ∙ and_from end.file.kind.pipe (end.file.ino == ino) end.pipe
    (eq-eqb end.file.ino ino end.same))

-- An end that is open, by its own inode.
pub end_here : (files : List (Option OpenFile)) (entry : ℕ) (file : OpenFile) → file_at files entry ≡ Some file
    → file.kind.pipe ≡ true → IsOpenEnd files file.ino
end_here files entry file is pipe = record { entry = entry; file = file; there = is; pipe = pipe; same = refl }

-- The pipes stay as they are, where each end that was open has one of its inode now, and each that is open now had one.
pub pipes_over : (files new : List (Option OpenFile)) (pipes : List Pipe)
    → ((entry : ℕ) (file : OpenFile) → file_at files entry ≡ Some file → file.kind.pipe ≡ true → IsOpenEnd new file.ino)
    → ((entry : ℕ) (file : OpenFile) → file_at new entry ≡ Some file → file.kind.pipe ≡ true → IsOpenEnd files file.ino)
    → ArePipes files pipes → ArePipes new pipes
pipes_over files new pipes forth back are = record {
  there = λ entry file is pipe.
      let end = back entry file is pipe in
      let P : ℕ → Type 0 = λ ino. place_of pipes ino < length pipes in
      subst P end.same (are.there end.entry end.file end.there end.pipe);
  ended = λ i low.
      let end = end_found files (ino_at pipes i) (are.ended i low) in
      let P : ℕ → Type 0 = λ ino. has_end new ino ≡ true in
      subst P end.same (end_has new end.file.ino (forth end.entry end.file end.there end.pipe));
  once = are.once;
}

-- What stands in a table of which one entry is another.
pub set_cases : (files : List (Option OpenFile)) (entry e : ℕ) (o : Option OpenFile) (file : OpenFile)
    → file_at (slice_set files entry o) e ≡ Some file
    → ((e ≡ entry) × (entry < length files) × (o ≡ Some file)) ⊎ ((e ≢ entry) × (file_at files e ≡ Some file))
set_cases files entry e o file is = elim (cases_eq e entry) [
  | inl same ↦
      let low : entry < length files =
      (let short = used_low (slice_set files entry o) e file is in let long = length-set files entry o in
      omega (arith, short, long, same)) in
      inl (same, low, sym (get_or-set_same files entry o None low) ∙ (ap (file_at (slice_set files entry o)) (sym same) ∙ is))
  | inr other ↦ inr (other, sym (get_or-set_other files entry e o None other) ∙ is)
]

-- An entry that is another in each table is the same as before in the rest.
pub set_other : (files : List (Option OpenFile)) (entry e : ℕ) (o : Option OpenFile) (file : OpenFile) → e ≢ entry
    → file_at files e ≡ Some file → file_at (slice_set files entry o) e ≡ Some file
set_other files entry e o file other is = get_or-set_other files entry e o None other ∙ is

-- An entry that is in use is not the one that is free.
pub free_other : (files : List (Option OpenFile)) (entry e : ℕ) (file : OpenFile) → file_at files entry ≡ None
    → file_at files e ≡ Some file → e ≢ entry
free_other files entry e file free is same = none-some file (sym free ∙ (ap (file_at files) (sym same) ∙ is))

-- A file changes in its entry, and stays one of its inode and its kind: dup, seek, read, write, and close where numbers are
-- left.
pub pipes_changed : (files : List (Option OpenFile)) (pipes : List Pipe) (entry : ℕ) (file now : OpenFile)
    → file_at files entry ≡ Some file
    → now.ino ≡ file.ino → now.kind ≡ file.kind → ArePipes files pipes → ArePipes (slice_set files entry (Some now)) pipes
pipes_changed files pipes entry file now is ino kind are = pipes_over files new pipes forth back are
  where
    new : List (Option OpenFile)
    new = slice_set files entry (Some now)

    here : file_at new entry ≡ Some now
    here = get_or-set_same files entry (Some now) None (used_low files entry file is)

    forth : (e : ℕ) (f : OpenFile) → file_at files e ≡ Some f → f.kind.pipe ≡ true → IsOpenEnd new f.ino
    forth e f at pipe = elim (cases_eq e entry) [
      | inl same ↦
          let was : file ≡ f = same_Some file f (sym is ∙ (ap (file_at files) (sym same) ∙ at)) in
          record {
            entry = entry;
            file = now;
            there = here;
            pipe = ap (λ k. k.pipe) kind ∙ (ap (λ (x : OpenFile). x.kind.pipe) was ∙ pipe);
            same = ino ∙ ap (λ (x : OpenFile). x.ino) was;
          }
      | inr other ↦ end_here new e f (set_other files entry e (Some now) f other at) pipe
    ]

    back : (e : ℕ) (f : OpenFile) → file_at new e ≡ Some f → f.kind.pipe ≡ true → IsOpenEnd files f.ino
    back e f at pipe = elim (set_cases files entry e (Some now) f at) [
      | inl own ↦
          let is_now : now ≡ f = same_Some now f own.2 in
          record {
            entry = entry;
            file = file;
            there = is;
            pipe = sym (ap (λ k. k.pipe) kind) ∙ (ap (λ (x : OpenFile). x.kind.pipe) is_now ∙ pipe);
            same = sym ino ∙ ap (λ (x : OpenFile). x.ino) is_now;
          }
      | inr other ↦ end_here files e f other.1 pipe
    ]

-- The same for a table in which each entry has what a change makes of it that leaves inode and kind: share.
pub pipes_alike : (files new : List (Option OpenFile)) (pipes : List Pipe) (change : ℕ → OpenFile → OpenFile)
    → ((e : ℕ) (file : OpenFile) → (change e file).ino ≡ file.ino)
    → ((e : ℕ) (file : OpenFile) → (change e file).kind ≡ file.kind)
    → ((e : ℕ) → file_at new e ≡ changed (change e) (file_at files e)) → ArePipes files pipes → ArePipes new pipes
pipes_alike files new pipes change ino kind all are = pipes_over files new pipes forth back are
  where
    forth : (e : ℕ) (f : OpenFile) → file_at files e ≡ Some f → f.kind.pipe ≡ true → IsOpenEnd new f.ino
    forth e f at pipe = record {
      entry = e;
      file = change e f;
      there = all e ∙ ap (changed (change e)) at;
      pipe = ap (λ k. k.pipe) (kind e f) ∙ pipe;
      same = ino e f;
    }

    from : (e : ℕ) (o : Option OpenFile) (f : OpenFile) → file_at files e ≡ o → changed (change e) o ≡ Some f
        → f.kind.pipe ≡ true → IsOpenEnd files f.ino
    from e (Some file) f at is pipe =
        let same : change e file ≡ f = same_Some (change e file) f is in
        record {
          entry = e;
          file = file;
          there = at;
          pipe = sym (ap (λ k. k.pipe) (kind e file)) ∙ (ap (λ (x : OpenFile). x.kind.pipe) same ∙ pipe);
          same = sym (ino e file) ∙ ap (λ (x : OpenFile). x.ino) same;
        }
    from e None f at is pipe = absurd (none-some f is)

    back : (e : ℕ) (f : OpenFile) → file_at new e ≡ Some f → f.kind.pipe ≡ true → IsOpenEnd files f.ino
    back e f at pipe = from e (file_at files e) f refl (sym (all e) ∙ at) pipe

-- A change of the file of an entry, whether there is one or not, that leaves inode and kind: dup, seek, read, write.
pub pipes_with_change : (files : List (Option OpenFile)) (pipes : List Pipe) (entry : ℕ) (change : OpenFile → OpenFile)
    → ((file : OpenFile) → (change file).ino ≡ file.ino) → ((file : OpenFile) → (change file).kind ≡ file.kind)
    → ArePipes files pipes → ArePipes (with_change files entry change) pipes
pipes_with_change files pipes entry change ino kind are = by (file_at files entry) refl
  where
    by : (o : Option OpenFile) → file_at files entry ≡ o → ArePipes (slice_set files entry (changed change o)) pipes
    by (Some file) is = pipes_changed files pipes entry file (change file) is (ino file) (kind file) are
    by None is = pipes_over files (slice_set files entry None) pipes
        (λ e f at pipe. end_here (slice_set files entry None) e f
        (set_other files entry e None f (free_other files entry e f is at) at) pipe)
        (λ e f at pipe. elim (set_cases files entry e None f at) [
          | inl own ↦ absurd (none-some f own.2)
          | inr other ↦ end_here files e f other.1 pipe
        ])
        are

-- An entry that was free has a file now, which is no pipe or the second end of one.
opened_kept : (files : List (Option OpenFile)) (pipes : List Pipe) (entry : ℕ) (file : OpenFile) → file_at files entry ≡ None
    → (file.kind.pipe ≡ true → IsOpenEnd files file.ino) → ArePipes files pipes
    → ArePipes (slice_set files entry (Some file)) pipes
opened_kept files pipes entry file free first are = pipes_over files (slice_set files entry (Some file)) pipes
    (λ e f at pipe. end_here (slice_set files entry (Some file)) e f
    (set_other files entry e (Some file) f (free_other files entry e f free at) at) pipe)
    (λ e f at pipe. elim (set_cases files entry e (Some file) f at) [
      | inl own ↦
          let P : OpenFile → Type 0 = λ x. x.kind.pipe ≡ true → IsOpenEnd files x.ino in
          subst P (same_Some file f own.2) first pipe
      | inr other ↦ end_here files e f other.1 pipe
    ])
    are

-- A file that is no pipe is opened in an entry that was free: open, creat.
pub pipes_opened : (files : List (Option OpenFile)) (pipes : List Pipe) (entry : ℕ) (file : OpenFile)
    → file_at files entry ≡ None → file.kind.pipe ≡ false
    → ArePipes files pipes → ArePipes (slice_set files entry (Some file)) pipes
pipes_opened files pipes entry file free plain are =
    opened_kept files pipes entry file free (λ pipe. absurd (false≢true (sym plain ∙ pipe))) are

-- A pipe changes in its place, by its inode: the places of all stay.
pub with_pipe_place : (pipes : List Pipe) (p : Pipe) (ino : ℕ) → place_of (with_pipe pipes p) ino ≡ place_of pipes ino
with_pipe_place pipes p ino = elim (cases_lt (place_of pipes p.ino) (length pipes)) [
  | inl low ↦ position_or_len-set (λ (q : Pipe). q.ino == ino) pipes (place_of pipes p.ino) p (new_pipe 0)
      (ap (λ i. i == ino) (sym (place_ino pipes p.ino low)))
  | inr past ↦ ap (λ l. place_of l ino) (set_past pipes (place_of pipes p.ino) p past)
]

pub with_pipe_long : (pipes : List Pipe) (p : Pipe) → length (with_pipe pipes p) ≡ length pipes
with_pipe_long pipes p = length-set pipes (place_of pipes p.ino) p

with_pipe_ino : (pipes : List Pipe) (p : Pipe) (i : ℕ) → ino_at (with_pipe pipes p) i ≡ ino_at pipes i
with_pipe_ino pipes p i = elim (cases_lt (place_of pipes p.ino) (length pipes)) [
  | inl low ↦ elim (cases_eq i (place_of pipes p.ino)) [
    | inl same ↦
        ap (ino_at (with_pipe pipes p)) same
        ∙ (ap (λ (q : Pipe). q.ino) (get_or-set_same pipes (place_of pipes p.ino) p (new_pipe 0) low)
        ∙ (sym (place_ino pipes p.ino low) ∙ ap (ino_at pipes) (sym same)))
    | inr other ↦ ap (λ (q : Pipe). q.ino) (get_or-set_other pipes (place_of pipes p.ino) i p (new_pipe 0) other)
  ]
  | inr past ↦ ap (λ l. ino_at l i) (set_past pipes (place_of pipes p.ino) p past)
]

-- A pipe changes in its place: marks and offsets, in close, read and write.
pub pipes_marked : (files : List (Option OpenFile)) (pipes : List Pipe) (p : Pipe) → ArePipes files pipes
    → ArePipes files (with_pipe pipes p)
pipes_marked files pipes p are =
    let long = with_pipe_long pipes p in
    record {
      there = λ entry file is pipe. let low = are.there entry file is pipe in let place = with_pipe_place pipes p file.ino in
          omega (arith, low, place, long);
      ended = λ i low. ap (has_end files) (with_pipe_ino pipes p i) ∙ are.ended i (omega (arith, low, long));
      once = λ i low. with_pipe_place pipes p (ino_at (with_pipe pipes p) i)
          ∙ (ap (place_of pipes) (with_pipe_ino pipes p i) ∙ are.once i (omega (arith, low, long)));
    }

-- A file that is no pipe leaves its entry free, or a pipe of which an end is open still.
freed_kept : (files : List (Option OpenFile)) (pipes : List Pipe) (entry : ℕ) (file : OpenFile) → file_at files entry ≡ Some file
    → (file.kind.pipe ≡ true → IsOpenEnd (slice_set files entry None) file.ino) → ArePipes files pipes
    → ArePipes (slice_set files entry None) pipes
freed_kept files pipes entry file is rest are = pipes_over files (slice_set files entry None) pipes
    (λ e f at pipe. elim (cases_eq e entry) [
      | inl same ↦
          let was : file ≡ f = same_Some file f (sym is ∙ (ap (file_at files) (sym same) ∙ at)) in
          let P : ℕ → Type 0 = IsOpenEnd (slice_set files entry None) in
          subst P (ap (λ (x : OpenFile). x.ino) was) (rest (ap (λ (x : OpenFile). x.kind.pipe) was ∙ pipe))
      | inr other ↦ end_here (slice_set files entry None) e f (set_other files entry e None f other at) pipe
    ])
    (λ e f at pipe. elim (set_cases files entry e None f at) [
      | inl own ↦ absurd (none-some f own.2)
      | inr other ↦ end_here files e f other.1 pipe
    ])
    are

-- A pipe of an inode is gone: which one of those before stands at a place.
record Remains (pipes : List Pipe) (ino i : ℕ) : Type 0 where
  was : ℕ
  low : was < length pipes
  other : was ≢ place_of pipes ino
  same : ino_at (without_pipe pipes ino) i ≡ ino_at pipes was
  order : ((was ≡ i) × (i < place_of pipes ino)) ⊎ ((was ≡ i + 1) × (place_of pipes ino ≤ i))

module _ (pipes : List Pipe) (ino : ℕ) (there : place_of pipes ino < length pipes) where
  one_less : length (without_pipe pipes ino) + 1 ≡ length pipes
  one_less = length-remove pipes (place_of pipes ino) there

  remains : (i : ℕ) → i < length (without_pipe pipes ino) → Remains pipes ino i
  remains i short = elim (cases_lt i (place_of pipes ino)) [
    | inl below ↦ record {
      was = i;
      low = omega (arith, below, there);
      other = λ is. omega (arith, is, below);
      same = ap (λ (q : Pipe). q.ino) (get_or-remove_below pipes (place_of pipes ino) (new_pipe 0) i below there);
      order = inl (refl, below);
    }
    | inr above ↦ record {
      was = i + 1;
      low = omega (arith, short, one_less);
      other = λ is. omega (arith, is, above);
      same = ap (λ (q : Pipe). q.ino) (get_or-remove_above pipes (place_of pipes ino) (new_pipe 0) i above there);
      order = inr (refl, above);
    }
  ]

  remains_once : (i j : ℕ) (a : Remains pipes ino i) (b : Remains pipes ino j) → a.was ≡ b.was → i ≡ j
  remains_once i j a b same = by a.order b.order
    where
      by : ((a.was ≡ i) × (i < place_of pipes ino)) ⊎ ((a.was ≡ i + 1) × (place_of pipes ino ≤ i))
          → ((b.was ≡ j) × (j < place_of pipes ino)) ⊎ ((b.was ≡ j + 1) × (place_of pipes ino ≤ j)) → i ≡ j
      by (inl x) (inl y) = omega (arith, same, x.0, y.0)
      by (inl x) (inr y) = omega (arith, same, x.0, y.0, x.1, y.1)
      by (inr x) (inl y) = omega (arith, same, x.0, y.0, x.1, y.1)
      by (inr x) (inr y) = omega (arith, same, x.0, y.0)

  -- Each other pipe is there still.
  pub others_there : (k : ℕ) → k < length pipes → k ≢ place_of pipes ino
      → place_of (without_pipe pipes ino) (ino_at pipes k) < length (without_pipe pipes ino)
  others_there k short other = elim (cases_lt k (place_of pipes ino)) [
    | inl below ↦ place_low (without_pipe pipes ino) (ino_at pipes k) k (omega (arith, below, there, one_less))
        (ap (λ (q : Pipe). q.ino) (get_or-remove_below pipes (place_of pipes ino) (new_pipe 0) k below there))
    | inr above ↦
        let later : place_of pipes ino ≢ k = (λ same. other (sym same)) in
        let after : place_of pipes ino < k = omega (arith, above, later) in
        place_low (without_pipe pipes ino) (ino_at pipes k) (k - 1) (omega (arith, after, short, one_less))
        (ap (λ (q : Pipe). q.ino) (get_or-remove_above pipes (place_of pipes ino) (new_pipe 0) (k - 1)
        (omega (arith, after)) there)
        ∙ ap (ino_at pipes) (omega (arith, after)))
  ]

-- The last end of a pipe leaves its entry free, and the pipe is gone.
freed_gone : (files : List (Option OpenFile)) (pipes : List Pipe) (entry : ℕ) (file : OpenFile)
    → file_at files entry ≡ Some file → file.kind.pipe ≡ true
    → has_end (slice_set files entry None) file.ino ≡ false → ArePipes files pipes
    → ArePipes (slice_set files entry None) (without_pipe pipes file.ino)
freed_gone files pipes entry file is pipe none are =
    let new : List (Option OpenFile) = slice_set files entry None in
    let there = are.there entry file is pipe in
    let apart = apart_once pipes are.once in
    let own = place_ino pipes file.ino there in
    record {
      there = λ e f at end. elim (set_cases files entry e None f at) [
        | inl freed ↦ absurd (none-some f freed.2)
        | inr other ↦
            let short = are.there e f other.1 end in
            let is_of = place_ino pipes f.ino short in
            let P : ℕ → Type 0 = λ i. place_of (without_pipe pipes file.ino) i < length (without_pipe pipes file.ino) in
            subst P is_of (others_there pipes file.ino there (place_of pipes f.ino) short (λ same.
            let alike : file.ino ≡ f.ino = sym own ∙ (ap (ino_at pipes) (sym same) ∙ is_of) in
            false≢true (sym none ∙ end_has new file.ino
            (record { entry = e; file = f; there = at; pipe = end; same = sym alike }))))
      ];
      ended = λ i low.
          let r = remains pipes file.ino there i low in
          let end = end_found files (ino_at pipes r.was) (are.ended r.was r.low) in
          let here : end.entry ≢ entry = (λ same.
          let was : file ≡ end.file = same_Some file end.file (sym is ∙ (ap (file_at files) (sym same) ∙ end.there)) in
          r.other (apart r.was (place_of pipes file.ino) r.low there
          (sym end.same ∙ (sym (ap (λ (x : OpenFile). x.ino) was) ∙ sym own)))) in
          ap (has_end new) r.same ∙ end_has new (ino_at pipes r.was)
          (record {
            entry = end.entry;
            file = end.file;
            there = set_other files entry end.entry None end.file here end.there;
            pipe = end.pipe;
            same = end.same;
          });
      once = once_apart (without_pipe pipes file.ino) (λ i j low short same.
          let a = remains pipes file.ino there i low in
          let b = remains pipes file.ino there j short in
          remains_once pipes file.ino there i j a b (apart a.was b.was a.low b.low (sym a.same ∙ (same ∙ b.same))));
    }

-- An entry is freed with the last number of its file, and its pipe goes with the last of its ends.
pub pipes_freed : (files : List (Option OpenFile)) (pipes : List Pipe) (entry : ℕ) (file : OpenFile)
    → file_at files entry ≡ Some file → ArePipes files pipes
    → ArePipes (slice_set files entry None)
    (cond (file.kind.pipe && not (has_end (slice_set files entry None) file.ino)) (without_pipe pipes file.ino) pipes)
pipes_freed files pipes entry file is are = by file.kind.pipe (has_end (slice_set files entry None) file.ino) refl refl
  where
    by : (t b : Bool) → file.kind.pipe ≡ t → has_end (slice_set files entry None) file.ino ≡ b
        → ArePipes (slice_set files entry None) (cond (t && not b) (without_pipe pipes file.ino) pipes)
    by true true pipe has = freed_kept files pipes entry file is (λ end. end_found (slice_set files entry None) file.ino has) are
    by true false pipe none = freed_gone files pipes entry file is pipe none are
    by false b plain has = freed_kept files pipes entry file is (λ pipe. absurd (false≢true (sym plain ∙ pipe))) are

-- A pipe is made, and its first end is opened in an entry that was free: no end of its inode was open.
module _ (files : List (Option OpenFile)) (pipes : List Pipe) (entry : ℕ) (file : OpenFile) (low : entry < length files)
    (free : file_at files entry ≡ None)
    (pipe : file.kind.pipe ≡ true) (fresh : has_end files file.ino ≡ false) (are : ArePipes files pipes) where
  abbrev more : List Pipe
  more = pipes ++ new_pipe file.ino ∷ []

  abbrev new : List (Option OpenFile)
  new = slice_set files entry (Some file)

  one_more : length more ≡ length pipes + 1
  one_more = length-append pipes (new_pipe file.ino ∷ [])

  before : (i : ℕ) → i < length pipes → ino_at more i ≡ ino_at pipes i
  before i below = ap (λ (q : Pipe). q.ino) (get_or_append_left pipes (new_pipe file.ino ∷ []) (new_pipe 0) i below)

  last : (i : ℕ) → i < length more → length pipes ≤ i → (i ≡ length pipes) × (ino_at more i ≡ file.ino)
  last i short past =
      let is : i ≡ length pipes = omega (arith, short, past, one_more) in
      (is, ap (ino_at more) is ∙ ap (λ (q : Pipe). q.ino) (get_or-append_seam pipes (new_pipe file.ino) [] (new_pipe 0)))

  not_before : (i : ℕ) → i < length pipes → ino_at pipes i ≢ file.ino
  not_before i below same = false≢true (sym fresh ∙ (ap (has_end files) (sym same) ∙ are.ended i below))

  pub made_first : ArePipes new more
  made_first = record {
    there = λ e f at end. elim (set_cases files entry e (Some file) f at) [
      | inl own ↦
          let short : length pipes < length more = omega (arith, one_more) in
          place_low more f.ino (length pipes) short
          ((last (length pipes) short (omega arith)).1 ∙ ap (λ (x : OpenFile). x.ino) (same_Some file f own.2))
      | inr other ↦
          let there = are.there e f other.1 end in
          place_low more f.ino (place_of pipes f.ino) (omega (arith, there, one_more))
          (before (place_of pipes f.ino) there ∙ place_ino pipes f.ino there)
    ];
    ended = λ i short. elim (cases_lt i (length pipes)) [
      | inl below ↦
          let end = end_found files (ino_at pipes i) (are.ended i below) in
          ap (has_end new) (before i below) ∙ end_has new (ino_at pipes i) (record {
            entry = end.entry;
            file = end.file;
            there = set_other files entry end.entry (Some file) end.file
                (free_other files entry end.entry end.file free end.there) end.there;
            pipe = end.pipe;
            same = end.same;
          })
      | inr past ↦ ap (has_end new) (last i short past).1
          ∙ end_has new file.ino (end_here new entry file (get_or-set_same files entry (Some file) None low) pipe)
    ];
    once = once_apart more (λ i j short near same. elim (cases_lt i (length pipes)) [
      | inl below ↦ elim (cases_lt j (length pipes)) [
        | inl under ↦ apart_once pipes are.once i j below under (sym (before i below) ∙ (same ∙ before j under))
        | inr past ↦ absurd (not_before i below (sym (before i below) ∙ (same ∙ (last j near past).1)))
      ]
      | inr past ↦ elim (cases_lt j (length pipes)) [
        | inl under ↦ absurd (not_before j under (sym (before j under) ∙ (sym same ∙ (last i short past).1)))
        | inr over ↦ (last i short past).0 ∙ sym (last j near over).0
      ]
    ]);
  }

-- Two ends of an inode are opened in entries that were free, and a pipe of it: no end of it was open.
pub pipes_made : (files : List (Option OpenFile)) (pipes : List Pipe) (ino first second : ℕ) (reads writes : OpenFile)
    → first < length files → file_at files first ≡ None → reads.ino ≡ ino → reads.kind.pipe ≡ true
    → file_at (slice_set files first (Some reads)) second ≡ None → writes.ino ≡ ino
    → has_end files ino ≡ false → ArePipes files pipes
    → ArePipes (slice_set (slice_set files first (Some reads)) second (Some writes)) (pipes ++ new_pipe ino ∷ [])
pipes_made files pipes ino first second reads writes low free of_it pipe next of_it_too fresh are =
    let P : ℕ → Type 0 = λ i. ArePipes (slice_set files first (Some reads)) (pipes ++ new_pipe i ∷ []) in
    let here = get_or-set_same files first (Some reads) None low in
    opened_kept (slice_set files first (Some reads)) (pipes ++ new_pipe ino ∷ []) second writes next
    (λ end. record { entry = first; file = reads; there = here; pipe = pipe; same = of_it ∙ sym of_it_too })
    (subst P of_it (made_first files pipes first reads low free pipe (ap (has_end files) of_it ∙ fresh) are))

-- Where no open file is of an inode, no end of its pipe is open.
pub no_end : (files : List (Option OpenFile)) (ino : ℕ)
    → ((entry : ℕ) (file : OpenFile) → file_at files entry ≡ Some file → file.ino ≢ ino) → has_end files ino ≡ false
no_end files ino none = false_from_ne_true (has_end files ino)
    (λ has. let end = end_found files ino has in none end.entry end.file end.there end.same)

-- Each pipe has an entry of its own, which is in use.
few_ends : (pipes : List Pipe) (files : List (Option OpenFile))
    → ((i : ℕ) → i < length pipes → IsOpenEnd files (ino_at pipes i)) → AreApart pipes
    → length pipes ≤ count_by is_some files
few_ends [] files all apart = omega arith
few_ends (p ∷ rest) files all apart =
    let end = all 0 (omega arith) in
    let now : List (Option OpenFile) = slice_set files end.entry None in
    let less = count_changed is_some files end.entry None None (used_low files end.entry end.file end.there) in
    let was : cond {A = ℕ} (is_some (file_at files end.entry)) 1 0 ≡ 1 = ap (λ o. cond {A = ℕ} (is_some o) 1 0) end.there in
    let others = few_ends rest now
    (λ i low.
    let own = all (suc i) (omega (arith, low)) in
    let other : own.entry ≢ end.entry = (λ same.
    let alike : own.file ≡ end.file = same_Some own.file end.file (sym own.there ∙ (ap (file_at files) same ∙ end.there)) in
    let is = apart (suc i) 0 (omega (arith, low)) (omega arith)
    (sym own.same ∙ (ap (λ (x : OpenFile). x.ino) alike ∙ end.same)) in
    omega (arith, is)) in
    record {
      entry = own.entry;
      file = own.file;
      there = set_other files end.entry own.entry None own.file other own.there;
      pipe = own.pipe;
      same = own.same;
    })
    (λ i j low short same. let is = apart (suc i) (suc j) (omega (arith, low)) (omega (arith, short)) same in
    omega (arith, is)) in
    omega (arith, others, less, was)

-- There are no more pipes than entries in use.
pub pipes_few : (files : List (Option OpenFile)) (pipes : List Pipe) → ArePipes files pipes
    → length pipes ≤ count_by is_some files
pipes_few files pipes are = few_ends pipes files (λ i low. end_found files (ino_at pipes i) (are.ended i low))
    (apart_once pipes are.once)

-- There is room for one more pipe where an entry is free.
pub pipes_low : (files : List (Option OpenFile)) (pipes : List Pipe) (entry : ℕ) → entry < length files
    → file_at files entry ≡ None → ArePipes files pipes
    → length pipes < length files
pipes_low files pipes entry low free are =
    let few = pipes_few files pipes are in
    let used : OpenFile = record {
      ino = 0;
      kind = record { reading = false; writing = false; pipe = false };
      offset = 0;
      count = 0;
    } in
    let more = count_changed is_some files entry (Some used) None low in
    let was : cond {A = ℕ} (is_some (file_at files entry)) 1 0 ≡ 0 = ap (λ o. cond {A = ℕ} (is_some o) 1 0) free in
    let most = count_by-le-length is_some (slice_set files entry (Some used)) in
    let long = length-set files entry (Some used) in
    omega (arith, few, more, was, most, long)

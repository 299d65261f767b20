-- What a call on files shows is little: lines of the log that wake somebody or send a signal, and bytes of terminal lines. `wakeup`,
-- `psignal` and `ttyoutput` in Lions' Commentary, `slp.c`, `sig.c` and `tty.c`.
use Rattle.std.proofs.Common.{◌≡◌, ◌≢◌, ◌⊎◌, ◌+◌, ◌*◌, ◌%◌, ◌≤◌, ◌<◌, ◌==◌, ◌||◌, ℕ, zero, suc, Bool, true, false, cond, List, [], ◌∷◌, ◌++◌, length, map, get_or, sum_by, Result, Ok, Err, nat_le, refl, sym, ap, ◌∙◌, subst, arith, length-append}
use Rattle.std.specs.List.{All}
use Rattle.std.proofs.lemmas.Bool.{lt-leb, eqb-true, eqb-false, ne_eqb}
use Rattle.std.proofs.lemmas.List.{append-nil}
use Rattle.std.proofs.lemmas.List.Elements.{All-nil, All-append}
use Rattle.std.proofs.lemmas.List.Sums.{sum_by-cons}
use Rattle.v6_base.specs.Image.{Image}
use Rattle.v6_base.specs.Access.{load_byte}
use Rattle.v6_base.specs.declared.space.Trap.{Trap}
use Rattle.v6_base.specs.declared.entry.Chan.{Chan}
use Rattle.v6_base.specs.declared.entry.Entry.{Entry}
use Rattle.v6_base.specs.declared.entry.Chan.TheVariants.{RunIn, RunOut, Tout, Keys, Show, Read, KeysOf, ShowOf}
use Rattle.v6_base.specs.declared.entry.Chan.TheVariants as channel
use Rattle.v6_base.specs.declared.entry.Entry.TheVariants.{Wake, Signal}
use Rattle.sig_core.specs.declared.numbers.TheConstants.{SIGPIPE}
use Rattle.v6_base.specs.Tape.{Recording, is_full, taken_on, bytes_of}
use Rattle.v6_base.specs.Trace.{Item, Byte, Log, Took, sent, line_bytes, entries_of}
use Rattle.v6_base.proofs.Took.{entries_of-sent, entries_of-append}
use Rattle.fs_tree.specs.Name.{read_then, readable}
use Rattle.tty_line.specs.Terminal.{Terminal, flags}
use Rattle.tty_line.specs.Output.{shown_byte, shown_bytes, column_after_all, shows}
use Rattle.tty_line.proofs.OutputLemmas.{few_shown}
use Rattle.lines_eight.specs.Told.{keys_of, show_of}

-- One call shows no more lines of the log, and no more bytes: a write has at most 65,535 bytes, and each of these shows at most 8.
abbrev pub most_entries : ℕ
most_entries = 60

abbrev pub most_bytes : ℕ
most_bytes = 524280

-- A channel on which a call on files wakes, or in a pipe sleeps: of a terminal line other than the console of which this is so, or of a
-- pipe's inode of which that is.
abbrev pub IsOfFiles : (ℕ → Type 0) → (ℕ → Type 0) → Chan → Type 0
IsOfFiles Named Line RunIn = ⊥
IsOfFiles Named Line RunOut = ⊥
IsOfFiles Named Line Tout = ⊥
IsOfFiles Named Line Keys = Unit {0}
IsOfFiles Named Line (channel.Wait slot) = ⊥
IsOfFiles Named Line (Read ino) = Named ino
IsOfFiles Named Line (channel.Write ino) = Named ino
IsOfFiles Named Line Show = Unit {0}
IsOfFiles Named Line (channel.Disk slot) = ⊥
IsOfFiles Named Line (KeysOf line) = Line line
IsOfFiles Named Line (ShowOf line) = Line line

pub keys_of_files : (Named Line : ℕ → Type 0) (l : ℕ) → (l ≢ 0 → Line l) → IsOfFiles Named Line (keys_of l)
keys_of_files Named Line l line = by (l == 0) refl where
  by : (b : Bool) → (l == 0) ≡ b → IsOfFiles Named Line (cond b Keys (KeysOf l))
  by true is = tt
  by false other = line (eqb-false l 0 other)

pub show_of_files : (Named Line : ℕ → Type 0) (l : ℕ) → (l ≢ 0 → Line l) → IsOfFiles Named Line (show_of l)
show_of_files Named Line l line = by (l == 0) refl where
  by : (b : Bool) → (l == 0) ≡ b → IsOfFiles Named Line (cond b Show (ShowOf l))
  by true is = tt
  by false other = line (eqb-false l 0 other)

-- A line of the log by a call on files of the process of a slot: somebody is woken, or this process has the signal of a pipe that nobody
-- reads.
abbrev pub IsLineOf : (ℕ → Type 0) → (ℕ → Type 0) → ℕ → Entry → Type 0
IsLineOf Named Line slot entry = ((chan : Chan) × (entry ≡ Wake chan) × IsOfFiles Named Line chan) ⊎ (entry ≡ Signal slot SIGPIPE)

-- the same of any inodes and lines
abbrev pub IsOfCall : ℕ → Entry → Type 0
IsOfCall slot entry = IsLineOf (λ ino. Unit {0}) (λ line. Unit {0}) slot entry

-- how many bytes are shown, on all terminal lines
abbrev pub bytes_in : List Item → ℕ
bytes_in [] = 0
bytes_in (Byte line byte ∷ items) = suc (bytes_in items)
bytes_in (Log e ∷ items) = bytes_in items

-- Items of which so many at most are lines of the log, and so many bytes.
pub record AreFew (slot lines bytes : ℕ) (items : List Item) : Type 0 where
  pub few_entries : length (entries_of items) ≤ lines
  pub few_bytes : bytes_in items ≤ bytes
  pub only_lines : All (IsOfCall slot) (entries_of items)

-- Items that a tape has room for.
abbrev pub Fits : ℕ → List Item → Type 0
Fits slot items = AreFew slot most_entries most_bytes items

pub few_none : (slot : ℕ) → AreFew slot 0 0 []
few_none slot = record { few_entries = omega arith; few_bytes = omega arith; only_lines = All-nil (IsOfCall slot) }

pub few_up_to : (slot m k lines bytes : ℕ) (items : List Item) → m ≤ lines → k ≤ bytes → AreFew slot m k items → AreFew slot lines bytes items
few_up_to slot m k lines bytes items fewer less few = record {
  few_entries = let f = few.few_entries in omega (arith, f, fewer);
  few_bytes = let f = few.few_bytes in omega (arith, f, less);
  only_lines = few.only_lines;
}

bytes_in-append : (xs ys : List Item) → bytes_in (xs ++ ys) ≡ bytes_in xs + bytes_in ys
bytes_in-append [] ys = omega arith
bytes_in-append (Byte line byte ∷ xs) ys = let rest = bytes_in-append xs ys in omega (arith, rest)
bytes_in-append (Log e ∷ xs) ys = bytes_in-append xs ys

bytes_in-sent : (line : ℕ) (bytes : List ℕ) → bytes_in (sent line bytes) ≡ length bytes
bytes_in-sent line [] = refl
bytes_in-sent line (byte ∷ bytes) = ap suc (bytes_in-sent line bytes)

bytes_in-told : (entries : List Entry) → bytes_in (map Log entries) ≡ 0
bytes_in-told [] = refl
bytes_in-told (entry ∷ entries) = bytes_in-told entries

pub few_then : (slot m k n j : ℕ) (xs ys : List Item) → AreFew slot m k xs → AreFew slot n j ys → AreFew slot (m + n) (k + j) (xs ++ ys)
few_then slot m k n j xs ys first second =
    let joined : entries_of (xs ++ ys) ≡ entries_of xs ++ entries_of ys = entries_of-append xs ys in
    let long = ap length joined ∙ length-append (entries_of xs) (entries_of ys) in
    let bytes = bytes_in-append xs ys in
    let a = first.few_entries in
    let b = second.few_entries in
    let c = first.few_bytes in
    let d = second.few_bytes in
    record {
      few_entries = omega (arith, long, a, b);
      few_bytes = omega (arith, bytes, c, d);
      only_lines = subst (All (IsOfCall slot)) (sym joined) (All-append (IsOfCall slot) (entries_of xs) (entries_of ys) first.only_lines second.only_lines);
    }

-- Bytes are shown.
pub few_sent : (slot line : ℕ) (bytes : List ℕ) → AreFew slot 0 (length bytes) (sent line bytes)
few_sent slot line bytes =
    let none : entries_of (sent line bytes) ≡ [] = entries_of-sent line bytes in
    let quiet : length (entries_of (sent line bytes)) ≡ 0 = ap length none in
    let long = bytes_in-sent line bytes in
    record {
      few_entries = omega (arith, quiet);
      few_bytes = omega (arith, long);
      only_lines = subst (All (IsOfCall slot)) (sym none) (All-nil (IsOfCall slot));
    }

-- lines of the log
told_entries : (entries : List Entry) → entries_of (map Log entries) ≡ entries
told_entries [] = refl
told_entries (entry ∷ entries) = ap (λ l. entry ∷ l) (told_entries entries)

pub few_lines : (slot : ℕ) (entries : List Entry) → All (IsOfCall slot) entries → AreFew slot (length entries) 0 (map Log entries)
few_lines slot entries all =
    let same = told_entries entries in
    let long : length (entries_of (map Log entries)) ≡ length entries = ap length same in
    let none = bytes_in-told entries in
    record {
      few_entries = omega (arith, long);
      few_bytes = omega (arith, none);
      only_lines = subst (All (IsOfCall slot)) (sym same) all;
    }

-- nothing is shown
pub fits_none : (slot : ℕ) → Fits slot []
fits_none slot = few_up_to slot 0 0 most_entries most_bytes [] (omega arith) (omega arith) (few_none slot)

pub fits_lines : (slot : ℕ) (entries : List Entry) → length entries ≤ most_entries → All (IsOfCall slot) entries → Fits slot (map Log entries)
fits_lines slot entries few all =
    few_up_to slot (length entries) 0 most_entries most_bytes (map Log entries) few (omega arith) (few_lines slot entries all)

-- lines, bytes of a terminal line, and lines
pub few_told : (slot line : ℕ) (front back : List Entry) (bytes : List ℕ) → length front + length back ≤ 4 → length bytes ≤ 1008
    → All (IsOfCall slot) front → All (IsOfCall slot) back
    → AreFew slot 4 1008 (map Log front ++ (sent line bytes ++ map Log back))
few_told slot line front back bytes few less first second =
    few_up_to slot (length front + (0 + length back)) (0 + (length bytes + 0)) 4 1008 (map Log front ++ (sent line bytes ++ map Log back))
    (omega (arith, few)) (omega (arith, less))
    (few_then slot (length front) 0 (0 + length back) (length bytes + 0) (map Log front) (sent line bytes ++ map Log back) (few_lines slot front first)
    (few_then slot 0 (length bytes) (length back) 0 (sent line bytes) (map Log back) (few_sent slot line bytes) (few_lines slot back second)))

-- A byte that is written shows at most 8.
pub few_shown_of : (word column : ℕ) (bytes : List ℕ) → length (shown_bytes word column bytes) ≤ 8 * length bytes
few_shown_of word column [] = omega arith
few_shown_of word column (byte ∷ bytes) =
    let shown : List ℕ = shown_byte word column byte in
    let next : ℕ = column_after_all column shown in
    let here = few_shown word column byte in
    let later = few_shown_of word next bytes in
    let long = length-append shown (shown_bytes word next bytes) in
    omega (arith, here, later, long)

few_at_once : (b : Bool) (t : Terminal) (bytes : List ℕ) → length {A = ℕ} (cond b [] (shown_bytes (flags t) t.column bytes)) ≤ 8 * length bytes
few_at_once true t bytes = omega arith
few_at_once false t bytes = few_shown_of (flags t) t.column bytes

-- No more bytes can be read than are asked for.
front_few : (r : Result ℕ Trap) (later : List ℕ) (n : ℕ) → length later ≤ n → length (read_then r later) ≤ suc n
front_few (Ok byte) later n few = omega (arith, few)
front_few (Err trap) later n few = omega arith

pub few_readable : (image : Image) (at n : ℕ) → length (readable image at n) ≤ n
unfolding readable
few_readable image at zero = omega arith
few_readable image at (suc n) =
    front_few (load_byte image at) (readable image ((at + 1) % 65536) n) n (few_readable image ((at + 1) % 65536) n)

-- What a write to a line shows.
pub fits_shown : (slot l : ℕ) (t : Terminal) (bytes : List ℕ) → length bytes ≤ 65535 → Fits slot (sent l (shows t bytes))
fits_shown slot l t bytes few =
    let shown = few_at_once t.is_paced t bytes in
    few_up_to slot 0 (length (shows t bytes)) most_entries most_bytes (sent l (shows t bytes)) (omega arith) (omega (arith, shown, few))
    (few_sent slot l (shows t bytes))

-- An empty tape with room for more than a call shows.
pub record IsSpare (tape : Recording) : Type 0 where
  pub entries : tape.entries ≡ []
  pub lines : (l : ℕ) → bytes_of tape l ≡ []
  pub entry_room : most_entries < tape.entry_room
  pub byte_room : most_bytes < tape.byte_room

-- A tape that isn't cut, and holds what was shown.
pub record HasAll (tape : Recording) (items : List Item) : Type 0 where
  pub goes : is_full tape ≡ false
  pub entries : tape.entries ≡ entries_of items
  pub lines : (l : ℕ) → bytes_of tape l ≡ line_bytes l items

-- the bytes of so many lines, from one on
abbrev lines_from : ℕ → ℕ → List Item → ℕ
lines_from l zero items = 0
lines_from l (suc n) items = length (line_bytes l items) + lines_from (suc l) n items

one_on : (l line byte : ℕ) (items : List Item) → length (line_bytes l (Byte line byte ∷ items)) ≤ suc (length (line_bytes l items))
one_on l line byte items = by (line == l) where
  by : (b : Bool) → length {A = ℕ} (cond b (byte ∷ line_bytes l items) (line_bytes l items)) ≤ suc (length (line_bytes l items))
  by true = omega arith
  by false = omega arith

not_on : (l line byte : ℕ) (items : List Item) → (line == l) ≡ false → line_bytes l (Byte line byte ∷ items) ≡ line_bytes l items
not_on l line byte items other = ap (λ b. cond b (byte ∷ line_bytes l items) (line_bytes l items)) other

-- a byte of a lower line isn't among them
none_above : (l n line byte : ℕ) (items : List Item) → line < l → lines_from l n (Byte line byte ∷ items) ≡ lines_from l n items
none_above l zero line byte items low = refl
none_above l (suc n) line byte items low =
    let here = ap length (not_on l line byte items (ne_eqb line l (λ e. omega (arith, e, low)))) in
    let rest = none_above (suc l) n line byte items (omega (arith, low)) in
    omega (arith, here, rest)

one_more : (l n line byte : ℕ) (items : List Item) → lines_from l n (Byte line byte ∷ items) ≤ suc (lines_from l n items)
one_more l zero line byte items = omega arith
one_more l (suc n) line byte items = by (line == l) refl (one_more (suc l) n line byte items) where
  by : (b : Bool) → (line == l) ≡ b → lines_from (suc l) n (Byte line byte ∷ items) ≤ suc (lines_from (suc l) n items)
      → lines_from l (suc n) (Byte line byte ∷ items) ≤ suc (lines_from l (suc n) items)
  by true is later =
      let same = eqb-true line l is in
      let here = one_on l line byte items in
      let rest = none_above (suc l) n line byte items (omega (arith, same)) in
      omega (arith, here, rest)
  by false other later =
      let here = ap length (not_on l line byte items other) in
      omega (arith, here, later)

no_items : (l n : ℕ) → lines_from l n [] ≡ 0
no_items l zero = refl
no_items l (suc n) = let rest = no_items (suc l) n in omega (arith, rest)

not_by_log : (l n : ℕ) (e : Entry) (items : List Item) → lines_from l n (Log e ∷ items) ≡ lines_from l n items
not_by_log l zero e items = refl
not_by_log l (suc n) e items = ap (λ m. length (line_bytes l items) + m) (not_by_log (suc l) n e items)

few_on_lines : (l n : ℕ) (items : List Item) → lines_from l n items ≤ bytes_in items
few_on_lines l n [] = let none = no_items l n in omega (arith, none)
few_on_lines l n (Byte line byte ∷ items) =
    let one = one_more l n line byte items in
    let rest = few_on_lines l n items in
    omega (arith, one, rest)
few_on_lines l n (Log e ∷ items) =
    let same = not_by_log l n e items in
    let rest = few_on_lines l n items in
    omega (arith, same, rest)

sum_on_lines : (lines : List (List ℕ)) (l : ℕ) (items : List Item) → ((i : ℕ) → get_or lines i [] ≡ line_bytes (l + i) items)
    → sum_by length lines ≡ lines_from l (length lines) items
sum_on_lines [] l items are = refl
sum_on_lines (bytes ∷ lines) l items are =
    let here = ap length (are 0) ∙ ap (λ n. length (line_bytes n items)) (let e : l + 0 ≡ l = omega arith in e) in
    let rest = sum_on_lines lines (suc l) items (λ i. are (suc i) ∙ ap (λ n. line_bytes n items) (let e : l + suc i ≡ suc l + i = omega arith in e)) in
    let all = sum_by-cons length bytes lines in
    omega (arith, all, here, rest)

-- a part of a list, after nothing
part_of : {A : Type 0} (old part rest all new : List A) → new ≡ old ++ part → old ≡ [] → all ≡ part ++ rest
    → (new ≡ part) × (length new ≤ length all)
part_of old part rest all new is none split =
    let same : new ≡ part = is ∙ ap (λ l. l ++ part) none in
    let long : length new ≡ length part = ap length same in
    let whole : length all ≡ length part + length rest = ap length split ∙ length-append part rest in
    (same, omega (arith, long, whole))

-- Such a tape is never filled by a call.
pub never_filled : (slot : ℕ) (old new : Recording) (items : List Item) → Fits slot items → IsSpare old
    → new.entry_room ≡ old.entry_room → new.byte_room ≡ old.byte_room → Took (taken_on old) items (taken_on new)
    → HasAll new items
never_filled slot old new items fits spare entry_room byte_room took =
    let entries = part_of old.entries (entries_of took.part) (entries_of took.rest) (entries_of items) new.entries
    (took.holds.entries refl) spare.entries (ap entries_of took.split ∙ entries_of-append took.part took.rest) in
    let lines : (l : ℕ) → bytes_of new l ≡ line_bytes l took.part =
    λ l. took.holds.bytes l refl ∙ ap (λ bytes. bytes ++ line_bytes l took.part) (spare.lines l) in
    let sum = sum_on_lines new.lines 0 took.part
    (λ i. lines i ∙ ap (λ n. line_bytes n took.part) (let e : i ≡ 0 + i = omega arith in e)) in
    let some = few_on_lines 0 (length new.lines) took.part in
    let whole = ap bytes_in took.split ∙ bytes_in-append took.part took.rest in
    let few_entries : length new.entries < new.entry_room =
    (let e = entries.1 in let f = fits.few_entries in let r = spare.entry_room in omega (arith, e, f, r, entry_room)) in
    let few_bytes : sum_by length new.lines < new.byte_room =
    (let f = fits.few_bytes in let r = spare.byte_room in omega (arith, sum, some, whole, f, r, byte_room)) in
    let goes : is_full new ≡ false =
    ap (λ t. t || nat_le new.byte_room (sum_by length new.lines)) (lt-leb new.entry_room (length new.entries) few_entries)
    ∙ lt-leb new.byte_room (sum_by length new.lines) few_bytes in
    let all : took.part ≡ items =
    sym (took.split ∙ ap (λ r. took.part ++ r) (took.whole goes) ∙ append-nil took.part) in
    record {
      goes = goes;
      entries = entries.0 ∙ ap entries_of all;
      lines = λ l. lines l ∙ ap (line_bytes l) all;
    }

-- What the changes of a host in memory show outside.
use Rattle.std.proofs.Common.{◌≡◌, ◌≢◌, ℕ, zero, suc, ◌+◌, ◌<◌, ◌≤◌, true, false, List, [], ◌∷◌, ◌++◌, map, length, drop, take, Ok, Err, Result, get_or, slice_index_or, slice_set, Option, Some, None, nat_eq, arith, le_of_eq, ap, subst, refl, sym, ◌∙◌}
use Rattle.std.specs.Prelude.{if◌then◌else◌, string_bytes, String, OnErr}
use Rattle.std.specs.declared.alloc.Global.{Global}
use Rattle.std.specs.Option.{option_map, ForSome}
use Rattle.std.specs.Cmp.Lexicographic.{pointwise, same_text, other_text}
use Rattle.std.proofs.lemmas.List.{get_or-map, get_or_append_left, map-append, get_or-set_other, get_or-set_same, map-set, length-map, length-append, length-take, take-append-drop, take-append-le, take_all, drop-drop}
use Rattle.std.proofs.Math.Seq.{map-set_same}
use Rattle.std.proofs.Math.Path.{fun_ext}
use Rattle.std.proofs.lemmas.Bool.Decides.{nat_tests}
use Rattle.v6_port.specs.declared.host.InPort.{InPort}
use Rattle.v6_port.specs.declared.host.OutPort.{OutPort}
use Rattle.v6_port.specs.declared.host.OutPort.TheVariants as out_port
use Rattle.v6_port.specs.declared.kept.Kept.{Kept}
use Rattle.v6_port.specs.declared.files.NamedFile.{NamedFile}
use Rattle.v6_port.specs.declared.files.Reading.{Reading}
use Rattle.v6_port.specs.declared.rooms.Room.{Room}
use Rattle.v6_port.specs.Outside.{Environment, Port, In, Out, same, place, in_number, out_number, port_number}
use Rattle.v6_port.specs.Kept.{kept_at, state_of, outside_of}
use Rattle.v6_port.specs.Files.{is_named, first_of, given_by, bytes_at, left_in, memory_bytes, AreEmpty}
use Rattle.v6_port.specs.Memory.{Memory, memory_of, AddsFile, TakesRoom}
use Rattle.v6_port.specs.Calls.{Reads, Writes}

-- texts that are tested for being equal
same_bytes : (bytes : List ℕ) → pointwise nat_eq bytes bytes ≡ true
same_bytes bytes = elim (pointwise nat_eq bytes bytes) as (λ b. b ≡ pointwise nat_eq bytes bytes → b ≡ true) [ true ↦ λ _. refl | false ↦ λ is. absurd (other_text bytes bytes is refl) ] refl

other_bytes : (a b : List ℕ) → b ≢ a → pointwise nat_eq a b ≡ false
other_bytes a b other = elim (pointwise nat_eq a b) as (λ t. t ≡ pointwise nat_eq a b → t ≡ false) [ true ↦ λ is. absurd (other (sym (same_text a b is))) | false ↦ λ _. refl ] refl

first_of-none : (a : Option (List ℕ)) → first_of a None ≡ a
first_of-none None = refl
first_of-none (Some bytes) = refl

first_of-first_of : (a b c : Option (List ℕ)) → first_of (first_of a b) c ≡ first_of a (first_of b c)
first_of-first_of None b c = refl
first_of-first_of (Some bytes) b c = refl

-- the last of the files is looked at first
given_by-append : (files : List NamedFile) (file : NamedFile) (name : List ℕ)
    → given_by (files ++ file ∷ []) name ≡ first_of (if is_named name file then Some file.bytes.items else None) (given_by files name)
given_by-append [] file name = sym (first_of-none _)
given_by-append (first ∷ files) file name =
    ap (λ (a : Option (List ℕ)). first_of a (if is_named name first then Some first.bytes.items else None)) (given_by-append files file name)
    ∙ first_of-first_of (if is_named name file then Some file.bytes.items else None) (given_by files name) _

-- A file more leaves what is being read.
left_in-append : (files : List NamedFile) (file : NamedFile) (reading : Option Reading) → ForSome reading (λ r. r.file < length files)
    → left_in (files ++ file ∷ []) reading ≡ left_in files reading
left_in-append files file None within = refl
left_in-append files file (Some r) within = ap (drop r.at)
    (rw map-append (get_or_append_left (map (λ (f : NamedFile). f.bytes.items) files) _ [] r.file (rw length-map (within r refl))))

pub adds : (files later : List NamedFile) (names : List (Option (String Global))) (readings : List (Option Reading)) (rooms : List Room) (ports : List Kept)
    (fails : List ℕ) (calls : ℕ) (chunk : Option ℕ) (file : NamedFile) (name bytes : List ℕ)
    → later ≡ files ++ file ∷ [] → string_bytes file.name ≡ name → file.bytes.items ≡ bytes
    → ((k : ℕ) → ForSome (slice_index_or readings k None) (λ r. r.file < length files))
    → AddsFile name bytes (memory_of files names readings rooms ports fails calls chunk) (memory_of later names readings rooms ports fails calls chunk)
adds files later names readings rooms ports fails calls chunk file name bytes is named holds within = rw is (record {
  gives = given_by-append files file name ∙ rw (named, same_bytes name, holds) refl;
  others = λ other differs. given_by-append files file other ∙ rw (named, other_bytes name other differs) refl;
  tells = refl;
  expects = refl;
  ports = λ q. ap (λ (bytes : List ℕ). state_of (kept_at ports (port_number q)) q bytes) (bytes_more q);
  fails = refl;
  calls = refl;
  room = refl;
  chunk = refl;
}) where
  bytes_more : (q : Port) → memory_bytes (files ++ file ∷ []) readings rooms q ≡ memory_bytes files readings rooms q
  bytes_more (In p) = left_in-append files file _ (within (in_number p))
  bytes_more (Out p) = refl

-- A port's place among those for writing is its own.
out_number-place : (p : OutPort) → out_number p ≡ place p + 4
out_number-place out_port.Term = refl
out_number-place out_port.Log = refl
out_number-place out_port.Final = refl
out_number-place out_port.Report = refl
out_number-place out_port.Second = refl
out_number-place (out_port.Line l) = omega arith

place-other : (p r : OutPort) → same (Out p) (Out r) ≡ false → place r ≢ place p
place-other p r other e =
    let is : out_number p ≡ out_number r = omega (arith, out_number-place p, out_number-place r) in grind (arith, nat_tests)

same_place : (p r : OutPort) → same (Out p) (Out r) ≡ true → place r ≡ place p
same_place p r here =
    let is : out_number p ≡ out_number r = grind (arith, nat_tests) in omega (arith, out_number-place p, out_number-place r)

-- One room in the place of another: what is seen of it, and of the others.
module _ {B : Type 0} (f : Room → B) (d : B) (rooms : List Room) (room : Room) where
  set_room-same : (i j : ℕ) → i ≡ j → i < length rooms → slice_index_or (map f (slice_set rooms i room)) j d ≡ f room
  set_room-same i j is below = rw (← is, map-set) (get_or-set_same (map f rooms) i (f room) d (rw length-map below))

  set_room-other : (i j : ℕ) → j ≢ i → slice_index_or (map f (slice_set rooms i room)) j d ≡ slice_index_or (map f rooms) j d
  set_room-other i j differs = rw map-set (get_or-set_other (map f rooms) i j (f room) d differs)

  read_room : (i j : ℕ) → i ≡ j → i < length rooms → room ≡ get_or rooms i room → slice_index_or (map f rooms) j d ≡ f room
  read_room i j is below read = rw (← is) (get_or-map f rooms i room d below ∙ ap f (sym read))

pub takes_room : (p : OutPort) (name : List ℕ) (more : ℕ) (files : List NamedFile) (names : List (Option (String Global))) (readings : List (Option Reading)) (rooms : List Room) (ports : List Kept)
    (fails : List ℕ) (calls : ℕ) (chunk : Option ℕ) (text : String Global) (room larger : Room) (i j : ℕ)
    → i ≡ place p → j ≡ place p → i < length rooms → j < length names → room ≡ get_or rooms i room
    → string_bytes text ≡ name → larger.free ≡ room.free + more → larger.bytes.items ≡ room.bytes.items
    → TakesRoom p name more (memory_of files names readings rooms ports fails calls chunk)
    (memory_of files (slice_set names j (Some text)) readings (slice_set rooms i larger) ports fails calls chunk)
takes_room p name more files names readings rooms ports fails calls chunk text room larger i j i_is j_is in_rooms in_names read named freed kept = record {
  expects = rw j_is (ap (option_map string_bytes) (get_or-set_same names (place p) (Some text) None (subst (λ (n : ℕ). n < length names) j_is in_names)) ∙ ap Some named);
  room = set_room-same (λ (r : Room). r.free) 0 rooms larger i (place p) i_is in_rooms ∙ freed
      ∙ ap (λ (n : ℕ). n + more) (sym (read_room (λ (r : Room). r.free) 0 rooms room i (place p) i_is in_rooms read));
  others = λ r other. let apart = place-other p r other in (
    ap (option_map string_bytes) (get_or-set_other names j (place r) (Some text) None (λ e. apart (e ∙ j_is))),
    set_room-other (λ (r : Room). r.free) 0 rooms larger i (place r) (λ e. apart (e ∙ i_is)),
  );
  tells = refl;
  given = refl;
  ports = λ q. ap (λ (bytes : List ℕ). state_of (kept_at ports (port_number q)) q bytes) (bytes_same q);
  fails = refl;
  calls = refl;
  chunk = refl;
} where
  bytes_kept : (n : ℕ) → slice_index_or (map (λ (r : Room). r.bytes.items) (slice_set rooms i larger)) n [] ≡ slice_index_or (map (λ (r : Room). r.bytes.items) rooms) n []
  bytes_kept n = ap (λ (xs : List (List ℕ)). slice_index_or xs n []) (map-set_same (λ (r : Room). r.bytes.items) rooms i larger room (kept ∙ ap (λ (r : Room). r.bytes.items) read))

  bytes_same : (q : Port) → memory_bytes files readings (slice_set rooms i larger) q ≡ memory_bytes files readings rooms q
  bytes_same (In r) = refl
  bytes_same (Out r) = bytes_kept (place r)

-- Nothing is seen of a room that holds and takes as much as the one in whose place it stands.
pub room_kept : (files : List NamedFile) (names : List (Option (String Global))) (readings : List (Option Reading)) (rooms : List Room) (ports : List Kept)
    (fails : List ℕ) (calls : ℕ) (chunk : Option ℕ) (room other : Room) (i : ℕ)
    → room ≡ get_or rooms i room → other.free ≡ room.free → other.bytes.items ≡ room.bytes.items
    → memory_of files names readings (slice_set rooms i other) ports fails calls chunk ≡ memory_of files names readings rooms ports fails calls chunk
room_kept files names readings rooms ports fails calls chunk room other i read freed kept =
    ap (λ bytes. with_seen bytes (λ p. slice_index_or (map (λ (r : Room). r.free) (slice_set rooms i other)) (place p) 0)) (fun_ext bytes_same)
    ∙ ap (with_seen (memory_bytes files readings rooms)) (fun_ext free_same) where
      with_seen : (Port → List ℕ) → (OutPort → ℕ) → Memory
      with_seen bytes free = record {
        outside = outside_of (record { tells = true; given = given_by files; expects = λ p. option_map string_bytes (slice_index_or names (place p) None) }) bytes ports;
        fails = fails;
        calls = calls;
        room = free;
        chunk = chunk;
      }

      bytes_kept : map (λ (r : Room). r.bytes.items) (slice_set rooms i other) ≡ map (λ (r : Room). r.bytes.items) rooms
      bytes_kept = map-set_same (λ (r : Room). r.bytes.items) rooms i other room (kept ∙ ap (λ (r : Room). r.bytes.items) read)

      free_kept : map (λ (r : Room). r.free) (slice_set rooms i other) ≡ map (λ (r : Room). r.free) rooms
      free_kept = map-set_same (λ (r : Room). r.free) rooms i other room (freed ∙ ap (λ (r : Room). r.free) read)

      bytes_same : (q : Port) → memory_bytes files readings (slice_set rooms i other) q ≡ memory_bytes files readings rooms q
      bytes_same (In p) = refl
      bytes_same (Out p) = ap (λ (xs : List (List ℕ)). slice_index_or xs (place p) []) bytes_kept

      free_same : (p : OutPort) → slice_index_or (map (λ (r : Room). r.free) (slice_set rooms i other)) (place p) 0 ≡ slice_index_or (map (λ (r : Room). r.free) rooms) (place p) 0
      free_same p = ap (λ (xs : List ℕ). slice_index_or xs (place p) 0) free_kept

-- what holds whatever the answer is, where it is an error
pub on_error : {T E : Type 0} (r : Result T E) (P : Type 0) → P → OnErr r P
on_error (Ok x) P holds = tt
on_error (Err e) P holds = holds

-- a write into a room
module _ (p : OutPort) (piece : List ℕ) (files : List NamedFile) (readings : List (Option Reading)) (rooms : List Room) (ports : List Kept)
    (room fuller : Room) (i n : ℕ) (is : i ≡ place p) (below : i < length rooms) (read : room ≡ get_or rooms i room)
    (appended : fuller.bytes.items ≡ room.bytes.items ++ take n piece) (part : n ≤ length piece) where
  bytes_other : (q : Port) → same (Out p) q ≡ false → memory_bytes files readings (slice_set rooms i fuller) q ≡ memory_bytes files readings rooms q
  bytes_other (In r) other = refl
  bytes_other (Out r) other = set_room-other (λ (r : Room). r.bytes.items) [] rooms fuller i (place r) (λ e. place-other p r other (e ∙ is))

  bytes_appended : memory_bytes files readings (slice_set rooms i fuller) (Out p) ≡ memory_bytes files readings rooms (Out p) ++ take n piece
  bytes_appended = set_room-same (λ (r : Room). r.bytes.items) [] rooms fuller i (place p) is below ∙ appended
      ∙ ap (λ (xs : List ℕ). xs ++ take n piece) (sym (read_room (λ (r : Room). r.bytes.items) [] rooms room i (place p) is below read))

  pub writes : (fixed : Environment) → (0 < length piece → 0 < n)
      → Writes p (outside_of fixed (memory_bytes files readings rooms) ports) piece (Ok n) (outside_of fixed (memory_bytes files readings (slice_set rooms i fuller)) ports)
  writes fixed some = record {
    only = record { fixed = refl; others = λ q other. ap (λ (bytes : List ℕ). state_of (kept_at ports (port_number q)) q bytes) (bytes_other q other) };
    outcome = (part, some, refl, λ told. bytes_appended);
  }

  pub room_used : fuller.free + n ≡ room.free → (r : OutPort)
      → slice_index_or (map (λ room. room.free) (slice_set rooms i fuller)) (place r) 0 + length (memory_bytes files readings (slice_set rooms i fuller) (Out r))
      ≡ slice_index_or (map (λ room. room.free) rooms) (place r) 0 + length (memory_bytes files readings rooms (Out r))
  room_used used r = elim (same (Out p) (Out r)) as (λ b. same (Out p) (Out r) ≡ b → Adds_up r) [
    | true ↦ λ here. subst Adds_up_at (sym (same_place p r here)) here_adds_up
    | false ↦ λ other. let apart = place-other p r other in
        rw (set_room-other (λ (r : Room). r.free) 0 rooms fuller i (place r) (λ e. apart (e ∙ is)), bytes_other (Out r) other) refl
  ] refl
    where
      Adds_up_at : ℕ → Type 0
      Adds_up_at k = slice_index_or (map (λ room. room.free) (slice_set rooms i fuller)) k 0 + length (slice_index_or (map (λ (r : Room). r.bytes.items) (slice_set rooms i fuller)) k [])
          ≡ slice_index_or (map (λ room. room.free) rooms) k 0 + length (slice_index_or (map (λ (r : Room). r.bytes.items) rooms) k [])

      Adds_up : OutPort → Type 0
      Adds_up r = Adds_up_at (place r)

      here_adds_up : Adds_up_at (place p)
      here_adds_up = rw (bytes_appended, set_room-same (λ (r : Room). r.free) 0 rooms fuller i (place p) is below, read_room (λ (r : Room). r.free) 0 rooms room i (place p) is below read)
          (omega (arith, length-append {A = ℕ}, length-take {A = ℕ}))

-- a read: `copied` are the first bytes of the rest, which stand now in the front of the buffer
module _ (p : InPort) (files : List NamedFile) (readings : List (Option Reading)) (rooms : List Room) (ports : List Kept)
    (reading : Reading) (rest copied more : List ℕ) (i n : ℕ) (is : i ≡ in_number p) (below : i < length readings)
    (found : slice_index_or readings i None ≡ Some reading) (rest_is : rest ≡ drop reading.at (bytes_at files reading.file)) where
  abbrev moved : Option Reading
  moved = Some (record { file = reading.file; at = reading.at + n })

  left_before : memory_bytes files readings rooms (In p) ≡ rest
  left_before = ap (λ (k : ℕ). left_in files (slice_index_or readings k None)) (sym is) ∙ ap (left_in files) found ∙ sym rest_is

  left_after : memory_bytes files (slice_set readings i moved) rooms (In p) ≡ drop n rest
  left_after = ap (λ (k : ℕ). left_in files (slice_index_or (slice_set readings i moved) k None)) (sym is)
      ∙ ap (left_in files) (get_or-set_same readings i moved None below)
      ∙ sym (drop-drop n reading.at (bytes_at files reading.file)) ∙ ap (drop n) (sym rest_is)

  left_other : (q : Port) → same (In p) q ≡ false → memory_bytes files (slice_set readings i moved) rooms q ≡ memory_bytes files readings rooms q
  left_other (In r) other = let apart : in_number r ≢ i = λ e. grind (arith, nat_tests) in
      ap (left_in files) (get_or-set_other readings i (in_number r) moved None apart)
  left_other (Out r) other = refl

  pub reads : (fixed : Environment) → copied ≡ take n rest → length copied ≡ n → (0 < length (copied ++ more) → 0 < length rest → 0 < n)
      → Reads p (outside_of fixed (memory_bytes files readings rooms) ports) (copied ++ more) (Ok n) (outside_of fixed (memory_bytes files (slice_set readings i moved) rooms) ports)
  reads fixed given long some = record {
    only = record { fixed = refl; others = λ q other. ap (λ (bytes : List ℕ). state_of (kept_at ports (port_number q)) q bytes) (left_other q other) };
    outcome = (
      omega (arith, length-append {A = ℕ}),
      refl,
      (λ told. left_before ∙ sym (take-append-drop n rest) ∙ ap (λ (l : List ℕ). l ++ drop n rest) (sym front) ∙ ap (λ (l : List ℕ). take n (copied ++ more) ++ l) (sym left_after)),
      (λ told none wanted. left_before ∙ none_left rest some none wanted),
    );
  } where
    front : take n (copied ++ more) ≡ take n rest
    front = take-append-le n copied more (le_of_eq (sym long)) ∙ take_all n copied (le_of_eq long) ∙ given

    none_left : (l : List ℕ) → (0 < length (copied ++ more) → 0 < length l → 0 < n) → n ≡ 0 → 0 < length (copied ++ more) → l ≡ []
    none_left [] some none wanted = refl
    none_left (x ∷ l) some none wanted = absurd (let at_least_one : 0 < n = some wanted (omega arith) in omega arith)

-- two reads of one element
pub same_read : (rooms : List Room) (i : ℕ) (a b : Room) → i < length rooms → a ≡ get_or rooms i a → b ≡ get_or rooms i b → a ≡ b
same_read [] i a b below a_is b_is = absurd (omega arith)
same_read (room ∷ rooms) zero a b below a_is b_is = a_is ∙ sym b_is
same_read (room ∷ rooms) (suc i) a b below a_is b_is = same_read rooms i a b (omega arith) a_is b_is

-- A room that is empty before others that are.
pub and_empty : (room : Room) (rooms : List Room) → room.bytes.items ≡ [] → room.free ≡ 0 → AreEmpty rooms → AreEmpty (room ∷ rooms)
and_empty room rooms no_bytes no_room others = record { bytes = bytes_at_place; free = free_at_place } where
  bytes_at_place : (n : ℕ) → slice_index_or (map (λ (r : Room). r.bytes.items) (room ∷ rooms)) n [] ≡ []
  bytes_at_place zero = no_bytes
  bytes_at_place (suc n) = others.bytes n

  free_at_place : (n : ℕ) → slice_index_or (map (λ (r : Room). r.free) (room ∷ rooms)) n 0 ≡ 0
  free_at_place zero = no_room
  free_at_place (suc n) = others.free n

pub none_empty : AreEmpty []
none_empty = record { bytes = λ n. refl; free = λ n. refl }

-- a host in memory to which nothing was added
pub no_bytes : (rooms : List Room) (readings : List (Option Reading)) → AreEmpty rooms → ((n : ℕ) → slice_index_or readings n None ≡ None)
    → (q : Port) → memory_bytes [] readings rooms q ≡ []
no_bytes rooms readings empty unread (In p) = rw unread refl
no_bytes rooms readings empty unread (Out p) = empty.bytes (place p)

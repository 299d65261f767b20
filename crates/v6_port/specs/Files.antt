-- The files and rooms that a host in memory keeps, and what is seen of them.
use Rattle.std.specs.Prelude.{◌≡◌, ℕ, Bool, List, [], ◌∷◌, map, drop, slice_index_or, Option, Some, None, if◌then◌else◌, nat_eq, string_bytes}
use Rattle.std.specs.Cmp.Lexicographic.{pointwise}
use Rattle.v6_port.specs.declared.files.NamedFile.{NamedFile}
use Rattle.v6_port.specs.declared.files.Reading.{Reading}
use Rattle.v6_port.specs.declared.rooms.Room.{Room}
use Rattle.v6_port.specs.Outside.{Port, In, Out, in_number, place}

abbrev pub is_named : List ℕ → NamedFile → Bool
is_named name file = pointwise nat_eq (string_bytes file.name) name

abbrev pub bytes_at : List NamedFile → ℕ → List ℕ
bytes_at files i = slice_index_or (map (λ file. file.bytes.items) files) i []

-- the first of the two that there is
abbrev pub first_of : Option (List ℕ) → Option (List ℕ) → Option (List ℕ)
first_of (Some bytes) other = Some bytes
first_of None other = other

-- the bytes that were added last under the name
abbrev pub given_by : List NamedFile → List ℕ → Option (List ℕ)
given_by [] name = None
given_by (file ∷ later) name = first_of (given_by later name) (if is_named name file then Some file.bytes.items else None)

-- what is left of a file that is being read, and nothing where none is
abbrev pub left_in : List NamedFile → Option Reading → List ℕ
left_in files None = []
left_in files (Some reading) = drop reading.at (bytes_at files reading.file)

abbrev pub memory_bytes : List NamedFile → List (Option Reading) → List Room → Port → List ℕ
memory_bytes files readings rooms (In p) = left_in files (slice_index_or readings (in_number p) None)
memory_bytes files readings rooms (Out p) = slice_index_or (map (λ room. room.bytes.items) rooms) (place p) []

-- rooms in which nothing was written, and that take nothing
pub record AreEmpty (rooms : List Room) : Type 0 where
  pub bytes : (n : ℕ) → slice_index_or (map (λ room. room.bytes.items) rooms) n [] ≡ []
  pub free : (n : ℕ) → slice_index_or (map (λ room. room.free) rooms) n 0 ≡ 0

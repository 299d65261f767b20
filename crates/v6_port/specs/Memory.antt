-- Files in memory: what is seen of a `MemHost`, and exactly when its calls fail.
-- The rules are those of docs/manual/ports.md, "Files in memory".
use Rattle.std.specs.Prelude.{◌≡◌, ◌≢◌, ℕ, ◌+◌, ◌-◌, ◌^◌, min, Bool, true, false, not, ◌||◌, ◌&&◌, ◌==◌, List, [], length, map, slice_index_or, Option, Some, None, nat_lt, string_bytes, String}
use Rattle.std.specs.declared.alloc.Global.{Global}
use Rattle.std.specs.Option.{option_map}
use Rattle.std.specs.List.{list_any}
use Rattle.v6_port.specs.declared.host.InPort.{InPort}
use Rattle.v6_port.specs.declared.host.OutPort.{OutPort}
use Rattle.v6_port.specs.declared.kept.Kept.{Kept}
use Rattle.v6_port.specs.declared.files.NamedFile.{NamedFile}
use Rattle.v6_port.specs.declared.files.Reading.{Reading}
use Rattle.v6_port.specs.declared.rooms.Room.{Room}
use Rattle.v6_port.specs.declared.mem_host.MemHost.{MemHost}
use Rattle.v6_port.specs.Outside.{Port, In, Out, same, place, Outside}
use Rattle.v6_port.specs.Calls.{is_given, is_expected}
use Rattle.v6_port.specs.Kept.{outside_of}
use Rattle.v6_port.specs.Files.{given_by, memory_bytes}

-- The outside; the numbers of the calls that are to fail; how many calls of the trait there were, 2^32 - 1
-- standing for more; how many bytes more each port takes; and the most that one read gives and one write takes,
-- where that is limited.
pub record Memory : Type 0 where
  pub outside : Outside
  pub fails : List ℕ
  pub calls : ℕ
  pub room : OutPort → ℕ
  pub chunk : Option ℕ

-- the same by what the host keeps
abbrev pub memory_of : List NamedFile → List (Option (String Global)) → List (Option Reading) → List Room → List Kept → List ℕ
    → ℕ → Option ℕ → Memory
memory_of files names readings rooms ports fails calls chunk = record {
  outside = outside_of (record {
    tells = true;
    given = given_by files;
    expects = λ p. option_map string_bytes (slice_index_or names (place p) None);
  }) (memory_bytes files readings rooms) ports;
  fails = fails;
  calls = calls;
  room = λ p. slice_index_or (map (λ room. room.free) rooms) (place p) 0;
  chunk = chunk;
}

abbrev pub memory : MemHost → Memory
memory host = memory_of host.files.items host.names host.readings host.rooms host.ports host.fails.items host.calls host.chunk

abbrev pub written : Memory → OutPort → List ℕ
written m p = (m.outside.port (Out p)).bytes

abbrev pub left : Memory → InPort → List ℕ
left m p = (m.outside.port (In p)).bytes

-- a host in memory with no file, no room, and no call that is to fail
pub record IsEmpty (m : Memory) : Type 0 where
  pub tells : m.outside.fixed.tells ≡ true
  pub given : (name : List ℕ) → m.outside.fixed.given name ≡ None
  pub expects : (p : OutPort) → m.outside.fixed.expects p ≡ None
  pub fails : m.fails ≡ []
  pub calls : m.calls ≡ 0
  pub room : (p : OutPort) → m.room p ≡ 0
  pub chunk : m.chunk ≡ None

-- A file was added, and nothing else has changed.
pub record AddsFile (name bytes : List ℕ) (old new : Memory) : Type 0 where
  pub gives : new.outside.fixed.given name ≡ Some bytes
  pub others : (other : List ℕ) → other ≢ name → new.outside.fixed.given other ≡ old.outside.fixed.given other
  pub tells : new.outside.fixed.tells ≡ old.outside.fixed.tells
  pub expects : new.outside.fixed.expects ≡ old.outside.fixed.expects
  pub ports : (q : Port) → new.outside.port q ≡ old.outside.port q
  pub fails : new.fails ≡ old.fails
  pub calls : new.calls ≡ old.calls
  pub room : new.room ≡ old.room
  pub chunk : new.chunk ≡ old.chunk

-- A port was given its name, and room for so many bytes more, and nothing else has changed.
pub record TakesRoom (p : OutPort) (name : List ℕ) (more : ℕ) (old new : Memory) : Type 0 where
  pub expects : new.outside.fixed.expects p ≡ Some name
  pub room : new.room p ≡ old.room p + more
  pub others : (r : OutPort) → same (Out p) (Out r) ≡ false → (new.outside.fixed.expects r ≡ old.outside.fixed.expects r)
      × (new.room r ≡ old.room r)
  pub tells : new.outside.fixed.tells ≡ old.outside.fixed.tells
  pub given : new.outside.fixed.given ≡ old.outside.fixed.given
  pub ports : (q : Port) → new.outside.port q ≡ old.outside.port q
  pub fails : new.fails ≡ old.fails
  pub calls : new.calls ≡ old.calls
  pub chunk : new.chunk ≡ old.chunk

-- the number of the call that comes next, from 1
abbrev pub next_call : Memory → ℕ
next_call m = min (m.calls + 1) (2 ^ 32 - 1)

-- whether that call is one of those that are to fail
abbrev pub is_due : Memory → Bool
is_due m = list_any (λ n. n == next_call m) m.fails

-- The calls fail exactly in these cases.
abbrev pub fails_open_read : Memory → List ℕ → Bool
fails_open_read m name = is_due m || not (is_given (m.outside.fixed.given name))

abbrev pub fails_open_write : Memory → OutPort → List ℕ → Bool
fails_open_write m p name = is_due m || not (is_expected (m.outside.fixed.expects p) name)

abbrev pub fails_write : Memory → OutPort → List ℕ → Bool
fails_write m p piece = is_due m || (nat_lt 0 (length piece) && m.room p == 0)

-- Each call counts as one, and each byte that is written takes room.
pub record IsOneCall (old new : Memory) : Type 0 where
  pub calls : new.calls ≡ next_call old
  pub fails : new.fails ≡ old.fails
  pub chunk : new.chunk ≡ old.chunk
  pub room : (p : OutPort) → new.room p + length (written new p) ≡ old.room p + length (written old p)

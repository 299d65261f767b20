-- Reads and writes, piece by piece.
use Rattle.std.proofs.Common.{◌≡◌, ◌+◌, ◌-◌, ◌*◌, ◌/◌, ◌<◌, ◌≤◌, ◌==◌, inl, inr, ℕ, zero, suc, Bool, true, false, not, cond, List, [], ◌∷◌, map, min, max, Option, Some, None, refl, sym, ap, ◌∙◌, arith}
use Rattle.std.proofs.lemmas.Bool.{cases_lt, lt-ltb, le-ltb, le-leb, lt-leb}
use Rattle.std.specs.List.{range_with_len}
use Rattle.std.proofs.lemmas.Nat.{and_or_apart}
use Rattle.std.proofs.Common.{slice_range, ◌||◌, bit_or}
use Rattle.bmap_path.specs.declared.BlockName.{BlockName}
use Rattle.bmap_path.specs.declared.BlockName.TheVariants.{Data, Ind, Dbl}
use Rattle.bmap_path.specs.Path.{path_of}
use Rattle.fs_codec.specs.Modes.{file_type, is_device, is_large}
use Rattle.fs_codec.specs.Store.{Node, holds}
use Rattle.v6_base.specs.declared.errno.Errno.TheVariants.{EFBIG, ENOSPC, EFAULT}
use Rattle.fs_laws.specs.Touch.{Touching, touching, take_names, gained, mode_with}
use Rattle.fs_laws.specs.Pieces.{pieces, piece_end, Moving, stopped, going_on, reading, writing, size_limit, with_bytes}

abbrev pair : ℕ → ℕ → ℕ × ℕ
pair a b = (a, b)

-- the piece in a block
abbrev piece_of : ℕ → ℕ → ℕ → ℕ × ℕ
piece_of at end n = (max at (512 * n), min end (512 * (n + 1)))

pub no_pieces : (at end : ℕ) → end ≤ at → pieces at end ≡ []
no_pieces at end h = ap (λ t. cond t [] (map (piece_of at end) (range_with_len (at / 512) ((end + 511) / 512 - at / 512)))) (le-leb end at h)

-- behind a place in front of them all, pieces do not depend on where the first begins
later : (at next end a n : ℕ) → at ≤ next → next ≤ 512 * a → map (piece_of at end) (range_with_len a n) ≡ map (piece_of next end) (range_with_len a n)
later at next end a zero low high = refl
later at next end a (suc n) low high =
    let first : max at (512 * a) ≡ max next (512 * a) = omega (arith, low, high) in
    ap (λ x. pair x (min end (512 * (a + 1))) ∷ map (piece_of at end) (range_with_len (a + 1) n)) first
    ∙ ap (λ l. piece_of next end a ∷ l) (later at next end (a + 1) n low (omega (arith, high)))

some_pieces : (at end : ℕ) → at < end → pieces at end ≡ map (piece_of at end) (range_with_len (at / 512) ((end + 511) / 512 - at / 512))
some_pieces at end h = ap (λ t. cond t [] (map (piece_of at end) (range_with_len (at / 512) ((end + 511) / 512 - at / 512)))) (lt-leb end at h)

-- the piece that is first, and the pieces behind it
pub pieces_step : (at end : ℕ) → at < end → pieces at end ≡ (at, piece_end at end) ∷ pieces (piece_end at end) end
pieces_step at end h =
    let n : ℕ = (end + 511) / 512 - (at / 512 + 1) in
    let more : (end + 511) / 512 - at / 512 ≡ suc ((end + 511) / 512 - (at / 512 + 1)) = omega (arith, h) in
    let begin : max at (512 * (at / 512)) ≡ at = omega arith in
    some_pieces at end h
    ∙ ap (λ k. map (piece_of at end) (range_with_len (at / 512) k)) more
    ∙ ap (λ x. pair x (piece_end at end) ∷ map (piece_of at end) (range_with_len (at / 512 + 1) ((end + 511) / 512 - (at / 512 + 1)))) begin
    ∙ ap (λ l. pair at (piece_end at end) ∷ l) (elim (cases_lt (512 * (at / 512 + 1)) end) [
      | inl low ↦
          (let next : piece_end at end ≡ 512 * (at / 512 + 1) = omega (arith, low) in
          let block : piece_end at end / 512 ≡ at / 512 + 1 = omega (arith, low) in
          later at (piece_end at end) end (at / 512 + 1) ((end + 511) / 512 - (at / 512 + 1)) (omega (arith, low)) (omega (arith, low))
          ∙ ap (λ b. map (piece_of (piece_end at end) end) (range_with_len b ((end + 511) / 512 - b))) (sym block)
          ∙ sym (some_pieces (piece_end at end) end (omega (arith, low))))
      | inr high ↦
          (let none : (end + 511) / 512 - (at / 512 + 1) ≡ 0 = omega (arith, high) in
          ap (λ k. map (piece_of at end) (range_with_len (at / 512 + 1) k)) none ∙ sym (no_pieces (piece_end at end) end (omega (arith, high))))
    ])

-- a read or a write goes on, after a block was touched
abbrev pub further : {Memory : Type 0} → Touching → Memory → ℕ → Moving Memory
further t memory done = record { node = t.node; room = t.room; memory = memory; done = done; error = None }

-- a write goes on with these bytes in the file
abbrev pub written : {Memory : Type 0} → Touching → ℕ → List ℕ → Memory → ℕ → Moving Memory
written t at bytes memory done = record { node = with_bytes t.node at bytes; room = t.room; memory = memory; done = done; error = None }

-- a read whose next block finds no room
pub read_stop : {Memory : Type 0} (put : Memory → ℕ → List ℕ → Option Memory) (at end : ℕ) (m : Moving Memory) → at < end → (touching m.node m.room (at / 512)).is_done ≡ false
    → reading put (pieces at end) m ≡ stopped m (touching m.node m.room (at / 512)) ENOSPC
read_stop {Memory} put at end m h out =
    ap (λ ps. reading put ps m) (pieces_step at end h)
    ∙ ap (λ done. cond (not done) (stopped m (touching m.node m.room (at / 512)) ENOSPC)
    (going_on (put m.memory m.done (slice_range (touching m.node m.room (at / 512)).node.body at (piece_end at end)))
    (λ memory. reading put (pieces (piece_end at end) end) (further (touching m.node m.room (at / 512)) memory (m.done + (piece_end at end - at))))
    (stopped m (touching m.node m.room (at / 512)) EFAULT))) out

-- a read whose next block is there
read_next : {Memory : Type 0} (put : Memory → ℕ → List ℕ → Option Memory) (at end : ℕ) (m : Moving Memory) → at < end → (touching m.node m.room (at / 512)).is_done ≡ true
    → reading put (pieces at end) m ≡ going_on (put m.memory m.done (slice_range (touching m.node m.room (at / 512)).node.body at (piece_end at end)))
    (λ memory. reading put (pieces (piece_end at end) end) (further (touching m.node m.room (at / 512)) memory (m.done + (piece_end at end - at))))
    (stopped m (touching m.node m.room (at / 512)) EFAULT)
read_next {Memory} put at end m h there =
    ap (λ ps. reading put ps m) (pieces_step at end h)
    ∙ ap (λ done. cond (not done) (stopped m (touching m.node m.room (at / 512)) ENOSPC)
    (going_on (put m.memory m.done (slice_range (touching m.node m.room (at / 512)).node.body at (piece_end at end)))
    (λ memory. reading put (pieces (piece_end at end) end) (further (touching m.node m.room (at / 512)) memory (m.done + (piece_end at end - at))))
    (stopped m (touching m.node m.room (at / 512)) EFAULT))) there

pub read_fault : {Memory : Type 0} (put : Memory → ℕ → List ℕ → Option Memory) (at end : ℕ) (m : Moving Memory) → at < end → (touching m.node m.room (at / 512)).is_done ≡ true
    → put m.memory m.done (slice_range (touching m.node m.room (at / 512)).node.body at (piece_end at end)) ≡ None
    → reading put (pieces at end) m ≡ stopped m (touching m.node m.room (at / 512)) EFAULT
read_fault put at end m h there none =
    read_next put at end m h there
    ∙ ap (λ r. going_on r (λ memory. reading put (pieces (piece_end at end) end) (further (touching m.node m.room (at / 512)) memory (m.done + (piece_end at end - at)))) (stopped m (touching m.node m.room (at / 512)) EFAULT)) none

pub read_more : {Memory : Type 0} (put : Memory → ℕ → List ℕ → Option Memory) (at end : ℕ) (m : Moving Memory) (memory : Memory) → at < end → (touching m.node m.room (at / 512)).is_done ≡ true
    → put m.memory m.done (slice_range (touching m.node m.room (at / 512)).node.body at (piece_end at end)) ≡ Some memory
    → reading put (pieces at end) m ≡ reading put (pieces (piece_end at end) end) (further (touching m.node m.room (at / 512)) memory (m.done + (piece_end at end - at)))
read_more put at end m memory h there some =
    read_next put at end m h there
    ∙ ap (λ r. going_on r (λ memory. reading put (pieces (piece_end at end) end) (further (touching m.node m.room (at / 512)) memory (m.done + (piece_end at end - at)))) (stopped m (touching m.node m.room (at / 512)) EFAULT)) some

pub read_end : {Memory : Type 0} (put : Memory → ℕ → List ℕ → Option Memory) (at end : ℕ) (m : Moving Memory) → end ≤ at → reading put (pieces at end) m ≡ m
read_end put at end m h = ap (λ ps. reading put ps m) (no_pieces at end h)

-- what a touch keeps of a file
gained_type : (mode : ℕ) (name : BlockName) → file_type (mode_with mode name) ≡ file_type mode
gained_type mode (Data n) = refl
gained_type mode (Ind k) = by (is_large mode) where
  by : (t : Bool) → file_type (cond t mode (bit_or mode 0o010000)) ≡ file_type mode
  by true = refl
  by false = and_or_apart 0o060000 mode 0o010000 refl
gained_type mode Dbl = refl

taken_type : (names : List BlockName) (node : Node) (room : ℕ) → file_type (take_names names node room).node.mode ≡ file_type node.mode
taken_type [] node room = refl
taken_type (name ∷ names) node room = by (holds node name) (room == 0) (taken_type names node room) (taken_type names (gained node name) (room - 1)) where
  by : (t s : Bool) → file_type (take_names names node room).node.mode ≡ file_type node.mode → file_type (take_names names (gained node name) (room - 1)).node.mode ≡ file_type (gained node name).mode
      → file_type (cond t (take_names names node room) (cond s (record { node = node; room = room; is_done = false }) (take_names names (gained node name) (room - 1)))).node.mode ≡ file_type node.mode
  by true s a b = a
  by false true a b = refl
  by false false a b = b ∙ gained_type node.mode name

taken_room : (names : List BlockName) (node : Node) (room : ℕ) → (take_names names node room).room ≤ room
taken_room [] node room = omega arith
taken_room (name ∷ names) node room = by (holds node name) (room == 0) (taken_room names node room) (taken_room names (gained node name) (room - 1)) where
  by : (t s : Bool) → (take_names names node room).room ≤ room → (take_names names (gained node name) (room - 1)).room ≤ room - 1
      → (cond t (take_names names node room) (cond s (record { node = node; room = room; is_done = false }) (take_names names (gained node name) (room - 1)))).room ≤ room
  by true s a b = a
  by false true a b = omega arith
  by false false a b = omega (arith, b)

pub touched_device : (node : Node) (room n : ℕ) → is_device (touching node room n).node.mode ≡ is_device node.mode
touched_device node room n = ap (λ t. (t == 0o020000) || (t == 0o060000)) (taken_type (path_of (is_large node.mode) n) node room)

pub touched_room : (node : Node) (room n : ℕ) → (touching node room n).room ≤ room
touched_room node room n = taken_room (path_of (is_large node.mode) n) node room

-- what a write makes of its next piece, once its block was touched
abbrev writing_on : {Memory : Type 0} → (ℕ → ℕ → Option (List ℕ)) → ℕ → ℕ → Moving Memory → Bool → Moving Memory
writing_on get at end m done =
    cond (not done) (stopped m (touching m.node m.room (at / 512)) ENOSPC)
    (going_on (get m.done (piece_end at end - at))
    (λ bytes. writing get (pieces (piece_end at end) end) (written (touching m.node m.room (at / 512)) at bytes m.memory (m.done + (piece_end at end - at))))
    (stopped m (touching m.node m.room (at / 512)) EFAULT))

-- a write whose next piece ends behind the greatest size
pub write_large : {Memory : Type 0} (get : ℕ → ℕ → Option (List ℕ)) (at end : ℕ) (m : Moving Memory) → at < end → size_limit m.node < piece_end at end → writing get (pieces at end) m ≡ record m { error = Some EFBIG }
write_large get at end m h large =
    ap (λ ps. writing get ps m) (pieces_step at end h)
    ∙ ap (λ t. cond t (record m { error = Some EFBIG }) (writing_on get at end m (touching m.node m.room (at / 512)).is_done)) (lt-ltb (size_limit m.node) (piece_end at end) large)

write_small : {Memory : Type 0} (get : ℕ → ℕ → Option (List ℕ)) (at end : ℕ) (m : Moving Memory) → at < end → piece_end at end ≤ size_limit m.node → writing get (pieces at end) m ≡ writing_on get at end m (touching m.node m.room (at / 512)).is_done
write_small get at end m h small =
    ap (λ ps. writing get ps m) (pieces_step at end h)
    ∙ ap (λ t. cond t (record m { error = Some EFBIG }) (writing_on get at end m (touching m.node m.room (at / 512)).is_done)) (le-ltb (size_limit m.node) (piece_end at end) small)

pub write_stop : {Memory : Type 0} (get : ℕ → ℕ → Option (List ℕ)) (at end : ℕ) (m : Moving Memory) → at < end → piece_end at end ≤ size_limit m.node → (touching m.node m.room (at / 512)).is_done ≡ false
    → writing get (pieces at end) m ≡ stopped m (touching m.node m.room (at / 512)) ENOSPC
write_stop get at end m h small out = write_small get at end m h small ∙ ap (writing_on get at end m) out

pub write_fault : {Memory : Type 0} (get : ℕ → ℕ → Option (List ℕ)) (at end : ℕ) (m : Moving Memory) → at < end → piece_end at end ≤ size_limit m.node → (touching m.node m.room (at / 512)).is_done ≡ true
    → get m.done (piece_end at end - at) ≡ None → writing get (pieces at end) m ≡ stopped m (touching m.node m.room (at / 512)) EFAULT
write_fault get at end m h small there none =
    write_small get at end m h small ∙ ap (writing_on get at end m) there
    ∙ ap (λ r. going_on r (λ bytes. writing get (pieces (piece_end at end) end) (written (touching m.node m.room (at / 512)) at bytes m.memory (m.done + (piece_end at end - at)))) (stopped m (touching m.node m.room (at / 512)) EFAULT)) none

pub write_more : {Memory : Type 0} (get : ℕ → ℕ → Option (List ℕ)) (at end : ℕ) (m : Moving Memory) (bytes : List ℕ) → at < end → piece_end at end ≤ size_limit m.node → (touching m.node m.room (at / 512)).is_done ≡ true
    → get m.done (piece_end at end - at) ≡ Some bytes
    → writing get (pieces at end) m ≡ writing get (pieces (piece_end at end) end) (written (touching m.node m.room (at / 512)) at bytes m.memory (m.done + (piece_end at end - at)))
write_more get at end m bytes h small there some =
    write_small get at end m h small ∙ ap (writing_on get at end m) there
    ∙ ap (λ r. going_on r (λ bytes. writing get (pieces (piece_end at end) end) (written (touching m.node m.room (at / 512)) at bytes m.memory (m.done + (piece_end at end - at)))) (stopped m (touching m.node m.room (at / 512)) EFAULT)) some

pub write_end : {Memory : Type 0} (get : ℕ → ℕ → Option (List ℕ)) (at end : ℕ) (m : Moving Memory) → end ≤ at → writing get (pieces at end) m ≡ m
write_end get at end m h = ap (λ ps. writing get ps m) (no_pieces at end h)

pub touched_type : (node : Node) (room n : ℕ) → file_type (touching node room n).node.mode ≡ file_type node.mode
touched_type node room n = taken_type (path_of (is_large node.mode) n) node room

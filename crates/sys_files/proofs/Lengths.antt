-- Stores leave the sizes of an image, and so does what is read into it.
use Rattle.std.proofs.Common.{◌+◌, ◌%◌, ◌==◌, ℕ, zero, suc, Bool, true, false, not, cond, List, [], ◌∷◌, length, min, Option, Some, None, Result, Ok, Err, if◌then◌else◌, IfSome, IfOk}
use Rattle.v6_base.specs.Image.{Image}
use Rattle.v6_base.specs.Access.{store_byte}
use Rattle.v6_base.specs.declared.space.Trap.{Trap}
use Rattle.v6_base.proofs.Copies.{SameLengths, same_lengths, byte_lengths, bytes_lengths}
use Rattle.fs_codec.specs.Modes.{is_device}
use Rattle.fs_codec.specs.Store.{Node}
use Rattle.fs_laws.specs.Pieces.{Moving, going_on, reading, read_file, pieces, beginning}
use Rattle.fs_nodes.specs.Keys.{room_at}
use Rattle.fs_nodes.specs.Copy.{put_into}
use Rattle.tty_line.specs.Terminal.{Terminal}
use Rattle.tty_line.specs.declared.line.Took.TheVariants.{Wait}
use Rattle.tty_line.specs.Canonical.{with_line}
use Rattle.tty_line.specs.Reading as line
use Rattle.tty_line.specs.Reading.{HandedOut, then_hands, hands_out, Reading, reads}
use Rattle.sys_files.specs.Handed.{Handed, node_at, file_of}
use Rattle.sys_files.specs.Moving.{read_of}

-- A read of a file keeps what holds of each memory that its bytes are put into.
module _ {Memory : Type 0} (Holds : Memory → Type 0) (put : Memory → ℕ → List ℕ → Option Memory)
    (puts : (m : Memory) (n : ℕ) (bytes : List ℕ) → Holds m → IfSome (put m n bytes) Holds) where
  going_keeps : (o : Option Memory) (next : Memory → Moving Memory) (end : Moving Memory) → IfSome o Holds
      → Holds end.memory
      → ((m : Memory) → Holds m → Holds (next m).memory) → Holds (going_on o next end).memory
  going_keeps (Some m) next end here stops goes = goes m here
  going_keeps None next end here stops goes = stops

  touch_keeps : (is_done : Bool) (end next : Moving Memory) → Holds end.memory → Holds next.memory
      → Holds (cond (not is_done) end next).memory
  touch_keeps true end next stops goes = goes
  touch_keeps false end next stops goes = stops

  reading_keeps : (places : List (ℕ × ℕ)) (m : Moving Memory) → Holds m.memory → Holds (reading put places m).memory
  reading_keeps [] m here = here
  reading_keeps (piece ∷ rest) m here =
      touch_keeps _ _ _ here (going_keeps _ _ _ (puts m.memory m.done _ here) here (λ memory there.
      reading_keeps rest _ there))

  begun_keeps : (is_device : Bool) (node : Node) (room : ℕ) (memory : Memory) (places : List (ℕ × ℕ)) → Holds memory
      → Holds (cond is_device (beginning node room memory) (reading put places (beginning node room memory))).memory
  begun_keeps true node room memory places here = here
  begun_keeps false node room memory places here = reading_keeps places (beginning node room memory) here

  pub file_keeps : (node : Node) (room : ℕ) (memory : Memory) (at count time : ℕ) → Holds memory
      → Holds (read_file put node room memory at count time).memory
  file_keeps node room memory at count time here =
      let begun : Node = if count == 0 then node else record node { actime = time } in
      begun_keeps (is_device node.mode) begun room memory (pieces at (min node.size (at + count))) here

-- A read of a line leaves the sizes too.
then_handed : (start old : Image) (rest : List ℕ) (r : Result Image Trap) (next : Image → HandedOut)
    → SameLengths start old → IfOk r (SameLengths start)
    → ((new : Image) → SameLengths start new → SameLengths start (next new).image)
    → SameLengths start (then_hands rest old r next).image
then_handed start old rest (Ok new) next before here goes = goes new here
then_handed start old rest (Err trap) next before here goes = before

handed_lengths : (start m : Image) (at done count : ℕ) (bytes : List ℕ) → SameLengths start m
    → SameLengths start (hands_out m at done count bytes).image
handed_lengths start m at done count [] same = same
handed_lengths start m at done zero (byte ∷ bytes) same = same
handed_lengths start m at done (suc count) (byte ∷ bytes) same =
    let next : ℕ = (at + 1) % 65536 in
    then_handed start m bytes (store_byte m at byte) (λ new. hands_out new next (done + 1) count bytes) same
    (byte_lengths start m at byte same) (λ new here. handed_lengths start new next (done + 1) count bytes here)

pub line_lengths : (t : Terminal) (image : Image) (at count : ℕ) → SameLengths image (reads t image at count).image
line_lengths t image at count = by (length t.canonical == 0) (t.delimiters == 0) where
  by : (empty none : Bool) → SameLengths image (cond {A = Reading} empty
      (cond {A = Reading} none (record { terminal = t; image = image; took = Wait })
      (line.reads_line (with_line t) image at count))
      (line.reads_line t image at count)).image
  by true true = same_lengths image
  by true false = handed_lengths image image at 0 count (with_line t).canonical (same_lengths image)
  by false none = handed_lengths image image at 0 count t.canonical (same_lengths image)

-- And a read of a file.
pub read_lengths : (h : Handed) (entry at count now : ℕ) → SameLengths h.image (read_of h entry at count now).memory
read_lengths h entry at count now =
    file_keeps (SameLengths h.image) (put_into at)
    (λ image n bytes kept. bytes_lengths h.image image (at + n) bytes kept) (node_at h (file_of h entry).ino)
    (room_at h.inodes.store (file_of h entry).ino) h.image (file_of h entry).offset count now (same_lengths h.image)

-- What a read or a write of a pipe leaves: the inode of the pipe, how many nodes there are, and the sizes of the image.
use Rattle.std.proofs.Common.{◌≡◌, ◌≤◌, ◌+◌, ◌==◌, ℕ, zero, suc, Bool, true, false, cond, nat_lt, nat_le, Option, Some, None, refl, subst, arith}
use Rattle.v6_base.specs.Image.{Image}
use Rattle.v6_base.specs.declared.errno.Errno.{Errno}
use Rattle.v6_base.proofs.Copies.{SameLengths, same_lengths, bytes_lengths}
use Rattle.fs_nodes.specs.Disks.{Disks}
use Rattle.fs_nodes.specs.Keys.{Stores, counts, room_at}
use Rattle.fs_nodes.proofs.KeyLaws.{counts_set}
use Rattle.fs_nodes.specs.Copy.{put_into}
use Rattle.pipe_ends.specs.declared.ends.Pipe.{Pipe}
use Rattle.pipe_ends.specs.declared.ends.Piped.{Piped}
use Rattle.pipe_ends.specs.declared.ends.Piped.TheVariants.{Done, Wait, Broken, Error}
use Rattle.pipe_ends.specs.declared.ends.TheConstants.{PIPSIZ}
use Rattle.pipe_ends.specs.Pipes.{pipe_file, begun_again}
use Rattle.pipe_ends.specs.Reads.{PipeRead, reads, all_read, at_front, told_of_nothing, read_of, reads_some, rewound}
use Rattle.pipe_ends.specs.Writes.{WriteCall, Writing, PipeWrite, size_in, append_of, appended, ends_as, waits, unless_error, rounds, write_call, writes}
use Rattle.sys_files.proofs.Lengths.{file_keeps}

-- the pipe is of the same inode, and there are as many nodes
pub record LeavesPipe (number : ℕ) (nodes : Disks ℕ) (store : Stores) (p : Pipe) : Type 0 where
  pub ino : p.ino ≡ number
  pub counts : counts store ≡ nodes

front_ino : (few : Bool) (p : Pipe) → (cond few (rewound p) (record (rewound p) { reader_waits = true })).ino ≡ p.ino
front_ino true p = refl
front_ino false p = refl

module _ (store : Stores) (ends : ℕ) (p : Pipe) (image : Image) (at count time : ℕ) where
  abbrev by_read : Bool → PipeRead
  by_read all = cond {A = PipeRead} all (record {
    store = begun_again store p;
    image = image;
    pipe = at_front ends p;
    answer = told_of_nothing ends count;
  }) (reads_some store p (read_of store p image at count time))

  read_leaves_by : (all : Bool) → LeavesPipe p.ino (counts store) (by_read all).store (by_read all).pipe
  read_leaves_by true = record {
    ino = front_ino (nat_lt ends 2) p;
    counts = counts_set store p.ino (room_at store p.ino) (record (pipe_file store p) { size = 0 });
  }
  read_leaves_by false = record {
    ino = refl;
    counts = counts_set store p.ino (read_of store p image at count time).room (read_of store p image at count time).node;
  }

  pub read_leaves : LeavesPipe p.ino (counts store) (reads store ends p image at count time).store
      (reads store ends p image at count time).pipe
  unfolding reads
  read_leaves = read_leaves_by (all_read store p)

  read_lengths_by : (all : Bool) → SameLengths image (by_read all).image
  read_lengths_by true = same_lengths image
  read_lengths_by false =
      file_keeps (SameLengths image) (put_into at) (λ m n bytes kept. bytes_lengths image m (at + n) bytes kept)
      (pipe_file store p) (room_at store p.ino) image p.offset count time (same_lengths image)

  pub pipe_lengths : SameLengths image (reads store ends p image at count time).image
  unfolding reads
  pipe_lengths = read_lengths_by (all_read store p)

-- how many bytes an answer leaves to a later call
abbrev pub left_of : Piped → ℕ
left_of (Done n) = 0
left_of (Wait left) = left
left_of Broken = 0
left_of (Error e) = 0

-- A write leaves the pipe too, and no more bytes than it had.
pub record LeavesFew (number : ℕ) (nodes : Disks ℕ) (most : ℕ) (w : PipeWrite) : Type 0 where
  pub leaves : LeavesPipe number nodes w.store w.pipe
  pub few : left_of w.answer ≤ most

few_ends : (w : Writing) (answer : Piped) → left_of answer ≤ w.left → LeavesFew w.pipe.ino (counts w.store) w.left
    (ends_as w answer)
few_ends w answer few = record { leaves = record { ino = refl; counts = refl }; few = few }

few_more : (w : Writing) (ino : ℕ) (all : Disks ℕ) (left : ℕ) (e : Option Errno) (on : PipeWrite) → w.pipe.ino ≡ ino
    → counts w.store ≡ all
    → w.left ≤ left
    → LeavesFew ino all w.left on → LeavesFew ino all left (unless_error w e on)
few_more w ino all left None on same nodes less rest =
    record { leaves = rest.leaves; few = let few = rest.few in omega (arith, few, less) }
few_more w ino all left (Some e) on same nodes less rest =
    record { leaves = record { ino = same; counts = nodes }; few = omega arith }

-- an append leaves as many
appended_counts : (c : WriteCall) (w : Writing) → counts (appended w (append_of c w)).store ≡ counts w.store
appended_counts c w = counts_set w.store w.pipe.ino (append_of c w).room (append_of c w).node

few_tests : (c : WriteCall) (w : Writing) (on : PipeWrite)
    → LeavesFew w.pipe.ino (counts w.store) (appended w (append_of c w)).left on
    → LeavesFew w.pipe.ino (counts w.store) w.left
    (cond (w.left == 0) (ends_as w (Done c.count)) (cond (nat_lt c.ends 2) (ends_as w Broken)
    (cond (nat_le PIPSIZ (size_in w)) (waits w) (unless_error (appended w (append_of c w)) (append_of c w).error on))))
few_tests c w on rest = by (w.left == 0) (nat_lt c.ends 2) (nat_le PIPSIZ (size_in w)) where
  next : Writing
  next = appended w (append_of c w)

  by : (none alone full : Bool) → LeavesFew w.pipe.ino (counts w.store) w.left
      (cond none (ends_as w (Done c.count)) (cond alone (ends_as w Broken)
      (cond full (waits w) (unless_error next (append_of c w).error on))))
  by true alone full = few_ends w (Done c.count) (omega arith)
  by false true full = few_ends w Broken (omega arith)
  by false false true = record { leaves = record { ino = refl; counts = refl }; few = omega arith }
  by false false false = few_more next w.pipe.ino (counts w.store) w.left (append_of c w).error on refl (appended_counts c w)
      (omega arith) rest

few_rounds : (more : ℕ) (c : WriteCall) (w : Writing) → LeavesFew w.pipe.ino (counts w.store) w.left (rounds more c w)
few_rounds zero c w = few_ends w (Done c.count) (omega arith)
few_rounds (suc more) c w =
    few_tests c w (rounds more c (appended w (append_of c w)))
    (subst (λ n. LeavesFew w.pipe.ino n (appended w (append_of c w)).left (rounds more c (appended w (append_of c w))))
    (appended_counts c w) (few_rounds more c (appended w (append_of c w))))

pub write_leaves : (store : Stores) (ends : ℕ) (p : Pipe) (image : Image) (at count time : ℕ)
    → LeavesFew p.ino (counts store) count (writes store ends p image at count time)
unfolding writes
write_leaves store ends p image at count time =
    few_rounds (suc count) (write_call ends image count time) (record { store = store; pipe = p; at = at; left = count })

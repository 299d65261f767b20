use Rattle.std.proofs.Common.{◌≡◌, ◌≢◌, ◌-◌, ◌≤◌, ◌⊎◌, length, false}
use Rattle.fs_codec.specs.Fields.{fields_of}
use Rattle.fs_codec.specs.Modes.{is_device}
use Rattle.fs_laws.specs.Chain.{free}
use Rattle.fs_laws.specs.Pieces.{pieces, writing}
use Rattle.fs_blocks.specs.State.{disk}
use Rattle.fs_nodes.specs.Copy.{get_kernel}
use Rattle.fs_nodes.specs.one_disk.Moves.{moving, Grew}
use Rattle.fs_nodes.proofs.one_disk.pieces.write_pieces_kernel.Given as goal

-- writing on from here comes to what writing from the start does
abbrev pub invariant-loop-from : goal.invariant-loop-from
invariant-loop-from l = record {
  low : l.offset ≤ l.from;
  high : l.from ≡ l.offset ⊎ l.from ≤ l.end;
  used : l.node.mode ≢ 0;
  file : is_device l.node.mode ≡ false;
  grew : Grew l.fn.volume.state (fields_of l.fn.node) l.volume.state (fields_of l.node);
  fewer : length (free (disk l.volume.state)) ≤ length (free (disk l.fn.volume.state));
  same : writing (get_kernel l.buf) (pieces l.from l.end) (moving l.volume.state (fields_of l.node) (tt {0}) (l.from - l.offset)) ≡ writing (get_kernel l.buf) (pieces l.offset l.end) (moving l.fn.volume.state (fields_of l.fn.node) (tt {0}) 0);
}

abbrev pub decreases-loop-from : goal.decreases-loop-from
decreases-loop-from l = l.end - l.from

use Rattle.std.proofs.Common.{◌≡◌, ◌≢◌, ◌-◌, ◌≤◌, ◌⊎◌, length, false}
use Rattle.fs_codec.specs.Fields.{fields_of}
use Rattle.fs_codec.specs.Modes.{is_device}
use Rattle.fs_laws.specs.Chain.{free}
use Rattle.fs_laws.specs.Pieces.{pieces, reading}
use Rattle.fs_blocks.specs.State.{disk}
use Rattle.fs_nodes.specs.Copy.{put_into}
use Rattle.fs_nodes.specs.one_disk.Moves.{moving, Grew}
use Rattle.fs_nodes.proofs.one_disk.pieces.read_pieces.Given as goal

-- reading on from here comes to what reading from the start does
abbrev pub invariant-loop-from : goal.invariant-loop-from
invariant-loop-from g l = record {
  low : l.offset ≤ l.from;
  high : l.from ≡ l.offset ⊎ l.from ≤ l.end;
  used : l.node.mode ≢ 0;
  file : is_device l.node.mode ≡ false;
  grew : Grew l.fn.volume.state (fields_of l.fn.node) l.volume.state (fields_of l.node);
  fewer : length (free (disk l.volume.state)) ≤ length (free (disk l.fn.volume.state));
  rest : g.S.Space.rest l.space ≡ g.S.Space.rest l.fn.space;
  same : reading (put_into l.at) (pieces l.from l.end) (moving l.volume.state (fields_of l.node) (g.S.Space.image l.space) (l.from - l.offset))
      ≡ reading (put_into l.at) (pieces l.offset l.end) (moving l.fn.volume.state (fields_of l.fn.node) (g.S.Space.image l.fn.space) 0);
}

abbrev pub decreases-loop-from : goal.decreases-loop-from
decreases-loop-from g l = l.end - l.from

-- What core and the swap area keep of a system: the images of its processes at the places that its board tells, with what is
-- kept of those that have ended, and its texts. `proc.h` and `text.h` in Lions' Commentary.
use Rattle.std.specs.Prelude.{ℕ, List, map, if◌then◌else◌, Option, Some, None, slice_index_or}
use Rattle.std.specs.List.{range_with_len}
use Rattle.v6_base.specs.declared.entry.Place.{Place}
use Rattle.v6_base.specs.declared.entry.Place.TheVariants.{Core, Swap}
use Rattle.pick_rules.specs.Board.{TextPlace, text_at}
use Rattle.pick_rules.specs.Table.{row_at}
use Rattle.image_keep.specs.Kept.{Keeping, Nothing, Alive, Grave, Shared, Kept}
use Rattle.sys_procs.specs.Process.{Process, image_of}
use Rattle.sys_procs.specs.TextTable.{Text}
use Rattle.abstract_unix.specs.Unix.{System, process_at}

-- a text: its file, its bytes and its users, and where the board tells that it stands
abbrev pub shared_by : Option Text → Option TextPlace → Option Shared
shared_by None place = None
shared_by (Some text) None = None
shared_by (Some text) (Some place) = Some (record {
  row = record { ino = text.ino; clicks = place.clicks; users = text.users; loaded = place.loaded; at = place.click; block = place.block };
  bytes = text.bytes;
})

-- the block of a place in the swap area
abbrev pub block_of : Place → ℕ
block_of (Core click) = 0
block_of (Swap block) = block

-- A process at its place. One that has ended has half of its u area there.
abbrev pub kept_at : List (Option Text) → Process → Place → Keeping
kept_at texts p place =
    if p.is_zombie then Grave p.u (block_of place) else Alive (record { u = p.u; image = image_of texts p; place = place })

-- Between its old image and its new one a process that executes a program has no place, and neither image is kept.
abbrev pub kept_by : List (Option Text) → Option Process → Option Place → Keeping
kept_by texts None place = Nothing
kept_by texts (Some p) None = Nothing
kept_by texts (Some p) (Some place) = kept_at texts p place

abbrev pub text_by : Option Process → Option ℕ
text_by None = None
text_by (Some p) = p.text

unfoldable pub kept_in : System → Kept
kept_in m = record {
  slots = map (λ s. kept_by m.unix.texts (process_at m.unix s) (row_at m.board.table s).place) (range_with_len 0 50);
  texts = map (λ k. shared_by (slice_index_or m.unix.texts k None) (text_at m.board k)) (range_with_len 0 40);
  users = map (λ s. text_by (process_at m.unix s)) (range_with_len 0 50);
  core = m.board.core;
}

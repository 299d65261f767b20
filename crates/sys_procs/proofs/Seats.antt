-- An image goes to a place, in core or in the swap area: the row of its slot, the board, and what belongs together then.
use Rattle.std.proofs.Common.{◌≡◌, ◌∙◌, ℕ, ◌<◌, List, length, map, Option, Some, refl, sym, ap, subst}
use Rattle.std.proofs.lemmas.List.{get_or-set_same, get_or-set_other, length-set}
use Rattle.v6_base.specs.declared.entry.Place.{Place}
use Rattle.v6_base.specs.declared.entry.Place.TheVariants.{Core, Swap}
use Rattle.v6_base.specs.declared.entry.Entry.TheVariants as line
use Rattle.v6_base.specs.Image.{Image}
use Rattle.u_area.specs.declared.area.UArea.{UArea}
use Rattle.pick_rules.specs.declared.row.TableRow.{TableRow}
use Rattle.pick_rules.specs.declared.table.Table.{Table}
use Rattle.pick_rules.specs.Table.{row_at, with_row, empty_row, IsTable}
use Rattle.pick_rules.specs.Apply.{applied, change_row}
use Rattle.proc_tab.specs.declared.member.Member.{Member}
use Rattle.proc_tab.specs.Processes.{member_at}
use Rattle.image_keep.specs.Kept.{Held, Alive, Kept, Shared, keeping, with_keeping, clicks_of, area_in}
use Rattle.image_keep.proofs.Frames.{keeping_other}
use Rattle.sys_procs.specs.declared.procs.Procs.{Procs}
use Rattle.sys_procs.specs.World.{clock_of}
use Rattle.sys_procs.specs.inside.Seats.{placed_row, with_place}
use Rattle.sys_procs.specs.Agree.{Agrees, Agree}
use Rattle.sys_procs.specs.Handed.{IsAlive, board}
use Rattle.swap_sched.specs.Match.{text_place}
use Rattle.sys_procs.proofs.Agreement.{agree_with}
use Rattle.sys_procs.proofs.Alive.{is_here}
use Rattle.sys_procs.proofs.PlacingRows.{sized_row, untimed_placed, place_text, clock_told, agree_told, row_low, image_now}
use Rattle.sys_procs.proofs.GrownTexts.{grown_table, grown_core}

-- Of the table.
pub clock_placed : (t : Table) (s n : ℕ) (place : Place) → clock_of (with_place t s n place) ≡ clock_of t
clock_placed t s n place = clock_told t s (placed_row n place (row_at t s)) place

-- A process has this image, and its row the size and the place: a new one, or the one that it had; and the texts these counts.
abbrev pub grown_at : Procs → ℕ → ℕ → Held → List (Option Shared) → Procs
grown_at p s n held texts = record p {
  table = with_place p.table s n held.place;
  images = record p.images { kept = record (with_keeping p.images.kept s (Alive held)) { texts = texts } };
}

abbrev pub kept_at : Procs → ℕ → ℕ → Held → List (Option Shared) → Procs
kept_at p s n held texts = record p {
  table = change_row p.table s (sized_row n);
  images = record p.images { kept = record (with_keeping p.images.kept s (Alive held)) { texts = texts } };
}

-- Of the board.
pub board_at_size : (p : Procs) (s n : ℕ) (held : Held) (texts : List (Option Shared)) → s < length p.table.rows
    → (applied (board p) (line.Size s n held.place)).texts ≡ map text_place texts
    → applied (board p) (line.Size s n held.place) ≡ board (grown_at p s n held texts)
board_at_size p s n held texts low same = λ i. record {
  table = (grown_table (board p) s n held.place low ∙ sym (untimed_placed p.table s n held.place)) i;
  texts = same i;
  core = grown_core (board p) s n held.place i;
}

-- The row agrees with the image.
agrees_at : (m : Option Member) (row : TableRow) (old : Held) (n : ℕ) (u : UArea) (image : Image) (place : Place)
    → Agrees m row (Alive old) → clicks_of u ≡ n
    → Agrees m (placed_row n place row) (Alive (record { u = u; image = image; place = place }))
agrees_at m row old n u image (Core c) a size = record {
  stat = a.stat;
  image = a.image;
  place = refl;
  size = λ held is. sym size ∙ ap (λ x. clicks_of (area_in x)) is;
  quiet = a.quiet;
  textless = a.textless;
}
agrees_at m row old n u image (Swap block) a size = record {
  stat = a.stat;
  image = a.image;
  place = refl;
  size = λ held is. sym size ∙ ap (λ x. clicks_of (area_in x)) is;
  quiet = a.quiet;
  textless = a.textless;
}

module _ (p : Procs) (s : ℕ) (held : Held) (texts : List (Option Shared)) (alive : IsAlive p s) (long : length p.images.kept.slots ≡ 50) where
  abbrev now : Kept
  now = record (with_keeping p.images.kept s (Alive held)) { texts = texts }

  -- the image that it had, and the row
  agreed : Agrees (member_at p.rows.slots s) (row_at p.table s) (Alive (is_here p s alive).held)
  agreed =
      subst (λ x. Agrees (member_at p.rows.slots s) (row_at p.table s) x) (is_here p s alive).image_is
      (alive.agree.each s alive.above alive.below)

  -- another row, with what it says of the image
  agree_row : (row : TableRow) → row.text ≡ (row_at p.table s).text → Agrees (member_at p.rows.slots s) row (Alive held)
      → Agree p.rows (with_row p.table s row) now
  agree_row row text new =
      agree_with p.rows p.rows p.table (with_row p.table s row) p.images.kept now s alive.agree alive.above
      (record {
        last = alive.agree.table.last;
        running = alive.agree.table.running;
        ticks = alive.agree.table.ticks;
      })
      (length-set p.table.rows s row)
      (subst (λ (r : TableRow). Agrees (member_at p.rows.slots s) r (keeping now s))
      (sym (get_or-set_same p.table.rows s row empty_row (row_low p s alive)))
      (subst (λ x. Agrees (member_at p.rows.slots s) row x) (sym (image_now p s alive long held)) new))
      (ap (λ (r : TableRow). r.text) (get_or-set_same p.table.rows s row empty_row (row_low p s alive))
      ∙ (text ∙ alive.agree.text s alive.above alive.below))
      (λ r other. refl)
      (λ r other. refl)
      (λ r other. get_or-set_other p.table.rows s r row empty_row other)
      (λ r other. keeping_other p.images.kept s r (Alive held) other)

  pub put_alive : (n : ℕ) → clicks_of held.u ≡ n → IsTable (with_place p.table s n held.place) → IsAlive (grown_at p s n held texts) s
  put_alive n size good =
      let row : TableRow = placed_row n held.place (row_at p.table s) in
      record {
        agree = agree_told p.rows p.table now s row held.place good
            (agree_row row (place_text n held.place (row_at p.table s))
            (agrees_at (member_at p.rows.slots s) (row_at p.table s) (is_here p s alive).held n held.u held.image held.place agreed size));
        above = alive.above;
        below = alive.below;
        image = (held, image_now p s alive long held);
      }

  pub kept_alive : (n : ℕ) → clicks_of held.u ≡ n → (row_at p.table s).place ≡ Some held.place → IsAlive (kept_at p s n held texts) s
  kept_alive n size there = record {
    agree = agree_row (sized_row n (row_at p.table s)) refl (record {
      stat = agreed.stat;
      image = agreed.image;
      place = there;
      size = λ other is. sym size ∙ ap (λ x. clicks_of (area_in x)) is;
      quiet = agreed.quiet;
      textless = agreed.textless;
    });
    above = alive.above;
    below = alive.below;
    image = (held, image_now p s alive long held);
  }

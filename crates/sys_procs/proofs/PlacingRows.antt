-- A slot's image is given back, and has a place again: what becomes of its row.
use Rattle.std.proofs.Common.{◌≡◌, ◌∙◌, ℕ, ◌<◌, Bool, true, false, cond, List, length, set, Some, None, refl, sym, ap, arith}
use Rattle.std.proofs.lemmas.List.{get_or-set_same, set-set}
use Rattle.v6_base.specs.declared.entry.Place.{Place}
use Rattle.v6_base.specs.declared.entry.Place.TheVariants.{Core, Swap}
use Rattle.v6_base.specs.declared.entry.Entry.TheVariants as line
use Rattle.pick_rules.specs.declared.row.TableRow.{TableRow}
use Rattle.pick_rules.specs.declared.table.Table.{Table}
use Rattle.pick_rules.specs.Table.{IsTable, row_at, with_row, empty_row, is_loaded}
use Rattle.pick_rules.specs.Sleepers.{made_ready, runout_told}
use Rattle.pick_rules.specs.Board.{Board}
use Rattle.pick_rules.specs.Apply.{applied, in_table, change_row, without_place, leaves_core}
use Rattle.pick_rules.proofs.Laws.{Stays, runout_stays}
use Rattle.proc_tab.specs.declared.member.Member.{Member}
use Rattle.proc_tab.specs.Processes.{Processes, member_at}
use Rattle.image_keep.specs.Kept.{Held, Alive, Kept, keeping, with_keeping, text_of, clicks_of, area_in, place_of, area_of}
use Rattle.image_keep.proofs.Frames.{keeping_same, keeping_other}
use Rattle.swap_sched.proofs.Boards.{untimed, untimed_runout}
use Rattle.sys_procs.specs.declared.procs.Procs.{Procs}
use Rattle.sys_procs.specs.Process.{process_by, process_in}
use Rattle.sys_procs.specs.World.{clock_of, processes_in}
use Rattle.sys_procs.specs.Agree.{Agree}
use Rattle.sys_procs.specs.inside.Seats.{with_image_row, placed_row, with_place}
use Rattle.sys_procs.specs.Handed.{IsAlive}
use Rattle.sys_procs.proofs.Agreement.{agree_like, runout_like}
use Rattle.sys_procs.proofs.Alive.{IsHere, is_here}
use Rattle.sys_procs.proofs.Slots.{one_changed}

-- A row without a place.
abbrev pub bared_row : TableRow → TableRow
bared_row row = record row { size = 0; place = None }

-- a row is changed twice
pub twice : (t : Table) (s : ℕ) (f g : TableRow → TableRow) → s < length t.rows
    → change_row (change_row t s f) s g ≡ change_row t s (λ row. g (f row))
twice t s f g low =
    ap (λ (r : TableRow). with_row (change_row t s f) s (g r)) (get_or-set_same t.rows s (f (row_at t s)) empty_row low)
    ∙ ap (λ (rows : List TableRow). record t { rows = rows }) (set-set t.rows s (f (row_at t s)) (g (f (row_at t s))))

either : {A : Type 0} (b : Bool) (x : A) → cond b x x ≡ x
either true x = refl
either false x = refl

-- What becomes of the board of a slot that has no text.
without : (b : Board) (s : ℕ) → (row_at b.table s).text ≡ None
    → without_place b s ≡ in_table b (λ t. change_row t s (λ row. record row { place = None }))
without b s none =
    let rest : Board → Board = λ left. in_table left (λ t. change_row t s (λ row. record row { place = None })) in
    ap (λ x. rest (cond (is_loaded b.table s) (leaves_core b x) b)) none ∙ ap rest (either (is_loaded b.table s) b)

-- an image that doesn't grow stays where it is
abbrev pub sized_row : ℕ → TableRow → TableRow
sized_row n row = record row { size = n }

pub board_kept : (b : Board) (s n : ℕ) → applied b (line.SizeKeep s n) ≡ in_table b (λ t. change_row t s (sized_row n))
unfolding applied
board_kept b s n = refl

pub board_bared : (b : Board) (s : ℕ) → s < length b.table.rows → (row_at b.table s).text ≡ None
    → applied b (line.Bare s) ≡ in_table b (λ t. change_row t s bared_row)
unfolding applied
board_bared b s low none =
    ap (λ (x : Board). in_table x (λ t. change_row t s (λ row. record row { size = 0 }))) (without b s none)
    ∙ ap (λ (t : Table). record b { table = t })
    (twice b.table s (λ row. record row { place = None }) (λ row. record row { size = 0 }) low)

-- A row has a place again.
pub untimed_placed : (t : Table) (s n : ℕ) (place : Place) → untimed (with_place t s n place) ≡ with_place (untimed t) s n place
untimed_placed t s n (Core c) = refl
untimed_placed t s n (Swap block) = untimed_runout (change_row t s (placed_row n (Swap block)))

pub place_text : (n : ℕ) (place : Place) (row : TableRow) → (placed_row n place row).text ≡ row.text
place_text n (Core c) row = refl
place_text n (Swap block) row = refl

-- Process 0 is told, or not: the clock stays, and who agreed agrees.
clock_stays : (t : Table) → clock_of (runout_told t) ≡ clock_of t
unfolding made_ready
clock_stays t = runout_stays (λ u. clock_of u ≡ clock_of t) same t refl
  where
    same : Stays (λ u. clock_of u ≡ clock_of t)
    same = record { woken = λ u s w on e. e; runout = λ u e. e; runin = λ u e. e }

pub clock_told : (t : Table) (s : ℕ) (row : TableRow) (place : Place)
    → clock_of (with_image_row t s row place) ≡ clock_of t
clock_told t s row (Core c) = refl
clock_told t s row (Swap block) = clock_stays (with_row t s row)

pub agree_told : (v : Processes) (t : Table) (k : Kept) (s : ℕ) (row : TableRow) (place : Place)
    → IsTable (with_image_row t s row place) → Agree v (with_row t s row) k → Agree v (with_image_row t s row place) k
agree_told v t k s row (Core c) good a = a
agree_told v t k s row (Swap block) good a =
    agree_like v (with_row t s row) (runout_told (with_row t s row)) k a good (runout_like (with_row t s row))

module _ (p : Procs) (s : ℕ) (alive : IsAlive p s) where
  pub row_low : s < length p.table.rows
  row_low = omega (arith, alive.below, alive.agree.rows)

  pub text_row : (row_at p.table s).text ≡ text_of p.images.kept s
  text_row = alive.agree.text s alive.above alive.below

  pub size_is : (row_at p.table s).size ≡ clicks_of (area_of p.images.kept s)
  size_is =
      let here : IsHere p s = is_here p s alive in
      (alive.agree.each s alive.above alive.below).size here.held here.image_is
      ∙ ap (λ x. clicks_of (area_in x)) (sym here.image_is)

  pub place_is : (row_at p.table s).place ≡ place_of p.images.kept s
  place_is = (alive.agree.each s alive.above alive.below).place

  module _ (long : length p.images.kept.slots ≡ 50) (held : Held) where
    low : s < length p.images.kept.slots
    low = omega (arith, alive.below, long)

    pub image_now : keeping (with_keeping p.images.kept s (Alive held)) s ≡ Alive held
    image_now = keeping_same p.images.kept s (Alive held) low

    pub processes_seated : (m : Member) → member_at p.rows.slots s ≡ Some m
        → processes_in p.rows.slots (with_keeping p.images.kept s (Alive held))
        ≡ set (processes_in p.rows.slots p.images.kept) s (Some (process_by m (Alive held) (text_of p.images.kept s)))
    processes_seated m is =
        let k : Kept = with_keeping p.images.kept s (Alive held) in
        one_changed p.rows.slots p.rows.slots p.images.kept k s (Some (process_by m (Alive held) (text_of p.images.kept s))) alive.below
        (ap (λ x. process_in (member_at p.rows.slots s) x (text_of p.images.kept s)) image_now
        ∙ ap (λ o. process_in o (Alive held) (text_of p.images.kept s)) is)
        (λ r below other. ap (λ x. process_in (member_at p.rows.slots r) x (text_of p.images.kept r))
        (keeping_other p.images.kept s r (Alive held) other))

-- What a place that is given, or given up, makes of the table: growth, exec, and the moves of process 0.
use Rattle.std.proofs.Common.{◌≡◌, ◌∙◌, ◌<◌, ◌+◌, ◌==◌, ℕ, Bool, true, false, cond, Option, Some, None, length, set, set-set, get_or-set_same, refl, ap}
use Rattle.v6_base.specs.declared.entry.Place.{Place}
use Rattle.v6_base.specs.declared.entry.Place.TheVariants.{Core, Swap}
use Rattle.v6_base.specs.declared.entry.Entry.TheVariants as line
use Rattle.pick_rules.specs.declared.row.TableRow.{TableRow}
use Rattle.pick_rules.specs.declared.table.Table.{Table}
use Rattle.pick_rules.specs.Table.{empty_row, row_at, with_row, is_loaded}
use Rattle.pick_rules.specs.Sleepers.{runout_told}
use Rattle.pick_rules.specs.Board.{TextPlace, Board, text_at, with_text}
use Rattle.pick_rules.specs.Apply.{in_table, change_row, change_text, leaves_core, at_place, without_place, brought, brought_by, applied}

-- a change of a text changes nothing of the table
pub text_table : (b : Board) (k : Option ℕ) (rule : TextPlace → TextPlace) → (change_text b k rule).table ≡ b.table
text_table b None rule = refl
text_table b (Some k) rule = refl

pub text_core : (b : Board) (k : Option ℕ) (rule : TextPlace → TextPlace) → (change_text b k rule).core ≡ b.core
text_core b None rule = refl
text_core b (Some k) rule = refl

-- a row that is changed again
pub again_row : (t : Table) (s : ℕ) (first : TableRow) (rule : TableRow → TableRow) → s < length t.rows
    → change_row (with_row t s first) s rule ≡ with_row t s (rule first)
again_row t s first rule l =
    ap (λ rows. record t { rows = rows }) (ap (λ x. set (set t.rows s first) s (rule x)) (get_or-set_same t.rows s first empty_row l) ∙ set-set t.rows s first (rule first))

-- an image at a place
abbrev pub row_in : TableRow → ℕ → ℕ → TableRow
row_in row size c = record row { size = size; place = Some (Core c) }

abbrev pub row_out : TableRow → ℕ → ℕ → TableRow
row_out row size block = record row { size = size; place = Some (Swap block); time = 0 }

pub core_table : (b : Board) (s size c : ℕ)
    → (at_place b s size (Core c)).table ≡ with_row b.table s (row_in (row_at b.table s) size c)
core_table b s size c = ap (λ t. change_row t s (λ row. row_in row size c)) (text_table b (row_at b.table s).text _)

pub core_core : (b : Board) (s size c : ℕ) → (at_place b s size (Core c)).core ≡ b.core
core_core b s size c = text_core b (row_at b.table s).text _

-- a slot that has given up its place
pub bare_table : (b : Board) (s : ℕ)
    → (without_place b s).table ≡ change_row b.table s (λ row. record row { place = None })
bare_table b s = by (is_loaded b.table s)
  where
    by : (x : Bool)
        → (in_table (cond x (leaves_core b (row_at b.table s).text) b) (λ t. change_row t s (λ row. record row { place = None }))).table
        ≡ change_row b.table s (λ row. record row { place = None })
    by true = ap (λ t. change_row t s (λ row. record row { place = None })) (text_table b (row_at b.table s).text _)
    by false = refl

pub bare_core : (b : Board) (s : ℕ) → (without_place b s).core ≡ b.core
bare_core b s = by (is_loaded b.table s)
  where
    by : (x : Bool)
        → (in_table (cond x (leaves_core b (row_at b.table s).text) b) (λ t. change_row t s (λ row. record row { place = None }))).core ≡ b.core
    by true = text_core b (row_at b.table s).text _
    by false = refl

-- a slot that goes from its place to another
pub moved_in : (b : Board) (s size c : ℕ) → s < length b.table.rows
    → (at_place (without_place b s) s size (Core c)).table ≡ with_row b.table s (row_in (row_at b.table s) size c)
moved_in b s size c l =
    core_table (without_place b s) s size c ∙ ap (λ t. change_row t s (λ row. row_in row size c)) (bare_table b s)
    ∙ again_row b.table s _ (λ row. row_in row size c) l

pub moved_out : (b : Board) (s size block : ℕ) → s < length b.table.rows
    → (at_place (without_place b s) s size (Swap block)).table ≡ runout_told (with_row b.table s (row_out (row_at b.table s) size block))
moved_out b s size block l =
    ap (λ t. runout_told (change_row t s (λ row. row_out row size block))) (bare_table b s)
    ∙ ap runout_told (again_row b.table s _ (λ row. row_out row size block) l)

pub moved_core : (b : Board) (s size : ℕ) (place : Place) → (at_place (without_place b s) s size place).core ≡ b.core
moved_core b s size (Core c) = core_core (without_place b s) s size c ∙ bare_core b s
moved_core b s size (Swap block) = bare_core b s

-- what a move of process 0 makes of the table, for who comes in and who goes out
pub record ComesIn (b : Board) (s : ℕ) (now : Board) : Type 0 where
  pub click : ℕ
  pub table : now.table ≡ with_row b.table s (row_in (row_at b.table s) (row_at b.table s).size click)
  pub core : now.core ≡ b.core

-- the board with the text at its place, or as it is
brought_in : (b : Board) (s c : ℕ) → ComesIn b s (brought b s (row_at b.table s).text c)
brought_in b s c = by (row_at b.table s).text
  where
    plain : (c : ℕ) → ComesIn b s (at_place b s (row_at b.table s).size (Core c))
    plain c =
        record { click = c; table = core_table b s (row_at b.table s).size c; core = core_core b s (row_at b.table s).size c }

    loaded : (k : ℕ) (text : TextPlace) (x : Bool) → ComesIn b s (cond x
        (at_place (with_text b k (Some (record text { click = c }))) s (row_at b.table s).size (Core (c + text.clicks))) (at_place b s (row_at b.table s).size (Core c)))
    loaded k text true =
        let with_it : Board = with_text b k (Some (record text { click = c })) in
        record {
          click = c + text.clicks;
          table = core_table with_it s (row_at b.table s).size (c + text.clicks);
          core = core_core with_it s (row_at b.table s).size (c + text.clicks);
        }
    loaded k text false = plain c

    of_text : (k : ℕ) (o : Option TextPlace) → ComesIn b s (brought_by b s k o c)
    of_text k None = plain c
    of_text k (Some text) = loaded k text (text.loaded == 0)

    by : (o : Option ℕ) → ComesIn b s (brought b s o c)
    by None = plain c
    by (Some k) = of_text k (text_at b k)

-- a row that has come in
abbrev pub loaded_row : TableRow → ℕ → TableRow
loaded_row row c = record (row_in row row.size c) { time = 0 }

pub record HasCome (b : Board) (s : ℕ) (now : Board) : Type 0 where
  pub click : ℕ
  pub table : now.table ≡ with_row b.table s (loaded_row (row_at b.table s) click)
  pub core : now.core ≡ b.core

pub comes_in : (b : Board) (s c : ℕ) → s < length b.table.rows → HasCome b s (applied b (line.SwapIn s c))
unfolding applied
comes_in b s c l =
    let k : ComesIn b s (brought b s (row_at b.table s).text c) = brought_in b s c in
    record {
      click = k.click;
      table = ap (λ t. change_row t s (λ row. record row { time = 0 })) k.table
          ∙ again_row b.table s (row_in (row_at b.table s) (row_at b.table s).size k.click) (λ row. record row { time = 0 }) l;
      core = k.core;
    }

pub goes_out : (b : Board) (s block : ℕ) → s < length b.table.rows
    → (applied b (line.SwapOut s block)).table ≡ runout_told (with_row b.table s (row_out (row_at b.table s) (row_at b.table s).size block))
unfolding applied
goes_out b s block l = moved_out b s (row_at b.table s).size block l

pub goes_core : (b : Board) (s block : ℕ) → (applied b (line.SwapOut s block)).core ≡ b.core
unfolding applied
goes_core b s block = moved_core b s (row_at b.table s).size (Swap block)

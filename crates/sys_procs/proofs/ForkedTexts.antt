-- The texts when a child shares its parent's: what is kept, what a call is handed, and the board.
use Rattle.std.proofs.Common.{◌≡◌, ◌∙◌, ◌+◌, ◌<◌, ℕ, true, cond, List, length, get_or, set, map, Option, Some, None, refl, sym, ap, arith}
use Rattle.std.specs.Option.{option_map}
use Rattle.std.proofs.lemmas.Bool.{ne_eqb}
use Rattle.std.proofs.lemmas.List.{map-set, get_or-set_same}
use Rattle.std.proofs.Math.ListN.{get_or-map}
use Rattle.v6_base.specs.declared.entry.Place.{Place}
use Rattle.v6_base.specs.declared.entry.Place.TheVariants.{Core, Swap}
use Rattle.v6_base.specs.declared.entry.Entry.TheVariants as line
use Rattle.pick_rules.specs.declared.row.TableRow.{TableRow}
use Rattle.pick_rules.specs.declared.table.Table.{Table}
use Rattle.pick_rules.specs.Table.{row_at, with_row, empty_row, child_row}
use Rattle.pick_rules.specs.Sleepers.{runout_told}
use Rattle.pick_rules.specs.Board.{TextPlace, Board}
use Rattle.pick_rules.specs.Apply.{applied, in_table, change_row, joins, changed}
use Rattle.pick_rules.proofs.Placing.{text_table, text_core, again_row, core_table, core_core, row_in, row_out}
use Rattle.image_keep.specs.Kept.{Shared, Keeping, Kept, with_keeping, with_text_of, text_of}
use Rattle.image_keep.specs.Kept as kept
use Rattle.image_keep.specs.Moves.{forked_row, forked_texts}
use Rattle.image_keep.specs.Places.{placed, is_text_loaded, may_load}
use Rattle.swap_sched.specs.Match.{text_place}
use Rattle.swap_sched.proofs.Texts.{one_more, text_at_map, set_twice}
use Rattle.sys_procs.specs.Texts as texts
use Rattle.sys_procs.specs.World.{text_in}
use Rattle.sys_procs.specs.inside.Seats.{with_image_row}
use Rattle.sys_procs.proofs.MovedTexts.{more_at, is_core, has_loaded}
use Rattle.sys_procs.proofs.GrownTexts.{more_of, texts_at, stands_at}

-- What is kept of the texts then.
abbrev pub texts_forked : List (Option Shared) → Option ℕ → Place → List (Option Shared)
texts_forked texts None place = texts
texts_forked texts (Some u) place = set texts u (kept.changed (forked_row place) (get_or texts u None))

pub slot_forked : (k : Kept) (o : Option ℕ) (place : Place) (child : ℕ) (x : Keeping) (t : Option ℕ)
    → with_text_of (with_keeping (forked_texts k o place) child x) child t
    ≡ record (with_keeping k child x) { texts = texts_forked k.texts o place; users = set k.users child t }
slot_forked k None place child x t = refl
slot_forked k (Some u) place child x t = refl

-- What a call is handed of the texts: one has a user more.
one_text : (place : Place) (x : Option Shared) → text_in (kept.changed (forked_row place) x) ≡ option_map texts.joined (text_in x)
one_text place None = refl
one_text (Core click) (Some x) = refl
one_text (Swap block) (Some x) = refl

pub forked_handed : (ts : List (Option Shared)) (o : Option ℕ) (place : Place)
    → map text_in (texts_forked ts o place) ≡ texts.joined_by_child (map text_in ts) o
forked_handed ts None place = refl
forked_handed ts (Some u) place =
    map-set text_in ts u (kept.changed (forked_row place) (get_or ts u None))
    ∙ ap (set (map text_in ts) u) (one_text place (get_or ts u None)
    ∙ ap (option_map texts.joined) (sym (get_or-map text_in ts u None)))

-- Of the board.
abbrev pub one_user : TextPlace → TextPlace
one_user text = record text { users = text.users + 1 }

abbrev joined_of : List (Option TextPlace) → Option ℕ → List (Option TextPlace)
joined_of texts None = texts
joined_of texts (Some u) = set texts u (changed (get_or texts u None) one_user)

joined_texts : (b : Board) (o : Option ℕ) → (joins b o).texts ≡ joined_of b.texts o
joined_texts b None = refl
joined_texts b (Some u) = refl

-- the table, with the row of a child whose image stands at a place
abbrev pub row_of_child : Table → ℕ → Place → TableRow
row_of_child t s place = record (child_row (row_at t s)) { size = (row_at t s).size; place = Some place }

module _ (b : Board) (s child : ℕ) (low : child < length b.table.rows) where
  abbrev born : Board
  born = in_table b (λ t. with_row t child (child_row (row_at t s)))

  abbrev joined : Board
  joined = joins born (row_at b.table s).text

  same_table : joined.table ≡ born.table
  same_table = text_table born (row_at b.table s).text one_user

  pub forked_table : (place : Place)
      → (applied b (line.Fork s child place)).table ≡ with_image_row b.table child (row_of_child b.table s place) place
  unfolding applied
  forked_table (Core click) =
      let n : ℕ = (row_at b.table s).size in
      core_table joined child n click
      ∙ ap (λ (t : Table). change_row t child (λ row. row_in row n click)) same_table
      ∙ again_row b.table child (child_row (row_at b.table s)) (λ row. row_in row n click) low
  forked_table (Swap block) =
      let n : ℕ = (row_at b.table s).size in
      ap (λ (t : Table). runout_told (change_row t child (λ row. row_out row n block))) same_table
      ∙ ap runout_told (again_row b.table child (child_row (row_at b.table s)) (λ row. row_out row n block) low)

  pub forked_core : (place : Place) → (applied b (line.Fork s child place)).core ≡ b.core
  unfolding applied
  forked_core (Core click) =
      core_core joined child (row_at b.table s).size click
      ∙ text_core born (row_at b.table s).text one_user
  forked_core (Swap block) = text_core born (row_at b.table s).text one_user

  child_text : (row_at joined.table child).text ≡ (row_at b.table s).text
  child_text =
      ap (λ (t : Table). (row_at t child).text) same_table
      ∙ ap (λ (row : TableRow). row.text) (get_or-set_same b.table.rows child (child_row (row_at b.table s)) empty_row low)

  forked_texts_by : (place : Place) → (applied b (line.Fork s child place)).texts
      ≡ more_of place (joined_of b.texts (row_at b.table s).text) (row_at b.table s).text
  unfolding applied
  forked_texts_by place =
      texts_at joined child (row_at b.table s).size place
      ∙ ap (more_of place joined.texts) child_text
      ∙ ap (λ texts. more_of place texts (row_at b.table s).text) (joined_texts born (row_at b.table s).text)

same_place : (x : Option Shared) (block : ℕ)
    → text_place (kept.changed (forked_row (Swap block)) x) ≡ changed (text_place x) one_user
same_place None block = refl
same_place (Some x) block = refl

forked_at_text : (texts : List (Option Shared)) (u : ℕ) (place : Place)
    → (is_core place ≡ true → is_text_loaded (get_or texts u None) ≡ true)
    → more_at place (joined_of (map text_place texts) (Some u)) u
    ≡ map text_place (set texts u (kept.changed (forked_row place) (get_or texts u None)))
forked_at_text texts u (Swap block) loaded =
    sym (map-set text_place texts u (kept.changed (forked_row (Swap block)) (get_or texts u None))
    ∙ ap (set (map text_place texts) u)
    (same_place (get_or texts u None) block ∙ ap (λ o. changed o one_user) (sym (text_at_map texts u))))
forked_at_text texts u (Core click) loaded =
    let there = has_loaded (get_or texts u None) (loaded refl) in
    let x : Shared = there.0 in
    let now : TextPlace = record {
      clicks = x.row.clicks;
      users = x.row.users;
      loaded = x.row.loaded;
      click = x.row.at;
      block = x.row.block;
    } in
    let at : get_or (map text_place texts) u None ≡ Some now = text_at_map texts u ∙ ap text_place there.1 in
    let some = there.2 in
    let l : List (Option TextPlace) = map text_place texts in
    ap (λ (o : Option TextPlace). set (set l u (changed o one_user)) u
    (changed (get_or (set l u (changed o one_user)) u None) one_more)) at
    ∙ set_twice l u (one_user now) now one_more at
    ∙ sym (map-set text_place texts u (kept.changed (forked_row (Core click)) (get_or texts u None))
    ∙ ap (set l u) (ap (λ o. text_place (kept.changed (forked_row (Core click)) o)) there.1
    ∙ ap (λ b. Some (record (one_more (one_user now)) { click = cond b click x.row.at }))
    (ne_eqb x.row.loaded 0 (λ f. omega (arith, f, some)))))

by_text : (k : Kept) (o : Option ℕ) (place : Place) → (is_core place ≡ true → may_load k o ≡ true)
    → more_of place (joined_of (map text_place k.texts) o) o ≡ map text_place (texts_forked k.texts o place)
by_text k None place may = refl
by_text k (Some u) place may = forked_at_text k.texts u place may

-- the same texts by the board and by what is kept
pub forked_places : (b : Board) (k : Kept) (s child n : ℕ) (place : Place) → child < length b.table.rows
    → b.texts ≡ map text_place k.texts
    → (row_at b.table s).text ≡ text_of k s → placed k s n ≡ Some place
    → (applied b (line.Fork s child place)).texts ≡ map text_place (texts_forked k.texts (text_of k s) place)
forked_places b k s child n place low texts text found =
    forked_texts_by b s child low place
    ∙ (λ i. more_of place (joined_of (texts i) (text i)) (text i))
    ∙ by_text k (text_of k s) place (stands_at k s n place found)

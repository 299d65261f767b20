-- What first fit finds is a click of core, or a block of the swap area; and where it finds none, a larger piece isn't found
-- either.
use Rattle.std.proofs.Common.{◌≡◌, ◌≤◌, ℕ, Bool, true, false, cond, List, Option, Some, None, option_map, refl, subst, arith}
use Rattle.std.specs.Option.{option_or}
use Rattle.v6_base.specs.declared.entry.Place.{Place}
use Rattle.v6_base.specs.declared.entry.Place.TheVariants.{Core, Swap}
use Rattle.map_fit.specs.Fit.{Range, first_fit, IsFirst, IsFit}
use Rattle.map_fit.proofs.Fits.{is_fit}
use Rattle.map_fit.proofs.LessRoom.{no_more}
use Rattle.pick_rules.specs.Table.{row_at}
use Rattle.pick_rules.specs.Ranges.{IsClicks, IsBlock, IsPlace}
use Rattle.pick_rules.specs.Board.{Board, limit, blocks, placed, core_fit, swap_fit, may_load}

first_is : (taken : List Range) (first last n start : ℕ) → first_fit taken first last n ≡ Some start → IsFirst taken first last n start
first_is taken first last n start e = subst (IsFit taken first last n) e (is_fit taken first last n)

pub block_within : (b : Board) (count block : ℕ) → 1 ≤ count → swap_fit b count ≡ Some block → IsBlock block
block_within b count block l e =
    let f = first_is _ 4000 4871 count block e in
    let low = f.after in
    let high = f.within in (omega (arith, low), omega (arith, l, high))

pub core_within : (b : Board) (clicks c : ℕ) → b.core ≤ 3968 → core_fit b clicks ≡ Some c → IsClicks c
core_within b clicks c most e = let f = first_is _ 1 b.core clicks c e in let high = f.within in omega (arith, most, high)

pub click_within : (b : Board) (s clicks c : ℕ) → b.core ≤ 3968 → placed b s clicks ≡ Some (Core c) → IsClicks c
unfolding placed
click_within b s clicks c most = by (may_load b (row_at b.table s).text) (core_fit b clicks) (swap_fit b (blocks clicks)) (core_within b clicks c most)
  where
    by : (may : Bool) (x y : Option ℕ) → (x ≡ Some c → IsClicks c)
        → option_or (cond may (option_map Core x) None) (option_map Swap y) ≡ Some (Core c) → IsClicks c
    by true (Some d) y h e = h (place_is e)
      where
        place_is : ◌≡◌ {A = Option Place} (Some (Core d)) (Some (Core c)) → Some d ≡ Some c
        place_is f = cc f
    by true None (Some block) h e = absurd (cc e)
    by true None None h e = absurd (cc e)
    by false x (Some block) h e = absurd (cc e)
    by false x None h e = absurd (cc e)

-- what is placed in the swap area
swap_placed : (b : Board) (s clicks block : ℕ) → placed b s clicks ≡ Some (Swap block) → swap_fit b (blocks clicks) ≡ Some block
unfolding placed
swap_placed b s clicks block = by (may_load b (row_at b.table s).text) (core_fit b clicks) (swap_fit b (blocks clicks))
  where
    place_is : (d : ℕ) → ◌≡◌ {A = Option Place} (Some (Swap d)) (Some (Swap block)) → Some d ≡ Some block
    place_is d f = cc f

    by : (may : Bool) (x y : Option ℕ)
        → option_or (cond may (option_map Core x) None) (option_map Swap y) ≡ Some (Swap block) → y ≡ Some block
    by true (Some c) y e = absurd (cc e)
    by true None (Some d) e = place_is d e
    by true None None e = absurd (cc e)
    by false x (Some d) e = place_is d e
    by false x None e = absurd (cc e)

-- any place
pub place_within : (b : Board) (s clicks : ℕ) (place : Place) → b.core ≤ 3968 → 1 ≤ clicks → placed b s clicks ≡ Some place → IsPlace place
place_within b s clicks (Core c) most some e = click_within b s clicks c most e
place_within b s clicks (Swap block) most some e =
    block_within b (blocks clicks) block (omega (arith, some)) (swap_placed b s clicks block e)

-- where there is no place, the largest image finds no blocks
pub none_placed : (b : Board) (s clicks : ℕ) → clicks ≤ limit b.core → placed b s clicks ≡ None → swap_fit b (blocks (limit b.core)) ≡ None
unfolding placed
none_placed b s clicks most e =
    no_more _ 4000 4871 (blocks clicks) (blocks (limit b.core)) (omega (arith, most))
    (by (may_load b (row_at b.table s).text) (core_fit b clicks) (swap_fit b (blocks clicks)) e)
  where
    by : (may : Bool) (x y : Option ℕ) → option_or (cond may (option_map Core x) None) (option_map Swap y) ≡ None → y ≡ None
    by true (Some c) y e = absurd (cc e)
    by true None (Some d) e = absurd (cc e)
    by true None None e = refl
    by false x (Some d) e = absurd (cc e)
    by false x None e = refl

-- A process at hand in core: its parts are bytes of core, and what its instructions leave of core is what is kept, with this
-- image and these registers and codes.
use Rattle.std.proofs.Common.{◌≡◌, ℕ, ◌+◌, ◌-◌, ◌<◌, ◌≤◌, inl, inr, Bool, true, false, List, ◌++◌, length, Option, Some, None, refl, sym, ap, subst, ◌∙◌, arith}
use Rattle.std.specs.Prelude.{IfSome, IsTrue}
use Rattle.std.proofs.lemmas.Bool.{cases_lt}
use Rattle.std.proofs.lemmas.List.{length-append}
use Rattle.fs_codec.proofs.WordsLemmas.{length-words}
use Rattle.v6_base.specs.Image.{Image, AreBytes}
use Rattle.v6_base.proofs.Copies.{SameLengths}
use Rattle.core_mem.specs.Bytes.{part}
use Rattle.core_mem.proofs.Parts.{part-left, part-right, part-add}
use Rattle.u_area.specs.declared.area.UArea.{UArea}
use Rattle.u_area.proofs.AreaLemmas.{one_area}
use Rattle.map_fit.specs.declared.holes.Hole.{Hole}
use Rattle.text_tab.specs.declared.row.TextRow.{TextRow}
use Rattle.pdp_step.specs.declared.outcome.Outcome.TheVariants.{Call, Next}
use Rattle.pdp_step.specs.Instruction.{Stepped, stepped, instr}
use Rattle.image_keep.specs.declared.images.Images.TheInside.{Inside}
use Rattle.image_keep.specs.declared.row.Row.{Row}
use Rattle.image_keep.specs.declared.running.Fixed.{Fixed}
use Rattle.image_keep.specs.declared.standing.Standing.{Standing}
use Rattle.image_keep.specs.declared.starts.Starts.{Starts}
use Rattle.image_keep.specs.Line.{Lists, line_of}
use Rattle.image_keep.specs.Kept.{Kept, IsKept, HasImage, image_of, area_of, with_image, with_area}
use Rattle.image_keep.specs.Memory.{Stock, kept_of, IsSound}
use Rattle.image_keep.specs.Counts.{IsCounted}
use Rattle.image_keep.specs.Maps.{AreMaps}
use Rattle.image_keep.specs.Told.{AreTold}
use Rattle.image_keep.specs.Inside.{stock_in, kept_in, AreImages}
use Rattle.image_keep.specs.Starts.{AreStarts}
use Rattle.image_keep.specs.Running.{IsFixed, with_state, state_bytes, machine_in, with_machine_in}
use Rattle.image_keep.specs.Standing.{standing_image, StandsIn}
use Rattle.image_keep.specs.Near.{standing_machine, stack_end, Around, around, registers_at, codes_at, IsStated}
use Rattle.image_keep.specs.Attempted.{IsAtHand, Attempted, Called}
use Rattle.image_keep.proofs.Frames.{alive_image, image_back, area_back, with_image_area}
use Rattle.image_keep.proofs.Own.{with_line}
use Rattle.image_keep.proofs.InPlan.{core_kept}
use Rattle.image_keep.proofs.KeptForm.{kept_holds}
use Rattle.image_keep.proofs.Storing.{told_image}
use Rattle.image_keep.proofs.Told.{area_told}
use Rattle.image_keep.proofs.Reading.{starts_after}
use Rattle.image_keep.proofs.AreaSet.{AreaHere, area_here, starts_fixed}
use Rattle.image_keep.proofs.Registers.{state_there, starts_described}
use Rattle.image_keep.proofs.StandingState.{state_read, stated_of, codes_low}
use Rattle.image_keep.proofs.Landing.{StandsAs, LeftAround, Landed, landed, lengths_same}
use Rattle.image_keep.proofs.StandsThere.{stands_as}

-- A process at hand, by the bytes of core.
pub record AtHand (k : Kept) (s : ℕ) (f : Standing) (core : List ℕ) : Type 0 where
  pub inside : 0 < f.code_len → StandsIn (length core) f
  pub stated : 0 < f.code_len → IsStated core f.area
  pub machine : 0 < f.code_len → standing_machine core f ≡ machine_in k s
  pub room : f.area + 18 ≤ length core

-- All else of the images is as it was.
pub record OthersStay (a b : Inside) : Type 0 where
  pub swap : b.memory.swap ≡ a.memory.swap
  pub core : b.core ≡ a.core
  pub rows : b.rows.items ≡ a.rows.items
  pub texts : b.texts ≡ a.texts
  pub core_map : b.core_map ≡ a.core_map
  pub swap_map : b.swap_map ≡ a.swap_map

-- what is so of core after any of it
pub record LeftBeside (f : Standing) (old new : List ℕ) : Type 0 where
  pub around : 0 < f.code_len → around new f ≡ around old f
  pub stated : 0 < f.code_len → IsStated new f.area
  pub size : length new ≡ length old

-- images that keep this, in their form
pub record Comes (b : Inside) (f : Fixed) (k : Kept) : Type 0 where
  pub images : AreImages b
  pub kept : kept_in b ≡ k
  pub fixed : IsFixed (kept_in b) f

-- The images after it.
pub record Executed (b : Inside) (k : Kept) (f : Fixed) (result : Bool) : Type 0 where
  pub images : AreImages b
  pub outcome : IsTrue result → (instr (machine_in k f.slot)).outcome ≡ Next
  pub done : IsTrue result → kept_in b ≡ with_machine_in k f.slot (instr (machine_in k f.slot)).machine
  pub kept : result ≡ false → kept_in b ≡ k
  pub fixed : IsFixed (kept_in b) f

pub record CalledFor (b : Inside) (k : Kept) (f : Fixed) (result : Option ℕ) : Type 0 where
  pub images : AreImages b
  pub outcome : IfSome result (λ n. (instr (machine_in k f.slot)).outcome ≡ Call n)
  pub done : IfSome result (λ n. kept_in b ≡ with_machine_in k f.slot (instr (machine_in k f.slot)).machine)
  pub kept : result ≡ None → kept_in b ≡ k
  pub fixed : IsFixed (kept_in b) f

-- places of core in the line
core_stands : (core size : ℕ) (f : Standing) → StandsIn size f → core ≤ 1000000 → f.text + f.text_len ≤ core → f.data_end + 65536 ≤ core + f.stack_start → StandsIn core f
core_stands core size f i small text stack = record {
  small = small;
  text_in = text;
  stack_in = stack;
  area = i.area;
  end = i.end;
  text_apart = i.text_apart;
  base = i.base;
  text_below = i.text_below;
  data_below = i.data_below;
  stack_below = i.stack_below;
  text_even = i.text_even;
  data_even = i.data_even;
  stack_even = i.stack_even;
  odd = i.odd;
  nought = i.nought;
  code_end = i.code_end;
  stack = i.stack;
  bare = i.bare;
  pure = i.pure;
}

core_image : (core swap : List ℕ) (f : Standing) → StandsIn (length core) f → standing_image (core ++ swap) f ≡ standing_image core f
unfolding standing_image
core_image core swap f i =
    let e = i.end in let b = i.stack_below in let s = i.stack_in in
    let one : part (core ++ swap) f.text f.text_len ≡ part core f.text f.text_len = part-left core swap f.text f.text_len i.text_in in
    let two : part (core ++ swap) f.data f.data_len ≡ part core f.data f.data_len = part-left core swap f.data f.data_len (omega (arith, e, b, s)) in
    let three : part (core ++ swap) f.data_end (65536 - f.stack_start) ≡ part core f.data_end (65536 - f.stack_start) = part-left core swap f.data_end (65536 - f.stack_start) (omega (arith, b, s)) in
    λ j. record { text = one j; «data» = two j; stack = three j }

core_behind : (old new swap : List ℕ) (at : ℕ) → length new ≡ length old → at ≤ length old → part new at (length old - at) ≡ part old at (length old - at)
    → part (new ++ swap) at (length (old ++ swap) - at) ≡ part (old ++ swap) at (length (old ++ swap) - at)
core_behind old new swap at size low same =
    let n : ℕ = length old - at in
    let m : ℕ = length swap in
    let both = length-append old swap in
    let long : length (old ++ swap) - at ≡ n + m = omega (arith, both, low) in
    let one : part (new ++ swap) at n ≡ part (old ++ swap) at n = part-left new swap at n (omega (arith, size, low)) ∙ same ∙ sym (part-left old swap at n (omega (arith, low))) in
    let two : part (new ++ swap) (at + n) m ≡ part (old ++ swap) (at + n) m = part-right new swap (at + n) 0 m (omega (arith, size, low)) ∙ sym (part-right old swap (at + n) 0 m (omega (arith, low))) in
    let joined : part (new ++ swap) at (n + m) ≡ part (old ++ swap) at (n + m) = part-add (new ++ swap) at n m ∙ (λ i. one i ++ two i) ∙ sym (part-add (old ++ swap) at n m) in
    subst (λ i. part (new ++ swap) at i ≡ part (old ++ swap) at i) (sym long) joined

pub core_around : (old new swap : List ℕ) (f : Standing) (r : List ℕ) (cc : ℕ) → StandsIn (length old) f → length new ≡ length old → around new f ≡ around old f → part new f.area 18 ≡ state_bytes r cc
    → LeftAround (old ++ swap) (new ++ swap) f r cc
core_around old new swap f r cc i size same stated =
    let ar = i.area in let e = i.end in let b = i.stack_below in let s = i.stack_in in
    let was = length-append old swap in
    let is = length-append new swap in
    record {
      size = omega (arith, was, is, size);
      before = part-left new swap 0 f.area (omega (arith, ar, e, b, s, size)) ∙ ap (λ (x : Around). x.before) same ∙ sym (part-left old swap 0 f.area (omega (arith, ar, e, b, s)));
      fields = part-left new swap (f.area + 18) 1006 (omega (arith, ar, e, b, s, size)) ∙ ap (λ (x : Around). x.fields) same ∙ sym (part-left old swap (f.area + 18) 1006 (omega (arith, ar, e, b, s)));
      behind = core_behind old new swap (stack_end f) size (omega (arith, b, s)) (subst (λ n. part new (stack_end f) (n - stack_end f) ≡ part old (stack_end f) (length old - stack_end f)) size (ap (λ (x : Around). x.behind) same));
      stated = part-left new swap f.area 18 (omega (arith, ar, e, b, s, size)) ∙ stated;
    }

-- a u area with the registers and codes that it has
same_state : (u : UArea) → with_state u u.r u.cc ≡ u
same_state u = (let c = u.codes in one_area (with_state u u.r u.cc) u refl (omega (arith, c)) refl refl refl refl refl refl refl refl refl refl refl refl refl refl refl refl refl)

-- what an instruction works on that leaves all as it is
machine_back : (k : Kept) (s : ℕ) → with_machine_in k s (machine_in k s) ≡ k
machine_back k s =
    let u : UArea = area_of k s in
    let same : with_state u u.r u.cc ≡ u = same_state u in
    (λ i. with_area (image_back k s i) s (same i)) ∙ area_back k s

module _ (a : Inside) (k : Kept) (f : Fixed) (view : kept_in a ≡ k) (h : AreImages a) (bytes : AreBytes (line_of a.memory)) (fixed : IsFixed k f) where
  s : ℕ
  s = f.slot

  x : Starts
  x = f.starts

  has : HasImage k f.slot
  has = alive_image k f.slot fixed.alive

  holds : IsKept k
  holds = kept_holds (stock_in a) k view h.sound h.table h.told bytes

  pub there : AreaHere (stock_in a) k f.slot (f.starts.image - 1024)
  there = area_here (stock_in a) k f.slot (f.starts.image - 1024) view h.sound h.counted has (starts_fixed k f.slot f.starts fixed)

  pub placed : 0 < f.standing.code_len → StandsAs (stock_in a) k f.slot f.starts f.standing
  placed some = stands_as (stock_in a) k f.slot f.starts f.standing view h.sound h.counted (holds.formed f.slot) fixed (f.near.follows some)

  pub inside : 0 < f.standing.code_len → StandsIn (length a.memory.core) f.standing
  inside some =
      let cut = h.cut in let most = h.sound.most in let c = fixed.core in
      let core : a.core ≡ k.core = sym (core_kept (stock_in a)) ∙ ap (λ (j : Kept). j.core) view in
      let i = f.near.text_in some in let j = f.near.stack_in some in
      core_stands (length a.memory.core) (length (line_of a.memory)) f.standing (placed some).inside (omega (arith, cut, most)) (omega (arith, i, c, core, cut)) (omega (arith, j, c, core, cut))

  image : 0 < f.standing.code_len → standing_image a.memory.core f.standing ≡ image_of k f.slot
  image some = sym (core_image a.memory.core a.memory.swap f.standing (inside some)) ∙ (placed some).image

  stands_there : 0 < f.standing.code_len → part a.memory.core f.standing.area 18 ≡ state_bytes (area_of k f.slot).r (area_of k f.slot).cc
  stands_there some =
      let i = inside some in
      let ar = i.area in let e = i.end in let b = i.stack_below in let st = i.stack_in in
      let d = (placed some).data_at in
      let begins : f.standing.area ≡ f.starts.image - 1024 = omega (arith, ar, d) in
      sym (part-left a.memory.core a.memory.swap f.standing.area 18 (omega (arith, ar, e, b, st)))
      ∙ ap (λ n. part (line_of a.memory) n 18) begins
      ∙ state_there (line_of a.memory) (f.starts.image - 1024) (area_of k f.slot) there.sized.r there.bytes

  pub its_machine : 0 < f.standing.code_len → standing_machine a.memory.core f.standing ≡ machine_in k f.slot
  its_machine some =
      let m = image some in
      let read = state_read a.memory.core f.standing.area (area_of k f.slot).r (area_of k f.slot).cc there.sized.r (area_of k f.slot).codes (stands_there some) in
      λ i. record { r = read.0 i; cc = read.1 i; image = m i }

  room : f.standing.area + 18 ≤ length a.memory.core
  room =
      let cut = h.cut in let least = h.sound.least in let c = fixed.core in
      let core : a.core ≡ k.core = sym (core_kept (stock_in a)) ∙ ap (λ (j : Kept). j.core) view in
      let r = f.near.room (omega (arith, c, core, least)) in
      omega (arith, r, c, core, cut)

  pub at_hand : AtHand k f.slot f.standing a.memory.core
  at_hand = record {
    inside = inside;
    stated = λ some. stated_of a.memory.core f.standing.area (area_of k f.slot).r (area_of k f.slot).cc there.sized.r (area_of k f.slot).codes (stands_there some);
    machine = its_machine;
    room = room;
  }

  module _ (b : Inside) (others : OthersStay a b) (did : LeftBeside f.standing a.memory.core b.memory.core) where
    line : List ℕ
    line = b.memory.core ++ a.memory.swap

    its_stock : stock_in b ≡ with_line (stock_in a) (b.memory.core ++ a.memory.swap)
    its_stock = λ i. record { line = b.memory.core ++ others.swap i; core = others.core i; rows = others.rows i; texts = others.texts i }

    -- what stays of the invariant, whatever the bytes are
    left_images : IsSound (with_line (stock_in a) (b.memory.core ++ a.memory.swap)) → AreTold (kept_in b) → AreImages b
    left_images sound told =
        let size = did.size in let cut = h.cut in let c = others.core in
        let maps : AreMaps (with_line (stock_in a) (b.memory.core ++ a.memory.swap)) a.core_map a.swap_map = record { core = h.maps.core; swap = h.maps.swap } in
        record {
          sound = subst IsSound (sym its_stock) sound;
          maps = subst (λ (p : List Hole). AreMaps (stock_in b) b.core_map p) (sym others.swap_map) (subst (λ (p : List Hole). AreMaps (stock_in b) p a.swap_map) (sym others.core_map) (subst (λ (q : Stock). AreMaps q a.core_map a.swap_map) (sym its_stock) maps));
          table = ap length others.texts ∙ h.table;
          cut = omega (arith, size, cut, c);
          counted = subst (λ (l : List Row). IsCounted l b.texts) (sym others.rows) (subst (λ (l : List (Option TextRow)). IsCounted a.rows.items l) (sym others.texts) h.counted);
          told = told;
        }

    module _ (some : 0 < f.standing.code_len) where
      wide : StandsIn (length b.memory.core) f.standing
      wide = subst (λ n. StandsIn n f.standing) (sym did.size) (inside some)

      done_landed : Landed (stock_in a) k f.slot f.standing (b.memory.core ++ a.memory.swap) (registers_at b.memory.core f.standing.area) (codes_at b.memory.core f.standing.area)
      done_landed = landed (stock_in a) k f.slot f.starts f.standing (b.memory.core ++ a.memory.swap) (registers_at b.memory.core f.standing.area) (codes_at b.memory.core f.standing.area) view h.sound h.counted fixed (placed some)
          (length-words b.memory.core f.standing.area 8) (codes_low b.memory.core f.standing.area)
          (core_around a.memory.core b.memory.core a.memory.swap f.standing (registers_at b.memory.core f.standing.area) (codes_at b.memory.core f.standing.area) (inside some) did.size (did.around some) (did.stated some))

      now_kept : kept_in b ≡ with_machine_in k f.slot (standing_machine b.memory.core f.standing)
      now_kept = ap kept_of its_stock ∙ done_landed.kept ∙ ap (λ (m : Image). with_area (with_image k f.slot m) f.slot (with_state (area_of k f.slot) (registers_at b.memory.core f.standing.area) (codes_at b.memory.core f.standing.area))) (core_image b.memory.core a.memory.swap f.standing wide)

      now_told : AreTold (kept_in b)
      now_told =
          let m : Image = standing_image b.memory.core f.standing in
          let rs : List ℕ = registers_at b.memory.core f.standing.area in
          let c : ℕ = codes_at b.memory.core f.standing.area in
          area_told (with_image k f.slot m) (kept_in b) (with_image k f.slot m) f.slot (with_state (area_of (with_image k f.slot m) f.slot) rs c) refl (now_kept ∙ ap (λ (p : UArea). with_area (with_image k f.slot m) f.slot (with_state p rs c)) (sym (with_image_area k f.slot f.slot m))) (refl, refl, refl)
          (told_image (kept_in a) (with_image k f.slot m) k f.slot m view refl h.told)

      now_fixed : IsFixed (kept_in b) f
      now_fixed =
          let m : Image = standing_image b.memory.core f.standing in
          let same : SameLengths (image_of k f.slot) m = lengths_same a.memory.core b.memory.core f.standing (image_of k f.slot) (inside some) did.size (image some) in
          subst (λ j. AreStarts j f.slot f.starts) (sym now_kept) (starts_described (with_image k f.slot m) f.slot f.starts (with_state (area_of k f.slot) (registers_at b.memory.core f.standing.area) (codes_at b.memory.core f.standing.area)) (starts_after k f.slot f.starts m fixed same))

      at_work : Comes b f (with_machine_in k f.slot (standing_machine b.memory.core f.standing))
      at_work = record { images = left_images done_landed.sound now_told; kept = now_kept; fixed = now_fixed }

    far_away : b.memory.core ≡ a.memory.core → Comes b f k
    far_away same =
        let stays : stock_in b ≡ stock_in a = its_stock ∙ ap (λ (p : List ℕ). with_line (stock_in a) (p ++ a.memory.swap)) same in
        let kept : kept_in b ≡ kept_in a = ap kept_of stays in
        record {
          images = left_images (subst (λ (p : List ℕ). IsSound (with_line (stock_in a) (p ++ a.memory.swap))) (sym same) h.sound) (subst AreTold (sym kept) h.told);
          kept = kept ∙ view;
          fixed = subst (λ j. AreStarts j f.slot f.starts) (sym (kept ∙ view)) fixed;
        }

    -- an instruction with the next one after it
    done_here : (result : Bool) → Attempted f.standing a.memory.core b.memory.core result → 0 < f.standing.code_len → Executed b k f result
    done_here result at some =
        let c : Comes b f (with_machine_in k f.slot (standing_machine b.memory.core f.standing)) = at_work some in
        let step : IsTrue result → instr (machine_in k f.slot) ≡ stepped Next (standing_machine b.memory.core f.standing) = λ well. ap instr (sym (its_machine some)) ∙ at.done well in
        record {
          images = c.images;
          outcome = λ well. ap (λ (p : Stepped). p.outcome) (step well);
          done = λ well. c.kept ∙ ap (λ (p : Stepped). with_machine_in k f.slot p.machine) (sym (step well));
          kept = λ ill. c.kept ∙ ap (with_machine_in k f.slot) (at.missed ill some ∙ its_machine some) ∙ machine_back k f.slot;
          fixed = c.fixed;
        }

    nothing_here : (result : Bool) → Attempted f.standing a.memory.core b.memory.core result → f.standing.code_len ≡ 0 → Executed b k f result
    nothing_here true at none = (let some = at.near refl in absurd (omega (arith, some, none)))
    nothing_here false at none =
        let c : Comes b f k = far_away (at.far_core refl none) in
        record { images = c.images; outcome = λ well. absurd (cc well); done = λ well. absurd (cc well); kept = λ ill. c.kept; fixed = c.fixed }

    pub executed : (result : Bool) → Attempted f.standing a.memory.core b.memory.core result → Executed b k f result
    executed result at = elim (cases_lt 0 f.standing.code_len) [
      | inl some ↦ done_here result at some
      | inr none ↦ nothing_here result at (omega (arith, none))
    ]

    -- a system call
    pub called : (result : Option ℕ) → Called f.standing a.memory.core b.memory.core result → CalledFor b k f result
    called None at =
        let c : Comes b f k = far_away (at.kept_core refl) in
        record { images = c.images; outcome = tt; done = tt; kept = λ none. c.kept; fixed = c.fixed }
    called (Some n) at =
        let c : Comes b f (with_machine_in k f.slot (standing_machine b.memory.core f.standing)) = at_work at.near in
        let step : instr (machine_in k f.slot) ≡ stepped (Call n) (standing_machine b.memory.core f.standing) = ap instr (sym (its_machine at.near)) ∙ at.called in
        record {
          images = c.images;
          outcome = ap (λ (p : Stepped). p.outcome) step;
          done = c.kept ∙ ap (λ (p : Stepped). with_machine_in k f.slot p.machine) (sym step);
          kept = λ none. absurd (cc none);
          fixed = c.fixed;
        }

-- what an attempt takes, and what it comes to
pub at_hand_in : (a : Inside) (k : Kept) (f : Fixed) → kept_in a ≡ k → AreImages a → AreBytes (line_of a.memory) → IsFixed k f → IsAtHand f.standing a.memory.core
at_hand_in a k f view h bytes fixed =
    let at : AtHand k f.slot f.standing a.memory.core = at_hand a k f view h bytes fixed in
    record { inside = at.inside; stated = at.stated; room = at.room; nil = f.near.nil }

others_in : (a : Inside) (m : Lists) → m.swap ≡ a.memory.swap → OthersStay a (record a { memory = m })
others_in a m swap = record { swap = swap; core = refl; rows = refl; texts = refl; core_map = refl; swap_map = refl }

pub executed_in : (a : Inside) (k : Kept) (f : Fixed) (m : Lists) (result : Bool) → kept_in a ≡ k → AreImages a → AreBytes (line_of a.memory) → IsFixed k f
    → Attempted f.standing a.memory.core m.core result → m.swap ≡ a.memory.swap → Executed (record a { memory = m }) k f result
executed_in a k f m result view h bytes fixed did swap =
    executed a k f view h bytes fixed (record a { memory = m }) (others_in a m swap) (record { around = did.around; stated = did.stated; size = did.size }) result did

pub called_in : (a : Inside) (k : Kept) (f : Fixed) (m : Lists) (result : Option ℕ) → kept_in a ≡ k → AreImages a → AreBytes (line_of a.memory) → IsFixed k f
    → Called f.standing a.memory.core m.core result → m.swap ≡ a.memory.swap → CalledFor (record a { memory = m }) k f result
called_in a k f m result view h bytes fixed did swap =
    called a k f view h bytes fixed (record a { memory = m }) (others_in a m swap) (record { around = did.around; stated = did.stated; size = did.size }) result did

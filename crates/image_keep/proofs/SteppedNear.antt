-- Which bytes are written as a process does an instruction: where it stands in core, and where its registers are put back.
use Rattle.std.proofs.Common.{◌≡◌, ◌∙◌, ℕ, ◌+◌, ◌-◌, ◌<◌, ◌≤◌, inl, inr, Bool, false, List, ◌++◌, length, take, drop, Option, Some, None, refl, sym, ap, subst, arith}
use Rattle.std.specs.Prelude.{IfSome, IsTrue}
use Rattle.std.proofs.Math.Seq.{take-add}
use Rattle.std.proofs.lemmas.Bool.{cases_lt}
use Rattle.std.proofs.lemmas.List.{length-take-le, take-append-drop, take_at}
use Rattle.v6_base.specs.Image.{AreBytes}
use Rattle.core_mem.specs.Bytes.{part, over}
use Rattle.core_mem.proofs.Parts.{length-over, part-add, part-over_same, part-over_apart, take-over, drop-over, over-left, over-self}
use Rattle.fs_codec.proofs.WordsLemmas.{length-words}
use Rattle.u_area.specs.declared.area.UArea.{UArea}
use Rattle.pdp_step.specs.Machine.{Machine}
use Rattle.pdp_step.specs.Instruction.{Stepped, instr}
use Rattle.image_keep.specs.declared.images.Images.TheInside.{Inside}
use Rattle.image_keep.specs.declared.running.Fixed.{Fixed}
use Rattle.image_keep.specs.declared.standing.Standing.{Standing}
use Rattle.image_keep.specs.declared.starts.Starts.{Starts}
use Rattle.image_keep.specs.Line.{Lists, line_of}
use Rattle.image_keep.specs.Kept.{Kept, HasImage, area_of, image_of}
use Rattle.image_keep.specs.Memory.{place_at}
use Rattle.image_keep.specs.State.{ImagesState}
use Rattle.image_keep.specs.Inside.{stock_in, kept_in, state_of, AreImages}
use Rattle.image_keep.specs.Starts.{AreStarts, data_start}
use Rattle.image_keep.specs.Fields.{AreWritten}
use Rattle.image_keep.specs.Lent.{around, outside_of}
use Rattle.image_keep.specs.Running.{IsFixed, state_bytes, machine_in}
use Rattle.image_keep.specs.Standing.{StandsIn}
use Rattle.image_keep.specs.Near.{standing_machine, stack_end, registers_at, codes_at, IsStated}
use Rattle.image_keep.specs.Near.{around as around_of}
use Rattle.image_keep.specs.Attempted.{Attempted, Called}
use Rattle.image_keep.specs.Stepped.{over_outside, IsSteppedAt, IsStepped}
use Rattle.image_keep.proofs.Frames.{alive_image}
use Rattle.image_keep.proofs.Landing.{StandsAs, LeftAround, front_same, back_same}
use Rattle.image_keep.proofs.AreaSet.{AreaHere}
use Rattle.image_keep.proofs.NearCore.{there, placed, inside, its_machine, core_around, Executed, CalledFor, executed_in, called_in}
use Rattle.image_keep.proofs.Outside.{fronted}
use Rattle.image_keep.proofs.Registers.{state_long, state_there}

-- 18 bytes are put into a u area, and what stands behind it is left out
around_front : (line bytes : List ℕ) (at n : ℕ) → length bytes ≡ 18 → at + 1024 ≤ length line
    → around (over line at bytes) (at + 1024) n ≡ over (around line (at + 1024) n) at bytes
around_front line bytes at n long fits =
    let b : ℕ = at + 1024 in
    let xs : List ℕ = take b line in
    let ys : List ℕ = drop b line in
    let size : length xs ≡ b = length-take-le b line fits in
    let within : at + length bytes ≤ length xs = omega (arith, long, size) in
    let whole : over line at bytes ≡ over xs at bytes ++ ys =
    ap (λ l. over l at bytes) (sym (take-append-drop b line)) ∙ sym (over-left xs ys at bytes within) in
    let low : take b (over line at bytes) ≡ over xs at bytes =
    ap (take b) whole ∙ take_at (over xs at bytes) ys b (length-over xs at bytes within ∙ size) in
    let high : drop (b + n) (over line at bytes) ≡ drop (b + n) line =
    drop-over line at bytes (b + n) (omega (arith, long)) (omega (arith, long, fits)) in
    (λ i. low i ++ high i) ∙ over-left xs (drop (b + n) line) at bytes within

cut_there : (line : List ℕ) (at n : ℕ) → take (at + n) line ≡ take at line ++ part line at n
unfolding part
cut_there line at n = take-add at n line

-- what stands around is the same where its parts are
around_agree : (xs ys : List ℕ) (at n : ℕ) → take at xs ≡ take at ys → part xs at 18 ≡ part ys at 18
    → part xs (at + 18) 1006 ≡ part ys (at + 18) 1006 → drop (at + 1024 + n) xs ≡ drop (at + 1024 + n) ys
    → around xs (at + 1024) n ≡ around ys (at + 1024) n
around_agree xs ys at n low own fields high =
    let area : part xs at 1024 ≡ part ys at 1024 =
    part-add xs at 18 1006 ∙ (λ i. own i ++ fields i) ∙ sym (part-add ys at 18 1006) in
    let first : take (at + 1024) xs ≡ take (at + 1024) ys = cut_there xs at 1024 ∙ (λ i. low i ++ area i) ∙ sym (cut_there ys at 1024) in
    λ i. first i ++ high i

-- registers and codes that stand in a line, and else all around them as it was
near_front : (old new : List ℕ) (f : Standing) (r : List ℕ) (cc n : ℕ) → StandsIn (length old) f → LeftAround old new f r cc
    → length r ≡ 8 → f.area + 1024 + n ≡ stack_end f
    → around new (f.area + 1024) n ≡ over (around old (f.area + 1024) n) f.area (state_bytes r cc)
near_front old new f r cc n s l eight ends =
    let bytes : List ℕ = state_bytes r cc in
    let long : length bytes ≡ 18 = state_long r cc eight in
    let a = s.area in let b = s.end in let c = s.stack_in in let d = s.stack_below in
    let fits : f.area + 1024 ≤ length old = omega (arith, a, b, c, d) in
    let room : f.area + length bytes ≤ length old = omega (arith, long, fits) in
    let past : drop (stack_end f) new ≡ drop (stack_end f) (over old f.area bytes) =
    sym (back_same old new (stack_end f) l.size (sym l.behind))
    ∙ sym (drop-over old f.area bytes (stack_end f) (omega (arith, long, ends)) room) in
    around_agree new (over old f.area bytes) f.area n
    (front_same new old f.area l.before ∙ sym (take-over old f.area bytes f.area (omega arith) room))
    (l.stated ∙ sym (part-over_same old f.area bytes 18 long (omega (arith, fits))))
    (l.fields ∙ sym (part-over_apart old f.area bytes (f.area + 18) 1006 room (inr (omega (arith, long)))))
    (subst (λ k. drop k new ≡ drop k (over old f.area bytes)) (sym ends) past)
    ∙ around_front old bytes f.area n long fits

-- Registers and codes are put into a u area.
pub front_outside : (x y : ImagesState) (s at : ℕ) (st : Starts) (bytes : List ℕ) → AreStarts x.kept s st → AreStarts y.kept s st
    → AreWritten x y s 0 bytes → length bytes ≡ 18 → at ≡ st.image - 1024 → at + 1024 ≤ length (x.core ++ x.swap)
    → outside_of y s ≡ over_outside (outside_of x s) (st.image - 1024) bytes
front_outside x y s at st bytes was is written long start fits =
    let has : HasImage x.kept s = alive_image x.kept s was.alive in
    let image : st.image ≡ place_at x.kept.core has.0.place + 1024 = was.image ∙ ap (data_start x.kept.core) has.1 in
    let put = written has.0 has.1 in
    let size : ℕ = length (image_of x.kept s).data + length (image_of x.kept s).stack in
    let here : place_at x.kept.core has.0.place + 0 ≡ at = omega (arith, image, start) in
    let behind : at + 1024 ≡ st.image = omega (arith, image, start) in
    let front : around (y.core ++ y.swap) (at + 1024) size ≡ over (around (x.core ++ x.swap) (at + 1024) size) at bytes =
    ap (λ l. around l (at + 1024) size) (put.1 ∙ ap (λ k. over (x.core ++ x.swap) k bytes) here)
    ∙ around_front (x.core ++ x.swap) bytes at size long fits in
    let moved : around (y.core ++ y.swap) st.image size ≡ over (around (x.core ++ x.swap) st.image size) at bytes =
    subst (λ k. around (y.core ++ y.swap) k size ≡ over (around (x.core ++ x.swap) k size) at bytes) behind front in
    fronted x y s st was is put.0 at bytes moved ∙ ap (λ k. over_outside (outside_of x s) k bytes) start

-- An attempt at an instruction where the process stands in core.
module _ (a : Inside) (k : Kept) (f : Fixed) (view : kept_in a ≡ k) (h : AreImages a) (bytes : AreBytes (line_of a.memory)) (fixed : IsFixed k f) where
  was : AreStarts (kept_in a) f.slot f.starts
  was = subst (λ j. AreStarts j f.slot f.starts) (sym view) fixed

  behind : f.starts.image - 1024 + 1024 ≡ f.starts.image
  behind =
      let has : HasImage k f.slot = alive_image k f.slot fixed.alive in
      let image : f.starts.image ≡ place_at k.core has.0.place + 1024 = fixed.image ∙ ap (data_start k.core) has.1 in
      omega (arith, image)

  abbrev parts : ℕ
  parts = length (image_of (kept_in a) f.slot).data + length (image_of (kept_in a) f.slot).stack

  -- registers and codes that stand there already
  nothing_new : over_outside (outside_of (state_of a) f.slot) (f.starts.image - 1024) (state_bytes (area_of k f.slot).r (area_of k f.slot).cc)
      ≡ outside_of (state_of a) f.slot
  nothing_new =
      let here : AreaHere (stock_in a) k f.slot (f.starts.image - 1024) = there a k f view h bytes fixed in
      let u : UArea = area_of k f.slot in
      let line : List ℕ = a.memory.core ++ a.memory.swap in
      let b : ℕ = f.starts.image - 1024 in
      let put : List ℕ = state_bytes u.r u.cc in
      let long : length put ≡ 18 = state_long u.r u.cc here.sized.r in
      let fits = here.inside in
      let same : over line b put ≡ line =
      ap (over line b) (sym (state_there line b u here.sized.r here.bytes)) ∙ over-self line b 18 (omega (arith, fits)) in
      let front : over (around line (b + 1024) parts) b put ≡ around line (b + 1024) parts =
      sym (around_front line put b parts long fits) ∙ ap (λ l. around l (b + 1024) parts) same in
      let moved : around line f.starts.image parts ≡ over (around line f.starts.image parts) b put =
      sym (subst (λ j. over (around line j parts) b put ≡ around line j parts) behind front) in
      sym (fronted (state_of a) (state_of a) f.slot f.starts was was refl b put moved)

  module _ (m : Lists) (swap : m.swap ≡ a.memory.swap) (size : length m.core ≡ length a.memory.core) where
    abbrev after : Inside
    after = record a { memory = m }

    module _ (is : IsFixed (kept_in after) f) (some : 0 < f.standing.code_len) (r : List ℕ) (cc : ℕ) (eight : length r ≡ 8)
        (l : LeftAround (a.memory.core ++ a.memory.swap) (m.core ++ a.memory.swap) f.standing r cc) where
      stands : StandsAs (stock_in a) k f.slot f.starts f.standing
      stands = placed a k f view h bytes fixed some

      written_there : outside_of (state_of after) f.slot
          ≡ over_outside (outside_of (state_of a) f.slot) (f.starts.image - 1024) (state_bytes r cc)
      written_there =
          let i = stands.inside in
          let area = i.area in let end = i.end in let d = stands.data_at in let n = stands.data_len in let e = stands.stack_start in
          let dl = was.data_len in let ss = was.stack_start in let low = i.stack_below in
          let ends : f.standing.area + 1024 + parts ≡ stack_end f.standing = omega (arith, area, end, n, e, dl, ss, low) in
          let behind : f.standing.area + 1024 ≡ f.starts.image = omega (arith, area, d) in
          let start : f.standing.area ≡ f.starts.image - 1024 = omega (arith, area, d) in
          let front = near_front (a.memory.core ++ a.memory.swap) (m.core ++ a.memory.swap) f.standing r cc parts i l eight ends in
          let there : around (m.core ++ m.swap) f.starts.image parts
          ≡ over (around (a.memory.core ++ a.memory.swap) f.starts.image parts) f.standing.area (state_bytes r cc) =
          ap (λ (t : List ℕ). around (m.core ++ t) f.starts.image parts) swap
          ∙ subst (λ j. around (m.core ++ a.memory.swap) j parts
          ≡ over (around (a.memory.core ++ a.memory.swap) j parts) f.standing.area (state_bytes r cc)) behind front in
          fronted (state_of a) (state_of after) f.slot f.starts was is size f.standing.area (state_bytes r cc) there
          ∙ ap (λ j. over_outside (outside_of (state_of a) f.slot) j (state_bytes r cc)) start

    same_memory : m.core ≡ a.memory.core → outside_of (state_of after) f.slot ≡ outside_of (state_of a) f.slot
    same_memory core = λ i. outside_of (state_of (record a { memory = record { core = core i; swap = swap i } })) f.slot

    -- registers and codes stand there as a u area is written
    now : IsFixed (kept_in after) f → 0 < f.standing.code_len → around_of m.core f.standing ≡ around_of a.memory.core f.standing
        → IsStated m.core f.standing.area → outside_of (state_of after) f.slot
        ≡ over_outside (outside_of (state_of a) f.slot) (f.starts.image - 1024)
        (state_bytes (registers_at m.core f.standing.area) (codes_at m.core f.standing.area))
    now is some same stated =
        let r : List ℕ = registers_at m.core f.standing.area in
        let cc : ℕ = codes_at m.core f.standing.area in
        written_there is some r cc (length-words m.core f.standing.area 8)
        (core_around a.memory.core m.core a.memory.swap f.standing r cc (inside a k f view h bytes fixed some) size same stated)

    -- as an instruction says that leaves all other memory
    put_by : (e : Stepped) → instr (machine_in k f.slot) ≡ e → e.machine ≡ standing_machine m.core f.standing
        → outside_of (state_of after) f.slot ≡ over_outside (outside_of (state_of a) f.slot) (f.starts.image - 1024)
        (state_bytes (registers_at m.core f.standing.area) (codes_at m.core f.standing.area))
        → IsSteppedAt (state_of a) (state_of after) f.slot (f.starts.image - 1024) (instr (machine_in k f.slot)).machine
    put_by e is machine put =
        let same : standing_machine m.core f.standing ≡ (instr (machine_in k f.slot)).machine =
        sym machine ∙ sym (ap (λ (p : Stepped). p.machine) is) in
        put ∙ ap (λ (p : Machine). over_outside (outside_of (state_of a) f.slot) (f.starts.image - 1024) (state_bytes p.r p.cc)) same

  -- an instruction that is done there, or not
  pub record NearWritten (b : Inside) (result : Bool) : Type 0 where
    pub written : IsTrue result → IsSteppedAt (state_of a) (state_of b) f.slot (f.starts.image - 1024) (instr (machine_in k f.slot)).machine
    pub same : result ≡ false → outside_of (state_of b) f.slot ≡ outside_of (state_of a) f.slot

  pub executed_near : (m : Lists) (result : Bool) → Attempted f.standing a.memory.core m.core result → m.swap ≡ a.memory.swap
      → NearWritten (record a { memory = m }) result
  executed_near m result did swap =
      let e : Executed (record a { memory = m }) k f result = executed_in a k f m result view h bytes fixed did swap in
      record {
        written = λ well.
            put_by m swap did.size _ (ap instr (sym (its_machine a k f view h bytes fixed (did.near well))) ∙ did.done well) refl
            (now m swap did.size e.fixed (did.near well) (did.around (did.near well)) (did.stated (did.near well)));
        same = λ ill. elim (cases_lt 0 f.standing.code_len) [
          | inl some ↦
              (let machine = did.missed ill some ∙ its_machine a k f view h bytes fixed some in
              now m swap did.size e.fixed some (did.around some) (did.stated some)
              ∙ ap (λ (p : Machine). over_outside (outside_of (state_of a) f.slot) (f.starts.image - 1024) (state_bytes p.r p.cc)) machine
              ∙ nothing_new)
          | inr none ↦ same_memory m swap did.size (did.far_core ill (omega (arith, none)))
        ];
      }

  -- a system call that is asked for there, or not
  pub record CallWritten (b : Inside) (result : Option ℕ) : Type 0 where
    pub written : IfSome result (λ n. IsSteppedAt (state_of a) (state_of b) f.slot (f.starts.image - 1024) (instr (machine_in k f.slot)).machine)
    pub same : result ≡ None → outside_of (state_of b) f.slot ≡ outside_of (state_of a) f.slot

  pub called_near : (m : Lists) (result : Option ℕ) → Called f.standing a.memory.core m.core result → m.swap ≡ a.memory.swap
      → CallWritten (record a { memory = m }) result
  called_near m None did swap = record { written = tt; same = λ none. same_memory m swap did.size (did.kept_core refl) }
  called_near m (Some n) did swap =
      let e : CalledFor (record a { memory = m }) k f (Some n) = called_in a k f m (Some n) view h bytes fixed did swap in
      record {
        written =
            put_by m swap did.size _ (ap instr (sym (its_machine a k f view h bytes fixed did.near)) ∙ did.called) refl
            (now m swap did.size e.fixed did.near (did.around did.near) (did.stated did.near));
        same = λ none. absurd (cc none);
      }

-- The machine that was worked on is that of the images before, where nothing had changed.
pub stepped_from : (x mid y : ImagesState) (s at : ℕ) → mid.kept ≡ x.kept → outside_of mid s ≡ outside_of x s
    → IsSteppedAt mid y s at (instr (machine_in mid.kept s)).machine → IsSteppedAt x y s at (instr (machine_in x.kept s)).machine
stepped_from x mid y s at kept out put =
    put
    ∙ (λ i. over_outside (out i) at (state_bytes (instr (machine_in (kept i) s)).machine.r (instr (machine_in (kept i) s)).machine.cc))

-- where the slot's u area stands
pub stepped_there : (x y : ImagesState) (f : Fixed) (m : Machine) → IsFixed x.kept f
    → IsSteppedAt x y f.slot (f.starts.image - 1024) m → IsStepped x y f.slot m
stepped_there x y f m fixed put held has =
    let image : f.starts.image ≡ place_at x.kept.core held.place + 1024 = fixed.image ∙ ap (data_start x.kept.core) has in
    let start : f.starts.image - 1024 ≡ place_at x.kept.core held.place = omega (arith, image) in
    subst (λ at. IsSteppedAt x y f.slot at m) start put

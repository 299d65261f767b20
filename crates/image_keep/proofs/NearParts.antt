-- What an instruction writes leaves all that is around.
use Rattle.std.proofs.Common.{◌≡◌, ℕ, ◌+◌, ◌-◌, ◌≤◌, ◌⊎◌, inl, inr, List, length, refl, sym, ap, subst, ◌∙◌, arith}
use Rattle.core_mem.specs.Bytes.{part, over}
use Rattle.core_mem.proofs.Parts.{length-part}
use Rattle.fs_codec.proofs.WordsLemmas.{length-words}
use Rattle.image_keep.specs.declared.standing.Standing.{Standing}
use Rattle.image_keep.specs.Running.{state_bytes}
use Rattle.image_keep.specs.Standing.{standing_image, StandsIn}
use Rattle.image_keep.proofs.StandingState.{image_same, image_beside, state_read, stated_of, codes_low, state_put, state_size, state_rest, state_back}
use Rattle.image_keep.specs.Near.{Around, StandsWith, standing_machine, stack_end, around, registers_at, codes_at, IsStated}

pub record Kept_around (core new : List ℕ) (f : Standing) : Type 0 where
  pub size : length new ≡ length core
  pub before : part new 0 f.area ≡ part core 0 f.area
  pub fields : part new (f.area + 18) 1006 ≡ part core (f.area + 18) 1006
  pub behind : part new (stack_end f) (length core - stack_end f) ≡ part core (stack_end f) (length core - stack_end f)

around_same : (core new : List ℕ) (f : Standing) → Kept_around core new f → around new f ≡ around core f
around_same core new f k = rw (k.size, k.before, k.fields, k.behind)

-- data or stack were written
pub around_stored : (core new : List ℕ) (f : Standing) → StandsIn (length core) f → length new ≡ length core → ((k m : ℕ) → (k + m ≤ f.data) ⊎ (f.data_end + 65536 ≤ k + f.stack_start) → part new k m ≡ part core k m) → around new f ≡ around core f
around_stored core new f s size rest =
    let a = s.area in let b = s.stack_below in
    around_same core new f (record {
      size = size;
      before = rest 0 f.area (inl (omega (arith, a)));
      fields = rest (f.area + 18) 1006 (inl (omega (arith, a)));
      behind = rest (stack_end f) (length core - stack_end f) (inr (omega (arith, b)));
    })

-- registers or codes were written
pub around_stated : (core new : List ℕ) (f : Standing) (at : ℕ) → StandsIn (length core) f → at ≡ f.area → length new ≡ length core → ((k m : ℕ) → (k + m ≤ at) ⊎ (at + 18 ≤ k) → part new k m ≡ part core k m) → around new f ≡ around core f
around_stated core new f at s is size rest =
    let a = s.area in let e = s.end in
    around_same core new f (record {
      size = size;
      before = rest 0 f.area (inl (omega (arith, is)));
      fields = rest (f.area + 18) 1006 (inr (omega (arith, is)));
      behind = rest (stack_end f) (length core - stack_end f) (inr (omega (arith, a, e, is)));
    })

-- the registers and codes stand as they were where data or stack were written
state_stays : (core new : List ℕ) (f : Standing) → StandsIn (length core) f → ((k m : ℕ) → (k + m ≤ f.data) ⊎ (f.data_end + 65536 ≤ k + f.stack_start) → part new k m ≡ part core k m) → IsStated core f.area → part new f.area 18 ≡ state_bytes (registers_at core f.area) (codes_at core f.area)
state_stays core new f s rest is = rest f.area 18 (inl (let a = s.area in omega (arith, a))) ∙ is

pub registers_after : (core new : List ℕ) (f : Standing) → StandsIn (length core) f → ((k m : ℕ) → (k + m ≤ f.data) ⊎ (f.data_end + 65536 ≤ k + f.stack_start) → part new k m ≡ part core k m) → IsStated core f.area → registers_at new f.area ≡ registers_at core f.area
registers_after core new f s rest is = (state_read new f.area _ _ (length-words core f.area 8) (codes_low core f.area) (state_stays core new f s rest is)).0

pub codes_after : (core new : List ℕ) (f : Standing) → StandsIn (length core) f → ((k m : ℕ) → (k + m ≤ f.data) ⊎ (f.data_end + 65536 ≤ k + f.stack_start) → part new k m ≡ part core k m) → IsStated core f.area → codes_at new f.area ≡ codes_at core f.area
codes_after core new f s rest is = (state_read new f.area _ _ (length-words core f.area 8) (codes_low core f.area) (state_stays core new f s rest is)).1

pub stated_after : (core new : List ℕ) (f : Standing) → StandsIn (length core) f → ((k m : ℕ) → (k + m ≤ f.data) ⊎ (f.data_end + 65536 ≤ k + f.stack_start) → part new k m ≡ part core k m) → IsStated core f.area → IsStated new f.area
stated_after core new f s rest is = stated_of new f.area _ _ (length-words core f.area 8) (codes_low core f.area) (state_stays core new f s rest is)

pub state_room : (size : ℕ) (f : Standing) → StandsIn size f → f.area + 18 ≤ size
state_room size f i = let a = i.area in let e = i.end in let s = i.stack_in in let b = i.stack_below in omega (arith, a, e, s, b)

-- The registers and codes are put back as they stood before, where nothing around has changed.
module _ (core now new : List ℕ) (f : Standing) (old : StandsWith core f) (beside : around now f ≡ around core f) (put : new ≡ over now f.area (part core f.area 18)) where
  same_size : length now ≡ length core
  same_size = ap (λ (x : Around). x.size) beside

  room_before : f.area + 18 ≤ length core
  room_before = state_room (length core) f old.inside

  inside_now : StandsIn (length now) f
  inside_now = subst (λ n. StandsIn n f) (sym same_size) old.inside

  room : f.area + 18 ≤ length now
  room = state_room (length now) f inside_now

  long : length (part core f.area 18) ≡ 18
  long = length-part core f.area 18 room_before

  rest : (k m : ℕ) → (k + m ≤ f.area) ⊎ (f.area + 18 ≤ k) → part new k m ≡ part now k m
  rest k m off = state_rest now new f.area (part core f.area 18) k m room long put off

  pub back_machine : standing_image now f ≡ standing_image core f → standing_machine new f ≡ standing_machine core f
  back_machine image =
      let state = state_back core now new f.area room same_size room_before old.stated put in
      let same = image_same now new f inside_now rest ∙ image in
      λ i. record { r = state.0 i; cc = state.1 i; image = same i }

  pub back_around : around new f ≡ around core f
  back_around = around_stated now new f f.area inside_now refl (state_size now new f.area (part core f.area 18) room long put) rest ∙ beside

  pub back_stands : StandsWith new f
  back_stands = record {
    inside = subst (λ n. StandsIn n f) (sym (ap (λ (x : Around). x.size) back_around)) old.inside;
    stated = stated_of new f.area (registers_at core f.area) (codes_at core f.area) (length-words core f.area 8) (codes_low core f.area)
        (state_put now new f.area (part core f.area 18) (registers_at core f.area) (codes_at core f.area) room long old.stated put);
  }

pub ruleset near = (around_stored, around_stated, registers_after, codes_after, stated_after, image_beside)

-- The data of a program that are read into an image: they go into its data, and leave its stack as it was.
use Rattle.std.proofs.Common.{◌≡◌, ◌+◌, ◌-◌, ◌*◌, ◌/◌, ◌%◌, ◌==◌, ◌||◌, ◌<◌, ◌≤◌, ℕ, zero, suc, Bool, true, false, not, cond, List, [], ◌∷◌, length, set, min, replicate, slice_range, drop, nat_lt, nat_le, Option, Some, None, Ok, if◌then◌else◌, refl, sym, ap, subst, ◌∙◌, inl, inr, arith, IfSome, IsSome}
use Rattle.std.specs.Option.{unwrap_or}
use Rattle.std.proofs.lemmas.Bool.{cases_lt, lt-ltb, le-ltb, le-leb, ltb-false}
use Rattle.std.proofs.lemmas.List.{length-replicate, length-set, length-take}
use Rattle.v6_base.specs.declared.named.Named.TheVariants.{InData}
use Rattle.v6_base.specs.Image.{Image, nseg, data_base, named_by}
use Rattle.v6_base.specs.Access.{store_byte, with_byte}
use Rattle.v6_base.specs.Copy.{then_store, store_bytes}
use Rattle.fs_codec.specs.Modes.{is_device}
use Rattle.fs_codec.specs.Store.{Node}
use Rattle.fs_laws.specs.Touch.{Touching, touching}
use Rattle.fs_laws.specs.Pieces.{Moving, going_on, reading, read_file, pieces, piece_end, beginning}
use Rattle.fs_laws.proofs.PieceLemmas.{pieces_step, no_pieces}
use Rattle.fs_nodes.specs.Keys.{Stores, node_numbered, room_at}
use Rattle.fs_nodes.specs.Copy.{put_into}
use Rattle.seg_regs.specs.Sizes.{is_refused}
use Rattle.sys_procs.specs.declared.program.Program.{Program}
use Rattle.sys_procs.specs.Tests.{no_node, node_in}
use Rattle.sys_procs.specs.ExecFile.{data_clicks, cleared_image, data_in}

-- an image with a text, so many bytes of data, and this stack
pub record HasData (text : List ℕ) (n : ℕ) (stack : List ℕ) (m : Image) : Type 0 where
  pub text_is : m.text ≡ text
  pub long : length m.data ≡ n
  pub same : m.stack ≡ stack

-- the data begin behind the text
pub record Begins (text : List ℕ) (base n : ℕ) : Type 0 where
  pub base_is : data_base (length text) ≡ base
  pub before : length text ≤ base
  pub few : base + n ≤ 65536

-- a byte below the end of the data is one of them
in_data : (text : List ℕ) (base n stack v : ℕ) → Begins text base n → base ≤ v → v < base + n → named_by (length text) n stack v ≡ InData (v - base)
unfolding named_by
in_data text base n stack v begins above low =
    let before = begins.before in
    let behind : nat_lt v (length text) ≡ false = le-ltb v (length text) (omega (arith, before, above)) in
    let from : nat_le (data_base (length text)) v ≡ true = ap (λ b. nat_le b v) begins.base_is ∙ le-leb base v above in
    let within : nat_lt v (data_base (length text) + n) ≡ true = ap (λ b. nat_lt v (b + n)) begins.base_is ∙ lt-ltb v (base + n) low in
    rw (behind, from, within, begins.base_is)

store_data : (text : List ℕ) (base n : ℕ) (stack : List ℕ) (m : Image) (v b : ℕ) → Begins text base n → HasData text n stack m → base ≤ v → v < base + n
    → store_byte m v b ≡ Ok (record m { «data» = set m.data (v - base) b })
unfolding store_byte
store_data text base n stack m v b begins has above low =
    ap (λ x. with_byte m x b)
    (ap (λ t. named_by (length t) (length m.data) (length m.stack) v) has.text_is
    ∙ (ap (λ k. named_by (length text) k (length m.stack) v) has.long ∙ in_data text base n (length m.stack) v begins above low))

data_stored : (text : List ℕ) (n : ℕ) (stack : List ℕ) (m : Image) (i b : ℕ) → HasData text n stack m
    → HasData text n stack (record m { «data» = set m.data i b })
data_stored text n stack m i b has = record {
  text_is = has.text_is;
  long = length-set m.data i b ∙ has.long;
  same = has.same;
}

bytes_stored : (text : List ℕ) (base n : ℕ) (stack : List ℕ) (m : Image) (at : ℕ) (bytes : List ℕ) → Begins text base n → HasData text n stack m
    → base ≤ at → at + length bytes ≤ base + n → IfSome (store_bytes m at bytes) (HasData text n stack)
bytes_stored text base n stack m at [] begins has above fits = has
bytes_stored text base n stack m at (byte ∷ bytes) begins has above fits =
    let few = begins.few in
    let here : at % 65536 ≡ at = omega (arith, few, fits) in
    let next : Image = record m { «data» = set m.data (at - base) byte } in
    let stored : store_byte m (at % 65536) byte ≡ Ok next =
    ap (λ v. store_byte m v byte) here ∙ store_data text base n stack m at byte begins has above (omega (arith, fits)) in
    subst (λ r. IfSome (then_store r (λ new. store_bytes new (at + 1) bytes)) (HasData text n stack)) (sym stored)
    (bytes_stored text base n stack next (at + 1) bytes begins (data_stored text n stack m (at - base) byte has) (omega (arith, above)) (omega (arith, fits)))

-- the bytes of all pieces
abbrev total : List (ℕ × ℕ) → ℕ
total [] = 0
total (piece ∷ rest) = piece.1 - piece.0 + total rest

total_of : (k at end : ℕ) → end - at ≤ k → total (pieces at end) ≡ end - at
total_of zero at end none =
    ap total (no_pieces at end (omega (arith, none))) ∙ (let zero_ : 0 ≡ end - at = omega (arith, none) in zero_)
total_of (suc k) at end more = elim (cases_lt at end) [
  | inl low ↦
      (let after : total (pieces (piece_end at end) end) ≡ end - piece_end at end =
      total_of k (piece_end at end) end (omega (arith, low, more)) in
      ap total (pieces_step at end low) ∙ (ap (λ t. piece_end at end - at + t) after
      ∙ (let sum : piece_end at end - at + (end - piece_end at end) ≡ end - at = omega (arith, low) in sum)))
  | inr high ↦
      ap total (no_pieces at end (omega (arith, high))) ∙ (let zero_ : 0 ≡ end - at = omega (arith, high) in zero_)
]

-- A read of no more bytes than there are data.
module _ (text : List ℕ) (base n : ℕ) (stack : List ℕ) (at_base : Begins text base n) where
  going : (o : Option Image) (next : Image → Moving Image) (end : Moving Image) → IfSome o (HasData text n stack)
      → HasData text n stack end.memory → ((m : Image) → HasData text n stack m → HasData text n stack (next m).memory)
      → HasData text n stack (going_on o next end).memory
  going (Some m) next end here stops goes = goes m here
  going None next end here stops goes = stops

  touched : (is_done : Bool) (end next : Moving Image) → HasData text n stack end.memory → HasData text n stack next.memory
      → HasData text n stack (cond (not is_done) end next).memory
  touched true end next stops goes = goes
  touched false end next stops goes = stops

  short : (body : List ℕ) (a b : ℕ) → length (slice_range body a b) ≤ b - a
  short body a b = let is = length-take (b - a) (drop a body) in omega (arith, is)

  reads : (places : List (ℕ × ℕ)) (m : Moving Image) → HasData text n stack m.memory → m.done + total places ≤ n
      → HasData text n stack (reading (put_into base) places m).memory
  reads [] m has fits = has
  reads (piece ∷ rest) m has fits =
      let t : Touching = touching m.node m.room (piece.0 / 512) in
      touched _ _ _ has
      (going _ _ _
      (bytes_stored text base n stack m.memory (base + m.done) (slice_range t.node.body piece.0 piece.1) at_base has
      (omega arith) (let less = short t.node.body piece.0 piece.1 in omega (arith, less, fits)))
      has
      (λ memory there.
      reads rest
      (record {
        node = t.node;
        room = t.room;
        memory = memory;
        done = m.done + (piece.1 - piece.0);
        error = None;
      })
      there (omega (arith, fits))))

  begins : (b : Bool) (node : Node) (room : ℕ) (memory : Image) (places : List (ℕ × ℕ)) → HasData text n stack memory
      → total places ≤ n
      → HasData text n stack
      (cond b (beginning node room memory) (reading (put_into base) places (beginning node room memory))).memory
  begins true node room memory places has fits = has
  begins false node room memory places has fits = reads places (beginning node room memory) has (omega (arith, fits))

  file_read : (node : Node) (room : ℕ) (memory : Image) (at count time : ℕ) → HasData text n stack memory → count ≤ n
      → HasData text n stack (read_file (put_into base) node room memory at count time).memory
  file_read node room memory at count time has fits =
      let end : ℕ = min node.size (at + count) in
      let sum : total (pieces at end) ≡ end - at = total_of (end - at) at end (omega arith) in
      begins (is_device node.mode) (if count == 0 then node else record node { actime = time }) room memory
      (pieces at end) has (omega (arith, sum, fits))

neither : (a b : Bool) → (a || b) ≡ false → a ≡ false
neither false b e = refl
neither true b e = absurd (cc e)

pub few_segments : (t d stack most : ℕ) → is_refused t d stack most ≡ false → nseg t + nseg d + nseg stack ≤ 8
few_segments t d stack most e =
    ltb-false 8 (nseg t + nseg d + nseg stack)
    (neither (nat_lt 8 (nseg t + nseg d + nseg stack)) (nat_lt most (t + d + stack + 16)) e)

pub begins_at : (text : List ℕ) (t d : ℕ) → length text ≡ 64 * t → nseg t + nseg d + nseg 20 ≤ 8 → Begins text (8192 * nseg t) (64 * d)
begins_at text t d long few = record {
  base_is = ap data_base long ∙ (let whole : 64 * t / 64 ≡ t = omega arith in ap (λ n. 8192 * nseg n) whole);
  before = omega (arith, long);
  few = omega (arith, few);
}

pub stack_stays : (store : Stores) (text : List ℕ) (program : Program) (time : ℕ) → length text ≡ 64 * program.text_clicks
    → is_refused program.text_clicks (data_clicks program.plan) 20 2048 ≡ false
    → (data_in store text program time).memory.stack ≡ replicate 1280 0
stack_stays store text program time long fits =
    let t : ℕ = program.text_clicks in
    let d : ℕ = data_clicks program.plan in
    let nought : ℕ = 0 in
    let has : HasData text (64 * d) (replicate 1280 0) (cleared_image text program.plan) =
    record { text_is = refl; long = length-replicate (64 * d) nought; same = refl } in
    (file_read text (8192 * nseg t) (64 * d) (replicate 1280 0) (begins_at text t d long (few_segments t d 20 2048 fits))
    (node_in store program.ino) (room_at store program.ino) (cleared_image text program.plan) (16 + program.plan.text)
    program.plan.init time has (omega arith)).same

-- the node of a number that has one
some_or : (o : Option Node) → IsSome o → o ≡ Some (unwrap_or o no_node)
some_or None h = absurd (cc)
some_or (Some node) h = refl

pub node_there : (store : Stores) (i : ℕ) → IsSome (node_numbered store i)
    → node_numbered store i ≡ Some (node_in store i)
node_there store i h = some_or (node_numbered store i) h

-- The registers are written at the front of a u area, where it stands: the u area is then the one with these registers.
use Rattle.std.proofs.Common.{◌≡◌, ℕ, ◌+◌, ◌%◌, ◌<◌, inl, inr, List, [], ◌∷◌, ◌++◌, length, drop, slice_index, refl, sym, ap, ◌∙◌, arith, append_assoc, length-append}
use Rattle.std.proofs.Math.Seq.{drop-append_seam}
use Rattle.std.proofs.lemmas.Bool.{cases_lt}
use Rattle.std.proofs.lemmas.List.{take_all, get_or_past}
use Rattle.std.proofs.lemmas.List.Elements.{All-get_or}
use Rattle.v6_base.specs.Image.{Image, AreBytes}
use Rattle.core_mem.specs.Bytes.{part}
use Rattle.core_mem.proofs.Parts.{part-part, part-left}
use Rattle.fs_codec.specs.Bytes.{bytes_of}
use Rattle.fs_codec.specs.Words.{word, words}
use Rattle.fs_codec.proofs.BytesLemmas.{length-bytes_of, bytes_of_words, bytes_of_word, part_join, part_whole}
use Rattle.u_area.specs.declared.area.UArea.{UArea}
use Rattle.u_area.specs.Area.{laid, fields, status_word, area_bytes}
use Rattle.image_keep.specs.declared.starts.Starts.{Starts}
use Rattle.image_keep.specs.Kept.{Kept, Keeping, Nothing, Alive, Grave, keeping, image_of, described, with_area}
use Rattle.image_keep.specs.Starts.{data_start, AreStarts}
use Rattle.image_keep.specs.Running.{with_state, state_bytes}
use Rattle.image_keep.proofs.Frames.{keeping_same, alive_low, with_area_alive, with_area_image}

pub front_whole : (b : List ℕ) (n : ℕ) → length b ≡ n → part b 0 n ≡ b
unfolding part
front_whole b n long = take_all n b (omega (arith, long))

-- what stands in front of a u area's bytes, and what follows it
front_of_area : (u : UArea) → length u.r ≡ 8 → area_bytes u ≡ state_bytes u.r u.cc ++ laid 18 (drop 2 (fields u))
unfolding area_bytes laid state_bytes bytes_of
front_of_area u eight =
    let n = length-bytes_of u.r in
    let long : 0 + length (bytes_of u.r) ≡ 16 = omega (arith, n, eight) in
    ap (λ k. bytes_of u.r ++ laid k (drop 1 (fields u))) long
    ∙ sym (append_assoc (bytes_of u.r) (bytes_of (status_word u ∷ [])) (laid 18 (drop 2 (fields u))))

pub state_long : (r : List ℕ) (cc : ℕ) → length r ≡ 8 → length (state_bytes r cc) ≡ 18
unfolding state_bytes bytes_of
state_long r cc eight =
    let n = length-bytes_of r in
    let both : length (state_bytes r cc) ≡ length (bytes_of r) + 2 = length-append (bytes_of r) (bytes_of ((61440 + cc) ∷ [])) in
    omega (arith, n, both, eight)

pub byte_fits : (b : List ℕ) → AreBytes b → (k : ℕ) → slice_index b k < 256
byte_fits b are k = elim (cases_lt k (length b)) [
  | inl low ↦ All-get_or (λ x. x < 256) b k 0 low are
  | inr past ↦ let none : slice_index b k ≡ 0 = get_or_past b k 0 past in omega (arith, none)
]

-- the registers and codes of a u area stand where it stands, and are as many as stand there
pub state_there : (line : List ℕ) (at : ℕ) (u : UArea) → length u.r ≡ 8 → part line at 1024 ≡ area_bytes u → part line at 18 ≡ state_bytes u.r u.cc
state_there line at u eight there =
    let rest : List ℕ = laid 18 (drop 2 (fields u)) in
    let long : length (state_bytes u.r u.cc) ≡ 18 = state_long u.r u.cc eight in
    let e : at + 0 ≡ at = omega arith in
    ap (λ i. part line i 18) (sym e)
    ∙ sym (part-part line at 1024 0 18 (omega arith))
    ∙ ap (λ b. part b 0 18) (there ∙ front_of_area u eight)
    ∙ part-left (state_bytes u.r u.cc) rest 0 18 (omega (arith, long))
    ∙ front_whole (state_bytes u.r u.cc) 18 long

pub state_spelled : (b r : List ℕ) (cc : ℕ) → length b ≡ 18 → AreBytes b → words b 0 8 ≡ r → word b 16 ≡ 61440 + cc → b ≡ state_bytes r cc
unfolding state_bytes
state_spelled b r cc long are registers status =
    let fits = byte_fits b are in
    let first = sym (bytes_of_words b 0 8 (omega (arith, long)) fits) ∙ ap bytes_of registers in
    let second = sym (bytes_of_word b 16 (61440 + cc) (omega (arith, long)) fits (sym status)) in
    sym (part_whole b 18 long) ∙ sym (part_join 0 16 2 b) ∙ (λ i. first i ++ second i)

-- with other registers the rest is the same
pub area_stated : (a : UArea) (r : List ℕ) (cc : ℕ) → length a.r ≡ 8 → length r ≡ 8 → cc < 16 → area_bytes (with_state a r cc) ≡ state_bytes r cc ++ drop 18 (area_bytes a)
area_stated a r cc was eight codes =
    let same : cc % 16 ≡ cc = omega (arith, codes) in
    let rest : drop 18 (area_bytes a) ≡ laid 18 (drop 2 (fields a)) =
    ap (drop 18) (front_of_area a was)
    ∙ ap (λ n. drop n (state_bytes a.r a.cc ++ laid 18 (drop 2 (fields a)))) (sym (state_long a.r a.cc was))
    ∙ drop-append_seam (state_bytes a.r a.cc) (laid 18 (drop 2 (fields a))) in
    front_of_area (with_state a r cc) eight
    ∙ ap (λ c. state_bytes r c ++ laid 18 (drop 2 (fields a))) same
    ∙ ap (λ l. state_bytes r cc ++ l) (sym rest)

-- what is fixed stays so
described_start : (core : ℕ) (x : Keeping) (u : UArea) → data_start core (described u x) ≡ data_start core x
described_start core Nothing u = refl
described_start core (Alive held) u = refl
described_start core (Grave v b) u = refl

pub starts_described : (k : Kept) (s : ℕ) (x : Starts) (u : UArea) → AreStarts k s x → AreStarts (with_area k s u) s x
unfolding with_area
starts_described k s x u a =
    let now : image_of (with_area k s u) s ≡ image_of k s = with_area_image k s s u in
    let low : s < length k.slots = alive_low k.slots s a.alive in
    let z = a.stack_start in
    let n : length (image_of (with_area k s u) s).stack ≡ length (image_of k s).stack = ap (λ (i : Image). length i.stack) now in
    record {
      alive = with_area_alive k s s u ∙ a.alive;
      text = a.text;
      image = a.image ∙ sym (described_start k.core (keeping k s) u) ∙ ap (data_start k.core) (sym (keeping_same k s (described u (keeping k s)) low));
      text_len = a.text_len ∙ sym (ap (λ (i : Image). length i.text) now);
      data_len = a.data_len ∙ sym (ap (λ (i : Image). length i.data) now);
      stack_start = omega (arith, z, n);
      core = a.core;
    }

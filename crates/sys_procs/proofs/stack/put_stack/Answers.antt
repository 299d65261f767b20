use Rattle.std.proofs.Common.{ℕ, ◌≡◌, ◌≤◌, ◌+◌, ◌-◌, ◌*◌, ◌∷◌, [], List, ◌++◌, length, refl, sym, ◌∙◌, ap, arith}
use Rattle.std.specs.List.{concat}
use Rattle.v6_base.specs.Image.{Image}
use Rattle.v6_base.specs.Sizes.{cut_front}
use Rattle.fs_codec.specs.Bytes.{bytes_of}
use Rattle.sys_procs.specs.inside.Packed.{split}
use Rattle.sys_procs.specs.Stack.{made_even, addresses, nc, na}
use Rattle.sys_procs.proofs.StackBytesLemmas.{size_named, all_put, put_more, even_ones, even_first, first_place}
use Rattle.sys_procs.proofs.stack.put_stack.Goals as goal

-- the strings are as long as those of the arguments
same_size : (bytes : List ℕ) (args : List (List ℕ)) → bytes ≡ concat args → length (made_even bytes) ≡ nc args
same_size bytes args whole = ap (λ (l : List ℕ). length (made_even l)) whole

ones_place : (n size : ℕ) → n ≡ size → n ≤ 510 → 65534 - n + size + 2 ≡ 65536
ones_place n size is few = omega arith

named_size : (bytes : List ℕ) (args : List (List ℕ)) → split bytes ≡ args → bytes ≡ concat args
    → length (bytes_of (addresses (65536 - length (made_even bytes)) (split bytes) ++ 65535 ∷ []) ++ made_even bytes) ≡ 2 * na args + 2 + nc args
named_size bytes args parts whole =
    size_named (65536 - length (made_even bytes)) (split bytes) (made_even bytes)
    ∙ ap (λ (l : List (List ℕ)). 2 * length l + 2 + length (made_even bytes)) parts
    ∙ ap (λ n. 2 * na args + 2 + n) (same_size bytes args whole)

pub put_word-requires : goal.put_word-requires
put_word-requires g c = record { even = even_ones c.strings_size.result c.args.args.now c.strings_size.ensures.size c.strings_size.ensures.few }

pub put_addresses-requires : goal.put_addresses-requires
put_addresses-requires g c =
    let bytes : List ℕ = c.bytes-bytes.result.now in
    let args : List (List ℕ) = c.args.args.now in
    let size : c.strings_size.result ≡ length (made_even bytes) = c.strings_size.ensures.size ∙ sym (same_size bytes args c.bytes-bytes.ensures.bytes) in
    let below = c.put_word.ensures.image (made_even bytes) (ap (λ (i : Image). i.stack) c.put_strings.ensures.image)
    (ones_place c.strings_size.result (length (made_even bytes)) size c.strings_size.ensures.few) in record {
      few = c.bytes-bytes.ensures.few;
      whole = ap concat c.bytes-bytes.ensures.split ∙ sym c.bytes-bytes.ensures.bytes;
      stack = ap (λ (i : Image). i.stack) below;
    }

pub put_word-requires-2 : goal.put_word-requires-2
put_word-requires-2 g c = record {
  even = even_first c.first_sp.result c.count.result c.args.args.now c.first_sp.ensures c.count.ensures.count c.count.ensures.few
      (let size = c.strings_size.ensures.size in let few = c.strings_size.ensures.few in omega (arith, size, few));
}

pub returns-clause-image : goal.returns-clause-image
returns-clause-image g c =
    let args : List (List ℕ) = c.args.args.now in
    let bytes : List ℕ = c.bytes-bytes.result.now in
    let parts : split bytes ≡ args = c.bytes-bytes.ensures.split in
    let whole : bytes ≡ concat args = c.bytes-bytes.ensures.bytes in
    let small : nc args ≤ 510 = let size = c.strings_size.ensures.size in let few = c.strings_size.ensures.few in omega (arith, size, few) in
    let below = c.put_word.ensures.image (made_even bytes) (ap (λ (i : Image). i.stack) c.put_strings.ensures.image)
    (ones_place c.strings_size.result (length (made_even bytes)) (c.strings_size.ensures.size ∙ sym (same_size bytes args whole)) c.strings_size.ensures.few) in
    let place = first_place c.first_sp.result c.count.result _ args c.first_sp.ensures c.count.ensures.count c.count.ensures.few small (named_size bytes args parts whole) in
    let top = c.put_word-2.ensures.image _ (ap (λ (i : Image). i.stack) c.put_addresses.ensures.image) place in
    let m : Image = g.S.Space.image c.args.space.now in
    let n : Image = g.S.Space.image c.put_strings.new.space in
    let o : Image = g.S.Space.image c.put_word.new.space in
    let p : Image = g.S.Space.image c.put_addresses.new.space in
    let q : Image = g.S.Space.image c.put_word-2.new.space in
    put_more m p q _ _ _ (put_more m o p _ _ _ (put_more m n o _ _ _ c.put_strings.ensures.image below refl) c.put_addresses.ensures.image refl) top
    (ap (λ k. cut_front 1280 (bytes_of (k ∷ []) ++ (bytes_of (addresses (65536 - length (made_even bytes)) (split bytes) ++ 65535 ∷ []) ++ made_even bytes))) c.count.ensures.count
    ∙ all_put args bytes parts whole)

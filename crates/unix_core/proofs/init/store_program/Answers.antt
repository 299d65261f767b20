use Rattle.std.proofs.Common.{ℕ, List, ◌≡◌, ◌<◌, ◌+◌, ◌*◌, ◌/◌, ◌%◌, ◌++◌, drop, length, get_or, refl, sym, ◌∙◌, ap, subst, arith}
use Rattle.std.proofs.lemmas.List.{length-append, length-drop}
use Rattle.v6_base.specs.Image.{Image}
use Rattle.fs_codec.specs.Bytes.{bytes_of}
use Rattle.abstract_unix.specs.Init.{init_words}
use Rattle.unix_core.proofs.MemoryLemmas.{IsWritten, written_none, written_word, written_front, byte_low, byte_high, store-data_word}
use Rattle.unix_core.proofs.init.store_program.Goals as goal

-- the data as they will be
abbrev target : List ℕ → List ℕ
target old = bytes_of init_words ++ drop 22 old

length-words : length (bytes_of init_words) ≡ 22
unfolding bytes_of
length-words = refl

length-target : (old : List ℕ) → length old ≡ 64 → length (target old) ≡ 64
length-target old long =
    let both = length-append (bytes_of init_words) (drop 22 old) in
    let front = length-words in
    let rest = length-drop 22 old in
    omega (arith, both, front, rest, long)

pub loop-i-init : goal.loop-i-init
loop-i-init g c =
    let old : List ℕ = (g.S.Space.image c.args.space.now).data in
    record { text = refl; stack = refl; rest = refl; written = written_none (target old) old }

pub loop-i-preserved : goal.loop-i-preserved
loop-i-preserved g c =
    let m : Image = (g.S.Space.image c.loop-i.space) in
    let i : ℕ = c.loop-i.i in
    let old : List ℕ = (g.S.Space.image c.args.space.now).data in
    let word : ℕ = get_or init_words i 0 in
    let within : i < 11 = c.loop-i-test.true in
    let size : length m.data ≡ 64 = c.loop-i.invariant.written.size ∙ c.requires.data in
    let all : length (target old) ≡ 64 = length-target old c.requires.data in
    let stored = c.store_word.ensures.image ∙ store-data_word m (2 * i) word (c.loop-i.invariant.text ∙ c.requires.text) (omega arith) (omega arith) in
    let next = written_word (2 * i) (word % 256) (word / 256) (target old) old m.data (omega arith) (let long = c.requires.data in omega arith)
    (byte_low init_words (drop 22 old) i within) (byte_high init_words (drop 22 old) i within) c.loop-i.invariant.written in
    let count : 2 * i + 1 + 1 ≡ 2 * (i + 1) = omega arith in record {
      text = ap (λ (n : Image). n.text) stored ∙ c.loop-i.invariant.text;
      stack = ap (λ (n : Image). n.stack) stored ∙ c.loop-i.invariant.stack;
      rest = c.store_word.ensures.rest ∙ c.loop-i.invariant.rest;
      written = subst (λ k. IsWritten k (target old) old (g.S.Space.image c.store_word.new.self).data) count
          (subst (IsWritten (2 * i + 1 + 1) (target old) old) (sym (ap (λ (n : Image). n.data) stored)) next);
    }

pub returns-clause-image : goal.returns-clause-image
returns-clause-image g c =
    let was : Image = g.S.Space.image c.args.space.now in
    let now : Image = g.S.Space.image c.loop-i.space in
    let done : c.loop-i.i ≡ 11 = omega arith in
    let written : IsWritten 22 (target was.data) was.data now.data = subst (λ k. IsWritten (2 * k) (target was.data) was.data now.data) done c.loop-i.invariant.written in
    let whole = written_front 22 (bytes_of init_words) was.data now.data length-words written in
    λ i. record { text = c.loop-i.invariant.text i; «data» = whole i; stack = c.loop-i.invariant.stack i }

pub returns-clause-rest : goal.returns-clause-rest
returns-clause-rest g c = c.loop-i.invariant.rest

use Rattle.std.proofs.Common.{◌≡◌, ◌+◌, ◌*◌, ◌∷◌, [], ◌≤◌, length, arith, rules}
use Rattle.fs_codec.specs.Bytes.{bytes_of}
use Rattle.fs_codec.proofs.BytesLemmas.{bytes_of-append, length-bytes_of}
use Rattle.make_image.proofs.PaddedLemmas.{appended, padded_resized}
use Rattle.make_image.proofs.free_list.push_full_list.Goals as goal

pub returns-clause-items : goal.returns-clause-items
returns-clause-items c =
    let numbers = c.args.numbers.now in
    let old = c.args.image.now in
    let all = c.push_words-2.new.bytes in
    let items = appended old.items c.push_words.new.bytes.items all.items (bytes_of (100 ∷ [])) (bytes_of numbers) (bytes_of (100 ∷ numbers)) c.in_ok-push_words.ensures.items c.in_ok-push_words-2.ensures.items (bytes_of-append (100 ∷ []) numbers) in
    let long : length (bytes_of (100 ∷ numbers)) ≡ 2 * length (100 ∷ numbers) = length-bytes_of (100 ∷ numbers) in
    let within : length (bytes_of (100 ∷ numbers)) ≤ 512 = omega arith in
    let resized = padded_resized old.items (bytes_of (100 ∷ numbers)) all.items (old.len + 512) all.len 512 items within (omega (arith, old.ok.0)) all.ok.0 in
    search rules

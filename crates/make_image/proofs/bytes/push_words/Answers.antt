use Rattle.std.proofs.Common.{sym, append-nil, arith}
use Rattle.fs_codec.specs.Bytes.{bytes_of}
use Rattle.fs_codec.proofs.BytesLemmas.{bytes_of_more}
use Rattle.make_image.proofs.PaddedLemmas.{appended}
use Rattle.make_image.proofs.bytes.push_words.Goals as goal

pub loop-word-init : goal.loop-word-init
unfolding bytes_of
loop-word-init c = record { items = sym (append-nil c.args.bytes.now.items); len = omega arith }

pub loop-word-preserved : goal.loop-word-preserved
loop-word-preserved c =
    let more = bytes_of_more c.args.words.now c.loop-word.word-index c.loop-word-test.true in
    record {
      items = appended _ _ _ _ _ _ c.loop-word.invariant.items c.in_ok-push_word.ensures.items more;
      len = omega (arith, c.in_ok-push_word.ensures.len);
    }

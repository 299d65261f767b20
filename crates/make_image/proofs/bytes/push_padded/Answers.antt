use Rattle.std.proofs.Common.{rules, ◌+◌, arith}
use Rattle.make_image.proofs.PaddedLemmas.{padded_resized}
use Rattle.make_image.proofs.bytes.push_padded.Goals as goal

pub returns-clause-items : goal.returns-clause-items
returns-clause-items c =
    let all = c.extend_from_slice.new.self in
    let resized = padded_resized c.args.bytes.now.items c.args.more.now all.items (c.args.bytes.now.len + c.args.size) all.len c.args.size c.in_ok-extend_from_slice.ensures.items c.requires.within (omega (arith, c.args.bytes.now.ok.0)) all.ok.0 in
    search rules

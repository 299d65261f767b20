use Rattle.std.proofs.Common.{rules, ◌≡◌, length}
use Rattle.sys_files.proofs.ModesLemmas.{mode_bytes_are}
use Rattle.sys_files.proofs.modes.bytes_of.Goals as goal

pub returns : goal.returns
returns c =
    let three : length c.args.modes ≡ 3 = search rules in
    mode_bytes_are c.args.modes c.put_words.new.b three c.put_words.auto.b c.see_bytes.ensures c.put_words.ensures.here

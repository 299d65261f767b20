use Rattle.std.proofs.Common.{◌-◌, length, drop, ap, ◌∙◌, le_of_eq, length-drop}
use Rattle.std.proofs.lemmas.List.{take_all}
use Rattle.v6_port.proofs.BufferLemmas.{gave_some}
use Rattle.v6_port.proofs.buffered_writer.BufferedWriter.give_out.Goals as goal

pub returns-in-Err-clause-bytes : goal.returns-in-Err-clause-bytes
returns-in-Err-clause-bytes g c =
    let given = c.args.self.now.given in
    let held = c.as_slice.result.now in
    let rest = take_all (length held - given) (drop given held) (le_of_eq (length-drop given held)) in
    gave_some _ _ _ _ given _ (rest ∙ ap (drop given) c.as_slice.ensures.value) c.write_out-count.ensures.bytes

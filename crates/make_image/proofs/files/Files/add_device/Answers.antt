use Rattle.std.proofs.Common.{refl}
use Rattle.make_image.specs.declared.files.Files.{Files}
use Rattle.make_image.proofs.FilesLemmas.{added_device, longer, on_ok_weaker2}
use Rattle.make_image.proofs.files.Files.add_device.Goals as goal

pub returns : goal.returns
returns c =
    let old = c.args.self.now in
    let new : Files = record { inodes = c.push_node.new.bytes; contents = old.contents } in
    on_ok_weaker2 c.push_node.result (λ e l. added_device c.args.numbers old new e (longer 32 _ _ _ _ old.inodes.ok.0 new.inodes.ok.0 l) refl) c.push_node.ensures.items c.push_node.ensures.len

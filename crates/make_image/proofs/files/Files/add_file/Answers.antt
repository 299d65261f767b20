use Rattle.std.proofs.Common.{◌≡◌, ◌+◌, ◌/◌, length, arith}
use Rattle.std.proofs.lemmas.Result.{on_ok_weaker}
use Rattle.make_image.specs.declared.files.Files.{Files}
use Rattle.make_image.proofs.FilesLemmas.{added_file, longer}
use Rattle.make_image.proofs.files.Files.add_file.Goals as goal

pub returns : goal.returns
returns c =
    let old = c.args.self.now in
    let new : Files = record { inodes = c.push_node.new.bytes; contents = c.push_padded.new.bytes } in
    let blocks : c.div_ceil-blocks.result ≡ (length c.args.bytes.now + 511) / 512 = omega arith in
    let one = longer 32 _ _ _ _ old.inodes.ok.0 new.inodes.ok.0 c.in_ok-push_node.ensures.len in
    on_ok_weaker c.push_padded.result (λ e. added_file c.args.mode c.args.nlink c.next_block.result c.div_ceil-blocks.result c.addresses.result c.args.bytes.now old new c.requires.small c.next_block.ensures blocks c.addresses.ensures c.in_ok-push_node.ensures.items one e) c.push_padded.ensures.items

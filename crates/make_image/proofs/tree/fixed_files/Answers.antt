use Rattle.std.proofs.Common.{◌∙◌}
use Rattle.make_image.specs.Files.{fixed_nodes}
use Rattle.make_image.proofs.FilesLemmas.{holds_none, holds_more, holds_file}
use Rattle.make_image.proofs.tree.fixed_files.Goals as goal

pub returns-clause-nodes : goal.returns-clause-nodes
unfolding fixed_nodes
returns-clause-nodes c =
    let none = holds_none _ c.new-files.ensures.inodes c.new-files.ensures.contents in
    let root = holds_file _ _ _ none (c.deref.ensures.value ∙ c.in_ok-root.ensures.items) c.in_ok-add_file.ensures in
    let etc = holds_file _ _ _ root (c.deref-2.ensures.value ∙ c.in_ok-etc.ensures.items) c.in_ok-add_file-2.ensures in
    let dev = holds_file _ _ _ etc (c.deref-3.ensures.value ∙ c.in_ok-dev.ensures.items) c.in_ok-add_file-3.ensures in
    let users = holds_file _ _ _ dev (c.deref-4.ensures.value ∙ c.in_ok-users.ensures.items) c.in_ok-add_file-4.ensures in
    let terminal = holds_more _ _ _ _ users c.in_ok-add_device.ensures in
    let memory = holds_more _ _ _ _ terminal c.in_ok-add_device-2.ensures in
    holds_file _ _ _ memory (c.deref-5.ensures.value ∙ c.in_ok-program.ensures.items) c.in_ok-add_file-5.ensures

use Rattle.std.proofs.Common.{◌≡◌, refl, rules, ap, ◌∙◌}
use Rattle.v6_base.specs.Image.{text_alone}
use Rattle.fs_tree.specs.Name.{name_at}
use Rattle.sys_files.specs.Core.{core_name}
use Rattle.sys_files.proofs.LoadedLemmas.{whole_name}
use Rattle.sys_files.proofs.core_file.core_name.Goals as goal

pub returns : goal.returns
returns c =
    let is : c.new.result.bytes ≡ core_name = search rules in
    ap (λ b. name_at (text_alone b) 0) is ∙ whole_name core_name refl

-- References that are taken and given back.
use Rattle.std.proofs.Common.{refl, ◌∙◌}
use Rattle.fs_nodes.specs.FileSystem.{FileSystem, SameFiles}

-- file systems of which none but the disk has changed
pub same_refl : (fs : FileSystem) → SameFiles fs fs
same_refl fs = record { store = refl; references = refl; blocks = refl }

pub same_then : (a b c : FileSystem) → SameFiles a b → SameFiles b c → SameFiles a c
same_then a b c p q = record { store = q.store ∙ p.store; references = q.references ∙ p.references; blocks = q.blocks ∙ p.blocks }

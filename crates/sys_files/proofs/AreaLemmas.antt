-- The numbers of a process are a part of its area.
use Rattle.std.proofs.Common.{◌≡◌, ◌<◌, ℕ, List, ap}
use Rattle.std.proofs.Math.Bridge.{le_prop}
use Rattle.u_area.specs.declared.area.UArea.{UArea}

pub numbers_changed : (u : UArea) (files : List ℕ) (codes : u.cc < 16) → ◌≡◌ {A = UArea} (record u { files = files; codes = codes }) (record u { files = files })
numbers_changed u files codes = ap (λ (p : u.cc < 16). record u { files = files; codes = p }) (le_prop codes u.codes)

-- What a call tests before it does anything, and the node that it asks about.
use Rattle.std.specs.Prelude.{Bool, if◌then◌else◌, Option, Some, None, Result, Ok, Err}
use Rattle.v6_base.specs.declared.errno.Errno.{Errno}
pub use Rattle.fs_nodes.specs.Keys.{no_node, node_in}

-- a truth that must hold, and else an error
abbrev pub must : Errno → Bool → Result (Unit {0}) Errno
must e holds = if holds then Ok tt else Err e

-- a value that must be there, and else an error
abbrev pub need : {A : Type 0} → Errno → Option A → Result A Errno
need e (Some a) = Ok a
need e None = Err e

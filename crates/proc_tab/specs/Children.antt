-- Parents and children: wait(II), and the end of a parent in exit(II).
use Rattle.std.specs.Prelude.{ℕ, ◌≡◌, ◌<◌, ◌==◌, ◌&&◌, Bool, true, List, map, if◌then◌else◌, Option, Some, None}
use Rattle.proc_tab.specs.declared.member.Member.{Member}
use Rattle.proc_tab.specs.declared.child.Child.{Child}
use Rattle.proc_tab.specs.declared.child.Child.TheVariants.{NoChild, Living, Dead}
use Rattle.proc_tab.specs.Processes.{Processes, member_at, passes, lowest, HasNone, IsLowest}

abbrev pub is_child_of : ℕ → Member → Bool
is_child_of pid m = m.row.ppid == pid

abbrev pub is_dead_child_of : ℕ → Member → Bool
is_dead_child_of pid m = is_child_of pid m && m.is_dead

-- by the lowest child and the lowest dead one
abbrev pub told_by : Option ℕ → Option ℕ → Child
told_by None dead = NoChild
told_by (Some s) None = Living
told_by (Some s) (Some t) = Dead t

abbrev pub child : List (Option Member) → ℕ → Child
child slots pid = told_by (lowest (passes (is_child_of pid)) slots) (lowest (passes (is_dead_child_of pid)) slots)

-- The same in words.
abbrev pub Tells : List (Option Member) → ℕ → Child → Type 0
Tells slots pid NoChild = HasNone (passes (is_child_of pid)) slots
Tells slots pid Living =
    ((s : ℕ) × (0 < s) × (s < 50) × (passes (is_child_of pid) (member_at slots s) ≡ true))
    × HasNone (passes (is_dead_child_of pid)) slots
Tells slots pid (Dead s) = IsLowest (passes (is_dead_child_of pid)) slots s

-- a child of one process becomes process 1's
abbrev pub adopted : ℕ → Option Member → Option Member
adopted from None = None
adopted from (Some m) = Some (if is_child_of from m then record m { row = record m.row { ppid = 1 } } else m)

abbrev pub orphans_adopted : Processes → ℕ → Processes
orphans_adopted v from = record v { slots = map (adopted from) v.slots }

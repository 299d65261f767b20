-- What a call does, and the words that the rows of calls are made of: section II of the manual, INTRO(II).
use Rattle.std.specs.Prelude.{ℕ, List, [], ◌∷◌, Result, Ok, Err, is_some, if◌then◌else◌}
use Rattle.v6_base.specs.Trace.{Item}
use Rattle.v6_base.specs.declared.answer.Answer.{Answer}
use Rattle.v6_base.specs.declared.answer.Answer.TheVariants.{Ret, Fail}
use Rattle.v6_base.specs.declared.errno.Errno.{Errno}
use Rattle.v6_base.specs.declared.errno.Errno.TheVariants.{EINTR}
use Rattle.sig_core.specs.Signals.{due}
use Rattle.fs_tree.specs.declared.made.Made.{Made}
use Rattle.fs_tree.specs.declared.made.Made.TheVariants as made
use Rattle.fs_tree.specs.Name.{name_at}
use Rattle.fs_tree.specs.Finding.{Finding, find_in, make_in}
pub use Rattle.fs_tree.specs.Tests.{must, need}
use Rattle.sys_files.specs.Handed.{Handed, r0, r1, user_of, with_inodes, let_go}

-- what is answered, what the parts are then, what is shown, and which nodes the call has named: those to which it refers for
-- itself
pub record Did : Type 0 where
  pub answer : Answer
  pub state : Handed
  pub items : List Item
  pub named : List ℕ

-- the same whatever it names
abbrev pub unnamed : Did → Did
unnamed did = record did { named = [] }

-- The call is refused, and leaves this.
abbrev pub fails : Handed → Errno → Did
fails h e = record { answer = Fail e; state = h; items = []; named = [] }

-- The call is done, and R0 takes a word.
abbrev pub returns : Handed → ℕ → Did
returns h value = record { answer = Ret value (r1 h); state = h; items = []; named = [] }

-- The call is done, and the registers stay.
abbrev pub is_done : Handed → Did
is_done h = returns h (r0 h)

-- A test: the call goes on with what it gives, or is refused with its error.
abbrev pub check : {A : Type 0} → Handed → Result A Errno → (A → Did) → Did
check h (Ok a) next = next a
check h (Err e) next = fails h e

-- A sleep that signals break: where one is due the call is refused in its place.
abbrev pub unless_due : Handed → Did → Did
unless_due h sleep = if is_some (due h.row h.u) then fails h EINTR else sleep

-- A reference that the call has taken goes at its end.
abbrev pub until_end : ℕ → Did → Did
until_end ino did = record did { state = let_go did.state ino; named = ino ∷ did.named }

-- A node that the call has to do with is one that it names.
abbrev pub names : ℕ → Did → Did
names ino did = record did { named = ino ∷ did.named }

-- What a search of names comes to: the call goes on with it and with the references that it has taken, or is refused.
abbrev pub then_named : {A : Type 0} → Handed → Finding A → (Handed → A → Did) → Did
then_named h found next = check (with_inodes h found.inodes) found.answer (next (with_inodes h found.inodes))

-- The inode of the name at an address is found, and referred to until the call ends.
abbrev pub finds : Handed → ℕ → (Handed → ℕ → Did) → Did
finds h name next =
    then_named h (find_in h.inodes h.mounts (user_of h.u) h.u.dir (name_at h.image name)) (λ now ino.
    until_end ino (next now ino))

-- The same for a name that may be new: its inode is found, or the room for its entry in a directory.
abbrev pub by_made : (Handed → ℕ → Did) → (Handed → ℕ → ℕ → List ℕ → Did) → Handed → Made → Did
by_made old new h (made.Found ino) = until_end ino (old h ino)
by_made old new h (made.Room dir offset name) = until_end dir (new h dir offset name)

abbrev pub makes : Handed → ℕ → (Handed → ℕ → Did) → (Handed → ℕ → ℕ → List ℕ → Did) → Did
makes h name old new =
    then_named h (make_in h.inodes h.mounts h.marks (user_of h.u) h.u.dir (name_at h.image name)) (by_made old new)

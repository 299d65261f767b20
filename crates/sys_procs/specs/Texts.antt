-- What processes do to the texts that they share: `xalloc` and `xfree` in Lions' Commentary, `text.c`.
use Rattle.std.specs.Prelude.{ℕ, ◌+◌, ◌-◌, ◌*◌, ◌==◌, ◌&&◌, nat_le, Bool, true, false, not, if◌then◌else◌, bit_and, List, replicate, position, slice_index_or, slice_set, Option, Some, None, is_none}
use Rattle.std.specs.Option.{unwrap_or, option_map}
use Rattle.v6_base.specs.declared.entry.Entry.TheVariants.{Leave, Share}
use Rattle.fs_codec.specs.declared.modes.TheConstants.{ISVTX}
use Rattle.fs_tree.specs.Finding.{with_reference}
use Rattle.pick_rules.specs.Effects as effect
use Rattle.sys_procs.specs.TextTable.{Text, text_of, with_text, entry_of}
use Rattle.sys_procs.specs.Process.{Process}
use Rattle.sys_procs.specs.World.{World, change, let_go}
use Rattle.sys_procs.specs.Comes.{Comes, does, logs}
use Rattle.sys_procs.specs.Tests.{node_at}

-- the lowest free entry; who makes a text where there is none has panicked
abbrev pub free_entry : List (Option Text) → ℕ
free_entry texts = unwrap_or (position is_none texts) 40

-- A new text has one user. It is zeros until it is read.
abbrev pub new_text : ℕ → ℕ → Text
new_text ino clicks = record { ino = ino; bytes = replicate (64 * clicks) 0; users = 1 }

-- with one user more
abbrev pub joined : Text → Text
joined text = record text { users = text.users + 1 }

abbrev pub with_user : List (Option Text) → ℕ → List (Option Text)
with_user texts k = slice_set texts k (option_map joined (slice_index_or texts k None))

-- A child shares its parent's text, where that has one.
abbrev pub joined_by_child : List (Option Text) → Option ℕ → List (Option Text)
joined_by_child texts None = texts
joined_by_child texts (Some k) = with_user texts k

-- A text goes with its last user, unless its file is sticky.
abbrev pub goes : Text → Bool → Bool
goes text is_sticky = nat_le text.users 1 && not is_sticky

-- what its entry has when a user has left it
abbrev pub remaining : Bool → Option Text → Option Text
remaining is_sticky None = None
remaining is_sticky (Some text) = if goes text is_sticky then None else Some (record text { users = text.users - 1 })

-- A process leaves its text, which may go with it; then its inode is referred to once less.
abbrev pub without_text : Process → Process
without_text p = record p { u = record p.u { text_size = 0 }; text = None }

abbrev pub leaves_text : World → ℕ → ℕ → Bool → World
leaves_text w s k is_sticky =
    let text : Text = text_of w.texts k in
    let left : World = change (record w { texts = slice_set w.texts k (remaining is_sticky (slice_index_or w.texts k None)) }) s without_text in
    if goes text is_sticky then let_go left text.ino else left

abbrev pub is_sticky : World → ℕ → Bool
is_sticky w k = not (bit_and (node_at w (text_of w.texts k).ino).mode ISVTX == 0)

-- `xfree`
abbrev pub xfree : World → ℕ → Option ℕ → (World → Comes) → Comes
xfree w s None next = next w
xfree w s (Some k) next = logs (Leave s k (is_sticky w k)) (next (leaves_text w s k (is_sticky w k)))

-- It shares a text that is there, or makes one, which refers to the inode.
abbrev pub with_entry : ℕ → Process → Process
with_entry k p = record p { text = Some k }

abbrev pub shares_text : World → ℕ → ℕ → World
shares_text w s k = change (record w { texts = with_user w.texts k }) s (with_entry k)

abbrev pub makes_text : World → ℕ → ℕ → ℕ → World
makes_text w s ino size =
    let k = free_entry w.texts in
    change (record w { texts = with_text w.texts k (new_text ino size); inodes = with_reference w.inodes ino }) s (with_entry k)

-- `xalloc`, for a text of so many clicks: the rest is told whether the text is to be read
abbrev pub xalloc_by : World → ℕ → ℕ → ℕ → Option ℕ → (World → Bool → Comes) → Comes
xalloc_by w s ino size (Some k) next = logs (Share s k) (next (shares_text w s k) false)
xalloc_by w s ino size None next = does (effect.Text s size w) (next (makes_text w s ino size) true)

abbrev pub xalloc : World → ℕ → ℕ → ℕ → (World → Bool → Comes) → Comes
xalloc w s ino size next = if size == 0 then next w false else xalloc_by w s ino size (entry_of w.texts ino) next

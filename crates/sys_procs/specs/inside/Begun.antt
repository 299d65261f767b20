-- How a program begins: the parts of exec(II), each with what it comes to. Lions' Commentary, `exec` in `sys1.c`, `xalloc` and
-- `xfree` in `text.c`.
use Rattle.std.specs.Prelude.{ℕ, ◌+◌, ◌==◌, ◌&&◌, not, if◌then◌else◌, bit_and, List, Option, Some, None, Result, Ok, Err}
use Rattle.v6_base.specs.Image.{Image}
use Rattle.v6_base.specs.declared.entry.Entry.TheVariants.{Bare}
use Rattle.v6_base.specs.declared.entry.PanicKind.{PanicKind}
use Rattle.fs_codec.specs.Store.{Node}
use Rattle.fs_codec.specs.declared.modes.TheConstants.{ISUID, ISGID}
use Rattle.fs_laws.specs.Pieces.{Moving}
use Rattle.image_keep.specs.Area.{made_area}
use Rattle.image_keep.specs.Places.{cleared}
use Rattle.u_area.specs.declared.area.UArea.{UArea}
use Rattle.proc_tab.specs.declared.row.Row.{Row}
use Rattle.pick_rules.specs.Apply.{applied}
use Rattle.pick_rules.specs.Board.{Board}
use Rattle.pick_rules.specs.Effects as effect
use Rattle.pick_rules.specs.Logged.{Stop}
use Rattle.sys_procs.specs.declared.program.Program.{Program}
use Rattle.sys_procs.specs.Process.{Process}
use Rattle.sys_procs.specs.TextTable.{Text, entry_of}
use Rattle.sys_procs.specs.Texts.{free_entry, xfree, xalloc}
use Rattle.sys_procs.specs.World.{World, process_of, change, let_go}
use Rattle.sys_procs.specs.Comes.{Comes, does, gives_two}
use Rattle.sys_procs.specs.Stack.{first_stack}
use Rattle.sys_procs.specs.ExecFile.{with_moved, data_read, begun_area}

-- no effect, and an answer that nobody asks for
abbrev pub nothing : World → Comes
nothing w = gives_two w 0 0

-- the log's board when the old image has been given back
abbrev pub bare_board : Board → ℕ → Board
bare_board b s = applied b (Bare s)

-- A process leaves its text, if it has one.
abbrev pub leaves : World → ℕ → Comes
leaves w s = xfree w s (process_of w s).text nothing

-- A process that has none takes one of so many clicks for the file of an inode, if it is to have one.
abbrev pub takes : World → ℕ → ℕ → ℕ → Comes
takes w s ino size = xalloc w s ino size (λ placed is_new. nothing placed)

-- the entry that is made then, of which the bytes are to be read
abbrev pub new_if : List (Option Text) → Option ℕ → Option ℕ
new_if texts None = Some (free_entry texts)
new_if texts (Some k) = None

abbrev pub new_entry : List (Option Text) → ℕ → ℕ → Option ℕ
new_entry texts ino size = if size == 0 then None else new_if texts (entry_of texts ino)

-- what is answered then, unless a demand stops
abbrev pub taken_by : Option (Stop World) → Option ℕ → Result (Option ℕ) PanicKind
taken_by None new = Ok new
taken_by (Some stop) new = Err stop.why

-- A process has an image that is cleared, beside a text of so many clicks, and its u area.
abbrev pub sized : ℕ → ℕ → Process → Process
sized t d p = record p { u = made_area t d 20; «data» = (cleared d 20).data; stack = (cleared d 20).stack }

abbrev pub takes_image : World → ℕ → ℕ → ℕ → Comes
takes_image w s t d = does (effect.Image s (16 + d + 20) w) (nothing (change w s (sized t d)))

-- Its data are read, and its arguments stand at the end of its stack.
abbrev pub filled : Program → Image → Process → Process
filled program image p = record p { «data» = image.data; stack = first_stack program.arguments }

abbrev pub fills : World → ℕ → Program → World
fills w s program =
    let m : Moving Image = data_read w s program in change (with_moved w program.ino m) s (filled program m.memory)

-- It begins in this row and in this u area, and the call's reference to the file goes.
abbrev pub begins_in : World → ℕ → ℕ → Row → UArea → World
begins_in w s ino row u = let_go (change w s (λ p. record p { row = row; u = u })) ino

-- A file with the bit of set-uid gives its user to a process, unless the super-user executes it; one with that of
-- set-gid gives its group.
abbrev pub user_in : Node → ℕ → ℕ → ℕ
user_in node uid own = if not (bit_and node.mode ISUID == 0) && not (uid == 0) then node.uid else own

abbrev pub group_in : Node → ℕ → ℕ
group_in node own = if not (bit_and node.mode ISGID == 0) then node.gid else own

abbrev pub row_in : Node → ℕ → Row → Row
row_in node uid row = record row { uid = user_in node uid row.uid }

abbrev pub area_in : Node → UArea → Program → UArea
area_in node u program =
    record (begun_area u program) { uid = user_in node u.uid u.uid; gid = group_in node u.gid }

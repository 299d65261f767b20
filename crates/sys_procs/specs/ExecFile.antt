-- exec(II) of the UNIX Programmer's Manual; Lions' Commentary, `exec` in `sys1.c`.
use Rattle.std.specs.Prelude.{ℕ, ◌+◌, ◌*◌, ◌/◌, ◌%◌, ◌==◌, ◌&&◌, min, nat_lt, Bool, true, false, not, if◌then◌else◌, List, [], ◌∷◌, length, map, replicate, slice_index, Option, is_none, Result, Ok, Err, bit_and}
use Rattle.std.specs.Option.{unwrap_or, option_map}
use Rattle.v6_base.specs.Image.{Image, nseg}
use Rattle.v6_base.specs.declared.entry.Entry.TheVariants.{Bare}
use Rattle.v6_base.specs.declared.errno.Errno.{Errno}
use Rattle.v6_base.specs.declared.errno.Errno.TheVariants.{ENOEXEC, ENOMEM, EACCES, ETXTBSY}
use Rattle.buf_cache.specs.Blocks.{patched}
use Rattle.fs_codec.specs.Modes.{file_type}
use Rattle.fs_codec.specs.Store.{Node}
use Rattle.fs_codec.specs.declared.modes.TheConstants.{ISUID, ISGID}
use Rattle.fs_laws.specs.Pieces.{Moving, read_file}
use Rattle.fs_nodes.specs.Keys.{Stores, room_at, with_node}
use Rattle.fs_nodes.specs.Copy.{put_into, put_kernel}
use Rattle.fs_tree.specs.declared.user.Want.TheVariants.{Execute}
use Rattle.fs_tree.specs.Permission.{permission}
use Rattle.fs_tree.specs.Name.{name_at}
pub use Rattle.fs_tree.specs.Entries.{answer_to}
use Rattle.fs_tree.specs.Finding.{Finding, find_in}
use Rattle.mount_tab.specs.Mounted.{MountTable}
use Rattle.aout_head.specs.Header.{Header, header_of, plan_of}
use Rattle.aout_head.specs.declared.parts.Plan.{Plan}
use Rattle.aout_head.specs.declared.parts.ExecFault.{ExecFault}
use Rattle.aout_head.specs.declared.parts.ExecFault.TheVariants.{NotExecutable, Separate}
use Rattle.seg_regs.specs.Sizes.{is_refused}
use Rattle.u_area.specs.declared.area.UArea.{UArea}
use Rattle.image_keep.specs.Area.{no_area}
use Rattle.image_keep.specs.Running.{with_state}
use Rattle.pick_rules.specs.Effects as effect
use Rattle.sys_procs.specs.declared.program.Program.{Program}
use Rattle.sys_procs.specs.Process.{Process, image_of}
use Rattle.sys_procs.specs.TextTable.{Text, text_of, with_text, text_bytes, entry_of}
use Rattle.sys_procs.specs.Texts.{xfree, xalloc}
use Rattle.sys_procs.specs.World.{World, process_of, change, with_inodes, let_go}
use Rattle.sys_procs.specs.Comes.{Comes, returns, fails, does, logs}
use Rattle.sys_procs.specs.Tests.{must, user_of, node_in, node_at}
use Rattle.sys_procs.specs.Stack.{arguments, first_sp, first_stack, stack_clicks}

-- The tests.

-- The clicks of so many bytes, and those of a program's data with the bss. No sum wraps.
abbrev pub clicks : ℕ → ℕ
clicks bytes = (bytes + 63) / 64

abbrev pub data_clicks : Plan → ℕ
data_clicks plan = clicks (plan.init + plan.bss)

-- what the tests come to, and the world then
pub record Tested : Type 0 where
  pub answer : Result Program Errno
  pub world : World

-- A test: the next follows where it gives something, and else the call is refused and leaves this world.
abbrev pub check : {A : Type 0} → World → Result A Errno → (A → Tested) → Tested
check w (Ok a) next = next a
check w (Err e) next = record { answer = Err e; world = w }

-- the world when a read of a file has come to this
abbrev pub with_moved : {Memory : Type 0} → World → ℕ → Moving Memory → World
with_moved w ino m = with_inodes w (record w.inodes { store = with_node w.inodes.store ino m.node m.room })

-- sixteen bytes of a file go into the kernel: that sets the time of access, and may touch a hole
abbrev pub header_read : World → ℕ → Moving (List ℕ)
header_read w ino = read_file put_kernel (node_at w ino) (room_at w.inodes.store ino) (replicate 16 0) 0 16 w.clock.time

abbrev pub is_magic : Result Plan ExecFault → Bool
is_magic (Ok plan) = true
is_magic (Err Separate) = true
is_magic (Err NotExecutable) = false

-- Text and data with address spaces of their own are refused as sizes are.
abbrev pub or_no_memory : Result Plan ExecFault → Result Plan Errno
or_no_memory (Ok plan) = Ok plan
or_no_memory (Err fault) = Err ENOMEM

-- A text that would be shared is busy while others than this call refer to its file, and it is in no entry.
abbrev pub is_busy_in : List (Option Text) → ℕ → ℕ → Header → Bool
is_busy_in texts references ino h =
    not (h.magic == 0o407) && not (h.text_size == 0) && nat_lt 1 references && is_none (entry_of texts ino)

abbrev pub is_busy : World → ℕ → Header → Bool
is_busy w ino h = is_busy_in w.texts (slice_index w.inodes.references ino) ino h

-- the clicks of the text that a file has in an entry, if any
abbrev pub entry_clicks : List (Option Text) → ℕ → Option ℕ
entry_clicks texts ino = option_map (λ k. length (text_of texts k).bytes / 64) (entry_of texts ino)

-- The clicks of the text of a program: those of the text in its file's entry, if it has one. They are what the header says, since
-- nobody writes the file of a text that is shared.
abbrev pub text_clicks_by : Option ℕ → Plan → ℕ
text_clicks_by there plan = if plan.text == 0 then 0 else unwrap_or there (clicks plan.text)

abbrev pub text_clicks_in : List (Option Text) → ℕ → Plan → ℕ
text_clicks_in texts ino plan = text_clicks_by (entry_clicks texts ino) plan

-- the header, when it has been read
abbrev pub tests_header : World → ℕ → List (List ℕ) → Moving (List ℕ) → Tested
tests_header w ino args head =
    let h : Header = header_of head.memory in
    let out : World = let_go w ino in
    check out (answer_to head.error) (λ read.
    check out (must ENOEXEC ((head.done == 16) && is_magic (plan_of h))) (λ program.
    check out (must ETXTBSY (not (is_busy w ino h))) (λ free.
    check out (or_no_memory (plan_of h)) (λ plan.
    let text : ℕ = text_clicks_in w.texts ino plan in
    check out (must ENOMEM (not (is_refused text (data_clicks plan) stack_clicks w.limit))) (λ fits.
    record { answer = Ok (record { ino = ino; plan = plan; text_clicks = text; arguments = args }); world = w })))))

-- the file, and then the arguments
abbrev pub tests_file : World → ℕ → ℕ → ℕ → Tested
tests_file w s ino list =
    let p : Process = process_of w s in
    let node : Node = node_at w ino in
    let out : World = let_go w ino in
    check out (permission node (user_of p) Execute) (λ may.
    check out (must EACCES (file_type node.mode == 0)) (λ plain.
    check out (arguments (image_of w.texts p) list) (λ args.
    let head : Moving (List ℕ) = header_read w ino in tests_header (with_moved w ino head) ino args head)))

-- All tests of a name and of a list of arguments, in order. Nothing changes but what the reading of the header sets and
-- touches.
abbrev pub tests : MountTable → World → ℕ → ℕ → ℕ → Tested
tests mounts w s name list =
    let p : Process = process_of w s in
    let found : Finding ℕ = find_in w.inodes mounts (user_of p) p.u.dir (name_at (image_of w.texts p) name) in
    check (with_inodes w found.inodes) found.answer (λ ino. tests_file (with_inodes w found.inodes) s ino list)

-- the clicks of its image
abbrev pub image_clicks : Plan → ℕ
image_clicks plan = 16 + data_clicks plan + stack_clicks

-- The old program goes, and the new one comes.

-- Text and data stand after the header, in this order. Each is read by one read, which its first error ends: the rest of
-- it stays zeros. No more is read than the clicks of the text have room for.
abbrev pub text_room : Program → ℕ
text_room program = min program.plan.text (64 * program.text_clicks)

abbrev pub text_in : Stores → Program → ℕ → Moving (List ℕ)
text_in store program time =
    read_file put_kernel (node_in store program.ino) (room_at store program.ino)
    (replicate (text_room program) 0) 16 (text_room program) time

abbrev pub text_read : World → Program → Moving (List ℕ)
text_read w program = text_in w.inodes.store program w.clock.time

-- the entry of the text that a process has, or 40 where it has none
abbrev pub entry_in : World → ℕ → ℕ
entry_in w s = unwrap_or (process_of w s).text 40

abbrev pub with_text_read : World → ℕ → Program → World
with_text_read w s program =
    let m : Moving (List ℕ) = text_read w program in
    let k = entry_in w s in
    record (with_moved w program.ino m) {
      texts = with_text w.texts k (record (text_of w.texts k) { bytes = patched 0 m.memory (text_of w.texts k).bytes });
    }

abbrev pub reads_text : Bool → World → ℕ → Program → World
reads_text is_new w s program = if is_new then with_text_read w s program else w

-- an image with a text, whose data and stack are cleared
abbrev pub cleared_image : List ℕ → Plan → Image
cleared_image text plan = record {
  text = text;
  «data» = replicate (64 * data_clicks plan) 0;
  stack = replicate (64 * stack_clicks) 0;
}

abbrev pub data_in : Stores → List ℕ → Program → ℕ → Moving Image
data_in store text program time =
    read_file (put_into (8192 * nseg program.text_clicks)) (node_in store program.ino) (room_at store program.ino)
    (cleared_image text program.plan) (16 + program.plan.text) program.plan.init time

abbrev pub data_read : World → ℕ → Program → Moving Image
data_read w s program = data_in w.inodes.store (text_bytes w.texts (process_of w s).text) program w.clock.time

-- A process whose old image is given back, with its u area, has neither until the new one stands.
abbrev pub bared : Process → Process
bared p = record p { u = no_area; «data» = []; stack = [] }

-- A handler is an even address, and goes with the program that had it; what is ignored stays so.
abbrev pub kept_handler : ℕ → ℕ
kept_handler handler = if handler % 2 == 0 then 0 else handler

-- All registers are 0 but SP, and so are the condition codes.
abbrev pub begun_area : UArea → Program → UArea
begun_area u program =
    record (with_state u (0 ∷ 0 ∷ 0 ∷ 0 ∷ 0 ∷ 0 ∷ first_sp program.arguments ∷ 0 ∷ []) 0) {
      text_size = program.text_clicks;
      data_size = data_clicks program.plan;
      stack_size = stack_clicks;
      handlers = map kept_handler u.handlers;
    }

-- A file with the bit of set-uid is executed as its owner, unless the super-user executes it; one with that of set-gid in
-- its group.
abbrev pub as_owner : Node → Process → Process
as_owner node p =
    if not (bit_and node.mode ISUID == 0) && not (p.u.uid == 0)
    then record p { u = record p.u { uid = node.uid }; row = record p.row { uid = node.uid } } else p

abbrev pub in_its_group : Node → Process → Process
in_its_group node p =
    if not (bit_and node.mode ISGID == 0) then record p { u = record p.u { gid = node.gid } } else p

-- the process as the program begins, with the text that it has by now and the u area that it had
abbrev pub begins : UArea → Process → Node → Program → List ℕ → Process
begins u p node program read = in_its_group node (as_owner node (record p {
  u = begun_area u program;
  «data» = read;
  stack = first_stack program.arguments;
}))

-- The new image is in its place: text and data are read, and the call ends.
abbrev pub executes : World → ℕ → UArea → Program → Comes
executes w s u program =
    let m : Moving Image = data_read w s program in
    let read : World = with_moved w program.ino m in
    let begun : World = change read s (λ p. begins u p (node_at w program.ino) program m.memory.data) in
    returns (let_go begun program.ino) s

-- A process without an image, which had this u area, takes the text of a program and an image, and executes it.
abbrev pub begins_anew : World → ℕ → UArea → Program → Comes
begins_anew w s u program =
    xalloc w s program.ino program.text_clicks (λ placed is_new.
    does (effect.Image s (image_clicks program.plan) placed) (
    executes (reads_text is_new placed s program) s u program))

-- The call is done in this order; what comes before each effect is the world that it carries. That the old image is given
-- back shows in the log.
abbrev pub loads : World → ℕ → Program → Comes
loads w s program =
    xfree w s (process_of w s).text (λ left.
    logs (Bare s) (begins_anew (change left s bared) s (process_of left s).u program))

abbrev pub done_by : World → ℕ → Result Program Errno → Comes
done_by w s (Ok program) = loads w s program
done_by w s (Err e) = fails w e

-- 11, exec: a name, which the mount table tells where to cross, and a list of arguments
unfoldable pub exec_file : MountTable → World → ℕ → ℕ → ℕ → Comes
exec_file mounts w s name list = let t : Tested = tests mounts w s name list in done_by t.world s t.answer

-- What exec(II) comes to, part by part.
use Rattle.std.proofs.Common.{◌≡◌, ◌∙◌, ℕ, ◌==◌, ◌&&◌, ◌<◌, Bool, true, false, not, cond, if◌then◌else◌, List, length, bit_and, Option, Some, None, is_some, Result, Ok, Err, refl, sym, ap, arith}
use Rattle.std.specs.Option.{unwrap_or}
use Rattle.std.proofs.lemmas.List.{set-set}
use Rattle.v6_base.specs.Image.{Image}
use Rattle.v6_base.specs.declared.answer.Answer.TheVariants.{Ret}
use Rattle.v6_base.specs.declared.errno.Errno.{Errno}
use Rattle.buf_cache.specs.Blocks.{patched}
use Rattle.fs_codec.specs.Store.{Node}
use Rattle.fs_codec.specs.declared.modes.TheConstants.{ISUID, ISGID}
use Rattle.fs_laws.specs.Pieces.{Moving}
use Rattle.u_area.specs.declared.area.UArea.{UArea}
use Rattle.proc_tab.specs.declared.row.Row.{Row}
use Rattle.pick_rules.specs.Effects as effect
use Rattle.mount_tab.specs.Mounted.{MountTable}
use Rattle.sys_procs.specs.declared.program.Program.{Program}
use Rattle.sys_procs.specs.Process.{Process, register}
use Rattle.sys_procs.specs.TextTable.{text_of, with_text, text_bytes, entry_of}
use Rattle.sys_procs.specs.Texts.{xalloc, xalloc_by}
use Rattle.sys_procs.specs.World.{World, process_of, with_process, change}
use Rattle.sys_procs.specs.Tests.{node_at}
use Rattle.sys_procs.specs.Comes.{Comes, does, fails}
use Rattle.sys_procs.specs.inside.Begun.{nothing, takes, takes_image, new_if, new_entry, sized, filled, fills, row_in, area_in}
use Rattle.sys_procs.specs.Stack.{first_stack}
use Rattle.sys_procs.specs.ExecFile.{Tested, tests, done_by, loads, exec_file, data_clicks, image_clicks, data_in, data_read, text_read, with_moved, reads_text, begun_area, begins, begins_anew, executes}
use Rattle.sys_procs.proofs.Alive.{put_here}
use Rattle.sys_procs.proofs.Following.{both}
use Rattle.sys_procs.proofs.KeptOwner.{SameOwner}

-- A process that begins, with the ids that the file gives it. It had this u area.
abbrev pub begun : UArea → Process → Node → Program → List ℕ → Process
begun v old node program read = record old {
  row = row_in node v.uid old.row;
  u = area_in node v program;
  «data» = read;
  stack = first_stack program.arguments;
}

module _ (v : UArea) (old : Process) (node : Node) (program : Program) (read : List ℕ) where
  abbrev plain : Process
  plain = record old { u = begun_area v program; «data» = read; stack = first_stack program.arguments }

  -- with these bits of the mode
  abbrev as_owner_by : Bool → Process
  as_owner_by b =
      cond b (record plain { u = record plain.u { uid = node.uid }; row = record plain.row { uid = node.uid } }) plain

  abbrev in_group_by : Bool → Process → Process
  in_group_by b p = cond b (record p { u = record p.u { gid = node.gid } }) p

  abbrev begun_by : Bool → Bool → Process
  begun_by b c = record plain {
    row = record old.row { uid = cond b node.uid old.row.uid };
    u = record plain.u { uid = cond b node.uid v.uid; gid = cond c node.gid v.gid };
  }

  begun_cases : (b c : Bool) → in_group_by c (as_owner_by b) ≡ begun_by b c
  begun_cases true true = refl
  begun_cases true false = refl
  begun_cases false true = refl
  begun_cases false false = refl

  pub begins_is : begins v old node program read ≡ begun v old node program read
  begins_is =
      begun_cases (not (bit_and node.mode ISUID == 0) && not (v.uid == 0)) (not (bit_and node.mode ISGID == 0))

-- The ids that a file gives are the same where its owner is.
pub row_kept : (a b : Node) (uid : ℕ) (row : Row) → SameOwner a b → row_in b uid row ≡ row_in a uid row
row_kept a b uid row same = λ i. record row {
  uid = if not (same.sets_uid i == 0) && not (uid == 0) then same.uid i else row.uid;
}

pub area_kept : (a b : Node) (v : UArea) (program : Program) → SameOwner a b → area_in b v program ≡ area_in a v program
area_kept a b v program same = λ i. record (begun_area v program) {
  uid = if not (same.sets_uid i == 0) && not (v.uid == 0) then same.uid i else v.uid;
  gid = if not (same.sets_gid i == 0) then same.gid i else v.gid;
}

pub put_twice : (w : World) (s : ℕ) (q r : Process) → with_process (with_process w s q) s r ≡ with_process w s r
put_twice w s q r =
    ap (λ (ps : List (Option Process)). record w { processes = ps }) (set-set w.processes s (Some q) (Some r))

-- Who is in the slots stays as a text is read.
pub there_still : (w : World) (s : ℕ) (program : Program) (b : Bool) → process_of (reads_text b w s program) s ≡ process_of w s
there_still w s program true = refl
there_still w s program false = refl

-- A process that has an image is filled with a program.
module _ (w : World) (s : ℕ) (program : Program) (p : Process) (low : s < length w.processes)
    (text : p.text ≡ (process_of w s).text) where
  abbrev read : Moving Image
  read = data_read w s program

  here : process_of (with_process w s p) s ≡ p
  here = put_here w.processes s p low

  read_is : data_read (with_process w s p) s program ≡ read
  read_is =
      ap (λ o. data_in w.inodes.store (text_bytes w.texts o) program w.clock.time) (ap (λ (q : Process). q.text) here ∙ text)

  pub fills_is : fills (with_process w s p) s program
      ≡ with_process (with_moved w program.ino read) s (filled program read.memory p)
  fills_is =
      (λ i. with_process (with_moved (with_process w s p) program.ino (read_is i)) s (filled program (read_is i).memory (here i)))
      ∙ put_twice (with_moved w program.ino read) s p (filled program read.memory p)

-- A process that takes an image, whose text is read then, is filled, and begins in a row and in a u area.
module _ (w : World) (s t : ℕ) (program : Program) (low : s < length w.processes) where
  abbrev pub imaged : World
  imaged = change w s (sized t (data_clicks program.plan))

  abbrev old : Process
  old = process_of w s

  abbrev big : Process
  big = sized t (data_clicks program.plan) old

  big_here : process_of imaged s ≡ big
  big_here = put_here w.processes s big low

  pub sized_first : (b : Bool) → reads_text b imaged s program ≡ with_process (reads_text b w s program) s big
  sized_first false = refl
  sized_first true =
      ap (λ k. record (with_moved imaged program.ino (text_read w program)) {
        texts = with_text w.texts k (record (text_of w.texts k) {
          bytes = patched 0 (text_read w program).memory (text_of w.texts k).bytes;
        });
      }) (ap (λ (p : Process). unwrap_or p.text 40) big_here)

  processes_stay : (b : Bool) → (reads_text b w s program).processes ≡ w.processes
  processes_stay true = refl
  processes_stay false = refl

  module _ (b : Bool) where
    abbrev pub whole : World
    whole = reads_text b w s program

    abbrev pub it : Process
    it = filled program (data_read whole s program).memory big

    abbrev moved : World
    moved = with_moved whole program.ino (data_read whole s program)

    long : s < length whole.processes
    long = let same = ap length (processes_stay b) in omega (arith, same, low)

    old_there : process_of whole s ≡ old
    old_there = there_still w s program b

    pub filled_is : fills (reads_text b imaged s program) s program ≡ with_process moved s it
    filled_is =
        ap (λ (v : World). fills v s program) (sized_first b)
        ∙ fills_is whole s program big long (sym (ap (λ (p : Process). p.text) old_there))

    pub it_there : process_of (fills (reads_text b imaged s program) s program) s ≡ it
    it_there = ap (λ (v : World). process_of v s) filled_is ∙ put_here moved.processes s it long

    pub begun_is : (row : Row) (u v : UArea) → row ≡ row_in (node_at whole program.ino) v.uid old.row
        → u ≡ area_in (node_at whole program.ino) v program
        → with_process (fills (reads_text b imaged s program) s program) s
        (record (process_of (fills (reads_text b imaged s program) s program) s) { row = row; u = u })
        ≡ change moved s (λ p. begins v p (node_at whole program.ino) program (data_read whole s program).memory.data)
    begun_is row u v row_is u_is =
        (λ i. with_process (filled_is i) s (record (it_there i) { row = row; u = u }))
        ∙ put_twice moved s it (record it { row = row; u = u })
        ∙ (λ i. with_process moved s (record it { row = row_is i; u = u_is i }))
        ∙ ap (λ (p : Process). with_process moved s p)
        (ap (λ (p : Process). begun v p (node_at whole program.ino) program (data_read whole s program).memory.data)
        (sym old_there)
        ∙ sym (begins_is v (process_of moved s) (node_at whole program.ino) program (data_read whole s program).memory.data))

    pub answer_is : (v : UArea) → (executes whole s v program).answer ≡ Ret 0 0
    answer_is v =
        ap (λ (p : Process). Ret (register p 0) (register p 1))
        (put_here moved.processes s
        (begins v (process_of moved s) (node_at whole program.ino) program (data_read whole s program).memory.data) long
        ∙ begins_is v (process_of moved s) (node_at whole program.ino) program (data_read whole s program).memory.data)

-- The text, and then the rest.
module _ (w : World) (s ino size : ℕ) (next : World → Bool → Comes) where
  abbrev taken_or : Bool → Option ℕ → Comes
  taken_or b o = if b then nothing w else xalloc_by w s ino size o (λ placed is_new. nothing placed)

  abbrev new_or : Bool → Option ℕ → Option ℕ
  new_or b o = if b then None else new_if w.texts o

  xalloc_or : (b : Bool) (o : Option ℕ) → (if b then next w false else xalloc_by w s ino size o next)
      ≡ both (taken_or b o) (next (taken_or b o).state (is_some (new_or b o)))
  xalloc_or true o = refl
  xalloc_or false (Some k) = refl
  xalloc_or false None = refl

  pub xalloc_is : xalloc w s ino size next
      ≡ both (takes w s ino size) (next (takes w s ino size).state (is_some (new_entry w.texts ino size)))
  xalloc_is = xalloc_or (size == 0) (entry_of w.texts ino)

pub anew_is : (w : World) (s : ℕ) (v : UArea) (program : Program) → begins_anew w s v program
    ≡ both (takes w s program.ino program.text_clicks)
    (both (takes_image (takes w s program.ino program.text_clicks).state s program.text_clicks (data_clicks program.plan))
    (executes
    (reads_text (is_some (new_entry w.texts program.ino program.text_clicks)) (takes w s program.ino program.text_clicks).state
    s program) s v program))
anew_is w s v program =
    xalloc_is w s program.ino program.text_clicks
    (λ placed is_new. does (effect.Image s (image_clicks program.plan) placed)
    (executes (reads_text is_new placed s program) s v program))

-- What the call comes to when the tests have come to this.
module _ (mounts : MountTable) (w : World) (s name list : ℕ) where
  abbrev t : Tested
  t = tests mounts w s name list

  comes_by : (a : Result Program Errno) → a ≡ t.answer → done_by t.world s a ≡ exec_file mounts w s name list
  unfolding exec_file
  comes_by a is = ap (done_by t.world s) is

  pub refused : (e : Errno) → Err e ≡ t.answer → fails t.world e ≡ exec_file mounts w s name list
  refused e is = comes_by (Err e) is

  pub loaded : (program : Program) → Ok program ≡ t.answer → loads t.world s program ≡ exec_file mounts w s name list
  loaded program is = comes_by (Ok program) is

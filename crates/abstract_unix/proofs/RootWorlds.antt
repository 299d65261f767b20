-- A call on processes leaves the directories of all processes, and the files of all texts, on the root's disk, where what it names is;
-- and it leaves the second disk's store.
use Rattle.std.proofs.Common.{◌≡◌, ◌≤◌, ◌∙◌, ◌-◌, ◌==◌, ◌&&◌, ℕ, not, Bool, true, false, cond, List, [], length, get_or, set, map, Option, Some, None, unwrap_or, option_map, is_none, Result, Ok, Err, slice_index, bit_and, refl, sym, ap, subst}
use Rattle.std.specs.List.{All, range_with_len}
use Rattle.v6_base.specs.declared.entry.Entry.TheVariants.{Bare}
use Rattle.v6_base.specs.declared.errno.Errno.{Errno}
use Rattle.v6_base.specs.Image.{Image}
use Rattle.fs_codec.specs.Store.{Node}
use Rattle.fs_codec.specs.declared.modes.TheConstants.{ISUID, ISGID}
use Rattle.fs_laws.specs.Pieces.{Moving}
use Rattle.fs_nodes.specs.Disks.{Disks}
use Rattle.fs_nodes.specs.Keys.{Stores, counts, device_of}
use Rattle.fs_tree.specs.Finding.{Inodes}
use Rattle.mount_tab.specs.Mounted.{MountTable}
use Rattle.pick_rules.specs.Effects as effect
use Rattle.proc_tab.specs.Processes.{lowest}
use Rattle.u_area.specs.declared.area.UArea.{UArea}
use Rattle.sys_files.proofs.FrameLemmas.{device_counted}
use Rattle.sys_files.proofs.OtherWalks.{IsOn, on_root}
use Rattle.sys_procs.specs.declared.program.Program.{Program}
use Rattle.sys_procs.specs.Process.{Process, no_process}
use Rattle.sys_procs.specs.World as world
use Rattle.sys_procs.specs.World.{World, process_of, change, without_process, members}
use Rattle.sys_procs.specs.Comes.{Comes, does, logs}
use Rattle.sys_procs.specs.Tests.{node_at}
use Rattle.sys_procs.specs.Break.{sized, break_at}
use Rattle.sys_procs.specs.Exit.{slot_of, adopted, ended, leaves, dead, dies, end_proc}
use Rattle.sys_procs.specs.Fork.{copied, past_word, next_pid, with_child, fork_into, fork_one}
use Rattle.sys_procs.specs.Frame.{exec_named}
use Rattle.sys_procs.specs.Resume.{awake, resume_proc}
use Rattle.sys_procs.specs.Signals.{signalled, signalled_if, all_signalled, is_reached, meant_in, kill_to}
use Rattle.sys_procs.specs.TextTable.{Text, no_text, text_of, entry_of}
use Rattle.sys_procs.specs.Texts.{goes, remaining, joined, joined_by_child, new_text, without_text, with_entry, free_entry, leaves_text, is_sticky, shares_text, makes_text, xalloc_by, xfree}
use Rattle.sys_procs.specs.Stack.{first_stack}
use Rattle.sys_procs.specs.ExecFile as exec
use Rattle.sys_procs.proofs.TestedSlots.{tests_processes}
use Rattle.abstract_unix.specs.declared.calls.ProcessCall.{ProcessCall}
use Rattle.abstract_unix.specs.declared.calls.ProcessCall.TheVariants as process
use Rattle.abstract_unix.specs.Calls.{process_row}
use Rattle.abstract_unix.proofs.ProcessRows.{Plain, gives, refuses, waits, changes, due, nice, wakes, dated, buries, plain_row, resume_plain}
use Rattle.abstract_unix.proofs.OtherProcs.{IsFar, HasTested, tests_far, exec_far, ended_far, plain_inodes, kill_inodes, break_inodes}
use Rattle.abstract_unix.proofs.RootNames.{exec_on}
use Rattle.abstract_unix.proofs.RootWalks.{each_set, each_of, zero_on}

-- the directory of a process, and the file of a text
abbrev pub DirOn : Stores → Option Process → Type 0
DirOn base o = IsOn 0 base (unwrap_or o no_process).u.dir

abbrev pub TextOn : Stores → Option Text → Type 0
TextOn base o = IsOn 0 base (unwrap_or o no_text).ino

pub record AllHeld (base : Stores) (slots : List (Option Process)) (table : List (Option Text)) : Type 0 where
  pub dirs : (s : ℕ) → DirOn base (get_or slots s None)
  pub texts : (k : ℕ) → TextOn base (get_or table k None)

-- and the second store is that of others, with as many nodes on each disk
pub record IsBased (base store : Stores) (slots : List (Option Process)) (table : List (Option Text)) : Type 0 where
  pub second : store.second ≡ base.second
  pub counts : counts store ≡ counts base
  pub held : AllHeld base slots table

-- Signals that are sent leave the directories.
signalled_on : (base : Stores) (who : ℕ → Process → Bool) (n r : ℕ) (o : Option Process) → DirOn base o → DirOn base (signalled_if who n r o)
signalled_on base who n r None here = here
signalled_on base who n r (Some p) here = by (who r p)
  where
    by : (b : Bool) → DirOn base (Some (cond b (signalled n p) p))
    by true = here
    by false = here

pub signalled_dirs : (base : Stores) (who : ℕ → Process → Bool) (n : ℕ) (slots : List (Option Process))
    → ((s : ℕ) → DirOn base (get_or slots s None)) → (s : ℕ) → DirOn base (get_or (all_signalled who n slots) s None)
signalled_dirs base who n slots all =
    each_of (λ (r : ℕ). Unit {0}) (DirOn base) (λ r. signalled_if who n r (get_or slots r None)) 0 None (range_with_len 0 50) (zero_on base)
    (λ r any. signalled_on base who n r (get_or slots r None) (all r)) (λ k. tt)

adopted_on : (base : Stores) (pid : ℕ) (o : Option Process) → DirOn base o → DirOn base (adopted pid o)
adopted_on base pid None here = here
adopted_on base pid (Some p) here = by (p.row.ppid == pid)
  where
    by : (b : Bool) → DirOn base (Some (cond b (record p { row = record p.row { ppid = 1 } }) p))
    by true = here
    by false = here

adopted_dirs : (base : Stores) (pid : ℕ) (slots : List (Option Process)) → ((s : ℕ) → DirOn base (get_or slots s None)) → (s : ℕ)
    → DirOn base (get_or (map (adopted pid) slots) s None)
adopted_dirs base pid slots all = each_of (DirOn base) (DirOn base) (adopted pid) None None slots (zero_on base) (adopted_on base pid) all

-- What is left of a text, and one with a user more, are of its file.
remaining_on : (base : Stores) (sticky : Bool) (o : Option Text) → TextOn base o → TextOn base (remaining sticky o)
remaining_on base sticky None here = here
remaining_on base sticky (Some text) here = by (goes text sticky)
  where
    by : (b : Bool) → TextOn base (cond b None (Some (record text { users = text.users - 1 })))
    by true = zero_on base
    by false = here

joined_on : (base : Stores) (o : Option Text) → TextOn base o → TextOn base (option_map joined o)
joined_on base None here = here
joined_on base (Some text) here = here

-- The program that begins has the directory of the area that it is given.
owner_dir : (b : Bool) (q : Process) (uid : ℕ)
    → (cond b (record q { u = record q.u { uid = uid }; row = record q.row { uid = uid } }) q).u.dir ≡ q.u.dir
owner_dir true q uid = refl
owner_dir false q uid = refl

group_dir : (b : Bool) (q : Process) (gid : ℕ) → (cond b (record q { u = record q.u { gid = gid } }) q).u.dir ≡ q.u.dir
group_dir true q gid = refl
group_dir false q gid = refl

begins_dir : (u : UArea) (p : Process) (node : Node) (program : Program) (read : List ℕ) → (exec.begins u p node program read).u.dir ≡ u.dir
begins_dir u p node program read =
    let q : Process = record p { u = exec.begun_area u program; «data» = read; stack = first_stack program.arguments } in
    group_dir (not (bit_and node.mode ISGID == 0)) (exec.as_owner node q) node.gid
    ∙ owner_dir (not (bit_and node.mode ISUID == 0) && not (q.u.uid == 0)) q node.uid

module _ (base : Stores) (s : ℕ) where
  abbrev Held : World → Type 0
  Held w = AllHeld base w.processes w.texts

  abbrev Based : World → Type 0
  Based w = IsBased base w.inodes.store w.processes w.texts

  held_change : (v : World) (rule : Process → Process) → IsOn 0 base (rule (process_of v s)).u.dir → Held v → Held (change v s rule)
  held_change v rule here k = record {
    dirs = each_set (DirOn base) None (Some (rule (process_of v s))) v.processes s here k.dirs;
    texts = k.texts;
  }

  held_if : (b : Bool) (x y : Comes) → Held x.state → Held y.state → Held (cond b x y).state
  held_if true x y p q = p
  held_if false x y p q = q

  held_plain : (v : World) (c : Comes) → Plain s v c → Held v → Held c.state
  held_plain v c (gives w r0 r1) k = k
  held_plain v c (refuses w e) k = k
  held_plain v c (waits w rule pri chan same sleeping is range) k = held_change w rule (subst (IsOn 0 base) (sym same.dir) (k.dirs s)) k
  held_plain v c (changes w rule d same pending rest) k =
      held_plain (change w s rule) c rest (held_change w rule (subst (IsOn 0 base) (sym same.dir) (k.dirs s)) k)
  held_plain v c (due w tout d rest) k = held_plain _ c rest (record { dirs = k.dirs; texts = k.texts })
  held_plain v c (nice w value d range rest) k = held_plain w d rest k
  held_plain v c (wakes w chan d range rest) k = held_plain w d rest k
  held_plain v c (dated w time d range rest) k = held_plain _ d rest (record { dirs = k.dirs; texts = k.texts })
  held_plain v c (buries w d e grave rest) k = held_plain (without_process w d) e rest (record {
    dirs = each_set (DirOn base) None None w.processes d (zero_on base) k.dirs;
    texts = k.texts;
  })

  kill_held : (v : World) (n : ℕ) → Held v → Held (kill_to v s n).state
  unfolding kill_to
  kill_held v n k =
      held_if (length (meant_in (is_reached s (process_of v s)) v.processes) == 0) _ _ k (record {
        dirs = signalled_dirs base (is_reached s (process_of v s)) n v.processes k.dirs;
        texts = k.texts;
      })

  pub held_sized : (v : World) (d st : ℕ) → Held v → Held (change v s (sized d st))
  held_sized v d st k = held_change v (sized d st) (k.dirs s) k

  break_held : (v : World) (at : ℕ) → Held v → Held (break_at v s at).state
  unfolding break_at
  break_held v at k = held_if _ _ _ k (held_sized v _ _ k)

  -- exec: the old program goes, with its text
  left_held : (v : World) (k : ℕ) (sticky : Bool) → Held v → Held (leaves_text v s k sticky)
  left_held v k sticky held = by (goes (text_of v.texts k) sticky)
    where
      rest : World
      rest = record v { texts = set v.texts k (remaining sticky (get_or v.texts k None)) }

      left : World
      left = change rest s without_text

      still : Held left
      still = held_change rest without_text (held.dirs s) (record {
        dirs = held.dirs;
        texts = each_set (TextOn base) None (remaining sticky (get_or v.texts k None)) v.texts k
            (remaining_on base sticky (get_or v.texts k None) (held.texts k)) held.texts;
      })

      by : (b : Bool) → Held (cond b (world.let_go left (text_of v.texts k).ino) left)
      by true = record { dirs = still.dirs; texts = still.texts }
      by false = still

  -- and the new one comes
  executes_held : (v : World) (u : UArea) (program : Program) → IsOn 0 base u.dir → Held v → Held (exec.executes v s u program).state
  executes_held v u program here k =
      let m : Moving Image = exec.data_read v s program in
      let p : Process = process_of (exec.with_moved v program.ino m) s in
      let q : Process = exec.begins u p (node_at v program.ino) program m.memory.data in
      record {
        dirs = each_set (DirOn base) None (Some q) v.processes s
            (subst (IsOn 0 base) (sym (begins_dir u p (node_at v program.ino) program m.memory.data)) here) k.dirs;
        texts = k.texts;
      }

  reads_held : (b : Bool) (v : World) (program : Program) → Held v → Held (exec.reads_text b v s program)
  reads_held true v program k = record {
    dirs = k.dirs;
    texts = each_set (TextOn base) None _ v.texts (exec.entry_in v s) (k.texts (exec.entry_in v s)) k.texts;
  }
  reads_held false v program k = k

  abbrev goes_on : Program → UArea → World → Bool → Comes
  goes_on program u placed new =
      does (effect.Image s (exec.image_clicks program.plan) placed)
      (exec.executes (exec.reads_text new placed s program) s u program)

  placed_held : (v : World) (u : UArea) (program : Program) (b : Bool) → IsOn 0 base u.dir → Held v → Held (goes_on program u v b).state
  placed_held v u program b here k = executes_held (exec.reads_text b v s program) u program here (reads_held b v program k)

  alloc_held : (v : World) (u : UArea) (program : Program) (o : Option ℕ) → IsOn 0 base u.dir → IsOn 0 base program.ino → Held v
      → Held (xalloc_by v s program.ino program.text_clicks o (goes_on program u)).state
  alloc_held v u program (Some e) here own k = placed_held (shares_text v s e) u program false here (record {
    dirs = each_set (DirOn base) None (Some (with_entry e (process_of v s))) v.processes s (k.dirs s) k.dirs;
    texts = each_set (TextOn base) None _ v.texts e (joined_on base (get_or v.texts e None) (k.texts e)) k.texts;
  })
  alloc_held v u program None here own k =
      let e : ℕ = free_entry v.texts in
      placed_held (makes_text v s program.ino program.text_clicks) u program true here (record {
        dirs = each_set (DirOn base) None (Some (with_entry e (process_of v s))) v.processes s (k.dirs s) k.dirs;
        texts = each_set (TextOn base) None (Some (new_text program.ino program.text_clicks)) v.texts e own k.texts;
      })

  begins_held : (v : World) (u : UArea) (program : Program) → IsOn 0 base u.dir → IsOn 0 base program.ino → Held v
      → Held (exec.begins_anew v s u program).state
  begins_held v u program here own k =
      held_if (program.text_clicks == 0) (goes_on program u v false)
      (xalloc_by v s program.ino program.text_clicks (entry_of v.texts program.ino) (goes_on program u))
      (placed_held v u program false here k) (alloc_held v u program (entry_of v.texts program.ino) here own k)

  bare_held : (left : World) (program : Program) → IsOn 0 base program.ino → Held left
      → Held (logs (Bare s) (exec.begins_anew (change left s exec.bared) s (process_of left s).u program)).state
  bare_held left program own k =
      begins_held (change left s exec.bared) (process_of left s).u program (k.dirs s) own (held_change left exec.bared (zero_on base) k)

  loads_held : (v : World) (program : Program) → IsOn 0 base program.ino → Held v → Held (exec.loads v s program).state
  loads_held v program own k = by (process_of v s).text
    where
      by : (o : Option ℕ)
          → Held (xfree v s o (λ left. logs (Bare s) (exec.begins_anew (change left s exec.bared) s (process_of left s).u program))).state
      by None = bare_held v program own k
      by (Some e) = bare_held (leaves_text v s e (is_sticky v e)) program own (left_held v e (is_sticky v e) k)

  done_held : (v : World) (r : Result Program Errno) → ((p : Program) → r ≡ Ok p → IsOn 0 base p.ino) → Held v → Held (exec.done_by v s r).state
  done_held v (Ok program) own k = loads_held v program (own program refl) k
  done_held v (Err e) own k = k

  -- the end of a process
  dead_held : (v : World) → Held v → Held (dead v s)
  dead_held v k = record { dirs = adopted_dirs base p.row.pid _ (by (is_none (slot_of v p.row.ppid))); texts = k.texts }
    where
      p : Process
      p = process_of v s

      zombie : List (Option Process)
      zombie = set v.processes s (Some (record p { is_zombie = true; «data» = []; stack = [] }))

      still : (i : ℕ) → DirOn base (get_or zombie i None)
      still = each_set (DirOn base) None (Some (record p { is_zombie = true; «data» = []; stack = [] })) v.processes s (k.dirs s) k.dirs

      by : (b : Bool) → (i : ℕ) → DirOn base (get_or (cond b (map (adopted p.row.ppid) zombie) zombie) i None)
      by true = adopted_dirs base p.row.ppid zombie still
      by false = still

  ended_held : (v : World) (status : ℕ) → Held v → Held (end_proc v s status).state
  unfolding end_proc
  ended_held v status k = by (process_of v s).text
    where
      left : World
      left = leaves v s status

      gone : Held left
      gone = record { dirs = (held_change v (ended status) (zero_on base) k).dirs; texts = k.texts }

      by : (o : Option ℕ) → Held (xfree left s o (λ now. dies now s)).state
      by None = dead_held left gone
      by (Some e) = dead_held (leaves_text left s e (is_sticky left e)) (left_held left e (is_sticky left e) gone)

  -- fork
  child_texts : (texts : List (Option Text)) (o : Option ℕ) → ((k : ℕ) → TextOn base (get_or texts k None)) → (k : ℕ)
      → TextOn base (get_or (joined_by_child texts o) k None)
  child_texts texts None all = all
  child_texts texts (Some e) all = each_set (TextOn base) None _ texts e (joined_on base (get_or texts e None) (all e)) all

  pub fork_based : (w : World) → Based w → Based (fork_one w s).state
  unfolding fork_one
  fork_based w b = by (lowest is_none (members w))
    where
      p : Process
      p = process_of w s

      by : (o : Option ℕ) → Based (fork_into w s o).state
      by None = record { second = b.second; counts = b.counts; held = held_change w past_word (b.held.dirs s) b.held }
      by (Some child) =
          let born : World = with_child w s child (next_pid w) in
          let k : Held born = record {
            dirs = each_set (DirOn base) None (Some (copied p (next_pid w))) w.processes child (b.held.dirs s) b.held.dirs;
            texts = child_texts w.texts p.text b.held.texts;
          } in
          record { second = b.second; counts = b.counts; held = held_change born past_word (k.dirs s) k }

  -- What stays of the stores.
  still_based : (w : World) (c : Comes) → c.state.inodes ≡ w.inodes → Held c.state → Based w → Based c.state
  still_based w c same held b = record {
    second = ap (λ (n : Inodes). n.store.second) same ∙ b.second;
    counts = ap (λ (n : Inodes). counts n.store) same ∙ b.counts;
    held = held;
  }

  pub its : (w : World) (key : ℕ) → Based w → IsOn 0 base key → IsOn 0 w.inodes.store key
  its w key b on = device_counted w.inodes.store base key b.counts ∙ on

  pub end_based : (w : World) (status : ℕ) → Based w → Based (end_proc w s status).state
  end_based w status b =
      let far = ended_far (λ (stores : Stores). stores.second) 0 on_root w s status (its w (process_of w s).u.dir b (b.held.dirs s))
      (λ k is. its w (text_of w.texts k).ino b (b.held.texts k)) in
      record { second = far.same ∙ b.second; counts = far.counts ∙ b.counts; held = ended_held w status b.held }

  pub resume_based : (w : World) → Based w → Based (resume_proc w s).state
  resume_based w b = still_based w (resume_proc w s) (plain_inodes s (change w s awake) (resume_proc w s) (resume_plain s w))
      (held_plain (change w s awake) (resume_proc w s) (resume_plain s w) (held_change w awake (b.held.dirs s) b.held)) b

  -- each row
  module _ (one : 1 ≤ base.root.count) (mounts : MountTable) (none : mounts.covered ≡ None) where
    exec_based : (w : World) (name list : ℕ) → mounts.first ≡ w.inodes.store.root.count → Based w
        → Based (exec.exec_file mounts w s name list).state
    unfolding exec.exec_file
    exec_based w name list first b = record {
      second = far.same ∙ b.second;
      counts = far.counts ∙ b.counts;
      held = done_held t.world t.answer own (record {
        dirs = subst (λ (slots : List (Option Process)). (i : ℕ) → DirOn base (get_or slots i None))
            (sym (tests_processes mounts w s name list)) b.held.dirs;
        texts = subst (λ (table : List (Option Text)). (k : ℕ) → TextOn base (get_or table k None)) (sym tested.texts) b.held.texts;
      });
    }
      where
        some : 1 ≤ w.inodes.store.root.count
        some = subst (λ n. 1 ≤ n) (sym (ap (λ (c : Disks ℕ). c.root) b.counts)) one

        named : All (λ key. device_of w.inodes.store key ≡ 0) (exec_named mounts w s name)
        named = exec_on mounts w s name first some none (its w (process_of w s).u.dir b (b.held.dirs s))

        text : (k : ℕ) → (process_of w s).text ≡ Some k → IsOn 0 w.inodes.store (text_of w.texts k).ino
        text k is = its w (text_of w.texts k).ino b (b.held.texts k)

        far : IsFar (λ (stores : Stores). stores.second) 0 on_root w s (exec.exec_file mounts w s name list).state
        far = exec_far (λ (stores : Stores). stores.second) 0 on_root w s mounts name list named text

        t : exec.Tested
        t = exec.tests mounts w s name list

        tested : HasTested (λ (stores : Stores). stores.second) 0 on_root w s t
        tested = tests_far (λ (stores : Stores). stores.second) 0 on_root w s mounts name list named

        own : (p : Program) → t.answer ≡ Ok p → IsOn 0 base p.ino
        own p is = sym (device_counted w.inodes.store base p.ino b.counts) ∙ tested.program p is

    pub process_based : (call : ProcessCall) (w : World) (args : List ℕ) → mounts.first ≡ w.inodes.store.root.count → Based w
        → Based (process_row call mounts w s args).state
    process_based process.Exec w a first b = exec_based w (slice_index a 0) (slice_index a 1) first b
    process_based process.Break w a first b =
        still_based w (break_at w s (slice_index a 0)) (break_inodes s w (slice_index a 0)) (break_held w (slice_index a 0) b.held) b
    process_based process.Kill w a first b =
        still_based w (kill_to w s (slice_index a 0)) (kill_inodes s w (slice_index a 0)) (kill_held w (slice_index a 0) b.held) b
    process_based call w a first b =
        let c : Comes = process_row call mounts w s a in
        let plain : Plain s w c = plain_row call tt mounts s w a in
        still_based w c (plain_inodes s w c plain) (held_plain w c plain b.held) b

-- What a call on processes leaves of the number of nodes, and of what the counts see of processes: the numbers of each, and its
-- directory.
use Rattle.std.proofs.Common.{◌≡◌, ◌≢◌, ◌∙◌, ◌<◌, ◌==◌, ◌&&◌, ℕ, not, Bool, true, false, cond, List, [], length, get_or, get_or-set_same, set, set-set, map, Option, Some, None, unwrap_or, is_none, Result, Ok, Err, slice_index, bit_and, refl, sym, ap, arith}
use Rattle.std.proofs.lemmas.List.{length-map, length-set, map-set, set-get_or, get_or-set_other}
use Rattle.std.proofs.lemmas.List.FromFn.{get_or-map-range_with_len, length-map-range_with_len}
use Rattle.std.proofs.Math.ListN.{get_or-map}
use Rattle.fs_codec.specs.Store.{Node}
use Rattle.fs_codec.specs.declared.modes.TheConstants.{ISUID, ISGID}
use Rattle.fs_tree.specs.Finding.{Finding, with_reference, find_in}
use Rattle.u_area.specs.declared.area.UArea.{UArea}
use Rattle.v6_base.specs.declared.errno.Errno.{Errno}
use Rattle.fs_nodes.specs.Disks.{Disks}
use Rattle.fs_nodes.specs.Keys.{counts}
use Rattle.fs_nodes.proofs.KeyLaws.{counts_set}
use Rattle.mount_tab.specs.Mounted.{MountTable}
use Rattle.sys_files.proofs.NodeCounts.{put_back_counts, finding_counts}
use Rattle.sys_procs.specs.declared.program.Program.{Program}
use Rattle.sys_procs.specs.Process.{Process, no_process, image_of}
use Rattle.sys_procs.specs.World.{World, process_of, change, without_process, with_inodes, let_go}
use Rattle.sys_procs.specs.Comes.{Comes, does, logs}
use Rattle.sys_procs.specs.Tests.{must, user_of, node_at}
use Rattle.v6_base.specs.declared.entry.Entry.TheVariants.{Bare}
use Rattle.pick_rules.specs.Effects as effect
use Rattle.sys_procs.specs.Break.{sized, break_at, expands}
use Rattle.sys_procs.specs.Signals.{signalled, signalled_if, all_signalled, is_reached, meant_in, kill_to}
use Rattle.sys_procs.specs.TextTable.{text_of, with_text, entry_of}
use Rattle.sys_procs.specs.Texts.{goes, remaining, with_user, free_entry, new_text, without_text, with_entry, leaves_text, is_sticky, shares_text, makes_text, xalloc_by, xfree}
use Rattle.sys_procs.specs.Stack.{arguments, first_stack, stack_clicks}
use Rattle.sys_procs.specs.ExecFile as exec
use Rattle.sys_procs.specs.Exit.{slot_of, adopted, strays_adopted, ended, leaves, dead, dies, end_proc}
use Rattle.sys_procs.specs.Resume.{awake, resume_proc}
use Rattle.fs_laws.specs.Pieces.{Moving}
use Rattle.fs_tree.specs.Name.{name_at}
use Rattle.fs_tree.specs.Permission.{permission}
use Rattle.fs_tree.specs.declared.user.Want.TheVariants.{Execute}
use Rattle.fs_codec.specs.Modes.{file_type}
use Rattle.aout_head.specs.Header.{Header, header_of, plan_of}
use Rattle.aout_head.specs.declared.parts.Plan.{Plan}
use Rattle.seg_regs.specs.Sizes.{is_refused}
use Rattle.v6_base.specs.declared.errno.Errno.TheVariants.{ENOEXEC, ENOMEM, EACCES, ETXTBSY}
use Rattle.sys_procs.proofs.TestedSlots.{tests_processes}
use Rattle.abstract_unix.specs.declared.calls.ProcessCall.{ProcessCall}
use Rattle.abstract_unix.specs.declared.calls.ProcessCall.TheVariants as process
use Rattle.abstract_unix.specs.Calls.{process_row}
use Rattle.abstract_unix.specs.Whole.{told_of, told_by, told_in}
use Rattle.abstract_unix.proofs.Owing.{some_within, told_change, told_unseen, told_dead}
use Rattle.abstract_unix.proofs.Dying as dying
use Rattle.abstract_unix.proofs.Posting.{all_alike}
use Rattle.abstract_unix.proofs.ProcessRows.{IsGrave, Plain, gives, refuses, waits, changes, due, nice, wakes, dated, buries, plain_row, resume_plain}

told_same : (p q : Process) → q.u.files ≡ p.u.files → q.u.dir ≡ p.u.dir → q.is_zombie ≡ p.is_zombie
    → told_by (Some q) ≡ told_by (Some p)
told_same p q files dir dead = λ i. cond (dead i) None (Some (record { files = files i; dir = dir i }))

-- a read of a file leaves how many nodes each disk has
moved_count : {Memory : Type 0} (v : World) (ino : ℕ) (m : Moving Memory)
    → counts (exec.with_moved v ino m).inodes.store ≡ counts v.inodes.store
moved_count v ino m = counts_set v.inodes.store ino m.room m.node

module _ (base : World) (s : ℕ) where
  -- A world in which all that the counts see is as in another one, and the process of a slot lives.
  pub record IsStill (v : World) : Type 0 where
    pub count : counts v.inodes.store ≡ counts base.inodes.store
    pub told : told_in v.processes ≡ told_in base.processes
    pub there : get_or v.processes s None ≡ Some (process_of v s)
    pub lives : (process_of v s).is_zombie ≡ false
    pub fifty : length v.processes ≡ 50

  put_at : (v : World) (q : Process) → s < length v.processes → get_or (set v.processes s (Some q)) s None ≡ Some q
  put_at v q low = get_or-set_same v.processes s (Some q) None low

  within : (v : World) → IsStill v → s < length v.processes
  within v k = some_within v.processes s (process_of v s) k.there

  pub still_change : (v : World) (rule : Process → Process) → IsStill v
      → (rule (process_of v s)).u.files ≡ (process_of v s).u.files
      → (rule (process_of v s)).u.dir ≡ (process_of v s).u.dir → (rule (process_of v s)).is_zombie ≡ (process_of v s).is_zombie
      → IsStill (change v s rule)
  still_change v rule k files dir dead =
      let p : Process = process_of v s in
      let at = put_at v (rule p) (within v k) in
      let is : process_of (change v s rule) s ≡ rule p = ap (λ o. unwrap_or o no_process) at in
      record {
        count = k.count;
        told = told_change v.processes s p (rule p) k.there (told_same p (rule p) files dir dead) ∙ k.told;
        there = at ∙ ap Some (sym is);
        lives = ap (λ (q : Process). q.is_zombie) is ∙ dead ∙ k.lives;
        fifty = length-set v.processes s (Some (rule p)) ∙ k.fifty;
      }

  -- a slot of a dead child is cleared
  still_buried : (v : World) (d : ℕ) → IsGrave v d → IsStill v → IsStill (without_process v d)
  still_buried v d grave k =
      let other : s ≢ d = λ same.
      let dead : Some (process_of v s) ≡ Some grave.process = sym k.there ∙ ap (λ n. get_or v.processes n None) same ∙ grave.at in
      let alike : process_of v s ≡ grave.process = cc dead in
      let is : (process_of v s).is_zombie ≡ true = ap (λ (q : Process). q.is_zombie) alike ∙ grave.dead in
      let lives = k.lives in cc (is, lives) in
      let at : get_or (set v.processes d None) s None ≡ get_or v.processes s None =
      get_or-set_other v.processes d s None None other in
      let is : process_of (without_process v d) s ≡ process_of v s = ap (λ o. unwrap_or o no_process) at in
      record {
        count = k.count;
        told = told_unseen v.processes d None (sym (told_dead v.processes d grave.process grave.at grave.dead)) ∙ k.told;
        there = at ∙ k.there ∙ ap Some (sym is);
        lives = ap (λ (q : Process). q.is_zombie) is ∙ k.lives;
        fifty = length-set v.processes d None ∙ k.fifty;
      }

  pub still_plain : (v : World) (c : Comes) → Plain s v c → IsStill v → IsStill c.state
  still_plain v c (gives w r0 r1) k = k
  still_plain v c (refuses w e) k = k
  still_plain v c (waits w rule pri chan same sleeping is range) k = still_change w rule k same.files same.dir same.dead
  still_plain v c (changes w rule d same pending rest) k =
      still_plain (change w s rule) c rest (still_change w rule k same.files same.dir same.dead)
  still_plain v c (due w tout d rest) k =
      still_plain _ c rest (record { count = k.count; told = k.told; there = k.there; lives = k.lives; fifty = k.fifty })
  still_plain v c (nice w value d range rest) k = still_plain w d rest k
  still_plain v c (wakes w chan d range rest) k = still_plain w d rest k
  still_plain v c (dated w time d range rest) k =
      still_plain _ d rest (record { count = k.count; told = k.told; there = k.there; lives = k.lives; fifty = k.fifty })
  still_plain v c (buries w d e grave rest) k = still_plain (without_process w d) e rest (still_buried w d grave k)

  still_if : (b : Bool) (x y : Comes) → IsStill x.state → IsStill y.state → IsStill (cond b x y).state
  still_if true x y p q = p
  still_if false x y p q = q

  -- kill: the others, too, are told as before
  signalled_told : (who : ℕ → Process → Bool) (n r : ℕ) (o : Option Process) → told_by (signalled_if who n r o) ≡ told_by o
  signalled_told who n r None = refl
  signalled_told who n r (Some p) = by (who r p)
    where
      by : (b : Bool) → told_by (Some (cond b (signalled n p) p)) ≡ told_by (Some p)
      by true = refl
      by false = refl

  still_signalled : (who : ℕ → Process → Bool) (n : ℕ) (v : World) → IsStill v
      → IsStill (record v { processes = all_signalled who n v.processes })
  still_signalled who n v k =
      let low : s < 50 = (let l = within v k in let fifty = k.fifty in omega (arith, l, fifty)) in
      let at : get_or (all_signalled who n v.processes) s None ≡ signalled_if who n s (get_or v.processes s None) =
      get_or-map-range_with_len (λ r. signalled_if who n r (get_or v.processes r None)) 0 50 s s None low (omega arith) in
      by (who s (process_of v s)) (at ∙ ap (signalled_if who n s) k.there)
    where
      by : (b : Bool) → get_or (all_signalled who n v.processes) s None ≡ Some
          (cond b (signalled n (process_of v s)) (process_of v s))
          → IsStill (record v { processes = all_signalled who n v.processes })
      by b at =
          let q : Process = cond b (signalled n (process_of v s)) (process_of v s) in
          let is : process_of (record v { processes = all_signalled who n v.processes }) s ≡ q =
          ap (λ o. unwrap_or o no_process) at in
          record {
            count = k.count;
            told = all_alike who n v.processes told_by (λ r o. signalled_told who n r o) k.fifty ∙ k.told;
            there = at ∙ ap Some (sym is);
            lives = ap (λ (x : Process). x.is_zombie) is ∙ dead b ∙ k.lives;
            fifty = length-map-range_with_len (λ r. signalled_if who n r (get_or v.processes r None)) 0 50;
          }
        where
          dead : (b : Bool) → (cond b (signalled n (process_of v s)) (process_of v s)).is_zombie ≡ (process_of v s).is_zombie
          dead true = refl
          dead false = refl

  still_kill : (v : World) (n : ℕ) → IsStill v → IsStill (kill_to v s n).state
  unfolding kill_to
  still_kill v n k =
      still_if (length (meant_in (is_reached s (process_of v s)) v.processes) == 0) _ _ k
      (still_signalled (is_reached s (process_of v s)) n v k)

  -- break, and the growth of a stack
  still_expands : (v : World) (d st : ℕ) → IsStill v → IsStill (expands v s d st).state
  still_expands v d st k = still_change v (sized d st) k refl refl refl

  still_break : (v : World) (at : ℕ) → IsStill v → IsStill (break_at v s at).state
  unfolding break_at
  still_break v at k = still_if _ _ _ k (still_expands v _ _ k)

  -- exec: until the new program begins the area of its process is another, but for which all is as it was
  record IsBut (v : World) : Type 0 where
    count : counts v.inodes.store ≡ counts base.inodes.store
    but : set (told_in v.processes) s None ≡ set (told_in base.processes) s None
    there : get_or v.processes s None ≡ Some (process_of v s)
    lives : (process_of v s).is_zombie ≡ false
    fifty : length v.processes ≡ 50

  but_still : (v : World) → IsStill v → IsBut v
  but_still v k = record {
    count = k.count;
    but = ap (λ l. set l s None) k.told;
    there = k.there;
    lives = k.lives;
    fifty = k.fifty;
  }

  but_inodes : (v w : World) → w.processes ≡ v.processes → counts w.inodes.store ≡ counts v.inodes.store → IsBut v → IsBut w
  but_inodes v w same count k =
      let is : process_of w s ≡ process_of v s = ap (λ ps. unwrap_or (get_or ps s None) no_process) same in
      record {
        count = count ∙ k.count;
        but = ap (λ ps. set (told_in ps) s None) same ∙ k.but;
        there = ap (λ ps. get_or ps s None) same ∙ k.there ∙ ap Some (sym is);
        lives = ap (λ (q : Process). q.is_zombie) is ∙ k.lives;
        fifty = ap length same ∙ k.fifty;
      }

  but_change : (v : World) (rule : Process → Process) → (rule (process_of v s)).is_zombie ≡ (process_of v s).is_zombie → IsBut v
      → IsBut (change v s rule)
  but_change v rule dead k =
      let p : Process = process_of v s in
      let low = some_within v.processes s p k.there in
      let at = put_at v (rule p) low in
      let is : process_of (change v s rule) s ≡ rule p = ap (λ o. unwrap_or o no_process) at in
      record {
        count = k.count;
        but = ap (λ l. set l s None) (map-set told_by v.processes s (Some (rule p)))
            ∙ set-set (told_in v.processes) s (told_by (Some (rule p))) None ∙ k.but;
        there = at ∙ ap Some (sym is);
        lives = ap (λ (q : Process). q.is_zombie) is ∙ dead ∙ k.lives;
        fifty = length-set v.processes s (Some (rule p)) ∙ k.fifty;
      }

  -- The process is told as before in the end.
  but_ends : (v : World) (q : Process) → told_by (Some q) ≡ get_or (told_in base.processes) s None
      → told_in (set v.processes s (Some q)) ≡ told_in base.processes → IsBut v → q.is_zombie ≡ false
      → IsStill (record v { processes = set v.processes s (Some q) })
  but_ends v q own told k alive =
      let low = some_within v.processes s (process_of v s) k.there in
      let at = put_at v q low in
      let is : process_of (record v { processes = set v.processes s (Some q) }) s ≡ q = ap (λ o. unwrap_or o no_process) at in
      record {
        count = k.count;
        told = told;
        there = at ∙ ap Some (sym is);
        lives = ap (λ (x : Process). x.is_zombie) is ∙ alive;
        fifty = length-set v.processes s (Some q) ∙ k.fifty;
      }

  told_again : (v : World) (q : Process) → told_by (Some q) ≡ get_or (told_in base.processes) s None → IsBut v
      → told_in (set v.processes s (Some q)) ≡ told_in base.processes
  told_again v q own k =
      map-set told_by v.processes s (Some q)
      ∙ sym (set-set (told_in v.processes) s None (told_by (Some q)))
      ∙ ap (λ l. set l s (told_by (Some q))) k.but
      ∙ set-set (told_in base.processes) s None (told_by (Some q))
      ∙ ap (set (told_in base.processes) s) own
      ∙ set-get_or (told_in base.processes) s None

  owner_so : (b : Bool) (p : Process) (uid : ℕ)
      → told_by (Some (cond b (record p { u = record p.u { uid = uid }; row = record p.row { uid = uid } }) p)) ≡ told_by (Some p)
  owner_so true p uid = refl
  owner_so false p uid = refl

  group_so : (b : Bool) (p : Process) (gid : ℕ)
      → told_by (Some (cond b (record p { u = record p.u { gid = gid } }) p)) ≡ told_by (Some p)
  group_so true p gid = refl
  group_so false p gid = refl

  owner_lives : (b : Bool) (p : Process) (uid : ℕ)
      → (cond b (record p { u = record p.u { uid = uid }; row = record p.row { uid = uid } }) p).is_zombie ≡ p.is_zombie
  owner_lives true p uid = refl
  owner_lives false p uid = refl

  group_lives : (b : Bool) (p : Process) (gid : ℕ)
      → (cond b (record p { u = record p.u { gid = gid } }) p).is_zombie ≡ p.is_zombie
  group_lives true p gid = refl
  group_lives false p gid = refl

  begun_told : (u : UArea) (p : Process) (node : Node) (program : Program) (read : List ℕ)
      → told_by (Some (exec.begins u p node program read)) ≡ cond p.is_zombie None
      (Some (record { files = u.files; dir = u.dir }))
  begun_told u p node program read =
      let begun : Process = record p { u = exec.begun_area u program; «data» = read; stack = first_stack program.arguments } in
      group_so (not (bit_and node.mode ISGID == 0)) (exec.as_owner node begun) node.gid
      ∙ owner_so (not (bit_and node.mode ISUID == 0) && not (begun.u.uid == 0)) begun node.uid

  begun_lives : (u : UArea) (p : Process) (node : Node) (program : Program) (read : List ℕ)
      → (exec.begins u p node program read).is_zombie ≡ p.is_zombie
  begun_lives u p node program read =
      let begun : Process = record p { u = exec.begun_area u program; «data» = read; stack = first_stack program.arguments } in
      group_lives (not (bit_and node.mode ISGID == 0)) (exec.as_owner node begun) node.gid
      ∙ owner_lives (not (bit_and node.mode ISUID == 0) && not (begun.u.uid == 0)) begun node.uid

  -- the area that it had
  abbrev IsItsArea : UArea → Type 0
  IsItsArea u = get_or (told_in base.processes) s None ≡ Some (record { files = u.files; dir = u.dir })

  still_executes : (v : World) (u : UArea) (program : Program) → IsItsArea u → IsBut v
      → IsStill (exec.executes v s u program).state
  still_executes v u program its k =
      let m = exec.data_read v s program in
      let read : World = exec.with_moved v program.ino m in
      let q : Process = exec.begins u (process_of read s) (node_at v program.ino) program m.memory.data in
      let still : IsBut read = but_inodes v read refl (moved_count v program.ino m) k in
      let own : told_by (Some q) ≡ get_or (told_in base.processes) s None =
      begun_told u (process_of read s) (node_at v program.ino) program m.memory.data
      ∙ ap (λ b. cond b None (Some (record { files = u.files; dir = u.dir }))) still.lives ∙ sym its in
      let begun = but_ends read q own (told_again read q own still) still
      (begun_lives u (process_of read s) (node_at v program.ino) program m.memory.data ∙ still.lives) in
      record {
        count = put_back_counts read.inodes program.ino ∙ begun.count;
        told = begun.told;
        there = begun.there;
        lives = begun.lives;
        fifty = begun.fifty;
      }

  but_read : (b : Bool) (v : World) (program : Program) → IsBut v → IsBut (exec.reads_text b v s program)
  but_read true v program k =
      but_inodes v (exec.with_text_read v s program) refl (moved_count v program.ino (exec.text_read v program)) k
  but_read false v program k = k

  abbrev goes_on : Program → UArea → World → Bool → Comes
  goes_on program u placed new =
      does (effect.Image s (exec.image_clicks program.plan) placed)
      (exec.executes (exec.reads_text new placed s program) s u program)

  still_placed : (v : World) (u : UArea) (program : Program) (b : Bool) → IsItsArea u → IsBut v
      → IsStill (goes_on program u v b).state
  still_placed v u program b its k =
      let e = still_executes (exec.reads_text b v s program) u program its (but_read b v program k) in
      record { count = e.count; told = e.told; there = e.there; lives = e.lives; fifty = e.fifty }

  still_alloc_by : (v : World) (u : UArea) (program : Program) (o : Option ℕ) → IsItsArea u → IsBut v
      → IsStill (xalloc_by v s program.ino program.text_clicks o (goes_on program u)).state
  still_alloc_by v u program (Some k) its but =
      let e = still_placed (shares_text v s k) u program false its
      (but_change (record v { texts = with_user v.texts k }) (with_entry k) refl
      (but_inodes v (record v { texts = with_user v.texts k }) refl refl but)) in
      record { count = e.count; told = e.told; there = e.there; lives = e.lives; fifty = e.fifty }
  still_alloc_by v u program None its but =
      let entry : ℕ = free_entry v.texts in
      let made : World = record v {
        texts = with_text v.texts entry (new_text program.ino program.text_clicks);
        inodes = with_reference v.inodes program.ino;
      } in
      let e = still_placed (makes_text v s program.ino program.text_clicks) u program true its
      (but_change made (with_entry entry) refl (but_inodes v made refl refl but)) in
      record { count = e.count; told = e.told; there = e.there; lives = e.lives; fifty = e.fifty }

  still_begins : (v : World) (u : UArea) (program : Program) → IsItsArea u → IsBut v
      → IsStill (exec.begins_anew v s u program).state
  still_begins v u program its but =
      still_if (program.text_clicks == 0) (goes_on program u v false)
      (xalloc_by v s program.ino program.text_clicks (entry_of v.texts program.ino) (goes_on program u))
      (still_placed v u program false its but) (still_alloc_by v u program (entry_of v.texts program.ino) its but)

  let_go_still : (b : Bool) (v : World) (ino : ℕ) → IsStill v → IsStill (cond b (let_go v ino) v)
  let_go_still true v ino k = record {
    count = put_back_counts v.inodes ino ∙ k.count;
    told = k.told;
    there = k.there;
    lives = k.lives;
    fifty = k.fifty;
  }
  let_go_still false v ino k = k

  pub still_left : (v : World) (k : ℕ) (sticky : Bool) → IsStill v → IsStill (leaves_text v s k sticky)
  still_left v k sticky still =
      let_go_still (goes (text_of v.texts k) sticky) _ (text_of v.texts k).ino
      (still_change (record v { texts = set v.texts k (remaining sticky (get_or v.texts k None)) }) without_text
      (record {
        count = still.count;
        told = still.told;
        there = still.there;
        lives = still.lives;
        fifty = still.fifty;
      }) refl refl refl)

  area_told : (v : World) → IsStill v → IsItsArea (process_of v s).u
  area_told v k =
      ap (λ l. get_or l s None) (sym k.told) ∙ get_or-map told_by v.processes s None ∙ ap told_by k.there
      ∙ ap (λ b. cond b None (Some (told_of (process_of v s)))) k.lives

  still_bare : (left : World) (program : Program) → IsStill left
      → IsStill (logs (Bare s) (exec.begins_anew (change left s exec.bared) s (process_of left s).u program)).state
  still_bare left program k =
      let e = still_begins (change left s exec.bared) (process_of left s).u program (area_told left k)
      (but_change left exec.bared refl (but_still left k)) in
      record { count = e.count; told = e.told; there = e.there; lives = e.lives; fifty = e.fifty }

  still_loads : (v : World) (program : Program) → IsStill v → IsStill (exec.loads v s program).state
  still_loads v program k = by (process_of v s).text
    where
      by : (o : Option ℕ) → IsStill
          (xfree v s o (λ left. logs (Bare s) (exec.begins_anew (change left s exec.bared) s
          (process_of left s).u program))).state
      by None = still_bare v program k
      by (Some entry) =
          let e = still_bare (leaves_text v s entry (is_sticky v entry)) program (still_left v entry (is_sticky v entry) k) in
          record { count = e.count; told = e.told; there = e.there; lives = e.lives; fifty = e.fifty }

  -- the tests
  abbrev HasCount : Disks ℕ → exec.Tested → Type 0
  HasCount n t = counts t.world.inodes.store ≡ n

  check_count : {A : Type 0} (n : Disks ℕ) (now : World) (r : Result A Errno) (next : A → exec.Tested) → counts now.inodes.store ≡ n
      → ((a : A) → HasCount n (next a)) → HasCount n (exec.check now r next)
  check_count n now (Ok a) next k h = h a
  check_count n now (Err e) next k h = k

  header_count : (n : Disks ℕ) (now : World) (ino : ℕ) (args : List (List ℕ)) (head : Moving (List ℕ)) → counts now.inodes.store ≡ n
      → HasCount n (exec.tests_header now ino args head)
  header_count n now ino args head k =
      let h : Header = header_of head.memory in
      let out : World = let_go now ino in
      let left : counts out.inodes.store ≡ n = put_back_counts now.inodes ino ∙ k in
      let text : Plan → ℕ = λ plan. exec.text_clicks_in now.texts ino plan in
      let fitting : Plan → Unit {0}
      → exec.Tested = λ plan fits. record {
        answer = Ok
            (record { ino = ino; plan = plan; text_clicks = text plan; arguments = args });
        world = now;
      } in
      let fits : Plan → Result (Unit {0}) Errno = λ plan. must ENOMEM
      (not (is_refused (text plan) (exec.data_clicks plan) stack_clicks now.limit)) in
      let last : Plan → exec.Tested = λ plan. exec.check out (fits plan) (fitting plan) in
      let planned : Unit {0} → exec.Tested = λ free. exec.check out (exec.or_no_memory (plan_of h)) last in
      let idle : Unit {0} → exec.Tested = λ program. exec.check out (must ETXTBSY (not (exec.is_busy now ino h))) planned in
      let good : Unit {0} → exec.Tested = λ read. exec.check out
      (must ENOEXEC ((head.done == 16) && exec.is_magic (plan_of h))) idle in
      check_count {A = Unit {0}} n out (exec.answer_to head.error) good left (λ a.
      check_count {A = Unit {0}} n out (must ENOEXEC ((head.done == 16) && exec.is_magic (plan_of h))) idle left (λ b.
      check_count {A = Unit {0}} n out (must ETXTBSY (not (exec.is_busy now ino h))) planned left (λ d.
      check_count {A = Plan} n out (exec.or_no_memory (plan_of h)) last left (λ plan.
      check_count {A = Unit {0}} n out (fits plan) (fitting plan) left (λ f. k)))))

  file_count : (n : Disks ℕ) (now : World) (ino list : ℕ) → counts now.inodes.store ≡ n → HasCount n (exec.tests_file now s ino list)
  file_count n now ino list k =
      let q : Process = process_of now s in
      let node : Node = node_at now ino in
      let out : World = let_go now ino in
      let left : counts out.inodes.store ≡ n = put_back_counts now.inodes ino ∙ k in
      let head : Moving (List ℕ) = exec.header_read now ino in
      let read : List (List ℕ) → exec.Tested = λ args. exec.tests_header (exec.with_moved now ino head) ino args head in
      let named : Unit {0} → exec.Tested = λ plain. exec.check out (arguments (image_of now.texts q) list) read in
      let allowed : Unit {0} → exec.Tested = λ may. exec.check out (must EACCES (file_type node.mode == 0)) named in
      check_count {A = Unit {0}} n out (permission node (user_of q) Execute) allowed left (λ a.
      check_count {A = Unit {0}} n out (must EACCES (file_type node.mode == 0)) named left (λ b.
      check_count {A = List (List ℕ)} n out (arguments (image_of now.texts q) list) read left (λ args.
      header_count n (exec.with_moved now ino head) ino args head (moved_count now ino head ∙ k))))

  tests_count : (mounts : MountTable) (v : World) (name list : ℕ) → counts (exec.tests mounts v s name list).world.inodes.store ≡ counts v.inodes.store
  tests_count mounts v name list =
      let p : Process = process_of v s in
      let found : Finding ℕ = find_in v.inodes mounts (user_of p) p.u.dir (name_at (image_of v.texts p) name) in
      let same : counts found.inodes.store ≡ counts v.inodes.store = finding_counts v.inodes _ in
      check_count (counts v.inodes.store) (with_inodes v found.inodes) found.answer
      (λ ino. exec.tests_file (with_inodes v found.inodes) s ino list) same
      (λ ino. file_count (counts v.inodes.store) (with_inodes v found.inodes) ino list same)

  still_exec : (mounts : MountTable) (v : World) (name list : ℕ) → IsStill v → IsStill (exec.exec_file mounts v s name list).state
  unfolding exec.exec_file
  still_exec mounts v name list k = by t.answer
    where
      t : exec.Tested
      t = exec.tests mounts v s name list

      same : t.world.processes ≡ v.processes
      same = tests_processes mounts v s name list

      is : process_of t.world s ≡ process_of v s
      is = ap (λ ps. unwrap_or (get_or ps s None) no_process) same

      tested : IsStill t.world
      tested = record {
        count = tests_count mounts v name list ∙ k.count;
        told = ap told_in same ∙ k.told;
        there = ap (λ ps. get_or ps s None) same ∙ k.there ∙ ap Some (sym is);
        lives = ap (λ (q : Process). q.is_zombie) is ∙ k.lives;
        fifty = ap length same ∙ k.fifty;
      }

      by : (r : Result Program Errno) → IsStill (exec.done_by t.world s r).state
      by (Ok program) = still_loads t.world program tested
      by (Err e) = tested

  -- each row
  pub still_row : (call : ProcessCall) (mounts : MountTable) (v : World) (args : List ℕ) → IsStill v → IsStill (process_row call mounts v s args).state
  still_row process.Exec mounts v a k = still_exec mounts v (slice_index a 0) (slice_index a 1) k
  still_row process.Break mounts v a k = still_break v (slice_index a 0) k
  still_row process.Kill mounts v a k = still_kill v (slice_index a 0) k
  still_row call mounts v a k = still_plain v _ (plain_row call tt mounts s v a) k

  -- a sleep or a wait that goes on
  pub still_resume : (v : World) → IsStill v → IsStill (resume_proc v s).state
  still_resume v k = still_plain (change v s awake) _ (resume_plain s v) (still_change v awake k refl refl refl)

  -- exit: its process is told of no more
  pub record IsGone (v : World) : Type 0 where
    pub count : counts v.inodes.store ≡ counts base.inodes.store
    pub told : told_in v.processes ≡ set (told_in base.processes) s None
    pub fifty : length v.processes ≡ 50

  strays_length : (b : Bool) (pid : ℕ) (ps : List (Option Process)) → length (cond b (map (adopted pid) ps) ps) ≡ length ps
  strays_length true pid ps = length-map ps (adopted pid)
  strays_length false pid ps = refl

  gone_dead : (v : World) → IsBut v → IsGone (dead v s)
  gone_dead v k =
      let p : Process = process_of v s in
      let z : List (Option Process) = set v.processes s (Some (record p { is_zombie = true; «data» = []; stack = [] })) in
      let strays : List (Option Process) = strays_adopted (slot_of v p.row.ppid) p.row.ppid z in
      record {
        count = k.count;
        told = dying.told_dead v s ∙ k.but;
        fifty = length-map strays (adopted p.row.pid) ∙ strays_length (is_none (slot_of v p.row.ppid)) p.row.ppid z
            ∙ length-set v.processes s (Some (record p { is_zombie = true; «data» = []; stack = [] })) ∙ k.fifty;
      }

  let_go_but : (b : Bool) (v : World) (ino : ℕ) → IsBut v → IsBut (cond b (let_go v ino) v)
  let_go_but true v ino k = but_inodes v (let_go v ino) refl (put_back_counts v.inodes ino) k
  let_go_but false v ino k = k

  but_left : (v : World) (k : ℕ) (sticky : Bool) → IsBut v → IsBut (leaves_text v s k sticky)
  but_left v k sticky but =
      let now : World = record v { texts = set v.texts k (remaining sticky (get_or v.texts k None)) } in
      let_go_but (goes (text_of v.texts k) sticky) (change now s without_text) (text_of v.texts k).ino
      (but_change now without_text refl (but_inodes v now refl refl but))

  pub gone_ended : (v : World) (status : ℕ) → IsStill v → IsGone (end_proc v s status).state
  unfolding end_proc
  gone_ended v status k = by (process_of v s).text
    where
      left : World
      left = leaves v s status

      but : IsBut left
      but = but_inodes (change v s (ended status)) left refl (put_back_counts v.inodes (process_of v s).u.dir)
          (but_change v (ended status) refl (but_still v k))

      by : (o : Option ℕ) → IsGone (xfree left s o (λ now. dies now s)).state
      by None = let g = gone_dead left but in record { count = g.count; told = g.told; fifty = g.fifty }
      by (Some entry) =
          let g = gone_dead (leaves_text left s entry (is_sticky left entry)) (but_left left entry (is_sticky left entry) but) in
          record { count = g.count; told = g.told; fifty = g.fifty }

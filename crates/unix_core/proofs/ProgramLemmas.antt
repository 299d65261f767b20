-- exec(II): what it comes to. Texts, images and a process change, and each process keeps its files and its directory.
use Rattle.std.proofs.Common.{◌≡◌, ◌∙◌, ◌≤◌, ◌<◌, ◌+◌, ◌==◌, ◌&&◌, ℕ, Bool, true, false, not, cond, List, [], ◌∷◌, map, set, get_or, length, position, is_none, Option, Some, None, IsSome, slice_index, refl, sym, ap, inl, inr, arith}
use Rattle.std.specs.Prelude.{Result, Ok, Err, unwrap_or, bit_and}
use Rattle.std.proofs.lemmas.Bool.{cases_lt, eq-eqb, ne_eqb}
use Rattle.std.proofs.lemmas.List.{get_or-set_same, set-set, set-get_or, length-set, get_or_past}
use Rattle.v6_base.specs.Trace.{Log}
use Rattle.v6_base.specs.declared.answer.Answer.TheVariants.{Fail}
use Rattle.v6_base.specs.declared.errno.Errno.{Errno}
use Rattle.v6_base.specs.declared.entry.Entry.{Entry}
use Rattle.v6_base.specs.declared.entry.Entry.TheVariants as line
use Rattle.v6_base.specs.declared.entry.PanicKind.TheVariants as panic
use Rattle.fs_codec.specs.Store.{Node}
use Rattle.fs_codec.specs.declared.modes.TheConstants.{ISUID, ISGID}
use Rattle.fs_nodes.specs.FileSystem.{IsFileSystem}
use Rattle.fs_laws.specs.Pieces.{Moving}
use Rattle.v6_base.specs.Image.{Image}
use Rattle.fs_nodes.specs.Keys.{node_numbered}
use Rattle.sys_procs.specs.Stack.{first_stack}
use Rattle.u_area.specs.declared.area.UArea.{UArea}
use Rattle.pick_rules.specs.Apply.{applied}
use Rattle.pick_rules.specs.Board.{Board, free_text}
use Rattle.pick_rules.specs.Effects.{Effect, Show}
use Rattle.pick_rules.specs.Effects as effect
use Rattle.pick_rules.specs.Logged.{Logged, logged, log_one}
use Rattle.pick_rules.proofs.Stopping.{stays_stopped}
use Rattle.log_laws.proofs.Users.{users_of, users_on, left_users, without_users, leave_users, free_users, free_is}
use Rattle.image_keep.specs.Kept.{Shared, IsKept}
use Rattle.swap_sched.specs.Match.{text_place}
use Rattle.sys_procs.specs.declared.program.Program.{Program}
use Rattle.sys_procs.specs.Process.{Process, no_process}
use Rattle.sys_procs.specs.World as its
use Rattle.sys_procs.specs.World.{text_in, change, let_go}
use Rattle.sys_procs.specs.TextTable.{Text, text_of, entry_of}
use Rattle.sys_procs.specs.Texts.{free_entry, goes, remaining, without_text, leaves_text, is_sticky, xfree, with_entry, shares_text, makes_text, xalloc_by}
use Rattle.sys_procs.specs.Comes.{Comes, logs, does}
use Rattle.sys_procs.specs.Tests.{node_at}
use Rattle.sys_procs.specs.ExecFile as exec
use Rattle.sys_procs.specs.ExecFile.{Tested, tests, with_text_read, reads_text, executes, begins_anew, loads, done_by, exec_file}
use Rattle.sys_procs.specs.Handed.{board}
use Rattle.abstract_unix.specs.Unix.{process_of}
use Rattle.abstract_unix.specs.Whole.{told_by, told_in}
use Rattle.abstract_unix.proofs.Owing.{told_change, some_within}
use Rattle.abstract_unix.proofs.Dying.{put_refs}
use Rattle.abstract_unix.proofs.Moved.{AreTamed, IsMildLine, mild_bare, mild_leave, mild_share}
use Rattle.abstract_unix.proofs.Sitting.{users_in, users, users_left, free_users_is}
use Rattle.unix_core.specs.declared.world.World.{World}
use Rattle.unix_core.specs.Parts.{unix_of, IsReady}
use Rattle.unix_core.proofs.GoodLemmas.{forty}
use Rattle.unix_core.proofs.LoggedLemmas.{logged_after}
use Rattle.unix_core.proofs.WorldLemmas.{slot_is}
use Rattle.unix_core.proofs.CameLemmas.{given, shared, IsLike, IsTame, tame_comes}
use Rattle.unix_core.proofs.TextRefs.{one, left_refs, user_refs, made_refs, read_refs}
use Rattle.unix_core.proofs.ExecTests.{IsIn, Leaves, leaves_tests}

-- The board tells the users of each text, as the kernel keeps them.
one_user : (o : Option Shared) → users_of (text_place o) ≡ users_in (text_in o)
one_user None = refl
one_user (Some x) = refl

pub same_users : (xs : List (Option Shared)) → map users_of (map text_place xs) ≡ map users_in (map text_in xs)
same_users [] = refl
same_users (x ∷ xs) = λ i. one_user x i ∷ same_users xs i

-- An image that is given back changes none.
pub bare_users : (s : ℕ) (b : Board) → users_on (applied b (line.Bare s)) ≡ users_on b
unfolding applied
bare_users s b = without_users b s

-- A line comes first in a log.
line_first : {W : Type 0} (b : Board) (e : Entry) (es : List (Effect W))
    → (logged b (Show (Log e) ∷ es)).stop ≡ (logged (applied b e) es).stop
unfolding log_one effect.came
line_first b e es = ap (λ l. l.stop) (logged_after b (Log e ∷ []) es)

-- A text that is made finds an entry that is free, or the log stops.
module _ {W : Type 0} (b : Board) (s n : ℕ) (before : W) (es : List (Effect W)) where
  full : free_text b ≡ None → logged b (effect.Text s n before ∷ es) ≡ record {
    items = Log (line.Panic panic.Text) ∷ [];
    board = applied b (line.Panic panic.Text);
    stop = Some (record { why = panic.Text; before = before });
  }
  unfolding log_one effect.came
  full none = rw none (stays_stopped _ _ _ es)

  text_goes : (logged b (effect.Text s n before ∷ es)).stop ≡ None → (k : ℕ) × (free_text b ≡ Some k)
  text_goes goes = by (free_text b) refl
    where
      by : (o : Option ℕ) → free_text b ≡ o → (k : ℕ) × (free_text b ≡ Some k)
      by None none = absurd (let some = sym goes ∙ ap (λ (l : Logged W). l.stop) (full none) in cc some)
      by (Some k) is = (k, is)

-- The parts of a world between two steps of the call: this process stands in the slot, and beside the texts the call refers to an
-- inode.
record IsOn (w : World) (s : ℕ) (x : its.World) (q : Process) (d : ℕ) : Type 0 where
  switches : x.switches ≡ w.procs.switches
  processes : x.processes ≡ set (unix_of w).processes s (Some q)
  lives : q.is_zombie ≡ (process_of (unix_of w) s).is_zombie
  refs : (ino : ℕ) → slice_index x.inodes.references ino + shared (unix_of w).texts ino
      ≡ slice_index w.files.tree.nodes.references ino + shared x.texts ino + one d ino

-- what the rest of the call does on a board
record GoesOn (w : World) (b : Board) (c : Comes) : Type 0 where
  effects : AreTamed (λ (x : its.World). x.switches ≡ w.procs.switches) c.effects
  switches : (logged b c.effects).stop ≡ None → c.state.switches ≡ w.procs.switches
  like : (logged b c.effects).stop ≡ None → IsLike w c.state

line_goes : (w : World) (b : Board) (e : Entry) (c : Comes) → IsMildLine e → GoesOn w (applied b e) c → GoesOn w b (logs e c)
line_goes w b e c mild is = record {
  effects = (mild, is.effects);
  switches = λ none. is.switches (sym (line_first b e c.effects) ∙ none);
  like = λ none. is.like (sym (line_first b e c.effects) ∙ none);
}

module _ (w : World) (s : ℕ) (ready : IsReady w s) (form : IsFileSystem w.files.tree.nodes) (holds : IsKept w.procs.images.kept) where
  abbrev ps : List (Option Process)
  ps = (unix_of w).processes

  abbrev p : Process
  p = process_of (unix_of w) s

  abbrev texts : List (Option Text)
  texts = (unix_of w).texts

  abbrev references : List ℕ
  references = w.files.tree.nodes.references

  low : s < length ps
  low = some_within ps s p (slot_is w s ready)

  -- the texts refer to no inode more often than it is referred to
  most : (ino : ℕ) → shared texts ino ≤ slice_index references ino
  most ino = let all = ready.good.owed.referred ino in omega (arith, all)

  none_zero : slice_index references 0 ≡ 0
  none_zero = elim (cases_lt 0 (slice_index references 0)) [
    | inl some ↦ absurd (let used = form.used 0 some in let none = form.none in cc (used, none))
    | inr zero ↦ omega (arith, zero)
  ]

  -- The slot is changed again.
  module _ (x : its.World) (q : Process) (d : ℕ) (on : IsOn w s x q d) where
    process_on : its.process_of x s ≡ q
    process_on = ap (λ l. unwrap_or (get_or l s None) no_process) on.processes
        ∙ ap (λ o. unwrap_or o no_process) (get_or-set_same ps s (Some q) None low)

    changed_on : (rule : Process → Process) → (change x s rule).processes ≡ set ps s (Some (rule q))
    changed_on rule = (λ i. set (on.processes i) s (Some (rule (process_on i)))) ∙ set-set ps s (Some q) (Some (rule q))

    most_on : (ino : ℕ) → shared x.texts ino + one d ino ≤ slice_index x.inodes.references ino
    most_on ino = let now = on.refs ino in let all = most ino in omega (arith, now, all)

    some_on : 0 < slice_index x.inodes.references d
    some_on =
        let itself : one d d ≡ 1 = ap (λ b. cond {A = ℕ} b 1 0) (eq-eqb d d refl) in let all = most_on d in
        omega (arith, itself, all)

    within_on : d < length x.inodes.references
    within_on = elim (cases_lt d (length x.inodes.references)) [
      | inl below ↦ below
      | inr high ↦ absurd (let none = get_or_past x.inodes.references d 0 high in let some = some_on in omega (arith, none, some))
    ]

    bared_on : IsOn w s (change x s exec.bared) (exec.bared q) d
    bared_on = record { switches = on.switches; processes = changed_on exec.bared; lives = on.lives; refs = on.refs }

    shared_on : (k : ℕ) → IsOn w s (shares_text x s k) (with_entry k q) d
    shared_on k = record {
      switches = on.switches;
      processes = changed_on (with_entry k);
      lives = on.lives;
      refs = λ ino. let now = on.refs ino in let same = user_refs x.texts k ino in omega (arith, now, same);
    }

    -- the text is left
    abbrev left_if : Bool → ℕ → its.World → its.World
    left_if b ino y = cond b (let_go y ino) y

    left_switches : (b : Bool) (ino : ℕ) (y : its.World) → (left_if b ino y).switches ≡ y.switches
    left_switches true ino y = refl
    left_switches false ino y = refl

    left_processes : (b : Bool) (ino : ℕ) (y : its.World) → (left_if b ino y).processes ≡ y.processes
    left_processes true ino y = refl
    left_processes false ino y = refl

    left_texts : (b : Bool) (ino : ℕ) (y : its.World) → (left_if b ino y).texts ≡ y.texts
    left_texts true ino y = refl
    left_texts false ino y = refl

    module _ (k : ℕ) (same : x.texts ≡ texts) (used : IsSome (node_numbered w.files.tree.nodes.store d)) where
      abbrev sticky : Bool
      sticky = is_sticky x k

      abbrev gone : Bool
      gone = goes (text_of x.texts k) sticky

      abbrev its_ino : ℕ
      its_ino = (text_of x.texts k).ino

      abbrev parted : its.World
      parted = change (record x { texts = set x.texts k (remaining sticky (get_or x.texts k None)) }) s without_text

      zero_on : slice_index x.inodes.references 0 ≡ 0
      zero_on =
          let apart : one d 0 ≡ 0 =
          ap (λ b. cond {A = ℕ} b 1 0)
          (ne_eqb d 0 (λ (e : d ≡ 0). let none = ap (node_numbered w.files.tree.nodes.store) e ∙ form.none in
          cc (used, none))) in
          let count = ap (λ l. shared l 0) same in
          let now = on.refs 0 in
          let zero = none_zero in
          omega (arith, apart, count, now, zero)

      left_on : IsOn w s (leaves_text x s k sticky) (without_text q) d
      left_on = record {
        switches = left_switches gone its_ino parted ∙ on.switches;
        processes = left_processes gone its_ino parted ∙ changed_on without_text;
        lives = on.lives;
        refs = λ ino.
            let now = on.refs ino in
            let left = (left_refs x s k sticky (λ i. let all = most_on i in omega (arith, all)) zero_on).refs ino in
            omega (arith, now, left);
      }

      left_users_are : (b : Board) → users_on b ≡ users x.texts
          → users_on (applied b (line.Leave s k sticky)) ≡ users (leaves_text x s k sticky).texts
      left_users_are b are =
          leave_users b s k sticky ∙ ap (λ us. left_users us k sticky) are ∙ sym (users_left x.texts k sticky)
          ∙ ap users (sym (left_texts gone its_ino parted))

      left_long : length (leaves_text x s k sticky).texts ≡ length x.texts
      left_long = ap length (left_texts gone its_ino parted) ∙ length-set x.texts k (remaining sticky (get_or x.texts k None))

    -- A text is made, and is read.
    module _ (program : Program) (ino : program.ino ≡ d) (size k : ℕ) (free : position is_none x.texts ≡ Some k) where
      abbrev made : its.World
      made = makes_text x s d size

      made_on : IsOn w s made (with_entry (free_entry x.texts) q) d
      made_on = record {
        switches = on.switches;
        processes = changed_on (with_entry (free_entry x.texts));
        lives = on.lives;
        refs = λ ino. let now = on.refs ino in let more = (made_refs x s d size k free within_on).refs ino in
            omega (arith, now, more);
      }

      its_entry : exec.entry_in made s ≡ k
      its_entry =
          ap (λ l. unwrap_or (unwrap_or (get_or l s None) no_process).text 40) made_on.processes
          ∙ ap (λ o. unwrap_or (unwrap_or o no_process).text 40)
          (get_or-set_same ps s (Some (with_entry (free_entry x.texts) q)) None low)
          ∙ ap (λ o. unwrap_or o 40) free

      read_on : IsOn w s (with_text_read made s program) (with_entry (free_entry x.texts) q) d
      read_on = record {
        switches = on.switches;
        processes = made_on.processes;
        lives = on.lives;
        refs = λ ino. let now = made_on.refs ino in let same = read_refs x s d size k free program its_entry ino in
            omega (arith, now, same);
      }

  -- The program begins: the process has its files and its directory.
  module _ (u : UArea) (files : u.files ≡ p.u.files) (dir : u.dir ≡ p.u.dir) (program : Program) where
    abbrev owner_if : Bool → Node → Process → Process
    owner_if b node q = cond b (record q { u = record q.u { uid = node.uid }; row = record q.row { uid = node.uid } }) q

    abbrev group_if : Bool → Node → Process → Process
    group_if b node q = cond b (record q { u = record q.u { gid = node.gid } }) q

    told_begun : (q : Process) (node : Node) (read : List ℕ) → q.is_zombie ≡ p.is_zombie
        → told_by (Some (exec.begins u q node program read)) ≡ told_by (Some p)
    told_begun q node read lives =
        by (not (bit_and node.mode ISGID == 0)) (not (bit_and node.mode ISUID == 0) && not (u.uid == 0))
        ∙ (λ i. cond (lives i) None (Some (record { files = files i; dir = dir i })))
      where
        by : (a b : Bool) → told_by (Some (group_if a node (owner_if b node (record q {
          u = exec.begun_area u program;
          «data» = read;
          stack = first_stack program.arguments;
        })))) ≡ cond q.is_zombie None (Some (record { files = u.files; dir = u.dir }))
        by true true = refl
        by true false = refl
        by false true = refl
        by false false = refl

    begun_like : (y : its.World) (q : Process) → IsOn w s y q program.ino → IsLike w (executes y s u program).state
    begun_like y q on =
        let m : Moving Image = exec.data_read y s program in
        let last : Process → Process = λ q. exec.begins u q (node_at y program.ino) program m.memory.data in
        record {
          refs = λ ino.
              let put = put_refs y.inodes.references program.ino ino (some_on y q program.ino on) in
              let now = on.refs ino in
              omega (arith, put, now);
          told = ap told_in (changed_on y q program.ino on last)
              ∙ told_change ps s p (last q) (slot_is w s ready) (told_begun q (node_at y program.ino) m.memory.data on.lives);
        }

    abbrev next : its.World → Bool → Comes
    next placed is_new =
        does (effect.Image s (exec.image_clicks program.plan) placed)
        (executes (reads_text is_new placed s program) s u program)

    image_goes : (b : Board) (placed : its.World) (is_new : Bool) (q : Process) → placed.switches ≡ w.procs.switches
        → IsOn w s (reads_text is_new placed s program) q program.ino → GoesOn w b (next placed is_new)
    image_goes b placed is_new q switches on = record {
      effects = (switches, tt);
      switches = λ none. on.switches;
      like = λ none. begun_like (reads_text is_new placed s program) q on;
    }

    module _ (b : Board) (x : its.World) (q : Process) (on : IsOn w s x q program.ino)
        (are : users_on b ≡ users x.texts) (long : length x.texts ≡ 40) where
      free_is_here : (k : ℕ) → free_text b ≡ Some k → position is_none x.texts ≡ Some k
      free_is_here k free = sym (free_users_is x.texts long) ∙ ap free_users (sym are) ∙ free_is b ∙ free

      made_goes : (size : ℕ) → GoesOn w b (does (effect.Text s size x) (next (makes_text x s program.ino size) true))
      made_goes size =
          let made : its.World = makes_text x s program.ino size in
          let rest : Comes = next made true in
          record {
            effects = (on.switches, (on.switches, tt));
            switches = λ none. on.switches;
            like = λ none.
                let there = text_goes b s size x rest.effects none in
                let free = free_is_here there.0 there.1 in
                begun_like (with_text_read made s program) (with_entry (free_entry x.texts) q)
                (read_on x q program.ino on program refl size there.0 free);
          }

      entry_goes : (size : ℕ) (o : Option ℕ) → GoesOn w b (xalloc_by x s program.ino size o next)
      entry_goes size None = made_goes size
      entry_goes size (Some k) =
          line_goes w b (line.Share s k) (next (shares_text x s k) false) (mild_share s k)
          (image_goes (applied b (line.Share s k)) (shares_text x s k) false (with_entry k q) on.switches
          (shared_on x q program.ino on k))

      begins_goes : GoesOn w b (begins_anew x s u program)
      begins_goes = by (program.text_clicks == 0)
        where
          by : (none : Bool) → GoesOn w b
              (cond none (next x false) (xalloc_by x s program.ino program.text_clicks (entry_of x.texts program.ino) next))
          by true = image_goes b x false q on.switches on
          by false = entry_goes program.text_clicks (entry_of x.texts program.ino)

  -- The old image is given back.
  module _ (b : Board) (left : its.World) (q : Process) (program : Program) (on : IsOn w s left q program.ino)
      (are : users_on b ≡ users left.texts) (long : length left.texts ≡ 40) (files : q.u.files ≡ p.u.files)
      (dir : q.u.dir ≡ p.u.dir) where
    bared_goes : GoesOn w b (logs (line.Bare s) (begins_anew (change left s exec.bared) s (its.process_of left s).u program))
    bared_goes =
        let own = process_on left q program.ino on in
        line_goes w b (line.Bare s) _ (mild_bare s)
        (begins_goes (its.process_of left s).u (ap (λ (r : Process). r.u.files) own ∙ files)
        (ap (λ (r : Process). r.u.dir) own ∙ dir) program
        (applied b (line.Bare s)) (change left s exec.bared) (exec.bared q) (bared_on left q program.ino on)
        (bare_users s b ∙ are) long)

  -- What the call comes to when the tests have let a program through.
  module _ (x : its.World) (program : Program) (is : IsIn (given w) x program.ino) where
    same_texts : x.texts ≡ texts
    same_texts = ap (λ (v : its.World). v.texts) is.world

    began_on : IsOn w s x p program.ino
    began_on = record {
      switches = ap (λ (v : its.World). v.switches) is.world;
      processes = ap (λ (v : its.World). v.processes) is.world
          ∙ sym (ap (set ps s) (sym (slot_is w s ready)) ∙ set-get_or ps s None);
      lives = refl;
      refs = λ ino. let now = is.refs ino in let count = ap (λ l. shared l ino) same_texts in omega (arith, now, count);
    }

    its_users : users_on (board w.procs) ≡ users x.texts
    its_users = same_users w.procs.images.kept.texts ∙ ap users (sym same_texts)

    its_long : length x.texts ≡ 40
    its_long = ap length same_texts ∙ forty w.procs.images.kept holds

    loads_tame : GoesOn w (board w.procs) (loads x s program)
    loads_tame = by (its.process_of x s).text
      where
        by : (o : Option ℕ) → GoesOn w (board w.procs)
            (xfree x s o (λ left. logs (line.Bare s)
            (begins_anew (change left s exec.bared) s (its.process_of left s).u program)))
        by None = bared_goes (board w.procs) x p program began_on its_users its_long refl refl
        by (Some k) =
            line_goes w (board w.procs) (line.Leave s k (is_sticky x k)) _ (mild_leave s k (is_sticky x k))
            (bared_goes (applied (board w.procs) (line.Leave s k (is_sticky x k))) (leaves_text x s k (is_sticky x k))
            (without_text p) program
            (left_on x p program.ino began_on k same_texts is.used)
            (left_users_are x p program.ino began_on k same_texts is.used (board w.procs) its_users)
            (left_long x p program.ino began_on k same_texts is.used ∙ its_long) refl refl)

  done_tame : (x : its.World) (r : Result Program Errno) → Leaves (given w) x r → IsTame w (done_by x s r)
  done_tame x (Ok program) leaves =
      let on = loads_tame x program leaves in
      record { still = record { effects = on.effects; switches = on.switches }; like = on.like }
  done_tame x (Err e) leaves = tame_comes w x (Fail e) (ap (λ (v : its.World). v.switches) leaves.world) (record {
    refs = λ ino. let same = leaves.refs ino in let count = ap (λ (v : its.World). shared v.texts ino) leaves.world in
        omega (arith, same, count);
    told = ap (λ (v : its.World). told_in v.processes) leaves.world;
  })

  pub exec_tame : (name list : ℕ) → IsTame w (exec_file w.files.tree.mounts (given w) s name list)
  unfolding exec_file
  exec_tame name list = let t : Tested = tests w.files.tree.mounts (given w) s name list in
      done_tame t.world t.answer (leaves_tests w s ready form name list)

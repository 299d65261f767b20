-- A call on processes leaves the disk alone that neither the program it names nor the text of its process is on: of these calls
-- exec alone changes inodes.
use Rattle.std.proofs.Common.{◌≡◌, ◌∙◌, ◌==◌, ◌&&◌, ℕ, not, Bool, true, false, cond, List, [], length, get_or, set, Option, Some, None, unwrap_or, Result, Ok, Err, slice_index, refl, sym, ap, subst}
use Rattle.std.specs.List.{All}
use Rattle.std.proofs.lemmas.List.Elements.{All-head}
use Rattle.v6_base.specs.Image.{Image}
use Rattle.v6_base.specs.declared.entry.Entry.TheVariants.{Bare}
use Rattle.v6_base.specs.declared.errno.Errno.{Errno}
use Rattle.v6_base.specs.declared.errno.Errno.TheVariants.{ENOEXEC, ENOMEM, EACCES, ETXTBSY}
use Rattle.fs_codec.specs.Modes.{file_type}
use Rattle.fs_codec.specs.Store.{Node}
use Rattle.fs_laws.specs.Pieces.{Moving}
use Rattle.fs_nodes.specs.Keys.{Stores, OnItsDisk, counts, device_of, node_numbered}
use Rattle.fs_nodes.proofs.KeyLaws.{counts_set}
use Rattle.fs_nodes.proofs.OtherDisk.{node_there}
use Rattle.fs_tree.specs.declared.user.Want.TheVariants.{Execute}
use Rattle.fs_tree.specs.Permission.{permission}
use Rattle.fs_tree.specs.Name.{name_at}
use Rattle.fs_tree.specs.Finding.{Inodes, Finding, find_in}
use Rattle.mount_tab.specs.Mounted.{MountTable}
use Rattle.aout_head.specs.Header.{Header, header_of, plan_of}
use Rattle.seg_regs.specs.Sizes.{is_refused}
use Rattle.u_area.specs.declared.area.UArea.{UArea}
use Rattle.pick_rules.specs.Effects as effect
use Rattle.sys_files.proofs.NodeCounts.{put_back_counts}
use Rattle.fs_tree.proofs.OtherDisk.{put_there}
use Rattle.sys_files.proofs.FrameLemmas.{device_counted, finding_store}
use Rattle.sys_files.proofs.OtherWalks.{IsOn, on_root, on_second}
use Rattle.sys_procs.specs.declared.program.Program.{Program}
use Rattle.sys_procs.specs.Process.{Process, no_process, image_of}
use Rattle.sys_procs.specs.World.{World, process_of, change, without_process, with_inodes, let_go}
use Rattle.sys_procs.specs.Comes.{Comes, does, logs}
use Rattle.sys_procs.specs.Tests.{must, user_of, node_at}
use Rattle.sys_procs.specs.Frame.{named_by, exec_named, KeepsTo, LeavesOther}
use Rattle.sys_procs.specs.Break.{break_at}
use Rattle.sys_procs.specs.Exit.{leaves, dies, end_proc}
use Rattle.sys_procs.specs.Signals.{is_reached, meant_in, kill_to}
use Rattle.sys_procs.specs.TextTable.{Text, text_of, entry_of}
use Rattle.sys_procs.specs.Texts.{goes, remaining, without_text, leaves_text, is_sticky, shares_text, makes_text, xalloc_by, xfree}
use Rattle.sys_procs.specs.Stack.{arguments, stack_clicks}
use Rattle.sys_procs.specs.ExecFile as exec
use Rattle.sys_procs.proofs.TestedSlots.{tests_processes}
use Rattle.abstract_unix.specs.declared.calls.ProcessCall.{ProcessCall}
use Rattle.abstract_unix.specs.declared.calls.ProcessCall.TheVariants as process
use Rattle.abstract_unix.specs.Calls.{process_row, process_named}
use Rattle.abstract_unix.proofs.ProcessRows.{Plain, gives, refuses, waits, changes, due, nice, wakes, dated, buries, plain_row}

-- Most calls leave the inodes.
inodes_when : (b : Bool) (x y : Comes) (n : Inodes) → x.state.inodes ≡ n → y.state.inodes ≡ n → (cond b x y).state.inodes ≡ n
inodes_when true x y n p q = p
inodes_when false x y n p q = q

module _ (s : ℕ) where
  pub plain_inodes : (v : World) (c : Comes) → Plain s v c → c.state.inodes ≡ v.inodes
  plain_inodes v c (gives w r0 r1) = refl
  plain_inodes v c (refuses w e) = refl
  plain_inodes v c (waits w rule pri chan same sleeping is range) = refl
  plain_inodes v c (changes w rule d same pending rest) = plain_inodes (change w s rule) c rest
  plain_inodes v c (due w tout d rest) = plain_inodes _ c rest
  plain_inodes v c (nice w value d range rest) = plain_inodes w d rest
  plain_inodes v c (wakes w chan d range rest) = plain_inodes w d rest
  plain_inodes v c (dated w time d range rest) = plain_inodes _ d rest
  plain_inodes v c (buries w d e grave rest) = plain_inodes (without_process w d) e rest

  pub kill_inodes : (v : World) (n : ℕ) → (kill_to v s n).state.inodes ≡ v.inodes
  unfolding kill_to
  kill_inodes v n = inodes_when (length (meant_in (is_reached s (process_of v s)) v.processes) == 0) _ _ v.inodes refl refl

  pub break_inodes : (v : World) (at : ℕ) → (break_at v s at).state.inodes ≡ v.inodes
  unfolding break_at
  break_inodes v at = inodes_when _ _ _ v.inodes refl refl

-- the inode of a program that the tests have let through
abbrev ino_of : Result Program Errno → ℕ
ino_of (Ok program) = program.ino
ino_of (Err e) = 0

-- What is read off the stores is what every change at a key of the disk leaves.
module _ {X : Type 0} (pick : Stores → X) (dev : ℕ)
    (law : (old new : Stores) (key : ℕ) → device_of old key ≡ dev → OnItsDisk old new key → pick new ≡ pick old) (base : World) (s : ℕ)
  where
    abbrev On : ℕ → Type 0
    On key = IsOn dev base.inodes.store key

    pub record IsFar (v : World) : Type 0 where
      pub same : pick v.inodes.store ≡ pick base.inodes.store
      pub counts : counts v.inodes.store ≡ counts base.inodes.store

    far_key : (v w : World) (key : ℕ) → On key → counts w.inodes.store ≡ counts v.inodes.store
        → OnItsDisk v.inodes.store w.inodes.store key → IsFar v → IsFar w
    far_key v w key here count only k = record {
      same = law v.inodes.store w.inodes.store key (device_counted v.inodes.store base.inodes.store key k.counts ∙ here) only ∙ k.same;
      counts = count ∙ k.counts;
    }

    far_when : (b : Bool) (x y : Comes) → IsFar x.state → IsFar y.state → IsFar (cond b x y).state
    far_when true x y p q = p
    far_when false x y p q = q

    -- a read of a file, and a reference that goes
    moved_far : {Memory : Type 0} (v : World) (ino : ℕ) (m : Moving Memory) → On ino → IsFar v → IsFar (exec.with_moved v ino m)
    moved_far v ino m here k =
        far_key v (exec.with_moved v ino m) ino here (counts_set v.inodes.store ino m.room m.node)
        (node_there v.inodes.store ino m.node m.room) k

    gone_far : (v : World) (ino : ℕ) → On ino → IsFar v → IsFar (let_go v ino)
    gone_far v ino here k =
        far_key v (let_go v ino) ino here (put_back_counts v.inodes ino)
        (put_there v.inodes.store ino (slice_index v.inodes.references ino) (node_numbered v.inodes.store ino)) k

    -- the tests of exec
    pub record HasTested (t : exec.Tested) : Type 0 where
      pub far : IsFar t.world
      pub texts : t.world.texts ≡ base.texts
      pub program : (p : Program) → t.answer ≡ Ok p → On p.ino

    check_far : {A : Type 0} (now : World) (r : Result A Errno) (next : A → exec.Tested) → IsFar now → now.texts ≡ base.texts
        → ((a : A) → HasTested (next a)) → HasTested (exec.check now r next)
    check_far now (Ok a) next k texts h = h a
    check_far now (Err e) next k texts h = record { far = k; texts = texts; program = λ p is. absurd (cc is) }

    header_far : (now : World) (ino : ℕ) (args : List (List ℕ)) (head : Moving (List ℕ)) → On ino → IsFar now → now.texts ≡ base.texts
        → HasTested (exec.tests_header now ino args head)
    header_far now ino args head here k texts =
        let h : Header = header_of head.memory in
        let out : World = let_go now ino in
        let left : IsFar out = gone_far now ino here k in
        check_far out (exec.answer_to head.error) _ left texts (λ read.
        check_far out (must ENOEXEC ((head.done == 16) && exec.is_magic (plan_of h))) _ left texts (λ program.
        check_far out (must ETXTBSY (not (exec.is_busy now ino h))) _ left texts (λ free.
        check_far out (exec.or_no_memory (plan_of h)) _ left texts (λ plan.
        check_far out (must ENOMEM (not (is_refused (exec.text_clicks_in now.texts ino plan) (exec.data_clicks plan) stack_clicks now.limit)))
        _ left texts (λ fits. record { far = k; texts = texts; program = λ p is. subst On (ap ino_of is) here })))))

    file_far : (now : World) (ino list : ℕ) → On ino → IsFar now → now.texts ≡ base.texts → HasTested (exec.tests_file now s ino list)
    file_far now ino list here k texts =
        let q : Process = process_of now s in
        let node : Node = node_at now ino in
        let out : World = let_go now ino in
        let left : IsFar out = gone_far now ino here k in
        let head : Moving (List ℕ) = exec.header_read now ino in
        check_far out (permission node (user_of q) Execute) _ left texts (λ may.
        check_far out (must EACCES (file_type node.mode == 0)) _ left texts (λ plain.
        check_far out (arguments (image_of now.texts q) list) _ left texts (λ args.
        header_far (exec.with_moved now ino head) ino args head here (moved_far now ino head here k) texts)))

    pub tests_far : (mounts : MountTable) (name list : ℕ) → All On (exec_named mounts base s name) → HasTested (exec.tests mounts base s name list)
    tests_far mounts name list = by found.answer
      where
        p : Process
        p = process_of base s

        found : Finding ℕ
        found = find_in base.inodes mounts (user_of p) p.u.dir (name_at (image_of base.texts p) name)

        now : World
        now = with_inodes base found.inodes

        still : found.inodes.store ≡ base.inodes.store
        still = finding_store base.inodes _

        far : IsFar now
        far = record { same = ap pick still; counts = ap counts still }

        by : (r : Result ℕ Errno) → All On (named_by r) → HasTested (exec.check now r (λ ino. exec.tests_file now s ino list))
        by (Ok ino) named = file_far now ino list (All-head On ino [] named) far refl
        by (Err e) named = record { far = far; texts = refl; program = λ p is. absurd (cc is) }

    -- the new program
    executes_far : (v : World) (u : UArea) (program : Program) → On program.ino → IsFar v → IsFar (exec.executes v s u program).state
    executes_far v u program here k =
        let m : Moving Image = exec.data_read v s program in
        let read : World = exec.with_moved v program.ino m in
        let moved : IsFar read = moved_far v program.ino m here k in
        let begun : World = change read s (λ p. exec.begins u p (node_at v program.ino) program m.memory.data) in
        gone_far begun program.ino here (record { same = moved.same; counts = moved.counts })

    reads_far : (b : Bool) (v : World) (program : Program) → On program.ino → IsFar v → IsFar (exec.reads_text b v s program)
    reads_far true v program here k =
        let moved : IsFar (exec.with_moved v program.ino (exec.text_read v program)) =
        moved_far v program.ino (exec.text_read v program) here k in
        record { same = moved.same; counts = moved.counts }
    reads_far false v program here k = k

    abbrev goes_on : Program → UArea → World → Bool → Comes
    goes_on program u placed new =
        does (effect.Image s (exec.image_clicks program.plan) placed)
        (exec.executes (exec.reads_text new placed s program) s u program)

    placed_far : (v : World) (u : UArea) (program : Program) (b : Bool) → On program.ino → IsFar v → IsFar (goes_on program u v b).state
    placed_far v u program b here k = executes_far (exec.reads_text b v s program) u program here (reads_far b v program here k)

    alloc_far : (v : World) (u : UArea) (program : Program) (o : Option ℕ) → On program.ino → IsFar v
        → IsFar (xalloc_by v s program.ino program.text_clicks o (goes_on program u)).state
    alloc_far v u program (Some k) here far =
        placed_far (shares_text v s k) u program false here (record { same = far.same; counts = far.counts })
    alloc_far v u program None here far =
        placed_far (makes_text v s program.ino program.text_clicks) u program true here (record { same = far.same; counts = far.counts })

    begins_far : (v : World) (u : UArea) (program : Program) → On program.ino → IsFar v → IsFar (exec.begins_anew v s u program).state
    begins_far v u program here k =
        far_when (program.text_clicks == 0) (goes_on program u v false)
        (xalloc_by v s program.ino program.text_clicks (entry_of v.texts program.ino) (goes_on program u))
        (placed_far v u program false here k) (alloc_far v u program (entry_of v.texts program.ino) here k)

    -- the old one goes, with its text
    pub left_far : (v : World) (k : ℕ) (sticky : Bool) → On (text_of v.texts k).ino → IsFar v → IsFar (leaves_text v s k sticky)
    left_far v k sticky here far = by (goes (text_of v.texts k) sticky)
      where
        left : World
        left = change (record v { texts = set v.texts k (remaining sticky (get_or v.texts k None)) }) s without_text

        still : IsFar left
        still = record { same = far.same; counts = far.counts }

        by : (b : Bool) → IsFar (cond b (let_go left (text_of v.texts k).ino) left)
        by true = gone_far left (text_of v.texts k).ino here still
        by false = still

    bare_far : (left : World) (program : Program) → On program.ino → IsFar left
        → IsFar (logs (Bare s) (exec.begins_anew (change left s exec.bared) s (process_of left s).u program)).state
    bare_far left program here k =
        begins_far (change left s exec.bared) (process_of left s).u program here (record { same = k.same; counts = k.counts })

    loads_far : (v : World) (program : Program) → ((k : ℕ) → (process_of v s).text ≡ Some k → On (text_of v.texts k).ino) → On program.ino
        → IsFar v → IsFar (exec.loads v s program).state
    loads_far v program text here k = by (process_of v s).text refl
      where
        by : (o : Option ℕ) → (process_of v s).text ≡ o
            → IsFar (xfree v s o (λ left. logs (Bare s) (exec.begins_anew (change left s exec.bared) s (process_of left s).u program))).state
        by None is = bare_far v program here k
        by (Some entry) is =
            bare_far (leaves_text v s entry (is_sticky v entry)) program here (left_far v entry (is_sticky v entry) (text entry is) k)

    -- where the text of the process stands then
    pub tested_text : (mounts : MountTable) (name list : ℕ) → All On (exec_named mounts base s name)
        → ((k : ℕ) → (process_of base s).text ≡ Some k → On (text_of base.texts k).ino) → (k : ℕ)
        → (process_of (exec.tests mounts base s name list).world s).text ≡ Some k
        → On (text_of (exec.tests mounts base s name list).world.texts k).ino
    tested_text mounts name list named text k has =
        let is : process_of (exec.tests mounts base s name list).world s ≡ process_of base s =
        ap (λ ps. unwrap_or (get_or ps s None) no_process) (tests_processes mounts base s name list) in
        subst (λ (texts : List (Option Text)). On (text_of texts k).ino) (sym (tests_far mounts name list named).texts)
        (text k (ap (λ (p : Process). p.text) (sym is) ∙ has))

    pub exec_far : (mounts : MountTable) (name list : ℕ) → All On (exec_named mounts base s name)
        → ((k : ℕ) → (process_of base s).text ≡ Some k → On (text_of base.texts k).ino) → IsFar (exec.exec_file mounts base s name list).state
    unfolding exec.exec_file
    exec_far mounts name list named text = by t.answer tested.program
      where
        t : exec.Tested
        t = exec.tests mounts base s name list

        tested : HasTested t
        tested = tests_far mounts name list named

        by : (r : Result Program Errno) → ((p : Program) → r ≡ Ok p → On p.ino) → IsFar (exec.done_by t.world s r).state
        by (Ok program) here = loads_far t.world program (tested_text mounts name list named text) (here program refl) tested.far
        by (Err e) here = tested.far

    -- the end of a process
    pub ended_far : (status : ℕ) → On (process_of base s).u.dir → ((k : ℕ) → (process_of base s).text ≡ Some k → On (text_of base.texts k).ino)
        → IsFar (end_proc base s status).state
    unfolding end_proc
    ended_far status here text = by (process_of base s).text refl
      where
        dir : ℕ
        dir = (process_of base s).u.dir

        left : World
        left = leaves base s status

        still : IsFar left
        still = far_key base left dir here (put_back_counts base.inodes dir)
            (put_there base.inodes.store dir (slice_index base.inodes.references dir) (node_numbered base.inodes.store dir))
            (record { same = refl; counts = refl })

        by : (o : Option ℕ) → (process_of base s).text ≡ o → IsFar (xfree left s o (λ now. dies now s)).state
        by None is = record { same = still.same; counts = still.counts }
        by (Some entry) is =
            let gone : IsFar (leaves_text left s entry (is_sticky left entry)) =
            left_far left entry (is_sticky left entry) (text entry is) still in
            record { same = gone.same; counts = gone.counts }

    pub end_far : (status : ℕ) → On (process_of base s).u.dir → ((k : ℕ) → (process_of base s).text ≡ Some k → On (text_of base.texts k).ino)
        → pick (end_proc base s status).state.inodes.store ≡ pick base.inodes.store
    end_far status here text = (ended_far status here text).same

-- each row
row_far : {X : Type 0} (pick : Stores → X) (dev : ℕ)
    → ((old new : Stores) (key : ℕ) → device_of old key ≡ dev → OnItsDisk old new key → pick new ≡ pick old)
    → (call : ProcessCall) (mounts : MountTable) (w : World) (s : ℕ) (args : List ℕ) → KeepsTo w s dev (process_named call mounts w s args)
    → pick (process_row call mounts w s args).state.inodes.store ≡ pick w.inodes.store
row_far pick dev law process.Exec mounts w s a keeps =
    (exec_far pick dev law w s mounts (slice_index a 0) (slice_index a 1) keeps.named keeps.text).same
row_far pick dev law process.Break mounts w s a keeps = ap (λ (n : Inodes). pick n.store) (break_inodes s w (slice_index a 0))
row_far pick dev law process.Kill mounts w s a keeps = ap (λ (n : Inodes). pick n.store) (kill_inodes s w (slice_index a 0))
row_far pick dev law call mounts w s a keeps = ap (λ (n : Inodes). pick n.store) (plain_inodes s w _ (plain_row call tt mounts s w a))

pub process_leaves_other : (call : ProcessCall) (mounts : MountTable) (w : World) (s : ℕ) (args : List ℕ)
    → LeavesOther w s (process_named call mounts w s args) (process_row call mounts w s args)
process_leaves_other call mounts w s args = record {
  second = row_far (λ (stores : Stores). stores.second) 0 on_root call mounts w s args;
  root = row_far (λ (stores : Stores). stores.root) 1 on_second call mounts w s args;
}

-- Calls on processes: who waits on a file afterwards waited before, and a call that comes to an answer waits for nothing.
use Rattle.std.proofs.Common.{◌≡◌, ◌<◌, ◌≤◌, ◌&&◌, ◌==◌, ◌∙◌, not, is_none, ℕ, Bool, true, false, cond, List, [], length, get_or, set, map, Option, Some, None, slice_index, refl, sym, ap, subst, inl, inr, arith, unwrap_or}
use Rattle.std.specs.Prelude.{Result, Ok, Err, bit_and, slice_index_or, slice_set}
use Rattle.std.proofs.lemmas.Bool.{cases_lt, cases_eq}
use Rattle.std.proofs.lemmas.List.{get_or_past, get_or-set_same, get_or-set_other, length-set}
use Rattle.std.proofs.lemmas.List.FromFn.{get_or-map-range_with_len, length-map-range_with_len}
use Rattle.std.proofs.Math.ListN.{get_or-map}
use Rattle.v6_base.specs.declared.entry.Entry.TheVariants.{Bare}
use Rattle.v6_base.specs.declared.errno.Errno.{Errno}
use Rattle.fs_codec.specs.Store.{Node}
use Rattle.fs_codec.specs.declared.modes.TheConstants.{ISUID, ISGID}
use Rattle.fs_tree.specs.Finding.{with_reference}
use Rattle.u_area.specs.declared.layout.TheConstants.{NOTHING_PENDING, DISK_WAIT}
use Rattle.u_area.specs.declared.area.UArea.{UArea}
use Rattle.u_area.specs.Pending.{is_on_files}
use Rattle.seg_regs.specs.Sizes.{is_refused}
use Rattle.pick_rules.specs.Effects as effect
use Rattle.proc_tab.specs.Processes.{lowest}
use Rattle.mount_tab.specs.Mounted.{MountTable}
use Rattle.sys_procs.specs.declared.program.Program.{Program}
use Rattle.sys_procs.specs.Process.{Process, no_process}
use Rattle.sys_procs.specs.World.{World, process_of, change, without_process, members, let_go}
use Rattle.sys_procs.specs.TextTable.{entry_of, with_text, text_of}
use Rattle.sys_procs.specs.Texts.{free_entry, new_text, with_user, with_entry, remaining, goes, without_text, xfree, xalloc, xalloc_by, leaves_text, is_sticky, shares_text, makes_text}
use Rattle.sys_procs.specs.Comes.{Comes, does, logs}
use Rattle.sys_procs.specs.Tests.{node_at}
use Rattle.sys_procs.specs.Stack.{first_stack}
use Rattle.sys_procs.specs.Break.{sized, expands, clicks_up_to, break_at}
use Rattle.sys_procs.specs.ExecFile.{Tested, tests, with_moved, data_read, reads_text, image_clicks, as_owner, in_its_group, begun_area, bared, begins, executes, begins_anew, loads, done_by, exec_file}
use Rattle.sys_procs.specs.Times.{with_time}
use Rattle.sys_procs.specs.Fork.{copied, past_word, next_pid, with_child, fork_into, fork_one}
use Rattle.sys_procs.specs.Exit.{slot_of, adopted, strays_adopted, ended, dead, dies, leaves, end_proc}
use Rattle.sys_procs.specs.Resume.{awake, resume_proc}
use Rattle.sys_procs.specs.Signals.{is_reached, meant_in, signalled, signalled_if, all_signalled, kill_to}
use Rattle.sys_procs.proofs.TestedSlots.{tests_processes}
use Rattle.abstract_unix.specs.declared.calls.ProcessCall.{ProcessCall}
use Rattle.abstract_unix.specs.declared.calls.ProcessCall.TheVariants as process
use Rattle.abstract_unix.specs.Calls.{process_row}
use Rattle.abstract_unix.proofs.PendingRows.{is_sleep}
use Rattle.abstract_unix.proofs.ProcessRows.{Plain, gives, refuses, waits, changes, due, nice, wakes, dated, buries, plain_row, resume_plain}
use Rattle.v6_base.specs.declared.entry.Entry.{Entry}
use Rattle.abstract_unix.proofs.GoingOnLemmas.{Waiting, WaitedIn, AllWaited, waited_same, all_waited_same, all_waited_then, like_waited, apart_waited, user_waited, gone_waited, all_waited_put}

-- What has a fact where a slot is set: the new one has it, and so has what is there where there is no such slot.
pub set_either : {A : Type 0} (P : A → Type 0) (xs : List A) (s : ℕ) (x d : A) → P x → P (get_or xs s d)
    → P (get_or (set xs s x) s d)
set_either P xs s x d new old = elim (cases_lt s (length xs)) [
  | inl low ↦ subst P (sym (get_or-set_same xs s x d low)) new
  | inr past ↦
      subst P (get_or_past xs s d past ∙ sym (get_or_past (set xs s x) s d (let same = length-set xs s x in omega (arith, past, same)))) old
]

-- who is in a slot, if anybody, waits for nothing
abbrev IsFreeIn : Option Process → Type 0
IsFreeIn o = (unwrap_or o no_process).u.pending ≡ NOTHING_PENDING

module _ (ps : List (Option Process)) (s : ℕ) where
  -- A world in which the process that calls waits for nothing, and in which who waits in a call on a file waited in it before.
  pub record IsFree (w : World) : Type 0 where
    pub waited : AllWaited ps w.processes
    pub free : (process_of w s).u.pending ≡ NOTHING_PENDING

  pub record IsEased (c : Comes) : Type 0 where
    pub waited : AllWaited ps c.state.processes
    pub user : is_sleep c.answer ≡ false → (process_of c.state s).u.pending ≡ NOTHING_PENDING

  eased : (c : Comes) → IsFree c.state → IsEased c
  eased c is = record { waited = is.waited; user = λ awake. is.free }

  logged_eased : (entry : Entry) (c : Comes) → IsEased c → IsEased (logs entry c)
  logged_eased entry c e = record { waited = e.waited; user = e.user }

  eased_if : (b : Bool) (x y : Comes) → IsEased x → IsEased y → IsEased (cond b x y)
  eased_if true x y p q = p
  eased_if false x y p q = q

  -- the same processes
  same_free : (w v : World) → v.processes ≡ w.processes → IsFree w → IsFree v
  same_free w v same is = record {
    waited = subst (AllWaited ps) (sym same) is.waited;
    free = ap (λ l. (unwrap_or (get_or l s None) no_process).u.pending) same ∙ is.free;
  }

  -- the process that calls is changed, and waits for nothing still
  change_free : (w : World) (rule : Process → Process) → IsFree w → (rule (process_of w s)).u.pending ≡ NOTHING_PENDING
      → IsFree (change w s rule)
  change_free w rule is free = record {
    waited = all_waited_then ps w.processes _ is.waited (all_waited_put w.processes s (Some (rule (process_of w s))) (user_waited _ _ free));
    free = set_either IsFreeIn w.processes s (Some (rule (process_of w s))) None free is.free;
  }

  -- a slot is cleared
  cleared_free : (w : World) (d : ℕ) → IsFree w → IsFree (without_process w d)
  cleared_free w d is = record {
    waited = all_waited_then ps w.processes _ is.waited (all_waited_put w.processes d None (gone_waited _));
    free = elim (cases_eq s d) [
      | inl here ↦ ap (λ n. (unwrap_or (get_or (set w.processes d None) n None) no_process).u.pending) here ∙ set_either IsFreeIn w.processes d None None refl
          (ap (λ n. (unwrap_or (get_or w.processes n None) no_process).u.pending) (sym here) ∙ is.free)
      | inr other ↦ ap (λ o. (unwrap_or o no_process).u.pending) (get_or-set_other w.processes d s None None other) ∙ is.free
    ];
  }

  -- a call that wants no place for an image: where it sleeps, its process waits in no call on a file, and not for the disk
  apart : (n : ℕ) → is_on_files n ≡ false → (n == DISK_WAIT) ≡ false → Waiting n → ⊥
  apart n none other (inl (inl (inl one))) = let on : is_on_files n ≡ true = ap is_on_files one in cc (none, on)
  apart n none other (inl (inl (inr two))) = let on : is_on_files n ≡ true = ap is_on_files two in cc (none, on)
  apart n none other (inl (inr (inl three))) = let on : is_on_files n ≡ true = ap is_on_files three in cc (none, on)
  apart n none other (inl (inr (inr four))) = let on : is_on_files n ≡ true = ap is_on_files four in cc (none, on)
  apart n none other (inr disk) = let on : (n == DISK_WAIT) ≡ true = ap (λ m. m == DISK_WAIT) disk in cc (other, on)

  plain_eased : (w : World) (c : Comes) → Plain s w c → IsFree w → IsEased c
  plain_eased w c (gives v r0 r1) is = eased _ is
  plain_eased w c (refuses v e) is = eased _ is
  plain_eased w c (waits v rule pri chan same sleeping sleep range) is =
      let q : Process = rule (process_of w s) in
      record {
        waited = all_waited_then ps w.processes _ is.waited
            (all_waited_put w.processes s (Some q) (apart_waited _ q (apart q.u.pending sleeping.apart sleeping.other)));
        user = λ awake. absurd (cc awake);
      }
  plain_eased w c (changes v rule d same pending rest) is =
      plain_eased (change w s rule) c rest (change_free w rule is (pending ∙ is.free))
  plain_eased w c (due v tout d rest) is =
      plain_eased (record w { clock = record w.clock { tout = tout } }) c rest (same_free w _ refl is)
  plain_eased w c (nice v value d range rest) is = logged_eased _ d (plain_eased w d rest is)
  plain_eased w c (wakes v chan d range rest) is = logged_eased _ d (plain_eased w d rest is)
  plain_eased w c (dated v time d range rest) is =
      logged_eased _ d (plain_eased (with_time w time) d rest (same_free w _ refl is))
  plain_eased w c (buries v k d grave rest) is =
      logged_eased _ d (plain_eased (without_process w k) d rest (cleared_free w k is))

  -- exec: a text goes, and another one comes
  let_go_free : (b : Bool) (w : World) (ino : ℕ) → IsFree w → IsFree (cond b (let_go w ino) w)
  let_go_free true w ino is = same_free w _ refl is
  let_go_free false w ino is = is

  left_free : (w : World) (k : ℕ) → IsFree w → IsFree (leaves_text w s k (is_sticky w k))
  left_free w k is =
      let sticky = is_sticky w k in
      let entry = record w { texts = slice_set w.texts k (remaining sticky (slice_index_or w.texts k None)) } in
      let_go_free (goes (text_of w.texts k) sticky) (change entry s without_text) (text_of w.texts k).ino
      (change_free entry without_text (same_free w entry refl is) is.free)

  freed_eased : (w : World) (text : Option ℕ) (next : World → Comes) → IsFree w → ((v : World) → IsFree v → IsEased (next v))
      → IsEased (xfree w s text next)
  freed_eased w None next is rest = rest w is
  freed_eased w (Some k) next is rest =
      let last = rest (leaves_text w s k (is_sticky w k)) (left_free w k is) in
      record { waited = last.waited; user = last.user }

  taken_eased_by : (w : World) (ino size : ℕ) (o : Option ℕ) (next : World → Bool → Comes) → IsFree w
      → ((v : World) (b : Bool) → IsFree v → IsEased (next v b))
      → IsEased (xalloc_by w s ino size o next)
  taken_eased_by w ino size (Some k) next is goes_on =
      let entry = record w { texts = with_user w.texts k } in
      let last = goes_on (shares_text w s k) false (change_free entry (with_entry k) (same_free w entry refl is) is.free) in
      record { waited = last.waited; user = last.user }
  taken_eased_by w ino size None next is goes_on =
      let k = free_entry w.texts in
      let entry = record w { texts = with_text w.texts k (new_text ino size); inodes = with_reference w.inodes ino } in
      let last = goes_on (makes_text w s ino size) true (change_free entry (with_entry k) (same_free w entry refl is) is.free) in
      record { waited = last.waited; user = last.user }

  taken_eased : (w : World) (ino size : ℕ) (next : World → Bool → Comes) → IsFree w
      → ((v : World) (b : Bool) → IsFree v → IsEased (next v b))
      → IsEased (xalloc w s ino size next)
  taken_eased w ino size next is goes_on = eased_if (size == 0) _ _ (goes_on w false is) (taken_eased_by w ino size (entry_of w.texts ino) next is goes_on)

  read_free : (b : Bool) (w : World) (program : Program) → IsFree w → IsFree (reads_text b w s program)
  read_free true w program is = same_free w _ refl is
  read_free false w program is = is

  -- the program begins
  owner_pending : (node : Node) (p : Process) → (as_owner node p).u.pending ≡ p.u.pending
  owner_pending node p = by (not (bit_and node.mode ISUID == 0) && not (p.u.uid == 0))
    where
      by : (b : Bool)
          → (cond b (record p { u = record p.u { uid = node.uid }; row = record p.row { uid = node.uid } }) p).u.pending ≡ p.u.pending
      by true = refl
      by false = refl

  group_pending : (node : Node) (p : Process) → (in_its_group node p).u.pending ≡ p.u.pending
  group_pending node p = by (not (bit_and node.mode ISGID == 0))
    where
      by : (b : Bool) → (cond b (record p { u = record p.u { gid = node.gid } }) p).u.pending ≡ p.u.pending
      by true = refl
      by false = refl

  begins_pending : (u : UArea) (p : Process) (node : Node) (program : Program) (read : List ℕ)
      → (begins u p node program read).u.pending ≡ u.pending
  begins_pending u p node program read =
      let begun : Process = record p { u = begun_area u program; «data» = read; stack = first_stack program.arguments } in
      group_pending node (as_owner node begun) ∙ owner_pending node begun

  executes_eased : (w : World) (u : UArea) (program : Program) → IsFree w → u.pending ≡ NOTHING_PENDING → IsEased (executes w s u program)
  executes_eased w u program is none =
      let m = data_read w s program in
      let read : World = with_moved w program.ino m in
      let rule : Process → Process = λ p. begins u p (node_at w program.ino) program m.memory.data in
      let begun = change_free read rule (same_free w read refl is) (begins_pending u (process_of read s) (node_at w program.ino) program m.memory.data ∙ none) in
      eased _ (same_free (change read s rule) _ refl begun)

  begins_eased : (w : World) (u : UArea) (program : Program) → IsFree w → u.pending ≡ NOTHING_PENDING → IsEased (begins_anew w s u program)
  begins_eased w u program is none =
      let places : World → Bool → Comes = λ placed new.
      does (effect.Image s (image_clicks program.plan) placed) (executes (reads_text new placed s program) s u program) in
      taken_eased w program.ino program.text_clicks places is (λ placed new more.
      let last = executes_eased (reads_text new placed s program) u program (read_free new placed program more) none in
      record { waited = last.waited; user = last.user })

  loads_eased : (w : World) (program : Program) → IsFree w → IsEased (loads w s program)
  loads_eased w program is =
      let fills : World → Comes = λ left. logs (Bare s) (begins_anew (change left s bared) s (process_of left s).u program) in
      freed_eased w (process_of w s).text fills is (λ left more.
      let last = begins_eased (change left s bared) (process_of left s).u program (change_free left bared more refl) more.free in
      record { waited = last.waited; user = last.user })

  done_eased : (w : World) (a : Result Program Errno) → IsFree w → IsEased (done_by w s a)
  done_eased w (Ok program) is = loads_eased w program is
  done_eased w (Err e) is = eased _ is

  exec_eased : (mounts : MountTable) (w : World) (name list : ℕ) → IsFree w → IsEased (exec_file mounts w s name list)
  unfolding exec_file
  exec_eased mounts w name list is =
      let t : Tested = tests mounts w s name list in
      done_eased t.world t.answer (same_free w t.world (tests_processes mounts w s name list) is)

  -- break, and the growth of a stack
  expands_eased : (w : World) (d n : ℕ) → IsFree w → IsEased (expands w s d n)
  expands_eased w d n is = eased _ (change_free w (sized d n) is is.free)

  break_eased : (w : World) (at : ℕ) → IsFree w → IsEased (break_at w s at)
  unfolding break_at
  break_eased w at is =
      let p : Process = process_of w s in
      let d = clicks_up_to p.u.text_size at in
      eased_if (is_refused p.u.text_size d p.u.stack_size w.limit) _ _ (eased _ is) (expands_eased w d p.u.stack_size is)

-- A signal is sent to some: who waits in a call on a file waited in it before.
signalled_at : (who : ℕ → Process → Bool) (n : ℕ) (ps : List (Option Process)) (r : ℕ) → r < 50
    → get_or (all_signalled who n ps) r None ≡ signalled_if who n r (get_or ps r None)
signalled_at who n ps r low = get_or-map-range_with_len (λ s. signalled_if who n s (get_or ps s None)) 0 50 r r None low (omega arith)

signalled_past : (who : ℕ → Process → Bool) (n : ℕ) (ps : List (Option Process)) (r : ℕ) → 50 ≤ r
    → get_or (all_signalled who n ps) r None ≡ None
signalled_past who n ps r past =
    get_or_past (all_signalled who n ps) r None
    (let long = length-map-range_with_len (λ s. signalled_if who n s (get_or ps s None)) 0 50 in omega (arith, past, long))

signalled_waited : (who : ℕ → Process → Bool) (n r : ℕ) (o : Option Process) → WaitedIn o (signalled_if who n r o)
signalled_waited who n r None = gone_waited None
signalled_waited who n r (Some p) = by (who r p)
  where
    by : (b : Bool) → WaitedIn (Some p) (Some (cond b (signalled n p) p))
    by true = like_waited p (signalled n p) refl refl refl refl
    by false = waited_same (Some p)

signalled_pending : (who : ℕ → Process → Bool) (n r : ℕ) (o : Option Process)
    → (unwrap_or (signalled_if who n r o) no_process).u.pending ≡ (unwrap_or o no_process).u.pending
signalled_pending who n r None = refl
signalled_pending who n r (Some p) = by (who r p)
  where
    by : (b : Bool) → (cond b (signalled n p) p).u.pending ≡ p.u.pending
    by true = refl
    by false = refl

pub key_waited : (who : ℕ → Process → Bool) (n : ℕ) (ps : List (Option Process)) → AllWaited ps (all_signalled who n ps)
key_waited who n ps r = elim (cases_lt r 50) [
  | inl low ↦ subst (WaitedIn (get_or ps r None)) (sym (signalled_at who n ps r low)) (signalled_waited who n r (get_or ps r None))
  | inr past ↦ subst (WaitedIn (get_or ps r None)) (sym (signalled_past who n ps r past)) (gone_waited (get_or ps r None))
]

module _ (ps : List (Option Process)) (s : ℕ) where
  signalled_free : (w : World) (who : ℕ → Process → Bool) (n : ℕ) → IsFree ps s w
      → IsFree ps s (record w { processes = all_signalled who n w.processes })
  signalled_free w who n is = record {
    waited = all_waited_then ps w.processes (all_signalled who n w.processes) is.waited (key_waited who n w.processes);
    free = elim (cases_lt s 50) [
      | inl low ↦ ap (λ o. (unwrap_or o no_process).u.pending) (signalled_at who n w.processes s low)
          ∙ signalled_pending who n s (get_or w.processes s None) ∙ is.free
      | inr past ↦ ap (λ o. (unwrap_or o no_process).u.pending) (signalled_past who n w.processes s past)
    ];
  }

  kill_eased : (w : World) (n : ℕ) → IsFree ps s w → IsEased ps s (kill_to w s n)
  unfolding kill_to
  kill_eased w n is =
      let who = is_reached s (process_of w s) in
      eased_if ps s (length (meant_in who w.processes) == 0) _ _ (eased ps s _ is) (eased ps s _ (signalled_free w who n is))

  -- each row
  row_eased : (call : ProcessCall) (mounts : MountTable) (w : World) (args : List ℕ) → IsFree ps s w
      → IsEased ps s (process_row call mounts w s args)
  row_eased process.Exec mounts w a is = exec_eased ps s mounts w (slice_index a 0) (slice_index a 1) is
  row_eased process.Break mounts w a is = break_eased ps s w (slice_index a 0) is
  row_eased process.Kill mounts w a is = kill_eased w (slice_index a 0) is
  row_eased call mounts w a is = plain_eased ps s w _ (plain_row call tt mounts s w a) is

  -- a sleep or a wait that goes on
  resume_eased : (w : World) → AllWaited ps w.processes → IsEased ps s (resume_proc w s)
  resume_eased w waited =
      let now : World = change w s awake in
      let is : IsFree ps s now = record {
        waited = all_waited_then ps w.processes _ waited (all_waited_put w.processes s (Some (awake (process_of w s))) (user_waited _ _ refl));
        free = awake_free w.processes;
      } in
      plain_eased ps s now _ (resume_plain s w) is
    where
      awake_free : (qs : List (Option Process))
          → (unwrap_or (get_or (set qs s (Some (awake (unwrap_or (get_or qs s None) no_process)))) s None) no_process).u.pending ≡ NOTHING_PENDING
      awake_free qs =
          let q : Option Process = Some (awake (unwrap_or (get_or qs s None) no_process)) in
          elim (cases_lt s (length qs)) [
            | inl low ↦ ap (λ o. (unwrap_or o no_process).u.pending) (get_or-set_same qs s q None low)
            | inr past ↦ ap (λ o. (unwrap_or o no_process).u.pending) (get_or_past (set qs s q) s None (let same = length-set qs s q in omega (arith, past, same)))
          ]

  -- fork: the child waits for nothing, and its parent neither
  born_free : (w : World) (child pid : ℕ) → IsFree ps s w → IsFree ps s (with_child w s child pid)
  born_free w child pid is = record {
    waited = all_waited_then ps w.processes _ is.waited (all_waited_put w.processes child (Some (copied (process_of w s) pid)) (user_waited _ _ is.free));
    free = elim (cases_eq s child) [
      | inl here ↦ ap (λ n. (unwrap_or (get_or (set w.processes child (Some (copied (process_of w s) pid))) n None) no_process).u.pending) here
          ∙ set_either IsFreeIn w.processes child (Some (copied (process_of w s) pid)) None is.free
          (ap (λ n. (unwrap_or (get_or w.processes n None) no_process).u.pending) (sym here) ∙ is.free)
      | inr other ↦ ap (λ o. (unwrap_or o no_process).u.pending) (get_or-set_other w.processes child s (Some (copied (process_of w s) pid)) None other) ∙ is.free
    ];
  }

  into_eased : (w : World) (o : Option ℕ) → IsFree ps s w → IsEased ps s (fork_into w s o)
  into_eased w None is = eased ps s _ (change_free ps s w past_word is is.free)
  into_eased w (Some child) is =
      let born = born_free w child (next_pid w) is in
      eased ps s _ (change_free ps s (with_child w s child (next_pid w)) past_word born born.free)

  fork_eased : (w : World) → IsFree ps s w → IsEased ps s (fork_one w s)
  unfolding fork_one
  fork_eased w is = into_eased w (lowest is_none (members w)) is

  -- exit: what is left is a zombie, and who is adopted is else as before
  adopted_waited : (pid : ℕ) (o : Option Process) → WaitedIn o (adopted pid o)
  adopted_waited pid None = gone_waited None
  adopted_waited pid (Some p) = by (p.row.ppid == pid)
    where
      by : (b : Bool) → WaitedIn (Some p) (Some (cond b (record p { row = record p.row { ppid = 1 } }) p))
      by true = like_waited p (record p { row = record p.row { ppid = 1 } }) refl refl refl refl
      by false = waited_same (Some p)

  all_adopted : (pid : ℕ) (qs : List (Option Process)) → AllWaited qs (map (adopted pid) qs)
  all_adopted pid qs r = subst (WaitedIn (get_or qs r None)) (sym (get_or-map (adopted pid) qs r None)) (adopted_waited pid (get_or qs r None))

  strays_waited : (b : Bool) (ppid : ℕ) (qs : List (Option Process)) → AllWaited qs (cond b (map (adopted ppid) qs) qs)
  strays_waited true ppid qs = all_adopted ppid qs
  strays_waited false ppid qs = all_waited_same qs

  dead_all_waited : (w : World) → IsFree ps s w → AllWaited ps (dead w s).processes
  dead_all_waited w is =
      let p : Process = process_of w s in
      let z : Process = record p { is_zombie = true; «data» = []; stack = [] } in
      let qs : List (Option Process) = set w.processes s (Some z) in
      let strays : List (Option Process) = strays_adopted (slot_of w p.row.ppid) p.row.ppid qs in
      all_waited_then ps qs _ (all_waited_then ps w.processes qs is.waited (all_waited_put w.processes s (Some z) (user_waited _ z is.free)))
      (all_waited_then qs strays _ (strays_waited (is_none (slot_of w p.row.ppid)) p.row.ppid qs) (all_adopted p.row.pid strays))

  freed_waited : (w : World) (text : Option ℕ) → IsFree ps s w
      → AllWaited ps (xfree w s text (λ left. dies left s)).state.processes
  freed_waited w None is = dead_all_waited w is
  freed_waited w (Some k) is = dead_all_waited (leaves_text w s k (is_sticky w k)) (left_free ps s w k is)

  ended_waited : (w : World) (status : ℕ) → IsFree ps s w → AllWaited ps (end_proc w s status).state.processes
  unfolding end_proc
  ended_waited w status is =
      let left = change_free ps s w (ended status) is is.free in
      freed_waited (leaves w s status) (process_of w s).text (same_free ps s (change w s (ended status)) (leaves w s status) refl left)

-- What each call leaves of a world whose process waits for nothing.
module _ (w : World) (s : ℕ) (free : (process_of w s).u.pending ≡ NOTHING_PENDING) where
  begun : IsFree w.processes s w
  begun = record { waited = all_waited_same w.processes; free = free }

  pub row_waited : (call : ProcessCall) (mounts : MountTable) (args : List ℕ) → AllWaited w.processes (process_row call mounts w s args).state.processes
  row_waited call mounts args = (row_eased w.processes s call mounts w args begun).waited

  pub process_user : (call : ProcessCall) (mounts : MountTable) (args : List ℕ) → is_sleep (process_row call mounts w s args).answer ≡ false
      → (process_of (process_row call mounts w s args).state s).u.pending ≡ NOTHING_PENDING
  process_user call mounts args awake = (row_eased w.processes s call mounts w args begun).user awake

  pub fork_waited : AllWaited w.processes (fork_one w s).state.processes
  fork_waited = (fork_eased w.processes s w begun).waited

  pub fork_user : is_sleep (fork_one w s).answer ≡ false → (process_of (fork_one w s).state s).u.pending ≡ NOTHING_PENDING
  fork_user awake = (fork_eased w.processes s w begun).user awake

  pub end_waited : (status : ℕ) → AllWaited w.processes (end_proc w s status).state.processes
  end_waited status = ended_waited w.processes s w status begun

-- A sleep or a wait goes on, whatever was waited for.
pub resume_waited : (w : World) (s : ℕ) → AllWaited w.processes (resume_proc w s).state.processes
resume_waited w s = (resume_eased w.processes s w (all_waited_same w.processes)).waited

pub resumed_user : (w : World) (s : ℕ) → is_sleep (resume_proc w s).answer ≡ false
    → (process_of (resume_proc w s).state s).u.pending ≡ NOTHING_PENDING
resumed_user w s awake = (resume_eased w.processes s w (all_waited_same w.processes)).user awake

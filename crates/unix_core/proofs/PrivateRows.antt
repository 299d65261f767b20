-- The calls on processes but for exec and break: each leaves the processes of other slots alone.
use Rattle.std.proofs.Common.{◌≡◌, ◌≢◌, ◌∙◌, ℕ, Bool, true, false, if◌then◌else◌, List, [], get_or, set, Option, Some, None, is_none, sym, ap}
use Rattle.std.specs.Prelude.{unwrap_or, slice_set, slice_index_or}
use Rattle.std.proofs.lemmas.List.{get_or-map}
use Rattle.v6_base.specs.declared.answer.Answer.{Answer}
use Rattle.v6_base.specs.declared.entry.Entry.{Entry}
use Rattle.v6_base.specs.declared.entry.Entry.TheVariants as line
use Rattle.proc_tab.specs.Processes.{IsLowest, Finds, lowest}
use Rattle.proc_tab.proofs.SearchLemmas.{lowest_finds}
use Rattle.sys_procs.specs.Process.{Process, no_process, member_of}
use Rattle.sys_procs.specs.World.{World, process_of, change, without_process, members, let_go}
use Rattle.sys_procs.specs.Comes.{Comes, comes, logs}
use Rattle.sys_procs.specs.Times.{with_time}
use Rattle.sys_procs.specs.Fork.{fork_one, fork_into, past_word, next_pid, with_child}
use Rattle.sys_procs.specs.Exit.{slot_of, strays_adopted, end_proc, leaves, dies, dead, ended}
use Rattle.sys_procs.specs.Resume.{resume_proc, awake}
use Rattle.sys_procs.specs.TextTable.{text_of}
use Rattle.sys_procs.specs.Texts.{goes, remaining, without_text, leaves_text, is_sticky, xfree}
use Rattle.abstract_unix.proofs.ProcessRows.{Plain, gives, refuses, waits, changes, due, nice, wakes, dated, buries, resume_plain}
use Rattle.abstract_unix.proofs.Owing.{some_within}
use Rattle.unix_core.proofs.PrivateSlots.{Spared, AllCarry, spared_then, spared_other, spared_unless, spared_adopted, spared_strays}

-- A call of another process has left a slot alone, and so had its parts before each effect.
pub record IsSparing (ps : List (Option Process)) (r : ℕ) (c : Comes) : Type 0 where
  pub effects : AllCarry (λ (w : World). Spared ps w.processes r) c.effects
  pub state : Spared ps c.state.processes r

-- who is in the slot of a process
member_here : (w : World) (r : ℕ) (q : Process) → get_or w.processes r None ≡ Some q
    → get_or (members w) r None ≡ member_of (Some q)
member_here w r q is =
    get_or-map member_of w.processes r None None (some_within w.processes r q is) ∙ ap member_of is

-- nobody is in a slot that is found as free
free_empty : (w : World) (child : ℕ) → IsLowest is_none (members w) child
    → (q : Process) → get_or w.processes child None ≡ Some q → q.is_zombie ≡ true
free_empty w child found q is = absurd (
    let never : false ≡ true =
    sym (ap is_none (member_here w child q is)) ∙ found.passes in
    cc never)

module _ (ps : List (Option Process)) (r s : ℕ) (other : r ≢ s) where
  pub spared_change : (w : World) (rule : Process → Process) → Spared ps w.processes r
      → Spared ps (change w s rule).processes r
  spared_change w rule h =
      spared_then ps w.processes (change w s rule).processes r h
      (spared_other w.processes s r (Some (rule (process_of w s))) other)

  pub sparing_comes : (w : World) (a : Answer) → Spared ps w.processes r → IsSparing ps r (comes w a)
  sparing_comes w a h = record { effects = tt; state = h }

  pub sparing_logs : (e : Entry) (rest : Comes) → IsSparing ps r rest → IsSparing ps r (logs e rest)
  sparing_logs e rest h = record { effects = (tt, h.effects); state = h.state }

  pub sparing_if : (b : Bool) (x y : Comes) → IsSparing ps r x → IsSparing ps r y → IsSparing ps r (if b then x else y)
  sparing_if true x y h k = h
  sparing_if false x y h k = k

  -- a call that wants no place for an image
  pub sparing_plain : (w : World) (c : Comes) → Plain s w c → Spared ps w.processes r → IsSparing ps r c
  sparing_plain w c (gives v r0 r1) h = sparing_comes w _ h
  sparing_plain w c (refuses v e) h = sparing_comes w _ h
  sparing_plain w c (waits v rule pri chan same sleeping is range) h = sparing_comes (change w s rule) _ (spared_change w rule h)
  sparing_plain w c (changes v rule d same pending rest) h = sparing_plain (change w s rule) c rest (spared_change w rule h)
  sparing_plain w c (due v tout d rest) h = sparing_plain (record w { clock = record w.clock { tout = tout } }) c rest h
  sparing_plain w c (nice v value d range rest) h = sparing_logs (line.Nice s value) d (sparing_plain w d rest h)
  sparing_plain w c (wakes v chan d range rest) h = sparing_logs (line.Wake chan) d (sparing_plain w d rest h)
  sparing_plain w c (dated v time d range rest) h = sparing_logs (line.Time time) d (sparing_plain (with_time w time) d rest h)
  sparing_plain w c (buries v k d grave rest) h =
      sparing_logs (line.Reap k) d (sparing_plain (without_process w k) d rest
      (spared_then ps w.processes (without_process w k).processes r h
      (spared_unless w.processes k r None (λ q is. ap (λ o. (unwrap_or o no_process).is_zombie) (sym is ∙ grave.at) ∙ grave.dead))))

  -- A text is left.
  spared_gone : (b : Bool) (w : World) (ino : ℕ) → Spared ps w.processes r → Spared ps (if b then let_go w ino else w).processes r
  spared_gone true w ino h = h
  spared_gone false w ino h = h

  pub sparing_xfree : (w : World) (o : Option ℕ) (next : World → Comes) → Spared ps w.processes r
      → ((v : World) → Spared ps v.processes r → IsSparing ps r (next v)) → IsSparing ps r (xfree w s o next)
  sparing_xfree w None next h rest = rest w h
  sparing_xfree w (Some k) next h rest =
      let sticky = is_sticky w k in
      let entry = record w { texts = slice_set w.texts k (remaining sticky (slice_index_or w.texts k None)) } in
      sparing_logs (line.Leave s k sticky) _
      (rest (leaves_text w s k sticky) (spared_gone (goes (text_of w.texts k) sticky) (change entry s without_text) (text_of w.texts k).ino (spared_change entry without_text h)))

  module _ (w : World) (h : Spared ps w.processes r) where
    sparing_into : (o : Option ℕ) → Finds is_none (members w) o → IsSparing ps r (fork_into w s o)
    sparing_into None found = sparing_comes (change w s past_word) _ (spared_change w past_word h)
    sparing_into (Some child) found =
        let born : World = with_child w s child (next_pid w) in
        record {
          effects = (h, tt);
          state = spared_change born past_word (spared_then ps w.processes born.processes r h
              (spared_unless w.processes child r _ (free_empty w child found)));
        }

    pub sparing_fork : IsSparing ps r (fork_one w s)
    unfolding fork_one
    sparing_fork = sparing_into (lowest is_none (members w)) (lowest_finds is_none (members w))

    spared_dead : Spared ps (dead w s).processes r
    spared_dead =
        let p : Process = process_of w s in
        let zombie : Process = record p { is_zombie = true; «data» = []; stack = [] } in
        let ended : List (Option Process) = set w.processes s (Some zombie) in
        let parent : Option ℕ = slot_of w p.row.ppid in
        let left : List (Option Process) = strays_adopted parent p.row.ppid ended in
        spared_then ps left (dead w s).processes r
        (spared_then ps ended left r
        (spared_then ps w.processes ended r h (spared_other w.processes s r (Some zombie) other))
        (spared_strays ended (is_none parent) p.row.ppid r))
        (spared_adopted left p.row.pid r)

  sparing_dies : (w : World) → Spared ps w.processes r → IsSparing ps r (dies w s)
  sparing_dies w h = record { effects = (h, (tt, (tt, tt))); state = spared_dead w h }

  pub sparing_end : (w : World) (status : ℕ) → Spared ps w.processes r → IsSparing ps r (end_proc w s status)
  unfolding end_proc
  sparing_end w status h =
      let left : World = leaves w s status in
      sparing_xfree left (process_of w s).text (λ x. dies x s) (spared_change w (ended status) h) sparing_dies

  pub sparing_resume : (w : World) → Spared ps w.processes r → IsSparing ps r (resume_proc w s)
  sparing_resume w h = sparing_plain (change w s awake) _ (resume_plain s w) (spared_change w awake h)

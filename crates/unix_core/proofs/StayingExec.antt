-- exec(II) leaves the text of each entry, but where its log makes one: the board tells the same entry as free as the table does.
use Rattle.std.proofs.Common.{◌≡◌, ◌≢◌, ◌<◌, ◌∙◌, ◌==◌, ◌&&◌, ℕ, Bool, true, false, not, cond, List, ◌++◌, length, get_or, map, Option, Some, None, refl, sym, ap, subst}
use Rattle.std.specs.Prelude.{Result, Ok, Err, unwrap_or}
use Rattle.std.proofs.lemmas.List.{get_or-set_same, length-set}
use Rattle.v6_base.specs.declared.entry.Entry.{Entry}
use Rattle.v6_base.specs.declared.entry.Entry.TheVariants as line
use Rattle.v6_base.specs.declared.errno.Errno.{Errno}
use Rattle.v6_base.specs.declared.errno.Errno.TheVariants.{ENOEXEC, ENOMEM, EACCES, ETXTBSY}
use Rattle.fs_codec.specs.Modes.{file_type}
use Rattle.fs_codec.specs.Store.{Node}
use Rattle.fs_laws.specs.Pieces.{Moving}
use Rattle.fs_tree.specs.declared.user.Want.TheVariants.{Execute}
use Rattle.fs_tree.specs.Permission.{permission}
use Rattle.fs_tree.specs.Name.{name_at}
use Rattle.fs_tree.specs.Finding.{Finding, find_in}
use Rattle.aout_head.specs.Header.{Header, header_of, plan_of}
use Rattle.seg_regs.specs.Sizes.{is_refused}
use Rattle.u_area.specs.declared.area.UArea.{UArea}
use Rattle.pick_rules.specs.Apply.{applied}
use Rattle.pick_rules.specs.Board.{Board, free_text}
use Rattle.pick_rules.specs.Effects.{Effect, lifted}
use Rattle.pick_rules.specs.Effects as effect
use Rattle.log_laws.proofs.Users.{users_on, left_users, leave_users, free_users, free_is}
use Rattle.mount_tab.specs.Mounted.{MountTable}
use Rattle.sys_procs.specs.declared.program.Program.{Program}
use Rattle.sys_procs.specs.Process.{Process, no_process, image_of}
use Rattle.sys_procs.specs.World.{World, process_of, change, with_inodes, let_go}
use Rattle.sys_procs.specs.TextTable.{Text, entry_of}
use Rattle.sys_procs.specs.Texts.{free_entry, new_text, remaining, leaves_text, is_sticky, xfree, with_entry, shares_text, makes_text, xalloc_by}
use Rattle.sys_procs.specs.Comes.{Comes, fails, logs, does}
use Rattle.sys_procs.specs.Tests.{must, user_of, node_at}
use Rattle.sys_procs.specs.Stack.{arguments, stack_clicks}
use Rattle.sys_procs.specs.ExecFile.{Tested, text_clicks_in, data_clicks, image_clicks, check, with_moved, header_read, answer_to, is_magic, or_no_memory, is_busy, tests_header, tests_file, tests, entry_in, with_text_read, reads_text, bared, executes, begins_anew, loads, done_by, exec_file}
use Rattle.sys_procs.proofs.TestedSlots.{tests_processes}
use Rattle.abstract_unix.specs.Unix.{Unix}
use Rattle.abstract_unix.specs.Calls.{with_world}
use Rattle.abstract_unix.specs.Shared.{TextStays}
use Rattle.abstract_unix.proofs.Sitting.{users, users_left, free_users_is}
use Rattle.unix_core.proofs.ProgramLemmas.{bare_users}
use Rattle.unix_core.proofs.PrivateSlots.{AllCarry, carry_both, carry_lifted}
use Rattle.unix_core.proofs.StayingTexts.{stays_then, stays_other, stays_joined, Leaves, leaves_carried, leaves_line, leaves_made}
use Rattle.unix_core.proofs.StayingRows.{IsStaying, staying_comes, stays_without, left_texts, left_slots}

-- The tests of exec leave the texts.
abbrev Keeps : World → Tested → Type 0
Keeps w t = t.world.texts ≡ w.texts

keeps_check : {A : Type 0} (w v : World) (a : Result A Errno) (next : A → Tested) → v.texts ≡ w.texts
    → ((x : A) → Keeps w (next x)) → Keeps w (check v a next)
keeps_check w v (Ok x) next same rest = rest x
keeps_check w v (Err e) next same rest = same

keeps_header : (w v : World) (ino : ℕ) (args : List (List ℕ)) (head : Moving (List ℕ)) → v.texts ≡ w.texts
    → Keeps w (tests_header v ino args head)
keeps_header w v ino args head same =
    let h : Header = header_of head.memory in
    let out : World = let_go v ino in
    keeps_check w out (answer_to head.error) _ same (λ read.
    keeps_check w out (must ENOEXEC ((head.done == 16) && is_magic (plan_of h))) _ same (λ program.
    keeps_check w out (must ETXTBSY (not (is_busy v ino h))) _ same (λ free.
    keeps_check w out (or_no_memory (plan_of h)) _ same (λ plan.
    keeps_check w out (must ENOMEM (not (is_refused (text_clicks_in v.texts ino plan) (data_clicks plan) stack_clicks v.limit)))
    _ same (λ fits. same)))))

keeps_file : (w v : World) (s ino list : ℕ) → v.texts ≡ w.texts → Keeps w (tests_file v s ino list)
keeps_file w v s ino list same =
    let p : Process = process_of v s in
    let node : Node = node_at v ino in
    let out : World = let_go v ino in
    let head : Moving (List ℕ) = header_read v ino in
    keeps_check w out (permission node (user_of p) Execute) _ same (λ may.
    keeps_check w out (must EACCES (file_type node.mode == 0)) _ same (λ plain.
    keeps_check w out (arguments (image_of v.texts p) list) _ same (λ args.
    keeps_header w (with_moved v ino head) ino args head same)))

tests_texts : (mounts : MountTable) (w : World) (s name list : ℕ) → (tests mounts w s name list).world.texts ≡ w.texts
tests_texts mounts w s name list =
    let p : Process = process_of w s in
    let found : Finding ℕ = find_in w.inodes mounts (user_of p) p.u.dir (name_at (image_of w.texts p) name) in
    keeps_check w (with_inodes w found.inodes) found.answer _ refl
    (λ ino. keeps_file w (with_inodes w found.inodes) s ino list refl)

-- A board tells the users of the texts, there are forty entries, a process has its slot, and an entry has what it had.
pub record IsAt (ts : List (Option Text)) (k s : ℕ) (b : Board) (texts : List (Option Text)) (slots : List (Option Process))
    : Type 0 where
  pub users : users_on b ≡ users texts
  pub forty : length texts ≡ 40
  pub low : s < length slots
  pub stays : TextStays ts texts k

abbrev pub IsIn : List (Option Text) → ℕ → ℕ → Board → World → Type 0
IsIn ts k s b w = IsAt ts k s b w.texts w.processes

module _ (ts : List (Option Text)) (k s : ℕ) (u : Unix) where
  abbrev Stays : Unix → Type 0
  Stays v = TextStays ts v.texts k

  -- A call leaves a Unix of which this is so, whatever follows its effects.
  abbrev pub Goes : Board → Comes → Type 0
  Goes b c = (more : List (Effect Unix)) (after : Unix) → AllCarry Stays more → after.texts ≡ c.state.texts
      → Leaves Stays k b (map (lifted (with_world u)) c.effects ++ more) after

  carried : (c : Comes) → IsStaying ts k c → (more : List (Effect Unix)) → AllCarry Stays more
      → AllCarry Stays (map (lifted (with_world u)) c.effects ++ more)
  carried c h more carry =
      carry_both Stays (map (lifted (with_world u)) c.effects) more (carry_lifted (with_world u) Stays c.effects h.effects) carry

  pub goes_staying : (b : Board) (c : Comes) → IsStaying ts k c → Goes b c
  goes_staying b c h more after carry same =
      leaves_carried Stays k b _ after (carried c h more carry) (subst (λ l. TextStays ts l k) (sym same) h.state)

  goes_line : (b : Board) (e : Entry) (c : Comes) → Goes (applied b e) c → Goes b (logs e c)
  goes_line b e c h more after carry same =
      leaves_line Stays k b e (map (lifted (with_world u)) c.effects ++ more) after (h more after carry same)

  goes_made : (b : Board) (n : ℕ) (w : World) (c : Comes) → TextStays ts w.texts k
      → ((j : ℕ) → free_text b ≡ Some j → k ≢ j → IsStaying ts k c) → Goes b (does (effect.Text s n w) c)
  goes_made b n w c was rest more after carry same =
      leaves_made Stays k b s n (with_world u w) (map (lifted (with_world u)) c.effects ++ more) after was (λ j free other.
      let h : IsStaying ts k c = rest j free other in
      (carried c h more carry, subst (λ l. TextStays ts l k) (sym same) h.state))

  -- The new program takes its image.
  module _ (area : UArea) (program : Program) where
    abbrev next : World → Bool → Comes
    next placed is_new =
        does (effect.Image s (image_clicks program.plan) placed) (executes (reads_text is_new placed s program) s area program)

    image_staying : (placed : World) (is_new : Bool) → TextStays ts placed.texts k
        → TextStays ts (reads_text is_new placed s program).texts k → IsStaying ts k (next placed is_new)
    image_staying placed is_new was now = record { effects = (was, tt); state = now }

    module _ (b : Board) (x : World) (is : IsIn ts k s b x) where
      -- the entry of a text that is made is the one that the board tells
      module _ (size j : ℕ) (free : free_text b ≡ Some j) (other : k ≢ j) where
        abbrev made : World
        made = makes_text x s program.ino size

        entry_is : free_entry x.texts ≡ j
        entry_is = ap (λ o. unwrap_or o 40)
            (sym (free_users_is x.texts is.forty) ∙ ap free_users (sym is.users) ∙ free_is b ∙ free)

        made_stays : TextStays ts made.texts k
        made_stays = stays_then ts x.texts made.texts k is.stays
            (stays_other x.texts (free_entry x.texts) k (Some (new_text program.ino size)) (λ same. other (same ∙ entry_is)))

        its_entry : entry_in made s ≡ j
        its_entry = ap (λ (o : Option Process). unwrap_or (unwrap_or o no_process).text 40)
            (get_or-set_same x.processes s (Some (with_entry (free_entry x.texts) (process_of x s))) None is.low) ∙ entry_is

        read_stays : TextStays ts (with_text_read made s program).texts k
        read_stays = stays_then ts made.texts (with_text_read made s program).texts k made_stays
            (stays_other made.texts (entry_in made s) k _ (λ same. other (same ∙ its_entry)))

      entry_goes : (size : ℕ) (o : Option ℕ) → Goes b (xalloc_by x s program.ino size o next)
      entry_goes size None = goes_made b size x (next (makes_text x s program.ino size) true) is.stays (λ j free other.
          image_staying (makes_text x s program.ino size) true (made_stays size j free other) (read_stays size j free other))
      entry_goes size (Some j) =
          let shared : World = shares_text x s j in
          let stays = stays_then ts x.texts shared.texts k is.stays (stays_joined x.texts j k) in
          goes_line b (line.Share s j) (next shared false)
          (goes_staying (applied b (line.Share s j)) (next shared false) (image_staying shared false stays stays))

      begins_goes : Goes b (begins_anew x s area program)
      begins_goes = by (program.text_clicks == 0)
        where
          by : (none : Bool) → Goes b
              (cond none (next x false) (xalloc_by x s program.ino program.text_clicks (entry_of x.texts program.ino) next))
          by true = goes_staying b (next x false) (image_staying x false is.stays is.stays)
          by false = entry_goes program.text_clicks (entry_of x.texts program.ino)

  -- The old image is given back,
  abbrev anew : World → Program → Comes
  anew left program = begins_anew (change left s bared) s (process_of left s).u program

  bared_goes : (b : Board) (left : World) (program : Program) → IsIn ts k s b left
      → Goes b (logs (line.Bare s) (anew left program))
  bared_goes b left program is =
      goes_line b (line.Bare s) (anew left program)
      (begins_goes (process_of left s).u program (applied b (line.Bare s)) (change left s bared)
      (record {
        users = bare_users s b ∙ is.users;
        forty = is.forty;
        low = subst (λ n. s < n) (sym (length-set left.processes s (Some (bared (process_of left s))))) is.low;
        stays = is.stays;
      }))

  -- and before it the old text is left.
  left_in : (b : Board) (w : World) (j : ℕ) (sticky : Bool) → IsIn ts k s b w
      → IsIn ts k s (applied b (line.Leave s j sticky)) (leaves_text w s j sticky)
  left_in b w j sticky is = record {
    users = leave_users b s j sticky ∙ ap (λ l. left_users l j sticky) is.users ∙ sym (users_left w.texts j sticky)
        ∙ ap users (sym (left_texts w s j sticky));
    forty = ap length (left_texts w s j sticky) ∙ length-set w.texts j (remaining sticky (get_or w.texts j None)) ∙ is.forty;
    low = subst (λ n. s < n) (sym (ap length (left_slots w s j sticky) ∙ length-set w.processes s _)) is.low;
    stays = stays_without ts k s w j sticky is.stays;
  }

  loads_goes : (b : Board) (w : World) (program : Program) → IsIn ts k s b w → Goes b (loads w s program)
  loads_goes b w program is = by (process_of w s).text
    where
      by : (o : Option ℕ) → Goes b (xfree w s o (λ left. logs (line.Bare s) (anew left program)))
      by None = bared_goes b w program is
      by (Some j) =
          let sticky = is_sticky w j in
          let left : World = leaves_text w s j sticky in
          goes_line b (line.Leave s j sticky) (logs (line.Bare s) (anew left program))
          (bared_goes (applied b (line.Leave s j sticky)) left program (left_in b w j sticky is))

  done_goes : (b : Board) (w : World) (r : Result Program Errno) → IsIn ts k s b w → Goes b (done_by w s r)
  done_goes b w (Ok program) is = loads_goes b w program is
  done_goes b w (Err e) is = goes_staying b (fails w e) (staying_comes ts k s w _ is.stays)

  pub exec_goes : (mounts : MountTable) (b : Board) (w : World) (name list : ℕ) → IsIn ts k s b w → Goes b (exec_file mounts w s name list)
  unfolding exec_file
  exec_goes mounts b w name list is =
      let t : Tested = tests mounts w s name list in
      done_goes b t.world t.answer (subst (λ l. IsAt ts k s b l t.world.processes) (sym (tests_texts mounts w s name list))
      (subst (λ l. IsAt ts k s b w.texts l) (sym (tests_processes mounts w s name list)) is))

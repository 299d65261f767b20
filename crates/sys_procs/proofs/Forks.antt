-- A new process: what becomes of its slot in the table, the rows and the images, what the log says, and the row of fork(II).
use Rattle.std.proofs.Common.{◌≡◌, ◌≢◌, ◌∙◌, ℕ, ◌+◌, ◌%◌, ◌<◌, Bool, true, List, [], ◌∷◌, length, get_or, set, Option, Some, None, is_none, refl, sym, ap, subst, arith}
use Rattle.std.specs.Option.{unwrap_or}
use Rattle.std.proofs.lemmas.List.{length-set, get_or-set_same, get_or-set_other, set-set}
use Rattle.v6_base.specs.Trace.{Log}
use Rattle.v6_base.specs.declared.entry.Entry.TheVariants as line
use Rattle.v6_base.specs.declared.entry.PanicKind.TheVariants as panic
use Rattle.v6_base.specs.declared.entry.Place.{Place}
use Rattle.v6_base.specs.declared.entry.Place.TheVariants.{Core, Swap}
use Rattle.u_area.specs.declared.area.UArea.{UArea}
use Rattle.pick_rules.specs.declared.row.TableRow.{TableRow}
use Rattle.pick_rules.specs.declared.table.Table.{Table}
use Rattle.pick_rules.specs.Table.{row_at, with_row, IsTable, empty_row}
use Rattle.pick_rules.specs.Board.{Board, placed}
use Rattle.pick_rules.specs.Apply.{applied}
use Rattle.pick_rules.specs.Effects.{Fork}
use Rattle.pick_rules.specs.Effects as effects
use Rattle.pick_rules.specs.Logged.{logged, log_one}
use Rattle.proc_tab.specs.declared.row.Row.{Row}
use Rattle.proc_tab.specs.declared.member.Member.{Member}
use Rattle.proc_tab.specs.Processes.{Processes, member_at, lowest, IsLowest, Finds}
use Rattle.proc_tab.specs.Processes as rows
use Rattle.proc_tab.specs.Pids.{fresh_pid, child_of, forked}
use Rattle.proc_tab.proofs.SearchLemmas.{lowest_finds}
use Rattle.image_keep.specs.Kept.{Held, Keeping, Nothing, Alive, Grave, Kept, keeping, with_keeping, text_of, with_area, described, area_in, image_in, area_of, image_of, clicks_of, HasImage}
use Rattle.image_keep.specs.State.{ImagesState}
use Rattle.image_keep.specs.Moves.{forked_at}
use Rattle.image_keep.specs.Places as images_of
use Rattle.fs_nodes.specs.FileSystem.{FileSystem}
use Rattle.fs_tree.specs.Finding.{with_reference}
use Rattle.sys_procs.specs.declared.procs.Procs.{Procs}
use Rattle.sys_procs.specs.Process.{Process, no_process, process_by, process_in, register, with_register}
use Rattle.sys_procs.specs.World.{World, process_of, with_process, change, processes_in}
use Rattle.sys_procs.specs.Texts.{joined_by_child}
use Rattle.sys_procs.specs.Fork.{copied, past_word, next_pid, with_child, fork_into, fork_one}
use Rattle.sys_procs.specs.inside.Seats.{with_image_row}
use Rattle.sys_procs.specs.Agree.{Free, Lives, kind_of_member, kind_of_keeping, Agrees}
use Rattle.sys_procs.specs.Handed.{AreProcs, IsAlive, handed, board, process_here}
use Rattle.sys_procs.proofs.SameKept.{SameKept}
use Rattle.sys_procs.proofs.Slots.{fifty_processes, one_changed, members_are}
use Rattle.swap_sched.proofs.Boards.{untimed, untimed_runout}
use Rattle.sys_procs.proofs.Agreement.{agree_with}
use Rattle.sys_procs.proofs.Alive.{IsHere, is_here}
use Rattle.sys_procs.proofs.PlacingRows.{clock_told, agree_told, text_row, size_is}
use Rattle.sys_procs.proofs.ForkedTexts.{texts_forked, slot_forked, forked_handed, row_of_child, forked_table, forked_core, forked_places}

-- What the log says of a fork.
pub logged_fork : (b : Board) (s child : ℕ) (w : World) (place : Place)
    → placed b s (row_at b.table s).size ≡ Some place
    → logged b (Fork s child w ∷ []) ≡ record { items = Log (line.Fork s child place) ∷ []; board = applied b (line.Fork s child place); stop = None }
unfolding log_one effects.came
logged_fork b s child w place fit = rw fit refl

pub logged_no_fork : (b : Board) (s child : ℕ) (w : World) → placed b s (row_at b.table s).size ≡ None
    → logged b (Fork s child w ∷ []) ≡ record {
      items = Log (line.Panic panic.Swap) ∷ [];
      board = b;
      stop = Some (record { why = panic.Swap; before = w });
    }
unfolding log_one effects.came applied
logged_no_fork b s child w fit = rw fit refl

-- A free slot.
nobody : (o : Option Member) → is_none o ≡ true → o ≡ None
nobody None e = refl
nobody (Some m) e = absurd (cc e)

nothing_kept : (x : Keeping) → kind_of_keeping x ≡ Free → x ≡ Nothing
nothing_kept Nothing e = refl
nothing_kept (Alive held) e = absurd (cc e)
nothing_kept (Grave u block) e = absurd (cc e)

pub record IsFreeSlot (p : Procs) (s child : ℕ) : Type 0 where
  pub above : 0 < child
  pub low : child < 50
  pub member : member_at p.rows.slots child ≡ None
  pub image : keeping p.images.kept child ≡ Nothing
  pub text : text_of p.images.kept child ≡ None
  pub other : child ≢ s
  pub apart : s ≢ child

pub free_slot : (p : Procs) (s child : ℕ) → IsAlive p s → lowest is_none p.rows.slots ≡ Some child → IsFreeSlot p s child
free_slot p s child alive e =
    let found : IsLowest is_none p.rows.slots child = subst (λ o. Finds is_none p.rows.slots o) e (lowest_finds is_none p.rows.slots) in
    let here = is_here p s alive in
    let none : member_at p.rows.slots child ≡ None = nobody (member_at p.rows.slots child) found.passes in
    let other : child ≢ s = λ same. let both : None ≡ Some here.member = sym none ∙ (ap (member_at p.rows.slots) same ∙ here.member_is) in cc both in
    record {
      above = found.above;
      low = found.low;
      member = none;
      image = nothing_kept (keeping p.images.kept child) ((alive.agree.each child found.above found.low).image ∙ ap kind_of_member none);
      text = sym (alive.agree.text child found.above found.low)
          ∙ (alive.agree.each child found.above found.low).textless (λ l. let e : Free ≡ Lives = sym (ap kind_of_member none) ∙ l in cc e);
      other = other;
      apart = λ same. other (sym same);
    }

-- The board with a child.
untimed_child : (t : Table) (s child : ℕ) (place : Place)
    → untimed (with_image_row t child (row_of_child t s place) place) ≡ with_image_row (untimed t) child (row_of_child t s place) place
untimed_child t s child (Core c) = refl
untimed_child t s child (Swap block) = untimed_runout (with_row t child (row_of_child t s (Swap block)))

-- The child in its slot.
abbrev pub child_pid : Procs → ℕ
child_pid p = fresh_pid p.rows.slots p.rows.last_pid

abbrev pub child_held : Kept → ℕ → Place → Held
child_held k s place = record { u = area_of k s; image = image_of k s; place = place }

-- what is kept then, with its parent's text
abbrev pub kept_forked : Kept → ℕ → ℕ → Place → Kept
kept_forked k s child place = record (with_keeping k child (Alive (child_held k s place))) {
  texts = texts_forked k.texts (text_of k s) place;
  users = set k.users child (text_of k s);
}

abbrev pub seated : Procs → ℕ → ℕ → Place → Procs
seated p s child place = record p {
  rows = forked p.rows s (Some child);
  table = with_image_row p.table child (row_of_child p.table s place) place;
  images = record p.images { kept = kept_forked p.images.kept s child place };
}

-- what the child is before it goes on
abbrev pub copy_of : Procs → ℕ → Process
copy_of p s = record (process_here p s) { row = (child_of (process_here p s).row (child_pid p)).row }

module _ (p : Procs) (s child : ℕ) (place : Place) (alive : IsAlive p s) (slots : length p.rows.slots ≡ 50) (images : length p.images.kept.slots ≡ 50)
    (seats : length p.images.kept.users ≡ 50) (free : IsFreeSlot p s child) where
  here : IsHere p s
  here = is_here p s alive

  abbrev new_member : Member
  new_member = child_of (rows.row_at p.rows s) (child_pid p)

  abbrev new_images : Kept
  new_images = kept_forked p.images.kept s child place

  member_new : member_at (set p.rows.slots child (Some new_member)) child ≡ Some new_member
  member_new = get_or-set_same p.rows.slots child (Some new_member) None (omega (arith, free.low, slots))

  image_new : keeping new_images child ≡ Alive (child_held p.images.kept s place)
  image_new = get_or-set_same p.images.kept.slots child (Alive (child_held p.images.kept s place)) Nothing (omega (arith, free.low, images))

  image_old : keeping new_images s ≡ Alive here.held
  image_old = get_or-set_other p.images.kept.slots child s (Alive (child_held p.images.kept s place)) Nothing free.apart ∙ here.image_is

  -- it shares its parent's text, and who is in another slot what it shared
  text_new : text_of new_images child ≡ text_of p.images.kept s
  text_new = get_or-set_same p.images.kept.users child (text_of p.images.kept s) None (omega (arith, free.low, seats))

  text_old : (r : ℕ) → r ≢ child → text_of new_images r ≡ text_of p.images.kept r
  text_old r other = get_or-set_other p.images.kept.users child r (text_of p.images.kept s) None other

  held_is : child_held p.images.kept s place ≡ record { u = here.held.u; image = here.held.image; place = place }
  held_is = ap (λ (x : Keeping). record { u = area_in x; image = image_in x; place = place }) here.image_is

  is_copy : process_by new_member (Alive (child_held p.images.kept s place)) (text_of p.images.kept s) ≡ copy_of p s
  is_copy =
      let row : rows.row_at p.rows s ≡ here.member.row = ap rows.row_of here.member_is in
      ap (λ (h : Held). process_by new_member (Alive h) (text_of p.images.kept s)) held_is
      ∙ (ap (λ (r : Row). process_by (child_of r (child_pid p)) (Alive (record { u = here.held.u; image = here.held.image; place = place })) (text_of p.images.kept s)) row
      ∙ (ap (λ (dead : Bool). record (process_by here.member (Alive here.held) (text_of p.images.kept s)) { row = (child_of here.member.row (child_pid p)).row; is_zombie = dead }) (sym here.is_living)
      ∙ ap (λ (q : Process). record q { row = (child_of q.row (child_pid p)).row }) (sym here.process_is)))

  processes_seated : processes_in (set p.rows.slots child (Some new_member)) new_images ≡ set (processes_in p.rows.slots p.images.kept) child (Some (copy_of p s))
  processes_seated = one_changed p.rows.slots (set p.rows.slots child (Some new_member)) p.images.kept new_images child (Some (copy_of p s)) free.low
      (ap (λ o. process_in o (keeping new_images child) (text_of new_images child)) member_new
      ∙ (ap (λ x. process_in (Some new_member) x (text_of new_images child)) image_new
      ∙ (ap (process_in (Some new_member) (Alive (child_held p.images.kept s place))) text_new ∙ ap (λ (q : Process). Some q) is_copy)))
      (λ r below other.
      ap (λ o. process_in o (keeping new_images r) (text_of new_images r)) (get_or-set_other p.rows.slots child r (Some new_member) None other)
      ∙ ap (process_in (member_at p.rows.slots r) (keeping new_images r)) (text_old r other)
      ∙ ap (λ x. process_in (member_at p.rows.slots r) x (text_of p.images.kept r)) (get_or-set_other p.images.kept.slots child r (Alive (child_held p.images.kept s place)) Nothing other))

  text_here : (process_here p s).text ≡ text_of p.images.kept s
  text_here = ap (λ (q : Process). q.text) here.process_is

  pub state_seated : (fs : FileSystem) → handed (seated p s child place) fs ≡ record (with_process (handed p fs) child (copy_of p s)) {
    last_pid = child_pid p;
    texts = joined_by_child (handed p fs).texts (process_here p s).text;
  }
  state_seated fs = λ i. record (handed p fs) {
    processes = processes_seated i;
    last_pid = child_pid p;
    clock = clock_told p.table child (row_of_child p.table s place) place i;
    texts = (forked_handed p.images.kept.texts (text_of p.images.kept s) place ∙ ap (joined_by_child (handed p fs).texts) (sym text_here)) i;
  }

  pub board_seated : images_of.placed p.images.kept s (clicks_of (area_of p.images.kept s)) ≡ Some place → board (seated p s child place) ≡ applied (board p) (line.Fork s child place)
  board_seated found =
      let low : child < length p.table.rows = omega (arith, free.low, alive.agree.rows) in
      sym (λ i. record {
        table = (forked_table (board p) s child low place ∙ sym (untimed_child p.table s child place)) i;
        texts = forked_places (board p) p.images.kept s child (clicks_of (area_of p.images.kept s)) place low refl (text_row p s alive) found i;
        core = forked_core (board p) s child low place i;
      })

  child_agrees : Agrees (Some new_member) (row_of_child p.table s place) (Alive (child_held p.images.kept s place))
  child_agrees = record {
    stat = refl;
    image = refl;
    place = refl;
    size = λ held is. size_is p s alive ∙ ap (λ (x : Keeping). clicks_of (area_in x)) is;
    quiet = λ f. refl;
    textless = λ f. absurd (f refl);
  }

  pub agree_forked : IsTable (with_image_row p.table child (row_of_child p.table s place) place) → AreProcs (seated p s child place)
  agree_forked good =
      let row : TableRow = row_of_child p.table s place in
      let a : AreProcs p = alive.agree in
      agree_told (forked p.rows s (Some child)) p.table new_images child row place good
      (agree_with p.rows (forked p.rows s (Some child)) p.table (with_row p.table child row) p.images.kept new_images child a free.above
      (record { last = a.table.last; running = a.table.running; ticks = a.table.ticks })
      (length-set p.table.rows child row)
      (subst (λ o. Agrees o (row_at (with_row p.table child row) child) (keeping new_images child)) (sym member_new)
      (subst (λ (r : TableRow). Agrees (Some new_member) r (keeping new_images child)) (sym (get_or-set_same p.table.rows child row empty_row (omega (arith, free.low, a.rows))))
      (subst (λ x. Agrees (Some new_member) row x) (sym image_new) child_agrees)))
      (ap (λ (r : TableRow). r.text) (get_or-set_same p.table.rows child row empty_row (omega (arith, free.low, a.rows)))
      ∙ (text_row p s alive ∙ sym text_new))
      text_old
      (λ r other. get_or-set_other p.rows.slots child r (Some new_member) None other)
      (λ r other. get_or-set_other p.table.rows child r row empty_row other)
      (λ r other. get_or-set_other p.images.kept.slots child r (Alive (child_held p.images.kept s place)) Nothing other))

  pub parent_alive : IsTable (with_image_row p.table child (row_of_child p.table s place) place) → IsAlive (seated p s child place) s
  parent_alive good = record { agree = agree_forked good; above = alive.above; below = alive.below; image = (here.held, image_old) }

  pub child_alive : IsTable (with_image_row p.table child (row_of_child p.table s place) place) → IsAlive (seated p s child place) child
  child_alive good = record { agree = agree_forked good; above = free.above; below = free.low; image = (child_held p.images.kept s place, image_new) }

  pub parent_stays : process_here (seated p s child place) s ≡ process_here p s
  parent_stays =
      ap (λ (ps : List (Option Process)). unwrap_or (get_or ps s None) no_process) processes_seated
      ∙ ap (λ (o : Option Process). unwrap_or o no_process) (get_or-set_other (processes_in p.rows.slots p.images.kept) child s (Some (copy_of p s)) None free.apart)

  pub child_is : process_here (seated p s child place) child ≡ copy_of p s
  child_is =
      ap (λ (ps : List (Option Process)). unwrap_or (get_or ps child None) no_process) processes_seated
      ∙ ap (λ (o : Option Process). unwrap_or o no_process)
      (get_or-set_same (processes_in p.rows.slots p.images.kept) child (Some (copy_of p s)) None (omega (arith, free.low, fifty_processes p.rows.slots p.images.kept)))

-- what the code makes of the three
pub is_seated : (p : Procs) (s child : ℕ) (place : Place) (v : Processes) (t : Table) (i : ImagesState) → v ≡ forked p.rows s (Some child)
    → t ≡ with_image_row p.table child (row_of_child p.table s place) place
    → {o : Option Place} → o ≡ Some place → i.kept ≡ forked_at p.images.kept s child o
    → SameKept (record p { rows = v; table = t; images = i }) (seated p s child place)
is_seated p s child place v t i e f {o} found g = record {
  rows = e;
  table = f;
  kept = g ∙ ap (forked_at p.images.kept s child) found
      ∙ slot_forked p.images.kept (text_of p.images.kept s) place child (Alive (child_held p.images.kept s place)) (text_of p.images.kept s);
  switches = refl;
}

-- What becomes of a child and its parent as they go on.
abbrev pub begun_by : ℕ → Process → Process
begun_by parent q = record (with_register q 0 parent) { u = record (with_register q 0 parent).u { user_time = 0; system_time = 0; child_user = 0; child_system = 0 } }

abbrev pub gone_on : World → ℕ → ℕ → World
gone_on w s child =
    record (change (change w child (begun_by (process_of w s).row.pid)) s past_word) { inodes = with_reference w.inodes (process_of w s).u.dir }

module _ (w : World) (s child pid : ℕ) (apart : s ≢ child) (low : child < length w.processes) (below : s < length w.processes) where
  abbrev copy : Process
  copy = record (process_of w s) { row = (child_of (process_of w s).row pid).row }

  abbrev begins : World
  begins = record (with_process w child copy) { last_pid = pid; texts = joined_by_child w.texts (process_of w s).text }

  parent_of_child : process_of begins s ≡ process_of w s
  parent_of_child = ap (λ (o : Option Process). unwrap_or o no_process) (get_or-set_other w.processes child s (Some copy) None apart)

  child_begins : process_of begins child ≡ copy
  child_begins = ap (λ (o : Option Process). unwrap_or o no_process) (get_or-set_same w.processes child (Some copy) None low)

  pub world_forked : gone_on begins s child ≡ change (with_child w s child pid) s past_word
  world_forked =
      let own : Process = process_of w s in
      ap (λ (q : Process). record (change (change begins child (begun_by q.row.pid)) s past_word) { inodes = with_reference w.inodes q.u.dir }) parent_of_child
      ∙ (ap (λ (q : Process). record (change (with_process begins child (begun_by own.row.pid q)) s past_word) { inodes = with_reference w.inodes own.u.dir }) child_begins
      ∙ ap (λ (ps : List (Option Process)). record (change (record w { processes = ps; last_pid = pid; texts = joined_by_child w.texts own.text }) s past_word) {
        inodes = with_reference w.inodes own.u.dir;
      }) (set-set w.processes child (Some copy) (Some (begun_by own.row.pid copy))))

  pub register_forked : register (process_of w s) 1 ≡ register (process_of (change (with_child w s child pid) s past_word) s) 1
  register_forked =
      let own : Process = process_of w s in
      let now : World = with_child w s child pid in
      let left : process_of now s ≡ own = ap (λ (o : Option Process). unwrap_or o no_process) (get_or-set_other w.processes child s (Some (copied own pid)) None apart) in
      let after : process_of (change now s past_word) s ≡ past_word (process_of now s) =
      ap (λ (o : Option Process). unwrap_or o no_process)
      (get_or-set_same now.processes s (Some (past_word (process_of now s))) None (omega (arith, below, length-set w.processes child (Some (copied own pid))))) in
      sym (ap (λ (q : Process). register q 1) (after ∙ ap past_word left)
      ∙ get_or-set_other own.u.r 7 1 ((get_or own.u.r 7 0 + 2) % 65536) 0 (λ e. omega (arith, e)))

pub next_is : (p : Procs) (fs : FileSystem) → length p.rows.slots ≡ 50 → child_pid p ≡ next_pid (handed p fs)
next_is p fs long = ap (λ (slots : List (Option Member)). fresh_pid slots p.rows.last_pid) (sym (members_are p.rows.slots p.images.kept long))

-- the row of fork(II) goes by the lowest free slot
pub fork_row : (p : Procs) (s : ℕ) (fs : FileSystem) (o : Option ℕ) → length p.rows.slots ≡ 50 → lowest is_none p.rows.slots ≡ o
    → fork_into (handed p fs) s o ≡ fork_one (handed p fs) s
unfolding fork_one
fork_row p s fs o long e =
    ap (fork_into (handed p fs) s) (sym e ∙ ap (λ (slots : List (Option Member)). lowest is_none slots) (sym (members_are p.rows.slots p.images.kept long)))

-- A child's area changes, and its parent stays.
pub still_alive : (p q : Procs) (s child : ℕ) (u : UArea) → IsAlive p s → s ≢ child → q.images.kept ≡ with_area p.images.kept child u → AreProcs q → IsAlive q s
unfolding with_area
still_alive p q s child u alive apart e a = record {
  agree = a;
  above = alive.above;
  below = alive.below;
  image = subst (λ k. HasImage k s) (sym e)
      (alive.image.0, get_or-set_other p.images.kept.slots child s (described u (keeping p.images.kept child)) Nothing apart ∙ alive.image.1);
}

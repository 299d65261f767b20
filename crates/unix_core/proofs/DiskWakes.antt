-- Who has waited for the disk is woken, slot by slot.
use Rattle.std.proofs.Common.{◌≡◌, ◌≢◌, ◌∙◌, ◌<◌, ◌≤◌, ◌+◌, ◌*◌, ◌==◌, ◌&&◌, ◌||◌, not, cond, ℕ, suc, Bool, true, false, List, [], ◌∷◌, ◌++◌, length, map, fold, get_or, slice_index, Option, Some, None, refl, sym, ap, subst, inl, inr, arith}
use Rattle.std.proofs.lemmas.Bool.{cases_lt, eqb-true, eq-eqb, ne_eqb}
use Rattle.std.proofs.lemmas.List.{get_or_past}
use Rattle.std.proofs.lemmas.List.Sums.{fold-append}
use Rattle.u_area.specs.declared.layout.TheConstants.{DISK_WAIT}
use Rattle.u_area.specs.declared.area.UArea.{UArea}
use Rattle.v6_base.specs.Trace.{Item, Log, Took, Taken}
use Rattle.v6_base.proofs.Took.{took_then, took_nothing}
use Rattle.v6_base.specs.declared.entry.Chan.TheVariants.{Disk}
use Rattle.v6_base.specs.declared.entry.Entry.TheVariants as entry
use Rattle.pick_rules.specs.declared.row.Stat.{Stat}
use Rattle.pick_rules.specs.declared.row.Stat.TheVariants.{Empty, Sleeping, Waiting, Ready, Zombie}
use Rattle.pick_rules.specs.declared.table.Table.{Table}
use Rattle.pick_rules.specs.Table.{row_at, IsTable}
use Rattle.pick_rules.specs.Board.{Board}
use Rattle.pick_rules.specs.Effects.{Effect, Show}
use Rattle.pick_rules.specs.Logged.{Logged, logged, board_after}
use Rattle.proc_tab.specs.declared.member.Member.{Member}
use Rattle.proc_tab.specs.Processes.{member_at}
use Rattle.image_keep.specs.Kept.{Keeping, Nothing, Alive, Grave, HasImage, keeping, text_of, area_of}
use Rattle.sys_procs.specs.declared.procs.Procs.{Procs}
use Rattle.sys_procs.specs.Process.{Process, process_by, process_in}
use Rattle.sys_procs.specs.World.{clock_of}
use Rattle.sys_procs.specs.Signals.{is_meant}
use Rattle.sys_procs.specs.Agree.{Free, Lives, Died, kind_of_stat, kind_by, kind_of_keeping, kind_of_member, Agrees, board_of}
use Rattle.sys_procs.specs.Handed.{AreProcs, IsAlive, process_here}
use Rattle.sys_procs.proofs.Slots.{process_in_slot, fifty_processes}
use Rattle.sys_procs.proofs.Alive.{is_here, area_here}
use Rattle.sys_procs.proofs.SentAll.{meant_below, next_meant}
use Rattle.abstract_unix.specs.Unix.{Unix}
use Rattle.abstract_unix.specs.Turn.{disk_end_of, waits_until}
use Rattle.abstract_unix.specs.Outside.{wakes}
use Rattle.unix_core.specs.declared.slots.Woken.{Woken}
use Rattle.unix_core.specs.declared.slots.TheConstants.{NEVER}
use Rattle.unix_core.specs.Slots.{processes_of, AreDueFrom, NoneInGraves}
use Rattle.unix_core.specs.Passing.{called_table}
use Rattle.unix_core.proofs.LoggedLemmas.{logged_shown}
use Rattle.unix_core.proofs.EventLemmas.{called_agree, called_running, called_clock}

-- 1. With the end of which slot a process waits no more.
abbrev IsMeant : ℕ → ℕ → Option Process → Bool
IsMeant n s o = is_meant (waits_until n) s o

-- no slot has the number of none
pub never_is : (n : ℕ) → n < NEVER → false ≡ (NEVER == n)
never_is n low = sym (ne_eqb NEVER n (λ e. omega (arith, low, e)))

module _ (p : Procs) (s : ℕ) (agree : AreProcs p) (above : 0 < s) (low : s < 50) where
  own : Agrees (member_at p.rows.slots s) (row_at p.table s) (keeping p.images.kept s)
  own = agree.each s above low

  there : get_or (processes_of p) s None ≡ process_in (member_at p.rows.slots s) (keeping p.images.kept s) (text_of p.images.kept s)
  there = process_in_slot p.rows.slots p.images.kept s low

  -- nobody is in the slot
  pub free_waits : (row_at p.table s).stat ≡ Empty → (n : ℕ) → n < NEVER → IsMeant n s (get_or (processes_of p) s None) ≡ (NEVER == n)
  free_waits stat n few = ap (IsMeant n s) there ∙ by (member_at p.rows.slots s) (sym own.stat ∙ ap kind_of_stat stat) ∙ never_is n few
    where
      by : (m : Option Member) → kind_of_member m ≡ Free → IsMeant n s (process_in m (keeping p.images.kept s) (text_of p.images.kept s)) ≡ false
      by None free = refl
      by (Some m) free = dead m.is_dead free
        where
          dead : (b : Bool) → kind_by b ≡ Free → IsMeant n s (process_in (Some m) (keeping p.images.kept s) (text_of p.images.kept s)) ≡ false
          dead true e = absurd (cc e)
          dead false e = absurd (cc e)

  -- who has ended waits for nothing
  pub dead_waits : (row_at p.table s).stat ≡ Zombie → NoneInGraves (processes_of p) → (n : ℕ) → n < NEVER
      → IsMeant n s (get_or (processes_of p) s None) ≡ (NEVER == n)
  dead_waits stat graves n few = by (get_or (processes_of p) s None) refl ∙ never_is n few
    where
      died : kind_of_member (member_at p.rows.slots s) ≡ Died
      died = sym own.stat ∙ ap kind_of_stat stat

      by : (o : Option Process) → get_or (processes_of p) s None ≡ o → IsMeant n s o ≡ false
      by None is = refl
      by (Some q) is = ap (λ b. b && (disk_end_of q == n)) (ne_eqb q.u.pending DISK_WAIT (graves s q is (zombie (member_at p.rows.slots s) (keeping p.images.kept s) died (sym there ∙ is))))
        where
          zombie : (m : Option Member) (x : Keeping) → kind_of_member m ≡ Died → process_in m x (text_of p.images.kept s) ≡ Some q → q.is_zombie ≡ true
          zombie None x dead e = absurd (cc dead)
          zombie (Some m) x dead e =
              let same : process_by m x (text_of p.images.kept s) ≡ q = cc e in
              is_dead m.is_dead dead (sym (dead_by x) ∙ ap (λ (r : Process). r.is_zombie) same)
            where
              dead_by : (x : Keeping) → (process_by m x (text_of p.images.kept s)).is_zombie ≡ m.is_dead
              dead_by Nothing = refl
              dead_by (Alive held) = refl
              dead_by (Grave u block) = refl

              is_dead : (b : Bool) → kind_by b ≡ Died → b ≡ q.is_zombie → q.is_zombie ≡ true
              is_dead true k e = sym e
              is_dead false k e = absurd (cc k)

  -- who lives has an image
  pub living_image : kind_of_stat (row_at p.table s).stat ≡ Lives → HasImage p.images.kept s
  living_image lives = by (keeping p.images.kept s) refl (own.image ∙ sym own.stat ∙ lives)
    where
      by : (x : Keeping) → keeping p.images.kept s ≡ x → kind_of_keeping x ≡ Lives → HasImage p.images.kept s
      by Nothing is e = absurd (cc e)
      by (Alive held) is e = (held, is)
      by (Grave u block) is e = absurd (cc e)

  -- and waits as its u area says
  pub living_waits : (image : HasImage p.images.kept s) (n : ℕ)
      → IsMeant n s (get_or (processes_of p) s None) ≡ waits_until n s (record (process_here p s) { u = area_of p.images.kept s })
  living_waits image n =
      let alive : IsAlive p s = record { agree = agree; above = above; below = low; image = image } in
      let here = is_here p s alive in
      ap (IsMeant n s) (there ∙ ap (λ m. process_in m (keeping p.images.kept s) (text_of p.images.kept s)) here.member_is
      ∙ ap (λ x. process_in (Some here.member) x (text_of p.images.kept s)) here.image_is ∙ ap (λ (q : Process). Some q) (sym here.process_is))
      ∙ ap (λ (u : UArea). waits_until n s (record (process_here p s) { u = u })) (sym (area_here p s alive))

  -- Who doesn't live waits for nothing,
  pub other_waits : (kind_of_stat (row_at p.table s).stat ≢ Lives) → NoneInGraves (processes_of p) → (n : ℕ) → n < NEVER
      → IsMeant n s (get_or (processes_of p) s None) ≡ (NEVER == n)
  other_waits other graves n few = by (row_at p.table s).stat refl
    where
      alive : (stat : Stat) → (row_at p.table s).stat ≡ stat → kind_of_stat stat ≡ Lives → IsMeant n s (get_or (processes_of p) s None) ≡ (NEVER == n)
      alive stat is lives = absurd (other (ap kind_of_stat is ∙ lives))

      by : (stat : Stat) → (row_at p.table s).stat ≡ stat → IsMeant n s (get_or (processes_of p) s None) ≡ (NEVER == n)
      by Empty is = free_waits is n few
      by Zombie is = dead_waits is graves n few
      by Sleeping is = alive Sleeping is refl
      by Waiting is = alive Waiting is refl
      by Ready is = alive Ready is refl

  -- nor does one in another call, or in none,
  pub no_wait : HasImage p.images.kept s → (u : UArea) → u ≡ area_of p.images.kept s → u.pending ≢ DISK_WAIT → (n : ℕ) → n < NEVER
      → IsMeant n s (get_or (processes_of p) s None) ≡ (NEVER == n)
  no_wait image u is other n few =
      living_waits image n
      ∙ ap (λ (v : UArea). waits_until n s (record (process_here p s) { u = v })) (sym is)
      ∙ ap (λ b. b && (disk_end_of (record (process_here p s) { u = u }) == n)) (ne_eqb u.pending DISK_WAIT other)
      ∙ never_is n few

  -- and else its u area says up to which slot.
  pub some_wait : HasImage p.images.kept s → (u : UArea) → u ≡ area_of p.images.kept s → u.pending ≡ DISK_WAIT → (end : ℕ)
      → end ≡ 65536 * slice_index u.call 4 + slice_index u.call 5 → (n : ℕ) → IsMeant n s (get_or (processes_of p) s None) ≡ (end == n)
  some_wait image u is waits end ends n =
      living_waits image n
      ∙ ap (λ (v : UArea). waits_until n s (record (process_here p s) { u = v })) (sym is)
      ∙ ap (λ b. b && (disk_end_of (record (process_here p s) { u = u }) == n)) (eq-eqb u.pending DISK_WAIT waits)
      ∙ ap (λ m. m == n) (sym ends)

-- 2. Slot by slot.
abbrev pub line_for : ℕ → Item
line_for s = Log (entry.Wake (Disk s))

abbrev pub lines_below : ℕ → ℕ → List (Option Process) → List Item
lines_below n k ps = map line_for (meant_below (waits_until n) n k ps)

abbrev one_line : Bool → ℕ → List Item
one_line b k = cond b (line_for k ∷ []) []

abbrev pub board_by : Board → List Item → Board
board_by b xs = (logged {W = Unix} b (map Show xs)).board

board_is : (b : Board) (xs : List Item) → board_by b xs ≡ fold board_after b xs
board_is b xs = ap (λ (l : Logged Unix). l.board) (logged_shown b xs)

pub board_more : (b : Board) (xs ys : List Item) → board_by (board_by b xs) ys ≡ board_by b (xs ++ ys)
board_more b xs ys =
    board_is (board_by b xs) ys ∙ ap (λ c. fold board_after c ys) (board_is b xs) ∙ sym (fold-append board_after b xs ys) ∙ sym (board_is b (xs ++ ys))

lines_more : (xs : List ℕ) (b : Bool) (k : ℕ) → map line_for (xs ++ cond b (k ∷ []) []) ≡ map line_for xs ++ one_line b k
lines_more [] true k = refl
lines_more [] false k = refl
lines_more (x ∷ xs) b k = ap (λ l. line_for x ∷ l) (lines_more xs b k)

wakes_are : (b : Bool) (k : ℕ) → wakes b (Disk k) ≡ map {B = Effect Unix} Show (one_line b k)
wakes_are true k = refl
wakes_are false k = refl

wakes_items : (b : Board) (called : Bool) (k : ℕ) → (logged {W = Unix} b (wakes called (Disk k))).items ≡ one_line called k
wakes_items b called k = ap (λ es. (logged {W = Unix} b es).items) (wakes_are called k) ∙ ap (λ (l : Logged Unix). l.items) (logged_shown b (one_line called k))

any_more : (xs : List Item) (b : Bool) (k : ℕ) → not (length (xs ++ one_line b k) == 0) ≡ (not (length xs == 0) || b)
any_more [] true k = refl
any_more [] false k = refl
any_more (x ∷ xs) b k =
    let some : (l : ℕ) → not (suc l == 0) ≡ true = λ l. ap not (ne_eqb (suc l) 0 (λ e. omega (arith, e))) in
    some (length (xs ++ one_line b k)) ∙ sym (ap (λ t. t || b) (some (length xs)))

or_false : (a b : Bool) → (a || b) ≡ false → (a ≡ false) × (b ≡ false)
or_false true b e = absurd (cc e)
or_false false true e = absurd (cc e)
or_false false false e = (refl, refl)

-- The parts when those below a slot have been woken who waited up to the end of the slot of this number.
pub record IsWoken (n k : ℕ) (old new : Procs) (woken : Woken) (start end : Taken) : Type 0 where
  pub others : new ≡ record old { table = new.table }
  pub same : woken.any ≡ false → new ≡ old
  pub agree : AreProcs new
  pub running : new.table.running ≡ old.table.running
  pub clock : clock_of new.table ≡ clock_of old.table
  pub board : board_of new.table new.images.kept ≡ board_by (board_of old.table old.images.kept) (lines_below n k (processes_of old))
  pub any : woken.any ≡ not (length (lines_below n k (processes_of old)) == 0)
  pub next : n < woken.next
  pub most : woken.next ≤ NEVER
  pub due : (s : ℕ) (p : Process) → s < k → get_or (processes_of old) s None ≡ Some p → p.u.pending ≡ DISK_WAIT → n < disk_end_of p
      → woken.next ≤ disk_end_of p
  pub items : Took start (lines_below n k (processes_of old)) end

-- nobody is in the kernel's slot
pub kernel_none : (p : Procs) → member_at p.rows.slots 0 ≡ None → get_or (processes_of p) 0 None ≡ None
kernel_none p none =
    process_in_slot p.rows.slots p.images.kept 0 (omega arith)
    ∙ ap (λ o. process_in o (keeping p.images.kept 0) (text_of p.images.kept 0)) none

pub woken_first : (n : ℕ) (p : Procs) (start : Taken) → AreProcs p → n < NEVER → get_or (processes_of p) 0 None ≡ None
    → IsWoken n 1 p p (record { any = false; next = NEVER }) start start
woken_first n p start agree few kernel = record {
  others = refl;
  same = λ none. refl;
  agree = agree;
  running = refl;
  clock = refl;
  board = refl;
  any = refl;
  next = few;
  most = omega arith;
  due = λ s q low is waits late. let zero : s ≡ 0 = omega (arith, low) in
      absurd (let none = ap (λ r. get_or (processes_of p) r None) zero ∙ kernel in cc (none, is));
  items = took_nothing start [] refl;
}

module _ {n k : ℕ} {old mid : Procs} {woken : Woken} {start a : Taken} (was : IsWoken n k old mid woken start a) (above : 1 ≤ k) (low : k < 50)
    (end : ℕ) (ends : (m : ℕ) → m < NEVER → IsMeant m k (get_or (processes_of mid) k None) ≡ (end == m)) (few : n < NEVER)
    (t : Table) (table : t ≡ called_table (end == n) (Disk k) mid.table) (fine : IsTable t)
    (board : board_of t mid.images.kept ≡ (logged {W = Unix} (board_of mid.table mid.images.kept) (wakes (end == n) (Disk k))).board) where
  abbrev ps : List (Option Process)
  ps = processes_of old

  abbrev pub now : Procs
  now = record mid { table = t }

  its : processes_of mid ≡ ps
  its = ap processes_of was.others

  ends_here : (m : ℕ) → m < NEVER → IsMeant m k (get_or ps k None) ≡ (end == m)
  ends_here m less = ap (λ (l : List (Option Process)). IsMeant m k (get_or l k None)) (sym its) ∙ ends m less

  lines_next : lines_below n (k + 1) ps ≡ lines_below n k ps ++ one_line (end == n) k
  lines_next =
      ap (map line_for) (next_meant (waits_until n) n k ps (end == n) above (sym (ends_here n few)))
      ∙ lines_more (meant_below (waits_until n) n k ps) (end == n) k

  pub woken_next : (b : Taken) (after : Woken) → Took a (logged {W = Unix} (board_of mid.table mid.images.kept) (wakes (end == n) (Disk k))).items b
      → after.any ≡ (woken.any || (end == n)) → n < after.next → after.next ≤ woken.next → (n < end → after.next ≤ end)
      → IsWoken n (k + 1) old now after start b
  woken_next b after items any next sooner due = record {
    others = ap (λ (p : Procs). record p { table = t }) was.others;
    same = λ none.
        let both = or_false woken.any (end == n) (sym any ∙ none) in
        ap (λ (u : Table). record mid { table = u }) (table ∙ ap (λ b. called_table b (Disk k) mid.table) both.1) ∙ was.same both.0;
    agree = called_agree mid.rows mid.images.kept mid.table t (end == n) (Disk k) table fine was.agree;
    running = ap (λ (x : Table). x.running) table ∙ called_running mid.table (end == n) (Disk k) ∙ was.running;
    clock = ap clock_of table ∙ called_clock mid.table (end == n) (Disk k) ∙ was.clock;
    board = board ∙ ap (λ es. (logged {W = Unix} (board_of mid.table mid.images.kept) es).board) (wakes_are (end == n) k)
        ∙ ap (λ c. board_by c (one_line (end == n) k)) was.board
        ∙ board_more (board_of old.table old.images.kept) (lines_below n k ps) (one_line (end == n) k)
        ∙ ap (board_by (board_of old.table old.images.kept)) (sym lines_next);
    any = any ∙ ap (λ c. c || (end == n)) was.any ∙ sym (any_more (lines_below n k ps) (end == n) k)
        ∙ ap (λ l. not (length l == 0)) (sym lines_next);
    next = next;
    most = let m = was.most in omega (arith, sooner, m);
    due = λ s p below is waits late. elim (cases_lt s k) [
      | inl less ↦ let m = was.due s p less is waits late in omega (arith, sooner, m)
      | inr past ↦
          let here : s ≡ k = omega (arith, below, past) in
          own_due p (ap (λ r. get_or ps r None) (sym here) ∙ is) waits late
    ];
    items = took_then start a b (lines_below n k ps) (one_line (end == n) k) (lines_below n (k + 1) ps) was.items
        (subst (λ l. Took a l b) (wakes_items (board_of mid.table mid.images.kept) (end == n) k) items) (sym lines_next);
  }
    where
      own_due : (p : Process) → get_or ps k None ≡ Some p → p.u.pending ≡ DISK_WAIT → n < disk_end_of p → after.next ≤ disk_end_of p
      own_due p is waits late = elim (cases_lt (disk_end_of p) NEVER) [
        | inl less ↦
            let meant : IsMeant (disk_end_of p) k (Some p) ≡ true =
            ap (λ b. b && (disk_end_of p == disk_end_of p)) (eq-eqb p.u.pending DISK_WAIT waits) ∙ eq-eqb (disk_end_of p) (disk_end_of p) refl in
            let e : end ≡ disk_end_of p = eqb-true end (disk_end_of p)
            (sym (ends_here (disk_end_of p) less) ∙ ap (IsMeant (disk_end_of p) k) is ∙ meant) in
            let m = due (subst (λ x. n < x) (sym e) late) in omega (arith, m, e)
        | inr past ↦ let m = was.most in omega (arith, sooner, m, past)
      ]

-- when all slots have been looked at
module _ {n : ℕ} {old new : Procs} {woken : Woken} {start end : Taken} (was : IsWoken n 50 old new woken start end) where
  pub all_due : AreDueFrom woken.next n (processes_of old)
  all_due s p is waits = elim (cases_lt n (disk_end_of p)) [
    | inl late ↦ inr (was.due s p (elim (cases_lt s 50) [
      | inl low ↦ low
      | inr past ↦ absurd (let none = beyond s past in cc (none, is))
    ]) is waits late)
    | inr past ↦ inl (omega (arith, past))
  ]
    where
      beyond : (s : ℕ) → 50 ≤ s → get_or (processes_of old) s None ≡ None
      beyond s past = get_or_past (processes_of old) s None (let l = fifty_processes old.rows.slots old.images.kept in omega (arith, l, past))

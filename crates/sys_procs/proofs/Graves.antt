-- A process that has ended and its parent's wait: what is kept of it, what becomes of its slot, and the row of wait(II).
use Rattle.std.proofs.Common.{◌≡◌, ◌∙◌, ℕ, ◌+◌, ◌*◌, ◌/◌, ◌%◌, ◌^◌, ◌<◌, Bool, true, false, ◌&&◌, cond, List, [], ◌∷◌, length, get_or, take, set, Option, Some, None, IsSome, refl, sym, ap, subst, arith}
use Rattle.std.specs.Option.{unwrap_or}
use Rattle.std.proofs.Math.Nat.{mod-add-mod}
use Rattle.std.proofs.lemmas.List.{length-set, get_or-take, get_or-set_same, get_or-set_other}
use Rattle.v6_base.specs.declared.entry.Chan.TheVariants.{Wait}
use Rattle.v6_base.specs.declared.entry.Entry.TheVariants as line
use Rattle.v6_base.specs.declared.errno.Errno.TheVariants.{EINTR}
use Rattle.fs_codec.specs.Words.{word, long}
use Rattle.u_area.specs.declared.area.UArea.{UArea}
use Rattle.u_area.specs.Area.{area_bytes, half_bytes, times, IsSized}
use Rattle.u_area.proofs.PartLemmas.{word_of_bytes}
use Rattle.u_area.proofs.AreaLemmas.{Parts, parts_of_area}
use Rattle.pick_rules.specs.Priority.{pwait}
use Rattle.pick_rules.specs.declared.row.TableRow.{TableRow}
use Rattle.pick_rules.specs.declared.table.Table.{Table}
use Rattle.pick_rules.specs.Table.{row_at, with_row, empty_row}
use Rattle.pick_rules.specs.Apply.{applied}
use Rattle.proc_tab.specs.declared.member.Member.{Member}
use Rattle.proc_tab.specs.declared.child.Child.{Child}
use Rattle.proc_tab.specs.declared.child.Child.TheVariants.{Living}
use Rattle.proc_tab.specs.Processes.{Processes, member_at, without, passes}
use Rattle.proc_tab.specs.Children.{child, is_child_of, is_dead_child_of}
use Rattle.image_keep.specs.Kept.{Held, Keeping, Nothing, Alive, Grave, Kept, keeping, with_keeping, text_of, area_in, HasImage, HasGrave}
use Rattle.fs_nodes.specs.FileSystem.{FileSystem}
use Rattle.sys_procs.specs.declared.procs.Procs.{Procs}
use Rattle.sys_procs.specs.Process.{Process, no_process, process_by, process_in}
use Rattle.sys_procs.specs.World.{World, change, without_process, processes_in}
use Rattle.sys_procs.specs.Comes.{fails, sleeps}
use Rattle.sys_procs.specs.Wait.{waiting, waits_for, wait_child}
use Rattle.sys_procs.specs.Agree.{Free, Lives, Died, kind_by, kind_of_member, kind_of_keeping, Agrees, Agree}
use Rattle.sys_procs.specs.Handed.{AreProcs, IsAlive, handed, board, process_here}
use Rattle.sys_procs.proofs.Slots.{one_changed, own_is, members_are}
use Rattle.sys_procs.proofs.Agreement.{agree_but, same_texts}
use Rattle.sys_procs.proofs.TimesLemmas.{is_due}

-- The words of half a u area.
word_of_half : (b : List ℕ) (at : ℕ) → at + 1 < 512 → word (take 512 b) at ≡ word b at
word_of_half b at h =
    let low : get_or (take 512 b) at 0 ≡ get_or b at 0 = get_or-take 512 b at 0 (omega arith) in
    let high : get_or (take 512 b) (at + 1) 0 ≡ get_or b (at + 1) 0 = get_or-take 512 b (at + 1) 0 h in
    λ i. low i + 256 * high i

pub record TellsOf (half : List ℕ) (u : UArea) : Type 0 where
  pub user_time : word half 48 ≡ u.user_time
  pub system_time : word half 50 ≡ u.system_time
  pub child_user : long half 52 ≡ u.child_user
  pub child_system : long half 56 ≡ u.child_system
  pub status : word half 60 ≡ u.status

joined_words : (high low x : ℕ) → high ≡ x / 65536 → low ≡ x % 65536 → 65536 * high + low ≡ x
joined_words high low x e f = omega (arith, e, f)

half_tells : (u : UArea) → IsSized u → TellsOf (half_bytes u) u
half_tells u sized =
    let b : List ℕ = area_bytes u in
    let p : Parts b u = parts_of_area b u sized refl in
    record {
      user_time = word_of_half b 48 (omega arith) ∙ word_of_bytes b (times u) 48 6 0 p.times (omega arith);
      system_time = word_of_half b 50 (omega arith) ∙ word_of_bytes b (times u) 48 6 1 p.times (omega arith);
      child_user = joined_words (word (half_bytes u) 52) (word (half_bytes u) 54) u.child_user
          (word_of_half b 52 (omega arith) ∙ word_of_bytes b (times u) 48 6 2 p.times (omega arith))
          (word_of_half b 54 (omega arith) ∙ word_of_bytes b (times u) 48 6 3 p.times (omega arith));
      child_system = joined_words (word (half_bytes u) 56) (word (half_bytes u) 58) u.child_system
          (word_of_half b 56 (omega arith) ∙ word_of_bytes b (times u) 48 6 4 p.times (omega arith))
          (word_of_half b 58 (omega arith) ∙ word_of_bytes b (times u) 48 6 5 p.times (omega arith));
      status = word_of_half b 60 (omega arith) ∙ word_of_bytes b (u.status ∷ []) 60 1 0 p.status (omega arith);
    }

pub tells : (half : List ℕ) (u : UArea) → IsSized u → half ≡ half_bytes u → TellsOf half u
tells half u sized e = subst (λ h. TellsOf h u) (sym e) (half_tells u sized)

-- Times are added modulo 2^32, one after the other.
pub added : (own a b x y : ℕ) → a ≡ x → b ≡ y → ((own + a) % 4294967296 + b) % 4294967296 ≡ (own + x + y) % 2 ^ 32
added own a b x y e f = mod-add-mod (own + a) 4294967296 b ∙ (λ i. (own + e i + f i) % 4294967296)

pub is_buried : (m : Option Member) (row : TableRow) (x : Keeping) (u : UArea) (block : ℕ) → Agrees m row x → x ≡ Grave u block → (it : Member) × (m ≡ Some it)
is_buried m row x u block a e = by m refl
  where
    kind : kind_of_member m ≡ Died
    kind = sym a.image ∙ ap kind_of_keeping e

    by : (o : Option Member) → m ≡ o → (it : Member) × (o ≡ Some it)
    by None f = absurd (let g : Free ≡ Died = ap kind_of_member (sym f) ∙ kind in cc g)
    by (Some it) f = (it, refl)

grave_by : (x : Keeping) → kind_of_keeping x ≡ Died → (u : UArea) × (block : ℕ) × (x ≡ Grave u block)
grave_by Nothing e = absurd (cc e)
grave_by (Alive held) e = absurd (cc e)
grave_by (Grave u block) e = (u, block, refl)

dead_by : (m : Option Member) (pid : ℕ) → passes (is_dead_child_of pid) m ≡ true → kind_of_member m ≡ Died
dead_by None pid e = absurd (cc e)
dead_by (Some m) pid e = by (is_child_of pid m) m.is_dead e
  where
    by : (b d : Bool) → (b && d) ≡ true → kind_by d ≡ Died
    by true true f = refl
    by true false f = absurd (cc f)
    by false d f = absurd (cc f)

pub has_grave : (v : Processes) (t : Table) (k : Kept) (s pid : ℕ) → Agree v t k → 0 < s → s < 50 → passes (is_dead_child_of pid) (member_at v.slots s) ≡ true → HasGrave k s
has_grave v t k s pid a above low e = grave_by (keeping k s) ((a.each s above low).image ∙ dead_by (member_at v.slots s) pid e)

pub used : (v : Processes) (t : Table) (k : Kept) (s : ℕ) → Agree v t k → 0 < s → s < 50 → HasGrave k s → IsSome (member_at v.slots s)
used v t k s a above low grave =
    let it = is_buried (member_at v.slots s) (row_at t s) (keeping k s) grave.0 grave.1 (a.each s above low) grave.2 in
    subst (λ (o : Option Member). IsSome o) (sym it.1) refl

buried : (o : Option Member) (x : Keeping) (t : Option ℕ) (it : Member) (u : UArea) (block : ℕ) → o ≡ Some it → x ≡ Grave u block → (unwrap_or (process_in o x t) no_process).u ≡ area_in x
buried o x t it u block e f =
    ap (λ (p : Option Member). (unwrap_or (process_in p x t) no_process).u) e
    ∙ (ap (λ (y : Keeping). (process_by it y t).u) f ∙ sym (ap area_in f))

pub area_buried : (p : Procs) (s : ℕ) → AreProcs p → 0 < s → s < 50 → HasGrave p.images.kept s → area_in (keeping p.images.kept s) ≡ (process_here p s).u
area_buried p s a above low grave =
    let it = is_buried (member_at p.rows.slots s) (row_at p.table s) (keeping p.images.kept s) grave.0 grave.1 (a.each s above low) grave.2 in
    sym (ap (λ (q : Process). q.u) (own_is p.rows.slots p.images.kept s low)
    ∙ buried (member_at p.rows.slots s) (keeping p.images.kept s) (text_of p.images.kept s) it.0 grave.0 grave.1 it.1 grave.2)

-- A slot that becomes free.
abbrev pub cleared : Procs → ℕ → Procs
cleared p s = record p {
  rows = without p.rows s;
  table = with_row p.table s empty_row;
  images = record p.images { kept = with_keeping p.images.kept s Nothing };
}

module _ (p : Procs) (s : ℕ) (low : s < 50) (slots : length p.rows.slots ≡ 50) (images : length p.images.kept.slots ≡ 50) where
  processes_cleared : processes_in (set p.rows.slots s None) (with_keeping p.images.kept s Nothing) ≡ set (processes_in p.rows.slots p.images.kept) s None
  processes_cleared = one_changed p.rows.slots (set p.rows.slots s None) p.images.kept (with_keeping p.images.kept s Nothing) s None low
      (ap (λ o. process_in o (keeping (with_keeping p.images.kept s Nothing) s) (text_of p.images.kept s)) (get_or-set_same p.rows.slots s None None (omega (arith, low, slots))))
      (λ r below other.
      ap (λ o. process_in o (keeping (with_keeping p.images.kept s Nothing) r) (text_of p.images.kept r)) (get_or-set_other p.rows.slots s r None None other)
      ∙ ap (λ x. process_in (member_at p.rows.slots r) x (text_of p.images.kept r)) (get_or-set_other p.images.kept.slots s r Nothing Nothing other))

  pub state_cleared : (fs : FileSystem) → handed (cleared p s) fs ≡ without_process (handed p fs) s
  state_cleared fs = ap (λ (ps : List (Option Process)). record (handed p fs) { processes = ps }) processes_cleared

  pub board_cleared : board (cleared p s) ≡ applied (board p) (line.Reap s)
  unfolding applied
  board_cleared = refl

  -- who has ended shares no text
  text_buried : 0 < s → AreProcs p → HasGrave p.images.kept s → text_of p.images.kept s ≡ None
  text_buried above a grave =
      let one = a.each s above low in
      let died : Died ≡ kind_of_member (member_at p.rows.slots s) = sym (ap kind_of_keeping grave.2) ∙ one.image in
      sym (a.text s above low) ∙ one.textless (λ l. let e : Died ≡ Lives = died ∙ l in cc e)

  pub agree_cleared : 0 < s → AreProcs p → HasGrave p.images.kept s → AreProcs (cleared p s)
  agree_cleared above a grave =
      let free : Agrees None empty_row Nothing = record {
        stat = refl;
        image = refl;
        place = refl;
        size = λ held is. absurd (cc is);
        quiet = λ f. refl;
        textless = λ f. refl;
      } in
      agree_but p.rows (without p.rows s) p.table (with_row p.table s empty_row) p.images.kept (with_keeping p.images.kept s Nothing) s a above
      (record { last = a.table.last; running = a.table.running; ticks = a.table.ticks })
      (length-set p.table.rows s empty_row)
      (subst (λ o. Agrees o (row_at (with_row p.table s empty_row) s) (keeping (with_keeping p.images.kept s Nothing) s))
      (sym (get_or-set_same p.rows.slots s None None (omega (arith, low, slots))))
      (subst (λ (row : TableRow). Agrees None row (keeping (with_keeping p.images.kept s Nothing) s))
      (sym (get_or-set_same p.table.rows s empty_row empty_row (omega (arith, low, a.rows))))
      (subst (λ x. Agrees None empty_row x) (sym (get_or-set_same p.images.kept.slots s Nothing Nothing (omega (arith, low, images)))) free)))
      (ap (λ (r : TableRow). r.text) (get_or-set_same p.table.rows s empty_row empty_row (omega (arith, low, a.rows)))
      ∙ sym (text_buried above a grave))
      (same_texts p.images.kept s Nothing)
      (λ r other. get_or-set_other p.rows.slots s r None None other)
      (λ r other. get_or-set_other p.table.rows s r empty_row empty_row other)
      (λ r other. get_or-set_other p.images.kept.slots s r Nothing Nothing other)

-- another slot's image
still_there : (k : Kept) (s dead : ℕ) (held : Held) (u : UArea) (block : ℕ) → keeping k s ≡ Alive held → keeping k dead ≡ Grave u block → keeping (with_keeping k dead Nothing) s ≡ Alive held
still_there k s dead held u block has grave =
    get_or-set_other k.slots dead s Nothing Nothing
    (λ e. let same : Alive held ≡ Grave u block = sym has ∙ (ap (keeping k) e ∙ grave) in cc same) ∙ has

pub still_alive : (p q : Procs) (s dead : ℕ) → IsAlive p s → HasGrave p.images.kept dead → q.images.kept ≡ with_keeping p.images.kept dead Nothing → AreProcs q → IsAlive q s
still_alive p q s dead alive grave e a =
    let has = alive.image in
    record {
      agree = a;
      above = alive.above;
      below = alive.below;
      image = subst (λ k. HasImage k s) (sym e) (has.0, still_there p.images.kept s dead has.0 grave.0 grave.1 has.1 grave.2);
    }

-- What is told of the children is what the row of wait(II) goes by.
pub wait_row : (p : Procs) (s : ℕ) (fs : FileSystem) (pid : ℕ) (told other : Child) → length p.rows.slots ≡ 50 → pid ≡ (process_here p s).row.pid
    → told ≡ child p.rows.slots pid → told ≡ other → waits_for (handed p fs) s other ≡ wait_child (handed p fs) s
unfolding wait_child
wait_row p s fs pid told other long is e f =
    ap (waits_for (handed p fs) s)
    (sym f ∙ (e ∙ (ap (child p.rows.slots) is ∙ ap (λ (slots : List (Option Member)). child slots (process_here p s).row.pid) (sym (members_are p.rows.slots p.images.kept long)))))

-- where no child has ended: a wait begins, or a signal that is due breaks it off
pub wait_begins : (w : World) (s : ℕ) → is_due w s ≡ false → sleeps (change w s waiting) pwait (Wait s) ≡ waits_for w s Living
wait_begins w s is = sym (ap (λ b. cond b (fails w EINTR) (sleeps (change w s waiting) pwait (Wait s))) is)

pub wait_broken_off : (w : World) (s : ℕ) → is_due w s ≡ true → fails w EINTR ≡ waits_for w s Living
wait_broken_off w s is = sym (ap (λ b. cond b (fails w EINTR) (sleeps (change w s waiting) pwait (Wait s))) is)

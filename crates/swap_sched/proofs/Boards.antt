-- The board after a move, by the table and by what is kept of images.
use Rattle.std.proofs.Common.{◌≡◌, ◌∙◌, ◌<◌, ◌+◌, ◌==◌, ℕ, Bool, true, false, cond, length, map, Option, Some, None, refl, sym, ap, subst, arith}
use Rattle.v6_base.specs.declared.entry.Chan.{Chan}
use Rattle.v6_base.specs.declared.entry.Chan.TheVariants.{RunIn, RunOut}
use Rattle.v6_base.specs.declared.entry.Place.TheVariants.{Core, Swap}
use Rattle.v6_base.specs.declared.entry.Entry.TheVariants as line
use Rattle.pick_rules.specs.declared.table.Table.{Table}
use Rattle.pick_rules.specs.Priority.{pswp}
use Rattle.pick_rules.specs.Table.{row_at, with_row, is_loaded, same_chan}
use Rattle.pick_rules.specs.Sleepers.{made_ready, sleeps_on, process_0_woken, runout_told, asleep, fall_asleep}
use Rattle.pick_rules.specs.Board.{Board, with_text}
use Rattle.pick_rules.specs.Apply.{in_table, change_row, change_text, leaves_core, at_place, without_place, brought, brought_by, applied}
use Rattle.pick_rules.proofs.Placing.{row_in, core_table, again_row, text_core, goes_out, goes_core}
use Rattle.image_keep.specs.Kept.{Kept, Shared, shared, text_of}
use Rattle.image_keep.specs.Moves.{need_shared, text_need, come_shared, leave_shared, swapped_in, swapped_out}
use Rattle.swap_sched.specs.Match.{text_place, board_of}
use Rattle.swap_sched.proofs.Texts.{text_at_map, one_more, one_fewer, fewer_texts, first_texts, more_texts, no_texts}

board_is : (a b : Board) → a.table ≡ b.table → a.texts ≡ b.texts → a.core ≡ b.core → a ≡ b
board_is a b t x c = λ i. record { table = t i; texts = x i; core = c i }

-- The board doesn't tell the time at which sleepers are woken.
abbrev pub untimed : Table → Table
untimed t = record t { tout = 0 }

-- what a change does to a choice of two
pub either : {A B : Type 0} (f : A → B) (b : Bool) (x y : A) → f (cond b x y) ≡ cond b (f x) (f y)
either f true x y = refl
either f false x y = refl

pub untimed_ready : (t : Table) (s : ℕ) → untimed (made_ready t s) ≡ made_ready (untimed t) s
unfolding made_ready
untimed_ready t s = refl

untimed_zero : (t : Table) (w : Chan) → untimed (process_0_woken t w) ≡ process_0_woken (untimed t) w
untimed_zero t w = either untimed (sleeps_on t 0 w) (made_ready t 0) t ∙ ap (λ u. cond (sleeps_on t 0 w) u (untimed t)) (untimed_ready t 0)

pub untimed_runout : (t : Table) → untimed (runout_told t) ≡ runout_told (untimed t)
unfolding runout_told
untimed_runout t =
    either untimed t.runout (process_0_woken (record t { runout = false }) RunOut) t
    ∙ ap (λ u. cond t.runout u (untimed t)) (untimed_zero (record t { runout = false }) RunOut)

-- Process 0 sleeps.
untimed_asleep : (t : Table) (w : Chan) → untimed (fall_asleep t 0 pswp w) ≡ fall_asleep (untimed t) 0 pswp w
unfolding fall_asleep
untimed_asleep t w = either untimed (same_chan w RunIn) (record (asleep t 0 pswp w) { runin = true }) (record (asleep t 0 pswp w) { runout = true })

pub sleep_board : (t : Table) (k : Kept) (w : Chan) → board_of (fall_asleep t 0 pswp w) k ≡ applied (board_of t k) (line.Sleep 0 pswp w)
unfolding applied
sleep_board t k w = ap (λ (u : Table). record (board_of t k) { table = u }) (untimed_asleep t w)

-- What a change of one text leaves.
pub come_core : (k : Kept) (o : Option ℕ) (c : ℕ) → (come_shared k o c).core ≡ k.core
come_core k None c = refl
come_core k (Some j) c = refl

pub come_slots : (k : Kept) (o : Option ℕ) (c : ℕ) → (come_shared k o c).slots ≡ k.slots
come_slots k None c = refl
come_slots k (Some j) c = refl

pub come_users : (k : Kept) (o : Option ℕ) (c : ℕ) → (come_shared k o c).users ≡ k.users
come_users k None c = refl
come_users k (Some j) c = refl

pub leave_core : (k : Kept) (o : Option ℕ) → (leave_shared k o).core ≡ k.core
leave_core k None = refl
leave_core k (Some j) = refl

pub leave_slots : (k : Kept) (o : Option ℕ) → (leave_shared k o).slots ≡ k.slots
leave_slots k None = refl
leave_slots k (Some j) = refl

pub leave_users : (k : Kept) (o : Option ℕ) → (leave_shared k o).users ≡ k.users
leave_users k None = refl
leave_users k (Some j) = refl

leave_texts : (t : Table) (k : Kept) (o : Option ℕ) → map text_place (leave_shared k o).texts ≡ (change_text (board_of t k) o one_fewer).texts
leave_texts t k None = refl
leave_texts t k (Some j) = fewer_texts k.texts j

-- An image goes out.
pub out_board : (t : Table) (k : Kept) (s block : ℕ) → s < length t.rows → is_loaded t s ≡ true → (row_at t s).text ≡ text_of k s
    → board_of (runout_told (with_row t s (record (row_at t s) { place = Some (Swap block); time = 0 }))) (swapped_out k s (Some block))
    ≡ applied (board_of t k) (line.SwapOut s block)
unfolding applied swapped_out
out_board t k s block l loaded e = board_is _ _ table texts core
  where
    now : Table
    now = with_row t s (record (row_at t s) { place = Some (Swap block); time = 0 })

    table : untimed (runout_told now) ≡ (at_place (without_place (board_of t k) s) s (row_at t s).size (Swap block)).table
    table = untimed_runout now ∙ sym (goes_out (board_of t k) s block l)

    texts : map text_place (leave_shared k (text_of k s)).texts ≡ (without_place (board_of t k) s).texts
    texts = leave_texts t k (text_of k s) ∙ ap (λ o. (change_text (board_of t k) o one_fewer).texts) (sym e)
        ∙ ap (λ b. (cond b (leaves_core (board_of t k) (row_at t s).text) (board_of t k)).texts) (sym loaded)

    core : (leave_shared k (text_of k s)).core ≡ (without_place (board_of t k) s).core
    core = leave_core k (text_of k s) ∙ sym (goes_core (board_of t k) s block)

-- An image comes in, with its text where that isn't there.
record IsBrought (t : Table) (k : Kept) (s c : ℕ) (o : Option ℕ) (now : Board) : Type 0 where
  pub table : now.table ≡ with_row (untimed t) s (row_in (row_at t s) (row_at t s).size (c + text_need k o))
  pub texts : now.texts ≡ map text_place (come_shared k o c).texts
  pub core : now.core ≡ k.core

module _ (t : Table) (k : Kept) (s c : ℕ) where
  plain : (o : Option ℕ) (d : ℕ) → d ≡ c + text_need k o → (b : Board) → b.table ≡ untimed t → b.core ≡ k.core
      → (change_text b (row_at b.table s).text one_more).texts ≡ map text_place (come_shared k o c).texts
      → IsBrought t k s c o (at_place b s (row_at t s).size (Core d))
  plain o d n b same core texts = record {
    table = core_table b s (row_at t s).size d
        ∙ ap (λ u. with_row u s (row_in (row_at u s) (row_at t s).size d)) same
        ∙ ap (λ m. with_row (untimed t) s (row_in (row_at t s) (row_at t s).size m)) n;
    texts = texts;
    core = text_core b (row_at b.table s).text one_more ∙ core;
  }

  none_brought : (row_at t s).text ≡ None → IsBrought t k s c None (at_place (board_of t k) s (row_at t s).size (Core c))
  none_brought e = plain None c (omega arith) (board_of t k) refl refl (ap (λ o. (change_text (board_of t k) o one_more).texts) e)

  module _ (j : ℕ) (e : (row_at t s).text ≡ Some j) where
    of_none : shared k j ≡ None → IsBrought t k s c (Some j) (at_place (board_of t k) s (row_at t s).size (Core c))
    of_none f =
        let n : text_need k (Some j) ≡ 0 = ap need_shared f in
        plain (Some j) c (omega (arith, n)) (board_of t k) refl refl
        (ap (λ o. (change_text (board_of t k) o one_more).texts) e ∙ no_texts k.texts j c f)

    of_text : (x : Shared) → shared k j ≡ Some x → (b : Bool) → (x.row.loaded == 0) ≡ b
        → IsBrought t k s c (Some j) (cond b
        (at_place (with_text (board_of t k) j (Some (record {
          clicks = x.row.clicks;
          users = x.row.users;
          loaded = x.row.loaded;
          click = c;
          block = x.row.block;
        }))) s (row_at t s).size (Core (c + x.row.clicks)))
        (at_place (board_of t k) s (row_at t s).size (Core c)))
    of_text x f true g =
        let n : text_need k (Some j) ≡ x.row.clicks = ap need_shared f ∙ ap (λ b. cond b x.row.clicks 0) g in
        plain (Some j) (c + x.row.clicks) (omega (arith, n)) _ refl refl
        (ap (λ o. (change_text (with_text (board_of t k) j (Some (record {
          clicks = x.row.clicks;
          users = x.row.users;
          loaded = x.row.loaded;
          click = c;
          block = x.row.block;
        }))) o one_more).texts) e ∙ first_texts k.texts j c x f g)
    of_text x f false g =
        let n : text_need k (Some j) ≡ 0 = ap need_shared f ∙ ap (λ b. cond b x.row.clicks 0) g in
        plain (Some j) c (omega (arith, n)) (board_of t k) refl refl
        (ap (λ o. (change_text (board_of t k) o one_more).texts) e ∙ more_texts k.texts j c x f g)

    of_shared : (o : Option Shared) → shared k j ≡ o → IsBrought t k s c (Some j) (brought_by (board_of t k) s j (text_place o) c)
    of_shared None f = of_none f
    of_shared (Some x) f = of_text x f (x.row.loaded == 0) refl

    some_brought : IsBrought t k s c (Some j) (brought (board_of t k) s (Some j) c)
    some_brought = subst (λ y. IsBrought t k s c (Some j) (brought_by (board_of t k) s j y c)) (sym (text_at_map k.texts j)) (of_shared (shared k j) refl)

  is_brought : (o : Option ℕ) → (row_at t s).text ≡ o → IsBrought t k s c o (brought (board_of t k) s o c)
  is_brought None e = none_brought e
  is_brought (Some j) e = some_brought j e

  pub in_board : s < length t.rows → (row_at t s).text ≡ text_of k s
      → board_of (with_row t s (record (row_at t s) { place = Some (Core (c + text_need k (text_of k s))); time = 0 })) (swapped_in k s (Some c))
      ≡ applied (board_of t k) (line.SwapIn s c)
  unfolding applied swapped_in
  in_board l e =
      let i : IsBrought t k s c (text_of k s) (brought (board_of t k) s (text_of k s) c) = is_brought (text_of k s) e in
      board_is _ _
      (sym (ap (λ u. change_row u s (λ row. record row { time = 0 })) i.table
      ∙ again_row (untimed t) s (row_in (row_at t s) (row_at t s).size (c + text_need k (text_of k s))) (λ row. record row { time = 0 }) l))
      (sym i.texts) (come_core k (text_of k s) c ∙ sym i.core)
      ∙ ap (λ o. in_table (brought (board_of t k) s o c) (λ u. change_row u s (λ row. record row { time = 0 }))) (sym e)

-- What keeps rows, slots and images in agreement.
use Rattle.std.proofs.Common.{◌≡◌, ◌≢◌, ◌∙◌, ℕ, ◌<◌, Bool, true, false, length, get_or, Option, Some, None, refl, sym, ap, subst, inl, inr, arith}
use Rattle.std.proofs.lemmas.Bool.{cases_eq}
use Rattle.std.proofs.lemmas.List.{length-set}
use Rattle.v6_base.specs.declared.entry.Chan.{Chan}
use Rattle.pick_rules.specs.declared.row.Stat.TheVariants.{Ready}
use Rattle.pick_rules.specs.declared.row.TableRow.{TableRow}
use Rattle.pick_rules.specs.declared.table.Table.{Table}
use Rattle.pick_rules.specs.Table.{empty_row, row_at, with_row, is_on, IsTable}
use Rattle.pick_rules.specs.Sleepers.{made_ready, sleeps_on, runout_told, wakeup}
use Rattle.pick_rules.proofs.Laws.{Stays, runout_stays, wakeup_stays, set_each}
use Rattle.proc_tab.specs.declared.member.Member.{Member}
use Rattle.proc_tab.specs.Processes.{Processes, member_at}
use Rattle.image_keep.specs.Kept.{Held, Keeping, Alive, Kept, keeping, with_keeping, text_of}
use Rattle.image_keep.proofs.Frames.{SameTexts}
use Rattle.sys_procs.specs.Agree.{Kind, Free, Lives, Died, kind_of_stat, kind_of_member, kind_of_keeping, kind_by, Agrees, Agree}

-- A row that agrees with what the old one agrees with: a sleeper may have been woken.
pub record IsLike (old new : TableRow) : Type 0 where
  pub place : new.place ≡ old.place
  pub size : new.size ≡ old.size
  pub text : new.text ≡ old.text
  pub awake : old.channel ≡ None → (new.stat ≡ old.stat) × (new.channel ≡ None)
  pub woken : old.channel ≢ None → kind_of_stat old.stat ≡ Lives → kind_of_stat new.stat ≡ Lives

pub like_same : (row : TableRow) → IsLike row row
like_same row = record { place = refl; size = refl; text = refl; awake = λ e. (refl, e); woken = λ e l. l }

-- who sleeps lives
lives : (m : Option Member) (row : TableRow) (x : Keeping) (w : Chan) → Agrees m row x → row.channel ≡ Some w → kind_of_member m ≡ Lives
lives m row x w a e = by (kind_of_member m) refl
  where
    never : kind_of_member m ≢ Lives → kind_of_member m ≡ Lives
    never f = absurd (let none : row.channel ≡ None = a.quiet f in cc (none, e))

    by : (kind : Kind) → kind_of_member m ≡ kind → kind_of_member m ≡ Lives
    by Free f = never (λ l. cc (f, l))
    by Lives f = f
    by Died f = never (λ l. cc (f, l))

pub like_agrees : (m : Option Member) (old new : TableRow) (x : Keeping) → Agrees m old x → IsLike old new → Agrees m new x
like_agrees m old new x a l = by old.channel refl
  where
    by : (o : Option Chan) → old.channel ≡ o → Agrees m new x
    by None e = let same = l.awake e in record {
      stat = ap kind_of_stat same.0 ∙ a.stat;
      image = a.image;
      place = l.place ∙ a.place;
      size = λ held is. l.size ∙ a.size held is;
      quiet = λ f. same.1;
      textless = λ f. l.text ∙ a.textless f;
    }
    by (Some w) e = let alive : kind_of_member m ≡ Lives = lives m old x w a e in record {
      stat = l.woken (λ none. cc (none, e)) (a.stat ∙ alive) ∙ sym alive;
      image = a.image;
      place = l.place ∙ a.place;
      size = λ held is. l.size ∙ a.size held is;
      quiet = λ f. absurd (f alive);
      textless = λ f. absurd (f alive);
    }

-- tables of which each row is like the old one
pub record AreLike (old new : Table) : Type 0 where
  pub long : length new.rows ≡ length old.rows
  pub each : (s : ℕ) → IsLike (row_at old s) (row_at new s)

pub tables_same : (old new : Table) → new.rows ≡ old.rows → AreLike old new
tables_same old new e = record {
  long = ap length e;
  each = λ s. subst (λ (row : TableRow). IsLike (row_at old s) row) (ap (λ rows. get_or rows s empty_row) (sym e)) (like_same (row_at old s));
}

pub agree_like : (v : Processes) (t u : Table) (k : Kept) → Agree v t k → IsTable u → AreLike t u → Agree v u k
agree_like v t u k a good l = record {
  table = good;
  rows = l.long ∙ a.rows;
  kernel = (l.each 0).place ∙ a.kernel;
  images = a.images;
  each = λ s above below. like_agrees (member_at v.slots s) (row_at t s) (row_at u s) (keeping k s) (a.each s above below) (l.each s);
  text = λ s above below. (l.each s).text ∙ a.text s above below;
  textless = a.textless;
}

pub row_like : (t : Table) (s : ℕ) (row : TableRow) → IsLike (row_at t s) row → AreLike t (with_row t s row)
row_like t s row l = record {
  long = length-set t.rows s row;
  each = set_each (λ r new. IsLike (row_at t r) new) t.rows s row (λ r. like_same (row_at t r)) l;
}

-- a sleeper becomes ready
ready_like : (old now : TableRow) (w : Chan) → is_on now.channel w ≡ true → IsLike old now → IsLike old (record now { stat = Ready; channel = None })
ready_like old now w on l = record {
  place = l.place;
  size = l.size;
  text = l.text;
  awake = λ e. absurd (off (l.awake e).1);
  woken = λ e f. refl;
}
  where
    off : now.channel ≡ None → ⊥
    off e = let f : is_on None w ≡ true = ap (λ c. is_on c w) (sym e) ∙ on in cc f

one_woken : (old t : Table) (s : ℕ) (w : Chan) → sleeps_on t s w ≡ true → AreLike old t → AreLike old (made_ready t s)
unfolding made_ready
one_woken old t s w on l = record {
  long = length-set t.rows s (record (row_at t s) { stat = Ready; channel = None }) ∙ l.long;
  each = set_each (λ r row. IsLike (row_at old r) row) t.rows s (record (row_at t s) { stat = Ready; channel = None }) l.each
      (ready_like (row_at old s) (row_at t s) w on (l.each s));
}

woken_like : (old : Table) → Stays (AreLike old)
woken_like old = record {
  woken = λ t s w on l. one_woken old t s w on l;
  runout = λ t l. record { long = l.long; each = l.each };
  runin = λ t l. record { long = l.long; each = l.each };
}

pub wakeup_like : (t : Table) (w : Chan) → AreLike t (wakeup t w)
wakeup_like t w = wakeup_stays (AreLike t) (woken_like t) t w (tables_same t t refl)

pub runout_like : (t : Table) → AreLike t (runout_told t)
runout_like t = runout_stays (AreLike t) (woken_like t) t (tables_same t t refl)

-- Where the texts are the same, and who has which.
pub same_text : (k l : Kept) (s : ℕ) → SameTexts k l → text_of k s ≡ text_of l s
same_text k l s same = ap (λ users. get_or users s None) (sym same.users)

-- a change of what a slot keeps leaves them
pub same_texts : (k : Kept) (s : ℕ) (x : Keeping) → SameTexts k (with_keeping k s x)
same_texts k s x = record { texts = refl; users = refl }

-- One slot has changed, in all three, and which text it has.
pub agree_with : (v w : Processes) (t u : Table) (k l : Kept) (s : ℕ) → Agree v t k → 0 < s → IsTable u → length u.rows ≡ length t.rows
    → Agrees (member_at w.slots s) (row_at u s) (keeping l s) → (row_at u s).text ≡ text_of l s
    → ((r : ℕ) → r ≢ s → text_of l r ≡ text_of k r)
    → ((r : ℕ) → r ≢ s → member_at w.slots r ≡ member_at v.slots r)
    → ((r : ℕ) → r ≢ s → row_at u r ≡ row_at t r)
    → ((r : ℕ) → r ≢ s → keeping l r ≡ keeping k r)
    → Agree w u l
agree_with v w t u k l s a above good long new text texts members rows images = record {
  table = good;
  rows = long ∙ a.rows;
  kernel = ap (λ row. row.place) (rows 0 (λ e. omega (arith, e, above))) ∙ a.kernel;
  images = images 0 (λ e. omega (arith, e, above)) ∙ a.images;
  each = λ r up low. elim (cases_eq r s) [
    | inl here ↦ subst (λ q. Agrees (member_at w.slots q) (row_at u q) (keeping l q)) (sym here) new
    | inr other ↦
        subst (λ m. Agrees m (row_at u r) (keeping l r)) (sym (members r other))
        (subst (λ (row : TableRow). Agrees (member_at v.slots r) row (keeping l r)) (sym (rows r other))
        (subst (λ x. Agrees (member_at v.slots r) (row_at t r) x) (sym (images r other)) (a.each r up low)))
  ];
  text = λ r up low. elim (cases_eq r s) [
    | inl here ↦ subst (λ q. (row_at u q).text ≡ text_of l q) (sym here) text
    | inr other ↦ ap (λ (row : TableRow). row.text) (rows r other) ∙ (a.text r up low ∙ sym (texts r other))
  ];
  textless = texts 0 (λ e. omega (arith, e, above)) ∙ a.textless;
}

-- One slot has changed, in all three, and who has which text is the same.
pub agree_but : (v w : Processes) (t u : Table) (k l : Kept) (s : ℕ) → Agree v t k → 0 < s → IsTable u → length u.rows ≡ length t.rows
    → Agrees (member_at w.slots s) (row_at u s) (keeping l s) → (row_at u s).text ≡ text_of k s → SameTexts k l
    → ((r : ℕ) → r ≢ s → member_at w.slots r ≡ member_at v.slots r)
    → ((r : ℕ) → r ≢ s → row_at u r ≡ row_at t r)
    → ((r : ℕ) → r ≢ s → keeping l r ≡ keeping k r)
    → Agree w u l
agree_but v w t u k l s a above good long new text same members rows images =
    agree_with v w t u k l s a above good long new (text ∙ same_text k l s same) (λ r other. sym (same_text k l r same)) members rows images

-- Who has an image is there, and hasn't ended.
pub is_there : (m : Option Member) (row : TableRow) (x : Keeping) (held : Held) → Agrees m row x → x ≡ Alive held → (it : Member) × (m ≡ Some it) × (it.is_dead ≡ false)
is_there m row x held a e = by m refl
  where
    kind : kind_of_member m ≡ Lives
    kind = sym a.image ∙ ap kind_of_keeping e

    alive : (b : Bool) → kind_by b ≡ Lives → b ≡ false
    alive true f = absurd (cc f)
    alive false f = refl

    by : (o : Option Member) → m ≡ o → (it : Member) × (o ≡ Some it) × (it.is_dead ≡ false)
    by None f = absurd (let g : Free ≡ Lives = ap kind_of_member (sym f) ∙ kind in cc g)
    by (Some it) f = (it, refl, alive it.is_dead (ap kind_of_member (sym f) ∙ kind))

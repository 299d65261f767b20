-- A process that lives: its row and its image, and what its changes leave.
use Rattle.std.proofs.Common.{◌≡◌, ◌≢◌, ◌∙◌, ℕ, ◌+◌, ◌*◌, ◌<◌, false, List, length, get_or, set, Option, Some, None, refl, sym, ap, subst, inl, inr, arith}
use Rattle.std.specs.Prelude.{⊤, MatchOption}
use Rattle.std.specs.Option.{unwrap_or}
use Rattle.std.proofs.lemmas.Bool.{cases_lt}
use Rattle.std.proofs.lemmas.List.{get_or-set_same, get_or-set_other, get_or_past}
use Rattle.v6_base.specs.Image.{Image}
use Rattle.v6_base.proofs.Took.{took_none, took_more}
use Rattle.u_area.specs.declared.area.UArea.{UArea}
use Rattle.pick_rules.specs.declared.row.TableRow.{TableRow}
use Rattle.pick_rules.specs.declared.table.Table.{Table}
use Rattle.pick_rules.specs.Table.{row_at, IsTable}
use Rattle.proc_tab.specs.declared.member.Member.{Member}
use Rattle.proc_tab.specs.declared.row.Row.{Row}
use Rattle.proc_tab.specs.Processes.{member_at, changed, with_change, with_row}
use Rattle.image_keep.specs.Kept.{Held, Keeping, Nothing, Alive, Kept, keeping, described, with_area, text_of, area_in, clicks_of, HasSizes}
use Rattle.image_keep.proofs.Frames.{with_area_texts}
use Rattle.fs_nodes.proofs.RestLemmas.{rest_stays}
use Rattle.fs_nodes.specs.FileSystem.{FileSystem}
use Rattle.sys_procs.specs.declared.procs.Procs.{Procs}
use Rattle.sys_procs.specs.Process.{Process, no_process, process_by}
use Rattle.sys_procs.specs.World.{processes_in}
use Rattle.sys_procs.specs.Agree.{Agrees}
use Rattle.sys_procs.specs.Handed.{Calls, IsAlive, process_here, handed, board}
use Rattle.sys_procs.proofs.Slots.{own_alive, row_changed, area_changed}
use Rattle.sys_procs.proofs.Agreement.{is_there, agree_but, agree_like, AreLike}

runs_below : (t : Table) (s : ℕ) → IsTable t → t.running ≡ Some s → s < 50
runs_below t s good e = subst (λ o. MatchOption o ⊤ (λ r. r < 50)) e good.running

-- who calls lives
pub calls_alive : (p : Procs) (fs : FileSystem) (s : ℕ) → Calls p fs s → IsAlive p s
calls_alive p fs s calls = record {
  agree = calls.agree;
  above = calls.user;
  below = runs_below p.table s calls.agree.table calls.runs;
  image = calls.image;
}

-- who lives is there, with an image
pub record IsHere (p : Procs) (s : ℕ) : Type 0 where
  pub member : Member
  pub held : Held
  pub member_is : member_at p.rows.slots s ≡ Some member
  pub image_is : keeping p.images.kept s ≡ Alive held
  pub is_living : member.is_dead ≡ false
  pub process_is : process_here p s ≡ process_by member (Alive held) (text_of p.images.kept s)

pub is_here : (p : Procs) (s : ℕ) → IsAlive p s → IsHere p s
is_here p s alive =
    let has = alive.image in
    let there = is_there (member_at p.rows.slots s) (row_at p.table s) (keeping p.images.kept s) has.0 (alive.agree.each s alive.above alive.below) has.1 in
    record {
      member = there.0;
      held = has.0;
      member_is = there.1;
      image_is = has.1;
      is_living = there.2;
      process_is = own_alive p.rows.slots p.images.kept s there.0 has.0 alive.below there.1 has.1;
    }

pub area_here : (p : Procs) (s : ℕ) → IsAlive p s → area_in (keeping p.images.kept s) ≡ (process_here p s).u
area_here p s alive = let here = is_here p s alive in ap area_in here.image_is ∙ sym (ap (λ q. q.u) here.process_is)

-- what is read of a slot into which somebody is put
pub put_here : (ps : List (Option Process)) (s : ℕ) (q : Process) → s < length ps → unwrap_or (get_or (set ps s (Some q)) s None) no_process ≡ q
put_here ps s q low = ap (λ o. unwrap_or o no_process) (get_or-set_same ps s (Some q) None low)

-- Another area, for the same image.
pub record SameSizes (u v : UArea) : Type 0 where
  pub text : u.text_size ≡ v.text_size
  pub «data» : u.data_size ≡ v.data_size
  pub stack : u.stack_size ≡ v.stack_size

pub sizes_stay : (u v : UArea) (image : Image) → SameSizes u v → HasSizes v image → HasSizes u image
sizes_stay u v image same h = record {
  text_size = h.text_size ∙ sym (ap (λ n. 64 * n) same.text);
  data_size = h.data_size ∙ sym (ap (λ n. 64 * n) same.data);
  stack_size = h.stack_size ∙ sym (ap (λ n. 64 * n) same.stack);
}

same_clicks : (u v : UArea) → SameSizes u v → clicks_of u ≡ clicks_of v
same_clicks u v same = ap (λ n. 16 + n + u.stack_size) same.data ∙ ap (λ n. 16 + v.data_size + n) same.stack

pub area_put : (p : Procs) (s : ℕ) (u : UArea) → IsAlive p s → length p.images.kept.slots ≡ 50
    → processes_in p.rows.slots (with_area p.images.kept s u) ≡ set (processes_in p.rows.slots p.images.kept) s (Some (record (process_here p s) { u = u }))
area_put p s u alive long =
    let here = is_here p s alive in
    area_changed p.rows.slots p.images.kept s here.member here.held alive.below here.member_is here.image_is u (omega (arith, alive.below, long))

-- nothing else changes in what the call is handed, and nothing on the board
pub area_state : (p : Procs) (s : ℕ) (u : UArea) (fs : FileSystem)
    → handed (record p { images = record p.images { kept = with_area p.images.kept s u } }) fs ≡ record (handed p fs) { processes = processes_in p.rows.slots (with_area p.images.kept s u) }
unfolding with_area
area_state p s u fs = refl

pub area_board : (p : Procs) (s : ℕ) (u : UArea) → board (record p { images = record p.images { kept = with_area p.images.kept s u } }) ≡ board p
unfolding with_area
area_board p s u = refl

area_kept : (k : Kept) (s : ℕ) (u : UArea) (held : Held) → s < length k.slots → keeping k s ≡ Alive held → keeping (with_area k s u) s ≡ Alive (record held { u = u })
unfolding with_area
area_kept k s u held low has = get_or-set_same k.slots s (described u (keeping k s)) Nothing low ∙ ap (described u) has

area_others : (k : Kept) (s : ℕ) (u : UArea) (r : ℕ) → r ≢ s → keeping (with_area k s u) r ≡ keeping k r
unfolding with_area
area_others k s u r other = get_or-set_other k.slots s r (described u (keeping k s)) Nothing other

area_agrees : (m : Option Member) (row : TableRow) (held : Held) (u : UArea) → clicks_of u ≡ clicks_of held.u → Agrees m row (Alive held) → Agrees m row (Alive (record held { u = u }))
area_agrees m row held u same a = record {
  stat = a.stat;
  image = a.image;
  place = a.place;
  size = λ other is. a.size held refl ∙ (sym same ∙ ap (λ x. clicks_of (area_in x)) is);
  quiet = a.quiet;
  textless = a.textless;
}

pub area_alive : (p : Procs) (s : ℕ) (u : UArea) → IsAlive p s → length p.images.kept.slots ≡ 50 → SameSizes u (process_here p s).u → IsAlive (record p { images = record p.images { kept = with_area p.images.kept s u } }) s
area_alive p s u alive long same =
    let here = is_here p s alive in
    let low : s < length p.images.kept.slots = omega (arith, alive.below, long) in
    let clicks : clicks_of u ≡ clicks_of here.held.u = same_clicks u (process_here p s).u same ∙ ap (λ (q : Process). clicks_of q.u) here.process_is in
    let now : keeping (with_area p.images.kept s u) s ≡ Alive (record here.held { u = u }) = area_kept p.images.kept s u here.held low here.image_is in
    let old : Agrees (member_at p.rows.slots s) (row_at p.table s) (Alive here.held) = subst (λ x. Agrees (member_at p.rows.slots s) (row_at p.table s) x) here.image_is (alive.agree.each s alive.above alive.below) in
    record {
      agree = agree_but p.rows p.rows p.table p.table p.images.kept (with_area p.images.kept s u) s alive.agree alive.above alive.agree.table refl
          (subst (λ x. Agrees (member_at p.rows.slots s) (row_at p.table s) x) (sym now) (area_agrees (member_at p.rows.slots s) (row_at p.table s) here.held u clicks old))
          (alive.agree.text s alive.above alive.below) (with_area_texts p.images.kept s u)
          (λ r other. refl) (λ r other. refl) (area_others p.images.kept s u);
      above = alive.above;
      below = alive.below;
      image = (record here.held { u = u }, now);
    }

-- Another row, of the same process.
pub is_within : (slots : List (Option Member)) (s : ℕ) (m : Member) → member_at slots s ≡ Some m → s < length slots
is_within slots s m here = elim (cases_lt s (length slots)) [
  | inl low ↦ low
  | inr past ↦ absurd (let none : member_at slots s ≡ None = get_or_past slots s None past in cc (none, here))
]

pub row_put : (p : Procs) (s : ℕ) (row : Row) → IsAlive p s
    → processes_in (with_change p.rows s (with_row row)).slots p.images.kept ≡ set (processes_in p.rows.slots p.images.kept) s (Some (record (process_here p s) { row = row }))
row_put p s row alive =
    let here = is_here p s alive in
    row_changed p.rows.slots p.images.kept s here.member here.held alive.below here.member_is here.image_is row (is_within p.rows.slots s here.member here.member_is)

row_agrees : (m : Member) (new : Row) (row : TableRow) (x : Keeping) → Agrees (Some m) row x → Agrees (Some (with_row new m)) row x
row_agrees m new row x a = record { stat = a.stat; image = a.image; place = a.place; size = a.size; quiet = a.quiet; textless = a.textless }

pub row_alive : (p : Procs) (s : ℕ) (row : Row) → IsAlive p s → IsAlive (record p { rows = with_change p.rows s (with_row row) }) s
row_alive p s row alive =
    let here = is_here p s alive in
    let new : Option Member = changed (with_row row) (member_at p.rows.slots s) in
    let now : member_at (set p.rows.slots s new) s ≡ Some (with_row row here.member) =
    get_or-set_same p.rows.slots s new None (is_within p.rows.slots s here.member here.member_is) ∙ ap (changed (with_row row)) here.member_is in
    let old : Agrees (Some here.member) (row_at p.table s) (keeping p.images.kept s) =
    subst (λ m. Agrees m (row_at p.table s) (keeping p.images.kept s)) here.member_is (alive.agree.each s alive.above alive.below) in
    record {
      agree = agree_but p.rows (with_change p.rows s (with_row row)) p.table p.table p.images.kept p.images.kept s alive.agree alive.above alive.agree.table refl
          (subst (λ m. Agrees m (row_at p.table s) (keeping p.images.kept s)) (sym now) (row_agrees here.member row (row_at p.table s) (keeping p.images.kept s) old))
          (alive.agree.text s alive.above alive.below) (record { texts = refl; users = refl })
          (λ r other. get_or-set_other p.rows.slots s r new None other) (λ r other. refl) (λ r other. refl);
      above = alive.above;
      below = alive.below;
      image = alive.image;
    }

-- Another table, whose rows are like the old ones.
pub table_alive : (p : Procs) (t : Table) (s : ℕ) → IsAlive p s → IsTable t → AreLike p.table t → IsAlive (record p { table = t }) s
table_alive p t s alive good like = record {
  agree = agree_like p.rows p.table t p.images.kept alive.agree good like;
  above = alive.above;
  below = alive.below;
  image = alive.image;
}

-- what most calls need beside their own row
pub ruleset calls = (took_none, took_more, rest_stays, calls_alive)

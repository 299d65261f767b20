-- A process without an image has a text from now on, and the texts are others: what it is then, and what agrees.
use Rattle.std.proofs.Common.{◌≡◌, ◌≢◌, ◌∙◌, ℕ, ◌<◌, List, length, map, set, Option, Some, None, refl, sym, ap, subst, inl, inr, arith}
use Rattle.std.specs.Option.{unwrap_or}
use Rattle.std.proofs.lemmas.Bool.{cases_eq}
use Rattle.std.proofs.lemmas.List.{get_or-set_same, get_or-set_other, length-set}
use Rattle.fs_nodes.specs.FileSystem.{FileSystem}
use Rattle.pick_rules.specs.declared.row.TableRow.{TableRow}
use Rattle.pick_rules.specs.Table.{row_at, empty_row}
use Rattle.pick_rules.specs.Apply.{change_row}
use Rattle.proc_tab.specs.declared.member.Member.{Member}
use Rattle.proc_tab.specs.Processes.{member_at}
use Rattle.image_keep.specs.Kept.{Nothing, Shared, Kept, keeping, text_of}
use Rattle.sys_procs.specs.declared.procs.Procs.{Procs}
use Rattle.sys_procs.specs.Process.{Process, no_process, process_in}
use Rattle.sys_procs.specs.World.{text_in, processes_in}
use Rattle.sys_procs.specs.Texts.{with_entry}
use Rattle.sys_procs.specs.Agree.{Agrees, Lives, kind_of_member, kind_of_stat}
use Rattle.sys_procs.specs.Handed.{handed, process_here}
use Rattle.sys_procs.specs.inside.Handed.{IsBare}
use Rattle.sys_procs.proofs.Slots.{one_changed, own_is}

abbrev pub with_its_text : ℕ → TableRow → TableRow
with_its_text t row = record row { text = Some t }

-- who lives is there
pub there : (o : Option Member) → kind_of_member o ≡ Lives → (m : Member) × (o ≡ Some m)
there None e = absurd (cc e)
there (Some m) e = (m, refl)

module _ (p : Procs) (s t : ℕ) (texts : List (Option Shared)) (bare : IsBare p s) (seats : length p.images.kept.users ≡ 50) where
  abbrev pub kept : Kept
  kept = record p.images.kept { texts = texts; users = set p.images.kept.users s (Some t) }

  abbrev pub now : Procs
  now = record p { table = change_row p.table s (with_its_text t); images = record p.images { kept = kept } }

  text_now : text_of kept s ≡ Some t
  text_now = get_or-set_same p.images.kept.users s (Some t) None (let below = bare.below in omega (arith, below, seats))

  other_text : (r : ℕ) → r ≢ s → text_of kept r ≡ text_of p.images.kept r
  other_text r other = get_or-set_other p.images.kept.users s r (Some t) None other

  here_by : (o : Option Member) → (m : Member) → o ≡ Some m → (x : Option ℕ)
      → process_in o Nothing (Some t) ≡ Some (with_entry t (unwrap_or (process_in o Nothing x) no_process))
  here_by None m e x = absurd (cc e)
  here_by (Some n) m e x = refl

  here : process_in (member_at p.rows.slots s) (keeping p.images.kept s) (Some t) ≡ Some (with_entry t (process_here p s))
  here =
      let member = there (member_at p.rows.slots s) bare.agree.bare.lives in
      ap (λ x. process_in (member_at p.rows.slots s) x (Some t)) bare.agree.bare.image
      ∙ (here_by (member_at p.rows.slots s) member.0 member.1 (text_of p.images.kept s)
      ∙ ap (λ (q : Process). Some (with_entry t q))
      (ap (λ x. unwrap_or (process_in (member_at p.rows.slots s) x (text_of p.images.kept s)) no_process) (sym bare.agree.bare.image)
      ∙ sym (own_is p.rows.slots p.images.kept s bare.below)))

  processes : processes_in p.rows.slots kept ≡ set (processes_in p.rows.slots p.images.kept) s (Some (with_entry t (process_here p s)))
  processes =
      one_changed p.rows.slots p.rows.slots p.images.kept kept s (Some (with_entry t (process_here p s))) bare.below
      (ap (λ x. process_in (member_at p.rows.slots s) (keeping p.images.kept s) x) text_now ∙ here)
      (λ r below other. ap (λ x. process_in (member_at p.rows.slots r) (keeping p.images.kept r) x) (other_text r other))

  pub state : (fs : FileSystem) → handed now fs ≡ record (handed p fs) {
    processes = set (handed p fs).processes s (Some (with_entry t (process_here p s)));
    texts = map text_in texts;
  }
  state fs = ap (λ (ps : List (Option Process)). record (handed p fs) { processes = ps; texts = map text_in texts }) processes

  low : s < length p.table.rows
  low = let below = bare.below in let rows = bare.agree.rows in omega (arith, below, rows)

  row_now : row_at (change_row p.table s (with_its_text t)) s ≡ with_its_text t (row_at p.table s)
  row_now = get_or-set_same p.table.rows s (with_its_text t (row_at p.table s)) empty_row low

  other_row : (r : ℕ) → r ≢ s → row_at (change_row p.table s (with_its_text t)) r ≡ row_at p.table r
  other_row r other = get_or-set_other p.table.rows s r (with_its_text t (row_at p.table s)) empty_row other

  texts_agree : (r : ℕ) → 0 < r → r < 50 → (row_at (change_row p.table s (with_its_text t)) r).text ≡ text_of kept r
  texts_agree r up below = elim (cases_eq r s) [
    | inl is ↦
        ap (λ n. (row_at (change_row p.table s (with_its_text t)) n).text) is
        ∙ (ap (λ (row : TableRow). row.text) row_now ∙ (sym text_now ∙ ap (λ n. text_of kept n) (sym is)))
    | inr other ↦ ap (λ (row : TableRow). row.text) (other_row r other) ∙ (bare.agree.text r up below ∙ sym (other_text r other))
  ]

  pub is_bare : IsBare now s
  is_bare = record {
    agree = record {
      table = record {
        last = bare.agree.table.last;
        running = bare.agree.table.running;
        ticks = bare.agree.table.ticks;
      };
      rows = length-set p.table.rows s (with_its_text t (row_at p.table s)) ∙ bare.agree.rows;
      kernel = ap (λ (row : TableRow). row.place) (other_row 0 (λ e. omega (arith, e, bare.above))) ∙ bare.agree.kernel;
      images = bare.agree.images;
      bare = record {
        lives = bare.agree.bare.lives;
        stat = ap (λ (row : TableRow). kind_of_stat row.stat) row_now ∙ bare.agree.bare.stat;
        place = ap (λ (row : TableRow). row.place) row_now ∙ bare.agree.bare.place;
        image = bare.agree.bare.image;
      };
      others = λ r up below other.
          subst (λ (row : TableRow). Agrees (member_at p.rows.slots r) row (keeping p.images.kept r)) (sym (other_row r other))
          (bare.agree.others r up below other);
      text = texts_agree;
      textless = other_text 0 (λ e. omega (arith, e, bare.above)) ∙ bare.agree.textless;
    };
    above = bare.above;
    below = bare.below;
  }

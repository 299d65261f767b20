-- A process whose image is given back, and who has no new one yet: what it is, and what agrees.
use Rattle.std.proofs.Common.{◌≡◌, ◌≢◌, ◌∙◌, ℕ, ◌<◌, List, length, set, Option, Some, refl, sym, ap, subst, inl, inr, arith}
use Rattle.std.proofs.lemmas.Bool.{cases_eq}
use Rattle.std.proofs.lemmas.List.{get_or-set_same, get_or-set_other, length-set}
use Rattle.fs_nodes.specs.FileSystem.{FileSystem}
use Rattle.pick_rules.specs.declared.row.TableRow.{TableRow}
use Rattle.pick_rules.specs.Table.{row_at, empty_row}
use Rattle.pick_rules.specs.Apply.{change_row}
use Rattle.proc_tab.specs.declared.member.Member.{Member}
use Rattle.proc_tab.specs.Processes.{member_at}
use Rattle.image_keep.specs.Kept.{Nothing, Alive, Kept, keeping, with_keeping, text_of}
use Rattle.image_keep.proofs.Frames.{keeping_same, keeping_other}
use Rattle.sys_procs.specs.declared.procs.Procs.{Procs}
use Rattle.sys_procs.specs.Process.{Process, process_by, process_in}
use Rattle.sys_procs.specs.World.{processes_in, change}
use Rattle.sys_procs.specs.Agree.{Agrees, Lives, kind_of_member, kind_of_stat, kind_by}
use Rattle.sys_procs.specs.ExecFile.{bared}
use Rattle.sys_procs.specs.Handed.{IsAlive, handed, process_here}
use Rattle.sys_procs.specs.inside.Handed.{IsBare}
use Rattle.sys_procs.proofs.Alive.{IsHere, is_here}
use Rattle.sys_procs.proofs.Slots.{one_changed}
use Rattle.sys_procs.proofs.PlacingRows.{bared_row, row_low, text_row}

module _ (p : Procs) (s : ℕ) (alive : IsAlive p s) (long : length p.images.kept.slots ≡ 50) where
  abbrev pub now : Procs
  now = record p { table = change_row p.table s bared_row; images = record p.images { kept = with_keeping p.images.kept s Nothing } }

  low : s < length p.images.kept.slots
  low = omega (arith, alive.below, long)

  nothing_now : keeping (with_keeping p.images.kept s Nothing) s ≡ Nothing
  nothing_now = keeping_same p.images.kept s Nothing low

  bare_by : (m : Member)
      → process_in (Some m) Nothing (text_of p.images.kept s) ≡ Some
      (bared (process_by m (Alive (is_here p s alive).held) (text_of p.images.kept s)))
  bare_by m = refl

  processes_bare : processes_in p.rows.slots (with_keeping p.images.kept s Nothing) ≡ set (processes_in p.rows.slots p.images.kept) s
      (Some (bared (process_here p s)))
  processes_bare =
      let here : IsHere p s = is_here p s alive in
      let k : Kept = with_keeping p.images.kept s Nothing in
      one_changed p.rows.slots p.rows.slots p.images.kept k s (Some (bared (process_here p s))) alive.below
      (ap (λ x. process_in (member_at p.rows.slots s) x (text_of p.images.kept s)) nothing_now
      ∙ (ap (λ o. process_in o Nothing (text_of p.images.kept s)) here.member_is
      ∙ (bare_by here.member ∙ ap (λ q. Some (bared q)) (sym here.process_is))))
      (λ r below other. ap (λ x. process_in (member_at p.rows.slots r) x (text_of p.images.kept r))
      (keeping_other p.images.kept s r Nothing other))

  pub state_bare : (fs : FileSystem) → handed now fs ≡ change (handed p fs) s bared
  state_bare fs = ap (λ (ps : List (Option Process)). record (handed p fs) { processes = ps }) processes_bare

  row_now : row_at (change_row p.table s bared_row) s ≡ bared_row (row_at p.table s)
  row_now = get_or-set_same p.table.rows s (bared_row (row_at p.table s)) empty_row (row_low p s alive)

  other_row : (r : ℕ) → r ≢ s → row_at (change_row p.table s bared_row) r ≡ row_at p.table r
  other_row r other = get_or-set_other p.table.rows s r (bared_row (row_at p.table s)) empty_row other

  lives : kind_of_member (member_at p.rows.slots s) ≡ Lives
  lives = let here : IsHere p s = is_here p s alive in ap kind_of_member here.member_is ∙ ap kind_by here.is_living

  text_now : (r : ℕ) → 0 < r → r < 50 → (row_at (change_row p.table s bared_row) r).text ≡ text_of p.images.kept r
  text_now r up below = elim (cases_eq r s) [
    | inl here ↦
        ap (λ n. (row_at (change_row p.table s bared_row) n).text) here
        ∙ (ap (λ (row : TableRow). row.text) row_now ∙ (text_row p s alive ∙ ap (λ n. text_of p.images.kept n) (sym here)))
    | inr other ↦ ap (λ (row : TableRow). row.text) (other_row r other) ∙ alive.agree.text r up below
  ]

  pub is_bare : IsBare now s
  is_bare = record {
    agree = record {
      table = record {
        last = alive.agree.table.last;
        running = alive.agree.table.running;
        ticks = alive.agree.table.ticks;
      };
      rows = length-set p.table.rows s (bared_row (row_at p.table s)) ∙ alive.agree.rows;
      kernel = ap (λ (row : TableRow). row.place) (other_row 0 (λ e. omega (arith, e, alive.above))) ∙ alive.agree.kernel;
      images = keeping_other p.images.kept s 0 Nothing (λ e. omega (arith, e, alive.above)) ∙ alive.agree.images;
      textless = alive.agree.textless;
      bare = record {
        lives = lives;
        stat = ap (λ (row : TableRow). kind_of_stat row.stat) row_now
            ∙ ((alive.agree.each s alive.above alive.below).stat ∙ lives);
        place = ap (λ (row : TableRow). row.place) row_now;
        image = nothing_now;
      };
      others = λ r up below other.
          subst (λ (row : TableRow). Agrees (member_at p.rows.slots r) row (keeping (with_keeping p.images.kept s Nothing) r))
          (sym (other_row r other))
          (subst (λ x. Agrees (member_at p.rows.slots r) (row_at p.table r) x) (sym (keeping_other p.images.kept s r Nothing other))
          (alive.agree.each r up below));
      text = text_now;
    };
    above = alive.above;
    below = alive.below;
  }

-- What each turn leaves tidy: calls on files, calls on processes, faults, growth and deliveries.
use Rattle.std.proofs.Common.{◌≡◌, ◌∙◌, ◌<◌, ◌≤◌, ℕ, false, cond, List, length, get_or, set, Option, Some, None, unwrap_or, refl, sym, ap, subst, arith}
use Rattle.std.proofs.lemmas.List.{length-set, map-set, get_or-set_same}
use Rattle.open_files.specs.Files.{file_at, times, entry_of}
use Rattle.fs_nodes.proofs.CountLaws.{keys_counted}
use Rattle.sys_files.specs.Handed.{Handed}
use Rattle.sys_files.specs.Sound.{numbers_of}
use Rattle.sys_files.proofs.Counting.{IsCounted, counted_same}
use Rattle.sys_procs.specs.Process.{Process, no_process}
use Rattle.sys_procs.specs.World.{World}
use Rattle.abstract_unix.specs.Unix.{Unix, process_of, with_process}
use Rattle.abstract_unix.specs.Calls.{handed_of, with_handed, world_of, with_world}
use Rattle.abstract_unix.specs.Whole.{Told, told_of, told_by, told_in, names, all_names}
use Rattle.abstract_unix.proofs.Owing.{told_at, some_within, told_change, names_set, names_within, times_some, is_used, fifteen_set}
use Rattle.abstract_unix.proofs.Quiet.{HasNumbers}
use Rattle.abstract_unix.proofs.Tidy.{IsTidy}
use Rattle.abstract_unix.proofs.StillWorlds.{IsStill}
use Rattle.abstract_unix.proofs.PendingRows.{Pends}
use Rattle.abstract_unix.proofs.GoingOnLemmas.{WaitedIn, AllWaited, like_waited, put_goes_on, world_goes_on, handed_back_goes_on}

-- In a tidy Unix the process of a slot lives.
pub record Runs (s : ℕ) (u : Unix) : Type 0 where
  pub tidy : IsTidy u
  pub there : get_or u.processes s None ≡ Some (process_of u s)
  pub lives : (process_of u s).is_zombie ≡ false

-- A process of the same numbers, directory and call.
pub record SameHeld (p q : Process) : Type 0 where
  pub files : q.u.files ≡ p.u.files
  pub dir : q.u.dir ≡ p.u.dir
  pub dead : q.is_zombie ≡ p.is_zombie
  pub pending : q.u.pending ≡ p.u.pending
  pub call : q.u.call ≡ p.u.call

module _ (s : ℕ) where
  put_there : (u : Unix) (q : Process) → s < length u.processes → get_or (set u.processes s (Some q)) s None ≡ Some q
  put_there u q low = get_or-set_same u.processes s (Some q) None low

  pub runs_put : (u : Unix) (q : Process) → SameHeld (process_of u s) q → Runs s u → Runs s (with_process u s q)
  runs_put u q same r =
      let p : Process = process_of u s in
      let at = put_there u q (some_within u.processes s p r.there) in
      let is : process_of (with_process u s q) s ≡ q = ap (λ o. unwrap_or o no_process) at in
      let as_told : told_by (Some q) ≡ told_by (Some p) = (λ i. cond (same.dead i) None
      (Some (record { files = same.files i; dir = same.dir i }))) in
      let told : told_in (set u.processes s (Some q)) ≡ told_in u.processes = told_change u.processes s p q r.there as_told in
      record {
        tidy = record {
          numbers = λ entry. r.tidy.numbers entry ∙ ap (λ ts. all_names ts entry) (sym told);
          fifty = length-set u.processes s (Some q) ∙ r.tidy.fifty;
          fifteen = λ k t e. r.tidy.fifteen k t (ap (λ ts. get_or ts k None) (sym told) ∙ e);
          waits = put_goes_on u s q r.tidy.waits (subst (λ o. WaitedIn o (Some q)) (sym r.there)
              (like_waited p q same.dead same.pending same.call same.files));
          count = r.tidy.count;
          eight = r.tidy.eight;
          pipes = r.tidy.pipes;
        };
        there = at ∙ ap Some (sym is);
        lives = ap (λ (x : Process). x.is_zombie) is ∙ same.dead ∙ r.lives;
      }

  -- a world of the same counts, in which who waits in a pipe waited in it before
  pub runs_still : (u : Unix) → Runs s u → IsStill (world_of u) s (world_of u)
  runs_still u r = record { count = refl; told = refl; there = r.there; lives = r.lives; fifty = r.tidy.fifty }

  pub runs_world : (u : Unix) (w : World) → IsStill (world_of u) s w → AllWaited u.processes w.processes → Runs s u
      → Runs s (with_world u w)
  runs_world u w k waited r = record {
    tidy = record {
      numbers = λ entry. r.tidy.numbers entry ∙ ap (λ ts. all_names ts entry) (sym k.told);
      fifty = k.fifty;
      fifteen = λ i t e. r.tidy.fifteen i t (ap (λ ts. get_or ts i None) (sym k.told) ∙ e);
      waits = world_goes_on u w r.tidy.waits waited;
      count = subst (λ n. n ≤ 65535) (sym (keys_counted w.inodes.store u.store k.count)) r.tidy.count;
      eight = r.tidy.eight;
      pipes = r.tidy.pipes;
    };
    there = k.there;
    lives = k.lives;
  }

  -- What the process is handed is counted.
  its_told : (u : Unix) → Runs s u → get_or (told_in u.processes) s None ≡ Some (told_of (process_of u s))
  its_told u r = told_at u.processes s (process_of u s) r.there r.lives

  pub runs_counted : (u : Unix) → Runs s u → IsCounted (handed_of u (process_of u s)) (handed_of u (process_of u s))
  runs_counted u r =
      let mine : List ℕ = (process_of u s).u.files in
      let few : (entry : ℕ) → times mine entry ≤ numbers_of (file_at u.files entry) = (λ entry.
      let most = names_within (told_in u.processes) s (told_of (process_of u s)) (its_told u r) entry in
      let all = r.tidy.numbers entry in omega (arith, most, all)) in
      counted_same u.files mine (λ fd above.
      let one = times_some mine fd above in
      let most = few (entry_of mine fd) in
      is_used (file_at u.files (entry_of mine fd)) (omega (arith, one, most))) few

  pub runs_handed : (u : Unix) (h : Handed) → IsCounted (handed_of u (process_of u s)) h → HasNumbers h → Pends h → Runs s u
      → Runs s (with_handed u s h)
  runs_handed u h k numbers pends r =
      let p : Process = process_of u s in
      let q : Process = record p { u = h.u; row = h.row; «data» = h.image.data; stack = h.image.stack } in
      let t : Told = record { files = h.u.files; dir = h.u.dir } in
      let ts : List (Option Told) = told_in u.processes in
      let low = some_within u.processes s p r.there in
      let at = put_there u q low in
      let is : process_of (with_handed u s h) s ≡ q = ap (λ o. unwrap_or o no_process) at in
      let put : told_in (set u.processes s (Some q)) ≡ set ts s (Some t) = map-set told_by u.processes s (Some q)
      ∙ ap (λ b. set ts s (cond b None (Some t))) r.lives in
      let own = its_told u r in
      let long : length h.u.files ≡ 15 = k.long ∙ r.tidy.fifteen s (told_of p) own in
      record {
        tidy = record {
          numbers = λ entry.
              let before = r.tidy.numbers entry in
              let counts = k.numbers entry in
              let change = names_set ts s (Some t) entry (some_within ts s (told_of p) own) in
              let old = ap (names entry) own in
              let now : numbers_of (file_at h.files entry) ≡ all_names (set ts s (Some t)) entry =
              omega (arith, before, counts, change, old) in
              now ∙ ap (λ l. all_names l entry) (sym put);
          fifty = length-set u.processes s (Some q) ∙ r.tidy.fifty;
          fifteen = λ i x e. fifteen_set ts s (Some t) r.tidy.fifteen
              (λ y same. (let is : t ≡ y = cc same in ap (λ (z : Told). length z.files) (sym is) ∙ long)) i x
              (ap (λ l. get_or l i None) (sym put) ∙ e);
          waits = handed_back_goes_on u s h r.tidy.numbers r.tidy.waits r.there r.lives k.others pends;
          count = numbers.count;
          eight = numbers.eight;
          pipes = numbers.pipes;
        };
        there = at ∙ ap Some (sym is);
        lives = ap (λ (x : Process). x.is_zombie) is ∙ r.lives;
      }

-- A run of two disks in which nothing is ever mounted leaves the second one.
use Rattle.std.proofs.Common.{◌≡◌, ◌≤◌, ◌∙◌, ◌++◌, ℕ, zero, suc, false, cond, List, [], ◌∷◌, get_or, replicate, Option, Some, None, option_map, refl, sym, ap, subst}
use Rattle.v6_base.specs.Image.{AreBytes}
use Rattle.fs_codec.specs.Disk.{disk_of}
use Rattle.fs_codec.specs.Stands.{store_of}
use Rattle.fs_codec.specs.Store.{Store}
use Rattle.fs_codec.specs.Faults.{image_fault}
use Rattle.fs_nodes.specs.Disks.{OfSecond}
use Rattle.fs_nodes.specs.Keys.{Stores, synced}
use Rattle.pick_rules.specs.Lawful.{Seen, nothing_seen}
use Rattle.log_laws.proofs.Fitting.{seen_items}
use Rattle.open_files.specs.declared.file.OpenFile.{OpenFile}
use Rattle.abstract_unix.specs.declared.ends.Ends as run
use Rattle.abstract_unix.specs.declared.ends.Ends.TheVariants as ends
use Rattle.abstract_unix.specs.declared.ends.Ends.TheVariants.{AtEnd}
use Rattle.abstract_unix.specs.Unix.{Unix, System, no_texts}
use Rattle.abstract_unix.specs.Runs.{first_unix, stores_of, is_second_bad, system_of, Event, event_of, Course, unless_ended, after_event, course, started, finished, run_of, runs, boots}
use Rattle.abstract_unix.specs.OtherDisk.{IsNeverMounted}
use Rattle.abstract_unix.proofs.Events.{Stands}
use Rattle.abstract_unix.proofs.FirstTidy.{some_nodes, few_keys}
use Rattle.abstract_unix.proofs.Lawfully.{FineCourse, event_goes, started_fine, stamp_in_range, fine_images, boots_is}
use Rattle.abstract_unix.proofs.RootNames.{key_zero}
use Rattle.abstract_unix.proofs.RootWalks.{FileOn, zero_on}
use Rattle.abstract_unix.proofs.RootWorlds.{DirOn, TextOn}
use Rattle.abstract_unix.proofs.RootTurns.{OnRoot}
use Rattle.abstract_unix.proofs.RootEvents.{event_root, start_root, event_rests, start_rests}

-- what is so of each of some is so of each of them
get_same : {X : Type 0} (P : X → Type 0) (x : X) (n k : ℕ) → P x → P (get_or (replicate n x) k x)
get_same P x zero k p = p
get_same P x (suc n) zero p = p
get_same P x (suc n) (suc k) p = get_same P x n k p

-- The super-block of a disk that has just been read hasn't changed.
first_clean : (second : Option (List ℕ)) → OfSecond (λ (x : Store). x.mark ≡ false) (option_map (λ bytes. store_of (disk_of bytes)) second)
unfolding store_of
first_clean None = tt
first_clean (Some bytes) = refl

-- and so it isn't written
second_kept : (root : Store) (second : Option Store) (time : ℕ) → OfSecond (λ (x : Store). x.mark ≡ false) second
    → (synced (record { root = root; second = second }) time).second ≡ second
second_kept root None time clean = refl
second_kept root (Some x) time clean = ap (λ b. Some (cond {A = Store} b (record x { stamp = time; mark = false }) x)) clean

module _ (base : Stores) (one : 1 ≤ base.root.count) (clean : OfSecond (λ (x : Store). x.mark ≡ false) base.second) where
  first_root : (core lines : ℕ) → OnRoot base (first_unix base core lines)
  unfolding no_texts
  first_root core lines = record {
    world = record {
      second = refl;
      counts = refl;
      held = record { dirs = dirs; texts = λ k. get_same (TextOn base) None 40 k (zero_on base) };
    };
    files = λ entry. get_same (λ (o : Option OpenFile). FileOn base o) None 100 entry (zero_on base);
  }
    where
      dirs : (s : ℕ) → DirOn base (get_or (first_unix base core lines).processes s None)
      dirs zero = zero_on base
      dirs (suc zero) = key_zero base 1 one
      dirs (suc (suc k)) = get_same (DirOn base) None 48 k (zero_on base)

  -- The second store is that of others, and all is on the root's disk, unless the run has ended.
  record Rooted (u : Unix) (ending : run.Ends) : Type 0 where
    root : ending ≡ AtEnd → OnRoot base u
    second : u.store.second ≡ base.second

  -- a run as far as it has come
  abbrev RootCourse : Course → Type 0
  RootCourse c = Rooted c.system.unix c.ending

  event_goes_root : (c : Course) (e : Event) → FineCourse c → c.system.unix.covered ≡ None → (after_event c e).system.unix.covered ≡ None
      → RootCourse c → RootCourse (after_event c e)
  event_goes_root c e f none after r = by c.ending refl after
    where
      now : Seen
      now = seen_items nothing_seen c.items

      Goes : System → Type 0
      Goes m = (event_of e m).next.unix.covered ≡ None → Rooted (event_of e m).next.unix (event_of e m).ending

      goes : c.ending ≡ AtEnd → Goes c.system
      goes n =
          let h : Stands c.system now = f.fine.stands n in
          let u : Unix = c.system.unix in
          subst (λ b. Goes (record { unix = u; board = b })) h.board (λ covered. record {
            root = λ ends. event_root base one clean e u now h.holds (f.tidy n) none (r.root n) ends covered;
            second = event_rests base one clean e u now h.holds (f.tidy n) none (r.root n) covered;
          })

      by : (o : run.Ends) → c.ending ≡ o → (unless_ended o c e).system.unix.covered ≡ None → RootCourse (unless_ended o c e)
      by AtEnd n after = goes n after
      by (ends.Panic kind) n after = r

  course_root : (events : List Event) (c : Course) → FineCourse c
      → ((part rest : List Event) → part ++ rest ≡ events → (course c part).system.unix.covered ≡ None)
      → RootCourse c → RootCourse (course c events)
  course_root [] c f never r = r
  course_root (e ∷ events) c f never r =
      course_root events (after_event c e) (event_goes c e f) (λ part rest is. never (e ∷ part) rest (ap (λ l. e ∷ l) is))
      (event_goes_root c e f (never [] (e ∷ events) refl) (never (e ∷ []) events refl) r)

pub runs_stay : (image : List ℕ) (second : Option (List ℕ)) (core lines : ℕ) (events : List Event) (c : Course)
    → AreBytes image → 64 ≤ core → core ≤ 3968 → lines ≤ 8 → runs image second core lines events ≡ Some c
    → IsNeverMounted image second core lines events → (finished c.system).unix.store.second ≡ (stores_of image second).second
runs_stay image second core lines events c are low high some e never = by (boots image second core lines) refl e
  where
    base : Stores
    base = stores_of image second

    ended : Course
    ended = run_of image second core lines events

    clean : OfSecond (λ (x : Store). x.mark ≡ false) base.second
    clean = first_clean second

    stays : image_fault image ≡ None → is_second_bad image second ≡ false → (finished ended.system).unix.store.second ≡ base.second
    stays none fine =
        let one : 1 ≤ base.root.count = some_nodes image none in
        let begun : Course = started (system_of image second core lines) in
        let first : FineCourse begun = started_fine base core lines low high (stamp_in_range image are) (few_keys image second none fine) some in
        let boot : System = system_of image second core lines in
        let at : OnRoot base boot.unix = first_root base one clean core lines in
        let same : ended.system.unix.store.second ≡ base.second =
        (course_root base one clean events begun first never (record {
          root = λ goes. start_root base one clean boot at goes;
          second = start_rests base one clean boot at (never [] events refl);
        })).second in
        let store : Stores = ended.system.unix.store in
        second_kept store.root store.second ended.system.unix.clock.time
        (subst (OfSecond (λ (x : Store). x.mark ≡ false)) (sym same) clean) ∙ same

    by : (o : Option System) → boots image second core lines ≡ o → option_map (λ m. course (started m) events) o ≡ Some c
        → (finished c.system).unix.store.second ≡ base.second
    by None f g = absurd (cc g)
    by (Some m) f g =
        let fine = fine_images image second core lines m f in
        let is : ended ≡ c = ap (λ n. course (started n) events) (boots_is image second core lines m f) ∙ cc g in
        subst (λ (x : Course). (finished x.system).unix.store.second ≡ base.second) is (stays fine.0 fine.1)

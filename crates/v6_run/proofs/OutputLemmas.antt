-- What has been written to the files of a run, step by step.
use Rattle.std.proofs.Common.{◌≡◌, ◌||◌, ◌&&◌, ◌<◌, ◌≤◌, ◌⊎◌, inl, inr, ℕ, Bool, true, false, not, Option, is_some, Result, Ok, Err, is_err, OnOk, OnErr, MatchResult, List, [], ◌++◌, refl, sym, ◌∙◌, ap, subst, lit<}
use Rattle.std.specs.Prelude.{nat_lt}
use Rattle.std.proofs.lemmas.List.{append-nil}
use Rattle.v6_base.specs.Trace.{text_of}
use Rattle.v6_port.specs.declared.host.OutPort.{OutPort}
use Rattle.v6_port.specs.declared.host.OutPort.TheVariants as out_port
use Rattle.v6_port.specs.Outside.{Port, Out, same, PortState, Outside, Tells, OnlyAt}
use Rattle.v6_port.specs.Causes.{Calm, FaultAt}
use Rattle.fs_codec.specs.Disk.{Disk, disk_of, head}
use Rattle.fs_codec.specs.declared.layout.TheConstants.{DISK_BLOCKS, SWAP_START}
use Rattle.buf_cache.specs.Blocks.{block_at, blocks_of, IsDisk}
use Rattle.fs_nodes.proofs.RestLemmas.{rest_then}
use Rattle.pick_rules.specs.Lawful.{Lawful}
use Rattle.abstract_unix.specs.declared.ends.Ends.{Ends}
use Rattle.abstract_unix.specs.declared.ends.Ends.TheVariants as ends
use Rattle.abstract_unix.specs.declared.ends.Ends.TheVariants.{AtEnd}
use Rattle.image_keep.specs.Holds.{AreRangesApart, SwapHolds}
use Rattle.abstract_unix.specs.Unix.{System, Phase, Started, Stopped}
use Rattle.abstract_unix.specs.Endings.{phase_after}
use Rattle.abstract_unix.specs.Law.{log_of}
use Rattle.unix_core.specs.State.{KernelState, KeepsRest}
use Rattle.unix_core.specs.Memory.{kept_in}
use Rattle.abstract_unix.specs.Runs.{Course, shown_by, finished}
use Rattle.fs_laws.proofs.ImageLemmas.{block_of_image}
use Rattle.std.specs.Option.{option_map}
use Rattle.fs_nodes.specs.Disks.{OfSecond, Between}
use Rattle.fs_nodes.specs.FileSystem.{SameAroundEach, AllStand}
use Rattle.v6_run.specs.Ports.{HasShown, HasShownFronts}
use Rattle.v6_run.specs.Fronts.{HoldsFront, HoldsSome, HoldsFrontOfSome}
use Rattle.v6_run.specs.Final.{IsFinal, disk_text, second_text}
use Rattle.v6_run.specs.Words.{DiskFiles, Outputs, ToDisk, ToMemory}
use Rattle.v6_run.specs.Opened.{output_ports, has_port, ports_before, AreGood}
use Rattle.v6_run.specs.Steps.{place_in_writing, is_written_before, is_opened_before, StopsAt}
use Rattle.v6_run.specs.Opening.{Leaves}
use Rattle.v6_run.specs.Outputs.{is_shown, is_other, is_left, is_disk_output, shown_text, second_writes, disk_writes, run_writes, IsLog, EndsRun, StopsRun}
use Rattle.v6_port.proofs.CauseLemmas.{still_tells, calm_then, fault_then, not_line}
use Rattle.v6_run.proofs.LinePorts.{right_true, disk_ports}
use Rattle.v6_run.proofs.OpenedLemmas.{good_before}
use Rattle.v6_run.proofs.SecondLemmas.{SameDisk, second_left, second_over}
use Rattle.v6_run.proofs.FrontLemmas.{front_of_nothing, front_of_all}
use Rattle.v6_run.proofs.FinalLemmas.{final_is, final_same}

pub nothing_of : (writes : List ℕ → Type 0) (old new : List ℕ) → new ≡ old → HoldsFrontOfSome writes old new
nothing_of writes old new is = record { text = []; fits = λ other. absurd (other is); front = subst (HoldsFront old []) (sym is) (front_of_nothing old []) }

pub all_of : (writes : List ℕ → Type 0) (old new : List ℕ) → HoldsSome writes old new → HoldsFrontOfSome writes old new
all_of writes old new all = record { text = all.text; fits = λ _. all.fits; front = front_of_all old all.text new all.holds }

pub empty_of : (writes : List ℕ → Type 0) (old new : List ℕ) → writes [] → new ≡ old → HoldsSome writes old new
empty_of writes old new fits is = record { text = []; fits = fits; holds = is ∙ sym (append-nil old) }

-- where no name was sought, none is missing
pub fault_any : (p : Port) (known : Bool) (a b : Outside) → FaultAt p true a b → FaultAt p known a b
fault_any p known a b fault = record { rose = fault.rose; others = fault.others; missing = λ told _. fault.missing told refl }

-- what is written last, and first
none_after_report : (p : OutPort) → is_written_before out_port.Report p ≡ true → ⊥
none_after_report out_port.Term before = let never : false ≡ true = before in cc
none_after_report out_port.Log before = let never : false ≡ true = before in cc
none_after_report out_port.Final before = let never : false ≡ true = before in cc
none_after_report out_port.Report before = let never : false ≡ true = before in cc
none_after_report out_port.Second before = let never : false ≡ true = before in cc
none_after_report (out_port.Line l) before = let never : false ≡ true = before in cc

none_first : (q : OutPort) → nat_lt (place_in_writing q) 0 ≡ true → ⊥
none_first out_port.Term before = let never : false ≡ true = before in cc
none_first out_port.Log before = let never : false ≡ true = before in cc
none_first out_port.Final before = let never : false ≡ true = before in cc
none_first out_port.Report before = let never : false ≡ true = before in cc
none_first out_port.Second before = let never : false ≡ true = before in cc
none_first (out_port.Line l) before = let never : false ≡ true = before in cc

none_before_shown : (lines : ℕ) (p q : OutPort) → is_shown lines (Out p) ≡ true → is_written_before q p ≡ true → ⊥
none_before_shown lines out_port.Term q shown before = none_first q before
none_before_shown lines out_port.Log q shown before = none_first q before
none_before_shown lines out_port.Final q shown before = let never : false ≡ true = shown in cc
none_before_shown lines out_port.Report q shown before = let never : false ≡ true = shown in cc
none_before_shown lines out_port.Second q shown before = let never : false ≡ true = shown in cc
none_before_shown lines (out_port.Line l) q shown before = none_first q before

-- the second disk comes before the report alone
second_last : (two : Bool) (p : OutPort) → is_left two (Out p) ≡ true → is_written_before out_port.Second p ≡ true → ⊥
second_last two out_port.Term left before = let never : false ≡ true = before in cc
second_last two out_port.Log left before = let never : false ≡ true = before in cc
second_last two out_port.Final left before = let never : false ≡ true = before in cc
second_last true out_port.Report left before = let never : false ≡ true = left in cc
second_last false out_port.Report left before = let never : false ≡ true = left in cc
second_last two out_port.Second left before = let never : false ≡ true = before in cc
second_last two (out_port.Line l) left before = let never : false ≡ true = before in cc

-- what isn't left at a port
and_false : (a b : Bool) → b ≡ false → (a && b) ≡ false
and_false true b is = is
and_false false b is = refl

not_left : (two : Bool) (q : Port) → same (Out out_port.Final) q ≡ false → same (Out out_port.Second) q ≡ false → is_left two q ≡ false
not_left two q final second = ap (λ b. b || is_other two q) final ∙ and_false two (same (Out out_port.Second) q) second

module _ (files : DiskFiles) (first : Disk) (second : Option Disk) (run : Course) (lawful : Lawful (log_of run)) (a b c : Outside) (opens : OnlyAt (is_disk_output files) a b)
    (opened : (p : OutPort) → (b.port (Out p)).bytes ≡ (a.port (Out p)).bytes) (good : Tells a → AreGood a.fixed (output_ports (ToDisk files)))
    (plays : OnlyAt (is_shown files.lines) b c) (open_c : (p : OutPort) → is_disk_output files (Out p) ≡ true → (c.port (Out p)).is_open ≡ true) where
  -- what the run shows at a port, and what may be written there
  abbrev text_at : OutPort → List ℕ
  text_at p = shown_text files.lines (shown_by run) p

  abbrev writes_at : OutPort → List ℕ → Type 0
  writes_at = disk_writes files.lines first second run

  abbrev two : Bool
  two = is_some files.second

  good_so_far : (port : OutPort) → Tells a → AreGood a.fixed (ports_before (output_ports (ToDisk files)) (Out port))
  good_so_far port told = good_before a.fixed (output_ports (ToDisk files)) (Out port) (good told)

  is_log : IsLog run (text_of (shown_by run))
  is_log = record { lines = refl; lawful = lawful }

  tells_b : Tells a → Tells b
  tells_b told = still_tells _ _ _ opens told

  tells_c : Tells a → Tells c
  tells_c told = still_tells _ _ _ plays (tells_b told)

  unplayed : (p : OutPort) → is_shown files.lines (Out p) ≡ false → (c.port (Out p)).bytes ≡ (a.port (Out p)).bytes
  unplayed p other = ap (λ (state : PortState). state.bytes) (plays.others (Out p) other) ∙ opened p

  open_ports : (q : OutPort) → has_port (output_ports (ToDisk files)) (Out q) ≡ true → (c.port (Out q)).is_open ≡ true
  open_ports q among = open_c q (sym (disk_ports files (Out q)) ∙ among)

  calm_c : Calm a b → Calm b c → Calm a c
  calm_c first_calm later = calm_then _ _ _ first_calm later

  pub stopped_playing : (port : OutPort) → is_shown files.lines (Out port) ≡ true → (Tells b → HasShownFronts files.lines (shown_by run) b c) → Calm a b → FaultAt (Out port) true b c
      → StopsRun (ToDisk files) (disk_writes files.lines first second run) port a c
  stopped_playing port named fronts calm fault = record {
    named = ap (λ s. s || is_left (is_some files.second) (Out port)) named;
    written = at;
    order = good_so_far port;
    opened = λ told p grew. good told;
    fault = fault_any _ _ _ _ (fault_then _ _ a b c opens.fixed calm fault);
    step = inr (inl (record { states = open_ports; written = λ told q other before. absurd (none_before_shown files.lines port q named before) }));
  } where
    front_at : Tells a → (p : OutPort) → HoldsFront (a.port (Out p)).bytes (text_at p) (c.port (Out p)).bytes
    front_at told p = subst (λ l. HoldsFront l (text_at p) (c.port (Out p)).bytes) (opened p) (fronts (tells_b told) p)

    at : Tells a → (p : OutPort) → HoldsFrontOfSome (writes_at p) (a.port (Out p)).bytes (c.port (Out p)).bytes
    at told out_port.Term = record { text = text_at out_port.Term; fits = λ _. refl; front = front_at told out_port.Term }
    at told out_port.Log = record { text = text_at out_port.Log; fits = λ _. is_log; front = front_at told out_port.Log }
    at told out_port.Final = nothing_of _ _ _ (unplayed out_port.Final refl)
    at told out_port.Report = nothing_of _ _ _ (unplayed out_port.Report refl)
    at told out_port.Second = nothing_of _ _ _ (unplayed out_port.Second refl)
    at told (out_port.Line l) = record { text = text_at (out_port.Line l); fits = λ _. refl; front = front_at told (out_port.Line l) }

  module _ (shown : Tells b → HasShown files.lines (shown_by run) b c) where
    all_at : Tells a → (p : OutPort) → (c.port (Out p)).bytes ≡ (a.port (Out p)).bytes ++ text_at p
    all_at told p = shown (tells_b told) p ∙ ap (λ l. l ++ text_at p) (opened p)

    -- the run has ended, and its disks are written
    module _ (ended : Ends) (last : ended ≡ run.ending) (disk other : List ℕ) (fits : IsFinal first (finished run.system) disk)
        (fits_other : second_writes second (finished run.system).unix.store.second other) (d : Outside) (writes : OnlyAt (is_left two) c d) where
      unleft : (p : OutPort) → same (Out out_port.Final) (Out p) ≡ false → same (Out out_port.Second) (Out p) ≡ false → (d.port (Out p)).bytes ≡ (c.port (Out p)).bytes
      unleft p one also = ap (λ (state : PortState). state.bytes) (writes.others (Out p) (not_left two (Out p) one also))

      term_written : Tells a → HoldsSome (writes_at out_port.Term) (a.port (Out out_port.Term)).bytes (d.port (Out out_port.Term)).bytes
      term_written told = record { text = text_at out_port.Term; fits = refl; holds = unleft out_port.Term refl refl ∙ all_at told out_port.Term }

      log_written : Tells a → HoldsSome (writes_at out_port.Log) (a.port (Out out_port.Log)).bytes (d.port (Out out_port.Log)).bytes
      log_written told = record { text = text_at out_port.Log; fits = is_log; holds = unleft out_port.Log refl refl ∙ all_at told out_port.Log }

      report_written : HoldsSome (writes_at out_port.Report) (a.port (Out out_port.Report)).bytes (d.port (Out out_port.Report)).bytes
      report_written = empty_of _ _ _ refl (unleft out_port.Report refl refl ∙ unplayed out_port.Report refl)

      line_written : Tells a → (l : ℕ) → HoldsSome (writes_at (out_port.Line l)) (a.port (Out (out_port.Line l))).bytes (d.port (Out (out_port.Line l))).bytes
      line_written told l = record {
        text = text_at (out_port.Line l);
        fits = refl;
        holds = unleft (out_port.Line l) (not_line 6 l (lit< tt)) (not_line 8 l (lit< tt)) ∙ all_at told (out_port.Line l);
      }

      pub stopped_writing : (port : OutPort) → Leaves two disk other (Err port) c d → Calm a b → Calm b c → StopsRun (ToDisk files) (disk_writes files.lines first second run) port a d
      stopped_writing port leaves calm calm_too = record {
        named = right_true (is_shown files.lines (Out port)) (is_left two (Out port)) leaves.named;
        written = at;
        order = good_so_far port;
        opened = λ told p grew. good told;
        fault = fault_any _ _ _ _ (fault_then _ _ a c d (plays.fixed ∙ opens.fixed) (calm_c calm calm_too) leaves.cause);
        step = inr (inl (record { states = λ q among. leaves.is_open q ∙ open_ports q among; written = λ told q other before. earlier told q before }));
      } where
        earlier : Tells a → (q : OutPort) → is_written_before q port ≡ true → HoldsSome (writes_at q) (a.port (Out q)).bytes (d.port (Out q)).bytes
        earlier told out_port.Term before = term_written told
        earlier told out_port.Log before = log_written told
        earlier told out_port.Final before = record { text = disk; fits = fits; holds = leaves.first before (tells_c told) ∙ ap (λ l. l ++ disk) (unplayed out_port.Final refl) }
        earlier told out_port.Report before = absurd (none_after_report port before)
        earlier told out_port.Second before = absurd (second_last two port leaves.named before)
        earlier told (out_port.Line l) before = line_written told l

        front_of : (p : OutPort) (text : List ℕ) → is_shown files.lines (Out p) ≡ false → HoldsFront (c.port (Out p)).bytes text (d.port (Out p)).bytes
            → HoldsFront (a.port (Out p)).bytes text (d.port (Out p)).bytes
        front_of p text not front = subst (λ l. HoldsFront l text (d.port (Out p)).bytes) (unplayed p not) front

        at : Tells a → (p : OutPort) → HoldsFrontOfSome (writes_at p) (a.port (Out p)).bytes (d.port (Out p)).bytes
        at told out_port.Term = all_of _ _ _ (term_written told)
        at told out_port.Log = all_of _ _ _ (log_written told)
        at told out_port.Final = record { text = disk; fits = λ _. fits; front = front_of out_port.Final disk refl (leaves.front (tells_c told)).0 }
        at told out_port.Report = all_of _ _ _ report_written
        at told out_port.Second = record { text = other; fits = λ _. fits_other; front = front_of out_port.Second other refl (leaves.front (tells_c told)).1 }
        at told (out_port.Line l) = all_of _ _ _ (line_written told l)

      module _ (leaves : Leaves two disk other (Ok tt) c d) (e : Outside) (finishes : (p : OutPort) → (e.port (Out p)).bytes ≡ (d.port (Out p)).bytes) where
        written_d : Tells a → (p : OutPort) → HoldsSome (writes_at p) (a.port (Out p)).bytes (d.port (Out p)).bytes
        written_d told out_port.Term = term_written told
        written_d told out_port.Log = log_written told
        written_d told out_port.Final = record { text = disk; fits = fits; holds = (leaves.whole (tells_c told)).0 ∙ ap (λ l. l ++ disk) (unplayed out_port.Final refl) }
        written_d told out_port.Report = report_written
        written_d told out_port.Second = record { text = other; fits = fits_other; holds = (leaves.whole (tells_c told)).1 ∙ ap (λ l. l ++ other) (unplayed out_port.Second refl) }
        written_d told (out_port.Line l) = line_written told l

        written_e : Tells a → (p : OutPort) → HoldsSome (writes_at p) (a.port (Out p)).bytes (e.port (Out p)).bytes
        written_e told p = subst (HoldsSome (writes_at p) (a.port (Out p)).bytes) (sym (finishes p)) (written_d told p)

        pub stopped_finishing : (port : OutPort) → is_disk_output files (Out port) ≡ true
            → ((q : OutPort) → has_port (output_ports (ToDisk files)) (Out q) ≡ true → (e.port (Out q)).is_open ≡ not (is_opened_before (output_ports (ToDisk files)) q port))
            → Calm a b → Calm b c → FaultAt (Out port) true d e → StopsRun (ToDisk files) (disk_writes files.lines first second run) port a e
        stopped_finishing port named states calm calm_too fault = record {
          named = named;
          written = λ told p. all_of _ _ _ (written_e told p);
          order = good_so_far port;
          opened = λ told p grew. good told;
          fault = fault_any _ _ _ _ (fault_then _ _ a d e (writes.fixed ∙ plays.fixed ∙ opens.fixed) (calm_then _ _ _ (calm_c calm calm_too) leaves.cause) fault);
          step = inr (inr (record { states = states; written = λ told q other. written_e told q }));
        }

        pub came_to_end : ((p : OutPort) → is_disk_output files (Out p) ≡ true → (e.port (Out p)).is_open ≡ false) → Calm a b → Calm b c → Calm d e
            → EndsRun (ToDisk files) (disk_writes files.lines first second run) run ended a e
        came_to_end closed calm calm_too calm_last = record {
          ended = last;
          written = written_e;
          order = good;
          is_open = closed;
          calm = calm_then _ _ _ (calm_then _ _ _ (calm_c calm calm_too) leaves.cause) calm_last;
        }

-- the disks that a run leaves, where it has ended
module _ (old played ended : KernelState) (run : Course) (plays : played.system ≡ run.system) (first : KeepsRest old played) (finishes : ended.system ≡ finished played.system)
    (stands : AllStand ended.stored ended.system.unix.store) (later : SameAroundEach played.blocks ended.stored) where
  rest : SameAroundEach old.blocks ended.stored
  rest = rest_then _ _ _ first later

  pub run_leaves : (head (block_at old.blocks.root)).f_size ≤ SWAP_START → IsDisk ended.stored.root
      → (swap : List ℕ) → SwapHolds swap (kept_in ended.system) → AreRangesApart (kept_in ended.system)
      → IsFinal (block_at old.blocks.root) (finished run.system) (disk_text ended.stored.root ++ swap)
  run_leaves low form swap holds apart =
      subst (λ (m : System). IsFinal (block_at old.blocks.root) m (disk_text ended.stored.root ++ swap)) (finishes ∙ ap finished plays)
      (final_is old.blocks.root ended.stored.root ended.system low rest.root form stands.root swap holds apart)

  pub second_leaves : OfSecond IsDisk ended.stored.second
      → second_writes (option_map block_at old.blocks.second) (finished run.system).unix.store.second (second_text ended.stored.second)
  second_leaves form =
      subst (λ (m : System). second_writes (option_map block_at old.blocks.second) m.unix.store.second (second_text ended.stored.second)) (finishes ∙ ap finished plays)
      (second_left old.blocks.second ended.stored.second ended.system.unix.store.second rest.second form stands.second)

-- such a run can be finished
pub phase_ended : (ended : Ends) (phase : Phase) → phase ≡ phase_after ended → (phase ≡ Started) ⊎ (phase ≡ Stopped)
phase_ended AtEnd phase is = inl is
phase_ended (ends.Panic kind) phase is = inr is

pub fault_where_err : {T E : Type 0} (r : Result T E) (P Q : Type 0) → true ≡ is_err r → MatchResult r (λ _. P) (λ _. Q) → Q
fault_where_err (Ok x) P Q is holds = absurd (cc)
fault_where_err (Err e) P Q is holds = holds

pub calm_where_ok : {T E : Type 0} (r : Result T E) (P Q : Type 0) → false ≡ is_err r → MatchResult r (λ _. P) (λ _. Q) → P
calm_where_ok (Ok x) P Q is holds = holds
calm_where_ok (Err e) P Q is holds = absurd (cc)

pub told_where_ok : {T E : Type 0} (r : Result T E) (P : Type 0) → false ≡ is_err r → OnOk r P → P
told_where_ok (Ok x) P is holds = holds
told_where_ok (Err e) P is holds = absurd (cc)

pub told_where_err : {T E : Type 0} (r : Result T E) (P : Type 0) → true ≡ is_err r → OnErr r P → P
told_where_err (Ok x) P is holds = absurd (cc)
told_where_err (Err e) P is holds = holds

-- A kernel has the disk of its image.
pub same_blocks : (image : List ℕ) (blocks : List (List ℕ)) → blocks ≡ blocks_of image → (n : ℕ) → n < DISK_BLOCKS → block_at blocks n ≡ disk_of image n
same_blocks image blocks is n low = ap (λ l. block_at l n) is ∙ block_of_image image n low

module _ (d e : Disk) (d2 e2 : Option Disk) (same_disk : (n : ℕ) → n < DISK_BLOCKS → e n ≡ d n) (same_other : Between SameDisk e2 d2) where
  writes_over : (outputs : Outputs) (run : Course) (p : OutPort) (text : List ℕ) → run_writes outputs e e2 run p text → run_writes outputs d d2 run p text
  writes_over (ToDisk files) run out_port.Term text fits = fits
  writes_over (ToDisk files) run out_port.Log text fits = fits
  writes_over (ToDisk files) run out_port.Final text fits = final_same d e (finished run.system) text same_disk fits
  writes_over (ToDisk files) run out_port.Report text fits = fits
  writes_over (ToDisk files) run out_port.Second text fits = second_over d2 e2 (finished run.system).unix.store.second text same_other fits
  writes_over (ToDisk files) run (out_port.Line l) text fits = fits
  writes_over (ToMemory final) run p text fits = fits

  some_over : (outputs : Outputs) (run : Course) (p : OutPort) (old new : List ℕ) → HoldsSome (run_writes outputs e e2 run p) old new → HoldsSome (run_writes outputs d d2 run p) old new
  some_over outputs run p old new all = record { text = all.text; fits = writes_over outputs run p all.text all.fits; holds = all.holds }

  pub ends_over : (outputs : Outputs) (run : Course) (ending : Ends) (old new : Outside) → EndsRun outputs (run_writes outputs e e2 run) run ending old new
      → EndsRun outputs (run_writes outputs d d2 run) run ending old new
  ends_over outputs run ending old new ended = record {
    ended = ended.ended;
    written = λ told p. some_over outputs run p _ _ (ended.written told p);
    order = ended.order;
    is_open = ended.is_open;
    calm = ended.calm;
  }

  steps_over : (outputs : Outputs) (run : Course) (port : OutPort) (old new : Outside) → StopsAt (output_ports outputs) (run_writes outputs e e2 run) port old new
      → StopsAt (output_ports outputs) (run_writes outputs d d2 run) port old new
  steps_over outputs run port old new (inl opening) = inl opening
  steps_over outputs run port old new (inr (inl writing)) =
      inr (inl (record { states = writing.states; written = λ told q other before. some_over outputs run q _ _ (writing.written told q other before) }))
  steps_over outputs run port old new (inr (inr finishing)) =
      inr (inr (record { states = finishing.states; written = λ told q other. some_over outputs run q _ _ (finishing.written told q other) }))

  pub stops_over : (outputs : Outputs) (run : Course) (port : OutPort) (old new : Outside) → StopsRun outputs (run_writes outputs e e2 run) port old new
      → StopsRun outputs (run_writes outputs d d2 run) port old new
  stops_over outputs run port old new stops = record {
    named = stops.named;
    written = λ told p. let part = stops.written told p in record { text = part.text; fits = λ grew. writes_over outputs run p part.text (part.fits grew); front = part.front };
    order = stops.order;
    opened = stops.opened;
    fault = stops.fault;
    step = steps_over outputs run port old new stops.step;
  }

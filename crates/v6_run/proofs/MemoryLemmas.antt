-- What has been written by `memory`, step by step.
use Rattle.std.proofs.Common.{◌≡◌, ℕ, true, false, inl, inr, List, ◌++◌, refl, sym, ◌∙◌, ap, subst, lit<}
use Rattle.v6_port.specs.declared.host.OutPort.{OutPort}
use Rattle.v6_port.specs.declared.host.OutPort.TheVariants as out_port
use Rattle.v6_port.specs.Outside.{Out, same, PortState, Outside, Tells, OnlyAt}
use Rattle.v6_port.specs.Calls.{is_expected}
use Rattle.v6_port.specs.Causes.{Calm, FaultAt}
use Rattle.abstract_unix.specs.declared.ends.Ends.{Ends}
use Rattle.image_keep.specs.Kept.{Kept}
use Rattle.image_keep.specs.Holds.{MemoryHolds}
use Rattle.abstract_unix.specs.Unix.{System}
use Rattle.abstract_unix.specs.Runs.{Course, finished}
use Rattle.unix_core.specs.Memory.{kept_in}
use Rattle.v6_run.specs.Ports.{final_of}
use Rattle.v6_run.specs.Fronts.{HoldsFront, HoldsSome, HoldsFrontOfSome}
use Rattle.v6_run.specs.Words.{ToMemory}
use Rattle.v6_run.specs.Opened.{output_ports, AreGood}
use Rattle.v6_run.specs.Steps.{is_written_before}
use Rattle.v6_run.specs.Outputs.{memory_writes, core_writes, EndsRun, StopsRun}
use Rattle.v6_port.proofs.CauseLemmas.{still_tells, calm_then, fault_then, not_line}
use Rattle.v6_run.proofs.MakeLemmas.{final_alone}
use Rattle.v6_run.proofs.OutputLemmas.{nothing_of, all_of, empty_of, fault_any}

-- Finishing changes nothing of what core and the swap area keep.
pub kept_finished : (m n : System) → n ≡ finished m → kept_in n ≡ kept_in m
unfolding kept_in
kept_finished m n is = ap kept_in is

-- the bytes that are read hold what those of the kernel hold
pub memory_held : (core swap its_core its_swap : List ℕ) (k : Kept) → core ≡ its_core → swap ≡ its_swap → MemoryHolds its_core its_swap k → MemoryHolds core swap k
memory_held core swap its_core its_swap k is_core is_swap holds =
    subst (λ l. MemoryHolds l swap k) (sym is_core) (subst (λ l. MemoryHolds its_core l k) (sym is_swap) holds)

-- its file is opened
module _ (name : List ℕ) (run : Course) (a b : Outside) (opens : OnlyAt (same (Out out_port.Final)) a b) (opened : (final_of b).bytes ≡ (final_of a).bytes) where
  others_same : (p : OutPort) → same (Out out_port.Final) (Out p) ≡ false → (b.port (Out p)).bytes ≡ (a.port (Out p)).bytes
  others_same p other = ap (λ (state : PortState). state.bytes) (opens.others (Out p) other)

  pub memory_unopened : (final_of b).is_open ≡ false → FaultAt (Out out_port.Final) (is_expected (a.fixed.expects out_port.Final) name) a b
      → StopsRun (ToMemory name) (core_writes run) out_port.Final a b
  memory_unopened closed fault = record {
    named = refl;
    written = λ told p. nothing_of _ _ _ (all_same p);
    order = λ told. tt;
    opened = λ told p grew. absurd (grew (all_same p));
    fault = fault;
    step = inl (record { states = final_alone name b false closed; bytes = λ q other. all_same q });
  } where
    all_same : (p : OutPort) → (b.port (Out p)).bytes ≡ (a.port (Out p)).bytes
    all_same out_port.Term = others_same out_port.Term refl
    all_same out_port.Log = others_same out_port.Log refl
    all_same out_port.Final = opened
    all_same out_port.Report = others_same out_port.Report refl
    all_same out_port.Second = others_same out_port.Second refl
    all_same (out_port.Line l) = others_same (out_port.Line l) (not_line 6 l (lit< tt))

  -- the run has ended, and what it leaves is written
  module _ (expected : Tells a → is_expected (a.fixed.expects out_port.Final) name ≡ true) (ended : Ends) (last : ended ≡ run.ending) (text : List ℕ) (leaves : memory_writes ended run.system text) (c : Outside) (writes : OnlyAt (same (Out out_port.Final)) b c) where
    is_memory : memory_writes run.ending run.system text
    is_memory = subst (λ e. memory_writes e run.system text) last leaves

    tells_b : Tells a → Tells b
    tells_b told = still_tells _ _ _ opens told

    others_then : (p : OutPort) → same (Out out_port.Final) (Out p) ≡ false → (c.port (Out p)).bytes ≡ (a.port (Out p)).bytes
    others_then p other = ap (λ (state : PortState). state.bytes) (writes.others (Out p) other) ∙ others_same p other

    good : Tells a → AreGood a.fixed (output_ports (ToMemory name))
    good told = (expected told, tt)

    pub memory_stopped : (final_of c).is_open ≡ true → (Tells b → HoldsFront (final_of b).bytes text (final_of c).bytes) → Calm a b → FaultAt (Out out_port.Final) true b c
        → StopsRun (ToMemory name) (core_writes run) out_port.Final a c
    memory_stopped still front calm fault = record {
      named = refl;
      written = at;
      order = λ told. tt;
      opened = λ told p grew. good told;
      fault = fault_any _ _ _ _ (fault_then _ _ a b c opens.fixed calm fault);
      step = inr (inl (record { states = final_alone name c true still; written = λ told q other before. earlier q before }));
    } where
      earlier : (q : OutPort) → is_written_before q out_port.Final ≡ true → HoldsSome (core_writes run q) (a.port (Out q)).bytes (c.port (Out q)).bytes
      earlier out_port.Term before = empty_of _ _ _ refl (others_then out_port.Term refl)
      earlier out_port.Log before = empty_of _ _ _ refl (others_then out_port.Log refl)
      earlier out_port.Final before = absurd (let no : false ≡ true = before in cc)
      earlier out_port.Report before = absurd (let no : false ≡ true = before in cc)
      earlier out_port.Second before = absurd (let no : false ≡ true = before in cc)
      earlier (out_port.Line l) before = empty_of _ _ _ refl (others_then (out_port.Line l) (not_line 6 l (lit< tt)))

      at : Tells a → (p : OutPort) → HoldsFrontOfSome (core_writes run p) (a.port (Out p)).bytes (c.port (Out p)).bytes
      at told out_port.Term = nothing_of _ _ _ (others_then out_port.Term refl)
      at told out_port.Log = nothing_of _ _ _ (others_then out_port.Log refl)
      at told out_port.Final = record { text = text; fits = λ _. is_memory; front = subst (λ l. HoldsFront l text (final_of c).bytes) opened (front (tells_b told)) }
      at told out_port.Report = nothing_of _ _ _ (others_then out_port.Report refl)
      at told out_port.Second = nothing_of _ _ _ (others_then out_port.Second refl)
      at told (out_port.Line l) = nothing_of _ _ _ (others_then (out_port.Line l) (not_line 6 l (lit< tt)))

    module _ (whole : Tells b → (final_of c).bytes ≡ (final_of b).bytes ++ text) (d : Outside) (finishes : OnlyAt (same (Out out_port.Final)) c d) (finished : (final_of d).bytes ≡ (final_of c).bytes) where
      others_last : (p : OutPort) → same (Out out_port.Final) (Out p) ≡ false → (d.port (Out p)).bytes ≡ (a.port (Out p)).bytes
      others_last p other = ap (λ (state : PortState). state.bytes) (finishes.others (Out p) other) ∙ others_then p other

      all_written : Tells a → (p : OutPort) → HoldsSome (core_writes run p) (a.port (Out p)).bytes (d.port (Out p)).bytes
      all_written told out_port.Term = empty_of _ _ _ refl (others_last out_port.Term refl)
      all_written told out_port.Log = empty_of _ _ _ refl (others_last out_port.Log refl)
      all_written told out_port.Final = record { text = text; fits = is_memory; holds = finished ∙ whole (tells_b told) ∙ ap (λ l. l ++ text) opened }
      all_written told out_port.Report = empty_of _ _ _ refl (others_last out_port.Report refl)
      all_written told out_port.Second = empty_of _ _ _ refl (others_last out_port.Second refl)
      all_written told (out_port.Line l) = empty_of _ _ _ refl (others_last (out_port.Line l) (not_line 6 l (lit< tt)))

      pub memory_unfinished : (final_of d).is_open ≡ true → Calm a b → Calm b c → FaultAt (Out out_port.Final) true c d
          → StopsRun (ToMemory name) (core_writes run) out_port.Final a d
      memory_unfinished still calm calm_too fault = record {
        named = refl;
        written = λ told p. all_of _ _ _ (all_written told p);
        order = λ told. tt;
        opened = λ told p grew. good told;
        fault = fault_any _ _ _ _ (fault_then _ _ a c d (writes.fixed ∙ opens.fixed) (calm_then _ _ _ calm calm_too) fault);
        step = inr (inr (record { states = final_alone name d true still; written = λ told q other. all_written told q }));
      }

      pub memory_left : (final_of d).is_open ≡ false → Calm a b → Calm b c → Calm c d → EndsRun (ToMemory name) (core_writes run) run ended a d
      memory_left closed calm calm_too calm_last = record {
        ended = last;
        written = all_written;
        order = good;
        is_open = shut;
        calm = calm_then _ _ _ (calm_then _ _ _ calm calm_too) calm_last;
      } where
        shut : (p : OutPort) → same (Out out_port.Final) (Out p) ≡ true → (d.port (Out p)).is_open ≡ false
        shut out_port.Term out = absurd (let no : false ≡ true = out in cc)
        shut out_port.Log out = absurd (let no : false ≡ true = out in cc)
        shut out_port.Final out = closed
        shut out_port.Report out = absurd (let no : false ≡ true = out in cc)
        shut out_port.Second out = absurd (let no : false ≡ true = out in cc)
        shut (out_port.Line l) out = absurd (let no : false ≡ true = sym (not_line 6 l (lit< tt)) ∙ out in cc)

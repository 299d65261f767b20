-- Why a status is answered after several calls of a host.
use Rattle.std.proofs.Common.{◌≡◌, ◌<◌, ℕ, Bool, true, false, ◌||◌, if◌then◌else◌, Option, Some, None, is_some, List, [], ◌∷◌, ◌++◌, refl, sym, ◌∙◌, ap, subst, lit<, arith}
use Rattle.std.specs.Prelude.{◌==◌}
use Rattle.std.proofs.lemmas.Bool.Decides.{nat_tests}
use Rattle.std.proofs.Math.Bool.{and-false}
use Rattle.v6_port.specs.declared.host.InPort.TheVariants as in_port
use Rattle.v6_port.specs.declared.host.OutPort.{OutPort}
use Rattle.v6_port.specs.declared.host.OutPort.TheVariants as out_port
use Rattle.v6_port.specs.Outside.{Port, In, Out, same, out_number, is_report, Environment, Outside, OnlyAt}
use Rattle.v6_port.specs.Calls.{is_given}
use Rattle.v6_port.specs.Causes.{FaultAt}
use Rattle.v6_port.proofs.CauseLemmas.{not_line}
use Rattle.v6_run.specs.Words.{Outputs, ToDisk, ToMemory, RunWords, second_image, Run}
use Rattle.v6_run.specs.Outputs.{is_output}
use Rattle.v6_run.specs.Opened.{NamedPort, input, second_inputs, output_ports, command_ports, has_port, ports_before, knows_port}
use Rattle.v6_run.specs.Steps.{is_opened_before}
use Rattle.v6_run.specs.Headline.{is_named, is_known}
use Rattle.v6_run.proofs.LinePorts.{or_false, has_append, disk_ports}

pub by_test : (b : Bool) (P : Type 0) → (b ≡ true → P) → (b ≡ false → P) → P
by_test true P yes_it no_it = yes_it refl
by_test false P yes_it no_it = no_it refl

pub fault_known : (p : Port) (known k : Bool) (a b : Outside) → known ≡ k → FaultAt p k a b → FaultAt p known a b
fault_known p known k a b is fault = subst (λ t. FaultAt p t a b) (sym is) fault

pub only_within : (mine named : Port → Bool) (a b : Outside) → ((q : Port) → named q ≡ false → mine q ≡ false) → OnlyAt mine a b → OnlyAt named a b
only_within mine named a b within only = record { fixed = only.fixed; others = λ q other. only.others q (within q other) }

pub left_false : (a b : Bool) → (a || b) ≡ false → a ≡ false
left_false true b is = cc
left_false false b is = refl

pub right_false : (a b : Bool) → (a || b) ≡ false → b ≡ false
right_false true b is = cc
right_false false b is = is

-- the ports that a run opens for writing
pub outputs_are : (outputs : Outputs) (q : Port) → has_port (output_ports outputs) q ≡ is_output outputs q
outputs_are (ToDisk files) q = disk_ports files q
outputs_are (ToMemory final) q = or_false (same (Out out_port.Final) q)

-- no port for reading is one for writing
pub not_input : (n : ℕ) (p : OutPort) → n < 4 → (n == out_number p) ≡ false
not_input n out_port.Term low = grind (arith, nat_tests)
not_input n out_port.Log low = grind (arith, nat_tests)
not_input n out_port.Final low = grind (arith, nat_tests)
not_input n out_port.Report low = grind (arith, nat_tests)
not_input n out_port.Second low = grind (arith, nat_tests)
not_input n (out_port.Line l) low = not_line n l (omega (arith, low))

-- The second image's port, where there is one, is none for writing.
no_second : (o : Option (List ℕ)) (p : OutPort) → has_port (second_inputs o) (Out p) ≡ false
no_second None p = refl
no_second (Some name) p = or_false (same (In in_port.Second) (Out p)) ∙ not_input 3 p (lit< tt)

pub second_unread : (o : Option (List ℕ)) (old new : Outside) → OnlyAt (has_port (second_inputs o)) old new → (p : OutPort) → new.port (Out p) ≡ old.port (Out p)
second_unread o old new only p = only.others (Out p) (no_second o p)

second_known : (o : Option (List ℕ)) (ports : List NamedPort) (fixed : Environment) (p : OutPort) → knows_port (second_inputs o ++ ports) fixed (Out p) ≡ knows_port ports fixed (Out p)
second_known None ports fixed p = refl
second_known (Some name) ports fixed p = ap (λ b. if b then is_given (fixed.given name) else knows_port ports fixed (Out p)) (not_input 3 p (lit< tt))

second_before : (o : Option (List ℕ)) (ports : List NamedPort) (p : OutPort)
    → ports_before (second_inputs o ++ ports) (Out p) ≡ second_inputs o ++ ports_before ports (Out p)
second_before None ports p = refl
second_before (Some name) ports p =
    ap (λ b. if b then [] else input in_port.Second name ∷ ports_before ports (Out p)) (not_input 3 p (lit< tt))

-- what `run` has a name for
module _ (words : RunWords) where
  abbrev second : List NamedPort
  second = second_inputs (second_image words.outputs)

  abbrev others : List NamedPort
  others = input in_port.Script words.script ∷ output_ports words.outputs

  past_image : (q : Port) → is_named (Run words) q ≡ false → (has_port second q || has_port others q) ≡ false
  past_image q other = sym (has_append second others q) ∙ right_false (same (In in_port.Image) q) _ other

  past_second : (q : Port) → is_named (Run words) q ≡ false → has_port others q ≡ false
  past_second q other = right_false (has_port second q) _ (past_image q other)

  pub names_image : (q : Port) → is_named (Run words) q ≡ false → same (In in_port.Image) q ≡ false
  names_image q other = left_false (same (In in_port.Image) q) _ other

  pub names_second : (q : Port) → is_named (Run words) q ≡ false → has_port second q ≡ false
  names_second q other = left_false (has_port second q) _ (past_image q other)

  pub names_script : (q : Port) → is_named (Run words) q ≡ false → same (In in_port.Script) q ≡ false
  names_script q other = left_false (same (In in_port.Script) q) _ (past_second q other)

  pub names_outputs : (q : Port) → is_named (Run words) q ≡ false → is_output words.outputs q ≡ false
  names_outputs q other = sym (outputs_are words.outputs q) ∙ right_false (same (In in_port.Script) q) _ (past_second q other)

  pub named_outputs : (p : OutPort) → is_named (Run words) (Out p) ≡ is_output words.outputs (Out p)
  named_outputs p =
      ap (λ b. b || has_port (second ++ others) (Out p)) (not_input 0 p (lit< tt))
      ∙ has_append second others (Out p) ∙ ap (λ b. b || has_port others (Out p)) (no_second (second_image words.outputs) p)
      ∙ ap (λ b. b || has_port (output_ports words.outputs) (Out p)) (not_input 1 p (lit< tt)) ∙ outputs_are words.outputs (Out p)

  pub known_outputs : (fixed : Environment) (p : OutPort) → is_known (Some (Run words)) fixed (Out p) ≡ knows_port (output_ports words.outputs) fixed (Out p)
  known_outputs fixed p =
      ap (λ b. if b then is_given (fixed.given words.image) else knows_port (second ++ others) fixed (Out p)) (not_input 0 p (lit< tt))
      ∙ second_known (second_image words.outputs) others fixed p
      ∙ ap (λ b. if b then is_given (fixed.given words.script) else knows_port (output_ports words.outputs) fixed (Out p)) (not_input 1 p (lit< tt))

  -- what is opened before an output, among the outputs
  pub before_outputs : (p q : OutPort) → is_opened_before (command_ports (Run words)) q p ≡ is_opened_before (output_ports words.outputs) q p
  before_outputs p q =
      let image : NamedPort = input in_port.Image words.image in
      let script : NamedPort = input in_port.Script words.script in
      let rest : List NamedPort = ports_before (output_ports words.outputs) (Out p) in
      let first : ports_before (image ∷ second ++ others) (Out p) ≡ image ∷ ports_before (second ++ others) (Out p) =
      ap (λ b. if b then [] else image ∷ ports_before (second ++ others) (Out p)) (not_input 0 p (lit< tt)) in
      let last : ports_before others (Out p) ≡ script ∷ rest = ap (λ b. if b then [] else script ∷ rest) (not_input 1 p (lit< tt)) in
      ap (λ l. has_port l (Out q)) (first ∙ ap (λ l. image ∷ l) (second_before (second_image words.outputs) others p ∙ ap (λ l. second ++ l) last))
      ∙ ap (λ b. b || has_port (second ++ script ∷ rest) (Out q)) (not_input 0 q (lit< tt))
      ∙ has_append second (script ∷ rest) (Out q) ∙ ap (λ b. b || has_port (script ∷ rest) (Out q)) (no_second (second_image words.outputs) q)
      ∙ ap (λ b. b || has_port rest (Out q)) (not_input 1 q (lit< tt))

  -- The script comes after the images.
  abbrev ports_with : Option (List ℕ) → List NamedPort
  ports_with o = input in_port.Image words.image ∷ (second_inputs o ++ others)

  pub named_script : is_named (Run words) (In in_port.Script) ≡ true
  named_script = by (second_image words.outputs)
    where
      by : (o : Option (List ℕ)) → has_port (ports_with o) (In in_port.Script) ≡ true
      by None = refl
      by (Some name) = refl

  pub known_script : (fixed : Environment) → is_known (Some (Run words)) fixed (In in_port.Script) ≡ is_given (fixed.given words.script)
  known_script fixed = by (second_image words.outputs)
    where
      by : (o : Option (List ℕ)) → knows_port (ports_with o) fixed (In in_port.Script) ≡ is_given (fixed.given words.script)
      by None = refl
      by (Some name) = refl

  pub before_script : ports_before (command_ports (Run words)) (In in_port.Script) ≡ input in_port.Image words.image ∷ second
  before_script = by (second_image words.outputs)
    where
      by : (o : Option (List ℕ)) → ports_before (ports_with o) (In in_port.Script) ≡ input in_port.Image words.image ∷ second_inputs o
      by None = refl
      by (Some name) = refl

  -- and the second image after the first
  module _ (name : List ℕ) (is : second_image words.outputs ≡ Some name) where
    pub named_second : is_named (Run words) (In in_port.Second) ≡ true
    named_second = ap (λ o. has_port (ports_with o) (In in_port.Second)) is

    pub known_second : (fixed : Environment) → is_known (Some (Run words)) fixed (In in_port.Second) ≡ is_given (fixed.given name)
    known_second fixed = ap (λ o. knows_port (ports_with o) fixed (In in_port.Second)) is

    pub before_second : ports_before (command_ports (Run words)) (In in_port.Second) ≡ input in_port.Image words.image ∷ []
    before_second = ap (λ o. ports_before (ports_with o) (In in_port.Second)) is

-- Report has no name
pub unwritten_report : (o : Outputs) → is_output o (Out out_port.Report) ≡ false
unwritten_report (ToDisk files) = and-false (is_some files.second)
unwritten_report (ToMemory final) = refl

pub named_report : (o : Outputs) (p : OutPort) → is_output o (Out p) ≡ true → is_report (Out p) ≡ false
named_report o out_port.Term named = refl
named_report o out_port.Log named = refl
named_report o out_port.Final named = refl
named_report o out_port.Report named = absurd (let never : false ≡ true = sym (unwritten_report o) ∙ named in cc)
named_report o out_port.Second named = refl
named_report o (out_port.Line l) named = not_line 7 l (lit< tt)

-- The files that a command opens, in the order of docs/manual/commands.md, and what lets it go on after each.
use Rattle.std.specs.Prelude.{◌≡◌, ⊤, ℕ, zero, suc, ◌-◌, Bool, true, false, ◌||◌, if◌then◌else◌, Option, Some, None, IsSomeAnd, IsOk, List, [], ◌∷◌, ◌++◌, map, take, codes, decimal}
use Rattle.std.specs.List.{range_with_len}
use Rattle.std.specs.Option.{option_map}
use Rattle.v6_port.specs.declared.host.InPort.{InPort}
use Rattle.v6_port.specs.declared.host.InPort.TheVariants as in_port
use Rattle.v6_port.specs.declared.host.OutPort.{OutPort}
use Rattle.v6_port.specs.declared.host.OutPort.TheVariants as out_port
use Rattle.v6_port.specs.Outside.{Port, In, Out, same, Environment, Outside, Tells}
use Rattle.v6_port.specs.Calls.{is_given, is_expected}
use Rattle.fs_codec.specs.Faults.{image_fault}
use Rattle.unix_core.specs.Boots.{second_fault_of}
use Rattle.script_text.specs.Script.{script_of}
use Rattle.v6_run.specs.declared.image.TheConstants.{IMAGE_LIMIT}
use Rattle.v6_run.specs.declared.run.TheConstants.{SCRIPT_LIMIT}
use Rattle.v6_run.specs.declared.status.Status.{Status}
use Rattle.v6_run.specs.declared.status.Status.TheVariants as status
use Rattle.v6_run.specs.Words.{SecondFiles, Outputs, ToDisk, ToMemory, second_image, Command, Run, Check, Make, Demo, Audit}

-- a port, and the name that a command's words give for it
pub record NamedPort : Type 0 where
  pub port : Port
  pub name : List ℕ

abbrev pub input : InPort → List ℕ → NamedPort
input p name = record { port = In p; name = name }

abbrev pub output : OutPort → List ℕ → NamedPort
output p name = record { port = Out p; name = name }

-- the port to which the bytes of a terminal line go: those of the console, which is line 0, go to Term
abbrev pub line_port : ℕ → OutPort
line_port zero = out_port.Term
line_port (suc l) = out_port.Line (suc l)

-- the file of another line has the console's name, with the number of the line behind it
abbrev pub line_name : List ℕ → ℕ → List ℕ
line_name term l = term ++ (codes "." ++ decimal l)

abbrev pub line_output : List ℕ → ℕ → NamedPort
line_output term l = output (out_port.Line l) (line_name term l)

abbrev pub line_outputs : ℕ → List ℕ → List NamedPort
line_outputs lines term = map (line_output term) (range_with_len 1 (lines - 1))

-- the file that is left of a second disk, where there is one
abbrev pub second_outputs : Option SecondFiles → List NamedPort
second_outputs None = []
second_outputs (Some second) = output out_port.Second second.final_disk ∷ []

-- The ports that a command opens, in this order. All are opened before a byte is written.
abbrev pub output_ports : Outputs → List NamedPort
output_ports (ToDisk files) =
    output out_port.Term files.term
    ∷ (line_outputs files.lines files.term
    ++ (output out_port.Log files.log ∷ output out_port.Final files.final_disk ∷ second_outputs files.second))
output_ports (ToMemory final) = output out_port.Final final ∷ []

-- the second image's, where there is one
abbrev pub second_inputs : Option (List ℕ) → List NamedPort
second_inputs None = []
second_inputs (Some name) = input in_port.Second name ∷ []

abbrev pub command_ports : Command → List NamedPort
command_ports (Run words) =
    input in_port.Image words.image ∷ second_inputs (second_image words.outputs)
    ++ (input in_port.Script words.script ∷ output_ports words.outputs)
command_ports (Check image) = input in_port.Image image ∷ []
command_ports (Make number final) = output out_port.Final final ∷ []
command_ports (Demo number) = []
command_ports (Audit log) = input in_port.Log log ∷ []

abbrev pub words_ports : Option Command → List NamedPort
words_ports None = []
words_ports (Some command) = command_ports command

-- whether a port is among them
abbrev pub has_port : List NamedPort → Port → Bool
has_port [] q = false
has_port (p ∷ ports) q = same p.port q || has_port ports q

-- no port is among them twice
abbrev pub AreApart : List NamedPort → Type 0
AreApart [] = ⊤
AreApart (p ∷ ports) = (has_port ports p.port ≡ false) × AreApart ports

-- those that are opened before a port is
abbrev pub ports_before : List NamedPort → Port → List NamedPort
ports_before [] q = []
ports_before (p ∷ ports) q = if same p.port q then [] else p ∷ ports_before ports q

-- whether one of them is read
abbrev pub is_input : Port → Bool
is_input (In p) = true
is_input (Out p) = false

abbrev pub has_input : List NamedPort → Bool
has_input [] = false
has_input (p ∷ ports) = is_input p.port || has_input ports

-- the host tells the bytes that are read, if any are
abbrev pub TellsInputs : List NamedPort → Outside → Type 0
TellsInputs ports o = has_input ports ≡ true → Tells o

-- whether a name is given, or expected at the port
abbrev pub knows_name : Environment → List ℕ → Port → Bool
knows_name fixed name (In p) = is_given (fixed.given name)
knows_name fixed name (Out p) = is_expected (fixed.expects p) name

abbrev pub knows_port : List NamedPort → Environment → Port → Bool
knows_port [] fixed q = true
knows_port (p ∷ ports) fixed q = if same p.port q then knows_name fixed p.name p.port else knows_port ports fixed q

-- What lets a command go on: an image is given and has no fault, nothing is wrong with a second one beside the first, which was
-- read before it, a script has no fault, and an output is expected under its name.
abbrev pub IsGoodAt : Option (List ℕ) → Environment → List ℕ → Port → Type 0
IsGoodAt first fixed name (In in_port.Image) =
    IsSomeAnd (fixed.given name) (λ bytes. image_fault (take IMAGE_LIMIT bytes) ≡ None)
IsGoodAt first fixed name (In in_port.Script) =
    IsSomeAnd (fixed.given name) (λ bytes. IsOk (script_of (take SCRIPT_LIMIT bytes)))
IsGoodAt first fixed name (In in_port.Second) = IsSomeAnd first (λ image.
    IsSomeAnd (fixed.given name) (λ bytes. second_fault_of image (take IMAGE_LIMIT bytes) ≡ None))
IsGoodAt first fixed name q = knows_name fixed name q ≡ true

-- the bytes of the first image, once it has been read
abbrev pub image_read : Environment → Option (List ℕ) → List ℕ → Port → Option (List ℕ)
image_read fixed first name (In in_port.Image) = option_map (take IMAGE_LIMIT) (fixed.given name)
image_read fixed first name q = first

abbrev pub AreGoodAfter : Option (List ℕ) → Environment → List NamedPort → Type 0
AreGoodAfter first fixed [] = ⊤
AreGoodAfter first fixed (p ∷ ports) =
    IsGoodAt first fixed p.name p.port × AreGoodAfter (image_read fixed first p.name p.port) fixed ports

abbrev pub AreGood : Environment → List NamedPort → Type 0
AreGood fixed ports = AreGoodAfter None fixed ports

-- the ports that a command which ends so has come past
abbrev pub ports_passed : Status → List NamedPort → List NamedPort
ports_passed status.Done ports = ports
ports_passed (status.Panic kind) ports = ports
ports_passed (status.SecondFault fault) ports = ports_before ports (In in_port.Second)
ports_passed (status.ScriptFault fault) ports = ports_before ports (In in_port.Script)
ports_passed (status.ReadFault p) ports = ports_before ports (In p)
ports_passed (status.WriteFault p) ports = ports_before ports (Out p)
ports_passed _ ports = []

-- The words of a command, without the program's name, by docs/manual/commands.md.
use Rattle.std.specs.Prelude.{ℕ, Bool, true, false, if◌then◌else◌, Option, Some, None, List, [], ◌∷◌, map, nat_eq, codes, String, Vec, string_bytes}
use Rattle.std.specs.Option.{option_map}
use Rattle.std.specs.declared.alloc.Global.{Global}
use Rattle.std.specs.Cmp.Lexicographic.{pointwise}
use Rattle.script_text.specs.Number.{number_of}
use Rattle.v6_run.specs.declared.words.Lines as lines
use Rattle.v6_run.specs.declared.words.Lines.TheVariants as count
use Rattle.v6_run.specs.declared.words.DiskFiles as disk_files
use Rattle.v6_run.specs.declared.words.SecondFiles as other_files
use Rattle.v6_run.specs.declared.words.Machine as machine
use Rattle.v6_run.specs.declared.words.Machine.TheVariants as made
use Rattle.v6_run.specs.declared.words.Outputs as outputs
use Rattle.v6_run.specs.declared.words.Outputs.TheVariants as output
use Rattle.v6_run.specs.declared.words.RunWords as words
use Rattle.v6_run.specs.declared.words.Command as written
use Rattle.v6_run.specs.declared.words.Command.TheVariants as variant

-- the files of a second disk: its image before the run, and after it
pub record SecondFiles : Type 0 where
  pub image : List ℕ
  pub final_disk : List ℕ

-- the files that `run`, `run8` or `run2` writes, with how many terminal lines there are: the bytes of line 1 go to TERM.1, and
-- so on. `run2` has a second disk
pub record DiskFiles : Type 0 where
  pub lines : ℕ
  pub term : List ℕ
  pub log : List ℕ
  pub final_disk : List ℕ
  pub second : Option SecondFiles

-- what a run leaves: the files of `run`, `run8` or `run2`, or the file of `memory` with the bytes of core and of the swap area
pub data Outputs : Type 0 where
  ToDisk : DiskFiles → Outputs
  ToMemory : List ℕ → Outputs

-- the files of a run that are read, the size of core in clicks of 64 bytes, and what is written
pub record RunWords : Type 0 where
  pub image : List ℕ
  pub core : ℕ
  pub script : List ℕ
  pub outputs : Outputs

-- how many terminal lines a run has: `memory` has the console alone
abbrev pub line_count : Outputs → ℕ
line_count (ToDisk files) = files.lines
line_count (ToMemory final) = 1

-- the files of a second disk, where there is one, and the name of its image
abbrev pub second_files : Outputs → Option SecondFiles
second_files (ToDisk files) = files.second
second_files (ToMemory final) = None

abbrev pub second_image : Outputs → Option (List ℕ)
second_image outputs = option_map (λ (second : SecondFiles). second.image) (second_files outputs)

-- a command: what `run`, `run8`, `run2` or `memory` is told, the image that `check` reads, the number and the file of `make`,
-- the number of `demo`, or the log that `audit` reads
pub data Command : Type 0 where
  Run : RunWords → Command
  Check : List ℕ → Command
  Make : ℕ → List ℕ → Command
  Demo : ℕ → Command
  Audit : List ℕ → Command

-- the words of `run`, of `run8`, of `run2` and of `memory` are good where CORE is a number
abbrev pub run_words : Bool → Option ℕ → List ℕ → List ℕ → Outputs → Option Command
run_words true (Some core) image script outputs =
    Some (Run (record { image = image; core = core; script = script; outputs = outputs }))
run_words true None image script outputs = None
run_words false core image script outputs = None

abbrev pub is_word : List ℕ → List ℕ → Bool
is_word word name = pointwise nat_eq word name

-- how many lines there are, by the verb: `run` has the console alone
abbrev pub line_words : List ℕ → Option ℕ
line_words verb = if is_word verb (codes "run") then Some 1 else (if is_word verb (codes "run8") then Some 8 else None)

abbrev pub disk_words : Option ℕ → Option ℕ → List ℕ → List ℕ → List ℕ → List ℕ → List ℕ → Option Command
disk_words None core image script term log final = None
disk_words (Some lines) core image script term log final =
    run_words true core image script
    (ToDisk (record { lines = lines; term = term; log = log; final_disk = final; second = None }))

abbrev pub check_words : Bool → List ℕ → Option Command
check_words true image = Some (Check image)
check_words false image = None

-- those of `make` are where N is a number
abbrev pub make_words : Bool → Option ℕ → List ℕ → Option Command
make_words true (Some number) final = Some (Make number final)
make_words true None final = None
make_words false number final = None

-- and so are those of `demo`
abbrev pub demo_words : Option ℕ → Option Command
demo_words (Some number) = Some (Demo number)
demo_words None = None

-- demo N, audit LOG, check IMAGE
abbrev pub short_words : List ℕ → List ℕ → Option Command
short_words verb word =
    if is_word verb (codes "demo") then demo_words (number_of word) else (
    if is_word verb (codes "audit") then Some (Audit word)
    else check_words (is_word verb (codes "check")) word)

-- run IMAGE CORE SCRIPT TERM LOG FINAL, run8 IMAGE CORE SCRIPT TERM LOG FINAL,
-- run2 IMAGE CORE SCRIPT TERM LOG FINAL IMAGE2 FINAL2, memory IMAGE CORE SCRIPT FINAL, check IMAGE, make N FINAL, demo N,
-- audit LOG
abbrev pub command_of : List (List ℕ) → Option Command
command_of (verb ∷ image ∷ core ∷ script ∷ term ∷ log ∷ final ∷ []) =
    disk_words (line_words verb) (number_of core) image script term log final
command_of (verb ∷ image ∷ core ∷ script ∷ term ∷ log ∷ final ∷ second ∷ final_second ∷ []) =
    run_words (is_word verb (codes "run2")) (number_of core) image script
    (ToDisk (record {
      lines = 1;
      term = term;
      log = log;
      final_disk = final;
      second = Some (record { image = second; final_disk = final_second });
    }))
command_of (verb ∷ image ∷ core ∷ script ∷ final ∷ []) =
    run_words (is_word verb (codes "memory")) (number_of core) image script (ToMemory final)
command_of (verb ∷ word ∷ []) = short_words verb word
command_of (verb ∷ number ∷ final ∷ []) = make_words (is_word verb (codes "make")) (number_of number) final
command_of _ = None

-- the command of the words that a program holds
abbrev pub command_in : List (String Global) → Option Command
command_in words = command_of (map string_bytes words)

-- what the words and numbers that a program holds are
abbrev pub lines_value : lines.Lines → ℕ
lines_value count.One = 1
lines_value count.Eight = 8

abbrev pub second_files_value : other_files.SecondFiles → SecondFiles
second_files_value f = record { image = f.image.now; final_disk = f.final_disk.now }

abbrev pub machine_lines : machine.Machine → ℕ
machine_lines (made.Lines lines) = lines_value lines
machine_lines (made.Disks second) = 1

abbrev pub machine_second : machine.Machine → Option SecondFiles
machine_second (made.Lines lines) = None
machine_second (made.Disks second) = Some (second_files_value second)

abbrev pub disk_files_value : disk_files.DiskFiles → DiskFiles
disk_files_value f = record {
  lines = machine_lines f.machine;
  term = f.term.now;
  log = f.log.now;
  final_disk = f.final_disk.now;
  second = machine_second f.machine;
}

abbrev pub outputs_value : outputs.Outputs → Outputs
outputs_value (output.Disk files) = ToDisk (disk_files_value files)
outputs_value (output.Memory final) = ToMemory final.now

abbrev pub run_words_value : words.RunWords → RunWords
run_words_value w = record { image = w.image.now; core = w.core; script = w.script.now; outputs = outputs_value w.outputs }

abbrev pub command_value : written.Command → Command
command_value (variant.Run words) = Run (run_words_value words)
command_value (variant.Check image) = Check image.now
command_value (variant.Make number final) = Make number final.now
command_value (variant.Demo number) = Demo number
command_value (variant.Audit log) = Audit log.now

-- the bytes of a file that is read, where there is one
abbrev pub bytes_value : Option (Vec ℕ Global) → Option (List ℕ)
bytes_value None = None
bytes_value (Some bytes) = Some bytes.items

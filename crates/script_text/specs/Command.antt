-- What each line of a script asks for, by docs/manual/scripts.md.
use Rattle.std.specs.Prelude.{ℕ, Bool, ◌+◌, ◌&&◌, ◌||◌, ◌==◌, nat_eq, nat_le, if◌then◌else◌, Option, Some, None, List, [], ◌∷◌, ◌++◌, length, map, drop, codes}
use Rattle.std.specs.List.{list_all, starts_with}
use Rattle.std.specs.Option.{option_map}
use Rattle.script_text.specs.declared.script.TheConstants.{MAX_LINE}
use Rattle.script_text.specs.declared.script.Event.{Event}
use Rattle.script_text.specs.declared.script.Event.TheVariants.{Clock, Run, Tick, Byte, Switch, Disk, Pace, Line, Hangup}
use Rattle.script_text.specs.Number.{number_of, octal_of}

-- a line is this word alone
abbrev pub is_word : List ℕ → List ℕ → Bool
is_word word line = (length line == length word) && starts_with nat_eq line word

-- a line begins with this word and one space
abbrev pub begins_with : List ℕ → List ℕ → Bool
begins_with word line = starts_with nat_eq line (word ++ 0o040 ∷ [])

-- and this comes after them
abbrev pub after_word : List ℕ → List ℕ → List ℕ
after_word word line = drop (length word + 1) line

-- A comment begins with a semicolon; any bytes may follow.
abbrev pub is_remark : List ℕ → Bool
is_remark line = (length line == 0) || starts_with nat_eq line (codes ";")

abbrev pub is_printed : ℕ → Bool
is_printed byte = nat_le 0o040 byte && nat_le byte 0o176

-- the keys of a text, and the return key after them
abbrev pub typed_keys : List ℕ → Option (List Event)
typed_keys text = if list_all is_printed text then Some (map Byte text ++ Byte 0o015 ∷ []) else None

-- a value that a line gives is one event
abbrev pub one : (ℕ → Event) → Option ℕ → Option (List Event)
one event value = option_map (λ n. event n ∷ []) value

abbrev pub command_of : List ℕ → Option (List Event)
command_of line =
    if is_remark line then Some [] else (
    if is_word (codes "tick") line then Some (Tick ∷ []) else (
    if is_word (codes "type") line then typed_keys [] else (
    if begins_with (codes "type") line then typed_keys (after_word (codes "type") line) else (
    if begins_with (codes "clock") line then one Clock (number_of (after_word (codes "clock") line)) else (
    if begins_with (codes "run") line then one Run (number_of (after_word (codes "run") line)) else (
    if begins_with (codes "byte") line then one Byte (octal_of 3 0o377 (after_word (codes "byte") line)) else (
    if begins_with (codes "switch") line then one Switch (octal_of 6 0o177777 (after_word (codes "switch") line)) else (
    if begins_with (codes "disk") line then one Disk (number_of (after_word (codes "disk") line)) else (
    if begins_with (codes "pace") line then one Pace (number_of (after_word (codes "pace") line)) else (
    if begins_with (codes "line") line then one Line (octal_of 1 0o7 (after_word (codes "line") line)) else (
    if begins_with (codes "hangup") line then one Hangup (octal_of 1 0o7 (after_word (codes "hangup") line))
    else None)))))))))))

-- the events of a line, where it is one
abbrev pub events_of_line : List ℕ → Option (List Event)
events_of_line line = if nat_le (length line) MAX_LINE then command_of line else None

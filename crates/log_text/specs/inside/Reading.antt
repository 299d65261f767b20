-- How a line is read back, word by word. It is read loosely: the line of what was read is then compared with it.
use Rattle.std.specs.Prelude.{◌≡◌, true, Bool, ℕ, ℤ, pos, neg_ℤ, List, [], Option, Some, None, ◌==◌, ◌&&◌, ◌^◌, nat_lt, nat_le, if◌then◌else◌, length, take, drop, codes}
use Rattle.std.specs.List.{slice_split, slice_get, list_all}
use Rattle.std.specs.Option.{unwrap_or, option_map, option_and_then}
use Rattle.std.specs.Borrow.{Bor}
use Rattle.std.specs.Char.{is_ascii_digit}
use Rattle.std.specs.Str.{bytes_eq}
use Rattle.std.specs.Str.Parse.{digits_value, starts_with_minus}
use Rattle.v6_base.specs.declared.entry.Chan.{Chan}
use Rattle.v6_base.specs.declared.entry.Chan.TheVariants.{RunIn, RunOut, Tout, Keys, Show, Wait, Read, Write, Disk, KeysOf, ShowOf}
use Rattle.v6_base.specs.declared.entry.PanicKind.TheVariants as panic
use Rattle.v6_base.specs.declared.entry.Place.{Place}
use Rattle.v6_base.specs.declared.entry.Place.TheVariants as place
use Rattle.v6_base.specs.declared.entry.Entry.{Entry}
use Rattle.v6_base.specs.declared.entry.Entry.TheVariants.{Boot, Go, Idle, Trap, TickUser, TickKernel, TickIdle, Sleep, Wake, Signal, Nice, Time, Size, SizeKeep, Fork, Leave, Bare, Text, Share, Image, SwapIn, SwapOut, Exit, Reap, Panic, End}

-- the parts of a line between its spaces
abbrev pub words_of : List ℕ → List (List ℕ)
words_of line = slice_split (λ byte. byte == 0o040) line

-- the word at a place, the first being 0, and an empty one where there are fewer
abbrev pub word_at : List (List ℕ) → ℕ → List ℕ
word_at words place = unwrap_or (slice_get words place) []

-- a text has digits alone, and they are the word's
abbrev pub IsDigits : List ℕ → Bor (List ℕ) → Type 0
IsDigits word text = (list_all is_ascii_digit word ≡ true) × (text.now ≡ word)

-- the number that decimal digits write, where it has at most so many bits
abbrev pub number_of : ℕ → List ℕ → Option ℕ
number_of bits word =
    if nat_lt 0 (length word) && list_all is_ascii_digit word && nat_lt (digits_value 10 word) (2 ^ bits)
    then Some (digits_value 10 word) else None

abbrev pub negated : ℕ → Option ℤ
negated n = if nat_le n 128 then Some (neg_ℤ (pos n)) else None

abbrev pub not_negated : ℕ → Option ℤ
not_negated n = if nat_lt n 128 then Some (pos n) else None

-- the number from -128 to 127 that digits write, after a minus sign where it is negative
abbrev pub signed_of : List ℕ → Option ℤ
signed_of word =
    if starts_with_minus word then option_and_then negated (number_of 8 (drop 1 word))
    else option_and_then not_negated (number_of 8 word)

-- a word is this one
abbrev pub is_word : List ℕ → List ℕ → Bool
is_word word other = bytes_eq word other

-- a word begins with these bytes
abbrev pub begins : List ℕ → List ℕ → Bool
begins word front = bytes_eq (take (length front) word) front

abbrev pub channel_of : List ℕ → Option Chan
channel_of word =
    if is_word word (codes "runin") then Some RunIn else (
    if is_word word (codes "runout") then Some RunOut else (
    if is_word word (codes "tout") then Some Tout else (
    if is_word word (codes "keys") then Some Keys else (
    if is_word word (codes "show") then Some Show else (
    if begins word (codes "wait.") then option_map Wait (number_of 8 (drop 5 word)) else (
    if begins word (codes "read.") then option_map Read (number_of 16 (drop 5 word)) else (
    if begins word (codes "write.") then option_map Write (number_of 16 (drop 6 word)) else (
    if begins word (codes "disk.") then option_map Disk (number_of 8 (drop 5 word)) else (
    if begins word (codes "keys.") then option_map KeysOf (number_of 8 (drop 5 word)) else (
    if begins word (codes "show.") then option_map ShowOf (number_of 8 (drop 5 word)) else None))))))))))

-- the slot that stands second in most lines
abbrev pub slot_of : List (List ℕ) → Option ℕ
slot_of words = number_of 8 (word_at words 1)

-- the place that stands fourth and fifth in some
abbrev pub place_of : List (List ℕ) → Option Place
place_of words =
    if is_word (word_at words 3) (codes "at") then option_map place.Core (number_of 16 (word_at words 4)) else (
    if is_word (word_at words 3) (codes "swap") then option_map place.Swap (number_of 16 (word_at words 4)) else None)

-- an entry of two values, where both are read, and one of three
abbrev pub of_two : {A B : Type 0} → (A → B → Entry) → Option A → Option B → Option Entry
of_two entry None second = None
of_two entry (Some first) second = option_map (entry first) second

abbrev pub of_three : {A B C : Type 0}
    → (A → B → C → Entry) → Option A → Option B → Option C → Option Entry
of_three entry None second third = None
of_three entry (Some first) second third = of_two (entry first) second third

abbrev pub boot_of : List (List ℕ) → Option Entry
boot_of words = of_two Boot (number_of 16 (word_at words 1)) (number_of 32 (word_at words 2))

abbrev pub tick_of : List ℕ → Option Entry
tick_of mode =
    if is_word mode (codes "u") then Some TickUser else (
    if is_word mode (codes "k") then Some TickKernel else (
    if is_word mode (codes "i") then Some TickIdle else None))

abbrev pub panic_of : List ℕ → Option Entry
panic_of cause =
    if is_word cause (codes "swap") then Some (Panic panic.Swap) else (
    if is_word cause (codes "zombie") then Some (Panic panic.Zombie) else (
    if is_word cause (codes "text") then Some (Panic panic.Text) else None))

abbrev pub sleep_of : List (List ℕ) → Option Entry
sleep_of words = of_three Sleep (slot_of words) (signed_of (word_at words 2)) (channel_of (word_at words 3))

abbrev pub signal_of : List (List ℕ) → Option Entry
signal_of words = of_two Signal (slot_of words) (number_of 8 (word_at words 2))

abbrev pub nice_of : List (List ℕ) → Option Entry
nice_of words = of_two Nice (slot_of words) (signed_of (word_at words 2))

abbrev pub size_of : List (List ℕ) → Option Entry
size_of words =
    if is_word (word_at words 3) (codes "keep") then of_two SizeKeep (slot_of words) (number_of 16 (word_at words 2))
    else of_three Size (slot_of words) (number_of 16 (word_at words 2)) (place_of words)

abbrev pub fork_of : List (List ℕ) → Option Entry
fork_of words = of_three Fork (slot_of words) (number_of 8 (word_at words 2)) (place_of words)

abbrev pub leave_of : List (List ℕ) → Option Entry
leave_of words =
    of_two (λ slot text. Leave slot text (is_word (word_at words 3) (codes "sticky")))
    (slot_of words) (number_of 8 (word_at words 2))

abbrev pub text_of : List (List ℕ) → Option Entry
text_of words =
    option_and_then
    (λ slot. of_three (Text slot) (number_of 8 (word_at words 2))
    (number_of 16 (word_at words 3)) (number_of 16 (word_at words 5)))
    (slot_of words)

abbrev pub share_of : List (List ℕ) → Option Entry
share_of words = of_two Share (slot_of words) (number_of 8 (word_at words 2))

abbrev pub image_of : List (List ℕ) → Option Entry
image_of words = of_three Image (slot_of words) (number_of 16 (word_at words 2)) (place_of words)

abbrev pub in_of : List (List ℕ) → Option Entry
in_of words = of_two SwapIn (slot_of words) (number_of 16 (word_at words 2))

abbrev pub out_of : List (List ℕ) → Option Entry
out_of words = of_two SwapOut (slot_of words) (number_of 16 (word_at words 2))

abbrev pub exit_of : List (List ℕ) → Option Entry
exit_of words = of_two Exit (slot_of words) (number_of 16 (word_at words 3))

-- what the first word says: of images
abbrev pub image_entry : List ℕ → List (List ℕ) → Option Entry
image_entry kind words =
    if is_word kind (codes "drop") then leave_of words else (
    if is_word kind (codes "bare") then option_map Bare (slot_of words) else (
    if is_word kind (codes "text") then text_of words else (
    if is_word kind (codes "share") then share_of words else (
    if is_word kind (codes "image") then image_of words else (
    if is_word kind (codes "in") then in_of words else (
    if is_word kind (codes "out") then out_of words else None))))))

-- of processes
abbrev pub process_entry : List ℕ → List (List ℕ) → Option Entry
process_entry kind words =
    if is_word kind (codes "sleep") then sleep_of words else (
    if is_word kind (codes "wake") then option_map Wake (channel_of (word_at words 1)) else (
    if is_word kind (codes "signal") then signal_of words else (
    if is_word kind (codes "nice") then nice_of words else (
    if is_word kind (codes "size") then size_of words else (
    if is_word kind (codes "fork") then fork_of words else (
    if is_word kind (codes "exit") then exit_of words else (
    if is_word kind (codes "reap") then option_map Reap (slot_of words) else image_entry kind words)))))))

-- and of the system
abbrev pub system_entry : List ℕ → List (List ℕ) → Option Entry
system_entry kind words =
    if is_word kind (codes "boot") then boot_of words else (
    if is_word kind (codes "go") then option_map Go (slot_of words) else (
    if is_word kind (codes "idle") then Some Idle else (
    if is_word kind (codes "trap") then option_map Trap (slot_of words) else (
    if is_word kind (codes "tick") then tick_of (word_at words 1) else (
    if is_word kind (codes "time") then option_map Time (number_of 32 (word_at words 1)) else (
    if is_word kind (codes "panic") then panic_of (word_at words 1) else (
    if is_word kind (codes "end") then Some End else process_entry kind words)))))))

abbrev pub entry_of : List (List ℕ) → Option Entry
entry_of words = system_entry (word_at words 0) words

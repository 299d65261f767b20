-- The arguments of a new program, and the stack with which it begins: exec(II) of the UNIX Programmer's Manual; Lions'
-- Commentary, `exec` in `sys1.c`.
use Rattle.std.specs.Prelude.{ℕ, zero, suc, ◌+◌, ◌-◌, ◌*◌, ◌%◌, ◌==◌, if◌then◌else◌, List, [], ◌∷◌, ◌++◌, length, Option, Some, None, Result, Ok, Err}
use Rattle.std.specs.List.{concat}
use Rattle.v6_base.specs.Image.{Image}
use Rattle.v6_base.specs.Access.{load_byte, load_word, then_do}
use Rattle.v6_base.specs.Sizes.{cut_front}
use Rattle.v6_base.specs.declared.errno.Errno.{Errno}
use Rattle.v6_base.specs.declared.errno.Errno.TheVariants.{E2BIG, EFAULT}
use Rattle.v6_base.specs.declared.space.Trap.{Trap}
use Rattle.fs_codec.specs.Bytes.{bytes_of}
use Rattle.sys_procs.specs.declared.arguments.Reading.{Reading}

-- A byte and a word of the old program's memory: `fubyte` and `fuword` of `m40.s`. What can't be read is EFAULT.
abbrev pub or_fault : Result ℕ Trap → Result ℕ Errno
or_fault (Ok value) = Ok value
or_fault (Err trap) = Err EFAULT

abbrev pub fubyte : Image → ℕ → Result ℕ Errno
fubyte image at = or_fault (load_byte image at)

abbrev pub fuword : Image → ℕ → Result ℕ Errno
fuword image at = or_fault (load_word image at)

-- The next word of the list is the address of an argument, or 0 at the end of the list. An odd address of the list is
-- EFAULT. Addresses wrap round.
abbrev pub next_argument : Image → ℕ → Result (Option Reading) Errno
next_argument image list =
    then_do (fuword image list) (λ at.
    Ok (if at == 0 then None else Some (record { list = (list + 2) % 65536; at = at })))

-- A NUL ends an argument.
abbrev pub next_reading : Image → Reading → ℕ → Result (Option Reading) Errno
next_reading image r byte =
    if byte == 0 then next_argument image r.list else Ok (Some (record r { at = (r.at + 1) % 65536 }))

-- a byte in front of the arguments that follow it: a NUL is one of its own, and another begins the first of them
abbrev pub in_first : ℕ → List (List ℕ) → List (List ℕ)
in_first byte [] = []
in_first byte (first ∷ later) = (byte ∷ first) ∷ later

abbrev pub in_front : ℕ → List (List ℕ) → List (List ℕ)
in_front byte later = if byte == 0 then (0 ∷ []) ∷ later else in_first byte later

-- The arguments from here on, byte by byte, where there is room for so many bytes. The byte after these is E2BIG, unless
-- it can't be read; nothing after it is looked at.
unfoldable pub packed : Image → ℕ → Option Reading → Result (List (List ℕ)) Errno
packed image zero None = Ok []
packed image zero (Some r) = then_do (fubyte image r.at) (λ byte. Err E2BIG)
packed image (suc room) None = Ok []
packed image (suc room) (Some r) =
    then_do (fubyte image r.at) (λ byte.
    then_do (next_reading image r byte) (λ next.
    then_do (packed image room next) (λ later. Ok (in_front byte later))))

-- the most bytes that arguments may have, with their NULs: NCARGS
abbrev pub most_bytes : ℕ
most_bytes = 510

-- The arguments of a list at an address, each with its NUL.
abbrev pub arguments : Image → ℕ → Result (List (List ℕ)) Errno
arguments image list = then_do (next_argument image list) (λ first. packed image most_bytes first)

-- The strings as they stand at the end of memory: nc bytes, made even by a NUL.
abbrev pub made_even : List ℕ → List ℕ
made_even bytes = if length bytes % 2 == 1 then bytes ++ 0 ∷ [] else bytes

abbrev pub strings : List (List ℕ) → List ℕ
strings args = made_even (concat args)

abbrev pub nc : List (List ℕ) → ℕ
nc args = length (strings args)

abbrev pub na : List (List ℕ) → ℕ
na args = length args

-- the addresses of arguments that stand one after another from an address on
abbrev pub addresses : ℕ → List (List ℕ) → List ℕ
addresses at [] = []
addresses at (first ∷ later) = at ∷ addresses (at + length first) later

-- The words before the strings: the number of arguments, their addresses, and -1.
abbrev pub argument_words : List (List ℕ) → List ℕ
argument_words args = na args ∷ addresses (65536 - nc args) args ++ 0o177777 ∷ []

-- SP stands at the first of these words, and the strings end with the memory.
abbrev pub first_sp : List (List ℕ) → ℕ
first_sp args = 65536 - nc args - 2 * na args - 4

abbrev pub argument_bytes : List (List ℕ) → List ℕ
argument_bytes args = bytes_of (argument_words args) ++ strings args

-- the clicks of stack that a program begins with: SSIZE
abbrev pub stack_clicks : ℕ
stack_clicks = 20

-- The new stack: zeros, and these bytes at its end. Words that would lie below its lower end are left out.
unfoldable pub first_stack : List (List ℕ) → List ℕ
first_stack args = cut_front (64 * stack_clicks) (argument_bytes args)

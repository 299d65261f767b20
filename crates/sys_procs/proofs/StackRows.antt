-- Rows of the arguments and of the first stack of a program, worked by hand.
use Rattle.std.proofs.Common.{◌≡◌, ℕ, List, [], ◌∷◌, ◌++◌, refl, replicate, length, slice_index, Some, Ok, Err}
use Rattle.v6_base.specs.Image.{Image, named_by}
use Rattle.v6_base.specs.Access.{load_byte, load_word}
use Rattle.v6_base.specs.Sizes.{cut_front}
use Rattle.v6_base.specs.declared.errno.Errno.TheVariants.{E2BIG, EFAULT}
use Rattle.fs_codec.specs.Bytes.{bytes_of}
use Rattle.sys_procs.specs.Stack.{arguments, argument_bytes, first_sp, first_stack, packed}

-- no argument: 0 and -1
none_sp : first_sp [] ≡ 65532
none_sp = refl

none_bytes : argument_bytes [] ≡ 0 ∷ 0 ∷ 0o377 ∷ 0o377 ∷ []
unfolding bytes_of
none_bytes = refl

-- one argument, `init`: 1, its address 0177772, -1, and its five bytes with a NUL after them
init : List (List ℕ)
init = (0o151 ∷ 0o156 ∷ 0o151 ∷ 0o164 ∷ 0 ∷ []) ∷ []

one_sp : first_sp init ≡ 65524
unfolding init
one_sp = refl

one_bytes : argument_bytes init
    ≡ 1 ∷ 0 ∷ 0o372 ∷ 0o377 ∷ 0o377 ∷ 0o377 ∷ 0o151 ∷ 0o156 ∷ 0o151 ∷ 0o164 ∷ 0 ∷ 0 ∷ []
unfolding init bytes_of
one_bytes = refl

-- two arguments, of two bytes and of three: 2, their addresses 0177772 and 0177774, -1, the strings, and a NUL
two : List (List ℕ)
two = (0o141 ∷ 0 ∷ []) ∷ (0o142 ∷ 0o143 ∷ 0 ∷ []) ∷ []

two_sp : first_sp two ≡ 65522
unfolding two
two_sp = refl

two_bytes : argument_bytes two
    ≡ 2 ∷ 0 ∷ 0o372 ∷ 0o377 ∷ 0o374 ∷ 0o377 ∷ 0o377 ∷ 0o377 ∷ 0o141 ∷ 0 ∷ 0o142 ∷ 0o143 ∷ 0 ∷ 0 ∷ []
unfolding two bytes_of
two_bytes = refl

-- 510 empty arguments: SP is 64002, below the stack, which begins at 64256. There the address of the 127th argument stands,
-- 65152, which is 0177200.
many : List (List ℕ)
many = replicate 510 (0 ∷ [])

many_sp : first_sp many ≡ 64002
unfolding many
many_sp = refl

many_length : length (first_stack many) ≡ 1280
unfolding many first_stack cut_front bytes_of
many_length = refl

many_low : slice_index (first_stack many) 0 ≡ 0o200
unfolding many first_stack cut_front bytes_of
many_low = refl

many_high : slice_index (first_stack many) 1 ≡ 0o376
unfolding many first_stack cut_front bytes_of
many_high = refl

-- A memory of data alone, from address 0 on: the words 6, 0 and 0, and the string `ab`.
memory : Image
memory = record { text = []; «data» = 6 ∷ 0 ∷ 0 ∷ 0 ∷ 0 ∷ 0 ∷ 0o141 ∷ 0o142 ∷ 0 ∷ replicate 55 0; stack = [] }

-- a list of one argument, an empty list, an odd list, and one out of the memory
listed : arguments memory 0 ≡ Ok ((0o141 ∷ 0o142 ∷ 0 ∷ []) ∷ [])
unfolding memory packed load_byte load_word named_by
listed = refl

empty : arguments memory 2 ≡ Ok []
unfolding memory packed load_byte load_word named_by
empty = refl

odd : arguments memory 1 ≡ Err EFAULT
unfolding memory packed load_byte load_word named_by
odd = refl

outside : arguments memory 64 ≡ Err EFAULT
unfolding memory packed load_byte load_word named_by
outside = refl

-- an argument that runs out of the memory, and one more byte than there is room for
full : Image
full = record { text = []; «data» = 4 ∷ 0 ∷ 0 ∷ 0 ∷ replicate 60 0o170; stack = [] }

runs_out : arguments full 0 ≡ Err EFAULT
unfolding full packed load_byte load_word named_by
runs_out = refl

three_fit : packed memory 3 (Some (record { list = 2; at = 6 })) ≡ Ok ((0o141 ∷ 0o142 ∷ 0 ∷ []) ∷ [])
unfolding memory packed load_byte load_word named_by
three_fit = refl

third_too_many : packed memory 2 (Some (record { list = 2; at = 6 })) ≡ Err E2BIG
unfolding memory packed load_byte load_word named_by
third_too_many = refl

-- where the byte too many can't be read, that is what is met
fault_first : packed full 60 (Some (record { list = 2; at = 4 })) ≡ Err EFAULT
unfolding full packed load_byte load_word named_by
fault_first = refl

-- 510 bytes of one argument: three words and the bytes
most : length (argument_bytes ((replicate 509 0o170 ++ 0 ∷ []) ∷ [])) ≡ 516
unfolding bytes_of
most = refl

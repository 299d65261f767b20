-- Numbers as commands and scripts write them, by docs/manual/commands.md and scripts.md.
use Rattle.std.specs.Prelude.{ℕ, Bool, Option, Some, None, List, length, nat_lt, nat_le, ◌&&◌, ◌==◌, if◌then◌else◌}
use Rattle.std.specs.List.{list_all}
use Rattle.std.specs.Char.{is_ascii_digit}
use Rattle.std.specs.Str.Parse.{digits_value}

-- one to nine decimal digits
abbrev pub is_number : List ℕ → Bool
is_number text = nat_lt 0 (length text) && nat_le (length text) 9 && list_all is_ascii_digit text

abbrev pub number_of : List ℕ → Option ℕ
number_of text = if is_number text then Some (digits_value 10 text) else None

abbrev pub is_octal_digit : ℕ → Bool
is_octal_digit byte = nat_le 0o060 byte && nat_le byte 0o067

-- so many octal digits that write a number of at most this
abbrev pub octal_of : ℕ → ℕ → List ℕ → Option ℕ
octal_of count most text =
    if (length text == count) && list_all is_octal_digit text && nat_le (digits_value 8 text) most
    then Some (digits_value 8 text)
    else None

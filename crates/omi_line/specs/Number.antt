-- How a text is a number: decimal digits without a sign, and without a leading 0 but for 0 itself.
use Rattle.std.specs.Prelude.{◌==◌, ◌&&◌, ℕ, Bool, not, List, length, slice_index, Option, Some, None, nat_le, nat_lt, if◌then◌else◌}
use Rattle.std.specs.List.{list_all}
use Rattle.std.specs.Char.{is_ascii_digit}
use Rattle.std.specs.Str.Parse.{digits_value}

-- a 0 (48) stands before more digits
abbrev pub has_leading_zero : List ℕ → Bool
has_leading_zero text = nat_lt 1 (length text) && slice_index text 0 == 48

-- the text is a number in decimal digits
abbrev pub is_decimal_text : List ℕ → Bool
is_decimal_text text = nat_lt 0 (length text)
    && (not (has_leading_zero text) && list_all is_ascii_digit text)

-- the number that a text is, where it lies within least and most
abbrev pub number_between : List ℕ → ℕ → ℕ → Option ℕ
number_between text least most =
    let value = digits_value 10 text in
    if is_decimal_text text && (nat_le least value && nat_le value most) then Some value else None

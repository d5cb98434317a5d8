-- Names of functions: a letter a to z or `_`, then these or digits, at most `MAX_NAME` bytes.
use Rattle.std.specs.Prelude.{ℕ, Bool, true, false, not, ◌&&◌, ◌||◌, nat_le, nat_lt, ◌-◌, ◌++◌, replicate, ◌==◌, List, [], ◌∷◌, length, take, drop, bytes_eq}
use Rattle.std.specs.List.{list_all, list_any}
use Rattle.omi_script.specs.declared.name.Name.{Name}
use Rattle.omi_script.specs.declared.limits.TheConstants.{MAX_NAME}

-- n lies between two numbers, or is one of them
abbrev pub is_within : ℕ → ℕ → ℕ → Bool
is_within least most n = nat_le least n && nat_le n most

-- the byte is a digit
abbrev pub is_digit : ℕ → Bool
is_digit b = is_within 48 57 b

-- the byte may begin a name: a to z, or `_`
abbrev pub begins_name : ℕ → Bool
begins_name b = is_within 97 122 b || b == 95

-- the byte may go on in a name
abbrev pub continues_name : ℕ → Bool
continues_name b = begins_name b || is_digit b

-- the bytes are a name
abbrev pub is_name_text : List ℕ → Bool
is_name_text [] = false
is_name_text (b ∷ bs) = begins_name b && list_all continues_name bs && nat_lt (length bs) MAX_NAME

-- the bytes of a name
abbrev pub text_of : Name → List ℕ
text_of n = take n.len n.bytes

-- a name from its bytes: zeros stand behind them
abbrev pub name_of : List ℕ → Name
name_of word = record { len = length word; bytes = word ++ replicate (MAX_NAME - length word) 0 }

-- the bytes are a name, and those past them are 0
abbrev pub is_name : Name → Bool
is_name n =
    is_name_text (text_of n)
    && nat_le n.len MAX_NAME
    && list_all (λ b. b == 0) (drop n.len n.bytes)
    && length n.bytes == MAX_NAME

-- no two of the names are equal
abbrev pub are_distinct : List (List ℕ) → Bool
are_distinct [] = true
are_distinct (n ∷ ns) = not (list_any (bytes_eq n) ns) && are_distinct ns

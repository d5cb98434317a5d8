-- What the rows of a parse have of an argument, after one more use of it.
use Rattle.std.proofs.Common.{◌≡◌, Bool, true, false, cond, refl, ap, List, [], ◌∷◌, ◌++◌, Option, Some, None, is_some, ◌||◌}
use Rattle.std.specs.Prelude.{find, option_and_then, option_map, slice_get, unwrap_or}
use Rattle.std.specs.Str.{bytes_eq}
use Rattle.std.proofs.lemmas.Slice.Eq.{bytes_eq-Decides}
use Rattle.clap.specs.Walk.{Row, Text, all_of, first_of, has_row, with_values, without}
use Rattle.clap.specs.declared.builder.value_parser.Reading.{Reading}
use Rattle.clap.specs.declared.parser.matches.ValueSource.TheVariants.{CommandLine}
use borrow.Author.Tests.{both_ways}

pub bytes_eq_same : (text : Text) → bytes_eq text text ≡ true
bytes_eq_same text = (bytes_eq-Decides text text).1 refl

-- the same argument has these values more
pub all_of-with_values : (id : Text) (how : Reading) (values : List Text) (rows : List Row)
    → all_of id (with_values id how CommandLine values rows) ≡ Some (unwrap_or (all_of id rows) [] ++ values)
all_of-with_values id how values [] = rw (bytes_eq_same id) refl
all_of-with_values id how values (row ∷ rows) =
    go (bytes_eq row.id id) refl (all_of-with_values id how values rows)
  where
    go : (b : Bool) → bytes_eq row.id id ≡ b
        → all_of id (with_values id how CommandLine values rows) ≡ Some (unwrap_or (all_of id rows) [] ++ values)
        → all_of id (with_values id how CommandLine values (row ∷ rows)) ≡ Some (unwrap_or (all_of id (row ∷ rows)) [] ++ values)
    go true is next = rw (is, is) refl
    go false is next = rw is (rw is next)

-- every other argument has what it had
pub all_of-with_values-other : (id other : Text) (how : Reading) (values : List Text) (rows : List Row)
    → bytes_eq id other ≡ false
    → all_of other (with_values id how CommandLine values rows) ≡ all_of other rows
all_of-with_values-other id other how values [] apart = rw apart refl
all_of-with_values-other id other how values (row ∷ rows) apart =
    go (bytes_eq row.id id) refl (bytes_eq row.id other) refl
    (all_of-with_values-other id other how values rows apart)
  where
    go : (b : Bool) → bytes_eq row.id id ≡ b → (d : Bool) → bytes_eq row.id other ≡ d
        → all_of other (with_values id how CommandLine values rows) ≡ all_of other rows
        → all_of other (with_values id how CommandLine values (row ∷ rows)) ≡ all_of other (row ∷ rows)
    go true is true same next =
        let id_is : row.id ≡ id = (bytes_eq-Decides row.id id).0 is in
        let clash : bytes_eq row.id other ≡ false = rw id_is apart in
        absurd (both_ways (bytes_eq row.id other) clash same)
    go true is false same next = rw (is, same) refl
    go false is true same next = rw (is, same) refl
    go false is false same next = rw (is, same) next

-- an argument with no row isn't changed by dropping its row
pub without-none : (id : Text) (rows : List Row) → has_row id rows ≡ false → without id rows ≡ rows
without-none id [] none = refl
without-none id (row ∷ rows) none = go (bytes_eq row.id id) refl none (without-none id rows)
  where
    go : (b : Bool) → bytes_eq row.id id ≡ b → (b || has_row id rows) ≡ false
        → (has_row id rows ≡ false → without id rows ≡ rows)
        → without id (row ∷ rows) ≡ row ∷ rows
    go true is none next = absurd (both_ways true none refl)
    go false is none next = rw is (ap (λ (rest : List Row). row ∷ rest) (next none))

pub has_row-all_of : (id : Text) (rows : List Row) → has_row id rows ≡ is_some (all_of id rows)
has_row-all_of id [] = refl
has_row-all_of id (row ∷ rows) = go (bytes_eq row.id id) (has_row-all_of id rows)
  where
    go : (b : Bool) → has_row id rows ≡ is_some (all_of id rows)
        → (b || has_row id rows) ≡ is_some (option_map (λ (r : Row). r.values) (cond b (Some row) (find (λ r. bytes_eq r.id id) rows)))
    go true next = refl
    go false next = next

pub first_of-all_of : (id : Text) (rows : List Row)
    → first_of id rows ≡ option_and_then (λ (values : List Text). slice_get values 0) (all_of id rows)
first_of-all_of id rows = go (find (λ r. bytes_eq r.id id) rows)
  where
    go : (found : Option Row) → option_and_then (λ (r : Row). slice_get r.values 0) found
        ≡ option_and_then (λ (values : List Text). slice_get values 0)
        (option_map (λ (r : Row). r.values) found)
    go None = refl
    go (Some row) = refl

-- The fault of a text's end, by the number of `main`.
use Rattle.std.proofs.Common.{◌≡◌, ℕ, zero, suc, ◌<◌, Bool, true, false, not, cond, ◌||◌, List, [], ◌∷◌, ◌++◌, length, get_or, Option, Some, None, refl, ap, ◌∙◌, arith}
use Rattle.std.specs.Prelude.{position, codes, is_some}
use Rattle.std.specs.List.{list_any}
use Rattle.std.specs.Option.{option_map_or, option_to_list}
use Rattle.std.proofs.lemmas.List.Quantifiers.{position-Some}
use Rattle.omi_script.specs.LineFaults.{has_end_fault, least}
use Rattle.omi_script.specs.ParserState.{is_called}
use Rattle.omi_script.specs.declared.fault.Why.{Why}
use Rattle.omi_script.specs.declared.function.Func.{Func}
use Rattle.omi_script.specs.declared.parser.ParserState.{ParserState}
use Rattle.omi_script.specs.declared.fault.Why.TheVariants.{NoMain, Unclosed}
use Rattle.omi_script.proofs.SoundPrograms.{any_nil, main_found}

abbrev is_main : Func → Bool
is_main = is_called (codes "main")

or_true : (a : Bool) → (a || true) ≡ true
or_true true = refl
or_true false = refl

any_at : (p : Func → Bool) (xs : List Func) (i : ℕ) (d : Func) → i < length xs → p (get_or xs i d) ≡ true
    → list_any p xs ≡ true
any_at p [] i d l h = absurd (omega arith)
any_at p (x ∷ xs) zero d l h = ap (λ b. b || list_any p xs) h
any_at p (x ∷ xs) (suc i) d l h = ap (λ b. p x || b) (any_at p xs i d (omega arith) h) ∙ or_true (p x)

no_func : Func
no_func = record { name = record { len = 0; bytes = [] }; body = [] }

-- one has the name where there is a first
called_from_number : (fs : List Func) (o : Option ℕ) → position is_main fs ≡ o
    → list_any is_main fs ≡ is_some o
called_from_number fs (Some m) e =
    let at = position-Some is_main fs m no_func e in any_at is_main fs m no_func at.0 at.1
called_from_number fs None e = by_test (list_any is_main fs) refl
  where
    by_test : (b : Bool) → list_any is_main fs ≡ b → list_any is_main fs ≡ false
    by_test false h = h
    by_test true h =
        let found = main_found fs h in let clash : Some found.0 ≡ None = found.2 ∙ e in absurd (cc clash)

-- the fault of an end, by whether a function has the name and whether one is open
abbrev least_of_end : Bool → Bool → Option Why
least_of_end called opened = cond (not called) (Some NoMain) (cond opened (Some Unclosed) None)

-- where no function is open
pub closed_end : (state : ParserState) (o : Option ℕ) → state.opened ≡ None
    → position (is_called (codes "main")) state.closed ≡ o
    → least (has_end_fault state) ≡ option_map_or (λ m. None) o (Some NoMain)
closed_end state o none at =
    ap (λ f. least_of_end (list_any is_main (state.closed ++ option_to_list f)) (is_some f)) none
    ∙ ap (λ b. least_of_end b false) (any_nil is_main state.closed ∙ called_from_number state.closed o at)
    ∙ by_number o
  where
    by_number : (o : Option ℕ) → least_of_end (is_some o) false ≡ option_map_or (λ m. None) o (Some NoMain)
    by_number None = refl
    by_number (Some m) = refl

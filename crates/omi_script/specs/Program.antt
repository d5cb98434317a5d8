-- The rules of a program, but for the size of its text.
use Rattle.std.specs.Prelude.{ℕ, Bool, false, ◌&&◌, nat_le, List, [], length, map, sum_by, slice_get, bytes_eq, codes}
use Rattle.std.specs.Option.{option_map_or}
use Rattle.std.specs.List.{list_all}
use Rattle.omi_script.specs.Names.{is_within, text_of, is_name, are_distinct}
use Rattle.omi_script.specs.Ranges.{is_env}
use Rattle.omi_script.specs.Reach.{are_allowed}
use Rattle.omi_script.specs.declared.env.Env.{Env}
use Rattle.omi_script.specs.declared.function.Func.{Func}
use Rattle.omi_script.specs.declared.limits.TheConstants.{MAX_THREADS, MAX_FUNCTIONS, MAX_STATEMENTS}

-- not too many functions with not too many statements in all, under distinct names
abbrev pub are_functions : List Func → Bool
are_functions funcs =
    nat_le (length funcs) MAX_FUNCTIONS
    && nat_le (sum_by (λ f. length f.body) funcs) MAX_STATEMENTS
    && list_all (λ f. is_name f.name) funcs
    && are_distinct (map (λ f. text_of f.name) funcs)

-- the function with this number has the name `main`
abbrev pub is_main : List Func → ℕ → Bool
is_main funcs main =
    option_map_or (λ f. bytes_eq (text_of f.name) (codes "main")) (slice_get funcs main) false

-- the rules of a program, but for the size of its text
abbrev pub is_program : ℕ → Env → List Func → ℕ → Bool
is_program threads env funcs main =
    is_within 1 MAX_THREADS threads
    && is_env env
    && are_functions funcs
    && is_main funcs main
    && are_allowed [] (map (λ f. f.body) funcs)

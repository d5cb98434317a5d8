-- Numbers that a word says lie in their ranges.
use Rattle.std.proofs.Common.{◌≡◌, ℕ, Bool, true, false, cond, ltb, ◌&&◌, List, [], ◌∷◌, map, length, Option, Some, None, refl, ap, ◌∙◌, if◌then◌else◌, arith}
use Rattle.std.proofs.lemmas.Bool.{le-leb}
use Rattle.std.proofs.lemmas.Bool.Decides.{nat_tests}
use Rattle.std.specs.List.{list_all, slice_split, before_first, after_first, position_or_len}
use Rattle.std.specs.Option.{option_map_or, option_map, option_and_then}
use Rattle.std.specs.Prelude.{nat_le}
use Rattle.omi_script.specs.LineFaults.{least}
use Rattle.omi_script.specs.Names.{is_within}
use Rattle.omi_script.specs.Numbers.{each_of, is_comma, is_decimal, number_of, numbers_of, sizes_of, value_of}
use Rattle.omi_script.specs.Ranges.{are_sizes, is_device, is_env, is_level_count, is_processor_count, is_schedule, is_size}
use Rattle.omi_script.specs.declared.env.Env.{Env}
use Rattle.omi_script.specs.declared.limits.TheConstants.{MAX_SIZE, MAX_SIZES}
use Rattle.omi_script.proofs.Conjunctions.{and_left, and_right, and_true}
use Rattle.omi_script.proofs.PieceLemmas.{items_step}

-- the value of an option passes a test, if it is there
abbrev pub passes : {A : Type 0} → (A → Bool) → Option A → Bool
passes p o = option_map_or p o true

passes-guard : {A : Type 0} (p : A → Bool) (b : Bool) (x : A)
    → passes p (if b then Some x else None) ≡ cond b (p x) true
passes-guard p true x = refl
passes-guard p false x = refl

within_guard : (p q : Bool) → cond (p && q) q true ≡ true
within_guard true true = refl
within_guard true false = refl
within_guard false true = refl
within_guard false false = refl

-- a number lies in its range
pub number_within : (least most : ℕ) (word : List ℕ)
    → passes (is_within least most) (number_of least most word) ≡ true
number_within least most word =
    passes-guard (is_within least most) (is_decimal word && is_within least most (value_of word))
    (value_of word)
    ∙ within_guard (is_decimal word) (is_within least most (value_of word))

up_to_guard : (p q : Bool) → cond (p && (true && q)) q true ≡ true
up_to_guard true true = refl
up_to_guard true false = refl
up_to_guard false q = refl

-- a number is at most so much
pub number_up_to : (most : ℕ) (word : List ℕ) → passes (λ n. nat_le n most) (number_of 0 most word) ≡ true
number_up_to most word =
    passes-guard (λ n. nat_le n most) (is_decimal word && is_within 0 most (value_of word)) (value_of word)
    ∙ ap
    (λ b. cond (is_decimal word && (b && nat_le (value_of word) most)) (nat_le (value_of word) most) true)
    (le-leb 0 (value_of word) (omega arith))
    ∙ up_to_guard (is_decimal word) (nat_le (value_of word) most)

both_sizes : (n : Option ℕ) (o : Option (List ℕ)) → passes is_size n ≡ true
    → passes (list_all is_size) o ≡ true
    → passes (list_all is_size) (option_and_then (λ m. option_map (λ ms. m ∷ ms) o) n) ≡ true
both_sizes None o h k = refl
both_sizes (Some m) None h k = refl
both_sizes (Some m) (Some ms) h k = ap (λ b. b && list_all is_size ms) h ∙ k

each_sizes : (pieces : List (List ℕ))
    → passes (list_all is_size) (each_of (map (number_of 1 MAX_SIZE) pieces)) ≡ true
each_sizes [] = refl
each_sizes (w ∷ pieces) =
    both_sizes (number_of 1 MAX_SIZE w) (each_of (map (number_of 1 MAX_SIZE) pieces))
    (number_within 1 MAX_SIZE w) (each_sizes pieces)

one_more : (n : Option ℕ) (o : Option (List ℕ))
    → passes (λ ns. nat_le 1 (length ns)) (option_and_then (λ m. option_map (λ ms. m ∷ ms) o) n) ≡ true
one_more None o = refl
one_more (Some m) None = refl
one_more (Some m) (Some ms) = grind (arith, nat_tests)

sizes_guard : (o : Option (List ℕ)) → passes (λ ns. nat_le 1 (length ns)) o ≡ true
    → passes (list_all is_size) o ≡ true
    → passes are_sizes (option_and_then (λ ns. if nat_le (length ns) MAX_SIZES then Some ns else None) o) ≡ true
sizes_guard None h k = refl
sizes_guard (Some ns) h k =
    passes-guard are_sizes (nat_le (length ns) MAX_SIZES) ns
    ∙ guard_three (nat_le 1 (length ns)) (nat_le (length ns) MAX_SIZES) (list_all is_size ns) h k
  where
    guard_three : (a b c : Bool) → a ≡ true → c ≡ true → cond b ((a && b) && c) true ≡ true
    guard_three a true c h k = ap (λ x. (x && true) && c) h ∙ k
    guard_three a false c h k = refl

pub sizes_sound : (word : List ℕ) → passes are_sizes (sizes_of word) ≡ true
sizes_sound word =
    sizes_guard (numbers_of 1 MAX_SIZE word)
    (ap (λ ps. passes (λ ns. nat_le 1 (length ns)) (each_of (map (number_of 1 MAX_SIZE) ps))) (items_step word) ∙ one_more (number_of 1 MAX_SIZE (before_first is_comma word)) (each_of (map (number_of 1 MAX_SIZE) (if ltb (position_or_len is_comma word) (length word) then slice_split is_comma (after_first is_comma word) else []))))
    (each_sizes (slice_split is_comma word))

-- the tests of a head, one by one
pub record EnvTests (e : Env) : Type 0 where
  pub sizes : are_sizes e.nthreads ≡ true
  pub levels : is_level_count e.max_active ≡ true
  pub schedule : is_schedule e.sched ≡ true
  pub device : is_device e.device ≡ true
  pub procs : is_processor_count e.procs ≡ true

pub env_tests : (e : Env) → is_env e ≡ true → EnvTests e
env_tests e h =
    let a : Bool = are_sizes e.nthreads in
    let b : Bool = is_level_count e.max_active in
    let c : Bool = is_schedule e.sched in
    let d : Bool = is_device e.device in
    let four : (a && b && c && d) ≡ true = and_left (a && b && c && d) (is_processor_count e.procs) h in
    let three : (a && b && c) ≡ true = and_left (a && b && c) d four in
    let two : (a && b) ≡ true = and_left (a && b) c three in
    record {
      sizes = and_left a b two;
      levels = and_right a b two;
      schedule = and_right (a && b) c three;
      device = and_right (a && b && c) d four;
      procs = and_right (a && b && c && d) (is_processor_count e.procs) h;
    }

pub is_env-from_tests : (e : Env) → EnvTests e → is_env e ≡ true
is_env-from_tests e t =
    let a : Bool = are_sizes e.nthreads in
    let b : Bool = is_level_count e.max_active in
    let c : Bool = is_schedule e.sched in
    let d : Bool = is_device e.device in
    and_true (a && b && c && d) (is_processor_count e.procs)
    (and_true (a && b && c) d (and_true (a && b) c (and_true a b t.sizes t.levels) t.schedule) t.device) t.procs

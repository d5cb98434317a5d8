-- An accepted text has a program.
use Rattle.std.proofs.Common.{◌≡◌, ◌⊎◌, inl, inr, ℕ, ◌≤◌, ◌+◌, Bool, true, false, cond, ◌&&◌, ◌||◌, List, [], ◌∷◌, ◌++◌, length, map, Option, Some, None, refl, sym, ap, ◌∙◌, arith, unwrap_or}
use Rattle.std.specs.Prelude.{nat_le, nat_lt, is_some, sum_by, find, position, codes}
use Rattle.std.specs.List.{list_all, list_any, position_or_len}
use Rattle.std.specs.Option.{option_map_or, option_to_list}
use Rattle.std.proofs.lemmas.Bool.{lt-ltb, leb-true, le-leb}
use Rattle.std.proofs.lemmas.List.Folds.{find_at}
use Rattle.omi_script.specs.Grammar.{Grammar, IsProgramOf, Refused, env_of, threads_of}
use Rattle.omi_script.specs.LineFaults.{has_end_fault, least}
use Rattle.omi_script.specs.Names.{are_distinct, is_name, is_within, text_of}
use Rattle.omi_script.specs.ParserState.{is_called, statements_above}
use Rattle.omi_script.specs.Program.{are_functions, is_main, is_program}
use Rattle.omi_script.specs.Ranges.{are_sizes, is_device, is_env, is_level_count, is_processor_count, is_schedule}
use Rattle.omi_script.specs.Reach.{are_allowed}
use Rattle.omi_script.specs.Verdict.{Accepts, verdict}
use Rattle.omi_script.specs.declared.fault.ScriptFault.{ScriptFault}
use Rattle.omi_script.specs.declared.fault.Why.{Why}
use Rattle.omi_script.specs.declared.function.Func.{Func}
use Rattle.omi_script.specs.declared.head.Head.{Head}
use Rattle.omi_script.specs.declared.limits.TheConstants.{MAX_FUNCTIONS, MAX_SIZE, MAX_STATEMENTS, MAX_THREADS}
use Rattle.omi_script.specs.declared.parser.ParserState.{ParserState}
use Rattle.omi_script.specs.declared.program.Program.{Program}
use Rattle.omi_script.specs.declared.fault.Why.TheVariants.{NoMain, Unclosed}
use Rattle.omi_script.proofs.Conjunctions.{and_left, and_right, and_true}
use Rattle.omi_script.proofs.RuleLemmas.{main_within}
use Rattle.omi_script.proofs.RangeLemmas.{passes, is_env-from_tests}
use Rattle.omi_script.proofs.LineRanges.{AreInRange}
use Rattle.omi_script.proofs.StateLemmas.{step}
use Rattle.omi_script.proofs.SoundStates.{IsSoundState}
use Rattle.omi_script.proofs.SoundLines.{yes}
use Rattle.omi_script.proofs.SoundVerdicts.{accepted_sound}
use Rattle.omi_script.proofs.VerdictLemmas.{state_or_refused}

-- a value or its default passes
defaulted : {A : Type 0} (p : A → Bool) (o : Option A) (d : A) → passes p o ≡ true → p d ≡ true
    → p (unwrap_or o d) ≡ true
defaulted p None d h k = k
defaulted p (Some x) d h k = h

threads_sound : (h : Head) → AreInRange h → is_within 1 MAX_THREADS (threads_of h) ≡ true
threads_sound h r = defaulted (is_within 1 MAX_THREADS) h.threads 1 r.threads refl

one_size : (t : ℕ) → is_within 1 MAX_THREADS t ≡ true → are_sizes (t ∷ []) ≡ true
one_size t e =
    let most : t ≤ MAX_THREADS = leb-true t MAX_THREADS (and_right (nat_le 1 t) (nat_le t MAX_THREADS) e) in
    and_true (is_within 1 MAX_SIZE t) true
    (and_true (nat_le 1 t) (nat_le t MAX_SIZE) (and_left (nat_le 1 t) (nat_le t MAX_THREADS) e) (le-leb t MAX_SIZE (omega arith))) refl

env_sound : (h : Head) → AreInRange h → is_env (env_of h) ≡ true
env_sound h r = is_env-from_tests (env_of h) (record {
  sizes = defaulted are_sizes h.nthreads (threads_of h ∷ []) r.sizes (one_size (threads_of h) (threads_sound h r));
  levels = defaulted is_level_count h.max_active 8 r.levels refl;
  schedule = defaulted is_schedule h.sched (record { kind = 1; chunk = 0 }) r.schedule refl;
  device = defaulted is_device h.device 0 r.device refl;
  procs = defaulted is_processor_count h.procs 4 r.procs refl;
})

-- where one passes, the first that is found does
found_first : (p : Func → Bool) (xs : List Func) → list_any p xs ≡ true
    → option_map_or p (find p xs) false ≡ true
found_first p [] h = h
found_first p (x ∷ xs) h = by_test (found_first p xs) (p x) refl
  where
    by_test : (list_any p xs ≡ true → option_map_or p (find p xs) false ≡ true) → (b : Bool) → p x ≡ b
        → option_map_or p (cond (p x) (Some x) (find p xs)) false ≡ true
    by_test rest true e = ap (λ b. option_map_or p (cond b (Some x) (find p xs)) false) e ∙ e
    by_test rest false e =
        ap (λ b. option_map_or p (cond b (Some x) (find p xs)) false) e
        ∙ rest (sym (ap (λ b. b || list_any p xs) e) ∙ h)

pub any_nil : (p : Func → Bool) (xs : List Func) → list_any p (xs ++ []) ≡ list_any p xs
any_nil p [] = refl
any_nil p (x ∷ xs) = ap (λ b. p x || b) (any_nil p xs)

closed_none : (o : Option Func) → is_some o ≡ false → o ≡ None
closed_none None h = refl
closed_none (Some f) h = absurd (cc)

-- the number of `main`
pub main_found : (fs : List Func) → list_any (is_called (codes "main")) fs ≡ true
    → (m : ℕ) × (is_main fs m ≡ true) × (Some m ≡ position (is_called (codes "main")) fs)
main_found fs h =
    let p : Func → Bool = is_called (codes "main") in
    let m : ℕ = position_or_len p fs in
    let main : is_main fs m ≡ true =
    sym (ap (λ o. option_map_or p o false) (find_at p fs)) ∙ found_first p fs h in
    let within : nat_lt m (length fs) ≡ true = lt-ltb m (length fs) (main_within fs m main) in
    (m, main, sym (ap (λ b. cond b (Some m) None) within))

-- what an end without a fault says: no function is open, and one is called `main`
end_facts : (state : ParserState) → least (has_end_fault state) ≡ None
    → (state.opened ≡ None) × (list_any (is_called (codes "main")) state.closed ≡ true)
end_facts state e =
    let has : Why → Bool = has_end_fault state in
    let to9 : find has (NoMain ∷ Unclosed ∷ []) ≡ None = e in
    let f9 = step has NoMain (Unclosed ∷ []) to9 in
    let f10 = step has Unclosed [] f9.1 in
    let none : state.opened ≡ None = closed_none state.opened f10.0 in
    let some : list_any (is_called (codes "main")) state.closed ≡ true =
    sym (any_nil (is_called (codes "main")) state.closed)
    ∙ sym (ap (λ o. list_any (is_called (codes "main")) (state.closed ++ option_to_list o)) none)
    ∙ yes (list_any (is_called (codes "main")) (state.closed ++ option_to_list state.opened)) f9.0 in
    (none, some)

-- the program of a state that keeps the rules does too
pub rules_of : (state : ParserState) → IsSoundState state → least (has_end_fault state) ≡ None → (main : ℕ)
    → Some main ≡ position (is_called (codes "main")) state.closed
    → is_program (threads_of state.head) (env_of state.head) state.closed main ≡ true
rules_of state s e main at =
    let end = end_facts state e in
    let none : state.opened ≡ None = end.0 in
    let found = main_found state.closed end.1 in
    let same : main ≡ found.0 = let both : Some main ≡ Some found.0 = at ∙ sym found.2 in cc both in
    let is_called_main : is_main state.closed main ≡ true = ap (is_main state.closed) same ∙ found.1 in
    let total : statements_above state ≡ sum_by (λ (g : Func). length g.body) state.closed + 0 =
    ap
    (λ o. sum_by (λ (g : Func). length g.body) state.closed + option_map_or (λ (g : Func). length g.body) o 0) none in
    let few : nat_le (length state.closed) MAX_FUNCTIONS ≡ true =
    le-leb (length state.closed) MAX_FUNCTIONS s.count in
    let small : sum_by (λ (g : Func). length g.body) state.closed ≤ MAX_STATEMENTS =
    omega (arith, total, s.statements) in
    let limit : nat_le (sum_by (λ (g : Func). length g.body) state.closed) MAX_STATEMENTS ≡ true =
    le-leb (sum_by (λ (g : Func). length g.body) state.closed) MAX_STATEMENTS small in
    let functions : are_functions state.closed ≡ true =
    and_true
    (nat_le (length state.closed) MAX_FUNCTIONS && nat_le (sum_by (λ (g : Func). length g.body) state.closed) MAX_STATEMENTS && list_all (λ (g : Func). is_name g.name) state.closed)
    (are_distinct (map (λ (g : Func). text_of g.name) state.closed))
    (and_true (nat_le (length state.closed) MAX_FUNCTIONS && nat_le (sum_by (λ (g : Func). length g.body) state.closed) MAX_STATEMENTS) (list_all (λ (g : Func). is_name g.name) state.closed)
    (and_true (nat_le (length state.closed) MAX_FUNCTIONS) (nat_le (sum_by (λ (g : Func). length g.body) state.closed) MAX_STATEMENTS) few limit) s.names) s.distinct in
    let t : Bool = is_within 1 MAX_THREADS (threads_of state.head) in
    let v : Bool = is_env (env_of state.head) in
    and_true (t && v && are_functions state.closed && is_main state.closed main)
    (are_allowed [] (map (λ (g : Func). g.body) state.closed))
    (and_true (t && v && are_functions state.closed) (is_main state.closed main)
    (and_true (t && v) (are_functions state.closed) (and_true t v (threads_sound state.head s.head) (env_sound state.head s.head)) functions) is_called_main) s.allowed

-- the program of a state that keeps the rules
program_of : (state : ParserState) → IsSoundState state → least (has_end_fault state) ≡ None
    → (p : Program) × IsProgramOf state p
program_of state s e =
    let main = main_found state.closed (end_facts state e).1 in
    (record { threads = threads_of state.head; env = env_of state.head; funcs = state.closed; main = main.0; accepted = rules_of state s e main.0 main.2 }, record { threads = refl; env = refl; funcs = refl; main = main.2 })

-- each text is a program or has a fault
pub workload_or_refused : (bytes : List ℕ)
    → ((p : Program) × Grammar bytes p) ⊎ ((fault : ScriptFault) × Refused bytes fault)
workload_or_refused bytes = by_state (state_or_refused bytes)
  where
    by_state : ((state : ParserState) × (verdict bytes ≡ Accepts state)) ⊎ ((fault : ScriptFault) × Refused bytes fault)
        → ((p : Program) × Grammar bytes p) ⊎ ((fault : ScriptFault) × Refused bytes fault)
    by_state (inl (state, says)) =
        let sound = accepted_sound bytes state says in
        let made = program_of state sound.0 sound.1 in
        inl (made.0, record { state = state; says = says; program = made.1 })
    by_state (inr refused) = inr refused

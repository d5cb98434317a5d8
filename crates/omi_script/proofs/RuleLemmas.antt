-- The plain facts of a program, from the test that its type keeps.
use Rattle.std.proofs.Common.{◌≡◌, ℕ, ◌<◌, ◌≤◌, ◌-◌, zero, suc, Bool, true, false, ◌&&◌, List, [], length, drop, map, replicate, Option, Some, None, refl, sym, ap, ◌∙◌, subst, ⊎_elim, arith, get_or, take}
use Rattle.std.proofs.lemmas.Bool.{cases_lt, leb-true, ltb-true, eqb-true}
use Rattle.std.proofs.lemmas.List.{length-drop}
use Rattle.std.proofs.lemmas.Option.{slice_get_past, slice_get_within, get_or_from_slice_get, slice_get-get_or}
use Rattle.std.proofs.lemmas.List.Sums.{AllPass-from_list_all}
use Rattle.std.proofs.lemmas.Slice.Eq.{bytes_eq-Decides}
use Rattle.std.specs.Prelude.{nat_le, nat_lt, slice_get, slice_index, sum_by, bytes_eq, codes, not}
use Rattle.std.specs.List.{list_all, position_or_len}
use Rattle.std.specs.Option.{option_map_or}
use Rattle.omi_script.specs.Bodies.{HasStatement, name_at, named_by}
use Rattle.omi_script.specs.LineFaults.{least}
use Rattle.omi_numbers.specs.declared.limits.TheConstants.{OPEN_GROUPS}
use Rattle.omi_script.specs.Names.{are_distinct, is_name, is_name_text, is_within, text_of}
use Rattle.omi_script.specs.ParserState.{is_called}
use Rattle.omi_script.specs.Program.{are_functions, is_main}
use Rattle.omi_script.specs.Ranges.{is_env, is_in_range, is_schedule, is_size}
use Rattle.omi_script.specs.Reach.{Reach, are_allowed, is_above, is_allowed, names_rightly, reach_at, reach_in, reaches}
use Rattle.omi_script.specs.Rules.{IsInRange, IsName, IsSchedule, IsSize, Rules}
use Rattle.omi_script.specs.declared.function.Func.{Func}
use Rattle.omi_script.specs.declared.limits.TheConstants.{MAX_CHUNK, MAX_DEPTH, MAX_DEVICE, MAX_FUNCTIONS, MAX_LEVELS, MAX_LOCK, MAX_MEMBER, MAX_NAME, MAX_PROCS, MAX_REPEATS, MAX_SIZE, MAX_SIZES, MAX_STATEMENTS, MAX_THREADS}
use Rattle.omi_script.specs.declared.name.Name.{Name}
use Rattle.omi_script.specs.declared.program.Program.{Program}
use Rattle.omi_script.specs.declared.statement.Sched.{Sched}
use Rattle.omi_script.specs.declared.statement.Stmt.{Stmt}
use Rattle.omi_script.specs.declared.statement.Stmt.TheVariants.{Parallel, Task, Critical, Only, Repeat, Taskgroup, SetNumThreads, SetMaxActive, SetSchedule, SetDevice, Tool}
use Rattle.omi_script.proofs.Conjunctions.{and_left, and_right, not_so}
use Rattle.omi_script.proofs.RangeLemmas.{EnvTests, env_tests}
use Rattle.omi_script.proofs.NamingLemmas.{IsBelow, named_above}
use Rattle.omi_script.proofs.CanonicalNames.{NameTests, name_tests, zeros_are, place_by_name}
use Rattle.omi_script.proofs.KnownLemmas.{reach_first, allowed_at, same_reach, length_first}

-- the tests of a program, one by one
pub record Tests (p : Program) : Type 0 where
  pub threads : is_within 1 MAX_THREADS p.threads ≡ true
  pub env : is_env p.env ≡ true
  pub few : nat_le (length p.funcs) MAX_FUNCTIONS ≡ true
  pub short : nat_le (sum_by (λ f. length f.body) p.funcs) MAX_STATEMENTS ≡ true
  pub names : list_all (λ f. is_name f.name) p.funcs ≡ true
  pub distinct : are_distinct (map (λ f. text_of f.name) p.funcs) ≡ true
  pub main : is_main p.funcs p.main ≡ true
  pub allowed : are_allowed [] (map (λ f. f.body) p.funcs) ≡ true

pub tests_of : (p : Program) → Tests p
tests_of p =
    let threads : Bool = is_within 1 MAX_THREADS p.threads in
    let env : Bool = is_env p.env in
    let functions : Bool = are_functions p.funcs in
    let main : Bool = is_main p.funcs p.main in
    let allowed : Bool = are_allowed [] (map (λ f. f.body) p.funcs) in
    let to_main : (threads && env && functions && main) ≡ true =
    and_left (threads && env && functions && main) allowed p.accepted in
    let to_functions : (threads && env && functions) ≡ true =
    and_left (threads && env && functions) main to_main in
    let to_env : (threads && env) ≡ true = and_left (threads && env) functions to_functions in
    let of_functions : functions ≡ true = and_right (threads && env) functions to_functions in
    let few : Bool = nat_le (length p.funcs) MAX_FUNCTIONS in
    let short : Bool = nat_le (sum_by (λ f. length f.body) p.funcs) MAX_STATEMENTS in
    let names : Bool = list_all (λ f. is_name f.name) p.funcs in
    let distinct : Bool = are_distinct (map (λ f. text_of f.name) p.funcs) in
    let to_names : (few && short && names) ≡ true = and_left (few && short && names) distinct of_functions in
    let to_short : (few && short) ≡ true = and_left (few && short) names to_names in
    record {
      threads = and_left threads env to_env;
      env = and_right threads env to_env;
      few = and_left few short to_short;
      short = and_right few short to_short;
      names = and_right (few && short) names to_names;
      distinct = and_right (few && short && names) distinct of_functions;
      main = and_right (threads && env && functions) main to_main;
      allowed = and_right (threads && env && functions && main) allowed p.accepted;
    }

within : (least most n : ℕ) → is_within least most n ≡ true → (least ≤ n) × (n ≤ most)
within least most n h =
    (leb-true least n (and_left (nat_le least n) (nat_le n most) h), leb-true n most (and_right (nat_le least n) (nat_le n most) h))

size_at : (ns : List ℕ) → list_all is_size ns ≡ true → (k : ℕ) → k < length ns → IsSize (slice_index ns k)
size_at ns h k l = within 1 MAX_SIZE (slice_index ns k) (AllPass-from_list_all is_size ns h k 0 l)

IsSchedule-from_test : (s : Sched) → is_schedule s ≡ true → IsSchedule s
IsSchedule-from_test s h =
    let kind = within 1 4 s.kind (and_left (is_within 1 4 s.kind) (nat_le s.chunk MAX_CHUNK) h) in
    (kind.0, kind.1, leb-true s.chunk MAX_CHUNK (and_right (is_within 1 4 s.kind) (nat_le s.chunk MAX_CHUNK) h))

IsInRange-from_test : (s : Stmt) → is_in_range s ≡ true → IsInRange s
IsInRange-from_test (Parallel f (Some n)) h = within 1 MAX_SIZE n h
IsInRange-from_test (Critical k f) h = leb-true k MAX_LOCK h
IsInRange-from_test (Only m f) h = leb-true m MAX_MEMBER h
IsInRange-from_test (Repeat n f) h = leb-true n MAX_REPEATS h
IsInRange-from_test (SetNumThreads n) h = within 1 MAX_SIZE n h
IsInRange-from_test (SetMaxActive n) h = leb-true n MAX_LEVELS h
IsInRange-from_test (SetSchedule s) h = IsSchedule-from_test s h
IsInRange-from_test (SetDevice n) h = leb-true n MAX_DEVICE h
IsInRange-from_test (Tool x) h = leb-true x 18446744073709551615 h
IsInRange-from_test s h = tt

some_byte : (n : ℕ) (bytes : List ℕ) → is_name_text (take n bytes) ≡ true → 1 ≤ n
some_byte zero bytes h = absurd (cc)
some_byte (suc n) bytes h = omega arith

IsName-from_test : (n : Name) → is_name n ≡ true → IsName n
IsName-from_test n h =
    let tests : NameTests n = name_tests n h in
    let width : length n.bytes ≡ MAX_NAME = eqb-true (length n.bytes) MAX_NAME tests.width in
    let left : length (drop n.len n.bytes) ≡ MAX_NAME - n.len = omega (arith, length-drop n.len n.bytes) in
    record {
      form = tests.text;
      size = (some_byte n.len n.bytes tests.text, leb-true n.len MAX_NAME tests.size);
      width = width;
      zeros = zeros_are (drop n.len n.bytes) tests.zeros ∙ ap (λ k. replicate k 0) left;
    }

pub main_within : (funcs : List Func) (main : ℕ) → is_main funcs main ≡ true → main < length funcs
main_within funcs main h =
    ⊎_elim
    (λ l. l)
    (λ l. let e = ap (λ o. option_map_or (λ f. bytes_eq (text_of f.name) (codes "main")) o false) (slice_get_past funcs main l) in absurd (cc (e, h)))
    (cases_lt main (length funcs))

-- the function with the number of `main`
pub main_at : (fs : List Func) (m : ℕ) → is_main fs m ≡ true
    → (f : Func) × (slice_get fs m ≡ Some f) × (text_of f.name ≡ codes "main")
main_at fs m h = by_get (slice_get fs m) refl
  where
    by_get : (o : Option Func) → slice_get fs m ≡ o
        → (f : Func) × (slice_get fs m ≡ Some f) × (text_of f.name ≡ codes "main")
    by_get None e =
        let no : false ≡ true = sym (ap (λ o. option_map_or (λ (f : Func). bytes_eq (text_of f.name) (codes "main")) o false) e) ∙ h in absurd (cc no)
    by_get (Some f) e =
        (f, e, (bytes_eq-Decides (text_of f.name) (codes "main")).0 (sym (ap (λ o. option_map_or (λ (g : Func). bytes_eq (text_of g.name) (codes "main")) o false) e) ∙ h))

-- an element of a list that passes as a whole
passes_at : {A : Type 0} (test : A → Bool) (xs : List A) (k : ℕ) (x : A) → list_all test xs ≡ true
    → slice_get xs k ≡ Some x → test x ≡ true
passes_at test xs k x h e =
    sym (ap test (get_or_from_slice_get xs k x x e))
    ∙ AllPass-from_list_all test xs h k x (slice_get_within xs k x e)

no_func : Func
no_func = record { name = record { len = 0; bytes = [] }; body = [] }

-- the functions with a number have its name
name_of_get : (fs : List Func) (f : ℕ) (g : Func) → slice_get fs f ≡ Some g → name_at fs f ≡ text_of g.name
name_of_get fs f g e = ap (λ o. option_map_or (λ (h : Func). text_of h.name) o []) e

-- functions of one name are one
same_number : (fs : List Func) (f g : ℕ) → are_distinct (map (λ (h : Func). text_of h.name) fs) ≡ true
    → f < length fs → g < length fs → name_at fs f ≡ name_at fs g → f ≡ g
same_number fs f g distinct l m same =
    let x : Func = get_or fs f no_func in
    let y : Func = get_or fs g no_func in
    let at_f : slice_get fs f ≡ Some x = slice_get-get_or fs f no_func l in
    let at_g : slice_get fs g ≡ Some y = slice_get-get_or fs g no_func m in
    let names : text_of x.name ≡ text_of y.name =
    sym (name_of_get fs f x at_f) ∙ same ∙ name_of_get fs g y at_g in
    sym (place_by_name fs f x distinct at_f)
    ∙ ap (λ w. position_or_len (is_called w) fs) names
    ∙ place_by_name fs g y distinct at_g

-- a statement of a function, and the function
pub statement_in : (fs : List Func) (f : ℕ) (s : Stmt) → HasStatement fs f s
    → (g : Func) × (slice_get fs f ≡ Some g) × ((k : ℕ) × (slice_get g.body k ≡ Some s))
statement_in fs f s (k, e) = by_get (slice_get fs f) refl
  where
    by_get : (o : Option Func) → slice_get fs f ≡ o
        → (g : Func) × (slice_get fs f ≡ Some g) × ((k : ℕ) × (slice_get g.body k ≡ Some s))
    by_get (Some g) is =
        (g, is, (k, sym (ap (λ o. slice_get (option_map_or (λ (h : Func). h.body) o []) k) is) ∙ e))
    by_get None is =
        let no : None ≡ Some s = sym (ap (λ o. slice_get (option_map_or (λ (h : Func). h.body) o []) k) is) ∙ e in absurd (cc no)

-- a statement may stand after the functions above its own
allowed_in : (fs : List Func) (f : ℕ) (s : Stmt) → are_allowed [] (map (λ (g : Func). g.body) fs) ≡ true
    → HasStatement fs f s → (f < length fs) × (is_allowed (reaches [] (take f fs)) s ≡ true)
allowed_in fs f s h has =
    let at = statement_in fs f s has in
    (slice_get_within fs f at.0 at.1, passes_at (is_allowed (reaches [] (take f fs))) (at.0).body at.2.0 s (allowed_at [] fs f at.0 at.1 h) at.2.1)

-- and names what it may there
rightly_in : (fs : List Func) (f : ℕ) (s : Stmt) → are_allowed [] (map (λ (g : Func). g.body) fs) ≡ true
    → HasStatement fs f s → names_rightly (reaches [] (take f fs)) s ≡ true
rightly_in fs f s h has =
    and_right (is_in_range s) (names_rightly (reaches [] (take f fs)) s) (allowed_in fs f s h has).1

-- a function that it names stands above its own, and reaches what it reaches among all
above_in : (fs : List Func) (f g : ℕ) (s : Stmt) → are_allowed [] (map (λ (h : Func). h.body) fs) ≡ true
    → HasStatement fs f s → named_by s ≡ Some g
    → (g < f) × (reach_in fs g ≡ reach_at (reaches [] (take f fs)) g)
above_in fs f g s h has names =
    let l : f < length fs = (allowed_in fs f s h has).0 in
    let first : length (reaches [] (take f fs)) ≡ f = length_first fs f (omega arith) in
    let Below : Option ℕ → Type 0 = λ o. IsBelow (length (reaches [] (take f fs))) o in
    let below : g < length (reaches [] (take f fs)) =
    subst Below names (named_above (reaches [] (take f fs)) s (rightly_in fs f s h has)) in
    let less : g < f = omega arith in
    (less, reach_first [] fs f g (omega arith) (omega arith))

-- no barrier is reached through such a statement
no_barrier_in : (fs : List Func) (f g : ℕ) (s : Stmt) → are_allowed [] (map (λ (h : Func). h.body) fs) ≡ true
    → HasStatement fs f s → named_by s ≡ Some g
    → (is_above (reaches [] (take f fs)) g && not (reach_at (reaches [] (take f fs)) g).barrier) ≡ true → (reach_in fs g).barrier ≡ false
no_barrier_in fs f g s h has names test =
    let above : List Reach = reaches [] (take f fs) in
    ap (λ (r : Reach). r.barrier) (above_in fs f g s h has names).1
    ∙ not_so (reach_at above g).barrier (and_right (is_above above g) (not (reach_at above g).barrier) test)

not_too_deep_in : (fs : List Func) (f g : ℕ) (num : Option ℕ)
    → are_allowed [] (map (λ (h : Func). h.body) fs) ≡ true → HasStatement fs f (Parallel g num)
    → (reach_in fs g).depth < MAX_DEPTH
not_too_deep_in fs f g num h has =
    let above : List Reach = reaches [] (take f fs) in
    let same : (reach_in fs g).depth ≡ (reach_at above g).depth =
    ap (λ (r : Reach). r.depth) (above_in fs f g (Parallel g num) h has refl).1 in
    let less : (reach_at above g).depth < MAX_DEPTH =
    ltb-true (reach_at above g).depth MAX_DEPTH
    (and_right (is_above above g) (nat_lt (reach_at above g).depth MAX_DEPTH) (rightly_in fs f (Parallel g num) h has)) in
    omega arith

no_barrier_in_group_of : (fs : List Func) (f g : ℕ) → are_allowed [] (map (λ (h : Func). h.body) fs) ≡ true
    → HasStatement fs f (Taskgroup g) → (reach_in fs g).barrier ≡ false
no_barrier_in_group_of fs f g h has =
    let above : List Reach = reaches [] (take f fs) in
    no_barrier_in fs f g (Taskgroup g) h has refl
    (and_left (is_above above g && not (reach_at above g).barrier) (nat_lt (reach_at above g).groups OPEN_GROUPS) (rightly_in fs f (Taskgroup g) h has))

group_not_too_deep_in : (fs : List Func) (f g : ℕ) → are_allowed [] (map (λ (h : Func). h.body) fs) ≡ true
    → HasStatement fs f (Taskgroup g) → (reach_in fs g).groups < OPEN_GROUPS
group_not_too_deep_in fs f g h has =
    let above : List Reach = reaches [] (take f fs) in
    let same : (reach_in fs g).groups ≡ (reach_at above g).groups =
    ap (λ (r : Reach). r.groups) (above_in fs f g (Taskgroup g) h has refl).1 in
    let less : (reach_at above g).groups < OPEN_GROUPS =
    ltb-true (reach_at above g).groups OPEN_GROUPS
    (and_right (is_above above g && not (reach_at above g).barrier) (nat_lt (reach_at above g).groups OPEN_GROUPS) (rightly_in fs f (Taskgroup g) h has)) in
    omega arith

-- each program meets the rules
pub Rules-from_accepted : (p : Program) → Rules p
Rules-from_accepted p =
    let tests : Tests p = tests_of p in
    let env : EnvTests p.env = env_tests p.env tests.env in
    record {
      threads = within 1 MAX_THREADS p.threads tests.threads;
      count = within 1 MAX_SIZES (length p.env.nthreads) (and_left (is_within 1 MAX_SIZES (length p.env.nthreads)) (list_all is_size p.env.nthreads) env.sizes);
      sizes = size_at p.env.nthreads (and_right (is_within 1 MAX_SIZES (length p.env.nthreads)) (list_all is_size p.env.nthreads) env.sizes);
      max_active = leb-true p.env.max_active MAX_LEVELS env.levels;
      schedule = IsSchedule-from_test p.env.sched env.schedule;
      device = leb-true p.env.device MAX_DEVICE env.device;
      procs = within 1 MAX_PROCS p.env.procs env.procs;
      functions = leb-true (length p.funcs) MAX_FUNCTIONS tests.few;
      statements = leb-true (sum_by (λ f. length f.body) p.funcs) MAX_STATEMENTS tests.short;
      names = λ f g e. IsName-from_test g.name (passes_at (λ (h : Func). is_name h.name) p.funcs f g tests.names e);
      distinct = λ f g l m e. same_number p.funcs f g tests.distinct l m e;
      main = main_within p.funcs p.main tests.main;
      called = let f = main_at p.funcs p.main tests.main in name_of_get p.funcs p.main f.0 f.1 ∙ f.2;
      ranges = λ f s has. IsInRange-from_test s (and_left (is_in_range s) (names_rightly (reaches [] (take f p.funcs)) s) (allowed_in p.funcs f s tests.allowed has).1);
      above = λ f g s has names. (above_in p.funcs f g s tests.allowed has names).0;
      reach = λ f l. same_reach p.funcs f l tests.allowed;
      no_barrier_in_task = λ f g undeferred is_final has. no_barrier_in p.funcs f g (Task g undeferred is_final) tests.allowed has refl (rightly_in p.funcs f (Task g undeferred is_final) tests.allowed has);
      no_barrier_in_only = λ f m g has. no_barrier_in p.funcs f g (Only m g) tests.allowed has refl (rightly_in p.funcs f (Only m g) tests.allowed has);
      no_barrier_in_critical = λ f k g has. no_barrier_in p.funcs f g (Critical k g) tests.allowed has refl (rightly_in p.funcs f (Critical k g) tests.allowed has);
      no_barrier_in_group = λ f g has. no_barrier_in_group_of p.funcs f g tests.allowed has;
      depth = λ f g num has. not_too_deep_in p.funcs f g num tests.allowed has;
      group_depth = λ f g has. group_not_too_deep_in p.funcs f g tests.allowed has;
    }

-- The eight head lines.
use Rattle.std.proofs.Common.{◌≡◌, ℕ, ◌<◌, ◌^◌, Bool, true, false, not, List, [], ◌∷◌, map, Option, Some, None, refl, ap, ◌∙◌, arith, if◌then◌else◌}
use Rattle.std.specs.Prelude.{nat_le, codes}
use Rattle.std.specs.Fmt.{decimal}
use Rattle.std.specs.List.{list_all}
use Rattle.std.specs.Option.{option_map}
use Rattle.omi_script.specs.Canonical.{debug_word, env_words, head_words, kind_text, list_text, schedule_text, truth_word}
use Rattle.omi_script.specs.HeadLines.{has_number, head_after, kind_and_chunk, stands_above}
use Rattle.omi_script.specs.Line.{line_of}
use Rattle.omi_script.specs.Names.{is_within}
use Rattle.omi_script.specs.Numbers.{number_of, sizes_of}
use Rattle.omi_script.specs.ParserState.{first_state, no_head}
use Rattle.omi_script.specs.Ranges.{are_sizes, is_device, is_env, is_level_count, is_processor_count, is_schedule}
use Rattle.omi_numbers.specs.Schedules.{schedule_kind_of}
use Rattle.omi_script.specs.declared.env.Env.{Env}
use Rattle.omi_script.specs.declared.head.Head.{Head}
use Rattle.omi_script.specs.declared.limits.TheConstants.{MAX_CHUNK, MAX_DEVICE, MAX_LEVELS, MAX_PROCS, MAX_THREADS}
use Rattle.omi_script.specs.declared.line.HeadLine.{HeadLine}
use Rattle.omi_script.specs.declared.parser.ParserState.{ParserState}
use Rattle.omi_script.specs.declared.statement.Sched.{Sched}
use Rattle.omi_script.specs.declared.line.SourceLine.TheVariants as line
use Rattle.omi_script.specs.declared.line.HeadLine.TheVariants.{Threads, NumThreads, Dynamic, MaxActive, Schedule, Device, Debug, Procs}
use Rattle.omi_script.proofs.Conjunctions.{and_right}
use Rattle.omi_script.proofs.RangeLemmas.{EnvTests, env_tests}
use Rattle.omi_script.proofs.CanonicalLines.{is_plain, plain_not_empty, joined, line_of_words}
use Rattle.omi_script.proofs.CanonicalNumbers.{below_word, plain-decimal, number_of-decimal, sizes_of-list_text, no_gap-list_text, plain-list_text, kind_of-kind_text, pieces-schedule, plain-schedule_text, kind_within, chunk_within, chunk_small, number_up_to-decimal}
use Rattle.omi_script.proofs.CanonicalWords.{one_word}
use Rattle.omi_script.proofs.CanonicalSteps.{LineLeads, LinesLead, line_leads, leads_on}
use Rattle.omi_script.proofs.CanonicalStatements.{between}

-- what all eight head lines say
abbrev pub head_of : ℕ → Env → Head
head_of threads e = record { threads = Some threads; nthreads = Some e.nthreads; dynamic = Some e.dynamic; max_active = Some e.max_active; sched = Some e.sched; device = Some e.device; debug = Some e.debug; procs = Some e.procs }

-- a head line that is new leads after what it sets
head_line_leads : (head : Head) (ws : List (List ℕ)) (l : HeadLine) → list_all is_plain ws ≡ true
    → line_of ws ≡ Some (line.Head l) → has_number l ≡ true → stands_above head l ≡ false
    → LineLeads (between head []) (joined ws) (between (head_after head l) [])
head_line_leads head ws l plain says number new =
    line_leads (between head []) ws (joined ws) (line.Head l) (line_of_words ws plain) says
    (record { stands = refl; number = ap not number; name = refl; new = new; no_task = refl; no_nest = refl; limit = refl })

-- the line `threads N`
says_threads : (n : ℕ) → n < 2 ^ 64 → is_within 1 MAX_THREADS n ≡ true
    → line_of (codes "threads" ∷ decimal n ∷ []) ≡ Some (line.Head (Threads (Some n)))
says_threads n l h = ap (λ o. Some (line.Head (Threads o))) (number_of-decimal 1 MAX_THREADS n l h)

-- the line `env num_threads A,B,..`
says_sizes : (ns : List ℕ) → are_sizes ns ≡ true
    → line_of (env_words (codes "num_threads") (list_text ns)) ≡ Some (line.Head (NumThreads (Some ns)))
says_sizes ns h =
    ap (λ b. option_map line.Head (if b then None else Some (NumThreads (sizes_of (list_text ns)))))
    (no_gap-list_text ns h)
    ∙ ap (λ o. Some (line.Head (NumThreads o))) (sizes_of-list_text ns h)

-- the line `env dynamic B`
says_dynamic : (b : Bool)
    → (line_of (env_words (codes "dynamic") (truth_word b)) ≡ Some (line.Head (Dynamic b))) × (is_plain (truth_word b) ≡ true)
says_dynamic true = (refl, refl)
says_dynamic false = (refl, refl)

-- the line `env max_active_levels N`
says_max_active : (n : ℕ) → is_level_count n ≡ true
    → line_of (env_words (codes "max_active_levels") (decimal n)) ≡ Some (line.Head (MaxActive (Some n)))
says_max_active n h =
    ap (λ o. Some (line.Head (MaxActive o))) (number_up_to-decimal MAX_LEVELS n (omega arith) h)

-- the line `env schedule KIND,CHUNK`
says_schedule : (s : Sched) → is_schedule s ≡ true
    → line_of (env_words (codes "schedule") (schedule_text s)) ≡ Some (line.Head (Schedule (Some s)))
says_schedule s h =
    ap (λ ps. option_map line.Head (kind_and_chunk ps)) (pieces-schedule s h)
    ∙ ap
    (λ (b : Bool). option_map line.Head (if b then None else of_kind (schedule_kind_of (kind_text s.kind))))
    (plain_not_empty (decimal s.chunk) (plain-decimal s.chunk (chunk_small s h)))
    ∙ ap (λ o. option_map line.Head (of_kind o)) (kind_of-kind_text s.kind (kind_within s h))
    ∙ ap (λ o. Some (line.Head (Schedule (option_map (λ n. record { kind = s.kind; chunk = n }) o))))
    (number_up_to-decimal MAX_CHUNK s.chunk (omega arith) (chunk_within s h))
  where
    of_kind : Option ℕ → Option HeadLine
    of_kind =
        option_map
        (λ k. Schedule (option_map (λ n. record { kind = k; chunk = n }) (number_of 0 MAX_CHUNK (decimal s.chunk))))

-- the line `env device N`
says_device : (n : ℕ) → is_device n ≡ true
    → line_of (env_words (codes "device") (decimal n)) ≡ Some (line.Head (Device (Some n)))
says_device n h = ap (λ o. Some (line.Head (Device o))) (number_up_to-decimal MAX_DEVICE n (omega arith) h)

-- the line `env debug B`
says_debug : (b : Bool)
    → (line_of (env_words (codes "debug") (debug_word b)) ≡ Some (line.Head (Debug b))) × (is_plain (debug_word b) ≡ true)
says_debug true = (refl, refl)
says_debug false = (refl, refl)

-- the line `env procs N`
says_procs : (n : ℕ) → n < 2 ^ 64 → is_processor_count n ≡ true
    → line_of (env_words (codes "procs") (decimal n)) ≡ Some (line.Head (Procs (Some n)))
says_procs n l h = ap (λ o. Some (line.Head (Procs o))) (number_of-decimal 1 MAX_PROCS n l h)

-- the head lines lead from the first state after all of them
pub head_lines_lead : (threads : ℕ) (e : Env) → is_within 1 MAX_THREADS threads ≡ true → is_env e ≡ true
    → LinesLead first_state (map joined (head_words threads e)) (between (head_of threads e) [])
head_lines_lead threads e within env =
    let tests : EnvTests e = env_tests e env in
    let small : threads < 2 ^ 64 =
    below_word MAX_THREADS threads (omega arith)
    (and_right (nat_le 1 threads) (nat_le threads MAX_THREADS) within) in
    let small_active : e.max_active < 2 ^ 64 =
    below_word MAX_LEVELS e.max_active (omega arith) tests.levels in
    let small_device : e.device < 2 ^ 64 = below_word MAX_DEVICE e.device (omega arith) tests.device in
    let small_procs : e.procs < 2 ^ 64 =
    below_word MAX_PROCS e.procs (omega arith)
    (and_right (nat_le 1 e.procs) (nat_le e.procs MAX_PROCS) tests.procs) in
    let h0 : Head = no_head in
    let h1 : Head = head_after h0 (Threads (Some threads)) in
    let h2 : Head = head_after h1 (NumThreads (Some e.nthreads)) in
    let h3 : Head = head_after h2 (Dynamic e.dynamic) in
    let h4 : Head = head_after h3 (MaxActive (Some e.max_active)) in
    let h5 : Head = head_after h4 (Schedule (Some e.sched)) in
    let h6 : Head = head_after h5 (Device (Some e.device)) in
    let h7 : Head = head_after h6 (Debug e.debug) in
    let h8 : Head = head_after h7 (Procs (Some e.procs)) in
    let last : ParserState = between (head_of threads e) [] in
    let w1 : List (List ℕ) = codes "threads" ∷ decimal threads ∷ [] in
    let w2 : List (List ℕ) = env_words (codes "num_threads") (list_text e.nthreads) in
    let w3 : List (List ℕ) = env_words (codes "dynamic") (truth_word e.dynamic) in
    let w4 : List (List ℕ) = env_words (codes "max_active_levels") (decimal e.max_active) in
    let w5 : List (List ℕ) = env_words (codes "schedule") (schedule_text e.sched) in
    let w6 : List (List ℕ) = env_words (codes "device") (decimal e.device) in
    let w7 : List (List ℕ) = env_words (codes "debug") (debug_word e.debug) in
    let w8 : List (List ℕ) = env_words (codes "procs") (decimal e.procs) in
    let l1 : LineLeads (between h0 []) (joined w1) (between h1 []) =
    head_line_leads h0 w1 (Threads (Some threads)) (one_word (decimal threads) (plain-decimal threads small))
    (says_threads threads small within) refl refl in
    let l2 : LineLeads (between h1 []) (joined w2) (between h2 []) =
    head_line_leads h1 w2 (NumThreads (Some e.nthreads))
    (one_word (list_text e.nthreads) (plain-list_text e.nthreads tests.sizes))
    (says_sizes e.nthreads tests.sizes) refl refl in
    let l3 : LineLeads (between h2 []) (joined w3) (between h3 []) =
    head_line_leads h2 w3 (Dynamic e.dynamic) (one_word (truth_word e.dynamic) (says_dynamic e.dynamic).1)
    (says_dynamic e.dynamic).0 refl refl in
    let l4 : LineLeads (between h3 []) (joined w4) (between h4 []) =
    head_line_leads h3 w4 (MaxActive (Some e.max_active))
    (one_word (decimal e.max_active) (plain-decimal e.max_active small_active))
    (says_max_active e.max_active tests.levels) refl refl in
    let l5 : LineLeads (between h4 []) (joined w5) (between h5 []) =
    head_line_leads h4 w5 (Schedule (Some e.sched))
    (one_word (schedule_text e.sched) (plain-schedule_text e.sched tests.schedule))
    (says_schedule e.sched tests.schedule) refl refl in
    let l6 : LineLeads (between h5 []) (joined w6) (between h6 []) =
    head_line_leads h5 w6 (Device (Some e.device))
    (one_word (decimal e.device) (plain-decimal e.device small_device))
    (says_device e.device tests.device) refl refl in
    let l7 : LineLeads (between h6 []) (joined w7) (between h7 []) =
    head_line_leads h6 w7 (Debug e.debug) (one_word (debug_word e.debug) (says_debug e.debug).1)
    (says_debug e.debug).0 refl refl in
    let l8 : LineLeads (between h7 []) (joined w8) (between h8 []) =
    head_line_leads h7 w8 (Procs (Some e.procs))
    (one_word (decimal e.procs) (plain-decimal e.procs small_procs))
    (says_procs e.procs small_procs tests.procs) refl refl in
    let m8 : List (List ℕ) = joined w8 ∷ [] in
    let m7 : List (List ℕ) = joined w7 ∷ m8 in
    let m6 : List (List ℕ) = joined w6 ∷ m7 in
    let m5 : List (List ℕ) = joined w5 ∷ m6 in
    let m4 : List (List ℕ) = joined w4 ∷ m5 in
    let m3 : List (List ℕ) = joined w3 ∷ m4 in
    let m2 : List (List ℕ) = joined w2 ∷ m3 in
    leads_on (between h0 []) (between h1 []) last (joined w1) m2 l1
    (leads_on (between h1 []) (between h2 []) last (joined w2) m3 l2
    (leads_on (between h2 []) (between h3 []) last (joined w3) m4 l3
    (leads_on (between h3 []) (between h4 []) last (joined w4) m5 l4
    (leads_on (between h4 []) (between h5 []) last (joined w5) m6 l5
    (leads_on (between h5 []) (between h6 []) last (joined w6) m7 l6
    (leads_on (between h6 []) (between h7 []) last (joined w7) m8 l7 l8))))))

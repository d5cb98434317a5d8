-- There is one run of a program by a plan.
use Rattle.std.proofs.Common.{◌≡◌, ◌+◌, ◌-◌, ◌++◌, ◌<◌, ◌≤◌, ◌⊎◌, inl, inr, ℕ, List, [], ◌∷◌, length, sym, ap, ◌∙◌, subst, arith}
use Rattle.std.proofs.lemmas.Bool.{cases_lt}
use Rattle.std.proofs.lemmas.List.{append_assoc}
use Rattle.omi_script.specs.Grammar.{Grammar}
use Rattle.omi_script.specs.declared.program.Program.{Program}
use Rattle.omi_script.proofs.RuleLemmas.{Rules-from_accepted}
use Rattle.omi_model.specs.declared.event.Event.{Event}
use Rattle.omi_model.specs.Reached.{Reached}
use Rattle.omi_model.specs.State.{State}
use Rattle.omi_corefile.specs.Spelling.{core_bytes}
use Rattle.omi_layout.specs.Family.{IsFamily}
use Rattle.omi_layout.specs.Valid.{IsValid}
use Rattle.omi_layout.proofs.Families.{family_valid}
use Rattle.omi_pc.specs.Opening.{opening_actor}
use Rattle.omi_core.specs.declared.entry.Entry.{Entry}
use Rattle.omi_core.specs.declared.stop.Break.TheVariants.{TaskBegin}
use Rattle.omi_core.specs.declared.stop.End.{End}
use Rattle.omi_core.specs.Ends.{IsEnded, count_of}
use Rattle.omi_core.specs.Runs.{events_in}
use Rattle.omi_core.specs.RunSteps.{event_of}
use Rattle.omi_core.specs.Schedules.{threads_by}
use Rattle.omi_core.specs.Steps.{events_behind, opening_watches}
use Rattle.omi_core.proofs.Reaching.{reached_one}
use Rattle.omi_commands.specs.Cores.{thread_ids}
use Rattle.omi_top.specs.declared.plan.Plan.{Plan}
use Rattle.omi_top.specs.verbs.Stop.{IsStopped}
use Rattle.omi_top.specs.Determined.{IsOneRun, MakesAreDetermined, RunsAreDetermined, StopsAreDetermined}
use Rattle.omi_top.specs.Lines.{run_text}
use Rattle.omi_top.specs.Make.{IsMade, made_line, make_plan}
use Rattle.omi_top.specs.Run.{IsRun, thread_schedule}
use Rattle.omi_core.proofs.OneEnd.{no_later, one_end}
use Rattle.omi_layout.proofs.OneFamily.{one_family}
use Rattle.omi_layout.proofs.OneOpening.{one_opening}
use Rattle.omi_script.proofs.OneProgram.{one_program}
use Rattle.omi_core.proofs.Played.{are_left, are_played, front_of_threads, front_played, left_by, played}

-- the events of steps and of further ones
pub events_more : (n : ℕ) (xs ys : List (ℕ × Entry))
    → events_behind n (xs ++ ys) ≡ events_behind n xs ++ events_behind (n + length xs) ys
events_more n [] ys = ap (λ m. events_behind m ys) (let same : n ≡ n + 0 = omega arith in same)
events_more n (x ∷ xs) ys =
    ap (λ es. event_of (n + 1) x.0 x.1.outcome ++ es)
    (events_more (n + 1) xs ys ∙ ap (λ m. events_behind (n + 1) xs ++ events_behind m ys) (let same : n + 1 + length xs ≡ n + length (x ∷ xs) = omega arith in same))
    ∙ sym
    (append_assoc (event_of (n + 1) x.0 x.1.outcome) (events_behind (n + 1) xs) (events_behind (n + length (x ∷ xs)) ys))

module _ (p : Program) (w first : List ℕ) (plan : Plan) where
  -- the first steps by the plan
  abbrev plays : ℕ → List (ℕ × Entry)
  plays n = played p w first (opening_actor p) (threads_by (thread_schedule plan.seed) p.threads n)

  more_plays : (n m : ℕ) → n ≤ m → (zs : List (ℕ × Entry)) × (plays m ≡ plays n ++ zs)
  more_plays n m least =
      let all : m ≡ n + (m - n) = omega (arith, least) in
      let (js, threads) = front_of_threads (thread_schedule plan.seed) p.threads n (m - n) in
      let (zs, same) =
      front_played p w first (opening_actor p) (threads_by (thread_schedule plan.seed) p.threads n) js in
      (zs, ap plays all ∙ ap (played p w first (opening_actor p)) threads ∙ same)

  not_longer : (xs ys : List (ℕ × Entry)) (why end : End) → xs ≡ plays (length xs) → ys ≡ plays (length ys)
      → length ys ≤ plan.stop.steps
      → IsEnded plan.stop (length xs) (length xs) (events_behind 0 xs) why → IsEnded plan.stop (length ys) (length ys) (events_behind 0 ys) end → length xs < length ys → ⊥
  not_longer xs ys why end x y few ended later less =
      let (zs, more) = more_plays (length xs) (length ys) (omega (arith, less)) in
      let is : ys ≡ xs ++ zs = y ∙ more ∙ ap (λ fs. fs ++ zs) (sym x) in
      no_later plan.stop (length xs) (length ys) (events_behind 0 xs)
      (events_behind (0 + length xs) zs) why end less few ended
      (subst (λ (es : List (ℕ × ℕ × Event)). IsEnded plan.stop (length ys) (length ys) es end) (ap (events_behind 0) is ∙ events_more 0 xs zs) later)

-- the steps of a run are those by its plan
run_plays : (w : List ℕ) (p : Program) (plan : Plan) (xs : List (ℕ × Entry)) (why : End) (words : List ℕ) (s : State)
    (x : IsRun w p plan xs why words s) → xs ≡ plays p w x.steps.first plan (length xs)
run_plays w p plan xs why words s x =
    are_played p w x.steps.first [] _ opening_watches xs words s x.steps.watches
    (opening_actor p) x.steps.steps x.follow
    ∙ ap (played p w x.steps.first (opening_actor p)) x.threads

-- of two runs in one layout by one order of the threads, the longer one begins with the steps of the other
pub later_steps : (w : List ℕ) (p : Program) (plan next : Plan) (xs ys : List (ℕ × Entry)) (why end : End) (words others : List ℕ) (s t : State)
    → IsValid w → IsRun w p plan xs why words s → IsRun w p next ys end others t → plan.seed ≡ next.seed
    → length xs ≤ length ys → (zs : List (ℕ × Entry)) × (ys ≡ xs ++ zs)
later_steps w p plan next xs ys why end words others s t v x y seeds least =
    let opens = one_opening p w v y.steps.first x.steps.first y.steps.opens x.steps.opens in
    let (zs, more) = more_plays p w x.steps.first plan (length xs) (length ys) least in (
      zs,
      run_plays w p next ys end others t y
          ∙ ap (λ first. plays p w first next (length ys)) opens
          ∙ ap (λ seed. played p w x.steps.first (opening_actor p) (threads_by (thread_schedule seed) p.threads (length ys))) (sym seeds)
          ∙ more
          ∙ ap (λ fs. fs ++ zs) (sym (run_plays w p plan xs why words s x)),
    )

module _ (w : List ℕ) (p : Program) (plan : Plan) (xs ys : List (ℕ × Entry)) (why end : End)
    (words others : List ℕ) (s t : State) (v : IsValid w)
    (x : IsRun w p plan xs why words s) (y : IsRun w p plan ys end others t) where
  same_first : y.steps.first ≡ x.steps.first
  same_first = one_opening p w v y.steps.first x.steps.first y.steps.opens x.steps.opens

  x_plays : xs ≡ plays p w x.steps.first plan (length xs)
  x_plays = run_plays w p plan xs why words s x

  y_plays : ys ≡ plays p w x.steps.first plan (length ys)
  y_plays =
      run_plays w p plan ys end others t y
      ∙ ap (λ first. plays p w first plan (length ys)) same_first

  as_long : length xs ≡ length ys
  as_long = go (cases_lt (length xs) (length ys)) (cases_lt (length ys) (length xs))
    where
      go : (length xs < length ys) ⊎ (length ys ≤ length xs)
          → (length ys < length xs) ⊎ (length xs ≤ length ys) → length xs ≡ length ys
      go (inl less) m =
          absurd (not_longer p w x.steps.first plan xs ys why end x_plays y_plays y.few x.ended y.ended less)
      go (inr more) (inl less) =
          absurd (not_longer p w x.steps.first plan ys xs end why y_plays x_plays x.few y.ended x.ended less)
      go (inr more) (inr least) = omega (arith, more, least)

  same_entries : xs ≡ ys
  same_entries = x_plays ∙ ap (plays p w x.steps.first plan) as_long ∙ sym y_plays

  pub is_one : IsOneRun xs ys why end words others s t
  is_one = record {
    entries = same_entries;
    end_is = one_end plan.stop (length xs) (events_behind 0 xs) why end x.ended (subst (λ zs. IsEnded plan.stop (length zs) (length zs) (events_behind 0 zs) end) (sym same_entries) y.ended);
    words_are =
        are_left p w x.steps.first [] _ opening_watches xs words s x.steps.watches x.steps.steps
        ∙ ap (left_by x.steps.first) same_entries
        ∙ ap (λ first. left_by first ys) (sym same_first)
        ∙ sym (are_left p w y.steps.first [] _ opening_watches ys others t y.steps.watches y.steps.steps);
    state = reached_one p (events_in (events_behind 0 xs)) s t x.reached (subst (λ zs. Reached p (events_in (events_behind 0 zs)) t) (sym same_entries) y.reached);
  }

valid_family : (p : Program) (k : ℕ) (w : List ℕ) → IsFamily k p.threads w → IsValid w
valid_family p k w fam =
    let within = (Rules-from_accepted p).threads in
    let some : 1 ≤ p.threads = within.0 in
    let few = within.1 in
    family_valid k p.threads w some (omega (arith, few)) fam

pub runs_determined : RunsAreDetermined
runs_determined k w p plan xs ys why end words others s t fam x y =
    is_one w p plan xs ys why end words others s t (valid_family p k w fam) x y

-- two runs of one program by a plan leave one core and one text
stopped_one : (p : Program) (plan : Plan) (core text other said : List ℕ) → IsStopped p plan core text
    → IsStopped p plan other said → (core ≡ other) × (text ≡ said)
stopped_one p plan core text other said a b =
    let same = one_family plan.layout p.threads b.w a.w b.family a.family in
    let one = is_one a.w p plan a.entries b.entries a.end b.end a.words b.words a.state b.state a.valid a.run
    (subst (λ w. IsRun w p plan b.entries b.end b.words b.state) same b.run) in (
      a.core_is ∙ ap (core_bytes (thread_ids p.threads)) one.words_are ∙ sym b.core_is,
      a.text_is ∙ ap (λ zs. run_text (events_behind 0 zs) (length zs) a.end) one.entries ∙ ap (run_text (events_behind 0 b.entries) (length b.entries)) one.end_is ∙ sym b.text_is,
    )

pub stops_determined : StopsAreDetermined
stops_determined plan script core text other said (p, g, a) (q, h, b) =
    stopped_one p plan core text other said a
    (subst (λ (z : Program). IsStopped z plan other said) (one_program script q p h g) b)

made_one : (n : ℕ) (p : Program) (line said : List ℕ) → IsMade n p line → IsMade n p said → line ≡ said
made_one n p line said a b =
    let same = one_family make_plan.layout p.threads b.w a.w b.family a.family in
    let one = is_one a.w p make_plan a.entries b.entries a.end b.end a.words b.words a.state b.state (valid_family p make_plan.layout a.w a.family) a.run
    (subst (λ w. IsRun w p make_plan b.entries b.end b.words b.state) same b.run) in
    a.line_is
    ∙ ap (λ zs. made_line n (count_of TaskBegin (events_behind 0 zs)) a.end) one.entries
    ∙ ap (made_line n (count_of TaskBegin (events_behind 0 b.entries))) one.end_is
    ∙ sym b.line_is

pub makes_determined : MakesAreDetermined
makes_determined n script line other said (is, (p, g, a)) (same, (q, h, b)) =
    let one : other ≡ script = same ∙ sym is in
    (sym one, made_one n p line said a (subst (λ (z : Program). IsMade n z said) (one_program script q p (subst (λ zs. Grammar zs q) one h) g) b))

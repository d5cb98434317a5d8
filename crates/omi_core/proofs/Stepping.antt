-- A step of a run keeps what a run keeps.
use Rattle.std.proofs.Common.{◌≡◌, ◌<◌, ◌≤◌, ◌+◌, ◌/◌, ◌==◌, ◌++◌, ℕ, zero, suc, Bool, true, false, List, [], ◌∷◌, length, slice_index_or, slice_set, refl, sym, ap, ◌∙◌, subst, arith, eq-eqb, eqb-true, zero-add, if◌then◌else◌}
use mathlib.Core.Path.{fun_ext}
use Rattle.std.specs.Prelude.{IsTrue}
use Rattle.std.proofs.lemmas.Bool.Decides.{nat_tests}
use Rattle.std.proofs.Math.Nat.{add-div_right, div-mul-le_self, mul-le-mul_left}
use Rattle.std.proofs.lemmas.Nat.{le-div}
use Rattle.std.proofs.lemmas.List.{length-append}
use Rattle.std.proofs.lemmas.List.{get_or-set_other, get_or-set_same, length-map, length-set}
use Rattle.omi_model.specs.declared.limits.TheConstants.{MOST_EVENTS}
use Rattle.omi_word.specs.declared.op.Op.{Op}
use Rattle.omi_word.specs.Memory.{IsWordOf, address_of, words_after, word_at}
use Rattle.omi_script.specs.declared.program.Program.{Program}
use Rattle.omi_model.specs.declared.event.Event.{Event}
use Rattle.omi_model.specs.declared.event.Event.TheVariants as event
use Rattle.omi_model.specs.Reached.{Step}
use Rattle.omi_model.proofs.AskedTeams.{teams_asked}
use Rattle.omi_run_lists.specs.Events.{Events, team_in}
use Rattle.omi_run_lists.specs.Steps.{Steps}
use Rattle.omi_run_lists.specs.declared.made.Made.{Made}
use Rattle.omi_model.specs.State.{State}
use Rattle.omi_layout.specs.declared.limits.TheConstants.{FRONT_WORDS, TABLE_PLACE}
use Rattle.omi_layout.specs.Frame.{IsOnWord}
use Rattle.omi_layout.specs.Given.{HasTables}
use Rattle.omi_layout.specs.Memory.{Memory, memory_of, replace_at}
use Rattle.omi_layout.specs.Named.{number}
use Rattle.omi_layout.specs.Place.{fits}
use Rattle.omi_word.specs.Words.{words_of}
use Rattle.omi_layout.proofs.Stored.{on_word}
use Rattle.omi_pc.specs.declared.actor.Actor.{Actor}
use Rattle.omi_pc.specs.Opening.{waiting_actor}
use Rattle.omi_rep.specs.declared.outcome.Outcome.{Outcome}
use Rattle.omi_rep.specs.declared.outcome.Outcome.TheVariants as outcome
use Rattle.omi_rep.specs.Shows.{Shows}
use Rattle.omi_rule_words.proofs.Shown.{kept_words_show}
use Rattle.omi_rule_words.specs.Owes.{all_owed}
use Rattle.omi_actor.specs.Steps.{next_of, resumed_at}
use Rattle.omi_rule.specs.Commits.{ComesOf}
use Rattle.omi_rule.specs.Rule.{KeepsThread, Rule}
use Rattle.omi_rule.specs.Steps.{IsOn, KeepsRule, LeadsOn, RecordWord, StepKeeps, committed, found_in, left_in}
use Rattle.omi_rule.proofs.StepsKept.{steps_keep}
use Rattle.omi_rule_watch.specs.Demands.{MeetsDemands}
use Rattle.omi_rule_watch.specs.Given.{IsGiven}
use Rattle.omi_rule_watch.specs.Watch.{Watch, watched}
use Rattle.omi_rule_watch.specs.WatchLaws.{StepKeepsWatch}
use Rattle.omi_rule_watch.proofs.Kept.{watch_kept}
use Rattle.omi_core.specs.declared.entry.Entry.{Entry}
use Rattle.omi_core.specs.Kept.{IsBehind, IsUnderWay, KeepsRun}
use Rattle.omi_core.specs.Runs.{Run, actors_in, events_in, spare_in}
use Rattle.omi_core.specs.RunSteps.{IsRight, ShowsState, event_of, made_of, seats_of}
use Rattle.omi_core.specs.Steps.{IsStepFrom, IsWatched, events_behind, opening_watches, steps_of}
use Rattle.omi_core.proofs.Found.{behind_step}
use Rattle.omi_core.proofs.History.{commits_behind, event_committed, events_append, events_one_more, goes_under_way, made_length, made_one_more, other_one_more, own_one_more, starts_right, steps_one_more}
use Rattle.omi_core.proofs.Reaching.{reached_one}

-- ---- lists

-- one actor of a list is another
pub actors_set : (xs : List Actor) (i : ℕ) (b : Actor) → i < length xs
    → actors_in (slice_set xs i b) ≡ replace_at (actors_in xs) i b
actors_set xs i b within = fun_ext (λ j. go j (j == i) refl)
  where
    go : (j : ℕ) (t : Bool) → j == i ≡ t → actors_in (slice_set xs i b) j ≡ (if t then b else actors_in xs j)
    go j true e =
        let same : j ≡ i = eqb-true j i e in
        subst (λ k. actors_in (slice_set xs i b) k ≡ b) (sym same)
        (get_or-set_same xs i b (waiting_actor i) within)
    go j false e = get_or-set_other xs i j b (waiting_actor j) (λ same. grind (arith, nat_tests))

-- a thread of the list has its actor, whatever stands for the others
pub actor_is : (xs : List Actor) (i : ℕ) (d : Actor) → i < length xs → slice_index_or xs i d ≡ actors_in xs i
actor_is [] i d within = absurd (omega (arith, within))
actor_is (x ∷ xs) zero d within = refl
actor_is (x ∷ xs) (suc i) d within = ap-default xs i d (waiting_actor (suc i)) (omega (arith, within))
  where
    ap-default : (xs : List Actor) (i : ℕ) (d e : Actor) → i < length xs
        → slice_index_or xs i d ≡ slice_index_or xs i e
    ap-default [] i d e within = absurd (omega (arith, within))
    ap-default (x ∷ xs) zero d e within = refl
    ap-default (x ∷ xs) (suc i) d e within = ap-default xs i d e (omega (arith, within))

-- ---- the same run

-- a run keeps what it keeps where its lists have the same elements and other room
pub other_room : (a : Run) → KeepsRun a → (es : Events) (made : Steps) → es.items ≡ a.events.items
    → made.items ≡ a.made.items
    → KeepsRun (record { program = a.program; table = a.table; words = a.words; actors = a.actors; events = es; made = made })
other_room a k es made events steps =
    let rule : Rule a.program a.table (memory_of a.table a.words) (events_in es.items) k.state (actors_in a.actors) =
    subst
    (λ ys. Rule a.program a.table (memory_of a.table a.words) (events_in ys) k.state (actors_in a.actors))
    (sym events) k.rule in
    let few : length es.items ≤ length made.items =
    subst (λ ys. length ys ≤ length made.items) (sym events)
    (subst (λ (ys : List Made). length a.events.items ≤ length ys) (sym steps) k.few) in
    record {
      state = k.state;
      valid = k.valid;
      suits = k.suits;
      count = k.count;
      tables = k.tables;
      actors = k.actors;
      few = few;
      rule = rule;
      entries = k.entries;
      made_by = record { steps = k.made_by.steps; events = events ∙ k.made_by.events; made = steps ∙ k.made_by.made };
      behind = k.behind;
      workers = k.workers;
      watched = k.watched;
    }

pub same_entries : (a : Run) (k : KeepsRun a) (es : Events) (made : Steps) (events : es.items ≡ a.events.items) (steps : made.items ≡ a.made.items)
    → (other_room a k es made events steps).entries ≡ k.entries
unfolding other_room
same_entries a k es made events steps = refl

-- ---- what the words show

pub shows_state : (a : Run) → KeepsRun a → ShowsState a
shows_state a k = λ s reached.
    let same : k.state ≡ s =
    reached_one a.program (events_in a.events.items) k.state s k.rule.reached reached in
    subst (λ (z : State). Shows a.table (words_of a.words) z) same
    (kept_words_show a.table a.words k.state (all_owed (actors_in a.actors)) k.valid k.suits.groups k.count k.tables k.rule.within k.rule.words)

-- a team finds its seats where a step has room
pub seats_there : (a : Run) → 0 < a.program.threads → 1 ≤ spare_in a → a.program.threads ≤ a.events.seats
seats_there a some spare =
    let whole = div-mul-le_self a.events.seats a.program.threads in
    let one : 1 ≤ a.events.seats / a.program.threads = grind (arith, spare) in
    let least = mul-le-mul_left a.program.threads one in
    grind (arith, whole, least)

-- a step has one event at most
pub one_event : (step i : ℕ) (o : Outcome) → length (event_of step i o) ≤ 1
one_event step i outcome.Quiet = omega arith
one_event step i (outcome.Event e) = omega arith
one_event step i (outcome.NotReady address word) = omega arith
one_event step i outcome.Ended = omega arith

-- no more events than steps
pub few_events : (es ys more : List (ℕ × ℕ × Event)) (ms later : List Made) (x : Made) → more ≡ es ++ ys
    → length ys ≤ 1 → later ≡ ms ++ x ∷ [] → length es ≤ length ms → length more ≤ length later
few_events es ys more ms later x events one made few =
    let a : length more ≡ length es + length ys = ap length events ∙ length-append es ys in
    let b : length later ≡ length ms + 1 = ap length made ∙ length-append ms (x ∷ []) in
    omega (arith, a, b, one, few)

-- ---- the thread that steps

module _ (a : Run) (k : KeepsRun a) (i : ℕ) (thread : i < a.program.threads) where
  abbrev memory : Memory
  memory = memory_of a.table a.words

  pub known : i < k.state.count
  known = subst (λ n. i < n) (k.suits.threads ∙ sym k.rule.within.count) thread

  pub own : KeepsThread a.program a.table (memory_of a.table a.words) (events_in a.events.items) k.state i (actors_in a.actors i)
  own = k.rule.threads i known

  module _ (spare : 1 ≤ spare_in a) where
    abbrev op : Op
    op = next_of a.program a.table (actors_in a.actors i)

    abbrev behind : ℕ → Actor × Outcome
    behind old = resumed_at a.program a.table (actors_in a.actors i) (actors_in a.actors i).counter old

    pub few : length (events_in a.events.items) + 1 < MOST_EVENTS
    few =
        let same : length (events_in a.events.items) ≡ length a.events.items =
        length-map a.events.items (λ (e : ℕ × ℕ × Event). (e.1, e.2)) in
        let steps = k.few in
        grind (arith, spare, same, steps)

    pub keeps : StepKeeps a.program a.table (memory_of a.table a.words) (events_in a.events.items) k.state (actors_in a.actors) i op behind
    keeps =
        steps_keep a.program a.table (memory_of a.table a.words) (events_in a.events.items) k.state
        (actors_in a.actors) i k.valid k.suits k.rule known few

    abbrev x : RecordWord
    x = keeps.0

    on : IsOnWord a.table a.words op x.creator x.slot (number x.field) x.place
    on =
        on_word a.table k.valid a.words op x.creator x.slot (number x.field) x.place
        (subst (λ n. IsTrue (fits a.table n)) (sym k.count) k.suits.fits) keeps.1.there keeps.1.address

    -- the operation is on a word of the image
    pub inside : IsWordOf a.words (address_of op)
    inside = on.inside

    pub rule_after : KeepsRule a.program a.table (memory_of a.table a.words) (events_in a.events.items) k.state (actors_in a.actors) i op x (behind (word_at a.words (address_of op)))
    rule_after =
        subst
        (λ old. KeepsRule a.program a.table (memory_of a.table a.words) (events_in a.events.items) k.state (actors_in a.actors) i op x (behind old))
        (sym on.finds) keeps.2

    -- a team has at most all threads
    pub few_seats : seats_of (behind (word_at a.words (address_of op))).1 ≤ a.program.threads
    few_seats = go (behind (word_at a.words (address_of op))).1 rule_after.leads
      where
        go : (o : Outcome) → LeadsOn a.program a.table (events_in a.events.items) k.state i o rule_after.next
            → seats_of o ≤ a.program.threads
        go outcome.Quiet leads = omega arith
        go (outcome.NotReady address word) leads = omega arith
        go outcome.Ended leads = omega arith
        go (outcome.Event e) leads = by e leads
          where
            by : (e : Event) → Step a.program k.state i e rule_after.next
                → length (team_in e) ≤ a.program.threads
            by (event.Fork region team) step =
                let asked =
                teams_asked a.program
                (events_in a.events.items) k.state k.rule.reached i region team step.legal in
                subst (λ n. length team ≤ n) (k.rule.within.count ∙ sym k.suits.threads) asked.few
            by event.Begin step = omega arith
            by event.Offer step = omega arith
            by (event.Want n) step = omega arith
            by (event.Ask v got) step = omega arith
            by (event.ImplicitBegin task) step = omega arith
            by (event.State state wait) step = omega arith
            by event.Enter step = omega arith
            by event.Leave step = omega arith
            by event.Arrive step = omega arith
            by event.Release step = omega arith
            by event.Pass step = omega arith
            by (event.ImplicitEnd task) step = omega arith
            by (event.Join region) step = omega arith
            by (event.FreeTask task) step = omega arith
            by (event.FreeRegion region) step = omega arith
            by (event.Seen j) step = omega arith
            by (event.Defer task) step = omega arith
            by (event.StartNow task) step = omega arith
            by (event.Start task) step = omega arith
            by (event.Finish task) step = omega arith
            by event.WaitDone step = omega arith
            by event.GroupBegin step = omega arith
            by event.GroupEnd step = omega arith
            by event.Yield step = omega arith
            by (event.Set icv value) step = omega arith
            by (event.SetTool y) step = omega arith
            by (event.Lock l) step = omega arith
            by (event.Unlock l) step = omega arith
            by event.Work step = omega arith
            by (event.Call f) step = omega arith
            by event.Skip step = omega arith
            by event.Ret step = omega arith
            by event.Done step = omega arith

    pub seats_for : (o : Outcome) → o ≡ (behind (word_at a.words (address_of op))).1
        → seats_of o ≤ a.events.seats
    seats_for o is =
        let most : seats_of o ≤ a.program.threads =
        subst (λ (x : Outcome). seats_of x ≤ a.program.threads) (sym is) few_seats in
        let there : a.program.threads ≤ a.events.seats = seats_there a (omega (arith, thread)) spare in
        omega (arith, most, there)

    -- the step, as one of a list
    pub from : (e : Entry) → e.op ≡ op → e.old ≡ word_at a.words (address_of op)
        → e.outcome ≡ (behind (word_at a.words (address_of op))).1
        → IsStepFrom a.program a.table a.words (events_in a.events.items) k.state i e rule_after.next
    from e op_is old_is out_is = record {
      thread = thread;
      inside = subst (λ (o : Op). IsWordOf a.words (address_of o)) (sym op_is) inside;
      found = old_is ∙ ap (λ (o : Op). word_at a.words (address_of o)) (sym op_is);
      leads = subst (λ (o : Outcome). LeadsOn a.program a.table (events_in a.events.items) k.state i o rule_after.next) (sym out_is) rule_after.leads;
      comes =
          subst (λ (o : Op). ComesOf a.table k.state i o e.old e.outcome) (sym op_is)
          (subst (λ n. ComesOf a.table k.state i op n e.outcome) (sym on.finds ∙ sym old_is)
          (subst (λ (o : Outcome). ComesOf a.table k.state i op (found_in (memory_of a.table a.words) x) o) (sym out_is) rule_after.comes));
    }

    -- whatever state the events reach
    pub right : (e : Entry) → e.op ≡ op → e.old ≡ word_at a.words (address_of op)
        → e.outcome ≡ (behind (word_at a.words (address_of op))).1 → IsRight a i e
    right e op_is old_is out_is = λ s reached.
        let same : k.state ≡ s =
        reached_one a.program (events_in a.events.items) k.state s k.rule.reached reached in
        let step = from e op_is old_is out_is in (
          (rule_after.next, subst (λ (z : State). LeadsOn a.program a.table (events_in a.events.items) z i e.outcome rule_after.next) same step.leads),
          subst (λ (z : State). ComesOf a.table z i e.op e.old e.outcome) same step.comes,
        )

    -- ---- the watch

    watching : StepKeepsWatch a.program a.table (memory_of a.table a.words) k.state i op behind (k.made_by.steps.watches i)
    watching =
        watch_kept a.program a.table (memory_of a.table a.words) (events_in a.events.items) k.state
        (actors_in a.actors) i k.valid k.suits k.rule known few (k.made_by.steps.watches i) (k.watched i)

    abbrev y : RecordWord
    y = watching.0

    on_watched : IsOnWord a.table a.words op y.creator y.slot (number y.field) y.place
    on_watched =
        on_word a.table k.valid a.words op y.creator y.slot (number y.field) y.place
        (subst (λ n. IsTrue (fits a.table n)) (sym k.count) k.suits.fits) watching.1.there watching.1.address

    -- by the word that was found
    keeps_watch : (out : Outcome) (old : ℕ) → old ≡ word_at a.words (address_of op) → out ≡ (behind old).1
        → MeetsDemands a.program a.table (memory_of a.table a.words) k.state i y op out
        (k.made_by.steps.watches i)
        × IsGiven a.program (behind old).0
        (watched a.table k.state i y op old out (k.made_by.steps.watches i))
    keeps_watch out old old_is out_is =
        let found : found_in (memory_of a.table a.words) y ≡ old = sym (old_is ∙ on_watched.finds) in
        let meets : MeetsDemands a.program a.table (memory_of a.table a.words) k.state i y op (behind old).1 (k.made_by.steps.watches i) =
        subst
        (λ n. MeetsDemands a.program a.table (memory_of a.table a.words) k.state i y op (behind n).1 (k.made_by.steps.watches i)) found watching.2.meets in
        let given : IsGiven a.program (behind old).0 (watched a.table k.state i y op old (behind old).1 (k.made_by.steps.watches i)) =
        subst (λ n. IsGiven a.program (behind n).0 (watched a.table k.state i y op n (behind n).1 (k.made_by.steps.watches i))) found watching.2.given in (
          subst (λ (o : Outcome). MeetsDemands a.program a.table (memory_of a.table a.words) k.state i y op o (k.made_by.steps.watches i)) (sym out_is) meets,
          subst (λ (o : Outcome). IsGiven a.program (behind old).0 (watched a.table k.state i y op old o (k.made_by.steps.watches i))) (sym out_is) given,
        )

    abbrev watch_of : Entry → Watch
    watch_of e = watched a.table k.state i y e.op e.old e.outcome (k.made_by.steps.watches i)

    module _ (e : Entry) (op_is : e.op ≡ op) (old_is : e.old ≡ word_at a.words (address_of op))
        (out_is : e.outcome ≡ (behind (word_at a.words (address_of op))).1) where
      outcome_is : e.outcome ≡ (behind e.old).1
      outcome_is = out_is ∙ ap (λ n. (behind n).1) (sym old_is)

      step_watched : IsWatched a.program a.table a.words k.state i e (k.made_by.steps.watches i) (watch_of e)
      step_watched = record {
        word = y;
        on = subst (λ (o : Op). IsOn a.table o y) (sym op_is) watching.1;
        meets = subst (λ (o : Op). MeetsDemands a.program a.table (memory_of a.table a.words) k.state i y o e.outcome (k.made_by.steps.watches i)) (sym op_is) (keeps_watch e.outcome e.old old_is outcome_is).0;
        leaves = refl;
      }

      given_behind : IsGiven a.program (behind (word_at a.words (address_of op))).0 (watch_of e)
      given_behind =
          subst (λ n. IsGiven a.program (behind n).0 (watch_of e)) old_is
          (subst (λ (o : Op). IsGiven a.program (behind e.old).0 (watched a.table k.state i y o e.old e.outcome (k.made_by.steps.watches i))) (sym op_is) (keeps_watch e.outcome e.old old_is outcome_is).1)

      -- ---- the run afterwards

      now_words : words_after a.words e.op ≡ words_after a.words op
      now_words = ap (λ (o : Op). words_after a.words o) op_is

      still : HasTables a.table (words_after a.words op)
      still = record {
        long = subst (λ n. FRONT_WORDS ≤ n) (sym on.count) k.tables.long;
        symbols = λ j below. on.front j (omega (arith, below)) ∙ k.tables.symbols j below;
        table = λ j below. on.front (TABLE_PLACE + j) (omega (arith, below)) ∙ k.tables.table j below;
      }

      abbrev actors_behind : List Actor
      actors_behind = slice_set a.actors i (behind (word_at a.words (address_of op))).0

      actors_now : actors_in (slice_set a.actors i (behind (word_at a.words (address_of op))).0) ≡ replace_at (actors_in a.actors) i (behind (word_at a.words (address_of op))).0
      actors_now =
          actors_set a.actors i (behind (word_at a.words (address_of op))).0
          (subst (λ n. i < n) (sym k.actors) thread)

      now : (es : Events) → es.items ≡ a.events.items ++ event_of (length a.made.items + 1) i e.outcome
          → Rule a.program a.table (memory_of a.table (words_after a.words e.op)) (events_in es.items) rule_after.next (actors_in actors_behind)
      now es events =
          subst
          (λ ws. Rule a.program a.table (memory_of a.table ws) (events_in es.items) rule_after.next (actors_in actors_behind))
          (sym now_words)
          (subst (λ (m : Memory). Rule a.program a.table m (events_in es.items) rule_after.next (actors_in actors_behind)) (sym on.leaves)
          (subst (λ fs. Rule a.program a.table (left_in (memory_of a.table a.words) op x) fs rule_after.next (actors_in actors_behind))
          (sym (ap events_in events ∙ events_append a.events.items (event_of (length a.made.items + 1) i e.outcome) ∙ ap (λ ys. events_in a.events.items ++ ys) (event_committed (length a.made.items + 1) i e.outcome)
          ∙ ap (λ (o : Outcome). events_in a.events.items ++ committed i o) out_is))
          (subst (λ (xs : ℕ → Actor). Rule a.program a.table (left_in (memory_of a.table a.words) op x) (events_in a.events.items ++ committed i (behind (word_at a.words (address_of op))).1) rule_after.next xs)
          (sym actors_now) rule_after.rule)))

      under_way : (j : ℕ) → 0 < j
          → IsUnderWay (steps_of j (k.entries ++ (i, e) ∷ [])) (actors_in actors_behind j).counter
      under_way j worker =
          subst (λ (xs : ℕ → Actor). IsUnderWay (steps_of j (k.entries ++ (i, e) ∷ [])) (xs j).counter)
          (sym actors_now) (go (j == i) refl)
        where
          go : (t : Bool) → j == i ≡ t
              → IsUnderWay (steps_of j (k.entries ++ (i, e) ∷ [])) (if t then (behind (word_at a.words (address_of op))).0 else actors_in a.actors j).counter
          go true is =
              let same : j ≡ i = eqb-true j i is in
              subst
              (λ z. IsUnderWay (steps_of z (k.entries ++ (i, e) ∷ [])) (behind (word_at a.words (address_of op))).0.counter)
              (sym same)
              (subst (λ es. IsUnderWay es (behind (word_at a.words (address_of op))).0.counter) (sym (own_one_more i k.entries e))
              (subst (λ n. IsUnderWay (steps_of i k.entries ++ e ∷ []) (behind n).0.counter) old_is
              (goes_under_way a.program a.table (actors_in a.actors i) (steps_of i k.entries) e (k.workers i (subst (λ z. 0 < z) same worker)) outcome_is)))
          go false is =
              subst (λ es. IsUnderWay es (actors_in a.actors j).counter)
              (sym (other_one_more j i k.entries e (λ same. let yes : j == i ≡ true = eq-eqb j i (sym same) in cc (is, yes))))
              (k.workers j worker)

      -- the thread is behind one step more
      each_behind : (j : ℕ)
          → IsBehind a.program a.table j (steps_of j (k.entries ++ (i, e) ∷ [])) (actors_in actors_behind j)
      each_behind j =
          subst
          (λ (xs : ℕ → Actor). IsBehind a.program a.table j (steps_of j (k.entries ++ (i, e) ∷ [])) (xs j))
          (sym actors_now) (go (j == i) refl)
        where
          go : (t : Bool) → j == i ≡ t
              → IsBehind a.program a.table j (steps_of j (k.entries ++ (i, e) ∷ [])) (if t then (behind (word_at a.words (address_of op))).0 else actors_in a.actors j)
          go true is =
              let same : j ≡ i = eqb-true j i is in
              subst
              (λ z. IsBehind a.program a.table z (steps_of z (k.entries ++ (i, e) ∷ [])) (behind (word_at a.words (address_of op))).0)
              (sym same)
              (subst (λ es. IsBehind a.program a.table i es (behind (word_at a.words (address_of op))).0) (sym (own_one_more i k.entries e))
              (subst (λ n. IsBehind a.program a.table i (steps_of i k.entries ++ e ∷ []) (behind n).0) old_is
              (behind_step a.program a.table i (steps_of i k.entries) (actors_in a.actors i) e (k.behind i) op_is outcome_is)))
          go false is =
              subst (λ es. IsBehind a.program a.table j es (actors_in a.actors j))
              (sym (other_one_more j i k.entries e (λ same. let yes : j == i ≡ true = eq-eqb j i (sym same) in cc (is, yes))))
              (k.behind j)

      -- each thread's actor gives its watch
      all_watched : (j : ℕ)
          → IsGiven a.program (actors_in actors_behind j) (replace_at k.made_by.steps.watches i (watch_of e) j)
      all_watched j =
          subst
          (λ (xs : ℕ → Actor). IsGiven a.program (xs j) (replace_at k.made_by.steps.watches i (watch_of e) j))
          (sym actors_now) (go (j == i))
        where
          go : (t : Bool)
              → IsGiven a.program (if t then (behind (word_at a.words (address_of op))).0 else actors_in a.actors j) (if t then watch_of e else k.made_by.steps.watches j)
          go true = given_behind
          go false = k.watched j

      -- the run with these lists
      pub keeps_behind : (es : Events) (made : Steps)
          → es.items ≡ a.events.items ++ event_of (length a.made.items + 1) i e.outcome
          → made.items ≡ a.made.items ++ made_of i e ∷ []
          → KeepsRun
          (record { program = a.program; table = a.table; words = words_after a.words e.op; actors = actors_behind; events = es; made = made })
      keeps_behind es made events one = record {
        state = rule_after.next;
        valid = k.valid;
        suits = k.suits;
        count = ap length now_words ∙ on.count ∙ k.count;
        tables = subst (HasTables a.table) (sym now_words) still;
        actors = length-set a.actors i _ ∙ k.actors;
        few = few_events a.events.items _ _ a.made.items _ _ events (one_event _ i e.outcome) one k.few;
        rule = now es events;
        entries = k.entries ++ (i, e) ∷ [];
        made_by = record {
          steps = record {
            first = k.made_by.steps.first;
            opens = k.made_by.steps.opens;
            watches = replace_at k.made_by.steps.watches i (watch_of e);
            steps =
                steps_one_more a.program a.table k.made_by.steps.first [] _ opening_watches k.entries a.words k.state k.made_by.steps.watches i e rule_after.next
                (watch_of e) k.made_by.steps.steps
                (subst (λ es. IsStepFrom a.program a.table a.words es k.state i e rule_after.next) (ap events_in k.made_by.events ∙ commits_behind 0 k.entries) (from e op_is old_is out_is)) step_watched;
            workers = λ j worker. starts_right (steps_of j (k.entries ++ (i, e) ∷ [])) (actors_in actors_behind j).counter (under_way j worker);
          };
          events =
              events
              ∙ ap (λ ys. ys ++ event_of (length a.made.items + 1) i e.outcome) k.made_by.events
              ∙ ap (λ n. events_behind 0 k.entries ++ event_of (n + 1) i e.outcome)
              (ap length k.made_by.made ∙ made_length k.entries ∙ sym (zero-add (length k.entries)))
              ∙ sym (events_one_more 0 k.entries i e);
          made = one ∙ ap (λ (ys : List Made). ys ++ made_of i e ∷ []) k.made_by.made ∙ sym (made_one_more k.entries i e);
        };
        behind = each_behind;
        workers = under_way;
        watched = all_watched;
      }

      pub entries_behind : (es : Events) (made : Steps) (events : es.items ≡ a.events.items ++ event_of (length a.made.items + 1) i e.outcome) (one : made.items ≡ a.made.items ++ made_of i e ∷ [])
          → (keeps_behind es made events one).entries ≡ k.entries ++ (i, e) ∷ []
      unfolding keeps_behind
      entries_behind es made events one = refl

    -- the run afterwards
    pub run_after : (b : Run) (e : Entry) → e.op ≡ op → e.old ≡ word_at a.words (address_of op)
        → e.outcome ≡ (behind (word_at a.words (address_of op))).1
        → b.program ≡ a.program → b.table ≡ a.table → b.words ≡ words_after a.words e.op → b.actors ≡ slice_set a.actors i (behind (word_at a.words (address_of op))).0
        → b.made.items ≡ a.made.items ++ made_of i e ∷ [] → b.events.items ≡ a.events.items ++ event_of (length a.made.items + 1) i e.outcome → KeepsRun b
    run_after b e op_is old_is out_is program table words actors made events =
        subst
        (λ (q : Program). KeepsRun (record { program = q; table = b.table; words = b.words; actors = b.actors; events = b.events; made = b.made }))
        (sym program)
        (subst (λ t. KeepsRun (record { program = a.program; table = t; words = b.words; actors = b.actors; events = b.events; made = b.made })) (sym table)
        (subst (λ ws. KeepsRun (record { program = a.program; table = a.table; words = ws; actors = b.actors; events = b.events; made = b.made })) (sym words)
        (subst (λ (xs : List Actor). KeepsRun (record { program = a.program; table = a.table; words = words_after a.words e.op; actors = xs; events = b.events; made = b.made })) (sym actors)
        (keeps_behind e op_is old_is out_is b.events b.made events made))))

-- room behind a step
less_div : (x y n : ℕ) → 0 < n → x ≤ y + n → x / n ≤ y / n + 1
less_div x y n some few =
    let whole = div-mul-le_self x n in
    let most : x / n ≤ (y + n) / n = le-div (x / n) (y + n) n some (omega (arith, whole, few)) in
    let one_more = add-div_right y some in
    omega (arith, most, one_more)

pub spare_after : (a b : Run) → b.program ≡ a.program → 0 < a.program.threads
    → b.made.spare + 1 ≡ a.made.spare → a.events.spare ≤ b.events.spare + 1
    → a.events.seats ≤ b.events.seats + a.program.threads → length b.made.items ≡ length a.made.items + 1
    → 1 ≤ spare_in a → spare_in a ≤ spare_in b + 1
spare_after a b program some made events seats steps spare =
    let room : a.events.seats / a.program.threads ≤ b.events.seats / b.program.threads + 1 =
    subst (λ (q : Program). a.events.seats / a.program.threads ≤ b.events.seats / q.threads + 1) (sym program)
    (less_div a.events.seats b.events.seats a.program.threads some seats) in
    grind (arith, made, events, room, steps, spare)

-- room that was there stays, where no list got less
pub spare_kept : (a z : Run) → a ≡ z → (events : Events) (made : Steps) → 1 ≤ a.program.threads
    → a.made.spare ≤ made.spare → a.events.spare ≤ events.spare → a.events.seats ≤ events.seats
    → made.items ≡ a.made.items
    → spare_in z ≤ spare_in (record { program = a.program; table = a.table; words = a.words; actors = a.actors; events = events; made = made })
spare_kept a z same events made some steps rows seats items =
    let b : Run = record { program = a.program; table = a.table; words = a.words; actors = a.actors; events = events; made = made } in
    let whole = div-mul-le_self a.events.seats a.program.threads in
    let room : a.events.seats / a.program.threads ≤ events.seats / a.program.threads =
    le-div (a.events.seats / a.program.threads) events.seats a.program.threads (omega (arith, some)) (omega (arith, whole, seats)) in
    let as_many : length made.items ≡ length a.made.items = ap length items in
    let least : spare_in a ≤ spare_in b = grind (arith, steps, rows, room, as_many) in
    subst (λ (y : Run). spare_in y ≤ spare_in b) same least

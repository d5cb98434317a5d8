-- A thread asks another one to join its team.
use Rattle.std.proofs.Common.{◌≡◌, ◌≢◌, ◌+◌, ◌==◌, ◌<◌, ◌≤◌, ◌&&◌, nat_lt, ℕ, suc, Bool, true, false, List, [], ◌∷◌, ◌++◌, length, map, Some, refl, sym, ap, ◌∙◌, subst, arith, eqb-true, if◌then◌else◌}
use Rattle.std.proofs.Common.{length-append}
use Rattle.std.specs.List.{Contains}
use Rattle.std.proofs.lemmas.List.{append-nil, map-append}
use Rattle.omi_word.specs.declared.op.Op.TheVariants as op
use Rattle.omi_script.specs.declared.program.Program.{Program}
use Rattle.omi_script.specs.declared.statement.Stmt.{Stmt}
use Rattle.omi_script.specs.declared.statement.Stmt.TheVariants as stmt
use Rattle.omi_model.specs.declared.claim.Claim.{Claim}
use Rattle.omi_model.specs.declared.claim.Claim.TheVariants as claim
use Rattle.omi_model.specs.declared.encounter.Encounter.{Encounter}
use Rattle.omi_model.specs.declared.event.Event.{Event}
use Rattle.omi_model.specs.declared.event.Event.TheVariants as event
use Rattle.omi_model.specs.declared.id.Tid.{Tid}
use Rattle.omi_model.specs.declared.item.Item.{Item}
use Rattle.omi_model.specs.declared.item.Item.TheVariants as item
use Rattle.omi_model.specs.declared.thread.Thread.{Thread}
use Rattle.omi_model.specs.Changes.{on_task}
use Rattle.omi_model.specs.Columns.{no_task}
use Rattle.omi_model.specs.LawClaims.{others_below}
use Rattle.omi_model.specs.Lists.{take_item}
use Rattle.omi_model.specs.Put.{on, put}
use Rattle.omi_model.specs.Reached.{Step}
use Rattle.omi_model.specs.Rows.{working}
use Rattle.omi_model.specs.State.{State}
use Rattle.omi_model.specs.Teams.{MayAsk, asked, got_threads}
use Rattle.omi_model.proofs.AskedTeams.{got_last}
use Rattle.omi_model.proofs.Slots.{put_other, put_same}
use Rattle.omi_model.proofs.Steps.{relisted}
use Rattle.omi_layout.specs.declared.field.Field.TheVariants.{ThreadClaim}
use Rattle.omi_layout.specs.Field.{threads}
use Rattle.omi_layout.specs.Memory.{Memory, with_word}
use Rattle.omi_layout.specs.Named.{number}
use Rattle.omi_layout.proofs.Puts.{word_back}
use Rattle.omi_pc.specs.declared.actor.Actor.{Actor}
use Rattle.omi_pc.specs.declared.counter.Counter.TheVariants as counter
use Rattle.omi_pc.specs.declared.gathered.Gathered.{Gathered}
use Rattle.omi_pc.specs.declared.team_counter.TeamCounter.{TeamCounter}
use Rattle.omi_pc.specs.declared.team_counter.TeamCounter.TheVariants as team
use Rattle.omi_pc.specs.Fits.{FitsTeam, IsAtParallel, IsParallel}
use Rattle.omi_pc.specs.OpenBodies.{IsAt}
use Rattle.omi_rep.specs.declared.outcome.Outcome.TheVariants as outcome
use Rattle.omi_rep.specs.Codes.{claim_word, thread_told}
use Rattle.omi_rule_words.proofs.StoredCodes.{claim_stored}
use Rattle.omi_rule_words.specs.Owes.{all_owed, owed}
use Rattle.omi_rule_words.specs.Words.{KeepsWords}
use Rattle.omi_rule_words.proofs.ThreadStores.{thread_changes_keep, thread_stores_keep}
use Rattle.omi_step_words.specs.Members.{joined_by}
use Rattle.omi_step_words.specs.Moving.{gathering}
use Rattle.omi_step_words.specs.Words.{of_thread}
use Rattle.omi_fork.specs.TeamSteps.{asking, but_own, team_moved, team_next, team_outcome}
use Rattle.omi_rule.specs.Ahead.{forking, leaving, team_ahead}
use Rattle.omi_rule.specs.Chains.{encounter_of}
use Rattle.omi_rule.specs.Rows.{HasAsked}
use Rattle.omi_rule.specs.Steps.{KeepsRule, RecordWord, StepKeeps, found_in, left_in}
use Rattle.omi_rule.proofs.Assembly.{Before, spares_none, spares_threads}
use Rattle.omi_rule.proofs.Own.{ChangesTask}
use Rattle.omi_rule.proofs.OwnTask.{own_changes, relisted_alike}
use Rattle.omi_rule.proofs.RowsStay.{Spares}
use Rattle.omi_rule.proofs.Settling.{in_work_is}
use Rattle.omi_rule.proofs.team.Asked.{others_next, others_skip, others_there, others_within, ready_behind, skip_known, skip_other, team_size_is, knows_then}
use Rattle.omi_rule.proofs.team.Events.{IsReady, stands, step, team_event, words_moved}
use Rattle.omi_rule.proofs.team.Within.{fits, going, own, owes, row}

-- the asks are next
pub asks_are_next : (p : Program) (at : Encounter) (a : Actor) → IsAtParallel p a
    → (f : ℕ) × (forking p at a.stack ≡ item.Asks ∷ item.Fork f ∷ working at (leaving p at a.stack))
asks_are_next p at a (s, is, parallel) = go s is parallel
  where
    go : (s : Stmt) → IsAt p a.stack s → IsParallel s
        → (f : ℕ) × (forking p at a.stack ≡ item.Asks ∷ item.Fork f ∷ working at (leaving p at a.stack))
    go (stmt.Parallel f num) is o = (f, in_work_is p a.stack (stmt.Parallel f num) _ is)
    go _ is o = absurd o

-- a thread may be claimed where its claim word is 1
free_claim : (c : Claim) → claim_word c == 1 ≡ true → c ≡ claim.Free
free_claim claim.Own e = absurd (cc e)
free_claim claim.Free e = refl
free_claim (claim.By i) e = absurd (let same : 2 + i ≡ 1 = eqb-true (2 + i) 1 e in omega (arith, same))

busy_claim : (c : Claim) → claim_word c == 1 ≡ false → c ≢ claim.Free
busy_claim c e same = cc (sym (ap (λ (x : Claim). claim_word x == 1) same), e)

-- the team, where the thread joined it or not
abbrev team_then : Bool → ℕ → List (Tid × ℕ) → List (Tid × ℕ)
team_then got v team = if got then joined_by v team else team

joined_then : (got : Bool) (v i : ℕ) (team : List (Tid × ℕ)) (asks : List (ℕ × Bool))
    → map (λ m. m.1) team ≡ i ∷ got_threads asks
    → map (λ m. m.1) (team_then got v team) ≡ i ∷ got_threads (asks ++ (v, got) ∷ [])
joined_then true v i team asks is =
    map-append (λ (m : Tid × ℕ). m.1) team ((no_task, v) ∷ [])
    ∙ ap (λ xs. xs ++ v ∷ []) is
    ∙ ap (λ xs. i ∷ xs) (sym (got_last asks v true))
joined_then false v i team asks is =
    is ∙ ap (λ xs. i ∷ xs) (sym (got_last asks v false ∙ append-nil (got_threads asks)))

size_then : (got : Bool) (v : ℕ) (team : List (Tid × ℕ)) → length (team_then got v team) ≤ length team + 1
size_then true v team =
    let long : length (team ++ (no_task, v) ∷ []) ≡ length team + 1 = length-append team ((no_task, v) ∷ []) in omega (arith, long)
size_then false v team = omega arith

module _ (p : Program) (w : List ℕ) (m : Memory) (events : List (ℕ × Event)) (s : State) (actors : ℕ → Actor)
    (i : ℕ) (before : Before p w m events s actors i) (at : (actors i).counter ≡ counter.Team team.Ask) where
  abbrev C : TeamCounter
  C = team.Ask

  abbrev V : ℕ
  V = (actors i).gathered.asked

  abbrev X : RecordWord
  X = record { creator = (actors i).gathered.asked; slot = 0; field = ThreadClaim; place = 0 }

  abbrev At : Encounter
  At = encounter_of s (actors i).context

  abbrev list : List Item
  list = forking p (encounter_of s (actors i).context) (actors i).stack

  abbrev z : State
  z =
      on_task s (actors i).context.task
      (relisted (forking p (encounter_of s (actors i).context) (actors i).stack))

  fit : FitsTeam p (actors i) C
  fit = fits p w m events s actors i before C at

  known : V < s.count
  known =
      let few = fit.2 in let same = before.suits.threads in let count = before.rule.within.count in omega (arith, few, same, count)

  other : V ≢ i
  other = subst (λ j. V ≢ j) (own p w m events s actors i before C at).thread fit.3

  asks : HasAsked s i (actors i)
  asks = row p w m events s actors i before C at

  found_is : found_in m X ≡ claim_word (s.threads V).claim
  found_is = (before.rule.words.made V known).thread ThreadClaim 0 _ refl

  may : (got : Bool) → found_in m X == 1 ≡ got → MayAsk s i V got
  may got is = record {
    known = known;
    other = other;
    new = λ was. let less = others_within i V V (subst (λ xs. Contains xs V) asks.asked was) in omega (arith, less);
    least = λ v below ne. subst (λ xs. Contains xs v) (sym asks.asked) (others_there i V v below ne);
    smaller = (let size = team_size_is s i (actors i) asks in let less = fit.1 in let wants = asks.wanted in omega (arith, size, less, wants));
    joins = λ yes. free_claim (s.threads V).claim (ap (λ n. n == 1) (sym found_is) ∙ is ∙ yes);
    busy = λ no. busy_claim (s.threads V).claim (ap (λ n. n == 1) (sym found_is) ∙ is ∙ no);
  }

  taken : (got : Bool)
      → take_item p At (event.Ask V got) list ≡ Some (item.Asks, item.Fork (asks_are_next p At (actors i) fit.0.0).0 ∷ working At (leaving p At (actors i).stack))
  taken got = ap (take_item p At (event.Ask V got)) (asks_are_next p At (actors i) fit.0.0).1

  steps : (got : Bool) → found_in m X == 1 ≡ got → Step p s i (event.Ask V got) (asked z i V got)
  steps got is =
      step p w m events s actors i before C at (event.Ask V got) item.Asks
      (item.Fork (asks_are_next p At (actors i) fit.0.0).0 ∷ working At (leaving p At (actors i).stack)) list
      (asked z i V got)
      (taken got) (may got is) (sym (asks_are_next p At (actors i) fit.0.0).1) refl

  -- what the thread is afterwards
  abbrev listed : Bool → Thread
  listed got = record (s.threads i) { asks = (s.threads i).asks ++ ((actors i).gathered.asked, got) ∷ [] }

  -- ---- the thread goes on

  abbrev Then : Bool → Gathered
  Then got =
      record
      (actors i).gathered { asked = but_own (actors i).thread ((actors i).gathered.asked + 1); team = if got then joined_by (actors i).gathered.asked (actors i).gathered.team else (actors i).gathered.team }

  mine : (actors i).thread ≡ i
  mine = (own p w m events s actors i before C at).thread

  asked_then : (got : Bool) (u : State) → u.count ≡ s.count
      → u.tasks ≡ on s.tasks (actors i).context.task.0 (relisted list) → u.regions ≡ s.regions
      → u.threads i ≡ listed got → HasAsked u i (going team.Ask (Then got) (actors i))
  asked_then got u count tasks regions thread =
      record {
        knows = knows_then s u (actors i) team.Ask (Then got) list refl refl refl tasks regions asks.knows;
        wanted = asks.wanted ∙ sym (ap (λ (h : Thread). h.wanted) thread);
        joined = joined_then got V i (actors i).gathered.team (s.threads i).asks asks.joined ∙ sym (ap (λ (h : Thread). i ∷ got_threads h.asks) thread);
        asked =
            ap (λ (h : Thread). map (λ x. x.0) h.asks) thread
            ∙ map-append (λ (x : ℕ × Bool). x.0) (s.threads i).asks ((V, got) ∷ [])
            ∙ ap (λ xs. xs ++ V ∷ []) asks.asked
            ∙ others_next i V other
            ∙ ap (others_below i) one_more ∙ sym (others_skip i (V + 1)) ∙ ap (λ j. others_below i (but_own j (V + 1))) (sym mine);
        few = subst (λ c. but_own (actors i).thread (V + 1) ≤ c) (sym count) (subst (λ j. but_own j (V + 1) ≤ s.count) (sym mine) (skip_known i (V + 1) s.count before.known (omega (arith, known))));
      }
    where
      one_more : suc V ≡ V + 1
      one_more = omega arith

  finish : (got : Bool) (u : State) → found_in m X == 1 ≡ got → Step p s i (event.Ask V got) u
      → u.environment ≡ s.environment → u.count ≡ s.count
      → u.tasks ≡ on s.tasks (actors i).context.task.0 (relisted list) → u.regions ≡ s.regions
      → u.threads i ≡ listed got
      → KeepsWords w (left_in m (op.Cas (of_thread w V ThreadClaim) 1 (2 + (actors i).thread)) X) u (all_owed actors) → ((j : ℕ) → j ≢ i → Spares m (left_in m (op.Cas (of_thread w V ThreadClaim) 1 (2 + (actors i).thread)) X) s j (actors j))
      → KeepsRule p w m events s actors i (op.Cas (of_thread w V ThreadClaim) 1 (2 + (actors i).thread)) X
      (asking p (V + 1) (gathering (record (actors i).gathered { team = if got then joined_by V (actors i).gathered.team else (actors i).gathered.team }) (actors i)), outcome.Event (event.Ask V got))
  finish got u is done environment count tasks regions thread words spares =
      go (nat_lt (length (Then got).team) (Then got).wanted && nat_lt (Then got).asked p.threads) refl
    where
      changes : ChangesTask s u i (actors i).context.task
      changes =
          own_changes p s i (actors i) (stands p w m events s actors i before C at) (relisted list) u
          (λ t live. relisted_alike list t) environment (ap (λ (h : Thread). h.current) thread) tasks regions

      few : length (Then got).team ≤ (Then got).wanted
      few =
          let size = size_then got V (actors i).gathered.team in let less = fit.1 in omega (arith, size, less)

      ready : (b : Bool)
          → (nat_lt (length (Then got).team) (Then got).wanted && nat_lt (Then got).asked p.threads) ≡ b
          → IsReady p w (left_in m (op.Cas (of_thread w V ThreadClaim) 1 (2 + (actors i).thread)) X) u i (actors i) (if b then team.Ask else team.LoadRegionLife 0) (Then got)
      ready =
          ready_behind p w m events s actors i before
          (left_in m (op.Cas (of_thread w V ThreadClaim) 1 (2 + (actors i).thread)) X) u (Then got) count
          (asked_then got u count tasks regions thread)
          (own p w m events s actors i before C at).fits.variables few
          (subst (λ j. but_own j (V + 1) ≢ i) (sym mine) (skip_other i (V + 1))) fit.0.0

      event_to : (d : TeamCounter) → owed (going d (Then got) (actors i)) ≡ owed (actors i)
          → list ≡ team_ahead p At (actors i).stack d
          → IsReady p w (left_in m (op.Cas (of_thread w V ThreadClaim) 1 (2 + (actors i).thread)) X) u i (actors i) d (Then got)
          → KeepsRule p w m events s actors i (op.Cas (of_thread w V ThreadClaim) 1 (2 + (actors i).thread)) X
          (going d (Then got) (actors i), outcome.Event (event.Ask V got))
      event_to d same ahead now =
          team_event p w m events s actors i before C at
          (op.Cas (of_thread w V ThreadClaim) 1 (2 + (actors i).thread)) X d (Then got)
          (event.Ask V got) item.Asks
          (item.Fork (asks_are_next p At (actors i) fit.0.0).0 ∷ working At (leaving p At (actors i).stack)) list u
          (λ none. none) (λ f e. absurd (cc e)) (taken got) done
          (ap (λ j. op.Cas (of_thread w V ThreadClaim) 1 (2 + j)) mine) words same spares changes tasks ahead now

      go : (b : Bool)
          → (nat_lt (length (Then got).team) (Then got).wanted && nat_lt (Then got).asked p.threads) ≡ b
          → KeepsRule p w m events s actors i (op.Cas (of_thread w V ThreadClaim) 1 (2 + (actors i).thread)) X
          (going (if b then team.Ask else team.LoadRegionLife 0) (Then got) (actors i), outcome.Event (event.Ask V got))
      go true e = event_to team.Ask (sym (owes p w m events s actors i before C at)) refl (ready true e)
      go false e =
          event_to (team.LoadRegionLife 0) (sym (owes p w m events s actors i before C at)) refl
          (ready false e)

  -- ---- words

  asks_listed : (got : Bool)
      → KeepsWords w m (record z { threads = put s.threads i (listed got) }) (all_owed actors)
  asks_listed got =
      thread_changes_keep w m z (all_owed actors) i (listed got)
      (words_moved p w m events s actors i before C at list) (before.rule.words.made i before.known).thread

  pub ask_keeps : StepKeeps p w m events s actors i (team_next p w (actors i) C) (λ old. (team_moved p w (actors i) C old, team_outcome p w (actors i) C old))
  ask_keeps = (
    X,
    record {
      there = record { field = record { from = omega arith; to = omega arith }; record_slot = record { made_by = subst (λ n. V < n) before.rule.within.count known; within = omega arith }; within = omega arith };
      address = refl;
    },
    go (found_in m X == 1) refl,
  )
    where
      go : (b : Bool) → found_in m X == 1 ≡ b
          → KeepsRule p w m events s actors i (op.Cas (of_thread w V ThreadClaim) 1 (2 + (actors i).thread)) X
          (asking p (V + 1) (gathering (record (actors i).gathered { team = if b then joined_by V (actors i).gathered.team else (actors i).gathered.team }) (actors i)), outcome.Event (event.Ask V b))
      go true e =
          let left : left_in m (op.Cas (of_thread w V ThreadClaim) 1 (2 + (actors i).thread)) X ≡ with_word m V threads 0 (number ThreadClaim) 0 (2 + i) =
          ap
          (λ (b : Bool). with_word m V threads 0 (number ThreadClaim) 0 (if b then 2 + (actors i).thread else found_in m X)) e
          ∙ ap (λ j. with_word m V threads 0 (number ThreadClaim) 0 (2 + j)) mine in
          let listed_words : KeepsWords w m (record z { threads = put s.threads i (listed true) }) (all_owed actors) =
          asks_listed true in
          let u : State = asked z i V true in
          finish true u e (steps true e) refl refl refl refl
          (put_other (put s.threads i (listed true)) V i (record (put s.threads i (listed true) V) { claim = claim.By i }) (λ same. other (sym same)) ∙ put_same s.threads i (listed true))
          (subst (λ (n : Memory). KeepsWords w n u (all_owed actors)) (sym left)
          (thread_stores_keep w m (record z { threads = put s.threads i (listed true) }) (all_owed actors) V (record (put s.threads i (listed true) V) { claim = claim.By i }) ThreadClaim (2 + i) listed_words (λ same. absurd (omega (arith, same)))
          (claim_stored w V (m V threads 0) (thread_told (put s.threads i (listed true) V)) (listed_words.made V known).thread (claim.By i))))
          (λ j ne. subst (λ (n : Memory). Spares m n s j (actors j)) (sym left) (spares_threads m s V ThreadClaim (2 + i) j (actors j) (λ same. absurd (omega (arith, same)))))
      go false e =
          let left : left_in m (op.Cas (of_thread w V ThreadClaim) 1 (2 + (actors i).thread)) X ≡ m =
          ap
          (λ (b : Bool). with_word m V threads 0 (number ThreadClaim) 0 (if b then 2 + (actors i).thread else found_in m X)) e
          ∙ word_back m V threads 0 (number ThreadClaim) 0 in
          let u : State = asked z i V false in
          finish false u e (steps false e) refl refl refl refl (put_same s.threads i (listed false))
          (subst (λ (n : Memory). KeepsWords w n u (all_owed actors)) (sym left) (asks_listed false))
          (λ j ne. subst (λ (n : Memory). Spares m n s j (actors j)) (sym left) (spares_none m s j (actors j)))

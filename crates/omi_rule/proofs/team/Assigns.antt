-- The tasks of the members that wait for their threads are stored into the assign words of these threads.
use Rattle.std.proofs.Common.{◌≡◌, ◌+◌, ◌==◌, ◌<◌, nat_lt, ℕ, zero, suc, inl, Bool, true, false, List, [], ◌∷◌, length, drop, Option, refl, sym, ap, ◌∙◌, subst, arith, eq-eqb, eqb-true, ltb-true, if◌then◌else◌}
use Rattle.std.specs.List.{All}
use Rattle.std.proofs.lemmas.Bool.Decides.{nat_tests}
use Rattle.std.proofs.lemmas.List.Elements.{All-head}
use Rattle.omi_word.specs.declared.op.Op.TheVariants as op
use Rattle.omi_script.specs.declared.env.Env.{Env}
use Rattle.omi_script.specs.declared.program.Program.{Program}
use Rattle.omi_model.specs.declared.event.Event.{Event}
use Rattle.omi_model.specs.declared.id.Tid.{Tid}
use Rattle.omi_model.specs.declared.task.Task.{Task as Model}
use Rattle.omi_model.specs.Changes.{encounter_by}
use Rattle.omi_model.specs.LawClaims.{IsMeantFor}
use Rattle.omi_model.specs.State.{State}
use Rattle.omi_model.proofs.claims.ClaimLaws.{claims_kept}
use Rattle.omi_layout.specs.declared.field.Field.TheVariants.{RegionLeft, TaskSlots, ThreadAssign}
use Rattle.omi_layout.specs.Field.{regions, tasks, threads}
use Rattle.omi_layout.specs.Memory.{Memory, replace_at, with_word}
use Rattle.omi_layout.specs.Named.{number}
use Rattle.omi_layout.proofs.Puts.{record_stays, word_read, word_stays}
use Rattle.omi_pc.specs.declared.actor.Actor.{Actor}
use Rattle.omi_pc.specs.declared.counter.Counter.{Counter}
use Rattle.omi_pc.specs.declared.counter.Counter.TheVariants as counter
use Rattle.omi_pc.specs.declared.frame.Frame.{Frame}
use Rattle.omi_pc.specs.declared.frame.Opened.{Opened}
use Rattle.omi_pc.specs.declared.frame.Opened.TheVariants as opened
use Rattle.omi_pc.specs.declared.place.Place.{Place}
use Rattle.omi_pc.specs.declared.team_counter.TeamCounter.{TeamCounter}
use Rattle.omi_pc.specs.declared.team_counter.TeamCounter.TheVariants as team
use Rattle.omi_pc.specs.declared.team_counter.WorkerCounter.TheVariants as worker
use Rattle.omi_pc.specs.Fits.{FitsTeam}
use Rattle.omi_pc.specs.Moves.{back_to_work}
use Rattle.omi_pc.specs.OpenBodies.{IsAtStart, IsMaster, StartsWorking}
use Rattle.omi_rep.specs.Records.{task_address}
use Rattle.omi_rep.specs.declared.outcome.Outcome.TheVariants as outcome
use Rattle.omi_rule_words.specs.Owes.{Owed, all_owed, nothing, owed}
use Rattle.omi_rule_words.specs.Threads.{WaitsFor}
use Rattle.omi_rule_words.specs.Words.{KeepsWords}
use Rattle.omi_rule_words.proofs.Assigns.{assign_stores_keep}
use Rattle.omi_rule_words.proofs.Forks.{address_some}
use Rattle.omi_step_words.specs.Members.{member_of}
use Rattle.omi_step_words.specs.Moving.{to_team}
use Rattle.omi_step_words.specs.Words.{of_thread}
use Rattle.omi_fork.specs.TeamParts.{team_size}
use Rattle.omi_fork.specs.TeamSteps.{team_moved, team_next, team_outcome}
use Rattle.omi_rule.specs.Ahead.{IsAhead}
use Rattle.omi_rule.specs.Chains.{encounter_of, IsFront}
use Rattle.omi_rule.specs.Rows.{KeepsRow}
use Rattle.omi_rule.specs.Rule.{KeepsThread}
use Rattle.omi_rule.specs.Steps.{KeepsRule, RecordWord, StepKeeps}
use Rattle.omi_rule.proofs.Assembly.{Before, not_less, quiet_keeps}
use Rattle.omi_rule.proofs.Begun.{works, works_owing_nothing}
use Rattle.omi_rule.proofs.OwnTask.{top}
use Rattle.omi_rule.proofs.Owing.{owed_after}
use Rattle.omi_rule.proofs.RowsStay.{Spares}
use Rattle.omi_rule.proofs.plain.OwnEvents.{environment_stays}
use Rattle.omi_rule.proofs.team.Within.{fits, goes_on, own, owes, placed, standing}

-- the members from one on, and none behind the last
pub from_member : (xs : List (Tid × ℕ)) (n : ℕ) → n < length xs → drop n xs ≡ member_of xs n ∷ drop (n + 1) xs
from_member xs n within = go xs n within ∙ ap (λ k. member_of xs n ∷ drop k xs) more
  where
    more : suc n ≡ n + 1
    more = omega arith

    go : (xs : List (Tid × ℕ)) (n : ℕ) → n < length xs → drop n xs ≡ member_of xs n ∷ drop (suc n) xs
    go [] n within = absurd (omega (arith, within))
    go (x ∷ xs) zero within = refl
    go (x ∷ xs) (suc n) within = go xs n (omega (arith, within))

pub none_from : (xs : List (Tid × ℕ)) → drop (length xs) xs ≡ []
none_from [] = refl
none_from (x ∷ xs) = none_from xs

-- member 0 stores a working state before its body
pub master_starts : (fs : List Frame) → IsAtStart IsMaster fs → IsAtStart StartsWorking fs
master_starts [] o = absurd o
master_starts (f ∷ fs) (first, is) = (first, go f.opened is)
  where
    go : (x : Opened) → IsMaster x → StartsWorking x
    go (opened.Master saved) o = tt
    go opened.Main o = absurd o
    go opened.Worker o = absurd o
    go (opened.Task w saved) o = absurd o
    go opened.Call o = absurd o
    go (opened.Repeat left) o = absurd o
    go (opened.Critical k) o = absurd o
    go opened.Taskgroup o = absurd o

module _ (p : Program) (w : List ℕ) (m : Memory) (events : List (ℕ × Event)) (s : State) (actors : ℕ → Actor)
    (i : ℕ) (before : Before p w m events s actors i) (member : ℕ)
    (at : (actors i).counter ≡ counter.Team (team.Assign member)) where
  abbrev C : TeamCounter
  C = team.Assign member

  abbrev Team : List (Tid × ℕ)
  Team = (actors i).gathered.team

  abbrev Task : Tid
  Task = (member_of (actors i).gathered.team member).0

  abbrev To : ℕ
  To = (member_of (actors i).gathered.team member).1

  abbrev Rest : List (Tid × ℕ)
  Rest = drop (member + 1) (actors i).gathered.team

  abbrev X : RecordWord
  X = record { creator = (member_of (actors i).gathered.team member).1; slot = 0; field = ThreadAssign; place = 0 }

  abbrev N : Memory
  N =
      with_word m (member_of (actors i).gathered.team member).1 threads 0 (number ThreadAssign) 0
      (task_address w (member_of (actors i).gathered.team member).0)

  fit : FitsTeam p (actors i) C
  fit = fits p w m events s actors i before C at

  to_known : To < s.count
  to_known =
      let there = (placed p w m events s actors i before C at).0 member fit.2 in let count = before.rule.within.count in omega (arith, there, count)

  assigns : (owed (actors i)).assigns ≡ (Task, To) ∷ Rest
  assigns =
      ap (λ (x : Owed). x.assigns) (owes p w m events s actors i before C at) ∙ from_member Team member fit.2

  waits : WaitsFor s To Task
  waits =
      All-head (λ (y : Tid × ℕ). WaitsFor s y.1 y.0) (member_of Team member) Rest
      (subst (All (λ (y : Tid × ℕ). WaitsFor s y.1 y.0)) assigns (before.rule.words.made i before.known).objects.assigns)

  meant : (k : Tid) → WaitsFor s To k → IsMeantFor s k To
  meant k o = record { task = o.task; live = o.live; waiting = o.progress; thread = o.thread }

  alone : (k : Tid) → WaitsFor s To k → k ≡ Task
  alone k o = ((claims_kept p events s before.rule.reached To).meant Task (meant Task waits)).2 k (meant k o)

  words : (b : Actor) → owed b ≡ record nothing { assigns = Rest }
      → KeepsWords w N s (all_owed (replace_at actors i b))
  words b is =
      owed_after w N s actors i b (record nothing { assigns = Rest }) is
      (subst (λ (x : Owed). KeepsWords w N s (replace_at (all_owed actors) i (record x { assigns = Rest }))) (owes p w m events s actors i before C at)
      (assign_stores_keep w m s (all_owed actors) i To Task Rest before.rule.words before.known to_known assigns waits alone (address_some w before.valid Task)))

  -- a thread that is about to clear its assign word finds the same there
  spared : (j : ℕ) → Spares m N s j (actors j)
  spared j = record {
    regions_same = λ k e. record_stays m To threads 0 (number ThreadAssign) 0 (task_address w Task) j regions k (λ _ kind _. absurd (omega (arith, kind)));
    tasks_same = λ k e. record_stays m To threads 0 (number ThreadAssign) 0 (task_address w Task) j tasks k (λ _ kind _. absurd (omega (arith, kind)));
    assign_same = λ t is. go t is (j == To) refl;
    slots_kept = λ row t place live im is within empty. word_stays m To threads 0 (number ThreadAssign) 0 (task_address w Task) row.0.creator tasks row.0.slot (number TaskSlots) place (λ _ kind _ _ _. absurd (omega (arith, kind))) ∙ empty;
    hand_same = λ k t g h known is live deferred of. word_stays m To threads 0 (number ThreadAssign) 0 (task_address w Task) k.0.creator tasks k.0.slot (number g) h (λ _ kind _ _ _. absurd (omega (arith, kind)));
    left_kept = λ k. not_less (m j regions k) (N j regions k) (number RegionLeft) 0 (record_stays m To threads 0 (number ThreadAssign) 0 (task_address w Task) j regions k (λ _ kind _. absurd (omega (arith, kind))));
  }
    where
      go : (t : Place) → (actors j).counter ≡ counter.Worker (worker.ClearAssign t) → (b : Bool) → j == To ≡ b
          → N j threads 0 (number ThreadAssign) 0 ≡ m j threads 0 (number ThreadAssign) 0
      go t is false e =
          word_stays m To threads 0 (number ThreadAssign) 0 (task_address w Task) j threads 0
          (number ThreadAssign) 0 (λ maker _ _ _ _. cc (sym (eq-eqb j To maker), e))
      go t is true e =
          let same : j ≡ To = eqb-true j To e in
          let (k, other, place, word) =
          subst (λ (x : Counter). KeepsRow p w m s j (actors j) x) is
          (before.rule.threads j (subst (λ n. n < s.count) (sym same) to_known)).row in
          subst (λ n. N n threads 0 (number ThreadAssign) 0 ≡ m j threads 0 (number ThreadAssign) 0)
          (sym same)
          (word_read m To threads 0 (number ThreadAssign) 0 (task_address w Task) ∙ ap (task_address w) (sym (alone k (subst (λ n. WaitsFor s n k) same other))) ∙ sym word)

  step : (b : Actor) → owed b ≡ record nothing { assigns = Rest } → KeepsThread p w N events s i b
      → KeepsRule p w m events s actors i (op.Store (of_thread w To ThreadAssign) (task_address w Task)) X (b, outcome.Quiet)
  step b is thread =
      quiet_keeps p w m events s actors i before
      (op.Store (of_thread w To ThreadAssign) (task_address w Task)) X (b, outcome.Quiet) refl (words b is)
      (λ j other. spared j) thread

  -- the last task was assigned, and member 0 works
  working_now : KeepsThread p w N events s i (back_to_work p (actors i))
  working_now =
      let (f, fs, stack, o) = standing p w m events s actors i before C at in
      let mine = own p w m events s actors i before C at in
      works p w N events s i (actors i) f fs stack mine.thread
      (record { thread = mine.fits.thread; variables = mine.fits.variables; bodies = mine.fits.bodies; some = subst (λ (xs : List Frame). 0 < length xs) (sym stack) (omega arith) })
      (inl (master_starts (actors i).stack fit.0)) mine.placed.bodies
      (ap (λ (x : Option Model). (encounter_by s x).debug) (top p s i (actors i) o).live ∙ ap (λ (e : Env). e.debug) (environment_stays p events s before.rule.reached))
      o.current o.bodies mine.runs
      (λ t live. subst (λ (x : Counter). IsAhead p (encounter_of s (actors i).context) (actors i).stack x t.list) at (o.ahead t live))
      (λ t live. subst (λ (x : Counter). IsFront x t.frees) at (o.front t live))

  pub assign_keeps : StepKeeps p w m events s actors i (team_next p w (actors i) C) (λ old. (team_moved p w (actors i) C old, team_outcome p w (actors i) C old))
  assign_keeps = (
    X,
    record {
      there = record { field = record { from = omega arith; to = omega arith }; record_slot = record { made_by = (placed p w m events s actors i before C at).0 member fit.2; within = omega arith }; within = omega arith };
      address = refl;
    },
    go (nat_lt (member + 1) (team_size (actors i))) refl,
  )
    where
      go : (b : Bool) → nat_lt (member + 1) (team_size (actors i)) ≡ b
          → KeepsRule p w m events s actors i (op.Store (of_thread w To ThreadAssign) (task_address w Task)) X
          (if b then to_team (team.Assign (member + 1)) (actors i) else back_to_work p (actors i), outcome.Quiet)
      go true e =
          let next : TeamCounter = team.Assign (member + 1) in
          step (to_team next (actors i)) refl
          (goes_on p w m events s actors i before C at N next (actors i).gathered (own p w m events s actors i before C at).fits.variables refl
          (fit.0, omega arith, ltb-true (member + 1) (team_size (actors i)) e, fit.3)
          (placed p w m events s actors i before C at)
          tt)
      go false e =
          let (f, fs, stack, o) = standing p w m events s actors i before C at in
          let all : member + 1 ≡ length Team = (let h = fit.2 in grind (arith, nat_tests, h)) in
          step (back_to_work p (actors i))
          (works_owing_nothing p (actors i) f fs stack ∙ ap (λ (xs : List (Tid × ℕ)). record nothing { assigns = xs }) (sym (ap (λ k. drop k Team) all ∙ none_from Team)))
          working_now

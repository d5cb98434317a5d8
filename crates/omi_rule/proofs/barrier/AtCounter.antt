-- A thread at a counter of a member, at a barrier, at a join or in a wait: its task, the words of its region, and the thread where only its counter changes.
use Rattle.std.proofs.Common.{◌≡◌, ◌<◌, ℕ, List, ◌∷◌, Option, Some, sym, ap, ◌∙◌, subst}
use Rattle.omi_word.specs.declared.op.Op.{Op}
use Rattle.omi_word.specs.declared.op.Op.TheVariants as op
use Rattle.omi_script.specs.declared.env.Env.{Env}
use Rattle.omi_script.specs.declared.program.Program.{Program}
use Rattle.omi_model.specs.declared.encounter.Encounter.{Encounter}
use Rattle.omi_model.specs.declared.event.Event.{Event}
use Rattle.omi_model.specs.declared.id.Rid.{Rid}
use Rattle.omi_model.specs.declared.region.Region.{Region}
use Rattle.omi_model.specs.declared.task.Task.{Task}
use Rattle.omi_model.specs.Changes.{OfCurrentRegion, encounter_by}
use Rattle.omi_model.specs.State.{State, region_of}
use Rattle.omi_model.proofs.Slots.{found_live, some_same}
use Rattle.omi_model.specs.declared.freeable.Freeable.{Freeable}
use Rattle.omi_layout.specs.declared.field.Field.{Field}
use Rattle.omi_layout.specs.Field.{kind_of, regions}
use Rattle.omi_layout.specs.Memory.{IsRecordWord, Memory, Rec}
use Rattle.omi_layout.specs.Named.{number}
use Rattle.omi_layout.specs.Place.{IsSlot}
use Rattle.omi_layout.specs.Table.{width}
use Rattle.omi_layout.proofs.Numbers.{numbered_field}
use Rattle.omi_pc.specs.declared.actor.Actor.{Actor}
use Rattle.omi_pc.specs.declared.counter.Counter.{Counter}
use Rattle.omi_pc.specs.declared.counter.Counter.TheVariants as counter
use Rattle.omi_pc.specs.declared.frame.Frame.{Frame}
use Rattle.omi_pc.specs.declared.team_counter.WorkerCounter.{WorkerCounter}
use Rattle.omi_pc.specs.Fits.{FitsCounter}
use Rattle.omi_pc.specs.OpenBodies.{AreOpen, IsContext}
use Rattle.omi_rep.specs.declared.outcome.Outcome.TheVariants as outcome
use Rattle.omi_rep.proofs.Codes as codes
use Rattle.omi_rule_words.specs.Objects.{KeepsRegion}
use Rattle.omi_rule_words.specs.Owes.{all_owed, owed, owed_at}
use Rattle.omi_rule_words.specs.Words.{region_in}
use Rattle.omi_rule_words.proofs.OtherCounts.{name_of_slot}
use Rattle.omi_step_words.specs.Placed.{AreContextsPlaced, IsContextPlaced, IsPlacedCounter}
use Rattle.omi_pc.specs.declared.team_counter.JoinCounter.TheVariants as join
use Rattle.omi_pc.specs.declared.task_counter.FinishCounter.TheVariants as finish
use Rattle.omi_rule.specs.Ahead.{IsAhead}
use Rattle.omi_rule.specs.Chains.{KeepsContext, StandsInTask, encounter_of, IsFront, IsPassable}
use Rattle.omi_rule.specs.Rows.{KeepsRow}
use Rattle.omi_rule.specs.Rule.{HasEnded, KeepsThread}
use Rattle.omi_rule.specs.Steps.{KeepsRule, RecordWord, found_in, left_in}
use Rattle.omi_rule.specs.Waits.{Waits}
use Rattle.omi_rule.proofs.SameBodies.{same_bodies}
use Rattle.omi_rule.proofs.Assembly
use Rattle.omi_rule.proofs.Assembly.{Before, load_stays, quiet_stays}
use Rattle.omi_rule.proofs.OwnTask.{in_task, is_current, own_ahead, top, own_front}
use Rattle.omi_rule.proofs.plain.OwnEvents.{environment_stays}

-- the thread with another counter
abbrev pub at_counter : Counter → Actor → Actor
at_counter x a = record a { counter = x }

-- at a barrier, at a join, in a wait or at the end of an explicit task
abbrev pub IsOfMember : Counter → Type 0
IsOfMember (counter.Barrier c) = Unit {0}
IsOfMember (counter.Join c) = Unit {0}
IsOfMember (counter.Look c) = Unit {0}
IsOfMember (counter.Finish c) = Unit {0}
IsOfMember x = ⊥

-- where a step may commit an event of the list: nothing has to be given back first
abbrev pub IsEventful : Counter → Type 0
IsEventful (counter.Barrier c) = Unit {0}
IsEventful (counter.Join join.LoadLeft) = Unit {0}
IsEventful (counter.Join join.Join) = Unit {0}
IsEventful (counter.Look c) = Unit {0}
IsEventful (counter.Finish finish.Finish) = Unit {0}
IsEventful x = ⊥

abbrev pub eventful_member : (x : Counter) → IsEventful x → IsOfMember x
eventful_member (counter.Barrier c) is = tt
eventful_member (counter.Join c) is = tt
eventful_member (counter.Look c) is = tt
eventful_member (counter.Finish c) is = tt
eventful_member x is = is

pub eventful_passes : (x : Counter) → IsEventful x → (o : Option Freeable) → IsFront x o → IsPassable o
eventful_passes (counter.Barrier c) is o front = front
eventful_passes (counter.Join join.LoadLeft) is o front = front
eventful_passes (counter.Join join.Join) is o front = front
eventful_passes (counter.Look c) is o front = front
eventful_passes (counter.Finish finish.Finish) is o front = front
eventful_passes x is o front = absurd is

module _ (p : Program) (w : List ℕ) (m : Memory) (events : List (ℕ × Event)) (s : State) (actors : ℕ → Actor)
    (i : ℕ) (before : Before p w m events s actors i) (x : Counter) (at : (actors i).counter ≡ x)
    (of_member : IsOfMember x) where
  abbrev pub a : Actor
  a = actors i

  abbrev pub own : KeepsThread p w m events s i (actors i)
  own = before.rule.threads i before.known

  busy : (d : WorkerCounter) → a.counter ≡ counter.Worker d → ⊥
  busy d e = subst IsOfMember (sym at ∙ e) of_member

  -- ---- its task

  pub body : (f : Frame) × (fs : List Frame) × (a.stack ≡ f ∷ fs) × StandsInTask p s i a
  body = in_task p s i a busy own.stands

  abbrev pub stands : StandsInTask p s i (actors i)
  stands = body.3

  abbrev pub sees : Encounter
  sees = encounter_of s a.context

  abbrev pub here : KeepsContext s i (actors i).context
  here = top p s i a stands

  pub fits_counter : FitsCounter p a x
  fits_counter = subst (λ (d : Counter). FitsCounter p a d) at own.fits.counter

  pub placed_counter : IsPlacedCounter w a x
  placed_counter = subst (λ (d : Counter). IsPlacedCounter w a d) at own.placed.counter

  pub row_is : KeepsRow p w m s i a x
  row_is = subst (λ (d : Counter). KeepsRow p w m s i a d) at own.row

  pub ahead_is : IsAhead p sees a.stack x here.task.list
  ahead_is = subst (λ (d : Counter). IsAhead p sees a.stack d here.task.list) at (own_ahead p s i a stands)

  pub front_is : IsFront x here.task.frees
  front_is = subst (λ (d : Counter). IsFront d here.task.frees) at (own_front p s i a stands)

  pub sees_number : sees.number ≡ a.context.number
  sees_number = ap (λ (o : Option Task). (encounter_by s o).number) here.live ∙ here.number

  pub sees_debug : sees.debug ≡ p.env.debug
  sees_debug =
      ap (λ (o : Option Task). (encounter_by s o).debug) here.live
      ∙ ap (λ (e : Env). e.debug) (environment_stays p events s before.rule.reached)

  pub owes_now : owed a ≡ owed_at a.context a.gathered.team x
  owes_now = ap (λ (d : Counter). owed_at a.context a.gathered.team d) at

  pub is_context : IsContext p a.context
  is_context = let (f, fs, is, o) = body in (subst (AreOpen p a.context) is own.fits.bodies).0.context

  -- ---- its region

  pub region_there : region_of s here.task.region ≡ Some here.region
  region_there = ap (region_of s) here.region_is ∙ here.found

  pub of_own_region : (P : Task → Region → Type 0) → P here.task here.region
      → OfCurrentRegion s i (λ k t r. P t r)
  of_own_region P o = (a.context.task, here.task, here.region, is_current p s i a stands, region_there, o)

  pub wide : (f : ℕ) → 0 < width w f
  wide f = codes.wide w before.valid f

  pub context_placed : IsContextPlaced w a.context
  context_placed = let (f, fs, is, o) = body in (subst (AreContextsPlaced w a.context) is own.placed.bodies).0

  -- a word of the region
  abbrev pub word_of : Field → RecordWord
  word_of f = record { creator = a.context.region.0.creator; slot = a.context.region.0.slot; field = f; place = 0 }

  pub region_word : (f : Field) → kind_of (number f) ≡ regions
      → IsRecordWord w a.context.region.0.creator a.context.region.0.slot (number f) 0
  region_word f kind = record {
    field = numbered_field f;
    record_slot = subst (λ q. IsSlot w q a.context.region.0.creator a.context.region.0.slot) (sym kind) context_placed.region;
    within = wide (number f);
  }

  abbrev pub region_record : Rec
  region_record = m a.context.region.0.creator regions a.context.region.0.slot

  -- the words of the region are its codes
  pub keeps_region : KeepsRegion w s (all_owed actors) a.context.region region_record here.region
  keeps_region =
      let n : Rid = a.context.region in
      let within = before.rule.within.regions n.0.creator n.0.slot n.0.generation here.region here.found in
      let maker : n.0.creator < s.count =
      subst (λ k. n.0.creator < k) (sym before.rule.within.count) within.maker in
      let named : region_in n.0.creator n.0.slot (s.regions n.0.creator n.0.slot) ≡ n =
      ap (λ x. record { 0 = x }) (name_of_slot s.regions n.0 here.region here.found) in
      subst (λ (q : Rid). KeepsRegion w s (all_owed actors) q region_record here.region) named
      (((before.rule.words.made n.0.creator maker).regions n.0.slot within.place).live here.region (found_live n.0.generation (s.regions n.0.creator n.0.slot) here.region here.found))

  -- ---- another counter

  -- what a thread at a counter needs, where this is the list of its task
  pub record GoesTo (to : Counter) : Type 0 where
    pub fits : FitsCounter p (at_counter to a) to
    pub placed : IsPlacedCounter w (at_counter to a) to
    pub ahead : IsAhead p sees a.stack to here.task.list
    pub front : IsFront to here.task.frees
    pub owes : owed (at_counter to a) ≡ owed_at a.context a.gathered.team x
    pub row : KeepsRow p w m s i (at_counter to a) to
    pub ended : HasEnded events i to

  -- the thread at another counter, whatever it owes there
  pub record StandsAt (n : Memory) (to : Counter) : Type 0 where
    pub fits : FitsCounter p (at_counter to a) to
    pub placed : IsPlacedCounter w (at_counter to a) to
    pub ahead : IsAhead p sees a.stack to here.task.list
    pub front : IsFront to here.task.frees
    pub row : KeepsRow p w n s i (at_counter to a) to
    pub ended : HasEnded events i to

  pub thread_with : (n : Memory) (to : Counter) → StandsAt n to
      → KeepsThread p w n events s i (at_counter to a)
  thread_with n to goes =
      let (f, fs, is_stack, o) = body in
      same_bodies p w m events s i a own f fs is_stack o n to a.gathered own.fits.variables goes.fits goes.placed
      (λ t live. subst (λ (v : Task). IsAhead p sees a.stack to v.list) (some_same here.live live) goes.ahead)
      (λ t live. subst (λ (v : Task). IsFront to v.frees) (some_same here.live live) goes.front) goes.row goes.ended

  thread_at : (to : Counter) → GoesTo to → KeepsThread p w m events s i (at_counter to a)
  thread_at to goes =
      thread_with m to
      (record { fits = goes.fits; placed = goes.placed; ahead = goes.ahead; front = goes.front; row = goes.row; ended = goes.ended })

  owes_at : (to : Counter) → GoesTo to → owed (at_counter to a) ≡ owed a
  owes_at to goes = goes.owes ∙ sym owes_now

  -- an operation that leaves the memory and leads to another counter
  pub same_quiet : (o : Op) (y : RecordWord) (to : Counter) → left_in m o y ≡ m → GoesTo to
      → KeepsRule p w m events s actors i o y (at_counter to a, outcome.Quiet)
  same_quiet o y to same goes =
      quiet_stays p w m events s actors i before o y (at_counter to a) same (owes_at to goes)
      (thread_at to goes)

  pub load_quiet : (address : ℕ) (y : RecordWord) (to : Counter) → GoesTo to
      → KeepsRule p w m events s actors i (op.Load address) y (at_counter to a, outcome.Quiet)
  load_quiet address y to goes =
      load_stays p w m events s actors i before address y (at_counter to a) (owes_at to goes)
      (thread_at to goes)

  -- and one at which the thread waits
  pub load_waits : (address : ℕ) (y : RecordWord) (to : Counter) → GoesTo to
      → Waits w s i address (found_in m y)
      → KeepsRule p w m events s actors i (op.Load address) y (at_counter to a, outcome.NotReady address (found_in m y))
  load_waits address y to goes waits =
      Assembly.load_waits p w m events s actors i before address y (at_counter to a) waits (owes_at to goes)
      (thread_at to goes)

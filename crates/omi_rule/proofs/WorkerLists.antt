-- Behind its task a worker is idle again, and offers itself: this stands in its own list from the begin of its first implicit task on.
use Rattle.std.proofs.Common.{◌≡◌, ◌≢◌, ℕ, Bool, List, [], ◌∷◌, Option, Some, None, refl, sym, ap, ◌∙◌, subst, if◌then◌else◌}
use Rattle.omi_script.specs.declared.env.Env.{Env}
use Rattle.omi_script.specs.declared.program.Program.{Program}
use Rattle.std.specs.Option.{option_and_then}
use Rattle.omi_model.specs.declared.event.Event.{Event}
use Rattle.omi_model.specs.declared.event.Event.TheVariants as event
use Rattle.omi_model.specs.declared.id.Tid.{Tid}
use Rattle.omi_model.specs.declared.item.Item.{Item}
use Rattle.omi_model.specs.declared.item.Item.TheVariants as item
use Rattle.omi_model.specs.declared.thread.Thread.{Thread}
use Rattle.omi_model.specs.Changes.{encounter, encounter_by}
use Rattle.omi_model.specs.Lists.{stays, take_item}
use Rattle.omi_numbers.specs.declared.states.TheConstants.{IDLE}
use Rattle.omi_model.specs.Opening.{opening}
use Rattle.omi_model.specs.Reached.{Reached, Step}
use Rattle.omi_model.specs.Rules as Rules
use Rattle.omi_model.specs.State.{State, task_of}
use Rattle.omi_model.proofs.EachThread.{EachThread, IsThreadLaw, thread_step_from}
use Rattle.omi_model.proofs.OpeningObjects.{each_first_thread}
use Rattle.omi_model.proofs.ReachedStates.{over_reached}
use Rattle.omi_model.proofs.Slots.{none_some, some_same}
use Rattle.omi_model.proofs.Steps.{IsMove, move_of, moved_on}
use Rattle.omi_model.proofs.claims.ClaimLaws.{claims_kept}
use Rattle.omi_rule.specs.Chains.{offering}
use Rattle.omi_rule.proofs.plain.OwnEvents.{environment_stays}

-- what stands behind the task of a worker
abbrev pub behind_task : Program → List Item
behind_task p = if p.env.debug then item.State IDLE 0 ∷ offering else offering

abbrev pub WaitsBehind : Program → ℕ → Thread → Type 0
WaitsBehind p i h = (k : Tid) → h.current ≡ Some k → i ≢ 0 → h.list ≡ behind_task p

module _ (p : Program) (events : List (ℕ × Event)) (s : State) (reached : Reached p events s) (i : ℕ)
    (e : Event) (next : State) (step : Step p s i e next) where
  m : IsMove p s i e next
  m = move_of p s i e next step

  -- and it stands there once the task is to begin
  abbrev Begins : ℕ → Thread → Type 0
  Begins j h =
      WaitsBehind p j h × ((task : Tid) → e ≡ event.ImplicitBegin task → j ≡ i → h.list ≡ behind_task p)

  first : (task : Tid) → e ≡ event.ImplicitBegin task → (s.threads i).current ≡ None
      → take_item p (encounter s i) e (s.threads i).list ≡ Some (m.item, m.behind)
      → stays (encounter s i) e m.item m.behind ≡ behind_task p
  first task is none taken =
      let may : Rules.Rule s i (event.ImplicitBegin task) m.item =
      subst (λ (x : Event). Rules.Rule s i x m.item) is m.rule in
      let (team, by, one) =
      (claims_kept p events s reached i).meant task
      (record { task = may.member; live = may.live; waiting = may.waiting; thread = may.mine }) in
      let here : take_item p (encounter s i) (event.ImplicitBegin task) (item.Serve ∷ []) ≡ Some (m.item, m.behind) =
      subst (λ (x : Event). take_item p (encounter s i) x (item.Serve ∷ []) ≡ Some (m.item, m.behind)) is
      (subst (λ (xs : List Item). take_item p (encounter s i) e xs ≡ Some (m.item, m.behind)) team.ahead taken) in
      let same : (item.Serve, []) ≡ (m.item, m.behind) = some_same refl here in
      let seen : (encounter s i).debug ≡ p.env.debug =
      ap (λ (k : Option Tid). (encounter_by s (option_and_then (task_of s) k)).debug) none
      ∙ ap (λ (x : Env). x.debug) (environment_stays p events s reached) in
      ap (λ (x : Item × List Item). stays (encounter s i) e x.0 x.1) (sym same)
      ∙ ap (λ (b : Bool). if b then item.State IDLE 0 ∷ offering else offering) seen

  law : (z : State) → EachThread Begins z → IsThreadLaw p z i e next Begins
  law z all = record {
    begins = λ may r. (λ k is. r.0 k is, r.1);
    offers = λ may is r. (λ k is. r.0 k is, r.1);
    wants = λ n num of is r. (λ k is. r.0 k is, r.1);
    asks = λ w got may is r. (λ k is. r.0 k is, r.1);
    claims = λ w may is r. (λ k is. r.0 k is, r.1);
    shows = λ state wait is r. (λ k is. r.0 k is, r.1);
    forks = λ region team f k t q is found may made r. (λ n now ne. r.0 k is.name ne, r.1);
    joins_team = λ task may is r. (λ n now ne. r.1 task is refl, r.1);
    ends = λ k t q is found im other end r. (λ n now ne. absurd (none_some refl now), r.1);
    joins = λ k t q is found may same r. (λ n now ne. r.0 k is.name ne, r.1);
    makes = λ task f final k t is made r. (λ n now ne. r.0 k is.name ne, r.1);
    starts = λ task x k t is may new r. (λ n now ne. r.0 k is.name ne, r.1);
    finishes = λ k t is ex end r. (λ n now ne. r.0 k is.name ne, r.1);
  }

  behind_step : EachThread (WaitsBehind p) s → EachThread (WaitsBehind p) next
  behind_step all j =
      (thread_step_from p (WaitsBehind p) Begins s i e next m
      (λ none taken h. (λ k is ne. absurd (none_some none is), λ task is same. first task is none taken))
      (λ j other h. (h, λ task is same. absurd (busy j other task is same)))
      (λ each. law (moved_on s i e m.item m.behind) each) all j).0
    where
      busy : (j : ℕ) → (j ≡ i → (s.threads i).current ≡ None → ⊥) → (task : Tid)
          → e ≡ event.ImplicitBegin task → j ≡ i → ⊥
      busy j other task is same = other same (subst (λ (x : Event). Rules.Rule s i x m.item) is m.rule).idle

pub worker_lists : (p : Program) (events : List (ℕ × Event)) (s : State) → Reached p events s
    → EachThread (WaitsBehind p) s
worker_lists p events s reached =
    over_reached p (EachThread (WaitsBehind p))
    (λ first u before i e next step h. behind_step p first u before i e next step h) []
    (opening p) refl events s reached
    (each_first_thread p (WaitsBehind p) (λ k is ne. absurd (ne refl)) (λ j k is ne. absurd (none_some refl is)))

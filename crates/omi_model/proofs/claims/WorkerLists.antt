-- The list of a thread without a task, or under its tasks: a worker begins, offers itself, and serves in one team after another.
use Rattle.std.proofs.Common.{◌≡◌, ℕ, Bool, true, false, List, [], ◌∷◌, Option, Some, None, if◌then◌else◌, refl, sym, ap, ◌∙◌, subst}
use Rattle.omi_script.specs.declared.program.Program.{Program}
use Rattle.omi_model.specs.declared.encounter.Encounter.{Encounter}
use Rattle.omi_model.specs.declared.event.Event.{Event}
use Rattle.omi_model.specs.declared.event.Event.TheVariants as event
use Rattle.omi_model.specs.declared.id.Tid.{Tid}
use Rattle.omi_model.specs.declared.item.Item.{Item}
use Rattle.omi_model.specs.declared.item.Item.TheVariants as item
use Rattle.omi_model.specs.declared.thread.Thread.{Thread}
use Rattle.omi_model.specs.Changes.{encounter}
use Rattle.omi_model.specs.LawClaims.{WaitsForTeam}
use Rattle.omi_model.specs.Lists.{fits, stays, take_item}
use Rattle.omi_numbers.specs.declared.states.TheConstants.{IDLE}
use Rattle.omi_model.specs.Opening.{opening}
use Rattle.omi_model.specs.Reached.{Reached, Step}
use Rattle.omi_model.specs.Rows.{worker_items, shown}
use Rattle.omi_model.specs.Rules.{Rule}
use Rattle.omi_model.specs.State.{State}
use Rattle.omi_model.proofs.claims.AsksPlaced.{is_forking}
use Rattle.omi_model.proofs.EachObject.{over_events}
use Rattle.omi_model.proofs.EachThread.{EachThread, IsThreadLaw, thread_step_from}
use Rattle.omi_model.proofs.OpeningObjects.{each_first_thread}
use Rattle.omi_model.proofs.Slots.{false_true, none_some, some_same}
use Rattle.omi_model.proofs.Steps.{IsMove, move_of, moved_on}

-- where a worker is in its list
pub data Place : Type 0 where
  Outset : Place
  Shows : Place
  Offers : Place
  Serves : Place
  Over : Place

abbrev pub list_at : Place → List Item
list_at Outset = worker_items
list_at Shows = item.State IDLE 0 ∷ item.Offer ∷ item.Serve ∷ []
list_at Offers = item.Offer ∷ item.Serve ∷ []
list_at Serves = item.Serve ∷ []
list_at Over = []

abbrev pub serves : Place → Bool
serves Serves = true
serves place = false

-- only a worker without a task waits for a team
pub record IsAtPlace (xs : List Item) (top : Option Tid) : Type 0 where
  pub place : Place
  pub list : xs ≡ list_at place
  pub idle : serves place ≡ true → top ≡ None

abbrev pub HasPlace : ℕ → Thread → Type 0
HasPlace j h = IsAtPlace h.list h.current

pub serves_only : (place : Place) → list_at place ≡ item.Serve ∷ [] → serves place ≡ true
serves_only Outset e = cc
serves_only Shows e = cc
serves_only Offers e = cc
serves_only Serves e = refl
serves_only Over e = cc

is_serves : (place : Place) → serves place ≡ true → place ≡ Serves
is_serves Outset f = absurd (false_true f)
is_serves Shows f = absurd (false_true f)
is_serves Offers f = absurd (false_true f)
is_serves Serves f = refl
is_serves Over f = absurd (false_true f)

-- what an event takes off such a list
pub record IsTakenAt (at : Encounter) (e : Event) (place : Place) (y : Item) (ys : List Item) : Type 0 where
  pub after : Place
  pub list : stays at e y ys ≡ list_at after
  pub plain : is_forking y ≡ false
  pub offer : serves after ≡ true → e ≡ event.Offer
  pub offered : e ≡ event.Offer → serves after ≡ true
  pub begin : serves place ≡ true → y ≡ item.Serve

shows_or_offers : (at : Encounter)
    → (after : Place) × (shown at IDLE 0 (item.Offer ∷ item.Serve ∷ []) ≡ list_at after) × (serves after ≡ false)
shows_or_offers at = go at.debug
  where
    go : (d : Bool)
        → (after : Place) × ((if d then item.State IDLE 0 ∷ item.Offer ∷ item.Serve ∷ [] else item.Offer ∷ item.Serve ∷ []) ≡ list_at after) × (serves after ≡ false)
    go true = (Shows, refl, refl)
    go false = (Offers, refl, refl)

offer_only : (e : Event) → fits e item.Offer ≡ true → e ≡ event.Offer
offer_only event.Offer fit = refl
offer_only e fit = absurd (false_true fit)

abbrev at_head : Item → List Item → Item × List Item
at_head x xs = (x, xs)

module _ (p : Program) (at : Encounter) (e : Event) (y : Item) (ys : List Item) where
  taken_head : (place : Place) (x : Item) (xs : List Item) → (fits e x ≡ true → IsTakenAt at e place x xs)
      → (if fits e x then Some (at_head x xs) else None) ≡ Some (y, ys) → IsTakenAt at e place y ys
  taken_head place x xs is h = go (fits e x) refl h
    where
      go : (b : Bool) → fits e x ≡ b → (if b then Some (at_head x xs) else None) ≡ Some (y, ys)
          → IsTakenAt at e place y ys
      go true fit t =
          let same : at_head x xs ≡ (y, ys) = some_same refl t in subst (λ (o : Item × List Item). IsTakenAt at e place o.0 o.1) same (is fit)
      go false fit t = absurd (none_some refl t)

  no_offer : {b : Bool} (x : Item) → fits event.Offer x ≡ false → fits e x ≡ true → e ≡ event.Offer → b ≡ true
  no_offer x none fit of = absurd (false_true (sym none ∙ subst (λ (a : Event). fits a x ≡ true) of fit))

  pub taken_at : (place : Place) → take_item p at e (list_at place) ≡ Some (y, ys) → IsTakenAt at e place y ys
  taken_at Outset h =
      taken_head Outset item.Begin (item.Offer ∷ item.Serve ∷ [])
      (λ fit. record { after = Offers; list = refl; plain = refl; offer = λ f. absurd (false_true f); offered = no_offer item.Begin refl fit; begin = λ f. absurd (false_true f) }) h
  taken_at Shows h =
      taken_head Shows (item.State IDLE 0) (item.Offer ∷ item.Serve ∷ [])
      (λ fit. record { after = Offers; list = refl; plain = refl; offer = λ f. absurd (false_true f); offered = no_offer (item.State IDLE 0) refl fit; begin = λ f. absurd (false_true f) }) h
  taken_at Offers h =
      taken_head Offers item.Offer (item.Serve ∷ [])
      (λ fit. record { after = Serves; list = refl; plain = refl; offer = λ f. offer_only e fit; offered = λ of. refl; begin = λ f. absurd (false_true f) }) h
  taken_at Serves h =
      let (after, is, not) = shows_or_offers at in
      taken_head Serves item.Serve []
      (λ fit. record { after = after; list = is; plain = refl; offer = λ f. absurd (false_true (sym not ∙ f)); offered = no_offer item.Serve refl fit; begin = λ f. refl }) h
  taken_at Over h = absurd (none_some refl h)

-- an offer is no begin of a task
offer_begins : (task : Tid) → event.Offer ≡ event.ImplicitBegin task → ⊥
offer_begins task e = cc

module _ (p : Program) (s : State) (i : ℕ) (e : Event) (next : State) (step : Step p s i e next)
    (all : EachThread HasPlace s) where
  abbrev m : IsMove p s i e next
  m = move_of p s i e next step

  abbrev middle : State
  middle = moved_on s i e m.item m.behind

  pub record IsPlaced (j : ℕ) (h : Thread) : Type 0 where
    pub is : HasPlace j h
    pub offer : j ≡ i → serves is.place ≡ true → e ≡ event.Offer
    pub offered : j ≡ i → e ≡ event.Offer → serves is.place ≡ true

  abbrev still : (place : Place) (list : List Item) (top : Option Tid) → list ≡ list_at place
      → (serves place ≡ true → ⊥) → IsAtPlace list top
  still place list top is not = record { place = place; list = is; idle = λ f. absurd (not f) }

  placed : EachThread IsPlaced next
  placed = thread_step_from p HasPlace IsPlaced s i e next m moves others law all
    where
      moves : (s.threads i).current ≡ None
          → take_item p (encounter s i) e (s.threads i).list ≡ Some (m.item, m.behind)
          → HasPlace i (s.threads i)
          → IsPlaced i (record (s.threads i) { list = stays (encounter s i) e m.item m.behind })
      moves none taken q =
          let t =
          taken_at p (encounter s i) e m.item m.behind q.place
          (ap (take_item p (encounter s i) e) (sym q.list) ∙ taken) in
          record { is = record { place = t.after; list = t.list; idle = λ f. none }; offer = λ same f. t.offer f; offered = λ same of. t.offered of }

      others : (h : ℕ) → (h ≡ i → (s.threads i).current ≡ None → ⊥) → HasPlace h (s.threads h)
          → IsPlaced h (s.threads h)
      others h other q = record {
        is = q;
        offer = λ same f. absurd (other same (subst (λ x. (s.threads x).current ≡ None) same (q.idle f)));
        offered = λ same of. absurd (other same (subst (λ (x : Event). Rule s i x m.item) of m.rule).idle);
      }

      law : EachThread IsPlaced (moved_on s i e m.item m.behind)
          → IsThreadLaw p (moved_on s i e m.item m.behind) i e next IsPlaced
      law of_threads = record {
        begins = λ may q. record { is = record { place = q.is.place; list = q.is.list; idle = q.is.idle }; offer = q.offer; offered = q.offered };
        offers = λ may of q. record { is = record { place = q.is.place; list = q.is.list; idle = q.is.idle }; offer = q.offer; offered = q.offered };
        wants = λ n num may of q. record { is = record { place = q.is.place; list = q.is.list; idle = q.is.idle }; offer = q.offer; offered = q.offered };
        asks = λ w got may of q. record { is = record { place = q.is.place; list = q.is.list; idle = q.is.idle }; offer = q.offer; offered = q.offered };
        claims = λ w may of q. record { is = record { place = q.is.place; list = q.is.list; idle = q.is.idle }; offer = q.offer; offered = q.offered };
        shows = λ state wait of q. record { is = record { place = q.is.place; list = q.is.list; idle = q.is.idle }; offer = q.offer; offered = q.offered };
        forks = λ region team f k t r is found may new q. has_task q (λ none. none_some none is.name);
        joins_team = λ task may of q. record { is = still q.is.place _ _ q.is.list (λ f. offer_begins task (sym (q.offer refl f) ∙ of)); offer = λ same f. absurd (offer_begins task (sym (q.offer same f) ∙ of)); offered = λ same of'. absurd (offer_begins task (sym of' ∙ of)) };
        ends = λ k t r is found im other over q. has_task q (λ none. none_some none is.name);
        joins = λ k t r is found may of q. has_task q (λ none. none_some none is.name);
        makes = λ task f final k t is new q. has_task q (λ none. none_some none is.name);
        starts = λ task x k t is may new q. has_task q (λ none. none_some none is.name);
        finishes = λ k t is ex over q. has_task q (λ none. none_some none is.name);
      }
        where
          has_task : {top : Option Tid} (q : IsPlaced i (middle.threads i))
              → ((middle.threads i).current ≡ None → ⊥)
              → IsPlaced i (record (middle.threads i) { current = top })
          has_task q busy = record { is = still q.is.place _ _ q.is.list (λ f. busy (q.is.idle f)); offer = λ same f. absurd (busy (q.is.idle f)); offered = λ same of. absurd (busy (q.is.idle (q.offered same of))) }

  pub places_step : EachThread HasPlace next
  places_step j = (placed j).is

  -- a worker comes to wait for a team by its offer, and by each
  pub waits_by : (next.threads i).list ≡ item.Serve ∷ [] → e ≡ event.Offer
  waits_by is = let q = placed i in q.offer refl (serves_only q.is.place (sym q.is.list ∙ is))

  pub offer_waits : e ≡ event.Offer → WaitsForTeam next i
  offer_waits of =
      let q = placed i in
      let f = q.offered refl of in
      record { idle = q.is.idle f; ahead = q.is.list ∙ ap list_at (is_serves q.is.place f) }

pub have_places : (p : Program) (events : List (ℕ × Event)) (s : State) → Reached p events s
    → EachThread HasPlace s
have_places p events s reached =
    over_events p (EachThread HasPlace) (λ u i e next step h. places_step p u i e next step h)
    (opening p) events s reached
    (each_first_thread p HasPlace (record { place = Over; list = refl; idle = λ f. absurd (false_true f) }) (λ j. record { place = Outset; list = refl; idle = λ f. absurd (false_true f) }))

-- How far the members of a region have come.
use Rattle.std.proofs.Common.{◌≡◌, ◌≢◌, ◌<◌, ◌+◌, ◌⊎◌, inl, inr, ℕ, zero, suc, Bool, true, false, List, [], ◌∷◌, drop, length, get_or, replicate, slice_get, slice_index, Some, if◌then◌else◌, refl, sym, ap, ◌∙◌, subst, arith, eq-eqb, ne_eqb}
use Rattle.std.specs.List.{All}
use Rattle.std.proofs.lemmas.List.{get_or-set_other}
use Rattle.std.proofs.lemmas.Bool.{cases_eq}
use Rattle.std.proofs.lemmas.Option.{get_or_from_slice_get, slice_get-get_or, slice_get_within}
use Rattle.omi_script.specs.declared.program.Program.{Program}
use Rattle.omi_model.specs.declared.event.Event.{Event}
use Rattle.omi_model.specs.declared.event.Event.TheVariants as event
use Rattle.omi_model.specs.declared.id.Id.{Id}
use Rattle.omi_model.specs.declared.id.Rid.{Rid}
use Rattle.omi_model.specs.declared.id.Tid.{Tid}
use Rattle.omi_model.specs.declared.item.Item.{Item}
use Rattle.omi_model.specs.declared.progress.Progress.{Progress}
use Rattle.omi_model.specs.declared.progress.Progress.TheVariants.{Begun, Finished, NotBegun}
use Rattle.omi_model.specs.declared.region.Region.{Region}
use Rattle.omi_model.specs.declared.task.Task.{Task}
use Rattle.omi_model.specs.Changes.{IsCurrent}
use Rattle.omi_model.specs.LawEnds.{IsLast}
use Rattle.omi_model.specs.LawProgress.{AreMembersInStep, HasEnded, IsMemberInStep}
use Rattle.omi_model.specs.LawStays.{Stays}
use Rattle.omi_model.specs.Opening.{opening}
use Rattle.omi_model.specs.Reached.{Reached, Step}
use Rattle.omi_model.specs.Rules.{Rule}
use Rattle.omi_model.specs.State.{State, region_of, task_of}
use Rattle.omi_model.proofs.BarrierCounts.{barriers_of, counted}
use Rattle.omi_model.proofs.BarrierLaw.{Stands, placed}
use Rattle.omi_model.proofs.BarrierOrder.{left, member_ready, order}
use Rattle.omi_model.proofs.BarriersAhead.{barriers_ahead}
use Rattle.omi_model.proofs.BarrierSteps.{Changes, region_changed}
use Rattle.omi_model.proofs.ChainsKept.{current_begun}
use Rattle.omi_model.proofs.members.ClosingItems.{last_items}
use Rattle.omi_model.proofs.EachObject.{EachRegion, IsRegionLaw, over_events, region_step}
use Rattle.omi_model.proofs.members.EndSteps.{was_there, EndsBy, region_ended}
use Rattle.omi_model.proofs.members.FirstLists.{first_lists}
use Rattle.omi_model.proofs.JoinsLast.{joins_last}
use Rattle.omi_model.proofs.members.MemberEnds.{ended_of, ends_as_finished, finished_is, is_finished}
use Rattle.omi_model.proofs.MembersKnown.{members_known}
use Rattle.omi_model.proofs.OpeningObjects.{each_first_region}
use Rattle.omi_model.proofs.ReachedStates.{over_reached}
use Rattle.omi_model.proofs.RegionEnds.{last_rested, outside_is, rests}
use Rattle.omi_model.proofs.ReleaseAmong.{arrivals_near}
use Rattle.omi_model.proofs.Slots.{false_true, same_or_not, some_same}
use Rattle.omi_model.proofs.StaysKept.{stays_step}
use Rattle.omi_model.proofs.Steps.{IsRelisted, move_of}

-- ---- member 0 never ends, but joins

abbrev FirstStays : Rid → Region → Type 0
FirstStays n r = get_or r.ended 0 false ≡ false

none_ended : (len : ℕ) → get_or (replicate len false) 0 false ≡ false
none_ended zero = refl
none_ended (suc len) = refl

first_step : (p : Program) (s : State) (i : ℕ) (e : Event) (next : State) → Step p s i e next
    → EachRegion FirstStays s → EachRegion FirstStays next
first_step p s i e next step all = region_step p FirstStays s i e next step law all
  where
    law : (middle : State) → IsRelisted s middle → Stays middle next → IsRegionLaw p middle i next FirstStays
    law middle relists later = record {
      arrives = λ k t r is found q. q;
      releases = λ k t r is found may q. q;
      ends = λ k t r is found im other q. get_or-set_other r.ended t.number 0 true false (λ z. other (sym z)) ∙ q;
      joins = λ k t r is found may q. q;
      forks = λ region team f k t r is found may new. none_ended (length team);
    }

first_stays : (p : Program) (events : List (ℕ × Event)) (s : State) → Reached p events s
    → EachRegion FirstStays s
first_stays p events s reached =
    over_events p (EachRegion FirstStays) (λ u i e next step h. first_step p u i e next step h)
    (opening p) events s reached (each_first_region p FirstStays refl)

-- ---- ends by number

others_true : (xs : List Bool) (n : ℕ) → All (λ b. b ≡ true) (drop 1 xs) → n ≢ 0 → n < length xs
    → get_or xs n false ≡ true
others_true [] n all other within = absurd (omega (arith, within))
others_true (x ∷ xs) zero all other within = absurd (other refl)
others_true (x ∷ xs) (suc n) all other within = all n false (omega (arith, within))

ended_first : (r : Region) (n : ℕ) → n ≡ 0 → ended_of r n ≡ r.joined
ended_first r n first = ap (λ b. if b then r.joined else get_or r.ended n false) (eq-eqb n 0 first)

ended_other : (r : Region) (n : ℕ) → n ≢ 0 → ended_of r n ≡ get_or r.ended n false
ended_other r n other = ap (λ b. if b then r.joined else get_or r.ended n false) (ne_eqb n 0 other)

suc_zero : (n : ℕ) → suc n ≡ 0 → ⊥
suc_zero n e = omega (arith, e)

has_ended : (r : Region) (n : ℕ) → n < length r.ended → ended_of r n ≡ true → HasEnded r n
has_ended r zero within is = is
has_ended r (suc n) within is =
    slice_get-get_or r.ended (suc n) false within
    ∙ ap (λ (b : Bool). Some b) (sym (ended_other r (suc n) (suc_zero n)) ∙ is)

ended_has : (r : Region) (n : ℕ) → HasEnded r n → ended_of r n ≡ true
ended_has r zero is = is
ended_has r (suc n) is =
    ended_other r (suc n) (suc_zero n) ∙ get_or_from_slice_get r.ended (suc n) true false is

unfinished : (q : Progress) → (q ≡ Finished → ⊥) → is_finished q ≡ false
unfinished q not = go (is_finished q) refl
  where
    go : (b : Bool) → is_finished q ≡ b → is_finished q ≡ false
    go true is = absurd (not (finished_is q is))
    go false is = is

module _ (p : Program) (events : List (ℕ × Event)) (s : State) (reached : Reached p events s) where
  module _ (k : Tid) (t : Task) (r : Region) (live : task_of s k ≡ Some t) (im : t.implicit ≡ true)
      (found : region_of s t.region ≡ Some r) where
    ends : ended_of r t.number ≡ is_finished t.progress
    ends = ends_as_finished p events s reached k t live im r found

    within : t.number < length r.ended
    within =
        let (q, found_q, at) = (members_known p events s reached).tasks k t live im in
        let one : q ≡ r = some_same found_q found in
        let sizes = (members_known p events s reached).regions t.region r found in
        let inside : t.number < length q.team = slice_get_within q.team t.number (k, t.thread) at in
        omega (arith, subst (λ (x : Region). t.number < length x.team) one inside, sizes.ended)

    -- a member that has not begun has all barriers ahead
    waiting : t.progress ≡ NotBegun
        → (t.number ≢ 0) × (slice_index r.arrivals t.number ≡ 0) × (r.released ≡ 0)
    waiting w =
        let met = ((members_known p events s reached).encountered k t live).waiting w in
        let list = (first_lists p events s reached k t live).waiting w r found in
        let all =
        (member_ready p (barriers_of p) (counted p) (record { debug = p.env.debug; number = t.number; level = r.levels; is_final = false }) r.function).barriers in
        let ahead : left (barriers_of p) t.list ≡ barriers_of p r.function + 1 =
        ap (left (barriers_of p)) list ∙ all in
        let sum = (barriers_ahead p events s reached).members k t r live im found in
        let near = arrivals_near p events s reached k t r live im found in
        let none : slice_index r.arrivals t.number ≡ 0 = omega (arith, sum, ahead) in
        (met.1, none, omega (arith, near.0, none))

    not_joined : (t.progress ≡ Finished → ⊥) → t.number ≢ 0 → (b : Bool) → r.joined ≡ b → r.joined ≡ false
    not_joined not other true j =
        let ended : get_or r.ended t.number false ≡ true =
        others_true r.ended t.number (joins_last p events s reached t.region r found j) other within in
        absurd
        (false_true (sym (unfinished t.progress not) ∙ (sym ends ∙ (ended_other r t.number other ∙ ended))))
    not_joined not other false j = j

    going : (t.progress ≡ Finished → ⊥) → (slice_get r.ended t.number ≡ Some false) × (r.joined ≡ false)
    going not = go (cases_eq t.number 0)
      where
        at : get_or r.ended t.number false ≡ false → slice_get r.ended t.number ≡ Some false
        at is = slice_get-get_or r.ended t.number false within ∙ ap (λ (b : Bool). Some b) is

        go : (t.number ≡ 0) ⊎ (t.number ≢ 0) → (slice_get r.ended t.number ≡ Some false) × (r.joined ≡ false)
        go (inl first) =
            (at (ap (λ n. get_or r.ended n false) first ∙ first_stays p events s reached t.region r found), sym (ended_first r t.number first) ∙ (ends ∙ unfinished t.progress not))
        go (inr other) =
            (at (sym (ended_other r t.number other) ∙ (ends ∙ unfinished t.progress not)), not_joined not other r.joined refl)

    -- a member that is finished stands outside the barriers
    at_the_last : t.progress ≡ Finished → slice_index r.arrivals t.number ≡ r.released
    at_the_last f =
        let (q, found_q, m) = ((placed p events s reached).places k t live).0 im in
        let none : t.list ≡ [] = (last_items p events s reached k t live).finished f in
        let outside =
        outside_is m.phase (subst (λ xs. order t.number m.phase xs ≡ true) none m.ready.in_order) in
        let stands : slice_index q.arrivals t.number ≡ q.released =
        subst (λ ph. Stands ph t.number (slice_index q.arrivals t.number) q.released) outside m.stands in
        subst (λ (x : Region). slice_index x.arrivals t.number ≡ x.released) (some_same found_q found) stands

    in_step : IsMemberInStep r t
    in_step = record {
      waiting = waiting;
      going = going;
      over = λ f. (has_ended r t.number within (ends ∙ ap is_finished f), at_the_last f);
      ended = λ is. finished_is t.progress (sym ends ∙ ended_has r t.number is);
    }

-- ---- joined regions

abbrev IsLastReleased : Program → Rid → Region → Type 0
IsLastReleased p n r = r.joined ≡ true → r.released ≡ barriers_of p r.function + 1

true_false : {b : Bool} → b ≡ true → b ≡ false → ⊥
true_false is not = false_true (sym not ∙ is)

begun_finished : Begun ≡ Finished → ⊥
begun_finished e = cc

module _ (p : Program) (events : List (ℕ × Event)) (s : State) (reached : Reached p events s) (i : ℕ)
    (e : Event) (next : State) (step : Step p s i e next) (all : EachRegion (IsLastReleased p) s) where
  -- the region of a current task is not joined
  current_open : (k : Tid) (t : Task) → IsCurrent s i k t → (r : Region) → region_of s t.region ≡ Some r
      → r.joined ≡ true → ⊥
  current_open k t is r found joined = go t.implicit refl
    where
      runs : t.progress ≡ Finished → ⊥
      runs f = begun_finished (sym (current_begun p events s reached i k t is.name is.live).0 ∙ f)

      go : (b : Bool) → t.implicit ≡ b → ⊥
      go true im = true_false joined (going p events s reached k t r is.live im found runs).1
      go false ex =
          let stood = all t.region r found joined in
          rests p events s reached k t is.live ex r found (omega (arith, stood))

  module _ (n : Rid) (r q : Region) (found : region_of s n ≡ Some r) where
    -- what the event did to the region: it was joined and nothing was released, or it is joined now
    abbrev IsLeft : Type 0
    IsLeft = (r.joined ≡ true) × (q.released ≡ r.released)

    abbrev HasLast : Type 0
    HasLast = r.released ≡ barriers_of p r.function + 1

    here : (t : Task) → t.region.0 ≡ n.0 → t.region ≡ n
    here t same = ap (λ (a : Id). record { 0 = a }) same

    by_event : (of : Event) (y : Item) → Rule s i of y → e ≡ of → Changes s i of n r q → EndsBy s i of n r q
        → q.joined ≡ true → IsLeft ⊎ (HasLast × (q.released ≡ r.released))
    by_event event.Arrive y (k, t, r0, is, found0, im) same change end joined =
        inl (sym end.1 ∙ joined, (change k t is).2)
    by_event event.Release y (k, t, r0, is, found0, may) same change end joined = go (same_or_not t.region.0 n.0)
      where
        go : (t.region.0 ≡ n.0) ⊎ (t.region.0 ≡ n.0 → ⊥) → IsLeft ⊎ (HasLast × (q.released ≡ r.released))
        go (inl at) =
            absurd (current_open k t is r (ap (region_of s) (here t at) ∙ found) (sym end.1 ∙ joined))
        go (inr other) = inl (sym end.1 ∙ joined, (change k t is).1 (λ h. other (ap (λ (a : Rid). a.0) h)))
    by_event (event.ImplicitEnd task) y (k, t, r0, is, found0, may) same change end joined =
        inl (sym (end k t is).2 ∙ joined, change.1)
    by_event (event.Join region) y (k, t, r0, is, found0, may) same change end joined =
        go (same_or_not t.region.0 n.0)
      where
        go : (t.region.0 ≡ n.0) ⊎ (t.region.0 ≡ n.0 → ⊥) → IsLeft ⊎ (HasLast × (q.released ≡ r.released))
        go (inl at) =
            let (w, found_w, stood) = last_rested p events s reached i e k t (subst IsLast (sym same) tt) step.legal is in
            let one : w ≡ r = some_same found_w (ap (region_of s) (here t at) ∙ found) in
            inr (subst (λ (x : Region). x.released ≡ barriers_of p x.function + 1) one stood, change.1)
        go (inr other) = inl (sym ((end k t is).1 (λ h. other (ap (λ (a : Rid). a.0) h))) ∙ joined, change.1)
    by_event of y rule same change end joined = inl (sym end.1 ∙ joined, change.1)

  last_step : EachRegion (IsLastReleased p) next
  last_step n q found_q joined =
      let (r, found) = was_there p s i e next step n q found_q joined in
      let m = move_of p s i e next step in
      let same = (stays_step p s i e next step).alike_regions n r q found found_q in
      let function : barriers_of p q.function ≡ barriers_of p r.function = ap (barriers_of p) same.function in
      go r found function (by_event n r q found e m.item m.rule refl (region_changed p s i e next m n r q found found_q)
      (region_ended p s i e next m n r q found found_q) joined)
    where
      go : (r : Region) → region_of s n ≡ Some r → barriers_of p q.function ≡ barriers_of p r.function
          → ((r.joined ≡ true) × (q.released ≡ r.released)) ⊎ ((r.released ≡ barriers_of p r.function + 1) × (q.released ≡ r.released))
          → q.released ≡ barriers_of p q.function + 1
      go r found function (inl (was, same)) = let stood = all n r found was in omega (arith, stood, same, function)
      go r found function (inr (stood, same)) = omega (arith, stood, same, function)

-- a region is joined by member 0, at its end
last_release : (p : Program) (events : List (ℕ × Event)) (s : State) → Reached p events s
    → EachRegion (IsLastReleased p) s
last_release p events s reached =
    over_reached p (EachRegion (IsLastReleased p))
    (λ first u first_reached i e next step h. last_step p first u first_reached i e next step h) []
    (opening p) refl events s reached
    (each_first_region p (IsLastReleased p) (λ joined. absurd (false_true joined)))

pub members_in_step : (p : Program) (events : List (ℕ × Event)) (s : State) → Reached p events s
    → AreMembersInStep p s
members_in_step p events s reached = record { members = λ k t r live im found. in_step p events s reached k t r live im found; joined = last_release p events s reached }

-- How a step leaves the search and the look of a thread, by its outcome.
use Rattle.std.proofs.Common.{◌≡◌, ◌⊎◌, inl, inr, ◌+◌, ◌==◌, ◌&&◌, ◌||◌, ℕ, Bool, true, false, List, Option, Some, None, refl, sym, ap, ◌∙◌, subst, if◌then◌else◌}
use Rattle.omi_word.specs.declared.op.Op.{Op}
use Rattle.omi_model.specs.declared.event.Event.{Event}
use Rattle.omi_model.specs.declared.id.Id.{Id}
use Rattle.omi_model.specs.State.{State}
use Rattle.omi_layout.specs.declared.field.Field.{Field}
use Rattle.omi_layout.specs.declared.field.Field.TheVariants.{RegionLife, TaskLife}
use Rattle.omi_layout.specs.Memory.{Memory}
use Rattle.omi_pc.specs.declared.actor.Actor.{Actor}
use Rattle.omi_pc.specs.declared.counter.Counter.{Counter}
use Rattle.omi_rep.specs.declared.outcome.Outcome.{Outcome}
use Rattle.omi_rep.specs.declared.outcome.Outcome.TheVariants as outcome
use Rattle.omi_rule.specs.Steps.{IsOn, RecordWord, found_in}
use Rattle.omi_rule_watch.specs.Demands.{BeginsSearch, IsExpected, MeetsLook, MeetsOrder, searches}
use Rattle.omi_rule_watch.specs.Given.{Has, IsFirst, IsLookGiven, IsSearchGiven, region_found, sought, task_found}
use Rattle.omi_rule_watch.specs.Watch.{SlotLook, Search, Watch, finds, found_after, found_in_slot, is_gone, is_load, is_no_child, is_no_member, is_own, is_own_life, is_slot, is_waiting, life_behind, look_after, looked_at, no_look, search_after}
use Rattle.omi_rule_watch.proofs.Resting.{IsFresh, Rests}

-- ---- what is shown of a step

-- the step of an operation on a word meets the demands on the order of a search and on the look, and leaves these as its actor behind says
pub record KeepsParts (w : List ℕ) (m : Memory) (s : State) (i : ℕ) (o : Op) (x : RecordWord) (after : Actor × Outcome) (h : Watch) : Type 0 where
  pub meets_order : MeetsOrder w m s i x o after.1 h.search
  pub search : IsSearchGiven after.0 after.0.counter (search_after w i x o (found_in m x) after.1 h.search)
  pub meets_look : MeetsLook s i x after.1 h.look
  pub look : IsLookGiven after.0 after.0.counter (look_after w s i x o (found_in m x) after.1 h.look)

abbrev pub PartsKeep : List ℕ → Memory → State → ℕ → Op → (ℕ → Actor × Outcome) → Watch → Type 0
PartsKeep w m s i o after h = (x : RecordWord) × IsOn w o x × KeepsParts w m s i o x (after (found_in m x)) h

-- ---- searches

-- no search stands
pub record IsCalm (h : Search) : Type 0 where
  pub expected : h.expected ≡ None
  pub region : h.region ≡ None
  pub task : h.task ≡ None

pub either_none : {A B : Type 0} {o : Option A} → ((o ≡ None) × B) ⊎ (o ≡ None) → o ≡ None
either_none (inl (is, first)) = is
either_none (inr is) = is

pub calm_at : (a : Actor) (c : Counter) (h : Search) → sought a c ≡ None → region_found c ≡ None
    → task_found c ≡ None → IsSearchGiven a c h → IsCalm h
calm_at a c h none no_region no_task given = record { expected = by given.expected; region = given.region ∙ no_region; task = given.task ∙ no_task }
  where
    by : ((h.expected ≡ None) × IsFirst (sought a c)) ⊎ (h.expected ≡ sought a c) → h.expected ≡ None
    by (inl (is, first)) = is
    by (inr is) = is ∙ none

-- nothing is found
pub found_none : (life : Field) (i : ℕ) (x : RecordWord) (o : Op) (found : ℕ) (out : Outcome) (r : Option Id)
    → r ≡ None → finds life i x o found out ≡ false → found_after life i x o found out r ≡ None
found_none life i x o found out r is none =
    ap (found_after life i x o found out) is ∙ ap (λ b. if b then Some (found_in_slot x found) else None) none

pub expects_none : (h : Search) (o : Op) (x : RecordWord) → h.expected ≡ None → IsExpected h.expected o x
expects_none h o x is = subst (λ (e : Option RecordWord). IsExpected e o x) (sym is) tt

-- a step that searches nothing begins no search
pub begins_none : (i : ℕ) (x : RecordWord) (o : Op) (found : ℕ) (out : Outcome) (h : Search)
    → searches i x o found out ≡ false → BeginsSearch i x o found out h
begins_none i x o found out h none = λ calm some. absurd (cc (sym none, some))

module _ (w : List ℕ) (m : Memory) (s : State) (i : ℕ) (o : Op) (x : RecordWord) (b : Actor) (h : Watch)
    (calm : IsCalm h.search) where
  -- a step that searches nothing
  calm_meets : (out : Outcome) → searches i x o (found_in m x) out ≡ false
      → BeginsSearch i x o (found_in m x) out h.search × IsExpected h.search.expected o x
  calm_meets out none =
      (begins_none i x o (found_in m x) out h.search none, expects_none h.search o x calm.expected)

  stays_none : (life : Field) (out : Outcome) (r : Option Id) → r ≡ None
      → finds life i x o (found_in m x) out ≡ false
      → found_after life i x o (found_in m x) out r ≡ None
  stays_none life out r is none = found_none life i x o (found_in m x) out r is none

  -- an event, behind which these counters say nothing of a search
  pub event_parts : (e : Event) → IsFresh b.counter → IsLookGiven b b.counter no_look
      → KeepsParts w m s i o x (b, outcome.Event e) h
  event_parts e fresh look = record {
    meets_order = calm_meets (outcome.Event e) refl;
    search = record {
      expected = inl (refl, fresh.first b);
      region = stays_none RegionLife (outcome.Event e) h.search.region calm.region refl ∙ sym fresh.region;
      task = stays_none TaskLife (outcome.Event e) h.search.task calm.task refl ∙ sym fresh.task;
    };
    meets_look = tt;
    look = look;
  }

  pub event_rests : (e : Event) → Rests b.counter → KeepsParts w m s i o x (b, outcome.Event e) h
  event_rests e rests = event_parts e rests.fresh (rests.look b no_look)

  -- a quiet step that finds no record
  pub quiet_parts : finds RegionLife i x o (found_in m x) outcome.Quiet ≡ false
      → finds TaskLife i x o (found_in m x) outcome.Quiet ≡ false → IsFresh b.counter
      → IsLookGiven b b.counter (looked_at w s i x o (found_in m x) h.look.looked h.look.seen)
      → KeepsParts w m s i o x (b, outcome.Quiet) h
  quiet_parts none_region none_task fresh look = record {
    meets_order =
        calm_meets outcome.Quiet
        (ap (λ d. d || finds TaskLife i x o (found_in m x) outcome.Quiet) none_region ∙ none_task);
    search = record {
      expected = inl (refl, fresh.first b);
      region = stays_none RegionLife outcome.Quiet h.search.region calm.region none_region ∙ sym fresh.region;
      task = stays_none TaskLife outcome.Quiet h.search.task calm.task none_task ∙ sym fresh.task;
    };
    meets_look = tt;
    look = look;
  }

  pub quiet_rests : finds RegionLife i x o (found_in m x) outcome.Quiet ≡ false
      → finds TaskLife i x o (found_in m x) outcome.Quiet ≡ false → Rests b.counter
      → KeepsParts w m s i o x (b, outcome.Quiet) h
  quiet_rests none_region none_task rests =
      quiet_parts none_region none_task rests.fresh (rests.look b _)

  -- a wait on a word that is no own life word
  pub waits_parts : (address word : ℕ) → is_own RegionLife i x ≡ false → is_own TaskLife i x ≡ false
      → IsFresh b.counter → MeetsLook s i x (outcome.NotReady address word) h.look
      → IsLookGiven b b.counter (look_after w s i x o (found_in m x) (outcome.NotReady address word) h.look)
      → KeepsParts w m s i o x (b, outcome.NotReady address word) h
  waits_parts address word other_region other_task fresh meets look = record {
    meets_order =
        let (begins, expects) = calm_meets (outcome.NotReady address word) not_own in (
          begins,
          expects,
          record { region = λ own. absurd (cc (sym other_region, own)); task = λ own. absurd (cc (sym other_task, own)) },
        );
    search = record {
      expected = inl (ap (λ d. if d then Some (life_behind w x) else None) not_own, fresh.first b);
      region = stays_none RegionLife (outcome.NotReady address word) h.search.region calm.region refl ∙ sym fresh.region;
      task = stays_none TaskLife (outcome.NotReady address word) h.search.task calm.task refl ∙ sym fresh.task;
    };
    meets_look = meets;
    look = look;
  }
    where
      not_own : is_own_life i x ≡ false
      not_own = ap (λ d. d || is_own TaskLife i x) other_region ∙ other_task

  -- and on no word for which a thread looks
  pub waits_rests : (address word : ℕ) → is_own RegionLife i x ≡ false → is_own TaskLife i x ≡ false
      → is_waiting x ≡ false → Rests b.counter
      → KeepsParts w m s i o x (b, outcome.NotReady address word) h
  waits_rests address word other_region other_task other rests =
      waits_parts address word other_region other_task rests.fresh
      (λ e. absurd (cc (sym other, e))) (rests.look b _)

  -- a thread that has ended
  pub ended_parts : Rests b.counter → KeepsParts w m s i o x (b, outcome.Ended) h
  ended_parts rests = record {
    meets_order = calm_meets outcome.Ended refl;
    search = record {
      expected = inl (refl, rests.fresh.first b);
      region = stays_none RegionLife outcome.Ended h.search.region calm.region refl ∙ sym rests.fresh.region;
      task = stays_none TaskLife outcome.Ended h.search.task calm.task refl ∙ sym rests.fresh.task;
    };
    meets_look = tt;
    look = rests.look b _;
  }

-- ---- looks

-- behind a load of slot number n that finds this word
abbrev pub slot_loaded : ℕ → ℕ → SlotLook
slot_loaded found n =
    if found == 0 then record { looked = n + 1; seen = None } else record { looked = n; seen = Some found }

-- where no code is seen, a word that is no slot leaves the look
pub look_stays : (w : List ℕ) (s : State) (i : ℕ) (x : RecordWord) (o : Op) (found n : ℕ) (h : SlotLook)
    → Has h n None → ((k : ℕ) → is_load o && is_slot s i k x ≡ false)
    → Has (looked_at w s i x o found h.looked h.seen) n None
look_stays w s i x o found n h has other =
    subst (λ (c : Option ℕ). Has (looked_at w s i x o found h.looked c) n None) (sym has.seen)
    (subst (λ (r : SlotLook). Has r n None)
    (sym (ap (λ b. if b then slot_loaded found h.looked else record { looked = h.looked; seen = None }) (other h.looked)))
    (record { looked = has.looked; seen = refl }))

-- the next slot is loaded
pub look_loads : (w : List ℕ) (s : State) (i : ℕ) (x : RecordWord) (o : Op) (found n : ℕ) (h : SlotLook)
    → Has h n None → is_load o && is_slot s i n x ≡ true
    → looked_at w s i x o found h.looked h.seen ≡ slot_loaded found n
look_loads w s i x o found n h has this =
    ap (λ (c : Option ℕ). looked_at w s i x o found h.looked c) has.seen
    ∙ ap (λ k. looked_at w s i x o found k None) has.looked
    ∙ ap (λ b. if b then slot_loaded found n else record { looked = n; seen = None }) this

-- a code was seen: the slot is passed or not
pub look_passes : (w : List ℕ) (s : State) (i : ℕ) (x : RecordWord) (o : Op) (found n code : ℕ) (h : SlotLook) (b : Bool)
    → Has h n (Some code)
    → is_gone s i x o found n code || (is_no_child w s i x o found code || is_no_member w s i x o found code) ≡ b
    → looked_at w s i x o found h.looked h.seen ≡ (if b then record { looked = n + 1; seen = None } else record { looked = n; seen = Some code })
look_passes w s i x o found n code h b has is =
    ap (λ (c : Option ℕ). looked_at w s i x o found h.looked c) has.seen
    ∙ ap (λ k. looked_at w s i x o found k (Some code)) has.looked
    ∙ ap
    (λ d. if d then record { looked = n + 1; seen = None } else record { looked = n; seen = Some code }) is

-- A search of a thread: it goes on behind a record that is not free, and takes the first one that is.
use Rattle.std.proofs.Common.{◌≡◌, ◌<◌, ◌⊎◌, inl, inr, ◌+◌, ◌%◌, ◌==◌, ◌&&◌, ◌||◌, ℕ, Bool, true, false, List, Option, Some, None, refl, sym, ap, ◌∙◌, subst, arith, eq-eqb, ltb-true, nat_lt, zero-add, if◌then◌else◌}
use Rattle.std.proofs.lemmas.Bool.Decides.{nat_tests}
use Rattle.std.proofs.lemmas.Nat.{mod-mul-add}
use Rattle.std.proofs.Math.Nat.{mod_self, zero-mul}
use Rattle.omi_word.specs.declared.op.Op.TheVariants as op
use Rattle.omi_model.specs.declared.id.Id.{Id}
use Rattle.omi_model.specs.State.{State}
use Rattle.omi_layout.specs.declared.field.Field.{Field}
use Rattle.omi_layout.specs.declared.field.Field.TheVariants.{RegionLife, TaskLife}
use Rattle.omi_layout.specs.Field.{kind_of, regions, tasks}
use Rattle.omi_layout.specs.Memory.{Memory}
use Rattle.omi_layout.specs.Named.{number}
use Rattle.omi_layout.specs.Table.{per_thread}
use Rattle.omi_pc.specs.declared.actor.Actor.{Actor}
use Rattle.omi_rep.specs.declared.outcome.Outcome.TheVariants as outcome
use Rattle.omi_step_words.specs.Searches.{next_slot}
use Rattle.omi_step_words.specs.Words.{is_free, used_word}
use Rattle.omi_rule.specs.Steps.{RecordWord, found_in}
use Rattle.omi_rule_watch.specs.Demands.{IsExpected, MayOweRegion, MayOweTask}
use Rattle.omi_rule_watch.specs.Given.{IsFirst, IsLookGiven, own_life, region_found, sought, task_found}
use Rattle.omi_rule_watch.specs.Watch.{Search, Watch, expected_after, found_after, found_in_slot, is_own, is_own_life, life_behind, looked_at}
use Rattle.omi_rule_watch.proofs.Parts.{KeepsParts, expects_none, found_none}
use Rattle.omi_rule_watch.proofs.Resting.{Rests}
use Rattle.omi_rule_watch.proofs.Standing.{same_number, word_of}

-- a search begins at this life word, which is that of slot 0, or goes on at it
abbrev pub IsSought : Search → RecordWord → Type 0
IsSought h x = ((h.expected ≡ None) × (x.slot ≡ 0)) ⊎ (h.expected ≡ Some x)

-- the life word that is expected is loaded
pub expects_this : (h : Search) (address : ℕ) (x : RecordWord) → IsSought h x
    → IsExpected h.expected (op.Load address) x
expects_this h address x (inl (none, first)) = expects_none h (op.Load address) x none
expects_this h address x (inr some) =
    subst (λ (e : Option RecordWord). IsExpected e (op.Load address) x) (sym some) (refl, refl)

-- a search that goes on does not begin
pub begins_first : (h : Search) (x : RecordWord) → IsSought h x → h.expected ≡ None → x.slot ≡ 0
begins_first h x (inl (none, first)) calm = first
begins_first h x (inr some) calm = absurd (cc (sym some, calm))

-- the slot behind one
slot_behind : (w : List ℕ) (kind slot : ℕ) → slot < per_thread w kind
    → (slot + 1) % per_thread w kind ≡ next_slot w kind slot
slot_behind w kind slot within = go (nat_lt (slot + 1) (per_thread w kind)) refl
  where
    go : (b : Bool) → nat_lt (slot + 1) (per_thread w kind) ≡ b
        → (slot + 1) % per_thread w kind ≡ (if b then slot + 1 else 0)
    go true e =
        sym
        (ap (λ n. (n + (slot + 1)) % per_thread w kind) (zero-mul (per_thread w kind)) ∙ ap (λ n. n % per_thread w kind) (zero-add (slot + 1)))
        ∙ mod-mul-add 0 (per_thread w kind) (slot + 1) (ltb-true (slot + 1) (per_thread w kind) e)
    go false e =
        let last : slot + 1 ≡ per_thread w kind = grind (arith, nat_tests, e, within) in ap (λ n. n % per_thread w kind) last ∙ mod_self (per_thread w kind)

-- ---- one arena, that of regions or of tasks, by its life word

-- a free record is found
found_one : (life : Field) (i : ℕ) (x : RecordWord) (address found : ℕ) (r : Option Id) → r ≡ None
    → is_own life i x ≡ true → is_free found ≡ true
    → found_after life i x (op.Load address) found outcome.Quiet r ≡ Some (found_in_slot x found)
found_one life i x address found r none own free =
    ap (found_after life i x (op.Load address) found outcome.Quiet) none
    ∙ ap (λ b. if b && is_free found then Some (found_in_slot x found) else None) own
    ∙ ap (λ b. if b then Some (found_in_slot x found) else None) free

-- the odd life word of the object that was found is stored
taken_one : (life : Field) (i : ℕ) (n : Id) (address found : ℕ) (r : Option Id) → r ≡ Some n
    → is_own life i (word_of n.creator n.slot life) ≡ true
    → found_after life i (word_of n.creator n.slot life) (op.Store address (used_word n)) found outcome.Quiet r ≡ None
taken_one life i n address found r some own =
    ap
    (found_after life i (word_of n.creator n.slot life) (op.Store address (used_word n)) found outcome.Quiet) some
    ∙ ap
    (λ b. if b && (is_own life i (word_of n.creator n.slot life) && n.slot == n.slot) then None else Some n)
    (same_number (used_word n))
    ∙ ap (λ b. if b && n.slot == n.slot then None else Some n) own
    ∙ ap (λ b. if b then None else Some n) (same_number n.slot)

-- the search goes on at the slot behind it
goes_behind : (w : List ℕ) (i : ℕ) (a : Actor) (life : Field) (slot address word : ℕ)
    → is_own_life i (own_life a life slot) ≡ true → slot < per_thread w (kind_of (number life))
    → expected_after w i (own_life a life slot) (outcome.NotReady address word) ≡ Some (own_life a life (next_slot w (kind_of (number life)) slot))
goes_behind w i a life slot address word own within =
    ap (λ b. if b then Some (life_behind w (own_life a life slot)) else None) own
    ∙ ap (λ n. Some (own_life a life n)) (slot_behind w (kind_of (number life)) slot within)

module _ (w : List ℕ) (m : Memory) (s : State) (i : ℕ) (a : Actor) (mine : a.thread ≡ i) (h : Watch)
    (address : ℕ) where
  own_thread : a.thread == i ≡ true
  own_thread = eq-eqb a.thread i mine

  -- ---- regions

  module _ (slot : ℕ)
      (expected : IsSought h.search (own_life a RegionLife slot))
      (region : h.search.region ≡ None) (task : h.search.task ≡ None) (b : Actor)
      (no_task : task_found b.counter ≡ None) where
    abbrev x : RecordWord
    x = own_life a RegionLife slot

    pub region_found_free : is_free (found_in m x) ≡ true
        → region_found b.counter ≡ Some (found_in_slot x (found_in m x)) → IsFirst (sought b b.counter)
        → IsLookGiven b b.counter (looked_at w s i x (op.Load address) (found_in m x) h.look.looked h.look.seen)
        → KeepsParts w m s i (op.Load address) x (b, outcome.Quiet) h
    region_found_free free found first look = record {
      meets_order = (λ calm some. begins_first h.search x expected calm, expects_this h.search address x expected);
      search = record {
        expected = inl (refl, first);
        region = found_one RegionLife i x address (found_in m x) h.search.region region own_thread free ∙ sym found;
        task = found_none TaskLife i x (op.Load address) (found_in m x) outcome.Quiet h.search.task task refl ∙ sym no_task;
      };
      meets_look = tt;
      look = look;
    }

    pub region_passed : (word : ℕ) → slot < per_thread w regions → MayOweRegion w m s i
        → sought b b.counter ≡ Some (own_life a RegionLife (next_slot w regions slot))
        → region_found b.counter ≡ None
        → IsLookGiven b b.counter h.look → KeepsParts w m s i (op.Load address) x (b, outcome.NotReady address word) h
    region_passed word within may goes none look = record {
      meets_order = (
        λ calm some. begins_first h.search x expected calm,
        expects_this h.search address x expected,
        record { region = λ own. (region, may); task = λ own. absurd (cc own) },
      );
      search = record {
        expected = inr (goes_behind w i a RegionLife slot address word (ap (λ b. b || false) own_thread) within ∙ sym goes);
        region = found_none RegionLife i x (op.Load address) (found_in m x) (outcome.NotReady address word) h.search.region region refl ∙ sym none;
        task = found_none TaskLife i x (op.Load address) (found_in m x) (outcome.NotReady address word) h.search.task task refl ∙ sym no_task;
      };
      meets_look = λ waits. absurd (cc waits);
      look = look;
    }

  -- the odd life word of the region that was found is stored
  pub region_taken : (n : Id) (b : Actor) → n.creator ≡ i → h.search.expected ≡ None
      → h.search.region ≡ Some n → h.search.task ≡ None → Rests b.counter
      → KeepsParts w m s i (op.Store address (used_word n)) (word_of n.creator n.slot RegionLife)
      (b, outcome.Quiet) h
  region_taken n b maker none region task rests = record {
    meets_order = (
      λ calm some. absurd (cc some),
      expects_none h.search (op.Store address (used_word n)) (word_of n.creator n.slot RegionLife) none,
    );
    search = record {
      expected = inl (refl, rests.fresh.first b);
      region = taken_one RegionLife i n address (found_in m (word_of n.creator n.slot RegionLife)) h.search.region region (eq-eqb n.creator i maker)
          ∙ sym rests.fresh.region;
      task = found_none TaskLife i (word_of n.creator n.slot RegionLife) (op.Store address (used_word n))
          (found_in m (word_of n.creator n.slot RegionLife)) outcome.Quiet h.search.task task refl ∙ sym rests.fresh.task;
    };
    meets_look = tt;
    look = rests.look b _;
  }

  -- ---- tasks

  module _ (slot : ℕ)
      (expected : IsSought h.search (own_life a TaskLife slot))
      (region : h.search.region ≡ None) (task : h.search.task ≡ None) (b : Actor)
      (no_region : region_found b.counter ≡ None) where
    abbrev y : RecordWord
    y = own_life a TaskLife slot

    pub task_found_free : is_free (found_in m y) ≡ true
        → task_found b.counter ≡ Some (found_in_slot y (found_in m y)) → IsFirst (sought b b.counter)
        → IsLookGiven b b.counter (looked_at w s i y (op.Load address) (found_in m y) h.look.looked h.look.seen)
        → KeepsParts w m s i (op.Load address) y (b, outcome.Quiet) h
    task_found_free free found first look = record {
      meets_order = (λ calm some. begins_first h.search y expected calm, expects_this h.search address y expected);
      search = record {
        expected = inl (refl, first);
        region = found_none RegionLife i y (op.Load address) (found_in m y) outcome.Quiet h.search.region region refl ∙ sym no_region;
        task = found_one TaskLife i y address (found_in m y) h.search.task task own_thread free ∙ sym found;
      };
      meets_look = tt;
      look = look;
    }

    pub task_passed : (word : ℕ) → slot < per_thread w tasks → MayOweTask w m s i
        → sought b b.counter ≡ Some (own_life a TaskLife (next_slot w tasks slot))
        → task_found b.counter ≡ None
        → IsLookGiven b b.counter h.look → KeepsParts w m s i (op.Load address) y (b, outcome.NotReady address word) h
    task_passed word within may goes none look = record {
      meets_order = (
        λ calm some. begins_first h.search y expected calm,
        expects_this h.search address y expected,
        record { region = λ own. absurd (cc own); task = λ own. (task, may) },
      );
      search = record {
        expected = inr (goes_behind w i a TaskLife slot address word own_thread within ∙ sym goes);
        region = found_none RegionLife i y (op.Load address) (found_in m y) (outcome.NotReady address word) h.search.region region refl ∙ sym no_region;
        task = found_none TaskLife i y (op.Load address) (found_in m y) (outcome.NotReady address word) h.search.task task refl ∙ sym none;
      };
      meets_look = λ waits. absurd (cc waits);
      look = look;
    }

  -- the odd life word of the task that was found is stored
  pub task_taken : (n : Id) (b : Actor) → n.creator ≡ i → h.search.expected ≡ None → h.search.region ≡ None
      → h.search.task ≡ Some n → Rests b.counter
      → KeepsParts w m s i (op.Store address (used_word n)) (word_of n.creator n.slot TaskLife)
      (b, outcome.Quiet) h
  task_taken n b maker none region task rests = record {
    meets_order = (
      λ calm some. absurd (cc some),
      expects_none h.search (op.Store address (used_word n)) (word_of n.creator n.slot TaskLife) none,
    );
    search = record {
      expected = inl (refl, rests.fresh.first b);
      region = found_none RegionLife i (word_of n.creator n.slot TaskLife) (op.Store address (used_word n))
          (found_in m (word_of n.creator n.slot TaskLife)) outcome.Quiet h.search.region region refl ∙ sym rests.fresh.region;
      task = taken_one TaskLife i n address (found_in m (word_of n.creator n.slot TaskLife)) h.search.task task (eq-eqb n.creator i maker)
          ∙ sym rests.fresh.task;
    };
    meets_look = tt;
    look = rests.look b _;
  }

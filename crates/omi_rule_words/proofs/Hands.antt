-- Threads that have other tasks in their hands, and else owe the same: what is in hands matters to deferred tasks alone.
use Rattle.std.proofs.Common.{◌≡◌, ◌==◌, ℕ, Bool, true, false, List, Option, refl, ap, eqb-true, if◌then◌else◌}
use mathlib.Core.Path.{fun_ext}
use Rattle.omi_model.specs.declared.id.Rid.{Rid}
use Rattle.omi_model.specs.declared.id.Tid.{Tid}
use Rattle.omi_model.specs.declared.region.Region.{Region}
use Rattle.omi_model.specs.declared.task.Task.{Task}
use Rattle.omi_model.specs.State.{State}
use Rattle.omi_layout.specs.Memory.{MadeRecords, Rec, replace_at}
use Rattle.omi_rule_words.specs.Owes.{Owed}
use Rattle.omi_rule_words.specs.Objects.{KeepsRegion}
use Rattle.omi_rule_words.specs.Words.{KeepsMade, KeepsTask}
use Rattle.omi_rule_words.proofs.CountedRegions.{region_counted}

abbrev pub with_hands : (ℕ → Owed) → (ℕ → Option Tid) → ℕ → Owed
with_hands owes hands = λ j. record (owes j) { hand = hands j }

-- one thread has another
pub one_hand : (owes : ℕ → Owed) (i : ℕ) (hand : Option Tid)
    → ◌≡◌ {A = ℕ → Owed} (with_hands owes (replace_at (λ j. (owes j).hand) i hand)) (replace_at owes i (record (owes i) { hand = hand }))
one_hand owes i hand = fun_ext (λ j. go j (j == i) refl)
  where
    go : (j : ℕ) (b : Bool) → j == i ≡ b
        → record (owes j) { hand = if b then hand else (owes j).hand } ≡ (if b then record (owes i) { hand = hand } else owes j)
    go j true e = ap (λ c. record (owes c) { hand = hand }) (eqb-true j i e)
    go j false e = refl

module _ (w : List ℕ) (s : State) (owes : ℕ → Owed) (hands : ℕ → Option Tid) where
  abbrev other : ℕ → Owed
  other = with_hands owes hands

  region_rehanded : (n : Rid) (r : Rec) (x : Region) → KeepsRegion w s owes n r x
      → KeepsRegion w s other n r x
  region_rehanded n r x o = region_counted w s s owes other n r x refl refl o

  task_rehanded : (k : Tid) (r : Rec) (t : Task) → KeepsTask w s owes k r t → KeepsTask w s other k r t
  task_rehanded k r t o = record {
    environment = o.environment;
    place = o.place;
    counts = record { children = o.counts.children; references = o.counts.references; given = o.counts.given };
    slots = o.slots;
  }

  pub made_rehanded : (i : ℕ) (made : MadeRecords) → KeepsMade w s owes i made → KeepsMade w s other i made
  made_rehanded i made o = record {
    thread = o.thread;
    assign = record { waiting = λ k waits. let was = o.assign.waiting k waits in record { word_is = was.word_is; once = was.once }; none = o.assign.none };
    regions = λ k within. let slot = o.regions k within in record { life = slot.life; live = λ x is. region_rehanded _ _ x (slot.live x is) };
    tasks = λ k within. let slot = o.tasks k within in record { life = slot.life; live = λ t is. task_rehanded _ _ t (slot.live t is) };
    making = record { region = o.making.region; tasks = o.making.tasks; apart = o.making.apart };
    objects = record {
      pending = o.objects.pending;
      left = o.objects.left;
      raised = o.objects.raised;
      lowered = o.objects.lowered;
      referred = o.objects.referred;
      own = o.objects.own;
      returned = o.objects.returned;
      gives = o.objects.gives;
      assigns = o.objects.assigns;
    };
  }

-- Joined regions over every event.
use Rattle.std.proofs.Common.{◌≡◌, ℕ, zero, suc, Bool, true, List, [], ◌∷◌, drop, slice_set, Some, refl, arith}
use Rattle.std.specs.List.{All}
use Rattle.omi_script.specs.declared.program.Program.{Program}
use Rattle.omi_model.specs.declared.event.Event.{Event}
use Rattle.omi_model.specs.declared.id.Rid.{Rid}
use Rattle.omi_model.specs.declared.region.Region.{Region}
use Rattle.omi_model.specs.LawJoins.{IsJoinedLast}
use Rattle.omi_model.specs.LawStays.{Stays}
use Rattle.omi_model.specs.Opening.{opening}
use Rattle.omi_model.specs.Reached.{Reached, Step}
use Rattle.omi_model.specs.State.{State, region_of}
use Rattle.omi_model.proofs.EachObject.{EachRegion, IsRegionLaw, over_events, region_step}
use Rattle.omi_model.proofs.OpeningObjects.{each_first_region}
use Rattle.omi_model.proofs.Slots.{false_true}
use Rattle.omi_model.proofs.Steps.{IsRelisted}

-- where each is true, each is true once one is set to true
all_set : (xs : List Bool) (n : ℕ) → All (λ b. b ≡ true) xs → All (λ b. b ≡ true) (slice_set xs n true)
all_set [] n all k d within = absurd (omega (arith, within))
all_set (x ∷ xs) zero all zero d within = refl
all_set (x ∷ xs) zero all (suc k) d within = all (suc k) d within
all_set (x ∷ xs) (suc n) all zero d within = all 0 d (omega arith)
all_set (x ∷ xs) (suc n) all (suc k) d within =
    all_set xs n (λ j e inside. all (suc j) e (omega arith)) k d (omega arith)

others_set : (xs : List Bool) (n : ℕ) → All (λ b. b ≡ true) (drop 1 xs)
    → All (λ b. b ≡ true) (drop 1 (slice_set xs n true))
others_set [] n all = all
others_set (x ∷ xs) zero all = all
others_set (x ∷ xs) (suc n) all = all_set xs n all

joins_step : (p : Program) (s : State) (i : ℕ) (e : Event) (next : State) → Step p s i e next
    → EachRegion (λ n r. IsJoinedLast r) s → EachRegion (λ n r. IsJoinedLast r) next
joins_step p s i e next step all = region_step p (λ n r. IsJoinedLast r) s i e next step law all
  where
    law : (middle : State) → IsRelisted s middle → Stays middle next
        → IsRegionLaw p middle i next (λ n r. IsJoinedLast r)
    law middle relists later = record {
      arrives = λ k t r is found q. q;
      releases = λ k t r is found may q. q;
      ends = λ k t r is found im other q joined. others_set r.ended t.number (q joined);
      joins = λ k t r is found may q joined. may.ended;
      forks = λ region team f k t r is found may new joined. absurd (false_true joined);
    }

pub joins_last : (p : Program) (events : List (ℕ × Event)) (s : State) → Reached p events s
    → (n : Rid) (r : Region) → region_of s n ≡ Some r → IsJoinedLast r
joins_last p events s reached =
    over_events p (EachRegion (λ n r. IsJoinedLast r)) (λ u i e next step h. joins_step p u i e next step h)
    (opening p) events s reached
    (each_first_region p (λ n r. IsJoinedLast r) (λ joined. absurd (false_true joined)))

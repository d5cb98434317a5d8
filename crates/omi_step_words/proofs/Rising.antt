-- The words of a plan go up.
use Rattle.std.proofs.Common.{◌≡◌, ℕ, zero, suc, ◌<◌, ◌&&◌, nat_lt, Bool, true, List, [], ◌∷◌, length, refl, arith, ltb-true}
use Rattle.std.specs.Prelude.{slice_index_or}
use Rattle.omi_layout.proofs.Arenas.{test_left, test_right}
use Rattle.omi_step_words.specs.declared.plan.Planned.{Planned}
use Rattle.omi_step_words.specs.Plan.{region_words, task_words}
use Rattle.omi_step_words.specs.PlanLaws.{rank, RegionStoresGoUp, TaskStoresGoUp}

-- each rank is above those before it, of which the last is `low`
abbrev goes_up : ℕ → List Planned → Bool
goes_up low [] = true
goes_up low (x ∷ xs) = nat_lt low (rank x) && goes_up (rank x) xs

first_above : (low : ℕ) (x : Planned) (xs : List Planned) → goes_up low (x ∷ xs) ≡ true → low < rank x
first_above low x xs up = ltb-true low (rank x) (test_left (nat_lt low (rank x)) (goes_up (rank x) xs) up)

others_go_up : (low : ℕ) (x : Planned) (xs : List Planned) → goes_up low (x ∷ xs) ≡ true
    → goes_up (rank x) xs ≡ true
others_go_up low x xs up = test_right (nat_lt low (rank x)) (goes_up (rank x) xs) up

above : (low : ℕ) (xs : List Planned) (d : Planned) (k : ℕ) → goes_up low xs ≡ true → k < length xs
    → low < rank (slice_index_or xs k d)
above low [] d k up h = absurd (omega (arith, h))
above low (x ∷ xs) d zero up h = first_above low x xs up
above low (x ∷ xs) d (suc k) up h =
    omega
    (arith, first_above low x xs up, above (rank x) xs d k (others_go_up low x xs up) (omega (arith, h)))

rises : (low : ℕ) (xs : List Planned) (d : Planned) (j k : ℕ) → goes_up low xs ≡ true → j < k → k < length xs
    → rank (slice_index_or xs j d) < rank (slice_index_or xs k d)
rises low [] d j k up h within = absurd (omega (arith, within))
rises low (x ∷ xs) d j zero up h within = absurd (omega (arith, h))
rises low (x ∷ xs) d zero (suc k) up h within =
    above (rank x) xs d k (others_go_up low x xs up) (omega (arith, within))
rises low (x ∷ xs) d (suc j) (suc k) up h within =
    rises (rank x) xs d j k (others_go_up low x xs up) (omega (arith, h)) (omega (arith, within))

pub region_stores : RegionStoresGoUp
region_stores w n j k h within = rises 0 (region_words w n) _ j k refl h within

pub task_stores : TaskStoresGoUp
task_stores w t j k h within = rises 0 (task_words w t) _ j k refl h within

-- A test over the steps of a run, and steps that are made up to a last one.
use Rattle.std.proofs.Common.{◌≡◌, ◌≤◌, ◌<◌, ◌+◌, ◌⊎◌, inl, inr, ℕ, true, false, List, length, take, Option, Some, None, refl, sym, ap, ◌∙◌, subst, arith}
use Rattle.std.proofs.lemmas.Bool.{cases_lt}
use Rattle.std.specs.Prelude.{IfSome, is_some}
use Rattle.omi_model.proofs.Slots.{false_true}
use Rattle.omi_script.specs.declared.program.Program.{Program}
use Rattle.omi_core.specs.declared.schedule.Schedule.{Schedule}
use Rattle.omi_core.specs.declared.schedule.Schedule.TheVariants as schedule
use Rattle.omi_core.specs.Schedules.{IsListed}
use Rattle.omi_rewind.specs.declared.test.Test.{Test}
use Rattle.omi_rewind.specs.Answers.{HoldsNowhere, IsFirst, IsWithin}
use Rattle.omi_rewind.specs.Rewound.{IsLater, Rewound, steps_in, words_at}
use Rattle.omi_rewind.specs.Tests.{holds}
use Rattle.omi_rewind.proofs.Fronts.{count_behind}
use Rattle.omi_rewind.proofs.Stays.{later_two, later_words}

-- the words behind any number of steps are equally many
pub count_at : (a : Rewound) (n m : ℕ) → length (words_at a n) ≡ length (words_at a m)
count_at a n m =
    count_behind a.first (take n a.run.made.items) ∙ sym (count_behind a.first (take m a.run.made.items))

pub count_later : (a b : Rewound) → IsLater a b → (n m : ℕ) → length (words_at b n) ≡ length (words_at a m)
count_later a b later n m =
    count_behind b.first (take n b.run.made.items)
    ∙ ap (λ (ws : List ℕ). length ws) later.first
    ∙ sym (count_behind a.first (take m a.run.made.items))

-- ---- steps up to a last one

-- more steps were made, but none behind the last one, and the image stands where it stood
pub record GoesUntil (old new : Rewound) (last : ℕ) : Type 0 where
  pub later : IsLater old new
  pub within : IsWithin old new last
  pub at : new.at ≡ old.at

pub goes_none : (a : Rewound) (last : ℕ) → IsLater a a → GoesUntil a a last
goes_none a last later = record { later = later; within = inr refl; at = refl }

pub goes_one : (a b c : Rewound) (last : ℕ) → GoesUntil a b last → steps_in b < last → IsLater b c
    → steps_in c ≡ steps_in b + 1 → c.at ≡ b.at → GoesUntil a c last
goes_one a b c last goes more later one at =
    let low : steps_in c ≤ last = omega (arith, more, one) in
    record { later = later_two a b c goes.later later; within = inl low; at = at ∙ goes.at }

-- ---- a test

module _ (test : Test) (w : List ℕ) where
  -- one step more behind which it doesn't hold
  pub nowhere_next : (a : Rewound) (n : ℕ) → HoldsNowhere a test w n → holds test w (words_at a n) ≡ false
      → HoldsNowhere a test w (n + 1)
  nowhere_next a n none not m below within = go (cases_lt m n)
    where
      go : (m < n) ⊎ (n ≤ m) → holds test w (words_at a m) ≡ false
      go (inl less) = none m less within
      go (inr more) =
          let same : m ≡ n = omega (arith, below, more) in ap (λ k. holds test w (words_at a k)) same ∙ not

  -- the run goes on by a step behind which it doesn't hold
  pub nowhere_later : (a b : Rewound) → IsLater a b → steps_in b ≡ steps_in a + 1
      → HoldsNowhere a test w (steps_in a + 1) → holds test w (words_at b (steps_in b)) ≡ false
      → HoldsNowhere b test w (steps_in b + 1)
  nowhere_later a b later one none not m below within = go (cases_lt m (steps_in b))
    where
      go : (m < steps_in b) ⊎ (steps_in b ≤ m) → holds test w (words_at b m) ≡ false
      go (inl less) =
          let low : m ≤ steps_in a = omega (arith, less, one) in
          let lower : m < steps_in a + 1 = omega (arith, low) in
          ap (holds test w) (later_words a b later m low) ∙ none m lower low
      go (inr more) =
          let same : m ≡ steps_in b = omega (arith, within, more) in
          ap (λ k. holds test w (words_at b k)) same ∙ not

  -- and so it holds first behind this step
  pub first_later : (a b : Rewound) → IsLater a b → steps_in b ≡ steps_in a + 1
      → HoldsNowhere a test w (steps_in a + 1) → holds test w (words_at b (steps_in b)) ≡ true → (last : ℕ) → steps_in b ≤ last
      → IsFirst b test w last (Some (steps_in b))
  first_later a b later one none so last within = (
    within,
    omega arith,
    so,
    λ m below low.
        let lower : m ≤ steps_in a = omega (arith, below, one) in
        let less : m < steps_in a + 1 = omega (arith, lower) in
        ap (holds test w) (later_words a b later m lower) ∙ none m less lower,
  )

  -- it holds nowhere up to the last step, where all steps were made, or none is behind `done`
  pub nowhere_until : (a : Rewound) (last : ℕ) → HoldsNowhere a test w (steps_in a + 1)
      → HoldsNowhere a test w (last + 1)
  nowhere_until a last none m below within = none m (omega (arith, within)) within

-- ---- the end of a run

-- the last step committed `done`
pub done_last : (o d : Option ℕ) (n : ℕ) → o ≡ d → IfSome o (λ k. k ≡ n) → is_some o ≡ true → d ≡ Some n
done_last None d n same last so = absurd (false_true so)
done_last (Some k) d n same last so = sym same ∙ ap Some last

-- or none did
pub done_never : (o d : Option ℕ) → o ≡ d → is_some o ≡ false → d ≡ None
done_never None d same so = sym same
done_never (Some k) d same so = absurd (false_true (sym so))

-- ---- schedules

listed_less : (how : Schedule) (threads n m : ℕ) → m ≤ n → IsListed how threads n → IsListed how threads m
listed_less schedule.RoundRobin threads n m less listed = tt
listed_less (schedule.Seed seed) threads n m less listed = tt
listed_less (schedule.List list) threads n m less (each, long) = (each, omega (arith, less, long))

-- the next step of a later run is listed
pub listed_later : (a b : Rewound) (last : ℕ) → IsLater a b → IsListed a.how a.run.program.threads last
    → steps_in b < last → IsListed b.how b.run.program.threads (steps_in b + 1)
listed_later a b last later listed less =
    subst (λ (h : Schedule). IsListed h b.run.program.threads (steps_in b + 1)) (sym later.how)
    (subst (λ (p : Program). IsListed a.how p.threads (steps_in b + 1)) (sym later.program)
    (listed_less a.how a.run.program.threads last (steps_in b + 1) (omega (arith, less)) listed))

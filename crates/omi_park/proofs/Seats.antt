-- Seats are made and taken in, and a table is opened, under the rule.
use Rattle.std.proofs.Common.{◌≡◌, ◌≢◌, ◌⊎◌, inl, inr, ◌<◌, ◌+◌, ◌++◌, ℕ, zero, suc, List, [], ◌∷◌, length, replicate, slice_get, Some, refl, sym, ap, ◌∙◌, subst, arith, ⊎_elim}
use mathlib.Core.Option.{some, some-injective, some-ne-none}
use lib.ListN.{get_elem?}
use Rattle.std.proofs.lemmas.List.{length-replicate}
use Rattle.atomic_table.specs.Table.{Joins, Splits, opening}
use Rattle.omi_script.specs.declared.program.Program.{Program}
use Rattle.omi_layout.specs.declared.layout.Layout.{Layout}
use Rattle.omi_layout.specs.OpeningWords.{AreOpening}
use Rattle.omi_rep.specs.Suits.{Suits}
use Rattle.omi_seat.specs.Behind.{HasRun}
use Rattle.omi_seat.specs.Seats.{AreSeated, Seated, all_below, first_alone, without_first}
use Rattle.omi_seat.specs.Workers.{IsToSplit}
use Rattle.omi_seat.proofs.Lists.{get_more, get_within}
use Rattle.omi_seat.proofs.Opened.{opened, untouched_known}
use Rattle.omi_seat.proofs.Seats.{one_below, one_joined, one_split}
use Rattle.omi_park.specs.declared.known.Part.{Part}
use Rattle.omi_park.specs.declared.known.Part.TheVariants as part
use Rattle.omi_park.specs.Plays.{first_inspector, first_part, first_parts}
use Rattle.omi_park.specs.Running.{IsInspector, IsPart, IsSaid, Keeps, number_of}
use Rattle.omi_park.proofs.Kept.{Now, reseated}
use Rattle.omi_list.proofs.Places.{one_value}

-- the parts of so many workers before their first steps, and the inspector's
abbrev parts_of : Program → Layout → ℕ → List Part
parts_of q m n = all_below (first_part q m) n ++ part.Inspector first_inspector ∷ []

-- each of them is one of a worker below the number, or the inspector's
one_of_parts : (q : Program) (m : Layout) (n at : ℕ) (z : Part) → slice_get (parts_of q m n) at ≡ Some z
    → ((k : ℕ) × (first_part q m k ≡ z) × (k < n)) ⊎ (part.Inspector first_inspector ≡ z)
one_of_parts q m n at z got =
    ⊎_elim (λ below. inl (one_below (first_part q m) n at z below)) (λ last. inr last.1)
    (get_more (all_below (first_part q m) n) (part.Inspector first_inspector) z at got)

-- the last of so many workers before their first steps gets a seat
split_allowed : (p : Program) (l : Layout) (q : Program) (m : Layout) (id n : ℕ)
    → Splits (Keeps p l) id (parts_of q m (suc n)) (without_first (parts_of q m (suc n)))
    (first_alone (parts_of q m (suc n)))
split_allowed p l q m id n s h at =
    reseated p l s h h.inspector _ h.inspects
    (one_split number_of (Now p l s h h.inspector) s.views h.seats id (first_part q m n) (parts_of q m n) apart at)
  where
    apart : (k : ℕ) (z : Part) → slice_get (parts_of q m n) k ≡ Some z → number_of z ≢ number_of (first_part q m n)
    apart k z got same = ⊎_elim below inspector (one_of_parts q m n k z got)
      where
        below : (i : ℕ) × (first_part q m i ≡ z) × (i < n) → ⊥
        below (i, is, less) = let number : i + 1 ≡ n + 1 = ap number_of is ∙ same in omega (arith, number, less)

        inspector : part.Inspector first_inspector ≡ z → ⊥
        inspector is = let number : 0 ≡ n + 1 = ap number_of is ∙ same in omega (arith, number)

-- and so one seat that knows them all gives each worker its own
pub to_split : (p : Program) (l : Layout) (q : Program) (m : Layout) (me : Seated Part)
    → me ≡ (first_parts q m, [])
    → IsToSplit (Keeps p l) q.threads (first_part q m) (part.Inspector first_inspector ∷ []) me
to_split p l q m me knows = record { knows = knows; may = λ id n. split_allowed p l q m id n }

pub join_allowed : (p : Program) (l : Layout) (id : ℕ) (v : List Part) (other : ℕ) (w : List Part)
    → Joins (Keeps p l) id v other w (v ++ w) []
join_allowed p l id v other w s h at apart at_other =
    reseated p l s h h.inspector _ h.inspects
    (one_joined number_of (Now p l s h h.inspector) s.views h.seats id other v w at apart at_other)

-- ---- a table is opened

zeros : (n k word : ℕ) → slice_get (replicate n 0) k ≡ Some word → word ≡ 0
zeros zero k word got = absurd (grind (arith, got))
zeros (suc n) zero word got = sym (one_value (Some 0) 0 word refl got)
zeros (suc n) (suc k) word got = zeros n k word got

zero_there : (n k : ℕ) → k < n → (let none : ℕ = 0 in slice_get (replicate n none) k ≡ Some none)
zero_there zero k below = absurd (omega (arith, below))
zero_there (suc n) zero below = refl
zero_there (suc n) (suc k) below = zero_there n k (omega (arith, below))

module _ (p : Program) (l : Layout) (words : List ℕ) (suits : Suits p l.table) (opens : AreOpening p l.table words) where
  abbrev acks : List ℕ
  acks = replicate p.threads 0

  abbrev run : HasRun p l (words ++ 0 ∷ acks) (0 ∷ acks)
  run = opened p l words (0 ∷ acks) suits opens

  first_said : (k word : ℕ) → slice_get acks k ≡ Some word → IsSaid run.keeps.entries 0 k word
  first_said k word got =
      let is : word ≡ 0 = zeros p.threads k word got in
      let none : ℕ = 0 in
      let many = length-replicate p.threads none in
      let within = get_within acks word k got in
      let known = untouched_known p l words (0 ∷ acks) suits opens k (omega (arith, many, within)) in
      subst (λ w. IsSaid run.keeps.entries 0 k w) (sym is)
      record { steps = λ still. ap length (sym known.steps); past = inr (inr (omega arith)) }

  first_inspects : IsInspector p l run.keeps.entries 0 run.run.words acks first_inspector
  first_inspects = record {
    current = refl;
    seen = λ k n got. absurd (grind (arith, got));
    all = λ k n got. absurd (grind (arith, got));
    held = λ k n got. absurd (grind (arith, got));
    stops = tt;
  }

  abbrev IsFirst : Part → Type 0
  IsFirst = IsPart p l run.keeps.entries run.run.actors 0 acks first_inspector

  first_is : (z : Part) → ((k : ℕ) × (first_part p l k ≡ z) × (k < p.threads)) ⊎ (part.Inspector first_inspector ≡ z)
      → IsFirst z
  first_is z (inl (k, is, below)) =
      subst IsFirst is
      record {
        known = untouched_known p l words (0 ∷ acks) suits opens k below;
        said = zero_there p.threads k below;
        loaded = λ n loaded. absurd (grind (arith, loaded));
        begins = λ none. refl;
        parked = λ parked. absurd (let odd = parked.0 in omega (arith, odd));
        waits = λ word n got none loaded. absurd (grind (arith, loaded));
      }
  first_is z (inr is) = subst IsFirst is refl

  first_seats : AreSeated number_of IsFirst (first_parts p l ∷ [])
  first_seats = record { seat = λ k. 0; parts = each }
    where
      each : (j k : ℕ) (known : List Part) (z : Part) → get_elem? (first_parts p l ∷ []) j ≡ some known
          → slice_get known k ≡ Some z → (0 ≡ j) × IsFirst z
      each zero k known z got there = (
        refl,
        first_is z
            (one_of_parts p l p.threads k z
            (subst (λ (ks : List Part). slice_get ks k ≡ Some z) (sym (some-injective (first_parts p l) known got)) there)),
      )
      each (suc j) k known z got there = absurd (some-ne-none known (sym got))

  pub opening_keeps : Keeps p l (opening (words ++ 0 ∷ acks) [] (first_parts p l))
  opening_keeps = record {
    epoch = 0;
    last = omega arith;
    acks = acks;
    many = length-replicate p.threads 0;
    behind = run;
    said = first_said;
    inspector = first_inspector;
    inspects = first_inspects;
    seats = first_seats;
  }

-- Runs that are computed: where each event's rule holds in the state that the events before it make, the events are legal one after the other.
use Rattle.std.proofs.Common.{◌≡◌, ◌<◌, ℕ, true, List, [], ◌∷◌, Option, Some, None, is_some, refl}
use Rattle.std.specs.Prelude.{⊤}
use Rattle.std.specs.Option.{option_map_or}
use Rattle.omi_script.specs.declared.program.Program.{Program}
use Rattle.omi_model.specs.declared.event.Event.{Event}
use Rattle.omi_model.specs.declared.item.Item.{Item}
use Rattle.omi_model.specs.Reached.{Leads}
use Rattle.omi_model.specs.Rules.{Legal, Rule, after, taken_by}
use Rattle.omi_model.specs.State.{State}
use Rattle.omi_model.proofs.Slots.{false_true}

-- the state after an event that has one
abbrev pub next_of : Program → State → ℕ → Event → State
next_of p s i e = option_map_or (λ u. u) (after p s i e) s

abbrev pub end_of : Program → State → List (ℕ × Event) → State
end_of p s [] = s
end_of p s (x ∷ xs) = end_of p (next_of p s x.0 x.1) xs

-- the rule of the item that an event takes
abbrev pub TakenRule : State → ℕ → Event → Option (Item × List Item) → Type 0
TakenRule s i e None = ⊥
TakenRule s i e (Some y) = Rule s i e y.0

-- each event is by a known thread, takes an item, meets its rule and has a next state
abbrev pub Holds : Program → State → List (ℕ × Event) → Type 0
Holds p s [] = ⊤
Holds p s (x ∷ xs) =
    (x.0 < s.count) × TakenRule s x.0 x.1 (taken_by p s x.0 x.1) × (is_some (after p s x.0 x.1) ≡ true) × Holds p (next_of p s x.0 x.1) xs

next_is : (o : Option State) (s : State) → is_some o ≡ true → o ≡ Some (option_map_or (λ u. u) o s)
next_is None s e = absurd (false_true e)
next_is (Some u) s e = refl

legal_by : (p : Program) (s : State) (i : ℕ) (e : Event) → i < s.count → TakenRule s i e (taken_by p s i e)
    → Legal p s i e
legal_by p s i e known rule = go (taken_by p s i e) refl rule
  where
    go : (o : Option (Item × List Item)) → taken_by p s i e ≡ o → TakenRule s i e o → Legal p s i e
    go None is h = absurd h
    go (Some y) is h = record { known = known; item = y.0; behind = y.1; taken = is; rule = h }

pub holds_leads : (p : Program) (s : State) (xs : List (ℕ × Event)) → Holds p s xs
    → Leads p s xs (end_of p s xs)
holds_leads p s [] h = refl
holds_leads p s (x ∷ xs) (known, rule, there, rest) =
    (next_of p s x.0 x.1, record { legal = legal_by p s x.0 x.1 known rule; after_is = next_is (after p s x.0 x.1) s there }, holds_leads p (next_of p s x.0 x.1) xs rest)

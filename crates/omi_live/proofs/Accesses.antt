-- One more access at the end of a list.
use Rattle.std.proofs.Common.{◌≡◌, ◌≢◌, ◌++◌, ℕ, Bool, true, false, List, [], ◌∷◌, refl, sym, ap, ◌∙◌, subst, arith, Option, Some, None, if◌then◌else◌}
use Rattle.std.proofs.lemmas.Bool.Decides.{nat_tests}
use Rattle.std.proofs.lemmas.List.{append_assoc, append-nil}
use Rattle.omi_word.specs.Memory.{address_of, word_at, words_after}
use Rattle.omi_model.specs.declared.event.Event.TheVariants as event
use Rattle.omi_rep.specs.declared.outcome.Outcome.{Outcome}
use Rattle.omi_rep.specs.declared.outcome.Outcome.TheVariants as outcome
use Rattle.omi_core.specs.declared.entry.Entry.{Entry}
use Rattle.omi_core.specs.declared.stop.Break.{Break}
use Rattle.omi_core.specs.declared.stop.Break.TheVariants as kind
use Rattle.omi_core.specs.Ends.{is_of_kind}
use Rattle.omi_core.proofs.History.{other_more, own_more}
use Rattle.omi_live.specs.declared.known.Access.{Access}
use Rattle.omi_live.specs.declared.known.Access.TheVariants as access
use Rattle.omi_seat.specs.Stops.{ends_at, stops_at}
use Rattle.omi_live.specs.Accesses.{Finds, LeadTo, accesses_of, operation_of, raise_behind, step_in, steps_in, with_looks}

pub lead_more : (stop : ℕ) (words : List ℕ) (xs : List (ℕ × Access)) (x : ℕ × Access) (mid last : List ℕ)
    → LeadTo stop words xs mid
    → Finds x.1 (word_at mid (address_of (operation_of stop x.1))) → last ≡ words_after mid (operation_of stop x.1) → LeadTo stop words (xs ++ x ∷ []) last
lead_more stop words [] x mid last is found after =
    subst
    (λ (ws : List ℕ). Finds x.1 (word_at ws (address_of (operation_of stop x.1))) × (last ≡ words_after ws (operation_of stop x.1))) is
    (found, after)
lead_more stop words (y ∷ ys) x mid last (first, rest) found after =
    (first, lead_more stop (words_after words (operation_of stop y.1)) ys x mid last rest found after)

pub steps_more : (xs : List (ℕ × Access)) (x : ℕ × Access)
    → steps_in (xs ++ x ∷ []) ≡ steps_in xs ++ step_in x.0 x.1
steps_more [] x = append-nil (step_in x.0 x.1)
steps_more (y ∷ ys) x =
    ap (λ (zs : List (ℕ × Entry)). step_in y.0 y.1 ++ zs) (steps_more ys x)
    ∙ sym (append_assoc (step_in y.0 y.1) (steps_in ys) (step_in x.0 x.1))

pub own_access : (j : ℕ) (xs : List (ℕ × Access)) (a : Access)
    → accesses_of j (xs ++ (j, a) ∷ []) ≡ accesses_of j xs ++ a ∷ []
own_access j = own_more (accesses_of j) j refl (λ x xs. refl)

pub other_access : (j i : ℕ) (xs : List (ℕ × Access)) (a : Access) → i ≢ j
    → accesses_of j (xs ++ (i, a) ∷ []) ≡ accesses_of j xs
other_access j = other_more (accesses_of j) j refl (λ x xs. refl)

-- ---- a thread that makes one more step

looks_more : (on : Option Break) (es : List Entry) (e : Entry)
    → with_looks on (es ++ e ∷ []) ≡ with_looks on es ++ access.Look false ∷ access.Step e ∷ raise_behind on e.outcome
looks_more on [] e =
    ap (λ (ys : List Access). access.Look false ∷ access.Step e ∷ ys) (append-nil (raise_behind on e.outcome))
looks_more on (f ∷ es) e =
    ap (λ (ys : List Access). access.Look false ∷ access.Step f ∷ (raise_behind on f.outcome ++ ys))
    (looks_more on es e)
    ∙ ap (λ (ys : List Access). access.Look false ∷ access.Step f ∷ ys)
    (sym (append_assoc (raise_behind on f.outcome) (with_looks on es) (access.Look false ∷ access.Step e ∷ raise_behind on e.outcome)))

module _ (on : Option Break) (es : List Entry) (e : Entry) (did : List Access)
    (so_far : did ≡ with_looks on es) where
  -- it looked and made a step
  abbrev stepped : List Access
  stepped = (did ++ access.Look false ∷ []) ++ access.Step e ∷ []

  behind_both : (raises : List Access)
      → stepped ++ raises ≡ with_looks on es ++ access.Look false ∷ access.Step e ∷ raises
  behind_both raises =
      ap (λ (ys : List Access). ys ++ raises) (append_assoc did (access.Look false ∷ []) (access.Step e ∷ []))
      ∙ append_assoc did (access.Look false ∷ access.Step e ∷ []) raises
      ∙ ap (λ (ys : List Access). ys ++ access.Look false ∷ access.Step e ∷ raises) so_far

  one_more : (stops : Bool) → stops_at on e.outcome ≡ stops
      → stepped ++ (if stops then access.Raise ∷ [] else []) ≡ with_looks on (es ++ e ∷ [])
  one_more stops is =
      behind_both (if stops then access.Raise ∷ [] else [])
      ∙ ap
      (λ (b : Bool). with_looks on es ++ access.Look false ∷ access.Step e ∷ (if b then access.Raise ∷ [] else []))
      (sym is)
      ∙ sym (looks_more on es e)

  pub without_raise : stops_at on e.outcome ≡ false
      → (did ++ access.Look false ∷ []) ++ access.Step e ∷ [] ≡ with_looks on (es ++ e ∷ [])
  without_raise is =
      sym (append-nil ((did ++ access.Look false ∷ []) ++ access.Step e ∷ [])) ∙ one_more false is

  pub with_raise : stops_at on e.outcome ≡ true
      → ((did ++ access.Look false ∷ []) ++ access.Step e ∷ []) ++ access.Raise ∷ [] ≡ with_looks on (es ++ e ∷ [])
  with_raise is = one_more true is

-- `done` is no event at which a run is to stop
not_of_kind : (k : Break) → is_of_kind k event.Done ≡ false
not_of_kind kind.ParallelBegin = refl
not_of_kind kind.ParallelEnd = refl
not_of_kind kind.TaskBegin = refl
not_of_kind kind.TaskEnd = refl
not_of_kind kind.ThreadBegin = refl

pub done_is_no_stop : (on : Option Break) (o : Outcome) → ends_at o ≡ true → stops_at on o ≡ false
done_is_no_stop None o done = refl
done_is_no_stop (Some k) outcome.Quiet done = refl
done_is_no_stop (Some k) (outcome.NotReady address word) done = refl
done_is_no_stop (Some k) outcome.Ended done = refl
done_is_no_stop (Some k) (outcome.Event event.Done) done = not_of_kind k
done_is_no_stop (Some k) (outcome.Event x) done = absurd (grind (arith, nat_tests))

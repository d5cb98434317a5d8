-- One more word is found.
use Rattle.std.proofs.Common.{◌≡◌, ◌++◌, ℕ, suc, List, [], ◌∷◌, length, refl, sym, ap, ◌∙◌}
use Rattle.omi_script.specs.declared.program.Program.{Program}
use Rattle.omi_pc.specs.declared.actor.Actor.{Actor}
use Rattle.omi_core.specs.declared.entry.Entry.{Entry}
use Rattle.omi_core.specs.Found.{actor_after, actor_behind, entries_from, entry_at, found_by}
use Rattle.omi_core.specs.Kept.{IsBehind}
use Rattle.omi_word.specs.declared.op.Op.{Op}
use Rattle.omi_pc.specs.Opening.{opening_actor}
use Rattle.omi_rep.specs.declared.outcome.Outcome.{Outcome}
use Rattle.omi_actor.specs.Steps.{next_of, resumed_at}

module _ (p : Program) (w : List ℕ) where
  pub entries_one_more : (a : Actor) (ns : List ℕ) (n : ℕ)
      → entries_from p w a (ns ++ n ∷ []) ≡ entries_from p w a ns ++ entry_at p w (actor_behind p w a ns) n ∷ []
  entries_one_more a [] n = refl
  entries_one_more a (x ∷ ns) n =
      ap (λ (es : List Entry). entry_at p w a x ∷ es) (entries_one_more (actor_after p w a x) ns n)

  pub behind_one_more : (a : Actor) (ns : List ℕ) (n : ℕ)
      → actor_behind p w a (ns ++ n ∷ []) ≡ actor_after p w (actor_behind p w a ns) n
  behind_one_more a [] n = refl
  behind_one_more a (x ∷ ns) n = behind_one_more (actor_after p w a x) ns n

  pub as_many : (a : Actor) (ns : List ℕ) → length (entries_from p w a ns) ≡ length ns
  as_many a [] = refl
  as_many a (x ∷ ns) = ap suc (as_many (actor_after p w a x) ns)

-- the words of steps, and of one step more
pub found_one_more : (es : List Entry) (e : Entry) → found_by (es ++ e ∷ []) ≡ found_by es ++ e.old ∷ []
found_one_more [] e = refl
found_one_more (x ∷ es) e = ap (λ (ns : List ℕ). x.old ∷ ns) (found_one_more es e)

-- a thread that makes its next step is behind it
pub behind_step : (p : Program) (w : List ℕ) (thread : ℕ) (es : List Entry) (a : Actor) (e : Entry)
    → IsBehind p w thread es a → e.op ≡ next_of p w a → e.outcome ≡ (resumed_at p w a a.counter e.old).1
    → IsBehind p w thread (es ++ e ∷ []) (actor_after p w a e.old)
behind_step p w thread es a e is op outcome = record {
  follow =
      ap (λ ys. ys ++ e ∷ []) is.follow
      ∙ ap (λ (x : Entry). entries_from p w (opening_actor p thread) (found_by es) ++ x ∷ [])
      (entry_is ∙ ap (λ (b : Actor). entry_at p w b e.old) is.actor)
      ∙ sym (entries_one_more p w (opening_actor p thread) (found_by es) e.old)
      ∙ ap (entries_from p w (opening_actor p thread)) (sym (found_one_more es e));
  actor =
      ap (λ (b : Actor). actor_after p w b e.old) is.actor
      ∙ sym (behind_one_more p w (opening_actor p thread) (found_by es) e.old)
      ∙ ap (actor_behind p w (opening_actor p thread)) (sym (found_one_more es e));
}
  where
    entry_is : e ≡ entry_at p w a e.old
    entry_is =
        ap (λ (o : Op). record { op = o; old = e.old; outcome = e.outcome }) op
        ∙ ap (λ (o : Outcome). record { op = next_of p w a; old = e.old; outcome = o }) outcome

-- What threads made, by what is known of them.
use Rattle.std.proofs.Common.{◌≡◌, ℕ, suc, List, [], ◌∷◌, length, map, slice_get, slice_index_or, Some, refl, ap, arith}
use Rattle.omi_script.specs.declared.program.Program.{Program}
use Rattle.omi_pc.specs.declared.actor.Actor.{Actor}
use Rattle.omi_core.specs.declared.entry.Entry.{Entry}
use Rattle.omi_core.specs.declared.thread_run.ThreadRun.{ThreadRun}
use Rattle.omi_core.specs.Found.{actor_after, entries_from}

-- the words that steps found are those of which they follow
pub found_again : (p : Program) (w : List ℕ) (a : Actor) (ns : List ℕ)
    → map (λ (e : Entry). e.old) (entries_from p w a ns) ≡ ns
found_again p w a [] = refl
found_again p w a (n ∷ ns) = ap (λ ms. n ∷ ms) (found_again p w (actor_after p w a n) ns)

-- the actors of threads, each of which is known
pub same_actors : (actors : List Actor) (runs : List ThreadRun) → length actors ≡ length runs
    → ((i : ℕ) (r : ThreadRun) → slice_get runs i ≡ Some r → (d : Actor) → slice_index_or actors i d ≡ r.actor)
    → actors ≡ map (λ (r : ThreadRun). r.actor) runs
same_actors [] [] count each = refl
same_actors [] (r ∷ runs) count each = absurd (omega (arith, count))
same_actors (a ∷ actors) [] count each = absurd (omega (arith, count))
same_actors (a ∷ actors) (r ∷ runs) count each =
    λ k. each 0 r refl a k ∷ same_actors actors runs (omega (arith, count)) (λ i q got d. each (suc i) q got d) k

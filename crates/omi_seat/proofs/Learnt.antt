-- What is known of a thread behind one more step.
use Rattle.std.proofs.Common.{◌≡◌, ◌+◌, ◌++◌, ℕ, List, [], ◌∷◌, length, map, sym, ap, ◌∙◌, zero-add}
use Rattle.std.proofs.lemmas.List.{length-map, map-append}
use Rattle.omi_pc.specs.Opening.{opening_actor}
use Rattle.omi_model.specs.declared.event.Event.{Event}
use Rattle.omi_run_lists.specs.declared.made.Made.{Made}
use Rattle.omi_core.specs.declared.entry.Entry.{Entry}
use Rattle.omi_core.specs.Found.{actor_after}
use Rattle.omi_core.specs.RunSteps.{event_of, made_of}
use Rattle.omi_core.specs.Steps.{events_behind}
use Rattle.omi_core.proofs.History.{events_one_more}
use Rattle.omi_core.proofs.Found.{as_many, behind_one_more, entries_one_more}
use Rattle.omi_seat.specs.declared.known.Known.{Known}
use Rattle.omi_seat.specs.Known.{actor_known, entry_known, finds, own_steps, steps_known}

pub steps_one_more : (x : Known) (n : ℕ) → steps_known (finds n x) ≡ steps_known x ++ entry_known x n ∷ []
steps_one_more x n = entries_one_more x.program x.layout.table (opening_actor x.program x.thread) x.found n

pub actor_one_more : (x : Known) (n : ℕ)
    → actor_known (finds n x) ≡ actor_after x.program x.layout.table (actor_known x) n
actor_one_more x n = behind_one_more x.program x.layout.table (opening_actor x.program x.thread) x.found n

pub steps_found : (x : Known) → length (steps_known x) ≡ length x.found
steps_found x = as_many x.program x.layout.table (opening_actor x.program x.thread) x.found

pub made_more : (x : Known) (n : ℕ) (ms : List Made) → ms ≡ map (made_of x.thread) (steps_known x)
    → ms ++ made_of x.thread (entry_known x n) ∷ [] ≡ map (made_of x.thread) (steps_known (finds n x))
made_more x n ms is =
    ap (λ (ys : List Made). ys ++ made_of x.thread (entry_known x n) ∷ []) is
    ∙ sym (map-append (made_of x.thread) (steps_known x) (entry_known x n ∷ []))
    ∙ ap (map (made_of x.thread)) (sym (steps_one_more x n))

pub events_more : (x : Known) (n : ℕ) (es : List (ℕ × ℕ × Event))
    → es ≡ events_behind 0 (own_steps x.thread (steps_known x))
    → es ++ event_of (length x.found + 1) x.thread (entry_known x n).outcome ≡ events_behind 0 (own_steps x.thread (steps_known (finds n x)))
events_more x n es is =
    let count : 0 + length (own_steps x.thread (steps_known x)) + 1 ≡ length x.found + 1 =
    ap (λ k. k + 1)
    (zero-add (length (own_steps x.thread (steps_known x))) ∙ length-map (steps_known x) (λ (e : Entry). (x.thread, e)) ∙ steps_found x) in
    ap
    (λ (ys : List (ℕ × ℕ × Event)). ys ++ event_of (length x.found + 1) x.thread (entry_known x n).outcome) is
    ∙ ap
    (λ k. events_behind 0 (own_steps x.thread (steps_known x)) ++ event_of k x.thread (entry_known x n).outcome)
    (sym count)
    ∙ sym (events_one_more 0 (own_steps x.thread (steps_known x)) x.thread (entry_known x n))
    ∙ ap (events_behind 0)
    (sym (ap (own_steps x.thread) (steps_one_more x n) ∙ map-append (λ (e : Entry). (x.thread, e)) (steps_known x) (entry_known x n ∷ [])))

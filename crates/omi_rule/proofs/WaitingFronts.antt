-- What stands in front of the list of a task that doesn't run may be passed over: a region is given back by the current task alone.
use Rattle.std.proofs.Common.{◌≡◌, ◌∙◌, ℕ, List, Option, Some, None, refl, sym, ap, subst}
use Rattle.std.specs.Option.{option_map}
use Rattle.omi_script.specs.declared.program.Program.{Program}
use Rattle.omi_model.specs.declared.event.Event.{Event}
use Rattle.omi_model.specs.declared.freeable.Freeable.{Freeable}
use Rattle.omi_model.specs.declared.freeable.Freeable.TheVariants as freeable
use Rattle.omi_model.specs.declared.id.Tid.{Tid}
use Rattle.omi_model.specs.declared.progress.Progress.TheVariants.{Begun}
use Rattle.omi_model.specs.declared.task.Task.{Task}
use Rattle.omi_model.specs.Put.{Slots, named}
use Rattle.omi_model.specs.Freeing.{freeing}
use Rattle.omi_model.specs.Reached.{Reached}
use Rattle.omi_model.specs.State.{State, task_of}
use Rattle.omi_model.proofs.ChainsKept.{current_begun}
use Rattle.omi_model.proofs.freeing.RegionsFreed.{regions_freed}
use Rattle.omi_model.proofs.Slots.{none_some, on_same, some_same}
use Rattle.omi_rule.specs.Chains.{IsPassable}

pub waiting_passes : (p : Program) (events : List (ℕ × Event)) (s : State) → Reached p events s → (k : Tid) (t : Task)
    → task_of s k ≡ Some t → (t.progress ≡ Begun → ⊥) → IsPassable t.frees
waiting_passes p events s reached k t live waits = go t.frees refl
  where
    go : (o : Option Freeable) → t.frees ≡ o → IsPassable o
    go None is = tt
    go (Some (freeable.Finished n)) is = tt
    go (Some (freeable.Joined n number)) is =
        let laws = regions_freed p events s reached in
        let over = laws.front k t n number live is in
        let (h, j, by, being) = laws.joined n over.region over.live over.joined in
        let same : h ≡ k = some_same by over.encountering in
        let current = being.current in
        let one : being.task ≡ t = some_same (subst (λ (x : Tid). task_of s x ≡ Some being.task) same current.live) live in
        waits
        (ap (λ (x : Task). x.progress) (sym one)
        ∙ (current_begun p events s reached n.0.creator h being.task current.name current.live).0)

-- and where something may be given back next, that stands in front
pub freeing_front : (next : Option Freeable) (tasks : Slots Task) (o : Option Tid) (k : Tid) → o ≡ Some k → (t : Task)
    → named (freeing next o tasks) k.0 ≡ Some t → t.frees ≡ next
freeing_front next tasks o k is t live =
    go (named tasks k.0) (sym (on_same tasks k.0 g) ∙ subst (λ (x : Option Tid). named (freeing next x tasks) k.0 ≡ Some t) is live)
  where
    g : Task → Task
    g = λ u. record u { frees = next }

    go : (x : Option Task) → option_map g x ≡ Some t → t.frees ≡ next
    go None e = absurd (none_some refl e)
    go (Some x) e = ap (λ (u : Task). u.frees) (sym (some_same refl e))

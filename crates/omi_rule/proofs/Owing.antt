-- What threads owe where one of them has another actor, and a step put together from the parts of its rule.
use Rattle.std.proofs.Common.{◌≡◌, ◌<◌, ◌==◌, ℕ, Bool, true, false, List, Option, Some, None, refl, sym, ap, ◌∙◌, subst, if◌then◌else◌}
use mathlib.Core.Path.{fun_ext}
use Rattle.std.specs.Option.{option_and_then, option_map_or}
use Rattle.omi_script.specs.declared.program.Program.{Program}
use Rattle.omi_model.specs.declared.event.Event.{Event}
use Rattle.omi_model.specs.declared.id.Tid.{Tid}
use Rattle.omi_model.specs.declared.item.Item.{Item}
use Rattle.omi_model.specs.Changes.{encounter, ahead_of, in_front, on_task, on_thread, with_list}
use Rattle.omi_model.specs.Lists.{stays, take_item}
use Rattle.omi_model.specs.Reached.{Step}
use Rattle.omi_model.specs.Rules.{Rule, effect, moved}
use Rattle.omi_model.specs.State.{State, task_of}
use Rattle.omi_layout.specs.Memory.{Memory, replace_at}
use Rattle.omi_pc.specs.declared.actor.Actor.{Actor}
use Rattle.omi_rule_words.specs.Owes.{Owed, all_owed, owed}
use Rattle.omi_rule_words.specs.Words.{KeepsWords}

-- another actor owes this
pub owed_after : (w : List ℕ) (m : Memory) (s : State) (actors : ℕ → Actor) (i : ℕ) (a : Actor) (o : Owed)
    → owed a ≡ o → KeepsWords w m s (replace_at (all_owed actors) i o)
    → KeepsWords w m s (all_owed (replace_at actors i a))
owed_after w m s actors i a o is keeps = subst (λ (owes : ℕ → Owed). KeepsWords w m s owes) same keeps
  where
    same : replace_at (all_owed actors) i o ≡ all_owed (replace_at actors i a)
    same = fun_ext (λ j. go j (j == i) refl)
      where
        go : (j : ℕ) (b : Bool) → j == i ≡ b
            → replace_at (all_owed actors) i o j ≡ all_owed (replace_at actors i a) j
        go j true e =
            ap (λ (b : Bool). if b then o else owed (actors j)) e
            ∙ sym is
            ∙ sym (ap (λ (b : Bool). owed (if b then a else actors j)) e)
        go j false e =
            ap (λ (b : Bool). if b then o else owed (actors j)) e
            ∙ sym (ap (λ (b : Bool). owed (if b then a else actors j)) e)

-- an event takes an item, and its effect leads to a state
pub step_of : (p : Program) (s : State) (i : ℕ) (e : Event) (u : State) (y : Item) (ys : List Item)
    → i < s.count → take_item p (encounter s i) e (ahead_of s i) ≡ Some (y, ys) → Rule s i e y
    → effect p (with_list s i (stays (encounter s i) e y ys)) i e y ≡ Some u → Step p s i e u
step_of p s i e u y ys known taken rule is = record {
  legal = record { known = known; item = y; behind = ys; taken = taken; rule = rule };
  after_is = ap (option_and_then (moved p s i e)) taken ∙ is;
}

-- a thread without a task: its list, and the state in which its list has moved on
pub idle_list : (s : State) (i : ℕ) → (s.threads i).current ≡ None → ahead_of s i ≡ (s.threads i).list
idle_list s i none =
    ap
    (λ (n : Option Tid). option_map_or (λ t. in_front t.frees t.list) (option_and_then (task_of s) n) (s.threads i).list) none

pub idle_moved : (s : State) (i : ℕ) (zs : List Item) → (s.threads i).current ≡ None
    → with_list s i zs ≡ on_thread s i (λ h. record h { list = zs })
idle_moved s i zs none =
    ap
    (λ (n : Option Tid). option_map_or (λ k. on_task s k (λ t. record t { frees = None; list = zs })) n (on_thread s i (λ h. record h { list = zs }))) none

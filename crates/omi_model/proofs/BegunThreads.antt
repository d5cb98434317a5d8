-- Threads that have begun: each that makes an event other than its begin, and each that may be claimed.
use Rattle.std.proofs.Common.{◌≡◌, ◌≢◌, ◌⊎◌, inl, inr, ℕ, Bool, true, false, List, [], ◌∷◌, Option, Some, None, if◌then◌else◌, refl, sym, ap, ◌∙◌, subst}
use Rattle.std.specs.Option.{option_and_then, option_map_or}
use Rattle.std.proofs.lemmas.Bool.{cases_eq}
use Rattle.omi_script.specs.declared.program.Program.{Program}
use Rattle.omi_model.specs.declared.claim.Claim.{Claim}
use Rattle.omi_model.specs.declared.claim.Claim.TheVariants as claim
use Rattle.omi_model.specs.declared.encounter.Encounter.{Encounter}
use Rattle.omi_model.specs.declared.event.Event.{Event}
use Rattle.omi_model.specs.declared.event.Event.TheVariants as event
use Rattle.omi_model.specs.declared.id.Tid.{Tid}
use Rattle.omi_model.specs.declared.item.Item.{Item}
use Rattle.omi_model.specs.declared.item.Item.TheVariants as item
use Rattle.omi_model.specs.declared.task.Task.{Task}
use Rattle.omi_model.specs.declared.thread.Thread.{Thread}
use Rattle.omi_model.specs.Changes.{encounter, ahead_of, in_front}
use Rattle.omi_model.specs.LawStays.{Stays}
use Rattle.omi_model.specs.Lists.{fits, take_item}
use Rattle.omi_model.specs.Opening.{opening}
use Rattle.omi_model.specs.Reached.{Reached, Step}
use Rattle.omi_model.specs.Rows.{worker_items}
use Rattle.omi_model.specs.Rules.{effect}
use Rattle.omi_model.specs.State.{State, task_of}
use Rattle.omi_model.specs.Teams.{begun}
use Rattle.omi_model.proofs.EachObject.{over_events}
use Rattle.omi_model.proofs.EachThread.{EachThread, IsThreadLaw, thread_step}
use Rattle.omi_model.proofs.OpeningObjects.{each_first_thread}
use Rattle.omi_model.proofs.Slots.{false_true, none_some, put_same, some_same}
use Rattle.omi_model.proofs.StaysKept.{stays_step}
use Rattle.omi_model.proofs.Steps.{IsMove, IsRelisted, move_of, moved_on}

-- a thread that has not begun has its first list, no task, and may not be claimed
pub record IsUnbegun (xs : List Item) (top : Option Tid) (by : Claim) : Type 0 where
  pub list : xs ≡ worker_items
  pub idle : top ≡ None
  pub held : by ≡ claim.Free → ⊥

abbrev pub HasBegunOrNot : ℕ → Thread → Type 0
HasBegunOrNot j h = (h.begun ≡ true) ⊎ IsUnbegun h.list h.current h.claim

begin_only : (e : Event) → fits e item.Begin ≡ true → e ≡ event.Begin
begin_only event.Begin fit = refl
begin_only e fit = absurd (false_true fit)

abbrev first_taken : Item × List Item
first_taken = (item.Begin, item.Offer ∷ item.Serve ∷ [])

first_begin : (p : Program) (at : Encounter) (e : Event) (y : Item) (ys : List Item)
    → take_item p at e worker_items ≡ Some (y, ys) → e ≡ event.Begin
first_begin p at e y ys is = go (fits e item.Begin) refl is
  where
    go : (b : Bool) → fits e item.Begin ≡ b → (if b then Some first_taken else None) ≡ Some (y, ys)
        → e ≡ event.Begin
    go true fit h = begin_only e fit
    go false fit h = absurd (none_some refl h)

module _ (p : Program) (s : State) (i : ℕ) (e : Event) (next : State) (step : Step p s i e next)
    (all : EachThread HasBegunOrNot s) where
  m : IsMove p s i e next
  m = move_of p s i e next step

  -- a thread that has not begun begins
  unbegun_begins : IsUnbegun (s.threads i).list (s.threads i).current (s.threads i).claim → e ≡ event.Begin
  unbegun_begins un =
      let list : ahead_of s i ≡ worker_items =
      ap
      (λ (o : Option Tid). option_map_or (λ (u : Task). in_front u.frees u.list) (option_and_then (task_of s) o) (s.threads i).list) un.idle
      ∙ un.list in
      first_begin p (encounter s i) e m.item m.behind
      (ap (take_item p (encounter s i) e) (sym list) ∙ m.taken)

  pub begun_after : e ≡ event.Begin → (next.threads i).begun ≡ true
  begun_after is =
      let middle : State = moved_on s i e m.item m.behind in
      let made : Some (begun middle i) ≡ Some next =
      subst (λ (x : Event). effect p middle i x m.item ≡ Some next) is m.effect_is in
      let same : begun middle i ≡ next = some_same refl made in
      ap (λ (u : State). (u.threads i).begun) (sym same)
      ∙ ap (λ (h : Thread). h.begun) (put_same middle.threads i (record (middle.threads i) { begun = true }))

  -- the thread of any other event has begun
  pub by_begun : (e ≡ event.Begin → ⊥) → (s.threads i).begun ≡ true
  by_begun other = go (all i)
    where
      go : HasBegunOrNot i (s.threads i) → (s.threads i).begun ≡ true
      go (inl b) = b
      go (inr un) = absurd (other (unbegun_begins un))

  abbrev StillUnbegun : ℕ → Thread → Type 0
  StillUnbegun j h =
      j ≢ i → IsUnbegun (s.threads j).list (s.threads j).current (s.threads j).claim → IsUnbegun h.list h.current h.claim

  still : EachThread StillUnbegun next
  still =
      thread_step p StillUnbegun s i e next step (λ y ys none taken q ne. absurd (ne refl)) law
      (λ j ne un. un)
    where
      law : (middle : State) → IsRelisted s middle → Stays middle next → EachThread StillUnbegun middle
          → IsThreadLaw p middle i e next StillUnbegun
      law middle before later of_threads = record {
        begins = λ may q ne. absurd (ne refl);
        offers = λ may of q ne. absurd (ne refl);
        wants = λ n num may of q ne. absurd (ne refl);
        asks = λ w got may of q ne. absurd (ne refl);
        claims = λ w may of q ne un. absurd ((q ne un).held (may.joins refl));
        shows = λ state wait of q ne. absurd (ne refl);
        forks = λ region team f k t r is found may new q ne. absurd (ne refl);
        joins_team = λ task may of q ne. absurd (ne refl);
        ends = λ k t r is found im other over q ne. absurd (ne refl);
        joins = λ k t r is found may of q ne. absurd (ne refl);
        makes = λ task f final k t is new q ne. absurd (ne refl);
        starts = λ task x k t is may new q ne. absurd (ne refl);
        finishes = λ k t is ex over q ne. absurd (ne refl);
      }

  pub begun_step : EachThread HasBegunOrNot next
  begun_step j = go (all j) (cases_eq j i)
    where
      go : HasBegunOrNot j (s.threads j) → (j ≡ i) ⊎ (j ≡ i → ⊥) → HasBegunOrNot j (next.threads j)
      go (inl b) at = inl ((stays_step p s i e next step).begun j b)
      go (inr un) (inl same) =
          inl
          (subst (λ h. (next.threads h).begun ≡ true) (sym same) (begun_after (unbegun_begins (subst (λ h. IsUnbegun (s.threads h).list (s.threads h).current (s.threads h).claim) same un))))
      go (inr un) (inr ne) = inr (still j ne un)

pub begun_or_not : (p : Program) (events : List (ℕ × Event)) (s : State) → Reached p events s
    → EachThread HasBegunOrNot s
begun_or_not p events s reached =
    over_events p (EachThread HasBegunOrNot) (λ u i e next step h. begun_step p u i e next step h)
    (opening p) events s reached
    (each_first_thread p HasBegunOrNot (inl refl) (λ j. inr (record { list = refl; idle = refl; held = λ e. cc })))

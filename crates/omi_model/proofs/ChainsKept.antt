-- Each thread's chain of tasks is kept by every event.
use Rattle.std.proofs.Common.{◌≡◌, ◌≢◌, ◌⊎◌, inl, inr, ℕ, true, List, [], ◌∷◌, Some, None, if◌then◌else◌, refl, sym, ap, ◌∙◌, subst, ne_eqb}
use Rattle.std.proofs.lemmas.Bool.{cases_eq}
use Rattle.omi_script.specs.declared.program.Program.{Program}
use Rattle.omi_model.specs.declared.event.Event.{Event}
use Rattle.omi_model.specs.declared.id.Tid.{Tid}
use Rattle.omi_model.specs.declared.item.Item.{Item}
use Rattle.omi_model.specs.declared.progress.Progress.TheVariants.{Begun, NotBegun}
use Rattle.omi_model.specs.declared.task.Task.{Task}
use Rattle.omi_model.specs.declared.thread.Thread.{Thread}
use Rattle.omi_model.specs.Changes.{encounter}
use Rattle.omi_model.specs.LawChains.{IsChain}
use Rattle.omi_model.specs.LawMembers.{AreMembersKnown}
use Rattle.omi_model.specs.LawStays.{Stays}
use Rattle.omi_model.specs.Lists.{stays}
use Rattle.omi_model.specs.Opening.{initial_task, opening, opening_task}
use Rattle.omi_model.specs.Reached.{Reached, Step}
use Rattle.omi_model.specs.Rules.{effect}
use Rattle.omi_model.specs.State.{State, task_of}
use Rattle.omi_model.proofs.Chains.{Chained, GoesOn, HasChain, chain_later, goes_on, own_effect, top_of}
use Rattle.omi_model.proofs.EachObject.{is_end, over_events, stays_after}
use Rattle.omi_model.proofs.EachThread.{EachThread, IsThreadLaw, law_of_current, thread_step}
use Rattle.omi_model.proofs.MembersKnown.{first_scheduled, members_known, members_step}
use Rattle.omi_model.proofs.OpeningObjects.{each_first_thread}
use Rattle.omi_model.proofs.Slots.{some_same}
use Rattle.omi_model.proofs.StaysKept.{stays_list, stays_step}
use Rattle.omi_model.proofs.Steps.{IsMove, IsRelisted, from_some, is_relisted, move_of, moved_on}

-- the other threads keep their current tasks
abbrev KeepsCurrent : State → ℕ → ℕ → Thread → Type 0
KeepsCurrent s i j h = j ≢ i → h.current ≡ (s.threads j).current

pub current_kept : (p : Program) (s : State) (i : ℕ) (e : Event) (next : State) → Step p s i e next
    → EachThread (KeepsCurrent s i) next
current_kept p s i e next step =
    thread_step p (KeepsCurrent s i) s i e next step (λ y ys none taken q. q) law (λ j ne. refl)
  where
    law : (middle : State) → IsRelisted s middle → Stays middle next → EachThread (KeepsCurrent s i) middle
        → IsThreadLaw p middle i e next (KeepsCurrent s i)
    law middle before later all = law_of_current p middle i e next (KeepsCurrent s i) (record {
      forks = λ region team f k t r is found may new q ne. absurd (ne refl);
      joins_team = λ task may of q ne. absurd (ne refl);
      ends = λ k t r is found im other over q ne. absurd (ne refl);
      joins = λ k t r is found may of q ne. absurd (ne refl);
      makes = λ task f final k t is new q ne. absurd (ne refl);
      starts = λ task x k t is may new q ne. absurd (ne refl);
      finishes = λ k t is ex over q ne. absurd (ne refl);
    })

abbrev pub Chains : State → Type 0
Chains s = (i : ℕ) → HasChain s i (s.threads i).current

module _ (p : Program) (s : State) (i : ℕ) (e : Event) (next : State) (step : Step p s i e next)
    (known : AreMembersKnown s) (chains : Chains s) where
  m : IsMove p s i e next
  m = move_of p s i e next step

  zs : List Item
  zs = stays (encounter s i) e m.item m.behind

  abbrev middle : State
  middle = moved_on s i e m.item m.behind

  before : IsRelisted s middle
  before = is_relisted s i (stays (encounter s i) e m.item m.behind)

  same_progress : (k : Tid) (t v : Task) → task_of s k ≡ Some t → task_of middle k ≡ Some v
      → v.progress ≡ t.progress
  same_progress k t v live found =
      let (w, xs, live', same) = before.tasks k v found in
      ap (λ (x : Task). x.progress) same ∙ ap (λ (x : Task). x.progress) (some_same live' live)

  middle_chain : HasChain middle i (middle.threads i).current
  middle_chain =
      let (ks, chain) = chains i in (
        ks,
        subst (λ o. IsChain middle i o ks) (sym (before.currents i))
            (chain_later s middle (stays_list s i (stays (encounter s i) e m.item m.behind)) (λ k. ⊥) (λ k t v live begun found ne. same_progress k t v live found ∙ begun) i (s.threads i).current ks chain (λ k t live mine on h. h)),
      )

  middle_goes : GoesOn middle i e next
  middle_goes k t v live begun found other =
      let (w, xs, live', same) = before.tasks k t live in
      goes_on p s i e next step k w v live' (ap (λ (x : Task). x.progress) (sym same) ∙ begun) found
      (λ name over. other (before.currents i ∙ name) over)

  loose : (k : Tid) (t : Task) → task_of middle k ≡ Some t → t.progress ≡ NotBegun → t.scheduling ≡ None
  loose k t live waits =
      let (w, xs, live', same) = before.tasks k t live in
      let met = known.encountered k w live' in
      let (im, other) = met.waiting (ap (λ (x : Task). x.progress) (sym same) ∙ waits) in
      let (r, found, at) = known.tasks k w live' im in
      ap (λ (x : Task). x.scheduling) same
      ∙ (met.scheduling im r found ∙ ap (λ b. if b then r.encountering else None) (ne_eqb w.number 0 other))

  own : HasChain next i (next.threads i).current
  own =
      from_some (Chained p middle i middle_chain (first_scheduled s middle known before) loose e) (effect p middle i e m.item) next m.effect_is
      (own_effect p middle i middle_chain (first_scheduled s middle known before) loose e m.item m.rule_moved)
      (stays_after p s i e next m) middle_goes

  others : (j : ℕ) → j ≢ i → HasChain next j (next.threads j).current
  others j ne =
      let (ks, chain) = chains j in (
        ks,
        subst (λ o. IsChain next j o ks) (sym (current_kept p s i e next step j ne))
            (chain_later s next (stays_step p s i e next step) (λ k. ((s.threads i).current ≡ Some k) × (is_end e ≡ true))
            (λ k t v live begun found free. goes_on p s i e next step k t v live begun found (λ name over. free (name, over)))
            j (s.threads j).current ks chain (λ k t live mine on (name, over). ne (elsewhere k t live mine name))),
      )
    where
      elsewhere : (k : Tid) (t : Task) → task_of s k ≡ Some t → t.thread ≡ j → (s.threads i).current ≡ Some k
          → j ≡ i
      elsewhere k t live mine name =
          let (ks, chain) = chains i in
          let (ns, v, list, apart, live', mine', begun, rest) =
          top_of s i (s.threads i).current ks k name chain in
          sym mine ∙ (ap (λ (x : Task). x.thread) (some_same live live') ∙ mine')

  pub chains_step : Chains next
  chains_step j = go (cases_eq j i)
    where
      go : (j ≡ i) ⊎ (j ≡ i → ⊥) → HasChain next j (next.threads j).current
      go (inl same) = subst (λ h. HasChain next h (next.threads h).current) (sym same) own
      go (inr ne) = others j ne

-- ---- every reached state

pub record AreChained (s : State) : Type 0 where
  pub members : AreMembersKnown s
  pub chains : Chains s

pub chained : (p : Program) (events : List (ℕ × Event)) (s : State) → Reached p events s → AreChained s
chained p events s reached = over_events p AreChained
    (λ u i e next step h. record { members = members_step p u i e next step h.members; chains = chains_step p u i e next step h.members h.chains })
    (opening p) events s reached
    (record {
      members = members_known p [] (opening p) refl;
      chains = each_first_thread p (λ j h. HasChain (opening p) j h.current) (initial_task ∷ [], (opening_task p, refl, tt, refl, refl, refl, refl)) (λ j. ([], refl));
    })

pub have_chains : (p : Program) (events : List (ℕ × Event)) (s : State) → Reached p events s → (i : ℕ)
    → (ks : List Tid) × IsChain s i (s.threads i).current ks
have_chains p events s reached = (chained p events s reached).chains

-- so each current task has begun and not finished, and runs on its thread
pub current_begun : (p : Program) (events : List (ℕ × Event)) (s : State) → Reached p events s
    → (i : ℕ) (k : Tid) (t : Task) → (s.threads i).current ≡ Some k → task_of s k ≡ Some t
    → (t.progress ≡ Begun) × (t.thread ≡ i)
current_begun p events s reached i k t name live =
    let (ks, chain) = have_chains p events s reached i in
    let (ns, v, list, apart, live', mine, begun, rest) = top_of s i (s.threads i).current ks k name chain in
    let one : v ≡ t = some_same live' live in
    (ap (λ (x : Task). x.progress) (sym one) ∙ begun, ap (λ (x : Task). x.thread) (sym one) ∙ mine)

-- Claims and asks in every reached state.
use Rattle.std.proofs.Common.{◌≡◌, ◌≢◌, ◌⊎◌, inl, inr, ℕ, true, zero, suc, List, [], ◌∷◌, slice_get, Some, None, is_some, if◌then◌else◌, refl, sym, ap, ◌∙◌, subst, ne_eqb}
use Rattle.std.specs.Prelude.{IsSome}
use Rattle.std.proofs.lemmas.Bool.{cases_eq}
use Rattle.omi_script.specs.declared.program.Program.{Program}
use Rattle.omi_model.specs.declared.claim.Claim.TheVariants as claim
use Rattle.omi_model.specs.declared.event.Event.{Event}
use Rattle.omi_model.specs.declared.event.Event.TheVariants as event
use Rattle.omi_model.specs.declared.id.Rid.{Rid}
use Rattle.omi_model.specs.declared.id.Tid.{Tid}
use Rattle.omi_model.specs.declared.item.Item.{Item}
use Rattle.omi_model.specs.declared.progress.Progress.TheVariants.{Begun, NotBegun}
use Rattle.omi_model.specs.declared.item.Item.TheVariants as item
use Rattle.omi_model.specs.LawClaims.{AreAsksInOrder, IsClaimKept, IsForking, IsGot, IsMeantFor, IsOfFork, WaitsForTeam}
use Rattle.omi_model.specs.LawStays.{Stays}
use Rattle.omi_model.specs.Opening.{initial_thread, opening, waiting_worker}
use Rattle.omi_model.specs.Reached.{Reached, Step}
use Rattle.omi_model.specs.Changes.{encounter, ahead_of, in_front}
use Rattle.omi_model.specs.Rules.{Legal}
use Rattle.omi_model.specs.State.{State}
use Rattle.omi_model.specs.Lists.{fits, take_item}
use Rattle.omi_model.specs.Teams.{MayFork, got_threads}
use Rattle.omi_model.proofs.claims.AsksCurrent.{forking_by, forking_taken, have_asks}
use Rattle.omi_model.proofs.claims.AsksPlaced.{asks_taken, is_forking}
use Rattle.omi_model.proofs.claims.AsksOrder.{at_contains, at_got, contains_at, in_order, map_at}
use Rattle.omi_model.proofs.claims.ClaimSteps.{ClaimIs, ask_item, by_ask, by_fork, claim_after, fork_item, forking_item_of, item_fits, offer_frees}
use Rattle.omi_model.proofs.claims.ClaimsKept.{AreClaimsKept, other_busy, other_free, other_got, other_meant, other_waits, own_busy, own_by, own_free, own_free_kept, own_not_got, own_unmeant, same_by}
use Rattle.omi_model.proofs.EachObject.{EachTask, IsTaskLaw, ahead_of_current, law_of_lasting, task_step}
use Rattle.omi_model.proofs.EachThread.{EachThread}
use Rattle.omi_model.proofs.claims.FirstThread.{HasTask, RunsElsewhere, first_step}
use Rattle.omi_model.proofs.ListLaws.{take_fits}
use Rattle.omi_model.proofs.OpeningObjects.{each_first_task, each_first_thread}
use Rattle.omi_model.proofs.ReachedStates.{over_reached}
use Rattle.omi_model.proofs.Slots.{false_true, none_some}
use Rattle.omi_model.proofs.Steps.{IsRelisted, move_of}
use Rattle.omi_model.proofs.claims.WorkerLists.{have_places, offer_waits, waits_by}

module _ (p : Program) (events : List (ℕ × Event)) (s : State) (reached : Reached p events s) (i : ℕ)
    (e : Event) (next : State) (step : Step p s i e next) (all : AreClaimsKept s) where
  -- a new member other than member 0 is on a thread that was got, so not on thread 0
  next_elsewhere : EachTask RunsElsewhere next
  next_elsewhere = task_step p RunsElsewhere s i e next step (λ k t y ys is taken q. q) law all.elsewhere
    where
      law : (middle : State) (y : Item) → IsRelisted s middle → Stays middle next
          → EachTask RunsElsewhere middle → IsTaskLaw p middle i e y next RunsElsewhere
      law middle y before later of_tasks = law_of_lasting p middle i e y next RunsElsewhere (record {
        starts = λ k u j t x is live ex de may of by q im. absurd (false_true (sym ex ∙ im));
        members = λ region team f k t r is found may new of by j n at im other. elsewhere region team may by j n at other;
        deferred = λ task f final seen k t is of fresh im. absurd (false_true im);
        made = λ task f final k t is of fresh by im. absurd (false_true im);
      })
        where
          elsewhere : (region : Rid) (team : List (Tid × ℕ)) → MayFork middle i region team
              → e ≡ event.Fork region team → (j : ℕ) (n : Tid × ℕ) → slice_get team j ≡ Some n → j ≢ 0
              → n.1 ≢ 0
          elsewhere region team may by zero n at other = absurd (other refl)
          elsewhere region team may by (suc j) n at other = λ first.
              let here : slice_get (i ∷ got_threads (s.threads i).asks) (suc j) ≡ Some n.1 =
              ap (λ xs. slice_get xs (suc j))
              (sym (may.threads ∙ ap (λ as'. i ∷ got_threads as') (before.asks i)))
              ∙ map_at (λ (a : Tid × ℕ). a.1) team (suc j) n at in
              let (k, found) = at_got (s.threads i).asks j n.1 here in
              let got : IsGot s i n.1 = record {
                forking = forking_by p events s reached i e next step (have_asks p events s reached)
                    (fork_item region team (move_of p s i e next step).item (subst (λ (x : Event). fits x (move_of p s i e next step).item ≡ true) by (item_fits p s i e next step)));
                joined = at_contains (s.threads i).asks (n.1, true) k found;
              } in
              own_by i (sym ((all.claims n.1).first first).0 ∙ ((all.claims n.1).got i got).1)

  had_first : EachThread HasTask s
  had_first j first = ((all.claims j).first first).1

  -- a claim of the own kind stays with thread 0
  next_first : (w : ℕ) → w ≡ 0 → ((next.threads w).claim ≡ claim.Own) × IsSome (next.threads w).current
  next_first w first =
      (go (claim_after p s i e next step w), first_step p events s reached i e next step all.elsewhere had_first w first)
    where
      go : ClaimIs p s i e next step w (next.threads w) → (next.threads w).claim ≡ claim.Own
      go (inl same) = same ∙ ((all.claims w).first first).0
      go (inr (inl offer)) =
          let none = (offer_waits p s i e next step (have_places p events s reached) offer.of).idle in
          absurd
          (false_true (ap is_some (sym none) ∙ subst (λ j. IsSome (next.threads j).current) offer.own (first_step p events s reached i e next step all.elsewhere had_first w first)))
      go (inr (inr claimed)) = absurd (own_free (sym ((all.claims w).first first).0 ∙ claimed.free))

  next_other : (w c : ℕ) → (next.threads w).claim ≡ claim.By c → c ≢ w
  next_other w c by = go (claim_after p s i e next step w)
    where
      free_by : (d : ℕ) → claim.Free ≡ claim.By d → ⊥
      free_by d h = cc

      go : ClaimIs p s i e next step w (next.threads w) → c ≢ w
      go (inl same) = (all.claims w).other c (sym same ∙ by)
      go (inr (inl offer)) =
          absurd
          (free_by c (sym (offer_frees p s i e next step offer.of) ∙ (ap (λ j. (next.threads j).claim) (sym offer.own) ∙ by)))
      go (inr (inr claimed)) = λ same. claimed.other (sym same ∙ sym (same_by i c (sym claimed.by ∙ by)))

  own_waits : (c : ℕ) → WaitsForTeam next i → (next.threads i).claim ≡ claim.By c → ⊥
  own_waits c waits by =
      free_by c
      (sym (offer_frees p s i e next step (waits_by p s i e next step (have_places p events s reached) waits.ahead)) ∙ by)
    where
      free_by : (d : ℕ) → claim.Free ≡ claim.By d → ⊥
      free_by d h = cc

  pub claims_step : AreClaimsKept next
  claims_step = record { claims = λ w. go w (cases_eq w i); elsewhere = next_elsewhere }
    where
      by_free : (c : ℕ) → claim.By c ≡ claim.Free → ⊥
      by_free c h = cc

      go : (w : ℕ) → (w ≡ i) ⊎ (w ≢ i) → IsClaimKept next w
      go w (inl same) = subst (IsClaimKept next) (sym same) (record {
        first = next_first i;
        free = λ free. (own_free_kept p events s reached i e next step all free, own_unmeant p events s reached i e next step all);
        busy = own_busy p events s reached i e next step all;
        other = next_other i;
        meant = λ k is. absurd (own_unmeant p events s reached i e next step all k is);
        got = λ c is. absurd (own_not_got p events s reached i e next step all c is);
        waits = λ c waits by. absurd (own_waits c waits by);
      })
      go w (inr ne) = record {
        first = next_first w;
        free = λ free. (
          other_free p events s reached i e next step all w ne free,
          λ k is. by_free k.0.creator (sym (other_meant p events s reached i e next step all w ne k is).1 ∙ free),
        );
        busy = other_busy p events s reached i e next step all w ne;
        other = next_other w;
        meant = other_meant p events s reached i e next step all w ne;
        got = other_got p events s reached i e next step all w ne;
        waits = other_waits p events s reached i e next step all w ne;
      }

-- ---- the opening state

no_waits : Begun ≡ NotBegun → ⊥
no_waits e = cc

claims_opening : (p : Program) → AreClaimsKept (opening p)
claims_opening p = record { claims = claims; elsewhere = each_first_task p RunsElsewhere (λ im other. absurd (other refl)) }
  where
    unmeant : (k : Tid) (w : ℕ) → IsMeantFor (opening p) k w → ⊥
    unmeant k w is =
        each_first_task p (λ n t. t.progress ≡ NotBegun → ⊥) no_waits k is.task is.live is.waiting

    ungot : (i w : ℕ) → IsGot (opening p) i w → ⊥
    ungot i w is =
        each_first_thread p (λ j h. (k : ℕ) → slice_get h.asks k ≡ Some (w, true) → ⊥)
        (λ k at. none_some refl at) (λ j k at. none_some refl at) i
        (contains_at ((opening p).threads i).asks (w, true) is.joined).0
        (contains_at ((opening p).threads i).asks (w, true) is.joined).1

    by_own : (c : ℕ) → claim.Own ≡ claim.By c → ⊥
    by_own c e = cc

    none_has : IsSome {T = Tid} None → ⊥
    none_has h = false_true h

    own : (w : ℕ) → ((opening p).threads w).claim ≡ claim.Own
    own = each_first_thread p (λ j h. h.claim ≡ claim.Own) refl (λ j. refl)

    claims : (w : ℕ) → IsClaimKept (opening p) w
    claims w = record {
      first = λ first. (own w, subst (λ j. IsSome ((opening p).threads j).current) (sym first) refl);
      free = λ free. absurd (own_free (sym (own w) ∙ free));
      busy = λ other some. absurd (go w other some);
      other = λ c by. absurd (by_own c (sym (own w) ∙ by));
      meant = λ k is. absurd (unmeant k w is);
      got = λ c is. absurd (ungot c w is);
      waits = λ c waits by. absurd (by_own c (sym (own w) ∙ by));
    }
      where
        go : (j : ℕ) → j ≢ 0 → IsSome ((opening p).threads j).current → ⊥
        go j other some =
            false_true
            (ap (λ b. is_some (if b then initial_thread else waiting_worker).current) (sym (ne_eqb j 0 other)) ∙ some)

pub are_claims_kept : (p : Program) (events : List (ℕ × Event)) (s : State) → Reached p events s
    → AreClaimsKept s
are_claims_kept p events s reached =
    over_reached p AreClaimsKept
    (λ first u first_reached i e next step h. claims_step p first u first_reached i e next step h) []
    (opening p) refl events s reached (claims_opening p)

pub claims_kept : (p : Program) (events : List (ℕ × Event)) (s : State) → Reached p events s → (w : ℕ)
    → IsClaimKept s w
claims_kept p events s reached = (are_claims_kept p events s reached).claims

-- ---- asks

pub asks_in_order : (p : Program) (events : List (ℕ × Event)) (s : State) → Reached p events s → (i : ℕ)
    → AreAsksInOrder p s i
asks_in_order p events s reached i = record {
  asked = let q = in_order p events s reached i in (q.bound, q.known, q.first);
  asks = λ w got legal. by_item (event.Ask w got) legal (λ fit. ap is_forking (ask_item w got legal.item fit));
  forks = λ region team legal. by_item (event.Fork region team) legal (fork_item region team legal.item);
  alone =
      λ f e legal. of_item legal.item e (take_fits p (encounter s i) e (ahead_of s i) legal.item legal.behind legal.taken)
      (asks_taken p (encounter s i) e legal.item legal.behind f.task.list (have_asks p events s reached f.name f.task f.current.live).placed.0 f.next
      (subst (λ x. take_item p (encounter s i) e (in_front x f.task.list) ≡ Some (legal.item, legal.behind)) ((have_asks p events s reached f.name f.task f.current.live).alone f.next)
      (ap (take_item p (encounter s i) e) (sym (ahead_of_current s i f.name f.task f.current)) ∙ legal.taken)));
}
  where
    of_item : (y : Item) (e : Event) → fits e y ≡ true → is_forking y ≡ true → IsOfFork e
    of_item y e fit forks = go (forking_item_of y forks)
      where
        go : (y ≡ item.Asks) ⊎ ((f : ℕ) × (y ≡ item.Fork f)) → IsOfFork e
        go (inl asks) =
            let (w, got, of) = by_ask e (subst (λ (x : Item). fits e x ≡ true) asks fit) in subst IsOfFork (sym of) tt
        go (inr (f, fork)) =
            let (region, team, of) = by_fork e f (subst (λ (x : Item). fits e x ≡ true) fork fit) in subst IsOfFork (sym of) tt

    by_item : (e : Event) (legal : Legal p s i e) → (fits e legal.item ≡ true → is_forking legal.item ≡ true)
        → IsForking s i
    by_item e legal is =
        forking_taken p events s reached i e
        (have_asks p events s reached) legal.item legal.behind legal.taken
        (is (take_fits p (encounter s i) e (ahead_of s i) legal.item legal.behind legal.taken))

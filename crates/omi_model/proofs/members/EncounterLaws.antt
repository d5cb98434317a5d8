-- Regions, the tasks that encountered them and their explicit tasks, in every reached state.
use Rattle.std.proofs.Common.{◌≡◌, ℕ, Bool, true, false, List, get_or, Some, None, is_some, if◌then◌else◌, refl, sym, ap, ◌∙◌, subst, arith, eq-eqb}
use Rattle.std.proofs.lemmas.Option.{slice_get-get_or}
use Rattle.omi_script.specs.declared.program.Program.{Program}
use Rattle.omi_model.specs.declared.event.Event.{Event}
use Rattle.omi_model.specs.declared.id.Rid.{Rid}
use Rattle.omi_model.specs.declared.id.Tid.{Tid}
use Rattle.omi_model.specs.declared.progress.Progress.{Progress}
use Rattle.omi_model.specs.declared.progress.Progress.TheVariants.{Begun, Deferred, Finished, NotBegun}
use Rattle.omi_model.specs.declared.region.Region.{Region}
use Rattle.omi_model.specs.declared.task.Task.{Task}
use Rattle.omi_model.specs.LawEncounters.{AreEncounters, IsEncountering, IsOpen}
use Rattle.omi_model.specs.LawProgress.{HasEnded}
use Rattle.omi_model.specs.Reached.{Reached}
use Rattle.omi_model.specs.State.{State, region_of, task_of}
use Rattle.omi_model.specs.Visible.{IsVisibleRegion}
use Rattle.omi_model.proofs.members.BegunChains.{scheduling_begun}
use Rattle.omi_model.proofs.members.Encounters.{are_made}
use Rattle.omi_model.proofs.members.MembersInStep.{members_in_step}
use Rattle.omi_model.proofs.MembersKnown.{first_at, members_known}
use Rattle.omi_model.proofs.OpenNames.{open_names}
use Rattle.omi_model.proofs.RegionEnds.{rests}
use Rattle.omi_model.proofs.Slots.{false_true, some_same}

begun_finished : Begun ≡ Finished → ⊥
begun_finished e = cc

-- a member that has started, and is not finished
by_progress : (q : Progress) → (q ≡ Deferred → ⊥) → (q ≡ NotBegun → ⊥) → (q ≡ Finished → ⊥) → q ≡ Begun
by_progress Deferred a b c = absurd (a refl)
by_progress NotBegun a b c = absurd (b refl)
by_progress Begun a b c = refl
by_progress Finished a b c = absurd (c refl)

joined_first : (r : Region) (n : ℕ) → n ≡ 0 → HasEnded r n → r.joined ≡ true
joined_first r n first is = subst (HasEnded r) first is

module _ (p : Program) (events : List (ℕ × Event)) (s : State) (reached : Reached p events s) where
  -- the members of a region that is not joined are live
  pub visible_open : (n : Rid) (r : Region) → region_of s n ≡ Some r → r.joined ≡ false → IsVisibleRegion s n
  visible_open n r live unjoined = record {
    region = r;
    live = live;
    team = λ j d within.
        let at = slice_get-get_or r.team j d within in
        ap is_some (((open_names p events s reached).regions n r live).team unjoined j (get_or r.team j d) at).live;
  }

  -- no explicit task of a region that is joined lives
  pub none_joined : (k : Tid) (t : Task) → task_of s k ≡ Some t → t.implicit ≡ false → (r : Region)
      → region_of s t.region ≡ Some r → r.joined ≡ true → ⊥
  none_joined k t live ex r found joined =
      let stood = (members_in_step p events s reached).joined t.region r found joined in
      rests p events s reached k t live ex r found (omega (arith, stood))

  -- so the region of a task that is explicit, or not finished, is not joined
  region_open : (k : Tid) (t : Task) → task_of s k ≡ Some t
      → (t.implicit ≡ true → t.progress ≡ Finished → ⊥) → IsOpen s t.region
  region_open k t live not =
      let (r, found) = ((open_names p events s reached).tasks k t live).region in
      (r, found, go r found t.implicit refl r.joined refl)
    where
      go : (r : Region) → region_of s t.region ≡ Some r → (b : Bool) → t.implicit ≡ b → (j : Bool)
          → r.joined ≡ j → r.joined ≡ false
      go r found b kind false j = j
      go r found true im true j =
          (((members_in_step p events s reached).members k t r live im found).going (not im)).1
      go r found false ex true j = absurd (none_joined k t live ex r found j)

  pub open_around : (k : Tid) (t : Task) → task_of s k ≡ Some t → (t.progress ≡ Finished → ⊥) → IsOpen s t.region
  open_around k t live not = region_open k t live (λ im. not)

  explicit_open : (k : Tid) (t : Task) → task_of s k ≡ Some t → t.implicit ≡ false → IsOpen s t.region
  explicit_open k t live ex = region_open k t live (λ im over. false_true (sym ex ∙ im))

  -- member 0 of a region that is not joined has begun, and so has the task that encountered the region
  pub encountering_begun : (n : Rid) (r : Region) (k : Tid) → region_of s n ≡ Some r → r.encountering ≡ Some k
      → r.joined ≡ false → (u : Task) × (task_of s k ≡ Some u) × (u.progress ≡ Begun)
  encountering_begun n r k found met unjoined =
      let (a, at) = first_at r.team ((members_known p events s reached).regions n r found).some in
      let is = ((open_names p events s reached).regions n r found).team unjoined 0 a at in
      let here : region_of s is.task.region ≡ Some r = ap (region_of s) is.region ∙ found in
      let member = (members_in_step p events s reached).members a.0 is.task r is.live is.implicit here in
      let begun : is.task.progress ≡ Begun =
      by_progress is.task.progress is.undeferred (λ w. (member.waiting w).0 is.number)
      (λ f. false_true (sym unjoined ∙ joined_first r is.task.number is.number (member.over f).0)) in
      let from : is.task.scheduling ≡ r.encountering =
      ((members_known p events s reached).encountered a.0 is.task is.live).scheduling is.implicit r here
      ∙ ap (λ b. if b then r.encountering else None) (eq-eqb is.task.number 0 is.number) in
      scheduling_begun p events s reached a.0 is.task is.live begun k (from ∙ met)

  encountering : (n : Rid) (r : Region) (k : Tid) (t : Task) → region_of s n ≡ Some r → r.encountering ≡ Some k
      → task_of s k ≡ Some t → IsEncountering s n r k
  encountering n r k t found met live =
      let (un, thread, enclosing) = (are_made p events s reached).met n r found k met t live in
      let begun : r.joined ≡ false → t.progress ≡ Begun = λ unjoined. let (u, live_u, is) = encountering_begun n r k found met unjoined in ap (λ (x : Task). x.progress) (some_same live live_u) ∙ is in
      record {
        task = t;
        live = live;
        thread = thread;
        enclosing = enclosing;
        begun = begun;
        around = λ unjoined.
            let (q, found_q, open_q) = open_around k t live (λ f. begun_finished (sym (begun unjoined) ∙ f)) in
            (visible_open t.region q found_q open_q, (q, found_q, open_q));
      }

pub encounters : (p : Program) (events : List (ℕ × Event)) (s : State) → Reached p events s → AreEncounters s
encounters p events s reached =
    let made = are_made p events s reached in
    record {
      named = made.named;
      encountered = λ n r k t found met live. encountering p events s reached n r k t found met live;
      initial = λ n r found. (made.initial n r found).0;
      outermost = λ n r found. (made.initial n r found).1;
      explicit = λ k t live ex. record { creator = (made.members k t live ex).0; thread = (made.members k t live ex).1; inside = explicit_open p events s reached k t live ex };
    }

-- The next that a task has to give back may always be given back.
use Rattle.std.proofs.Common.{◌≡◌, ◌⊎◌, inl, inr, ◌<◌, ℕ, Bool, true, false, List, [], ◌∷◌, length, slice_get, Option, Some, None, refl, sym, ap, ◌∙◌, subst, arith}
use Rattle.std.proofs.lemmas.Option.{slice_get_within}
use Rattle.omi_script.specs.declared.program.Program.{Program}
use Rattle.omi_model.specs.declared.event.Event.{Event}
use Rattle.omi_model.specs.declared.freeable.Freeable.TheVariants as freeable
use Rattle.omi_model.specs.declared.id.Rid.{Rid}
use Rattle.omi_model.specs.declared.id.Tid.{Tid}
use Rattle.omi_model.specs.declared.progress.Progress.{Progress}
use Rattle.omi_model.specs.declared.progress.Progress.TheVariants.{Begun, Deferred, Finished, NotBegun}
use Rattle.omi_model.specs.declared.region.Region.{Region}
use Rattle.omi_model.specs.declared.task.Task.{Task}
use Rattle.omi_model.specs.Barriers.{HasNoExplicit}
use Rattle.omi_model.specs.Changes.{IsCurrent}
use Rattle.omi_model.specs.Freeing.{HasNoChild, IsOver, IsSpent, MayFreeMember}
use Rattle.omi_model.specs.LawFreeing.{IsBeingFreed, MayGoOnFreeing}
use Rattle.omi_model.specs.LawLineage.{IsLineage}
use Rattle.omi_model.specs.LawNames.{IsMemberTask}
use Rattle.omi_model.specs.Opening.{initial_region, opening, opening_region}
use Rattle.omi_model.specs.Reached.{Reached}
use Rattle.omi_model.specs.State.{State, region_of, task_of}
use Rattle.omi_model.proofs.ChainsKept.{current_begun}
use Rattle.omi_model.proofs.freeing.RegionsFreed.{regions_freed}
use Rattle.omi_model.proofs.freeing.SlotNames.{region_named, task_named}
use Rattle.omi_model.proofs.members.EncounterLaws.{encounters, none_joined}
use Rattle.omi_model.proofs.members.Lineages.{have_lineage}
use Rattle.omi_model.proofs.members.MembersInStep.{members_in_step}
use Rattle.omi_model.proofs.MembersKnown.{members_known}
use Rattle.omi_model.proofs.NamesLive.{met_begun}
use Rattle.omi_model.proofs.Slots.{false_true, found_live, none_some, some_same}
use Rattle.omi_model.proofs.StaysLater.{stays_leads}

begun_finished : Begun ≡ Finished → ⊥
begun_finished e = cc

finished_or_not : (q : Progress) → (q ≡ Finished) ⊎ (q ≡ Finished → ⊥)
finished_or_not Finished = inl refl
finished_or_not Begun = inr begun_finished
finished_or_not NotBegun = inr (λ e. cc)
finished_or_not Deferred = inr (λ e. cc)

module _ (p : Program) (events : List (ℕ × Event)) (s : State) (reached : Reached p events s) where
  -- a task that is finished made no implicit task that lives: this is of a region that the task encountered, and so has not finished
  no_member : (k : Tid) (t : Task) → task_of s k ≡ Some t → t.progress ≡ Finished → (a : Tid) (u : Task)
      → task_of s a ≡ Some u → u.implicit ≡ true → u.generating ≡ Some k → ⊥
  no_member k t live over a u live_u im by =
      let known = members_known p events s reached in
      let (r, found, at) = known.tasks a u live_u im in
      let met : r.encountering ≡ Some k = sym ((known.encountered a u live_u).generating im r found) ∙ by in
      let (v, live_v, begun) = met_begun p events s reached u.region r k found met in
      begun_finished (sym begun ∙ (ap (λ (x : Task). x.progress) (some_same live_v live) ∙ over))

  -- a task that is finished is over once no explicit task that it generated lives
  spent : (k : Tid) (t : Task) → task_of s k ≡ Some t → t.progress ≡ Finished
      → ((a : Tid) (u : Task) → task_of s a ≡ Some u → u.implicit ≡ false → u.generating ≡ Some k → ⊥)
      → IsSpent s k t
  spent k t live over none = record { live = live; over = over; childless = childless }
    where
      childless : (c n : ℕ) (u : Task) → (s.tasks c n).live ≡ Some u → u.generating ≡ Some k → ⊥
      childless c n u there by = go u.implicit refl
        where
          go : (b : Bool) → u.implicit ≡ b → ⊥
          go true im =
              let (a, live_u) = task_named p events s reached c n u there in
              no_member k t live over a u live_u im by
          go false ex =
              let (a, live_u) = task_named p events s reached c n u there in
              none a u live_u ex by

  pub finished_freed : (k : Tid) (t : Task) → task_of s k ≡ Some t → t.implicit ≡ false → t.progress ≡ Finished
      → HasNoChild s k → IsSpent s k t
  finished_freed k t live ex over none =
      spent k t live over (λ a u live_u. none a.0.creator a.0.slot u (found_live a.0.generation (s.tasks a.0.creator a.0.slot) u live_u))

  -- ---- a region that is joined

  module _ (n : Rid) (r : Region) (found : region_of s n ≡ Some r) (joined : r.joined ≡ true) where
    alone : (a : Tid) (u : Task) → task_of s a ≡ Some u → u.implicit ≡ false → u.region ≡ n → ⊥
    alone a u live ex of = none_joined p events s reached a u live ex r (ap (region_of s) of ∙ found) joined

    no_explicit : HasNoExplicit s n
    no_explicit c j u there = let (a, live) = task_named p events s reached c j u there in alone a u live

    -- a task of it that has begun is not over yet
    none_begun : (a : Tid) (u : Task) → task_of s a ≡ Some u → u.progress ≡ Begun → u.region ≡ n → ⊥
    none_begun a u live begun of = go u.implicit refl
      where
        here : region_of s u.region ≡ Some r
        here = ap (region_of s) of ∙ found

        go : (b : Bool) → u.implicit ≡ b → ⊥
        go false ex = alone a u live ex of
        go true im =
            let step = (members_in_step p events s reached).members a u r live im here in
            let open_now = (step.going (λ over. begun_finished (sym begun ∙ over))).1 in
            false_true (sym open_now ∙ joined)

    -- it encloses no live region: the task that encountered this one has begun
    encloses_none : (o : Rid) (q : Region) → region_of s o ≡ Some q → q.enclosing ≡ Some n → ⊥
    encloses_none o q live of = go q.encountering refl
      where
        go : (h : Option Tid) → q.encountering ≡ h → ⊥
        go None none =
            let name = (encounters p events s reached).initial o q live none in
            let same =
            (stays_leads p (opening p) events s reached).alike_regions initial_region (opening_region p) q refl
            (ap (region_of s) (sym name) ∙ live) in
            none_some same.enclosing of
        go (Some k) met =
            let (t, live_t, begun) = met_begun p events s reached o q k live met in
            let is = (encounters p events s reached).encountered o q k t live met live_t in
            let around : is.task.region ≡ n = some_same is.enclosing of in
            none_begun k t live_t begun (ap (λ (x : Task). x.region) (some_same live_t is.live) ∙ around)

    is_over : IsOver s n r
    is_over = record {
      live = found;
      joined = joined;
      alone = no_explicit;
      inmost = λ c j q there. let (o, live) = region_named p events s reached c j q there in encloses_none o q live;
    }

    -- a member's task has finished
    member_over : (j : ℕ) (d : Tid × ℕ) (is : IsMemberTask s n j d) → is.task.progress ≡ Finished
    member_over j d is = go (finished_or_not is.task.progress)
      where
        go : (is.task.progress ≡ Finished) ⊎ (is.task.progress ≡ Finished → ⊥) → is.task.progress ≡ Finished
        go (inl over) = over
        go (inr not) =
            let here : region_of s is.task.region ≡ Some r = ap (region_of s) is.region ∙ found in
            let step = (members_in_step p events s reached).members d.0 is.task r is.live is.implicit here in
            absurd (false_true (sym (step.going not).1 ∙ joined))

    -- an explicit task that a member generated would stand in the region
    no_child : (j : ℕ) (d : Tid × ℕ) (is : IsMemberTask s n j d) (a : Tid) (u : Task) → task_of s a ≡ Some u
        → u.implicit ≡ false → u.generating ≡ Some d.0 → ⊥
    no_child j d is a u live ex by =
        let line = have_lineage p events s reached a u live in go line.tasks line.chain
      where
        go : (gs : List Tid) → IsLineage s u.implicit u.region u.generating gs → ⊥
        go [] im = false_true (sym ex ∙ im)
        go (g ∷ gs) (explicit, w, met, live_w, here, started, rest) =
            let one : g ≡ d.0 = some_same met by in
            let same : w ≡ is.task = some_same live_w (ap (task_of s) one ∙ is.live) in
            alone a u live ex (sym here ∙ (ap (λ (x : Task). x.region) same ∙ is.region))

    may_free_member : (j : ℕ) (d : Tid × ℕ) → slice_get r.team j ≡ Some d → IsMemberTask s n j d
        → MayFreeMember s d.0 n j
    may_free_member j d at is = record {
      region = r;
      ended = is_over;
      known = slice_get_within r.team j d at;
      old = is.task;
      spent = spent d.0 is.task is.live (member_over j d is) (no_child j d is);
      implicit = is.implicit;
      mine = is.region;
      number_is = is.number;
    }

    -- once each member's task is gone, no task of the region lives
    none_left : (number : ℕ)
        → ((j : ℕ) (d : Tid × ℕ) → slice_get r.team j ≡ Some d → j < number → task_of s d.0 ≡ None)
        → number ≡ length r.team → (a : Tid) (u : Task) → task_of s a ≡ Some u → u.region ≡ n → ⊥
    none_left number gone all a u live of = go u.implicit refl
      where
        go : (b : Bool) → u.implicit ≡ b → ⊥
        go false ex = alone a u live ex of
        go true im =
            let (r0, found0, at0) = (members_known p events s reached).tasks a u live im in
            let one : r0 ≡ r = some_same found0 (ap (region_of s) of ∙ found) in
            let at : slice_get r.team u.number ≡ Some (a, u.thread) =
            subst (λ (x : Region). slice_get x.team u.number ≡ Some (a, u.thread)) one at0 in
            let within : u.number < length r.team = slice_get_within r.team u.number (a, u.thread) at in
            none_some (gone u.number (a, u.thread) at (omega (arith, within, all))) live

  pub joined_freed : (i : ℕ) (k : Tid) (t : Task) (n : Rid) (number : ℕ) → IsCurrent s i k t
      → t.frees ≡ Some (freeable.Joined n number) → MayGoOnFreeing s i n number
  joined_freed i k t n number is front =
      let has = (regions_freed p events s reached).front k t n number is.live front in
      let (a, b, met, freed) = (regions_freed p events s reached).joined n has.region has.live has.joined in
      let one : a ≡ k = some_same met has.encountering in
      let live : task_of s k ≡ Some freed.task = ap (task_of s) (sym one) ∙ freed.current.live in
      let same : freed.task ≡ t = some_same live is.live in
      let fronts : Some (freeable.Joined n b) ≡ Some (freeable.Joined n number) =
      sym freed.next ∙ (ap (λ (x : Task). x.frees) same ∙ front) in
      let numbers : b ≡ number = cc in
      let now = subst (λ c. IsBeingFreed s n has.region a c) numbers freed in
      record {
        region = has.region;
        live = has.live;
        creator = sym (current_begun p events s reached n.0.creator k freed.task (freed.current.name ∙ ap (λ (c : Tid). Some c) one) live).1
            ∙ (current_begun p events s reached i k freed.task is.name live).1;
        member = λ d at.
            may_free_member n has.region has.live has.joined number d at (now.there number d at (omega arith));
        last = λ all. record {
          same = refl;
          old = has.region;
          ended = is_over n has.region has.live has.joined;
          all = all;
          empty = λ c j u there of.
              let (x, live_u) = task_named p events s reached c j u there in
              none_left n has.region has.live has.joined number now.gone all x u live_u of;
        };
      }

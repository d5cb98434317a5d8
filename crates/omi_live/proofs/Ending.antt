-- What the last state of the table says of the run.
use Rattle.std.proofs.Common.{◌≡◌, inl, inr, ◌<◌, ◌++◌, ℕ, List, [], ◌∷◌, length, slice_get, slice_index_or, Option, Some, refl, sym, ap, ◌∙◌, subst, arith}
use mathlib.Core.Option.{some}
use lib.ListN.{get_elem?}
use Rattle.atomic_table.specs.Table.{State}
use Rattle.omi_script.specs.declared.program.Program.{Program}
use Rattle.omi_layout.specs.declared.layout.Layout.{Layout}
use Rattle.omi_layout.proofs.OneOpening.{one_opening}
use Rattle.omi_pc.specs.declared.actor.Actor.{Actor}
use Rattle.omi_pc.specs.Opening.{opening_actor}
use Rattle.omi_core.specs.declared.entry.Entry.{Entry}
use Rattle.omi_core.specs.declared.stop.Break.{Break}
use Rattle.omi_core.specs.declared.thread_run.ThreadRun.{ThreadRun}
use Rattle.omi_core.specs.Runs.{actors_in}
use Rattle.omi_core.specs.Steps.{steps_of}
use Rattle.omi_core.proofs.Stepping.{actor_is}
use Rattle.omi_live.specs.declared.known.Access.{Access}
use Rattle.omi_live.specs.declared.known.Part.{Part}
use Rattle.omi_core.specs.Found.{actor_behind, entries_from}
use Rattle.omi_live.specs.Joined.{AreRunsKnown, IsLiveKept, IsRunKnown}
use Rattle.omi_live.specs.Accesses.{AreAccesses, accesses_of}
use Rattle.omi_live.specs.Live.{IsLive, IsRunOf, actors_left}
use Rattle.omi_seat.specs.Known.{steps_known}
use Rattle.omi_seat.specs.Workers.{IsKept}
use Rattle.omi_seat.specs.declared.step_log.Kept.{Kept}
use Rattle.omi_seat.specs.declared.step_log.Kept.TheVariants as kept
use Rattle.omi_seat.proofs.Joined.{all_whole, whole_kept, whole_known, whole_run}
use Rattle.omi_live.specs.Running.{IsPart, IsRaised, IsStopWord, Keeps}
use Rattle.omi_seat.proofs.Lists.{get_within}
use Rattle.omi_seat.proofs.Behind.{events_reach, has_tables, image_counts, image_shows, rule_holds, steps_made}
use Rattle.omi_seat.proofs.Made.{found_again, same_actors}

own_run : (budget : ℕ) (on : Option Break) (x : Part) (p : Program) (l : Layout) (i : ℕ) (r : ThreadRun)
    → IsRunKnown p l budget on kept.Steps i x r
    → IsRunOf x.known.program x.known.layout budget on x.known.thread (steps_known x.known) x.accesses r
own_run budget on x p l i r k =
    let again =
    found_again x.known.program x.known.layout.table
    (opening_actor x.known.program x.known.thread) x.known.found in
    record {
      follow = ap (entries_from x.known.program x.known.layout.table (opening_actor x.known.program x.known.thread)) (sym again);
      steps = k.run.steps;
      made = k.run.made refl;
      events = k.run.events;
      actor = k.run.actor ∙ ap (actor_behind x.known.program x.known.layout.table (opening_actor x.known.program x.known.thread)) (sym again);
      most = k.worked.most;
      went_on = k.worked.went_on;
      reason = k.worked.reason;
      did = k.worked.did;
    }

module _ (p : Program) (l : Layout) (budget : ℕ) (on : Option Break) (s : State (Unit {0}) (List Part))
    (h : Keeps p l on s) (id : ℕ) (parts : List Part) (at : get_elem? s.views id ≡ some parts)
    (runs : List ThreadRun) (known : AreRunsKnown p l budget on kept.Steps parts runs) where
  part_of_run : (i : ℕ) (r : ThreadRun) → slice_get runs i ≡ Some r
      → (x : Part) × IsPart p l h.behind.keeps.entries h.accesses h.behind.run.actors h.stop x × IsRunKnown p l budget on kept.Steps i x r
  part_of_run i r got =
      let one = known.each i r got in (one.0, (h.seats.parts id i parts one.0 at one.1).1, one.2)

  run_is : (i : ℕ) (r : ThreadRun) → slice_get runs i ≡ Some r
      → IsRunOf p l budget on i (steps_of i h.behind.keeps.entries) (accesses_of i h.accesses) r
  run_is i r got =
      let one = part_of_run i r got in
      let x = one.0 in
      let part = one.1 in
      let is = one.2 in
      subst (λ (es : List Entry). IsRunOf p l budget on i es (accesses_of i h.accesses) r)
      (sym (ap (λ j. steps_of j h.behind.keeps.entries) (sym is.run.own) ∙ part.known.steps))
      (subst (λ (ys : List Access). IsRunOf p l budget on i (steps_known x.known) ys r) (sym (ap (λ j. accesses_of j h.accesses) (sym is.run.own) ∙ part.did))
      (subst (λ (z : Program × Layout × ℕ). IsRunOf z.0 z.1 budget on z.2 (steps_known x.known) x.accesses r) (λ k. (is.run.program k, is.run.layout k, is.run.own k)) (own_run budget on x p l i r is)))

  why_stopped : IsStopWord on h.behind.keeps.entries h.stop → h.stop ≡ 1
      → IsRaised on h.behind.keeps.entries
  why_stopped (inl not) is = absurd (omega (arith, not, is))
  why_stopped (inr (one, raised)) is = raised

  actors_are : length runs ≡ p.threads → actors_in h.behind.run.actors ≡ actors_left runs
  actors_are count = ap actors_in (same_actors h.behind.run.actors runs long each)
    where
      long : length h.behind.run.actors ≡ length runs
      long = h.behind.keeps.actors ∙ ap (λ (q : Program). q.threads) h.behind.program ∙ sym count

      each : (i : ℕ) (r : ThreadRun) → slice_get runs i ≡ Some r → (d : Actor)
          → slice_index_or h.behind.run.actors i d ≡ r.actor
      each i r got d =
          let one = part_of_run i r got in
          actor_is h.behind.run.actors i d (subst (λ n. i < n) (sym long) (get_within runs r i got))
          ∙ ap (actors_in h.behind.run.actors) (sym one.2.run.own) ∙ one.1.known.actor ∙ sym one.2.run.actor

  is_live : length runs ≡ p.threads → (image : List ℕ) → image ≡ h.behind.run.words
      → IsLive p l budget on image runs
  is_live count image is = record {
    entries = h.behind.keeps.entries;
    state = h.behind.keeps.state;
    steps = steps_made p l s.words (h.stop ∷ []) h.behind image is;
    reached = events_reach p l s.words (h.stop ∷ []) h.behind image is;
    rule = rule_holds p l s.words (h.stop ∷ []) h.behind image is (actors_left runs) (actors_are count);
    shows = image_shows p l s.words (h.stop ∷ []) h.behind image is;
    tables = has_tables p l s.words (h.stop ∷ []) h.behind image is;
    counts = image_counts p l s.words (h.stop ∷ []) h.behind image is;
    threads = count;
    accesses = h.accesses;
    stop = h.stop;
    made =
        subst (λ (z : List ℕ × List ℕ). AreAccesses p l.table h.behind.keeps.entries h.accesses z.0 z.1)
        (λ k. (one_opening p l.table l.valid h.first (steps_made p l s.words (h.stop ∷ []) h.behind image is).first h.opens (steps_made p l s.words (h.stop ∷ []) h.behind image is).opens k, (h.behind.are ∙ ap (λ (ws : List ℕ). ws ++ h.stop ∷ []) (sym is)) k)) h.made;
    each = run_is;
    stopped = λ i r got stopped. let one = part_of_run i r got in why_stopped h.raised (one.1.told (one.2.worked.stopped stopped));
  }

-- and of what is kept of it
module _ (p : Program) (l : Layout) (budget : ℕ) (on : Option Break) (keeps : Kept)
    (s : State (Unit {0}) (List Part)) (h : Keeps p l on s) (id : ℕ) (parts : List Part)
    (at : get_elem? s.views id ≡ some parts) (runs : List ThreadRun)
    (known : AreRunsKnown p l budget on keeps parts runs) where
  abbrev IsWhole : ℕ → ThreadRun → Type 0
  IsWhole i w = (x : Part) × (slice_get parts i ≡ Some x) × IsRunKnown p l budget on kept.Steps i x w

  each_whole : (i : ℕ) (r : ThreadRun) → slice_get runs i ≡ Some r
      → (w : ThreadRun) × IsKept keeps w r × IsWhole i w
  each_whole i r got =
      let one = known.each i r got in (
        whole_run one.0.known r,
        whole_kept p l keeps i one.0.known r one.2.run,
        (one.0, one.1, record { run = whole_known p l keeps i one.0.known r one.2.run; worked = one.2.worked }),
      )

  pub is_live_kept : length runs ≡ p.threads → (image : List ℕ) → image ≡ h.behind.run.words
      → IsLiveKept p l budget on keeps image runs
  is_live_kept count image is =
      let all = all_whole keeps runs IsWhole each_whole in
      record {
        whole = all.0;
        live =
            is_live p l budget on s h id parts at all.0
            record { count = known.count ∙ sym all.1.many; each = all.2 } (all.1.many ∙ count) image is;
        are = all.1;
      }

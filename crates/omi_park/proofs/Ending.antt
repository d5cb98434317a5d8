-- What the last state of the table says of the run and of its stops.
use Rattle.std.proofs.Common.{◌≡◌, ◌<◌, ℕ, suc, List, ◌∷◌, length, slice_get, slice_index_or, Some, refl, sym, ap, ◌∙◌, subst}
use mathlib.Core.Option.{some}
use lib.ListN.{get_elem?}
use Rattle.atomic_table.specs.Table.{State}
use Rattle.omi_script.specs.declared.program.Program.{Program}
use Rattle.omi_layout.specs.declared.layout.Layout.{Layout}
use Rattle.omi_pc.specs.declared.actor.Actor.{Actor}
use Rattle.omi_pc.specs.Opening.{opening_actor}
use Rattle.omi_core.specs.declared.entry.Entry.{Entry}
use Rattle.omi_core.specs.declared.thread_run.ThreadRun.{ThreadRun}
use Rattle.omi_core.specs.Found.{actor_behind, entries_from}
use Rattle.omi_core.specs.Runs.{actors_in}
use Rattle.omi_core.specs.Steps.{steps_of}
use Rattle.omi_core.proofs.Stepping.{actor_is}
use Rattle.omi_seat.specs.Known.{steps_known}
use Rattle.omi_seat.specs.Workers.{IsKept}
use Rattle.omi_seat.specs.declared.step_log.Kept.{Kept}
use Rattle.omi_seat.specs.declared.step_log.Kept.TheVariants as kept
use Rattle.omi_seat.proofs.Joined.{all_whole, whole_kept, whole_known, whole_run}
use Rattle.omi_seat.proofs.Behind.{events_reach, has_tables, image_counts, image_shows, rule_holds, steps_made}
use Rattle.omi_seat.proofs.Lists.{get_within}
use Rattle.omi_seat.proofs.Made.{found_again, same_actors}
use Rattle.omi_park.specs.declared.known.InspectorPart.{InspectorPart}
use Rattle.omi_park.specs.declared.known.Part.{Part}
use Rattle.omi_park.specs.declared.known.Part.TheVariants as part
use Rattle.omi_park.specs.declared.known.WorkerPart.{WorkerPart}
use Rattle.omi_park.specs.Joined.{AreRunsKnown, IsParkedKept, IsRunKnown}
use Rattle.omi_park.specs.Parked.{AreStops, IsParked, IsRunOf, actors_left}
use Rattle.omi_park.specs.Running.{IsWorker, Keeps}
use Rattle.omi_park.proofs.Stops.{never_fall, none_passes}

own_run : (budget : ℕ) (x : WorkerPart) (p : Program) (l : Layout) (i : ℕ) (r : ThreadRun)
    → IsRunKnown p l budget kept.Steps i x r
    → IsRunOf x.known.program x.known.layout budget x.known.thread (steps_known x.known) r
own_run budget x p l i r k =
    let again =
    found_again x.known.program x.known.layout.table
    (opening_actor x.known.program x.known.thread) x.known.found in
    record {
      follow = ap (entries_from x.known.program x.known.layout.table (opening_actor x.known.program x.known.thread)) (sym again);
      steps = k.run.steps;
      made = k.run.made refl;
      events = k.run.events;
      actor = k.run.actor ∙ ap (actor_behind x.known.program x.known.layout.table (opening_actor x.known.program x.known.thread)) (sym again);
      most = k.worked.most;
      went_on = k.worked.went_on;
      reason = k.worked.reason;
      never = k.worked.never;
    }

module _ (p : Program) (l : Layout) (budget : ℕ) (s : State (Unit {0}) (List Part)) (h : Keeps p l s) (id : ℕ)
    (parts : List Part) (at : get_elem? s.views id ≡ some parts) (i : InspectorPart) (runs : List ThreadRun)
    (known : AreRunsKnown p l budget kept.Steps i parts runs) where
  part_of_run : (k : ℕ) (r : ThreadRun) → slice_get runs k ≡ Some r
      → (x : WorkerPart) × IsWorker p l h.behind.keeps.entries h.behind.run.actors h.epoch h.acks h.inspector.seen x × IsRunKnown p l budget kept.Steps k x r
  part_of_run k r got =
      let one = known.each k r got in
      let there : slice_get parts (suc k) ≡ Some (part.Worker one.0) =
      ap (λ (ps : List Part). slice_get ps (suc k)) known.parts_are ∙ one.1 in
      (one.0, (h.seats.parts id (suc k) parts (part.Worker one.0) at there).1, one.2)

  run_is : (k : ℕ) (r : ThreadRun) → slice_get runs k ≡ Some r
      → IsRunOf p l budget k (steps_of k h.behind.keeps.entries) r
  run_is k r got =
      let one = part_of_run k r got in
      let x = one.0 in
      let is = one.2 in
      subst (λ (es : List Entry). IsRunOf p l budget k es r)
      (sym (ap (λ j. steps_of j h.behind.keeps.entries) (sym is.run.own) ∙ one.1.known.steps))
      (subst (λ (z : Program × Layout × ℕ). IsRunOf z.0 z.1 budget z.2 (steps_known x.known) r) (λ j. (is.run.program j, is.run.layout j, is.run.own j)) (own_run budget x p l k r is))

  actors_are : length runs ≡ p.threads → actors_in h.behind.run.actors ≡ actors_left runs
  actors_are count = ap actors_in (same_actors h.behind.run.actors runs long each)
    where
      long : length h.behind.run.actors ≡ length runs
      long = h.behind.keeps.actors ∙ ap (λ (q : Program). q.threads) h.behind.program ∙ sym count

      each : (k : ℕ) (r : ThreadRun) → slice_get runs k ≡ Some r → (d : Actor)
          → slice_index_or h.behind.run.actors k d ≡ r.actor
      each k r got d =
          let one = part_of_run k r got in
          actor_is h.behind.run.actors k d (subst (λ n. k < n) (sym long) (get_within runs r k got))
          ∙ ap (actors_in h.behind.run.actors) (sym one.2.run.own) ∙ one.1.known.actor ∙ sym one.2.run.actor

  -- the inspector's part is that of the rule
  inspector_is : i ≡ h.inspector
  inspector_is =
      (h.seats.parts id 0 parts (part.Inspector i) at (ap (λ (ps : List Part). slice_get ps 0) known.parts_are)).1

  stops_are : AreStops p l 0 h.behind.keeps.entries i.stops
  stops_are =
      subst (λ (j : InspectorPart). AreStops p l 0 h.behind.keeps.entries j.stops) (sym inspector_is) h.inspects.stops

  is_parked : length runs ≡ p.threads → (image : List ℕ) → image ≡ h.behind.run.words
      → IsParked p l budget image runs i.stops
  is_parked count image is = record {
    entries = h.behind.keeps.entries;
    state = h.behind.keeps.state;
    steps = steps_made p l s.words (h.epoch ∷ h.acks) h.behind image is;
    reached = events_reach p l s.words (h.epoch ∷ h.acks) h.behind image is;
    rule = rule_holds p l s.words (h.epoch ∷ h.acks) h.behind image is (actors_left runs) (actors_are count);
    tables = has_tables p l s.words (h.epoch ∷ h.acks) h.behind image is;
    shows = image_shows p l s.words (h.epoch ∷ h.acks) h.behind image is;
    counts = image_counts p l s.words (h.epoch ∷ h.acks) h.behind image is;
    threads = count;
    each = run_is;
    are = stops_are;
    rising = never_fall p l 0 h.behind.keeps.entries i.stops stops_are;
    within = none_passes p l 0 h.behind.keeps.entries i.stops runs stops_are (λ k r got. (run_is k r got).steps);
  }

-- and of what is kept of it
module _ (p : Program) (l : Layout) (budget : ℕ) (keeps : Kept) (s : State (Unit {0}) (List Part)) (h : Keeps p l s)
    (id : ℕ) (parts : List Part) (at : get_elem? s.views id ≡ some parts) (i : InspectorPart)
    (runs : List ThreadRun) (known : AreRunsKnown p l budget keeps i parts runs) where
  abbrev IsWhole : ℕ → ThreadRun → Type 0
  IsWhole k w =
      (x : WorkerPart) × (slice_get known.known k ≡ Some (part.Worker x)) × IsRunKnown p l budget kept.Steps k x w

  each_whole : (k : ℕ) (r : ThreadRun) → slice_get runs k ≡ Some r
      → (w : ThreadRun) × IsKept keeps w r × IsWhole k w
  each_whole k r got =
      let one = known.each k r got in (
        whole_run one.0.known r,
        whole_kept p l keeps k one.0.known r one.2.run,
        (one.0, one.1, record { run = whole_known p l keeps k one.0.known r one.2.run; worked = one.2.worked }),
      )

  pub is_parked_kept : length runs ≡ p.threads → (image : List ℕ) → image ≡ h.behind.run.words
      → IsParkedKept p l budget keeps image runs i.stops
  is_parked_kept count image is =
      let all = all_whole keeps runs IsWhole each_whole in
      record {
        whole = all.0;
        parked =
            is_parked p l budget s h id parts at i all.0
            record {
              known = known.known;
              parts_are = known.parts_are;
              count = known.count ∙ sym all.1.many;
              each = all.2;
            }
            (all.1.many ∙ count) image is;
        are = all.1;
      }

-- A thread in a wait loads the task of a member from the region's team, to look at its slots.
use Rattle.std.proofs.Common.{◌≡◌, ◌%◌, ◌<◌, ℕ, List, get_or, refl, sym, ap, subst, arith, ◌∙◌}
use Rattle.std.specs.Prelude.{Some, slice_get}
use Rattle.std.proofs.lemmas.Option.{slice_get-get_or}
use Rattle.omi_script.specs.declared.program.Program.{Program}
use Rattle.omi_model.specs.declared.event.Event.{Event}
use Rattle.omi_model.specs.declared.id.Tid.{Tid}
use Rattle.omi_model.specs.Columns.{no_task}
use Rattle.omi_model.specs.LawNames.{IsMemberTask}
use Rattle.omi_model.specs.State.{State}
use Rattle.omi_model.proofs.NamesLive.{names_live}
use Rattle.omi_layout.specs.declared.field.Field.TheVariants.{RegionTeam}
use Rattle.omi_layout.specs.Field.{regions, tasks}
use Rattle.omi_layout.specs.Memory.{IsRecordWord, Memory}
use Rattle.omi_layout.specs.Named.{number}
use Rattle.omi_layout.specs.Table.{thread_count}
use Rattle.omi_layout.proofs.Numbers.{numbered_field}
use Rattle.omi_pc.specs.declared.actor.Actor.{Actor}
use Rattle.omi_pc.specs.declared.counter.Counter.{Counter}
use Rattle.omi_pc.specs.declared.counter.Counter.TheVariants as counter
use Rattle.omi_pc.specs.declared.frame.Wait.{Wait}
use Rattle.omi_numbers.specs.declared.limits.TheConstants.{OWN_SLOTS}
use Rattle.omi_pc.specs.declared.place.Place.{Place}
use Rattle.omi_pc.specs.declared.task_counter.LookCounter.TheVariants as look
use Rattle.omi_pc.specs.Fits.{Looks}
use Rattle.omi_step_words.specs.Placed.{HasTask, HasTaskPlace}
use Rattle.omi_step_words.specs.Words.{of_member, task_place}
use Rattle.omi_step_words.proofs.ReadBack.{places_back}
use Rattle.omi_task.specs.LookSteps.{look_moved, look_next, look_outcome, member_at}
use Rattle.omi_rep.specs.Codes.{region_told}
use Rattle.omi_rep.proofs.Codes.{member_code}
use Rattle.omi_rule.specs.Chains.{KeepsContext}
use Rattle.omi_rule.specs.Rows.{place_of}
use Rattle.omi_rule.specs.Steps.{RecordWord, StepKeeps}
use Rattle.omi_rule.proofs.Assembly.{Before}
use Rattle.omi_rule.proofs.KeptObjects.{task_there}
use Rattle.omi_rule.proofs.OwnRow.{is_open}
use Rattle.omi_rule.proofs.barrier.AtCounter.{GoesTo, ahead_is, context_placed, fits_counter, here, is_context, keeps_region, load_quiet, front_is}

module _ (p : Program) (w : List ℕ) (m : Memory) (events : List (ℕ × Event)) (s : State) (actors : ℕ → Actor)
    (i : ℕ) (before : Before p w m events s actors i) (v : Wait) (n : ℕ)
    (at : (actors i).counter ≡ counter.Look (look.LoadRow v n)) where
  abbrev a : Actor
  a = actors i

  abbrev standing : Counter
  standing = counter.Look (look.LoadRow v n)

  abbrev on_row : RecordWord
  on_row = record { creator = a.context.region.0.creator; slot = a.context.region.0.slot; field = RegionTeam; place = member_at n }

  abbrev row_word : ℕ
  row_word = m a.context.region.0.creator regions a.context.region.0.slot (number RegionTeam) (member_at n)

  abbrev known : KeepsContext s i (actors i).context
  known = here p w m events s actors i before standing at tt

  fits : Looks p a v n × (n % OWN_SLOTS ≡ 0)
  fits = fits_counter p w m events s actors i before standing at tt

  of_team : member_at n < a.context.size
  of_team = let looks = fits.0.1 in omega (arith, looks)

  -- the member
  abbrev member : Tid × ℕ
  member = get_or known.region.team (member_at n) (no_task, 0)

  member_there : slice_get known.region.team (member_at n) ≡ Some member
  member_there =
      slice_get-get_or known.region.team (member_at n) (no_task, 0)
      (let size = known.size in let below = of_team in omega (arith, size, below))

  member_task : IsMemberTask s a.context.region (member_at n) member
  member_task =
      ((names_live p events s before.rule.reached).regions a.context.region known.region known.found).team
      (is_open p events s before.rule.reached i a.context known) (member_at n) member member_there

  has_task : HasTask w member.0
  has_task = task_there p w m events s actors before.rule member.0 member_task.task member_task.live

  read_back : task_place w row_word ≡ place_of member.0.0
  read_back =
      ap (task_place w)
      ((keeps_region p w m events s actors i before standing at tt).codes RegionTeam (member_at n) _ (member_code w (region_told (here p w m events s actors i before standing at tt).region) (member_at n) member member_there))
      ∙ places_back w tasks member.0.0.creator member.0.0.slot before.valid
      (record { from = omega arith; to = omega arith }) has_task

  maker : member.0.0.creator < p.threads
  maker = subst (λ k. member.0.0.creator < k) (sym before.suits.threads) has_task.made_by

  row_there : IsRecordWord w a.context.region.0.creator a.context.region.0.slot (number RegionTeam) (member_at n)
  row_there = record {
    field = numbered_field RegionTeam;
    record_slot = (context_placed p w m events s actors i before standing at tt).region;
    within =
        let below = of_team in
        let few = (is_context p w m events s actors i before standing at tt).size.1 in
        let same : p.threads ≡ thread_count w = before.suits.threads in
        omega (arith, below, few, same);
  }

  goes : GoesTo p w m events s actors i before standing at tt (counter.Look (look.LoadSlot v n (task_place w row_word)))
  goes = record {
    fits = (fits.0, subst (λ (q : Place). q.creator < p.threads) (sym read_back) maker);
    placed = subst (λ (q : Place). HasTaskPlace w q) (sym read_back) has_task;
    ahead = ahead_is p w m events s actors i before standing at tt;
    front = front_is p w m events s actors i before standing at tt;
    owes = refl;
    row = (known.region, known.found, (member, member_there, sym read_back));
    ended = tt;
  }

  pub load_row_keeps : StepKeeps p w m events s actors i (look_next w (actors i) (look.LoadRow v n)) (λ old. (look_moved p w (actors i) (look.LoadRow v n) old, look_outcome w (actors i) (look.LoadRow v n) old))
  load_row_keeps = (
    on_row,
    record { there = row_there; address = refl },
    load_quiet p w m events s actors i before standing at tt (of_member w a.context.region (member_at n)) on_row (counter.Look (look.LoadSlot v n (task_place w row_word))) goes,
  )

-- A step that is listed is what is known of its thread then.
use Rattle.std.proofs.Common.{◌≡◌, ◌+◌, ◌≤◌, ◌++◌, [], ◌∷◌, sym, ap, ◌∙◌, subst, arith}
use Rattle.std.proofs.lemmas.List.{length-append}
use Rattle.omi_run_lists.specs.declared.made.Made.{Made}
use Rattle.omi_pc.specs.declared.actor.Actor.{Actor}
use Rattle.omi_rep.specs.declared.outcome.Outcome.{Outcome}
use Rattle.omi_step_words.specs.Outcomes.{outcome_of}
use Rattle.omi_core.specs.RunSteps.{event_of, seats_of, turn_of}
use Rattle.omi_run_lists.specs.StepRoom.{room_for_steps}
use Rattle.omi_seat.specs.Claims.{claims_at, claims_from}
use Rattle.omi_seat.specs.Known.{claims_known, entry_known, finds, steps_known}
use Rattle.omi_seat.proofs.Claims.{claims_more, room_less}
use Rattle.omi_seat.proofs.Learnt.{actor_one_more, events_more, made_more, steps_one_more}
use Rattle.omi_seat.proofs.Logged.{can_step, outcome_is, resumed_is}
use Rattle.omi_seat.proofs.step_log.StepLog.list.Goals as goal

pub overflow_add-step : goal.overflow_add-step
overflow_add-step c =
    let may = c.requires.may in
    let count = may.1.next.log.steps in
    let few = may.1.few in
    omega (arith, count, few)

pub list_step-requires : goal.list_step-requires
list_step-requires c is = c.requires.may.1.room.made is

pub list_event-requires-clause-spare : goal.list_event-requires-clause-spare
list_event-requires-clause-spare c = let room = c.requires.may.1.room.events in omega (arith, room)

pub list_event-requires-clause-seats : goal.list_event-requires-clause-seats
list_event-requires-clause-seats c =
    let may = c.requires.may in
    let out = outcome_of c.args.self.now.actor c.outcome-came.result in
    let few : seats_of out ≤ claims_known may.0 + 1 =
    subst (λ (o : Outcome). seats_of o ≤ claims_known may.0 + 1)
    (sym (outcome_is c.args.p.now c.args.l.now may.0 c.args.self.now may.1.next.log c.args.old out c.outcome-came.ensures))
    may.1.next.seats in
    let room = may.1.room.events in
    omega (arith, few, room)

pub advance-requires-clause-fits : goal.advance-requires-clause-fits
advance-requires-clause-fits c =
    let may = c.requires.may in
    (can_step c.args.p.now c.args.l.now may.0 c.args.self.now may.1.next.log may.1.able).fits

pub advance-requires-clause-placed : goal.advance-requires-clause-placed
advance-requires-clause-placed c =
    let may = c.requires.may in
    (can_step c.args.p.now c.args.l.now may.0 c.args.self.now may.1.next.log may.1.able).placed

pub returns-clause-listed : goal.returns-clause-listed
returns-clause-listed c x next =
    let log = next.log in
    let came = outcome_of c.args.self.now.actor c.outcome-came.result in
    let out : came ≡ (entry_known x c.args.old).outcome =
    outcome_is c.args.p.now c.args.l.now x c.args.self.now log c.args.old came c.outcome-came.ensures in
    let count = log.steps in
    record {
      log = record {
        program = log.program;
        layout = log.layout;
        thread = log.thread;
        below = log.below;
        steps = ap (λ n. n + 1) log.steps ∙ sym (length-append x.found (c.args.old ∷ []));
        actor =
            c.advance.ensures
            ∙ ap (λ (z : Actor × Outcome). z.0) (resumed_is c.args.p.now c.args.l.now x c.args.self.now log c.args.old)
            ∙ sym (actor_one_more x c.args.old);
        made = λ is.
            c.list_step.ensures.items is
            ∙ ap (λ (m : Made). c.args.self.now.made.items ++ m ∷ [])
            (λ k. record { op = op_is k; old = c.args.old; thread = log.thread k; turn = turn_is k })
            ∙ made_more x c.args.old c.args.self.now.made.items (log.made is);
        none = λ is. c.list_step.ensures.none is ∙ log.none is;
        events =
            c.list_event.ensures.items
            ∙ (λ k. c.args.self.now.events.items ++ event_of (count k + 1) (log.thread k) (out k))
            ∙ events_more x c.args.old c.args.self.now.events.items log.events;
      };
      came = out;
      room = λ m room.
          let fits : seats_of came ≤ claims_known x + 1 =
          subst (λ (o : Outcome). seats_of o ≤ claims_known x + 1) (sym out) next.seats in
          let claims : claims_at (claims_known x) came ≡ claims_known (finds c.args.old x) =
          ap (claims_at (claims_known x)) out
          ∙ sym (claims_more 0 (steps_known x) (entry_known x c.args.old))
          ∙ ap (claims_from 0) (sym (steps_one_more x c.args.old)) in
          record {
            made = λ is.
                let made = room.made is in
                let fewer = c.list_step.ensures.spare is in
                omega (arith, made, fewer);
            events = subst (λ n. m ≤ room_for_steps c.list_event.new.events n) claims
                (room_less m c.args.self.now.events.spare c.args.self.now.events.seats (claims_known x) c.list_event.new.events.spare c.list_event.new.events.seats came
                fits c.list_event.ensures.spare c.list_event.ensures.seats room.events);
          };
    }
  where
    turn_is : c.turn_of.result ≡ turn_of (entry_known x c.args.old).outcome
    turn_is =
        c.turn_of.ensures c.args.self.now.actor.gathered.team
        ∙ ap turn_of
        (outcome_is c.args.p.now c.args.l.now x c.args.self.now next.log c.args.old
        (outcome_of c.args.self.now.actor c.outcome-came.result) c.outcome-came.ensures)

    op_is : c.args.op ≡ (entry_known x c.args.old).op
    op_is = next.is_next

-- One step of a worker: its operation keeps the rule of the table, and what it lists is what is known of its thread.
use Rattle.std.proofs.Common.{◌∙◌, sym, subst}
use Rattle.omi_word.specs.declared.op.Op.{Op}
use Rattle.omi_seat.specs.Applied.{MayApply}
use Rattle.omi_seat.proofs.Logged.{can_step, next_is}
use Rattle.omi_seat.proofs.worker.Worker.step.Goals as goal

pub next-op-requires-clause-fits : goal.next-op-requires-clause-fits
next-op-requires-clause-fits g c =
    let may = c.requires.may in
    (can_step c.args.p.now c.args.l.now may.0 c.args.self.now.log may.1.log may.1.able).fits

pub next-op-requires-clause-placed : goal.next-op-requires-clause-placed
next-op-requires-clause-placed g c =
    let may = c.requires.may in
    (can_step c.args.p.now c.args.l.now may.0 c.args.self.now.log may.1.log may.1.able).placed

pub next-op-requires-clause-groups : goal.next-op-requires-clause-groups
next-op-requires-clause-groups g c =
    let may = c.requires.may in
    (can_step c.args.p.now c.args.l.now may.0 c.args.self.now.log may.1.log may.1.able).groups

pub apply-old-requires-clause-may : goal.apply-old-requires-clause-may
apply-old-requires-clause-may g c =
    let may = c.requires.may in
    subst (λ (o : Op). MayApply (g.P.TableRule.holds c.args.words.now.key) c.args.words.now.table_id c.args.self.now.seat.id c.args.self.now.seat.me o g.M.Play.then)
    (sym (c.next-op.ensures ∙ next_is c.args.p.now c.args.l.now may.0 c.args.self.now.log may.1.log))
    may.1.may

pub list-requires-clause-may : goal.list-requires-clause-may
list-requires-clause-may g c =
    let may = c.requires.may in (
      may.0,
      record {
        next = record {
          log = may.1.log;
          is_next = c.next-op.ensures ∙ next_is c.args.p.now c.args.l.now may.0 c.args.self.now.log may.1.log;
          seats = may.1.seats c.apply-old.result c.apply-old.new.seat.me c.apply-old.ensures.told;
        };
        able = may.1.able;
        few = may.1.few;
        room = may.1.room;
      },
    )

pub returns-clause-stepped : goal.returns-clause-stepped
returns-clause-stepped g c k log tells =
    let listed =
    c.list.ensures.listed k
    record {
      log = log;
      is_next = c.next-op.ensures ∙ next_is c.args.p.now c.args.l.now k c.args.self.now.log log;
      seats = tells c.apply-old.result c.apply-old.new.seat.me c.apply-old.ensures.told;
    } in
    record {
      found = c.apply-old.result;
      was_told = c.apply-old.ensures.told;
      log = listed.log;
      came = listed.came;
      room = listed.room;
    }

use Rattle.omi_script.proofs.RuleLemmas.{Rules-from_accepted}
use Rattle.omi_rewind_top.proofs.Printed.{shown_steps}
use Rattle.omi_rewind_top.proofs.Turned.{in_turn, turned_later}
use Rattle.omi_rewind_top.proofs.at.at_text.Goals as goal

pub text_of_steps-requires-clause-turns : goal.text_of_steps-requires-clause-turns
text_of_steps-requires-clause-turns c =
    in_turn c.args.p c.in_ok-rewind.rewind c.in_ok-contexts.contexts c.in_ok-rewind.ensures.turned
    (Rules-from_accepted c.args.p).threads.1 c.in_ok-contexts.ensures

pub returns : goal.returns
returns c =
    let turned = turned_later c.args.p c.in_ok-rewind.rewind c.text_of_steps.new.rewind c.in_ok-rewind.ensures.turned c.in_ok-text.ensures.later in
    record {
      rewind = c.text_of_steps.new.rewind;
      turned = turned;
      rewound = c.made-made.ensures.run;
      steps = shown_steps c.text_of_steps.new.rewind c.made-made.ensures.run turned.valid c.args.steps.now c.in_ok-text.text.items c.in_ok-text.ensures.shown;
    }

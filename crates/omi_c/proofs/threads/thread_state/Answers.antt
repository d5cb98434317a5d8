use Rattle.std.proofs.Common.{◌∙◌}
use Rattle.omi_icv.specs.StateWords as states
use Rattle.omi_handle.specs.declared.handle.Kind.TheVariants as object
use Rattle.omi_c.specs.Objects as objects
use Rattle.omi_c.proofs.Asked.{asked_of_object, refused_in}
use Rattle.omi_c.proofs.threads.thread_state.Goals as goal

pub returns-in_err-s : goal.returns-in_err-s
returns-in_err-s g c =
    refused_in c.args.table.now c.args.known.now (λ w. states.state w (objects.held_in w object.Thread c.args.thread))
    c.from_residual.result _ c.from_residual.ensures.1 c.in_err-s.ensures.refused

pub returns : goal.returns
returns g c =
    c.replied.ensures
    ∙ asked_of_object c.args.table.now c.args.known.now c.in_ok-s.s _ c.in_ok-s.ensures.opened object.Thread c.args.thread
    states.state c.held_in-thread.result c.state_of_thread-state.result c.held_in-thread.ensures.value c.state_of_thread-state.ensures.answer

-- What a state answers about the frames of a task.
use Rattle.std.specs.Prelude.{Result, Ok}
use Rattle.omi_model.specs.declared.task.Task.{Task}
use Rattle.omi_session.specs.declared.rc.Rc.{Rc}
use Rattle.omi_asktask.specs.declared.words.Frames.{Frames}
use Rattle.omi_asktask.specs.Frame.{flag_of}

-- the frames of a task, each with its flag
abbrev pub frames_of_task : Task → Result Frames Rc
frames_of_task t =
    Ok (record {
      exit = t.exit;
      exit_flag = flag_of t.exit;
      enter = t.enter;
      enter_flag = flag_of t.enter;
    })

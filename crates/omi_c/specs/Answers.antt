-- How replies are spelled in the answers that C gets.
use Rattle.std.specs.Prelude.{ℕ, List, Ok, Err, length}
use Rattle.omi_handle.specs.declared.handle.Held.{Held}
use Rattle.omi_asktask.specs.declared.words.Frames.{Frames}
use Rattle.omi_session.specs.declared.rc.Rc.{Rc}
use Rattle.omi_session.specs.declared.rc.Rc.TheVariants.{Error, Incomplete}
use Rattle.omi_session.specs.Rc.{code_of}
use Rattle.omi_c.specs.declared.answers.Refusal.{Refusal}
use Rattle.omi_c.specs.declared.answers.Object.{Object}
use Rattle.omi_c.specs.declared.answers.Found.{Found}
use Rattle.omi_c.specs.declared.answers.Number.{Number}
use Rattle.omi_c.specs.declared.answers.State.{State}
use Rattle.omi_c.specs.declared.answers.TaskFrames.{TaskFrames}
use Rattle.omi_c.specs.declared.answers.Text.{Text}
use Rattle.omi_c.specs.declared.answers.TheConstants.{OK, NEEDS_WORD}
use Rattle.omi_c.specs.declared.causes.Cause.{Cause}
use Rattle.omi_c.specs.declared.causes.Cause.TheVariants.{NoLayout, Needs, Says}
use Rattle.omi_c.specs.Replies.{Reply}

-- the place that a return code names
abbrev pub place_named : Rc → ℕ
place_named (Error addr field) = addr
place_named rc = 0

abbrev pub refusal_of : Cause → Refusal
refusal_of (NoLayout refusal) = refusal
refusal_of (Needs addr) = record { code = NEEDS_WORD; place = addr }
refusal_of (Says rc) = record { code = code_of rc; place = place_named rc }

abbrev pub no_object : Object
no_object = record { addr = 0; life = 0 }

abbrev pub found_by : Refusal → Found
found_by r = record { code = r.code; place = r.place; object = no_object }

abbrev pub found_of : Reply Held → Found
found_of (Ok h) = record { code = OK; place = 0; object = record { addr = h.addr; life = h.life } }
found_of (Err cause) = found_by (refusal_of cause)

-- the first number of a value that has several
abbrev pub first_said : Rc → ℕ
first_said (Incomplete first) = first
first_said rc = 0

abbrev pub first_of : Cause → ℕ
first_of (Says rc) = first_said rc
first_of cause = 0

abbrev pub number_by : Refusal → ℕ → Number
number_by r first = record { code = r.code; place = r.place; number = first }

abbrev pub number_of : Reply ℕ → Number
number_of (Ok n) = record { code = OK; place = 0; number = n }
number_of (Err cause) = number_by (refusal_of cause) (first_of cause)

abbrev pub state_by : Refusal → State
state_by r = record { code = r.code; place = r.place; state = 0; wait = 0 }

abbrev pub state_of : Reply (ℕ × ℕ) → State
state_of (Ok s) = record { code = OK; place = 0; state = s.0; wait = s.1 }
state_of (Err cause) = state_by (refusal_of cause)

abbrev pub frames_by : Refusal → TaskFrames
frames_by r = record {
  code = r.code;
  place = r.place;
  exit = 0;
  enter = 0;
  exit_flag = 0;
  enter_flag = 0;
}

abbrev pub frames_of : Reply Frames → TaskFrames
frames_of (Ok f) = record {
  code = OK;
  place = 0;
  exit = f.exit;
  enter = f.enter;
  exit_flag = f.exit_flag;
  enter_flag = f.enter_flag;
}
frames_of (Err cause) = frames_by (refusal_of cause)

abbrev pub text_by : Refusal → Text
text_by r = record { code = r.code; place = r.place; length = 0 }

abbrev pub text_of : Reply (List ℕ) → Text
text_of (Ok bytes) = record { code = OK; place = 0; length = length bytes }
text_of (Err cause) = text_by (refusal_of cause)

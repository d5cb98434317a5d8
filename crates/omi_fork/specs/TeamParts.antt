-- What a `parallel` construct in the making asks for, and what it makes of what it has gathered.
use Rattle.std.specs.Prelude.{ℕ, ◌==◌, ◌+◌, ◌%◌, nat_le, nat_lt, true, false, length, slice_index, Option, Some, None, if◌then◌else◌}
use Rattle.std.specs.Option.{unwrap_or}
use Rattle.omi_script.specs.declared.program.Program.{Program}
use Rattle.omi_script.specs.declared.statement.Stmt.{Stmt}
use Rattle.omi_script.specs.declared.statement.Stmt.TheVariants as stmt
use Rattle.omi_model.specs.declared.id.Rid.{Rid}
use Rattle.omi_numbers.specs.Addresses.{exit_frame}
use Rattle.omi_pc.specs.declared.actor.Actor.{Actor}
use Rattle.omi_pc.specs.declared.context.Context.{Context}
use Rattle.omi_pc.specs.Frames.{statement_of}
use Rattle.omi_step_words.specs.declared.plan.NewRegion.{NewRegion}
use Rattle.omi_step_words.specs.declared.plan.NewTask.{NewTask}
use Rattle.omi_step_words.specs.Members.{member_of}
use Rattle.omi_step_words.specs.Plan.{inherited_words}
use Rattle.omi_step_words.specs.Words.{plus}

-- ---- the statement

-- the function of a `parallel` construct, and the size that its clause asks for
abbrev pub parallel_function : Option Stmt → ℕ
parallel_function (Some (stmt.Parallel f num)) = f
parallel_function _ = 0

abbrev pub requested_in : Option Stmt → Option ℕ
requested_in (Some (stmt.Parallel f num)) = num
requested_in _ = None

-- those of the construct in work
abbrev pub region_function : Program → Actor → ℕ
region_function p a = parallel_function (statement_of p a.stack)

abbrev pub requested : Program → Actor → Option ℕ
requested p a = requested_in (statement_of p a.stack)

-- ---- the size

-- the first element of nthreads-var
abbrev pub first_nthreads : Actor → ℕ
first_nthreads a = slice_index a.gathered.variables 4 % 256

-- the size of the team that is wanted, where `most` is max-active-levels-var: one where so many levels are active, else what
-- the clause asks for, and else the first element of nthreads-var
abbrev pub size_to_want : Program → Actor → ℕ → ℕ
size_to_want p a most =
    if nat_le most a.gathered.active then 1 else unwrap_or (requested p a) (first_nthreads a)

-- the threads that were got, with this one
abbrev pub team_size : Actor → ℕ
team_size a = length a.gathered.team

-- ---- records

-- the region of a team, one level below the current one. The level is active where the team has more than one thread
abbrev pub planned_region : Program → Actor → NewRegion
planned_region p a =
    record {
      enclosing = a.context.region;
      encountering = a.context.task;
      function = region_function p a;
      size = team_size a;
      levels = plus a.gathered.levels 1;
      active = plus a.gathered.active (if nat_lt 1 (team_size a) then 1 else 0);
    }

-- member 0 runs on top of the encountering task, and the others first on their threads
abbrev pub member_depth : Actor → ℕ → ℕ
member_depth a number = if number == 0 then a.context.depth + 1 else 1

-- the implicit task of a member. That of member 0 is scheduled from the encountering task, and the others from none
abbrev pub new_member : Program → Actor → Rid → ℕ → NewTask
new_member p a r number =
    let thread = (member_of a.gathered.team number).1 in
    record {
      implicit = true;
      region = r;
      thread = thread;
      number = number;
      generating = a.context.task;
      scheduling = if number == 0 then Some a.context.task else None;
      function = region_function p a;
      exit = exit_frame thread (member_depth a number);
      is_final = false;
      references = 0;
      group = 0;
      variables = inherited_words a.gathered.variables;
    }

-- the context of member 0
abbrev pub master_context : Actor → Rid → Context
master_context a r =
    let task = (member_of a.gathered.team 0).0 in
    record {
      task = task;
      region = r;
      row = task;
      number = 0;
      size = team_size a;
      arrivals = 0;
      open_groups = 0;
      implicit = true;
      is_final = false;
      depth = a.context.depth + 1;
    }

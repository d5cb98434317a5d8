-- What is seen of a team gives its fields back.
use Rattle.std.proofs.Common.{◌≡◌, take, length}
use Rattle.omi_model.specs.Columns.{members, AreColumns, no_task, padded, tasks_of, threads_of}
use Rattle.omi_model.specs.ColumnLemmas.{length-view, tasks_column, threads_column}
use Rattle.omi_model.specs.declared.team.Team.TheInside.{Inside}

pub team_back : (a : Inside) → AreColumns a.len a.tasks a.threads
    → (let ms = take a.len (members a.tasks a.threads) in
    ◌≡◌ {A = Inside} (record {
      len = length ms;
      tasks = padded no_task (tasks_of ms);
      threads = padded 0 (threads_of ms);
    }) a)
team_back a ok = λ i. record {
  len = length-view a.len a.tasks a.threads ok i;
  tasks = tasks_column a.len a.tasks a.threads ok i;
  threads = threads_column a.len a.tasks a.threads ok i;
}

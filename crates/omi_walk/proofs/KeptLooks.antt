-- What a walk answers that keeps a handle of each task: the tasks of the report, or its refusal.
use Rattle.std.proofs.Common.{◌≡◌, ℕ, List, [], ◌∷◌, map, sym, ap, subst, ◌∙◌}
use Rattle.std.specs.Prelude.{All, Result, Ok, Err, IfOk, IfErr, IsErrAnd}
use Rattle.std.proofs.lemmas.List.Elements.{All-nil, All-cons, All-head, All-tail, All-map}
use Rattle.std.proofs.lemmas.Result.{IfOk-weaker, err_from_is_err_and}
use Rattle.omi_calls.specs.Kept.{Kept}
use Rattle.omi_calls.specs.Asked.{Asked}
use Rattle.omi_calls.specs.Told.{Told}
use Rattle.omi_handle.specs.declared.handle.TaskHandle.{TaskHandle}
use Rattle.omi_model.specs.declared.id.Tid.{Tid}
use Rattle.omi_model.specs.declared.view.TaskRow.{TaskRow}
use Rattle.omi_model.specs.declared.view.View.{View}
use Rattle.omi_rep.specs.Look.{and_then}
use Rattle.omi_rep.specs.LookView.{look_view}
use Rattle.omi_session.specs.Opened.{Opened, Stays}
use Rattle.omi_walk.specs.declared.fault.WalkFault.{WalkFault}
use Rattle.omi_walk.specs.declared.fault.WalkFault.TheVariants.{OutOfMemory}
use Rattle.omi_walk.specs.AskView.{ask_view}
use Rattle.omi_walk.specs.Asking.{Asks}
use Rattle.omi_walk.specs.Gives.{Looks}
use Rattle.omi_walk.specs.Kept.{IsLive, task_names, names_kept, look_names, ask_names}
use Rattle.omi_walk.specs.Walks.{RanInRoom, Walks}
use Rattle.omi_walk.proofs.Goes.{walks_ok, walks_err, walks_unsaid}
use Rattle.omi_walk.proofs.LiveTasks.{rows_after}
use Rattle.omi_walk.proofs.Steps.{look_stops, look_unsaid}

abbrev Answer : Type 0
Answer = Result (List (Tid × TaskHandle)) WalkFault

-- these are the tasks that were kept
abbrev pub AreKept : List TaskRow → List (Tid × TaskHandle) → Type 0
AreKept rows kept = map (λ k. k.0) kept ≡ map (λ row. row.task) rows

-- what holds of the tasks holds of those that were kept
each_kept : (P : Tid → Type 0) (kept : List (Tid × TaskHandle)) → All P (map (λ k. k.0) kept)
    → All (λ k. P k.0) kept
each_kept P [] all = All-nil _
each_kept P (k ∷ kept) all =
    All-cons (λ (k : Tid × TaskHandle). P k.0) k kept (All-head P k.0 (map (λ k. k.0) kept) all)
    (each_kept P kept (All-tail P k.0 (map (λ k. k.0) kept) all))

module _ {C F : Type 0} (told : C → Told) (asked : C → Asked) (s t new : Opened C F) (contexts : List ℕ) where
  -- all were kept, or memory ran out
  pub looks_kept : (v : View) (r : Answer) → IfOk r (AreKept v.tasks) → IfErr r (λ fault. fault ≡ OutOfMemory)
      → Looks told s (Ok v) (λ w memory. look_view w memory contexts)
      → Looks told s (names_kept r) (λ w memory. look_names w memory contexts)
  unfolding Looks and_then
  looks_kept v (Ok kept) names full looks = λ memory tells.
      ap (λ look. and_then look (λ v. Ok (task_names v))) (looks memory tells) ∙ ap Ok (sym names)
  looks_kept v (Err fault) names full looks =
      subst (λ fault. Looks told s (Err fault) (λ w memory. look_names w memory contexts)) (sym full)
      (look_unsaid told s (λ w memory. look_names w memory contexts))

  -- or the report was refused
  pub looks_refused : (fault : WalkFault) (r : Answer) → IsErrAnd r (λ why. why ≡ fault)
      → Looks {A = View} told s (Err fault) (λ w memory. look_view w memory contexts)
      → Looks told s (names_kept r) (λ w memory. look_names w memory contexts)
  looks_refused fault r is looks =
      let p = err_from_is_err_and r is in
      subst (λ r. Looks told s (names_kept r) (λ w memory. look_names w memory contexts)) (sym (p.1 ∙ ap Err p.2))
      (look_stops told s fault (λ w memory. look_view w memory contexts) (λ w memory v. Ok (task_names v)) looks)

  -- no word was asked for after the report
  asked_then : {A : Type 0} (r : Result A WalkFault) (reads : Asks A) → new.table ≡ t.table
      → Walks told asked s t r reads
      → Walks told asked s new r reads
  asked_then r reads table walks = record {
    ran = λ memory tells.
        subst (λ (k : Kept C F). RanInRoom (told s.table.calls) memory reads (asked s.table.calls) (asked k.calls) r) (sym table)
        (walks.ran memory tells);
  }

  pub walks_kept : (v : View) (r : Answer) → IfOk r (AreKept v.tasks) → IfErr r (λ fault. fault ≡ OutOfMemory)
      → new.table ≡ t.table → Walks told asked s t (Ok v) (ask_view s.layout contexts)
      → Walks told asked s new (names_kept r) (ask_names s.layout contexts)
  walks_kept v (Ok kept) names full table walks =
      asked_then (Ok (map (λ k. k.0) kept)) (ask_names s.layout contexts) table
      (walks_ok told asked s t task_names v (map (λ k. k.0) kept) (ask_view s.layout contexts) names walks)
  walks_kept v (Err fault) names full table walks =
      asked_then (Err fault) (ask_names s.layout contexts) table
      (walks_unsaid told asked s t task_names (Ok v) (Err fault) (ask_view s.layout contexts) (λ e. (cc)) walks full)

  pub walks_refused : (fault : WalkFault) (r : Answer) → IsErrAnd r (λ why. why ≡ fault)
      → Walks {A = View} told asked s t (Err fault) (ask_view s.layout contexts)
      → Walks told asked s t (names_kept r) (ask_names s.layout contexts)
  walks_refused fault r is walks =
      let p = err_from_is_err_and r is in
      subst (λ r. Walks told asked s t (names_kept r) (ask_names s.layout contexts)) (sym (p.1 ∙ ap Err p.2))
      (walks_err told asked s t task_names fault (ask_view s.layout contexts) walks)

  -- the tasks that were kept live
  pub lives_kept : (rows : List TaskRow) (r : Answer) → IfOk r (AreKept rows)
      → All (λ row. IsLive told t row.task) rows
      → Stays told t new
      → IfOk r (λ kept. All (λ k. IsLive told new k.0) kept)
  lives_kept rows r names live stays =
      IfOk-weaker r (AreKept rows) (λ kept. All (λ k. IsLive told new k.0) kept)
      (λ kept is. each_kept (IsLive told new) kept
      (subst (All (IsLive told new)) (sym is)
      (All-map (IsLive told new) (λ (row : TaskRow). row.task) rows (rows_after told t new stays rows live))))
      names

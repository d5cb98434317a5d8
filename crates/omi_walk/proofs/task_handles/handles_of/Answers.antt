use Rattle.std.proofs.Common.{◌∷◌, ◌++◌, [], List, map, take, sym, ap, subst, ◌∙◌, arith}
use Rattle.std.proofs.lemmas.List.{map-append, map_more}
use Rattle.omi_handle.specs.declared.handle.TaskHandle.{TaskHandle}
use Rattle.omi_model.specs.declared.id.Tid.{Tid}
use Rattle.omi_model.specs.declared.view.TaskRow.{TaskRow}
use Rattle.omi_session.specs.Made.{AddsHandle, task_pair}
use Rattle.omi_walk.specs.Kept.{task_object}
use Rattle.omi_walk.proofs.HandlesMade.{AreMade, made_next}
use Rattle.omi_walk.proofs.Steps.{stays_then}
use Rattle.omi_walk.proofs.task_handles.handles_of.Goals as goal

pub loop-row-preserved : goal.loop-row-preserved
loop-row-preserved g c =
    let now = c.loop-row.invariant in
    let s = c.reserve.new.self in
    let mid = c.loop-row.s in
    let new = c.handle_of-handle.new.s in
    let rows = c.as_slice-row-items.result.now in
    let task : Tid = c.row-item.result.task in
    let kept : Tid × TaskHandle = (task, c.handle_of-handle.result) in
    record {
      made =
          subst (AreMade s.layout s.handles new.handles) (sym c.push_reserved.ensures.items)
          (made_next s.layout s.handles mid.handles new.handles c.loop-row.kept.items kept now.made
          (subst
          (λ w. AddsHandle mid.handles new.handles (task_pair c.handle_of-handle.result) (task_object w task))
          now.stays.layout c.handle_of-handle.ensures.adds));
      names =
          ap (map (λ (k : Tid × TaskHandle). k.0)) c.push_reserved.ensures.items
          ∙ map-append (λ (k : Tid × TaskHandle). k.0) c.loop-row.kept.items (kept ∷ [])
          ∙ ap (λ (tasks : List Tid). tasks ++ task ∷ []) now.names
          ∙ ap
          (λ (row : TaskRow). map (λ (row : TaskRow). row.task) (take c.loop-row.row-index rows) ++ row.task ∷ [])
          c.row-item.is
          ∙ sym (map_more (λ (row : TaskRow). row.task) rows c.loop-row.row-index c.row-item.result c.loop-row-test.true);
      len = omega (arith, now.len, c.push_reserved.ensures.len);
      room = omega (arith, now.room, c.handle_of-handle.ensures.room);
      capacity = c.push_reserved.ensures.capacity ∙ now.capacity;
      stays = stays_then g.C.Callbacks.told s mid new now.stays c.handle_of-handle.ensures.stays;
      table = c.handle_of-handle.ensures.table ∙ now.table;
    }

use Rattle.std.proofs.Common.{◌≡◌, ◌+◌, ℕ, List, [], ◌∷◌, length, slice_get, Some, sym, ap, ◌∙◌, subst, arith, ⊎_elim}
use Rattle.std.proofs.lemmas.List.{length-append, length-replicate}
use Rattle.omi_seat.proofs.Lists.{get_more}
use Rattle.omi_park.specs.declared.inspector.Room.{Room}
use Rattle.omi_park.specs.Inspecting.{IsRoom}
use Rattle.omi_park.proofs.inspector.rooms_for.Goals as goal

pub loop-stop-preserved : goal.loop-stop-preserved
loop-stop-preserved c =
    let none : ℕ = 0 in
    let now = c.loop-stop.invariant in
    let one : Room = record { image = c.in_ok-image.image; steps = c.in_ok-steps.steps } in
    let count : length c.loop-stop.rooms.items ≡ c.loop-stop._stop = sym c.loop-stop.rooms.ok.0 ∙ now.count in
    let capacity = c.in_ok-steps.ensures.capacity in
    let from = c.from.ensures in
    record {
      count =
          c.push.new.self.ok.0
          ∙ ap (λ (rs : List Room). length rs) c.in_ok-push.ensures.items
          ∙ length-append c.loop-stop.rooms.items (one ∷ [])
          ∙ ap (λ n. n + 1) count;
      each = λ k place got. ⊎_elim (now.each k place)
          (λ last. subst (IsRoom c.args.threads c.args.words) last.1
          record {
            image = ap (λ (ws : List ℕ). length ws) c.in_ok-image.ensures ∙ length-replicate c.args.words none;
            empty = c.in_ok-steps.ensures.items;
            room = omega (arith, capacity, from);
          })
          (get_more c.loop-stop.rooms.items one place k (subst (λ (rs : List Room). slice_get rs k ≡ Some place) c.in_ok-push.ensures.items got));
    }

-- Rows stand for the same events when members are put behind those that are there.
use Rattle.std.proofs.Common.{◌≡◌, ℕ, zero, suc, ◌+◌, ◌≤◌, List, [], ◌∷◌, ◌++◌, length, map, take, drop, refl, ap, ap₂, ◌∙◌, arith}
use Rattle.std.specs.List.{All}
use Rattle.std.proofs.Math.Seq.{drop-append_seam, take-length}
use Rattle.std.proofs.lemmas.List.{take-append-le, drop-append-le, length-drop, map-append}
use Rattle.std.proofs.lemmas.List.Elements.{All-append, All-cons, All-nil}
use Rattle.omi_model.specs.declared.id.Tid.{Tid}
use Rattle.omi_model.specs.declared.event.Event.{Event}
use Rattle.omi_run_lists.specs.declared.compact.CompactEvent.{CompactEvent}
use Rattle.omi_run_lists.specs.declared.compact.CompactEvent.TheVariants as compact
use Rattle.omi_run_lists.specs.declared.row.EventRow.{EventRow}
use Rattle.omi_run_lists.specs.Compact.{with_team}
use Rattle.omi_run_lists.specs.Events.{team_in}
use Rattle.omi_run_lists.specs.Rows.{team_at, item_in, IsSeated}

-- a team that is put behind members stands there
pub team_behind : (ms : List (Tid × ℕ)) (team : List (Tid × ℕ)) (e : CompactEvent)
    → with_team (team_at (ms ++ team_in (with_team team e)) (length ms) (length (team_in (with_team team e)))) e ≡ with_team team e
team_behind ms team e =
    let own = team_in (with_team team e) in
    ap (λ (members : List (Tid × ℕ)). with_team members e)
    (ap (take (length own)) (drop-append_seam ms own) ∙ take-length own)
    ∙ own_team team e
  where
    own_team : (t : List (Tid × ℕ)) (f : CompactEvent) → with_team (team_in (with_team t f)) f ≡ with_team t f
    own_team t (compact.Fork region) = refl
    own_team t _ = refl

module _ (ms more : List (Tid × ℕ)) where
  team_at-append : (first size : ℕ) → first + size ≤ length ms
      → team_at (ms ++ more) first size ≡ team_at ms first size
  team_at-append first size within =
      let below : first ≤ length ms = omega arith in
      ap (take size) (drop-append-le first ms more below)
      ∙ take-append-le size (drop first ms) more (omega (arith, length-drop first ms))

  item_in-append : (row : EventRow) → IsSeated (length ms) row → item_in (ms ++ more) row ≡ item_in ms row
  item_in-append row seated =
      ap (λ (team : List (Tid × ℕ)). (row.step, row.thread, with_team team row.event))
      (team_at-append row.first row.size seated.within)

  items_stay : (rows : List EventRow) → All (IsSeated (length ms)) rows
      → map (item_in (ms ++ more)) rows ≡ map (item_in ms) rows
  items_stay [] seated = refl
  items_stay (row ∷ rows) seated =
      ap₂ (λ x xs. x ∷ xs)
      (item_in-append row (seated zero row (omega arith)))
      (items_stay rows (λ k default within. seated (suc k) default (omega arith)))

  -- a row more, whose team is put behind the members
  pub item_added : (rows : List EventRow) (row : EventRow) (item : ℕ × ℕ × Event)
      → All (IsSeated (length ms)) rows
      → item_in (ms ++ more) row ≡ item
      → map (item_in (ms ++ more)) (rows ++ row ∷ []) ≡ map (item_in ms) rows ++ item ∷ []
  item_added rows row item seated stands =
      map-append (item_in (ms ++ more)) rows (row ∷ [])
      ∙ ap₂ (λ xs x. xs ++ x ∷ []) (items_stay rows seated) stands

-- rows that are seated among fewer members, and one row more
pub seated_more : (n m : ℕ) (rows : List EventRow) (row : EventRow) → n ≤ m
    → All (IsSeated n) rows → IsSeated m row → All (IsSeated m) (rows ++ row ∷ [])
seated_more n m rows row le seated new =
    All-append (IsSeated m) rows (row ∷ [])
    (λ k default within. let old = seated k default within in record {
      limit = old.limit;
      within = omega (arith, le, old.within);
    })
    (All-cons (IsSeated m) row [] new (All-nil (IsSeated m)))

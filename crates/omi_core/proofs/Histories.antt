-- A run that keeps the rule has a history.
use Rattle.std.proofs.Common.{◌≡◌, ◌<◌, ℕ, Some, refl, sym, ap, ◌∙◌, subst, arith}
use Rattle.omi_model.specs.declared.id.Rid.{Rid}
use Rattle.omi_model.specs.Visible.{IsVisibleRegion}
use Rattle.omi_layout.specs.declared.field.Field.{Field}
use Rattle.omi_layout.specs.declared.field.Field.TheVariants.{RegionArrived, RegionReleased}
use Rattle.omi_layout.specs.Field.{kind_of, regions}
use Rattle.omi_layout.specs.Memory.{memory_of, word_address}
use Rattle.omi_layout.specs.Named.{number}
use Rattle.omi_layout.specs.Place.{IsSlot}
use Rattle.omi_word.specs.Words.{words_of}
use Rattle.omi_layout.specs.Table.{width}
use Rattle.omi_layout.proofs.Numbers.{numbered_field}
use Rattle.omi_layout.proofs.Stored.{mapped}
use Rattle.omi_rep.specs.Records.{records_of}
use Rattle.omi_rep.specs.Shows.{Stands}
use Rattle.omi_rep.proofs.Codes as codes
use Rattle.omi_rule.proofs.KeptObjects.{region_kept, region_there}
use Rattle.omi_core.specs.Histories.{Counts, HasHistory}
use Rattle.omi_core.specs.Kept.{KeepsRun}
use Rattle.omi_core.specs.Runs.{Run, actors_in, events_in}
use Rattle.omi_core.proofs.Stepping.{shows_state}

module _ (a : Run) (k : KeepsRun a) where
  wide : (f : ℕ) → 0 < width a.table f
  wide f = codes.wide a.table k.valid f

  -- the first word of a field of a region's record stands in the words
  stands : (n : Rid) (seen : IsVisibleRegion k.state n) (f : Field) (x : ℕ) → kind_of (number f) ≡ regions
      → memory_of a.table a.words n.0.creator (kind_of (number f)) n.0.slot (number f) 0 ≡ x
      → Stands (records_of a.table (words_of a.words) n.0.creator (kind_of (number f)) n.0.slot) f 0 x
  unfolding word_address
  stands n seen f x kind is =
      let there =
      region_there a.program a.table (memory_of a.table a.words) (events_in a.events.items) k.state
      (actors_in a.actors) k.rule n seen.region seen.live in
      let count = k.count in
      mapped a.table k.valid a.words n.0.creator n.0.slot (number f) 0 (omega (arith, count))
      (record { field = numbered_field f; record_slot = subst (λ q. IsSlot a.table q n.0.creator n.0.slot) (sym kind) there; within = wide (number f) })
      ∙ ap Some is

  -- the words count the arrivals and releases of the state
  pub counted : Counts a.table a.words k.state
  counted n seen =
      let kept =
      region_kept a.program a.table (memory_of a.table a.words) (events_in a.events.items) k.state
      (actors_in a.actors) k.rule n seen.region seen.live in
      (stands n seen RegionArrived _ refl (kept.codes RegionArrived 0 _ refl), stands n seen RegionReleased _ refl (kept.codes RegionReleased 0 _ refl))

  pub history : HasHistory a
  history =
      (k.entries, k.state, record { made_by = k.made_by; follow = λ i. (k.behind i).follow; tables = k.tables; reached = k.rule.reached; shows = shows_state a k k.state k.rule.reached; counts = counted })

-- The look at the regions of a thread in parts: its current task, the region of this task, and those which enclose it.
use Rattle.std.proofs.Common.{◌≡◌, ℕ, List, [], Option, Some, refl, sym, ap, subst, ◌∙◌}
use Rattle.std.specs.Prelude.{Result, Ok, Err}
use Rattle.omi_word.specs.Words.{Words}
use Rattle.omi_calls.specs.Told.{Told}
use Rattle.omi_layout.specs.declared.field.Field.TheVariants.{TaskRegion}
use Rattle.omi_layout.specs.Field.{regions, tasks}
use Rattle.omi_layout.specs.Table.{records}
use Rattle.omi_model.specs.declared.id.Id.{Id}
use Rattle.omi_rep.specs.Look.{Look, and_then, mapped, optional, id_address, look_object}
use Rattle.omi_rep.specs.LookView.{look_current, look_enclosing, look_regions}
use Rattle.omi_session.specs.Opened.{Opened}
use Rattle.omi_walk.specs.declared.fault.WalkFault.{WalkFault}
use Rattle.omi_walk.specs.Gives.{Gives, Looks}

module _ (w : List ℕ) (memory : Words) where
  -- the region of a task
  abbrev pub region_at : Id → Look Id
  region_at k = look_object w memory regions (id_address w tasks k) TaskRegion 0

  -- a region, and those which enclose it
  abbrev pub regions_at : Id → Look (List Id)
  regions_at r = look_enclosing w memory (records w regions) [] (Some r)

  -- the regions of a thread by its current task
  unfoldable pub regions_by : Look (Option Id) → Look (List Id)
  regions_by l =
      and_then (and_then l (λ current. optional region_at current))
      (λ innermost. look_enclosing w memory (records w regions) [] innermost)

  pub by_task : (k : Id) → regions_by (Ok (Some k)) ≡ and_then (region_at k) regions_at
  unfolding and_then regions_by
  by_task k = go (region_at k)
    where
      go : (l : Look Id)
          → and_then (mapped (λ y. Some y) l) (λ innermost. look_enclosing w memory (records w regions) [] innermost) ≡ and_then l regions_at
      go (Ok r) = refl
      go (Err fault) = refl

module _ {C F : Type 0} (told : C → Told) (s : Opened C F) (thread : ℕ) where
  -- those of a thread with one are the region of this task, and those which enclose it
  pub regions_from : (k : Id) (r : Result (List Id) WalkFault)
      → Looks told s (Ok (Some k)) (λ w memory. look_current w memory thread)
      → Looks told s r (λ w memory. and_then (region_at w memory k) (regions_at w memory)) → Looks told s r (λ w memory. look_regions w memory thread)
  unfolding Looks and_then regions_by
  regions_from k r current given = λ memory tells.
      subst (Gives r)
      (sym (ap (regions_by s.layout memory) (current memory tells) ∙ by_task s.layout memory k))
      (given memory tells)

-- How regions and tasks are named: a letter, then creator, slot and generation.
use Rattle.std.specs.Prelude.{ℕ, List, ◌∷◌, ◌++◌}
use Rattle.std.specs.Fmt.{decimal}
use Rattle.omi_model.specs.declared.id.Id.{Id}
use Rattle.omi_model.specs.declared.id.Rid.{Rid}
use Rattle.omi_model.specs.declared.id.Tid.{Tid}

-- creator, slot and generation, with dots between them
unfoldable pub id_text : Id → List ℕ
id_text id = decimal id.creator ++ (46 ∷ (decimal id.slot ++ (46 ∷ decimal id.generation)))

-- a region: `r` and its id
unfoldable pub region_id : Rid → List ℕ
region_id r = 114 ∷ id_text r.0

-- a task: `k` and its id
unfoldable pub task_id : Tid → List ℕ
task_id k = 107 ∷ id_text k.0

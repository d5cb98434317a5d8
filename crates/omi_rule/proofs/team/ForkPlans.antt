-- The records that were filled for a fork are those of the region and of the members' tasks that it makes.
use Rattle.std.proofs.Common.{◌≡◌, ◌+◌, ◌^◌, ◌==◌, ◌<◌, ◌≤◌, nat_lt, ℕ, zero, suc, Bool, true, false, List, [], ◌∷◌, length, slice_get, Some, None, refl, sym, subst, ap, ◌∙◌, arith, eqb-true, if◌then◌else◌}
use Rattle.std.proofs.lemmas.Option.{slice_get_within}
use Rattle.omi_script.specs.declared.program.Program.{Program}
use Rattle.omi_model.specs.declared.id.Rid.{Rid}
use Rattle.omi_model.specs.declared.id.Tid.{Tid}
use Rattle.omi_model.specs.declared.region.Region.{Region}
use Rattle.omi_model.specs.declared.task.Task.{Task}
use Rattle.omi_numbers.specs.Addresses.{exit_frame, entry_address, exit_below}
use Rattle.omi_model.specs.Teams.{inherited, member_task, new_region}
use Rattle.omi_numbers.specs.declared.limits.TheConstants.{OWN_SLOTS}
use Rattle.omi_layout.specs.declared.field.Field.TheVariants.{RegionActive, RegionArrived, RegionEnclosing, RegionEncountering, RegionFunction, RegionLevels, RegionReleased, RegionSize, RegionTeam, TaskChildren, TaskReferences, TaskSlots}
use Rattle.omi_layout.specs.Memory.{Rec}
use Rattle.omi_layout.specs.Named.{number}
use Rattle.omi_pc.specs.declared.actor.Actor.{Actor}
use Rattle.omi_pc.specs.declared.limits.TheConstants.{REGION_WORDS, TASK_WORDS}
use Rattle.omi_rep.specs.Codes.{HasCodes, TaskWords, region_code, region_told, task_code, task_told}
use Rattle.omi_rep.proofs.Codes.{member_of_code, same_word}
use Rattle.omi_rule_words.proofs.Forks.{no_arrivals}
use Rattle.omi_rep.specs.Records.{region_address, task_address}
use Rattle.omi_rule_words.specs.Threads.{Has}
use Rattle.omi_rule_words.specs.TeamKinds.{MemberIsFilled, RegionIsFilled}
use Rattle.omi_step_words.specs.Members.{member_of}
use Rattle.omi_step_words.specs.Plan.{inherited_words, planned_task, region_plan, task_plan}
use Rattle.omi_step_words.specs.Words.{plus}
use Rattle.omi_fork.specs.TeamParts as TeamParts
use Rattle.omi_fork.specs.TeamParts.{new_member}
use Rattle.omi_rule.specs.Rows.{IsFilled}
use Rattle.omi_rule.proofs.team.Inherits.{AreVariables, shortened_few}
use Rattle.omi_rule.proofs.task.FilledTasks.{counts_stand, planned_codes, planned_stands}

-- the member at a place
pub member_is : (xs : List (Tid × ℕ)) (j : ℕ) (y : Tid × ℕ) → slice_get xs j ≡ Some y → member_of xs j ≡ y
member_is [] j y e = absurd (cc e)
member_is (x ∷ xs) zero y e = cc e
member_is (x ∷ xs) (suc j) y e = member_is xs j y e

-- the thread of an encountering task, in its current region, with what it gathered
module _ (p : Program) (w : List ℕ) (a : Actor) (n : Rid) (f : ℕ) (t : Task) (r : Region)
    (function : TeamParts.region_function p a ≡ f) (region_is : t.region ≡ a.context.region) where
  pub region_filled : (q : Rec) → r.levels ≡ a.gathered.levels → r.active ≡ a.gathered.active
      → r.levels < 2 ^ 63 → r.active < 2 ^ 63
      →
      ((j : ℕ) → j < length a.gathered.team → q (number RegionTeam) j ≡ task_address w (member_of a.gathered.team j).0)
      → IsFilled q (region_plan w (TeamParts.planned_region p a)) REGION_WORDS → RegionIsFilled w q (new_region a.context.task t r a.gathered.team f)
  region_filled q levels active low few team o = record { codes = codes; pending = o 8 (omega arith); left = o 9 (omega arith) }
    where
      small : (k by : ℕ) → k < 2 ^ 63 → by ≤ 1 → plus k by ≡ k + by
      small k by less step = omega (arith, less, step)

      one : (b : Bool) → (if b then 1 else 0) ≤ 1
      one true = omega arith
      one false = omega arith

      codes : HasCodes (region_code w (region_told (new_region a.context.task t r a.gathered.team f))) q
      codes RegionFunction zero x told = o 0 (omega arith) ∙ ap entry_address function ∙ same_word _ _ told
      codes RegionEnclosing zero x told =
          o 1 (omega arith) ∙ ap (region_address w) (sym region_is) ∙ same_word _ _ told
      codes RegionEncountering zero x told = o 2 (omega arith) ∙ same_word _ _ told
      codes RegionSize zero x told = o 3 (omega arith) ∙ same_word _ _ told
      codes RegionLevels zero x told =
          o 4 (omega arith)
          ∙ ap (λ k. plus k 1) (sym levels)
          ∙ small r.levels 1 low (omega arith)
          ∙ same_word _ _ told
      codes RegionActive zero x told =
          o 5 (omega arith)
          ∙ ap (λ k. plus k (if nat_lt 1 (length a.gathered.team) then 1 else 0)) (sym active)
          ∙ small r.active _ few (one (nat_lt 1 (length a.gathered.team)))
          ∙ same_word _ _ told
      codes RegionReleased zero x told = o 6 (omega arith) ∙ same_word _ _ told
      codes RegionArrived zero x told =
          o 7 (omega arith) ∙ sym (no_arrivals (length a.gathered.team)) ∙ same_word _ _ told
      codes RegionTeam j x told =
          let m = member_of_code w (region_told (new_region a.context.task t r a.gathered.team f)) j x told in
          team j (slice_get_within a.gathered.team j m.member m.is)
          ∙ ap (λ (y : Tid × ℕ). task_address w y.0) (member_is a.gathered.team j m.member m.is)
          ∙ m.code
      codes g at x told = absurd (cc)

  pub member_filled : (q : Rec) (j : ℕ) (m : Tid × ℕ) → member_of a.gathered.team j ≡ m
      → (j ≡ 0 → t.exit ≡ exit_frame m.1 a.context.depth)
      → AreVariables (inherited_words a.gathered.variables) (inherited t.variables)
      → length t.variables.nthreads ≤ 4
      → IsFilled q (task_plan w (new_member p a n j)) TASK_WORDS → MemberIsFilled w q (member_task p n a.context.task t r f j m.1)
  member_filled q j m at first are few o = record {
    codes = subst (λ (x : TaskWords). HasCodes (task_code w x) q) same (planned_codes w (new_member p a n j) q o (inherited t.variables) None refl are (shortened_few t.variables.nthreads few));
    children = planned_stands w (new_member p a n j) q o TaskChildren 0 0 refl;
    references = planned_stands w (new_member p a n j) q o TaskReferences 0 0 refl;
    slots = slots;
    groups = counts_stand w (new_member p a n j) q o;
  }
    where
      slots : (place : ℕ) → place < OWN_SLOTS → Has q TaskSlots place 0
      slots zero within = planned_stands w (new_member p a n j) q o TaskSlots 0 0 refl
      slots (suc zero) within = planned_stands w (new_member p a n j) q o TaskSlots 1 0 refl
      slots (suc (suc zero)) within = planned_stands w (new_member p a n j) q o TaskSlots 2 0 refl
      slots (suc (suc (suc zero))) within = planned_stands w (new_member p a n j) q o TaskSlots 3 0 refl
      slots (suc (suc (suc (suc k)))) within = absurd (omega (arith, within))

      go : (b : Bool) → j == 0 ≡ b
          → exit_frame m.1 (if b then a.context.depth + 1 else 1) ≡ (if b then exit_below t.exit else exit_frame m.1 1)
      go true e = let is = first (eqb-true j 0 e) in omega (arith, is)
      go false e = refl

      frame : exit_frame (member_of a.gathered.team j).1 (TeamParts.member_depth a j)
          ≡ (if j == 0 then exit_below t.exit else exit_frame m.1 1)
      frame = ap (λ (y : Tid × ℕ). exit_frame y.1 (TeamParts.member_depth a j)) at ∙ go (j == 0) refl

      same : planned_task (new_member p a n j) (inherited t.variables) None
          ≡ task_told (member_task p n a.context.task t r f j m.1)
      same = λ i. record (planned_task (new_member p a n j) (inherited t.variables) None) {
        thread = (at i).1;
        function = function i;
        exit = frame i;
      }

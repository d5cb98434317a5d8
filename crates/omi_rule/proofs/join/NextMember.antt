-- A thread that gives a joined region back: the next member's task, and the region behind the last one, may be given back.
use Rattle.std.proofs.Common.{◌≡◌, ◌<◌, ℕ, List, length, get_or, Some, sym, subst, ◌∙◌}
use Rattle.std.specs.Prelude.{slice_get}
use Rattle.std.proofs.lemmas.Option.{slice_get-get_or}
use Rattle.omi_script.specs.declared.program.Program.{Program}
use Rattle.omi_model.specs.declared.event.Event.{Event}
use Rattle.omi_model.specs.declared.freeable.Freeable.TheVariants as freeable
use Rattle.omi_model.specs.declared.id.Rid.{Rid}
use Rattle.omi_model.specs.declared.id.Tid.{Tid}
use Rattle.omi_model.specs.declared.region.Region.{Region}
use Rattle.omi_model.specs.Columns.{no_task}
use Rattle.omi_model.specs.Freeing.{MayFreeMember}
use Rattle.omi_model.specs.LawFreeing.{MayGoOnFreeing}
use Rattle.omi_model.specs.State.{State, region_of}
use Rattle.omi_model.proofs.Slots.{some_same}
use Rattle.omi_model.proofs.freeing.FreeingLaws.{joined_freed}
use Rattle.omi_model.proofs.members.EncounterLaws.{encounters}
use Rattle.omi_layout.specs.Memory.{Memory}
use Rattle.omi_pc.specs.declared.actor.Actor.{Actor}
use Rattle.omi_pc.specs.declared.counter.Counter.{Counter}
use Rattle.omi_step_words.specs.Placed.{HasTask}
use Rattle.omi_rule.proofs.Assembly.{Before}
use Rattle.omi_rule.proofs.KeptObjects.{task_there}
use Rattle.omi_rule.proofs.OwnTask.{is_current}
use Rattle.omi_rule.proofs.barrier.AtCounter.{IsOfMember, here, own, stands}

module _ (p : Program) (w : List ℕ) (m : Memory) (events : List (ℕ × Event)) (s : State) (actors : ℕ → Actor)
    (i : ℕ) (before : Before p w m events s actors i) (x : Counter) (at : (actors i).counter ≡ x) (of_member : IsOfMember x)
    (r : Rid) (number : ℕ)
    (front : (here p w m events s actors i before x at of_member).task.frees ≡ Some (freeable.Joined r number)) where
  pub may_go_on : MayGoOnFreeing s i r number
  may_go_on =
      joined_freed p events s before.rule.reached i (actors i).context.task
      (here p w m events s actors i before x at of_member).task r number
      (is_current p s i (actors i) (stands p w m events s actors i before x at of_member)) front

  -- ---- the next member

  module _ (region : Region) (found : region_of s r ≡ Some region) (below : number < length region.team) where
    abbrev pub next : Tid × ℕ
    next = get_or region.team number (no_task, 0)

    pub next_there : slice_get region.team number ≡ Some next
    next_there = slice_get-get_or region.team number (no_task, 0) below

    pub may_free : MayFreeMember s next.0 r number
    may_free =
        may_go_on.member next
        (subst (λ (q : Region). slice_get q.team number ≡ Some next) (some_same found may_go_on.live) next_there)

    pub has_next : HasTask w next.0
    has_next = task_there p w m events s actors before.rule next.0 may_free.old may_free.spent.live

    -- this thread made it
    pub made_next : next.0.0.creator ≡ (actors i).thread
    made_next =
        ((encounters p events s before.rule.reached).named r region found).tasks number next next_there
        ∙ may_go_on.creator ∙ sym (own p w m events s actors i before x at of_member).thread

-- The function of the current task is that of the body with which it begins, and any task that may start in its wait has a smaller one.
use Rattle.std.proofs.Common.{◌≡◌, ◌<◌, inl, inr, ℕ, Bool, true, false, List, [], ◌∷◌, length, Some, refl, sym, ap, ◌∙◌, subst, arith, if◌then◌else◌}
use Rattle.omi_script.specs.declared.program.Program.{Program}
use Rattle.omi_model.specs.declared.task.Task.{Task}
use Rattle.omi_model.specs.State.{State, task_of}
use Rattle.omi_pc.specs.declared.context.Context.{Context}
use Rattle.omi_pc.specs.declared.frame.Frame.{Frame}
use Rattle.omi_pc.specs.declared.frame.Opened.{Opened}
use Rattle.omi_pc.specs.declared.frame.Opened.TheVariants as opened
use Rattle.omi_pc.specs.Moves.{context_under}
use Rattle.omi_pc.specs.OpenBodies.{AreOpen, StandsOn}
use Rattle.omi_pc.specs.Stacks.{opens_task, task_function}
use Rattle.omi_rule.specs.Chains.{RunsFunctions}

-- so the function of the innermost task of a stack is one of the program
pub record RunsTask (p : Program) (t : Task) (fs : List Frame) : Type 0 where
  pub function : task_function fs ≡ t.function
  pub known : task_function fs < length p.funcs

module _ (p : Program) (s : State) where
  abbrev Under : List Frame → Type 0
  Under fs =
      (c : Context) (t : Task) → AreOpen p c fs → RunsFunctions s c fs → 0 < length fs → task_of s c.task ≡ Some t → RunsTask p t fs

  -- below a body that a statement opened there is another one
  some_under : (c : Context) (f : ℕ) (o : Opened) (fs : List Frame) → opens_task o ≡ false
      → StandsOn p c f fs o → 0 < length fs
  some_under c f o (g ∷ gs) called on = omega arith
  some_under c f opened.Main [] called on = absurd (cc called)
  some_under c f opened.Worker [] called on = absurd (cc called)
  some_under c f (opened.Master saved) [] called on = absurd (cc called)
  some_under c f (opened.Task v saved) [] called on = absurd (cc called)
  some_under c f opened.Call [] called (inl is) = absurd (cc is)
  some_under c f opened.Call [] called (inr is) = absurd (cc is)
  some_under c f (opened.Repeat left) [] called (n, is, some, most) = absurd (cc is)
  some_under c f (opened.Critical k) [] called is = absurd (cc is)
  some_under c f opened.Taskgroup [] called is = absurd (cc is)

  same_context : (c : Context) (o : Opened) → opens_task o ≡ false → context_under c o ≡ c
  same_context c opened.Main called = absurd (cc called)
  same_context c opened.Worker called = absurd (cc called)
  same_context c (opened.Master saved) called = absurd (cc called)
  same_context c (opened.Task v saved) called = absurd (cc called)
  same_context c opened.Call called = refl
  same_context c (opened.Repeat left) called = refl
  same_context c (opened.Critical k) called = refl
  same_context c opened.Taskgroup called = refl

  pub runs_task : (fs : List Frame) → Under fs
  runs_task [] c t bodies runs some live = absurd (omega (arith, some))
  runs_task (f ∷ fs) c t (here, rest) (runs, under) some live = by (runs_task fs) (opens_task f.opened) refl
    where
      by : Under fs → (b : Bool) → opens_task f.opened ≡ b → RunsTask p t (f ∷ fs)
      by inside true opens =
          let is : task_function (f ∷ fs) ≡ f.function =
          ap (λ (b : Bool). if b then f.function else task_function fs) opens in
          let function = here.frame.function in
          record { function = is ∙ sym (runs opens t live); known = omega (arith, is, function) }
      by inside false called =
          let is : task_function (f ∷ fs) ≡ task_function fs =
          ap (λ (b : Bool). if b then f.function else task_function fs) called in
          let same : context_under c f.opened ≡ c = same_context c f.opened called in
          let o =
          inside c t (subst (λ (d : Context). AreOpen p d fs) same rest)
          (subst (λ (d : Context). RunsFunctions s d fs) same under)
          (some_under c f.function f.opened fs called here.stands) live in
          let known = o.known in
          record { function = is ∙ o.function; known = omega (arith, is, known) }

-- An inquiry for what is asked about, by the number of a scope.
use Rattle.std.proofs.Common.{◌≡◌, ℕ, List, Option, Some, None, Result, Err, sym, subst, ◌∙◌}
use Rattle.omi_handle.specs.declared.handle.Held.{Held}
use Rattle.omi_icv.specs.declared.scoped.Scope.{Scope}
use Rattle.omi_icv.specs.declared.scoped.Scoped.{Scoped}
use Rattle.omi_icv.specs.Records.{Handles}
use Rattle.omi_icv.specs.Scopes.{any_of}
use Rattle.omi_session.specs.declared.rc.Rc.{Rc}
use Rattle.omi_session.specs.declared.rc.Rc.TheVariants.{Unsupported}
use Rattle.omi_session.specs.Opened.{Opened}
use Rattle.omi_session.specs.Reads.{Reads, Answers}
use Rattle.omi_session.proofs.Asked.{asked_answer}
use Rattle.omi_c.specs.declared.answers.Object.{Object}
use Rattle.omi_c.specs.declared.calls.KnownCalls.{KnownCalls}
use Rattle.omi_c.specs.Calls.{told_of, asked_of}
use Rattle.omi_c.specs.Scopes.{scope_numbered, held_for, reads_in, reads_of}

module _ {A H : Type 0} (w : List ℕ) (object : Object) (number : ℕ) (inquiry : Handles → Scoped → Reads A) (old new : Opened KnownCalls H)
    (result : Result A Rc) (named : Option Scope) (is : named ≡ scope_numbered number)
  where
    -- no variable has the scope
    pub no_scope : named ≡ None → new ≡ old → result ≡ Err Unsupported
        → Answers told_of asked_of old new result (reads_of w object number inquiry)
    no_scope none same refused =
        subst (λ n. Answers told_of asked_of old n result (reads_of w object number inquiry)) (sym same)
        (subst (λ scope. Answers told_of asked_of old old result (reads_in w object inquiry scope)) (sym none ∙ is) (asked_answer refused))

    pub in_scope : (scope : Scope) → named ≡ Some scope → (found : Option Held) → found ≡ held_for w object scope
        → Answers told_of asked_of old new result (inquiry (λ _. found) (any_of scope))
        → Answers told_of asked_of old new result (reads_of w object number inquiry)
    in_scope scope some found held answers =
        subst (λ scope. Answers told_of asked_of old new result (reads_in w object inquiry scope)) (sym some ∙ is)
        (subst (λ f. Answers told_of asked_of old new result (inquiry (λ _. f) (any_of scope))) held answers)

-- What an inquiry reads by a handle it reads by its scope and by what is held.
use Rattle.std.proofs.Common.{◌≡◌, ℕ, List, Option, refl, sym, ap, subst, ◌∙◌}
use Rattle.std.specs.Prelude.{Result, Ok, Err, IsErrAnd}
use Rattle.omi_calls.specs.Asked.{Asked}
use Rattle.omi_calls.specs.Told.{Told}
use Rattle.omi_handle.specs.declared.handle.Held.{Held}
use Rattle.omi_session.specs.declared.rc.Rc.{Rc}
use Rattle.omi_session.specs.Opened.{Opened}
use Rattle.omi_session.specs.Reads.{Reads, Answer, Answers, then_reads}
use Rattle.omi_session.proofs.Asked.{asked_answer, asked_then, refused_then}
use Rattle.omi_icv.specs.declared.scoped.Scope.{Scope}
use Rattle.omi_icv.specs.declared.scoped.Scope.TheVariants as scope
use Rattle.omi_icv.specs.declared.scoped.Scoped.{Scoped}
use Rattle.omi_icv.specs.declared.scoped.Scoped.TheVariants.{Space, Thread, Parallel, Task}
use Rattle.omi_icv.specs.declared.variable.Variable.{Variable}
use Rattle.omi_icv.specs.Icvs.{icv_from_scope, icv_value, icv_string_from_scope}
use Rattle.omi_icv.specs.Records.{Handles, found_of}
use Rattle.omi_icv.specs.Scopes.{scope_of, any_of}
use Rattle.omi_icv.specs.StateWords.{tool_data}
use Rattle.omi_icv.specs.Table.{variable_in}

-- the scope of a handle of a scope
pub scope_any : (s : Scope) → scope_of (any_of s) ≡ s
scope_any scope.AddressSpace = refl
scope_any scope.Thread = refl
scope_any scope.Parallel = refl
scope_any scope.Task = refl

-- an inquiry reads the same for a handle and for its scope and what it stands for
abbrev pub IsScoped : {A : Type 0} → (Handles → Scoped → Reads A) → Type 0
IsScoped inquiry = (held : Handles) (of : Scoped)
    → inquiry (λ _. found_of held of) (any_of (scope_of of)) ≡ inquiry held of

pub number_scoped : (w : List ℕ) (icv : ℕ) → IsScoped (λ held of. icv_from_scope w held of icv)
unfolding icv_from_scope
number_scoped w icv held Space = refl
number_scoped w icv held (Thread t) = refl
number_scoped w icv held (Parallel r) = refl
number_scoped w icv held (Task k) = refl

pub value_scoped : (w : List ℕ) (icv : ℕ) → IsScoped (λ held of. icv_value w held of icv)
unfolding icv_value
value_scoped w icv held Space = refl
value_scoped w icv held (Thread t) = refl
value_scoped w icv held (Parallel r) = refl
value_scoped w icv held (Task k) = refl

pub text_scoped : (w : List ℕ) (icv : ℕ) → IsScoped (λ held of. icv_string_from_scope w held of icv)
unfolding icv_string_from_scope icv_value
text_scoped w icv held Space = refl
text_scoped w icv held (Thread t) = refl
text_scoped w icv held (Parallel r) = refl
text_scoped w icv held (Task k) = refl

pub tool_scoped : (w : List ℕ) → IsScoped (tool_data w)
unfolding tool_data
tool_scoped w held Space = refl
tool_scoped w held (Thread t) = refl
tool_scoped w held (Parallel r) = refl
tool_scoped w held (Task k) = refl

-- so a call by scope and by what is held is one by the handle
pub by_handle : {A C F : Type 0} {told : C → Told} {asked : C → Asked} {s t : Opened C F} {result : Result A Rc} {found : Option Held} {scope : Scope}
    (inquiry : Handles → Scoped → Reads A) → IsScoped inquiry → (held : Handles) (of : Scoped) → found ≡ found_of held of → scope ≡ scope_of of
    → Answers told asked s t result (inquiry (λ _. found) (any_of scope)) → Answers told asked s t result (inquiry held of)
by_handle {told = told} {asked = asked} {s = s} {t = t} {result = result} inquiry scoped held of is in_scope answers =
    subst (Answers told asked s t result)
    ((λ i. inquiry (λ _. is i) (any_of (in_scope i))) ∙ scoped held of) answers

-- ---- behind the record of what is asked about its scope has no such variable, and the call is refused; or this one, and its value is read

pub without_variable : {A C F : Type 0} {told : C → Told} {asked : C → Asked} {s t : Opened C F} {place : Reads ℕ}
    {result : Result A Rc} {rc : Rc} (scope : Scope) (icv address : ℕ) (more : ℕ → Variable → Reads A)
    → told t.table.calls ≡ told s.table.calls → Answers told asked s t (Ok address) place
    → Err rc ≡ variable_in scope icv → IsErrAnd result (λ why. why ≡ rc)
    → Answers told asked s t result (then_reads place (λ at. then_reads (Answer (variable_in (scope_of (any_of scope)) icv)) (more at)))
without_variable {t = t} scope icv address more same found unknown refused =
    asked_then t _ address same found
    (refused_then _ (asked_answer (unknown ∙ ap (λ x. variable_in x icv) (sym (scope_any scope)))) refused)

pub with_variable : {A C F : Type 0} {told : C → Told} {asked : C → Asked} {s t u : Opened C F} {place : Reads ℕ}
    {result : Result A Rc} (scope : Scope) (icv address : ℕ) (more : ℕ → Variable → Reads A) (variable : Variable)
    → told t.table.calls ≡ told s.table.calls → Answers told asked s t (Ok address) place
    → Ok variable ≡ variable_in scope icv → Answers told asked t u result (more address variable)
    → Answers told asked s u result (then_reads place (λ at. then_reads (Answer (variable_in (scope_of (any_of scope)) icv)) (more at)))
with_variable {t = t} scope icv address more variable same found known read =
    asked_then t _ address same found
    (asked_then t _ variable refl (asked_answer (known ∙ ap (λ x. variable_in x icv) (sym (scope_any scope)))) read)

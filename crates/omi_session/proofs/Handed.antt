-- What becomes of an object that an inquiry found, or of its refusal, when a handle of it is to be made.
use Rattle.std.proofs.Common.{◌≡◌, ◌≢◌, ℕ, List, refl, sym, ap, subst, ◌∙◌}
use Rattle.std.specs.Prelude.{Result, Ok, Err, IfOk, IsOk}
use Rattle.omi_calls.specs.Asked.{Asked}
use Rattle.omi_calls.specs.Told.{Told}
use Rattle.omi_handle.specs.declared.handle.Kind.{Kind}
use Rattle.omi_handle.specs.declared.handle.Held.{Held}
use Rattle.omi_handle.specs.Ledger.{Ledger}
use Rattle.omi_session.specs.declared.rc.Rc.{Rc}
use Rattle.omi_session.specs.declared.rc.Rc.TheVariants.{NoMem, CallbackError}
use Rattle.omi_session.specs.Named.{IsOfKind}
use Rattle.omi_session.specs.Opened.{Opened}
use Rattle.omi_session.specs.Reads.{Reads, answer_on, IsAnswer}
use Rattle.omi_session.specs.Made.{IsHanded, Makes, IsMade, IsMadeOf, StandsFor, Answered}
use Rattle.omi_session.proofs.Asked.{ran_is}

-- the handles are those of a call that makes one
pub handed_makes : (w : List ℕ) (kind : Kind) (old new : Ledger) (found : Result Held Rc) (r : Result (ℕ × ℕ) Rc)
    → found ≢ Err NoMem
    → IfOk found (IsOfKind w kind) → IsHanded old new found r → Makes kind old new r
handed_makes w kind old new (Ok h) (Ok pair) free named h' = record { object = h; kind = named.is; adds = h' }
handed_makes w kind old new (Ok h) (Err rc) free named h' = record { keeps = h'.keeps; full = λ _. h'.full }
handed_makes w kind old new (Err rc) (Ok pair) free named h' = absurd h'
handed_makes w kind old new (Err rc) (Err why) free named h' = record {
  keeps = h'.keeps;
  full = λ no. absurd (free (ap Err (sym h'.is ∙ no)));
}

-- an answer that is none of want of memory and of a failed callback
refused_as : (new : Ledger) (rc : Rc) (answer : Result Held Rc) → rc ≢ NoMem
    → (rc ≢ CallbackError → answer ≡ Err rc) → IsMade new (Err rc) answer
refused_as new NoMem answer free is = absurd (free refl)
refused_as new CallbackError answer free is = tt
refused_as new rc answer free is = is (λ e. cc)

-- and its handle stands for the object that the reads answer
pub handed_is : (told : Told) (old new : Ledger) (found : Result Held Rc) (r : Result (ℕ × ℕ) Rc) (reads : Reads Held)
    → found ≢ Err NoMem
    → IsAnswer told found reads → IsHanded old new found r → IsMadeOf told new r reads
handed_is told old new (Ok h) (Ok pair) reads free answers h' = λ memory t.
    record { object = h; answers = sym (answers memory t (λ e. cc)); found = h'.found }
handed_is told old new (Ok h) (Err rc) reads free answers h' = λ memory t.
    let some : IsOk (answer_on memory reads) =
    subst (λ (o : Result Held Rc). IsOk o) (answers memory t (λ e. cc)) refl in
    subst (λ c. IsMade new (Err c) (answer_on memory reads)) (sym h'.is) some
handed_is told old new (Err rc) (Ok pair) reads free answers h' = absurd h'
handed_is told old new (Err rc) (Err why) reads free answers h' = λ memory t.
    subst (λ c. IsMade new (Err c) (answer_on memory reads)) (sym h'.is)
    (refused_as new rc (answer_on memory reads) (λ e. free (ap Err e)) (λ ne. sym (answers memory t (λ e. ne (let same : rc ≡ CallbackError = cc in same)))))

refused_so : (new : Ledger) (rc why : Rc) → rc ≢ NoMem → why ≡ rc → StandsFor new (Err why) (Err rc)
refused_so new rc NoMem free same = absurd (free (sym same))
refused_so new rc why free same = ap Err (sym same)

stands_for : (old new : Ledger) (found : Result Held Rc) (r : Result (ℕ × ℕ) Rc)
    → found ≢ Err NoMem → IsHanded old new found r → StandsFor new r found
stands_for old new (Ok h) (Ok pair) free h' = record { object = h; is = refl; held = h'.found }
stands_for old new (Ok h) (Err rc) free h' = subst (λ c. StandsFor new (Err c) (Ok h)) (sym h'.is) refl
stands_for old new (Err rc) (Ok pair) free h' = absurd h'
stands_for old new (Err rc) (Err why) free h' = refused_so new rc why (λ e. free (ap Err e)) h'.is

-- the handle stands for what the reads answer, unless a callback failed
stands_made : (new : Ledger) (r : Result (ℕ × ℕ) Rc) (found answer : Result Held Rc) → StandsFor new r found
    → (found ≢ Err CallbackError → found ≡ answer) → IsMade new r answer
stands_made new (Ok pair) found answer stands same = record {
  object = stands.object;
  answers = sym (same (λ e. (let is = stands.is in cc))) ∙ stands.is;
  found = stands.held;
}
stands_made new (Err NoMem) found answer stands same =
    subst (λ (o : Result Held Rc). IsOk o) (same (λ e. (let clash = subst (λ (o : Result Held Rc). IsOk o) e stands in cc))) stands
stands_made new (Err CallbackError) found answer stands same = tt
stands_made new (Err rc) found answer stands same =
    sym (same (λ e. (let is = stands in cc))) ∙ stands

pub answered_is : {C F : Type 0} {told : C → Told} {asked : C → Asked} {s t : Opened C F} {r : Result (ℕ × ℕ) Rc} {reads : Reads Held}
    → Answered told asked s t r reads → IsMadeOf (told s.table.calls) t.handles r reads
answered_is {told = told} {asked = asked} {s = s} {t = t} {r = r} {reads = reads} answered = λ memory tells.
    let by = answered.ran memory tells in
    stands_made t.handles r by.found (answer_on memory reads) by.stands (λ ne.
    ran_is (told s.table.calls) memory CallbackError reads (asked s.table.calls) (asked t.table.calls) by.found by.ran ne)

-- An inquiry in the layout of a table over known words, by what the library says of it.
use Rattle.std.proofs.Common.{◌≡◌, cond, ℕ, List, Option, Some, Result, Ok, Err, refl, sym, ap, subst, ◌∙◌}
use Rattle.std.specs.Prelude.{IsErrAnd}
use Rattle.std.proofs.lemmas.Bool.{eq-eqb, ne_eqb}
use Rattle.omi_handle.specs.declared.handle.Held.{Held}
use Rattle.omi_handle.specs.declared.handle.Kind.{Kind}
use Rattle.omi_session.specs.declared.rc.Rc.{Rc}
use Rattle.omi_session.specs.declared.rc.Rc.TheVariants.{CallbackError}
use Rattle.omi_session.specs.Opened.{Opened}
use Rattle.omi_session.specs.Reads.{Reads, Ran, Answers}
use Rattle.omi_c.specs.declared.answers.Object.{Object}
use Rattle.omi_c.specs.declared.answers.TheConstants.{OK}
use Rattle.omi_c.specs.declared.calls.KnownCalls.{KnownCalls}
use Rattle.omi_c.specs.declared.causes.Cause.{Cause}
use Rattle.omi_c.specs.declared.causes.Cause.TheVariants.{NoLayout}
use Rattle.omi_c.specs.declared.judged.Judged.{Judged}
use Rattle.omi_c.specs.declared.known.Known.{Known}
use Rattle.omi_c.specs.Calls.{told_of, asked_of, missed_of}
use Rattle.omi_c.specs.Judged.{refusal_in}
use Rattle.omi_c.specs.Known.{word_at}
use Rattle.omi_c.specs.Missed.{reply_by}
use Rattle.omi_c.specs.Objects.{held_in}
use Rattle.omi_c.specs.Opened.{IsOpenedOver, IsNoLayout}
use Rattle.omi_c.specs.Replies.{Reply, asked_in, asked_on}
use Rattle.omi_c.proofs.KnownWords.{came_over, known_tells}

module _ {A : Type 0} (table : Judged) (known : List Known) (reads : List ℕ → Reads A) where
  -- in a layout
  pub in_layout : table.code ≡ OK → asked_in table known reads ≡ asked_on known (reads table.words)
  in_layout judged =
      ap (λ b. cond b (asked_on known (reads table.words)) (Err (NoLayout (refusal_in table)))) (eq-eqb table.code OK judged)

  -- and in none
  pub in_none : (cause : Cause) → IsNoLayout table cause → asked_in table known reads ≡ Err cause
  in_none cause none =
      ap (λ b. cond b (asked_on known (reads table.words)) (Err (NoLayout (refusal_in table)))) (ne_eqb table.code OK none.is)
      ∙ ap Err (sym none.gives)

  -- which is handed on
  pub refused_in : (reply : Reply A) (cause : Cause) → IsErrAnd reply (λ why. why ≡ cause) → IsNoLayout table cause
      → reply ≡ asked_in table known reads
  refused_in (Ok x) cause is none = absurd is
  refused_in (Err why) cause is none = ap Err is ∙ sym (in_none cause none)

module _ {H : Type 0} (table : Judged) (known : List Known) (old new : Opened KnownCalls H) (opened : IsOpenedOver table known old) where
  pub asked_reads : {A : Type 0} (reads : List ℕ → Reads A) (result : Result A Rc)
      → Answers told_of asked_of old new result (reads old.layout)
      → reply_by (missed_of new.table.calls) result ≡ asked_in table known reads
  asked_reads reads result answers =
      let ran =
      subst
      (λ told. Ran told (word_at known) CallbackError (reads old.layout) (asked_of old.table.calls) (asked_of new.table.calls) result)
      opened.told (answers.ran (word_at known) (known_tells known (told_of old.table.calls) opened.told)) in
      came_over known (reads old.layout) (asked_of old.table.calls) (asked_of new.table.calls) result (ap (λ m. Some m) opened.missed)
      ran (missed_of new.table.calls) refl
      ∙ ap (λ w. asked_on known (reads w)) opened.layout ∙ sym (in_layout table known reads opened.judged)

  -- of an object that C names
  pub asked_of_object : {A : Type 0} (kind : Kind) (object : Object) (inquiry : List ℕ → Option Held → Reads A) (found : Option Held)
      (result : Result A Rc) → found ≡ held_in old.layout kind object
      → Answers told_of asked_of old new result (inquiry old.layout found)
      → reply_by (missed_of new.table.calls) result ≡ asked_in table known (λ w. inquiry w (held_in w kind object))
  asked_of_object kind object inquiry found result is answers =
      asked_reads (λ w. inquiry w (held_in w kind object)) result
      (subst (λ f. Answers told_of asked_of old new result (inquiry old.layout f)) is answers)

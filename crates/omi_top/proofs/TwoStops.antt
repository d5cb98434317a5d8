-- What two stops of one run leave are two stops: the second has the events of the first and more.
use Rattle.std.proofs.Common.{◌≡◌, ◌+◌, ◌++◌, ℕ, List, [], ◌∷◌, length, drop, Option, sym, ap, subst, ◌∙◌, arith}
use Rattle.std.proofs.Math.Seq.{drop-append_seam}
use Rattle.std.proofs.lemmas.List.{map-append}
use Rattle.omi_core.specs.declared.entry.Entry.{Entry}
use Rattle.omi_core.specs.Runs.{events_in}
use Rattle.omi_core.specs.Steps.{events_behind}
use Rattle.omi_layout.specs.Family.{IsFamily}
use Rattle.omi_layout.proofs.OneFamily.{one_family}
use Rattle.omi_model.specs.Opening.{opening}
use Rattle.omi_model.specs.Reached.{Leads, Reached}
use Rattle.omi_model.specs.State.{State}
use Rattle.omi_model.specs.declared.event.Event.{Event}
use Rattle.omi_model.proofs.Slots.{some_same}
use Rattle.omi_outside.specs.declared.status.Status.{Status}
use Rattle.omi_rep.specs.Shows.{Shows}
use Rattle.omi_script.specs.declared.program.Program.{Program}
use Rattle.omi_commands.specs.Cores.{thread_ids}
use Rattle.omi_word.specs.Words.{Words, words_of}
use Rattle.omi_top.specs.verbs.Stop.{IsStopped}
use Rattle.omi_top.specs.Between.{AreOfOneRun, AreStops, IsFollowedFrom, events_between}
use Rattle.omi_commands.specs.Fates.{HasRecords}
use Rattle.omi_top.specs.Run.{IsRun}
use Rattle.omi_top.specs.declared.plan.Plan.{Plan}
use Rattle.omi_commands.proofs.Current.{image_records}
use Rattle.omi_calls.proofs.ImageWords.{image_words}
use Rattle.omi_commands.proofs.Lengths.{steps_long}
use Rattle.omi_top.proofs.OneRun.{events_more, later_steps}

-- the events behind some of those that lead to a state lead on from the state that these reach
leads_further : (p : Program) (s : State) (xs ys : List (ℕ × Event)) (t u : State) → Leads p s xs t → Leads p s (xs ++ ys) u
    → Leads p t ys u
leads_further p s [] ys t u is leads = subst (λ (q : State). Leads p q ys u) (sym is) leads
leads_further p s (x ∷ xs) ys t u (m, step, first) (n, other, all) =
    let same : n ≡ m = some_same other.after_is step.after_is in
    leads_further p m xs ys t u first (subst (λ (q : State). Leads p q (xs ++ ys) u) same all)

module _ (p : Program) (plan next : Plan) (bytes text others more : List ℕ) (a : IsStopped p plan bytes text)
    (b : IsStopped p next others more) (one : AreOfOneRun a b) where
  same_layout : b.w ≡ a.w
  same_layout =
      one_family plan.layout p.threads b.w a.w (subst (λ k. IsFamily k p.threads b.w) (sym one.layout) b.family) a.family

  -- the second run, in the first one's layout
  second : IsRun a.w p next b.entries b.end b.words b.state
  second = subst (λ w. IsRun w p next b.entries b.end b.words b.state) same_layout b.run

  further : (zs : List (ℕ × Entry)) × (b.entries ≡ a.entries ++ zs)
  further = later_steps a.w p plan next a.entries b.entries a.end b.end a.words b.words a.state b.state a.valid a.run second one.seed one.steps

  abbrev behind : List (ℕ × Event)
  behind = events_in (events_behind (length a.entries) further.0)

  all_events : events_in (events_behind 0 b.entries) ≡ events_in (events_behind 0 a.entries) ++ behind
  all_events =
      ap (λ zs. events_in (events_behind 0 zs)) further.1
      ∙ ap events_in (events_more 0 a.entries further.0)
      ∙ ap (λ n. events_in (events_behind 0 a.entries ++ events_behind n further.0)) (let same : 0 + length a.entries ≡ length a.entries = omega arith in same)
      ∙ map-append (λ (e : ℕ × ℕ × Event). (e.1, e.2)) (events_behind 0 a.entries) (events_behind (length a.entries) further.0)

  between_is : events_between a.entries b.entries ≡ behind
  between_is =
      ap (λ zs. events_in (events_behind (length a.entries) zs)) (ap (drop (length a.entries)) further.1 ∙ drop-append_seam a.entries further.0)

  -- each word of the records is in the second image
  image_has : HasRecords a.w (words_of b.words)
  image_has =
      image_records a.w b.words a.valid (omega (arith, steps_long p a.w b.entries b.words b.state second.steps))

  pub stops_of : AreStops a.core_of.core b.core_of.core
  stops_of = record {
    w = a.w;
    valid = a.valid;
    program = p;
    events = events_in (events_behind 0 a.entries);
    state = a.state;
    reached = a.run.reached;
    between = behind;
    next = b.state;
    leads =
        leads_further p (opening p) (events_in (events_behind 0 a.entries)) behind a.state b.state a.run.reached
        (subst (λ (es : List (ℕ × Event)). Reached p es b.state) all_events second.reached);
    shows =
        subst (λ (words : Words). Shows a.w words a.state)
        (sym (image_words (thread_ids p.threads) a.words a.core_of.core a.core_of.image)) a.run.shows;
    shows_next =
        subst (λ (words : Words). Shows a.w words b.state)
        (sym (image_words (thread_ids p.threads) b.words b.core_of.core b.core_of.image)) second.shows;
    records =
        subst (HasRecords a.w) (sym (image_words (thread_ids p.threads) b.words b.core_of.core b.core_of.image)) image_has;
  }

  -- what is made of these stops, by the runs
  pub by_runs : (contexts : List ℕ) (result : Status) (out after : Option (List ℕ))
      → IsFollowedFrom stops_of.state stops_of.between contexts result out after
      → IsFollowedFrom a.state (events_between a.entries b.entries) contexts result out after
  unfolding stops_of
  by_runs contexts result out after is =
      subst (λ (es : List (ℕ × Event)). IsFollowedFrom a.state es contexts result out after) (sym between_is) is

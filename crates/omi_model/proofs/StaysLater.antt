-- What stays over any events: a name is not made twice, so what lives in both states is the same.
use Rattle.std.proofs.Common.{ℕ, List, [], ◌∷◌, sym, subst, ◌∙◌}
use Rattle.omi_script.specs.declared.program.Program.{Program}
use Rattle.omi_model.specs.declared.event.Event.{Event}
use Rattle.omi_model.specs.LawStays.{Stays, StaysOver}
use Rattle.omi_model.specs.Reached.{Leads, Reached, Step}
use Rattle.omi_model.specs.State.{State}
use Rattle.omi_model.proofs.NamesKept.{NamesKept, kept_same, kept_trans, made_later, made_live, names_kept}
use Rattle.omi_model.proofs.StaysKept.{over_same, same_region_trans, same_task_trans, stays_step}

leads_over : (p : Program) (s : State) (events : List (ℕ × Event)) (u : State) → Leads p s events u
    → StaysOver s u × NamesKept s u
leads_over p s [] u same =
    subst (λ (v : State). StaysOver s v × NamesKept s v) (sym same)
    (over_same s, (kept_same s.regions, kept_same s.tasks))
leads_over p s (x ∷ xs) u (next, step, leads) =
    let first = stays_step p s x.0 x.1 next step in
    let kept = names_kept p s x.0 x.1 next step in
    let (later, more) = leads_over p next xs u leads in (
      record {
        alike = λ k t w live found.
            let (v, found_v) = more.1.back k.0 w (made_later s.tasks next.tasks kept.1 k.0 (made_live s.tasks k.0 t live)) found in
            same_task_trans t v w (first.alike k t v live found_v) (later.alike k v w found_v found);
        alike_regions = λ n r w live found.
            let made = made_later s.regions next.regions kept.0 n.0 (made_live s.regions n.0 r live) in
            let (q, found_q) = more.0.back n.0 w made found in
            same_region_trans r q w (first.alike_regions n r q live found_q) (later.alike_regions n q w found_q found);
        begun = λ i h. later.begun i (first.begun i h);
        count = later.count ∙ first.count;
      },
      (kept_trans s.regions next.regions u.regions kept.0 more.0, kept_trans s.tasks next.tasks u.tasks kept.1 more.1),
    )

pub leads_kept : (p : Program) (s : State) (events : List (ℕ × Event)) (u : State) → Leads p s events u
    → NamesKept s u
leads_kept p s events u leads = (leads_over p s events u leads).1

pub stays_leads : (p : Program) (s : State) (events : List (ℕ × Event)) (u : State) → Leads p s events u
    → StaysOver s u
stays_leads p s events u leads = (leads_over p s events u leads).0

pub stay_over_an_event : (p : Program) (first : List (ℕ × Event)) (s : State) (i : ℕ) (e : Event) (next : State)
    → Reached p first s → Step p s i e next → Stays s next
stay_over_an_event p first s i e next reached step = stays_step p s i e next step

pub stay : (p : Program) (first more : List (ℕ × Event)) (s u : State) → Reached p first s → Leads p s more u
    → StaysOver s u
stay p first more s u reached leads = stays_leads p s more u leads

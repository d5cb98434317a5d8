-- Seats are made and taken in, and a table is opened, under the rule.
use Rattle.std.proofs.Common.{inl, ◌++◌, ℕ, suc, List, [], ◌∷◌, Option, refl, sym, ap, ◌∙◌, subst, ◌≡◌}
use Rattle.std.proofs.lemmas.Bool.{false≢true}
use Rattle.std.proofs.lemmas.List.{append-nil}
use Rattle.atomic_table.specs.Table.{Joins, Splits, State, opening}
use Rattle.omi_script.specs.declared.program.Program.{Program}
use Rattle.omi_layout.specs.declared.layout.Layout.{Layout}
use Rattle.omi_layout.specs.OpeningWords.{AreOpening}
use Rattle.omi_rep.specs.Suits.{Suits}
use Rattle.omi_core.specs.declared.stop.Break.{Break}
use Rattle.omi_seat.specs.Seats.{AreSeated, Seated, all_below, first_alone, without_first}
use Rattle.omi_seat.specs.Workers.{IsToSplit}
use Rattle.omi_seat.proofs.Opened.{none_yet, opened, untouched_known}
use Rattle.omi_seat.proofs.Seats.{first_seated, last_split, one_joined}
use Rattle.omi_live.specs.declared.known.Part.{Part}
use Rattle.omi_live.specs.Plays.{first_part, first_parts}
use Rattle.omi_live.specs.Running.{IsPart, Keeps, thread_of}

-- the rule holds on of other seats that know no more
reseated : (p : Program) (l : Layout) (on : Option Break) (s : State (Unit {0}) (List Part)) (h : Keeps p l on s) (views : List (List Part))
    → AreSeated thread_of (IsPart p l h.behind.keeps.entries h.accesses h.behind.run.actors h.stop) views
    → Keeps p l on record { words = s.words; homes = s.homes; views = views }
reseated p l on s h views seats = record {
  stop = h.stop;
  behind = h.behind;
  raised = h.raised;
  first = h.first;
  opens = h.opens;
  accesses = h.accesses;
  made = h.made;
  seats = seats;
}

-- the last of so many threads before their first steps gets a seat
split_allowed : (p : Program) (l : Layout) (on : Option Break) (q : Program) (m : Layout) (id n : ℕ)
    → Splits (Keeps p l on) id (all_below (first_part q m) (suc n))
    (without_first (all_below (first_part q m) (suc n))) (first_alone (all_below (first_part q m) (suc n)))
split_allowed p l on q m id n s h at =
    reseated p l on s h _
    (last_split thread_of (IsPart p l h.behind.keeps.entries h.accesses h.behind.run.actors h.stop) s.views h.seats id n (first_part q m) (λ i. refl) at)

-- and so one seat that knows them all gives each thread its own
pub to_split : (p : Program) (l : Layout) (on : Option Break) (q : Program) (m : Layout) (me : Seated Part)
    → me ≡ (first_parts q m, []) → IsToSplit (Keeps p l on) q.threads (first_part q m) [] me
to_split p l on q m me knows = record {
  knows = knows ∙ ap (λ (ps : List Part). (ps, [])) (sym (append-nil (first_parts q m)));
  may = λ id n.
      subst (λ (v : List Part). Splits (Keeps p l on) id v (without_first v) (first_alone v)) (sym (append-nil (all_below (first_part q m) (suc n))))
      (split_allowed p l on q m id n);
}

pub join_allowed : (p : Program) (l : Layout) (on : Option Break) (id : ℕ) (v : List Part) (other : ℕ) (w : List Part)
    → Joins (Keeps p l on) id v other w (v ++ w) []
join_allowed p l on id v other w s h at apart at_other =
    reseated p l on s h _
    (one_joined thread_of (IsPart p l h.behind.keeps.entries h.accesses h.behind.run.actors h.stop) s.views h.seats id other v w at apart at_other)

-- a table is opened
pub opening_keeps : (p : Program) (l : Layout) (words : List ℕ) → Suits p l.table → AreOpening p l.table words
    → (on : Option Break)
    → Keeps p l on (opening (words ++ 0 ∷ []) [] (first_parts p l))
opening_keeps p l words suits opens on =
    let run = opened p l words (0 ∷ []) suits opens in
    record {
      stop = 0;
      behind = run;
      raised = inl refl;
      first = words;
      opens = opens;
      accesses = [];
      made = record { among = sym (none_yet p l words (0 ∷ []) suits opens); lead = refl; threads = λ i past. refl };
      seats =
          first_seated thread_of (IsPart p l run.keeps.entries [] run.run.actors 0)
          (first_part p l) p.threads
          (λ i below. record { known = untouched_known p l words (0 ∷ []) suits opens i below; told = λ told. absurd (false≢true told); did = refl });
    }

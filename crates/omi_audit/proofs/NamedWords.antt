-- What a word names and how it is judged: of a word that points to a record the clause of pointers alone is asked, and of a list of clauses that fail the first is told.
use Rattle.std.proofs.Common.{◌≡◌, ◌==◌, inl, inr, ℕ, ◌+◌, ◌*◌, ◌||◌, ◌&&◌, not, Bool, true, false, cond, List, [], ◌∷◌, ◌++◌, map, Option, Some, None, refl, sym, ap, subst, ◌∙◌}
use Rattle.std.specs.Prelude.{is_some, slice_get, filter, nat_eq, nat_le}
use Rattle.std.specs.Option.{option_map_or}
use Rattle.std.specs.List.{flat_map}
use Rattle.indexmap.specs.IndexSet.{insert_all}
use Rattle.omi_layout.specs.declared.field.Field.{Field}
use Rattle.omi_layout.specs.declared.field.Field.TheVariants.{ThreadCurrent, RegionEnclosing, RegionEncountering, RegionTeam, TaskRegion, TaskThread, TaskGenerating, TaskScheduling, TaskSlots}
use Rattle.omi_layout.specs.declared.limits.TheConstants.{GROUP_PLACE}
use Rattle.omi_layout.specs.Field.{threads, tasks}
use Rattle.omi_layout.specs.Named.{number}
use Rattle.omi_layout.specs.Table.{offset}
use Rattle.omi_word.specs.Words.{Words}
use Rattle.omi_rep.specs.Look.{live_at}
use Rattle.omi_audit.specs.declared.search.Search.{Search}
use Rattle.omi_audit.specs.declared.stop.Stop.{Stop}
use Rattle.omi_audit.specs.declared.stop.Stop.TheVariants.{Fails}
use Rattle.omi_audit.specs.declared.verdict.Verdict.{Verdict}
use Rattle.omi_audit.specs.declared.verdict.Verdict.TheVariants.{No}
use Rattle.omi_audit.specs.Clauses.{leads_to, led_to, may_be_none, failing, clause_4, pointer_clause}
use Rattle.omi_audit.specs.Search.{Place, word_at, named_at}
use Rattle.omi_audit.specs.Verdicts.{failing_at, refused_at}
use Rattle.omi_audit.specs.Judged.{named_of, Knows, Meets, MeetsNamed, IsFirst, IsFine, IsFailing, IsJudged, lives}
use Rattle.omi_audit.proofs.FirstOnes.{has, or_cases, has_with_all, with_all_then}
use Rattle.omi_audit.proofs.Reaches.{places_live}
use Rattle.omi_numbers.specs.declared.limits.TheConstants.{OPEN_GROUPS}

-- ---- what is met

module _ (w : List ℕ) (words : Words) where
  -- a live record is named, and no other word names one
  pub named_live : (kind word : ℕ) → (kind == threads) ≡ false → is_some (live_at w words kind word) ≡ true
      → named_of w words kind word ≡ word ∷ []
  named_live kind word other live = pick (kind == threads) (is_some (live_at w words kind word)) other live
    where
      pick : (a b : Bool) → a ≡ false → b ≡ true → cond a [] (cond b (word ∷ []) []) ≡ word ∷ []
      pick true b e f = absurd (cc)
      pick false true e f = refl
      pick false false e f = absurd (cc)

  pub named_dead : (kind word : ℕ) → is_some (live_at w words kind word) ≡ false
      → named_of w words kind word ≡ []
  named_dead kind word dead = pick (kind == threads) (is_some (live_at w words kind word)) dead
    where
      pick : (a b : Bool) → b ≡ false → cond a [] (cond b (word ∷ []) []) ≡ []
      pick true b f = refl
      pick false true f = absurd (cc)
      pick false false f = refl

  pub meets_none : (s : Search) (named : List ℕ) → named ≡ [] → Meets w words named s s
  meets_none s named none = record {
    met = ap (insert_all nat_eq s.met.keys) (sym none);
    links = refl;
    begun = refl;
  }

  pub meets_then : (a b c : Search) (xs ys : List ℕ) → Meets w words xs a b → Meets w words ys b c
      → Meets w words (xs ++ ys) a c
  meets_then a b c xs ys first second = record {
    met = second.met ∙ ap (λ l. insert_all nat_eq l ys) first.met ∙ sym (with_all_then a.met.keys xs ys);
    links = second.links ∙ first.links;
    begun = second.begun ∙ first.begun;
  }

  -- what is known stays known
  pub still_knows : (a b : Search) (named : List ℕ) → ((x : ℕ) → has named x ≡ true → lives w words x ≡ true)
      → Knows w words a → Meets w words named a b → Knows w words b
  still_knows a b named live known meets = record {
    met = λ x is. elim (or_cases (has a.met.keys x) (has named x) (sym (has_with_all a.met.keys named x) ∙ ap (λ l. has l x) (sym meets.met) ∙ is)) [
      | inl before ↦ known.met x before
      | inr now ↦ live x now
    ];
    begun = rw meets.begun known.begun;
  }

  pub still_knows_named : (a b : Search) (places : List Place) → Knows w words a
      → MeetsNamed w words places a b → Knows w words b
  still_knows_named a b places known meets =
      still_knows a b (flat_map (named_at w words) places) (places_live w words places) known meets

-- ---- the clauses of a word that points to a record

pick : (n : ℕ) (b : Bool) → map (λ (clause : ℕ × Bool). clause.0) (filter (λ (clause : ℕ × Bool). not clause.1) ((n, b) ∷ [])) ≡ cond b [] (n ∷ [])
pick n true = refl
pick n false = refl

-- behind a test that holds
pick_held : (n : ℕ) (b c : Bool) → c ≡ true
    → map (λ (clause : ℕ × Bool). clause.0) (filter (λ (clause : ℕ × Bool). not clause.1) ((n, b) ∷ (6, c) ∷ [])) ≡ cond b [] (n ∷ [])
pick_held n true true holds = refl
pick_held n false true holds = refl
pick_held n b false holds = absurd (cc)

-- of a task's words behind its slots the one for its group leads to a task
pub group_leads : (at kind : ℕ) → leads_to TaskSlots at ≡ Some kind → (at == GROUP_PLACE ≡ true) × (kind ≡ tasks)
group_leads at kind is = go (at == GROUP_PLACE) refl is
  where
    go : (b : Bool) → at == GROUP_PLACE ≡ b → cond b (Some tasks) None ≡ Some kind → (at == GROUP_PLACE ≡ true) × (kind ≡ tasks)
    go true e some = (e, let same : kind ≡ 4 = cc in same)
    go false e some = absurd (cc)

module _ (w : List ℕ) (words : Words) (i : ℕ) where
  -- the clause of pointers alone may fail there
  pub pointer_fails : (f : Field) (at kind word : ℕ) → leads_to f at ≡ Some kind
      → failing w words i f at word ≡ cond (clause_4 w words f at word) [] (pointer_clause f ∷ [])
  pointer_fails ThreadCurrent at kind word is = pick 4 (clause_4 w words ThreadCurrent at word)
  pointer_fails RegionEnclosing at kind word is = pick 4 (clause_4 w words RegionEnclosing at word)
  pointer_fails RegionEncountering at kind word is = pick 4 (clause_4 w words RegionEncountering at word)
  pointer_fails RegionTeam at kind word is = pick 4 (clause_4 w words RegionTeam at word)
  pointer_fails TaskRegion at kind word is = pick 4 (clause_4 w words TaskRegion at word)
  pointer_fails TaskThread at kind word is = pick 4 (clause_4 w words TaskThread at word)
  pointer_fails TaskGenerating at kind word is = pick 4 (clause_4 w words TaskGenerating at word)
  pointer_fails TaskScheduling at kind word is = pick 4 (clause_4 w words TaskScheduling at word)
  pointer_fails TaskSlots at kind word is =
      pick_held 6 (clause_4 w words TaskSlots at word) (at == GROUP_PLACE || nat_le word OPEN_GROUPS)
      (ap (λ b. b || nat_le word OPEN_GROUPS) (group_leads at kind is).0)
  pointer_fails _ at kind word is = absurd (cc)

  pub pointer_passes : (f : Field) (at kind word : ℕ) → leads_to f at ≡ Some kind → clause_4 w words f at word ≡ true
      → slice_get (failing w words i f at word) 0 ≡ None
  pointer_passes f at kind word is holds = rw (pointer_fails f at kind word is, holds) refl

  pub pointer_refused : (f : Field) (at kind word : ℕ) → leads_to f at ≡ Some kind
      → clause_4 w words f at word ≡ false → slice_get (failing w words i f at word) 0 ≡ Some (pointer_clause f)
  pointer_refused f at kind word is fails = rw (pointer_fails f at kind word is, fails) refl

  pub clause_of : (f : Field) (at kind word : ℕ) → leads_to f at ≡ Some kind
      → clause_4 w words f at word ≡ ((may_be_none f && word == 0) || is_some (live_at w words kind (led_to f word)))
  clause_of f at kind word is = rw is refl

-- ---- a word is judged

first_none : (l : List ℕ) → slice_get l 0 ≡ None → l ≡ []
first_none [] is = refl
first_none (x ∷ xs) is = absurd (cc)

first_some : (f : ℕ → Verdict) (l : List ℕ) (x : ℕ) → slice_get l 0 ≡ Some x → slice_get (map f l) 0 ≡ Some (f x)
first_some f [] x is = absurd (cc)
first_some f (y ∷ ys) x is = let same : y ≡ x = cc in ap (λ z. Some (f z)) same

module _ (w : List ℕ) (words : Words) (i : ℕ) (p : Place) where
  -- where a clause fails at the place
  abbrev pub fails_at : ℕ → Stop
  fails_at clause = Fails (p.address + 8 * (offset w (number p.field) + p.at)) (number p.field) clause

  abbrev refusal : ℕ → Verdict
  refusal clause = No (p.address + 8 * (offset w (number p.field) + p.at)) (number p.field) clause

  abbrev named_word : Option ℕ → List ℕ
  named_word word =
      option_map_or
      (λ kind. cond (kind == threads) [] (filter (λ one. is_some (live_at w words kind one)) (option_map_or (λ one. led_to p.field one ∷ []) word [])))
      (leads_to p.field p.at) []

  refused_by : (l : List ℕ) (clause : ℕ) (stop : Stop) → failing_at w words i p ≡ l → slice_get l 0 ≡ Some clause
      → stop ≡ fails_at clause → IsFirst (refused_at w words i p) stop
  refused_by l clause stop is first at =
      subst (IsFirst (refused_at w words i p)) (sym at)
      (ap (λ q. slice_get (map refusal q) 0) is ∙ first_some refusal l clause first)

  pub judged_unmapped : (stop : Stop) → word_at w words p ≡ None → stop ≡ fails_at 1
      → IsFirst (refused_at w words i p) stop
  judged_unmapped stop none at =
      refused_by (1 ∷ []) 1 stop (ap (λ o. option_map_or (failing w words i p.field p.at) o (1 ∷ [])) none) refl at

  pub judged_refused : (a b : Search) (found clause : ℕ) (stop : Stop) → word_at w words p ≡ Some found
      → IsFailing w words i p.field p.at found a b (Some clause) → stop ≡ fails_at clause
      → IsFirst (refused_at w words i p) stop
  judged_refused a b found clause stop word failed at =
      refused_by (failing w words i p.field p.at found) clause stop
      (ap (λ o. option_map_or (failing w words i p.field p.at) o (1 ∷ [])) word) (sym failed.is) at

  pub judged_fine : (a b : Search) (found : ℕ) → word_at w words p ≡ Some found
      → IsFailing w words i p.field p.at found a b None
      → IsFine (refused_at w words i p) (IsJudged w words p a b found)
  judged_fine a b found word fine =
      let meets = fine.meets refl in
      record {
        none = ap (map refusal) (ap (λ o. option_map_or (failing w words i p.field p.at) o (1 ∷ [])) word ∙ first_none (failing w words i p.field p.at found) (sym fine.is));
        known = record {
          word = word;
          meets = record {
            met = meets.met ∙ ap (λ o. insert_all nat_eq a.met.keys (named_word o)) (sym word);
            links = meets.links;
            begun = meets.begun;
          };
        };
      }

-- The records with which a program opens have the codes of its opening state.
use Rattle.std.proofs.Common.{◌≡◌, ◌==◌, ℕ, zero, suc, Bool, true, false, List, Option, Some, None, refl, ap, ◌∙◌, nat_lt, if◌then◌else◌}
use Rattle.std.proofs.lemmas.Option.{get_or_from_slice_get}
use Rattle.omi_script.specs.declared.program.Program.{Program}
use Rattle.omi_numbers.specs.declared.states.TheConstants.{WORK_SERIAL, IDLE}
use Rattle.omi_model.specs.Opening.{initial_thread, opening, opening_region, opening_task, waiting_worker}
use Rattle.omi_layout.specs.declared.field.Field.TheVariants.{RuntimeLocks, ThreadLife, ThreadCurrent, ThreadState, RegionLife, TaskNthreads, TaskSlots}
use Rattle.omi_layout.specs.declared.limits.TheConstants.{GROUP_PLACE, OPEN_PLACE}
use Rattle.omi_layout.specs.Field.{tasks}
use Rattle.omi_layout.specs.Memory.{Rec}
use Rattle.omi_layout.specs.Named.{number}
use Rattle.omi_layout.specs.OpeningWords.{OpensRuntime, OpensThread, OpensRegion, OpensTask, region_opening, runtime_opening, task_opening, thread_opening}
use Rattle.omi_layout.specs.Place.{slot_address}
use Rattle.omi_layout.specs.Table.{width}
use Rattle.omi_rep.specs.Codes.{HasCodes, group_code, region_code, region_told, runtime_code, runtime_told, task_code, task_told, thread_code, thread_told}
use Rattle.omi_rep.proofs.Codes.{same_word}

-- an opening word agrees with the code that its field has, if it has one
abbrev Agrees : Option ℕ → ℕ → Type 0
Agrees None opening = opening ≡ opening
Agrees (Some code) opening = opening ≡ code

opened_word : (code : Option ℕ) (opening word : ℕ) → Agrees code opening → code ≡ Some word → opening ≡ word
opened_word None opening word agrees is = absurd (cc)
opened_word (Some code) opening word agrees is = agrees ∙ same_word code word is

pub runtime_opened : (p : Program) (w : List ℕ) (r : Rec) → OpensRuntime p r
    → HasCodes (runtime_code w (runtime_told (opening p))) r
runtime_opened p w r o RuntimeLocks lock word is =
    o.words RuntimeLocks lock ∙ go (nat_lt lock (width w (number RuntimeLocks))) is
  where
    go : (b : Bool) → (if b then Some 0 else None) ≡ Some word → 0 ≡ word
    go true some = same_word 0 word some
    go false none = absurd (cc)
runtime_opened p w r o f zero word is =
    o.words f 0 ∙ opened_word (runtime_code w (runtime_told (opening p)) f 0) (runtime_opening p f 0) word refl is
runtime_opened p w r o f (suc at) word is = absurd (cc)

pub thread_opened : (p : Program) (w : List ℕ) (i : ℕ) (r : Rec) → OpensThread w i r
    → HasCodes (thread_code w i (thread_told ((opening p).threads i))) r
thread_opened p w i r o = go (i == 0) refl
  where
    go : (b : Bool) → i == 0 ≡ b
        → HasCodes (thread_code w i (thread_told (if b then initial_thread else waiting_worker))) r
    go true first ThreadLife zero word is = o.words ThreadLife 0 ∙ ap (λ b. if b then 1 else 0) first ∙ same_word _ _ is
    go true first ThreadCurrent zero word is =
        o.words ThreadCurrent 0 ∙ ap (λ b. if b then slot_address w tasks 0 0 else 0) first ∙ same_word _ _ is
    go true first ThreadState zero word is =
        o.words ThreadState 0 ∙ ap (λ b. if b then WORK_SERIAL else IDLE) first ∙ same_word _ _ is
    go true first f zero word is =
        o.words f 0 ∙ opened_word (thread_code w i (thread_told initial_thread) f 0) (thread_opening w i f 0) word refl is
    go true first ThreadLife (suc at) word is = absurd (cc)
    go true first f (suc at) word is = absurd (cc)
    go false worker ThreadLife zero word is = o.words ThreadLife 0 ∙ ap (λ b. if b then 1 else 0) worker ∙ same_word _ _ is
    go false worker ThreadCurrent zero word is =
        o.words ThreadCurrent 0 ∙ ap (λ b. if b then slot_address w tasks 0 0 else 0) worker ∙ same_word _ _ is
    go false worker ThreadState zero word is =
        o.words ThreadState 0 ∙ ap (λ b. if b then WORK_SERIAL else IDLE) worker ∙ same_word _ _ is
    go false worker f zero word is =
        o.words f 0 ∙ opened_word (thread_code w i (thread_told waiting_worker) f 0) (thread_opening w i f 0) word refl is
    go false worker ThreadLife (suc at) word is = absurd (cc)
    go false worker f (suc at) word is = absurd (cc)

pub region_opened : (p : Program) (w : List ℕ) (r : Rec) → OpensRegion p w r
    → HasCodes (region_code w (region_told (opening_region p))) r
region_opened p w r o RegionLife at word is = absurd (cc)
region_opened p w r o f zero word is =
    o.words f 0 ∙ opened_word (region_code w (region_told (opening_region p)) f 0) (region_opening p w f 0) word refl is
region_opened p w r o f (suc at) word is = absurd (cc)

pub task_opened : (p : Program) (w : List ℕ) (r : Rec) → OpensTask p w r
    → HasCodes (task_code w (task_told (opening_task p))) r
task_opened p w r o TaskNthreads j word is =
    o.words TaskNthreads j ∙ get_or_from_slice_get p.env.nthreads j word 0 is
task_opened p w r o TaskSlots at word is = o.words TaskSlots at ∙ go (nat_lt at (width w (number TaskSlots))) is
  where
    places : (b c : Bool) → (if b then Some 0 else (if c then Some 0 else None)) ≡ Some word → 0 ≡ word
    places true c some = same_word 0 word some
    places false true some = same_word 0 word some
    places false false none = absurd (cc)

    go : (b : Bool) → (if b then group_code w (task_told (opening_task p)) at else None) ≡ Some word → 0 ≡ word
    go true some = places (at == GROUP_PLACE) (at == OPEN_PLACE) some
    go false none = absurd (cc)
task_opened p w r o f zero word is =
    o.words f 0 ∙ opened_word (task_code w (task_told (opening_task p)) f 0) (task_opening p w f 0) word refl is
task_opened p w r o f (suc at) word is = absurd (cc)

use Rattle.std.proofs.Common.{◌≡◌, ℕ, ◌+◌, ◌<◌, List, length, sym, ap, subst, ◌∙◌, arith}
use Rattle.std.specs.Prelude.{slice_index}
use Rattle.std.proofs.lemmas.List.{length-replicate}
use Rattle.omi_layout.specs.declared.limits.TheConstants.{FRONT_WORDS}
use Rattle.omi_layout.specs.Memory.{Rec, memory_of}
use Rattle.omi_layout.specs.OpeningWords.{OpensRuntime, OpensThread, OpensRegion, OpensTask}
use Rattle.omi_layout.specs.Place.{image_words}
use Rattle.omi_layout.proofs.Frame.{front_fits}
use Rattle.omi_layout.proofs.Zeros.{zero_at, published_zero}
use Rattle.omi_layout.proofs.layout.Layout.open.Goals as goal
use Rattle.omi_layout.proofs.layout.Layout.open.Goals.{After-publish}

none : (c : After-publish) (i k s f at : ℕ)
    → memory_of c.args.self.now.table c.publish.new.image i k s f at ≡ 0
none c =
    published_zero c.args.self.now.table c.args.image.now c.publish.new.image
    (image_words c.args.self.now.table) c.args.self.now.valid c.requires.zeros c.requires.fits c.publish.ensures.published

pub open_runtime-requires-clause-zero : goal.open_runtime-requires-clause-zero
open_runtime-requires-clause-zero c =
    λ f at. none (goal.at.open_runtime-requires-clause-zero c).After-publish 0 1 0 f at

pub open_threads-requires-clause-zero : goal.open_threads-requires-clause-zero
open_threads-requires-clause-zero c = λ i f at.
    ap (λ (r : Rec). r f at) (c.open_runtime.ensures.keeps.others i 2 0 (λ _ e _. omega (arith, e)))
    ∙ none (goal.at.open_threads-requires-clause-zero c).After-publish i 2 0 f at

pub open_region-requires-clause-zero : goal.open_region-requires-clause-zero
open_region-requires-clause-zero c = λ f at.
    ap (λ (r : Rec). r f at)
    (c.open_threads.ensures.keeps.others 0 3 0 (λ e _. omega (arith, e)) ∙ c.open_runtime.ensures.keeps.others 0 3 0 (λ _ e _. omega (arith, e)))
    ∙ none (goal.at.open_region-requires-clause-zero c).After-publish 0 3 0 f at

pub open_task-requires-clause-zero : goal.open_task-requires-clause-zero
open_task-requires-clause-zero c = λ f at.
    ap (λ (r : Rec). r f at) (c.open_region.ensures.keeps.others 0 4 0 (λ _ e _. omega (arith, e))
    ∙ c.open_threads.ensures.keeps.others 0 4 0 (λ e _. omega (arith, e)) ∙ c.open_runtime.ensures.keeps.others 0 4 0 (λ _ e _. omega (arith, e)))
    ∙ none (goal.at.open_task-requires-clause-zero c).After-publish 0 4 0 f at

pub returns : goal.returns
returns c =
    let w = c.args.self.now.table in
    let task = c.open_task.ensures.keeps in
    let region = c.open_region.ensures.keeps in
    let threads = c.open_threads.ensures.keeps in
    let runtime = c.open_runtime.ensures.keeps in
    let zero = none (goal.at.returns c).After-publish in
    let count : length c.open_task.new.image ≡ image_words w =
    task.count
    ∙ region.count
    ∙ threads.count
    ∙ runtime.count
    ∙ c.publish.ensures.published.count
    ∙ ap (λ (xs : List ℕ). length xs) c.requires.zeros
    ∙ length-replicate (image_words w) 0 in
    let front : (i : ℕ) → i < FRONT_WORDS → slice_index c.open_task.new.image i ≡ slice_index c.publish.new.image i =
    λ i h. task.front i h ∙ region.front i h ∙ threads.front i h ∙ runtime.front i h in
    record {
      count = count;
      tables = record {
        long = omega (arith, count, front_fits w c.args.self.now.valid (image_words w) c.requires.fits);
        symbols = λ i h. front i (omega (arith, h)) ∙ c.publish.ensures.published.symbols i h;
        table = λ i h. front (43 + i) (omega (arith, h)) ∙ c.publish.ensures.published.read_back i h;
      };
      runtime_record = subst (OpensRuntime c.args.p.now) (sym (task.others 0 1 0 (λ _ e _. omega (arith, e)) ∙ region.others 0 1 0 (λ _ e _. omega (arith, e)) ∙ threads.others 0 1 0 (λ e _. omega (arith, e)))) c.open_runtime.ensures.opens;
      made = λ i known. record {
        thread = subst (OpensThread w i) (sym (task.others i 2 0 (λ _ e _. omega (arith, e)) ∙ region.others i 2 0 (λ _ e _. omega (arith, e)))) (c.open_threads.ensures.opens i known);
        region =
            λ is. subst (λ j. OpensRegion c.args.p.now w (memory_of w c.open_task.new.image j 3 0)) (sym is)
            (subst (OpensRegion c.args.p.now w) (sym (task.others 0 3 0 (λ _ e _. omega (arith, e)))) c.open_region.ensures.opens);
        task = λ is. subst (λ j. OpensTask c.args.p.now w (memory_of w c.open_task.new.image j 4 0)) (sym is) c.open_task.ensures.opens;
        no_region = λ s ne f at.
            ap (λ (r : Rec). r f at) (task.others i 3 s (λ _ e _. omega (arith, e)) ∙ region.others i 3 s (λ e _ e'. ne e e')
            ∙ threads.others i 3 s (λ e _. omega (arith, e)) ∙ runtime.others i 3 s (λ _ e _. omega (arith, e))) ∙ zero i 3 s f at;
        no_task = λ s ne f at.
            ap (λ (r : Rec). r f at) (task.others i 4 s (λ e _ e'. ne e e') ∙ region.others i 4 s (λ _ e _. omega (arith, e))
            ∙ threads.others i 4 s (λ e _. omega (arith, e)) ∙ runtime.others i 4 s (λ _ e _. omega (arith, e))) ∙ zero i 4 s f at;
      };
      gaps = λ place gap.
          task.gaps place gap ∙ region.gaps place gap ∙ threads.gaps place gap ∙ runtime.gaps place gap
          ∙ c.publish.ensures.published.others place gap.behind ∙ ap (λ (xs : List ℕ). slice_index xs place) c.requires.zeros ∙ zero_at (image_words w) place;
    }

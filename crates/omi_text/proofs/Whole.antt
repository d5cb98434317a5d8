-- A line as it is added part by part is the whole line.
use Rattle.std.proofs.Common.{◌≡◌, ◌<◌, ℕ, List, [], ◌∷◌, ◌++◌, length, refl, ap, ◌∙◌, append_assoc, arith, lit<}
use Rattle.std.specs.Prelude.{Result, Ok, Err, OnOk}
use Rattle.omi_model.specs.declared.view.RegionRow.{RegionRow}
use Rattle.omi_model.specs.declared.view.TaskRow.{TaskRow}
use Rattle.omi_text.specs.Lines.{line}
use Rattle.omi_text.specs.Parts.{spaced, region_name, region_variables, region_around, task_name, task_region, task_ancestors, task_frames, dynamic_variable, list_variables, task_variables}
use Rattle.omi_text.specs.Regions.{region_line}
use Rattle.omi_text.specs.Tasks.{task_line, environment_line}

-- what is told with a success, told otherwise
pub on_ok : {T E : Type 0} (r : Result T E) {P Q : Type 0} → (P → Q) → OnOk r P → OnOk r Q
on_ok (Ok x) more told = more told
on_ok (Err e) more told = tt

-- three parts, one after the other
three_parts : (old first second new a b c whole : List ℕ) → first ≡ old ++ a → second ≡ first ++ b
    → a ++ (b ++ c) ≡ whole → new ≡ second ++ c → new ≡ old ++ whole
three_parts old first second new a b c whole is_first is_second are then =
    then
    ∙ ap (λ (t : List ℕ). t ++ c) (is_second ∙ ap (λ (t : List ℕ). t ++ b) is_first)
    ∙ append_assoc (old ++ a) b c
    ∙ append_assoc old a (b ++ c)
    ∙ ap (λ (t : List ℕ). old ++ t) are

-- four parts
four_parts : (old first second third new a b c d whole : List ℕ)
    → first ≡ old ++ a → second ≡ first ++ b → third ≡ second ++ c
    → a ++ (b ++ (c ++ d)) ≡ whole → new ≡ third ++ d → new ≡ old ++ whole
four_parts old first second third new a b c d whole is_first is_second is_third are then =
    then
    ∙ ap (λ (t : List ℕ). t ++ d) is_third
    ∙ append_assoc second c d
    ∙ three_parts old first second (second ++ (c ++ d)) a b (c ++ d) whole is_first is_second are refl

-- words with a space behind each, and then a line of words, are one line
line_on : (ws : List (List ℕ)) (v : List ℕ) (vs : List (List ℕ))
    → spaced ws ++ line (v ∷ vs) ≡ line (ws ++ v ∷ vs)
line_on [] v vs = refl
line_on (w ∷ []) v vs = append_assoc w (32 ∷ []) (line (v ∷ vs))
line_on (w ∷ u ∷ ws) v vs =
    append_assoc w (32 ∷ spaced (u ∷ ws)) (line (v ∷ vs))
    ∙ ap (λ (t : List ℕ). w ++ 32 ∷ t) (line_on (u ∷ ws) v vs)

joined : (ws us : List (List ℕ)) → 0 < length us → spaced ws ++ line us ≡ line (ws ++ us)
joined ws [] some = absurd (omega (arith, some))
joined ws (v ∷ vs) some = line_on ws v vs

region_whole : (r : RegionRow)
    → spaced (region_name r) ++ (spaced (region_variables r) ++ line (region_around r))
    ≡ region_line r
unfolding region_name region_variables region_around region_line
region_whole r =
    ap (λ (t : List ℕ). spaced (region_name r) ++ t)
    (joined (region_variables r) (region_around r) (lit< tt))
    ∙ joined (region_name r) (region_variables r ++ region_around r) (lit< tt)

environment_whole : (t : TaskRow)
    → spaced (dynamic_variable t) ++ (spaced (list_variables t) ++ line (task_variables t))
    ≡ environment_line t
unfolding dynamic_variable list_variables task_variables environment_line
environment_whole t =
    ap (λ (x : List ℕ). spaced (dynamic_variable t) ++ x)
    (joined (list_variables t) (task_variables t) (lit< tt))
    ∙ joined (dynamic_variable t) (list_variables t ++ task_variables t) (lit< tt)

task_whole : (t : TaskRow)
    → spaced (task_name t)
    ++ (spaced (task_region t) ++ (spaced (task_ancestors t) ++ line (task_frames t)))
    ≡ task_line t
unfolding task_name task_region task_ancestors task_frames task_line
task_whole t =
    ap (λ (x : List ℕ). spaced (task_name t) ++ (spaced (task_region t) ++ x))
    (joined (task_ancestors t) (task_frames t) (lit< tt))
    ∙ ap (λ (x : List ℕ). spaced (task_name t) ++ x)
    (joined (task_region t) (task_ancestors t ++ task_frames t) (lit< tt))
    ∙ joined (task_name t) (task_region t ++ (task_ancestors t ++ task_frames t)) (lit< tt)

-- ---- a text after each part of a line was added to it

pub region_added : (r : RegionRow) (old : List ℕ) {named told new : List ℕ}
    → named ≡ old ++ spaced (region_name r) → told ≡ named ++ spaced (region_variables r)
    → new ≡ told ++ line (region_around r) → new ≡ old ++ region_line r
region_added r old {named = named} {told = told} {new = new} name variables around =
    three_parts old named told new (spaced (region_name r)) (spaced (region_variables r))
    (line (region_around r)) (region_line r) name variables (region_whole r) around

pub environment_added : (t : TaskRow) (old : List ℕ) {first told new : List ℕ}
    → first ≡ old ++ spaced (dynamic_variable t) → told ≡ first ++ spaced (list_variables t)
    → new ≡ told ++ line (task_variables t) → new ≡ old ++ environment_line t
environment_added t old {first = first} {told = told} {new = new} dynamic lists others =
    three_parts old first told new (spaced (dynamic_variable t)) (spaced (list_variables t))
    (line (task_variables t)) (environment_line t) dynamic lists (environment_whole t) others

pub task_added : (t : TaskRow) (old : List ℕ) {named placed told new : List ℕ}
    → named ≡ old ++ spaced (task_name t) → placed ≡ named ++ spaced (task_region t)
    → told ≡ placed ++ spaced (task_ancestors t) → new ≡ told ++ line (task_frames t)
    → new ≡ old ++ task_line t
task_added t old {named = named} {placed = placed} {told = told} {new = new} name region ancestors frames =
    four_parts old named placed told new (spaced (task_name t)) (spaced (task_region t))
    (spaced (task_ancestors t)) (line (task_frames t)) (task_line t) name region ancestors
    (task_whole t) frames

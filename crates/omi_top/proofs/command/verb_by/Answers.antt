use Rattle.std.proofs.Common.{◌≡◌, ◌≤◌, ℕ, Bool, true, false, List, [], ◌∷◌, length, get_or, refl, ap, ◌∙◌, subst, arith}
use Rattle.std.specs.Prelude.{codes}
use Rattle.std.specs.Str.{bytes_eq}
use Rattle.std.proofs.lemmas.Slice.Eq.{bytes_eq-Decides}
use Rattle.omi_line.specs.declared.line.Line.{Line}
use Rattle.omi_top.specs.Command.{Faulty, verb_by}
use Rattle.omi_top.proofs.command.verb_by.Goals as goal

-- a word that isn't another one
unlike : (word other : List ℕ) → (word ≡ other → ⊥) → bytes_eq word other ≡ false
unlike word other ne = go (bytes_eq word other) refl
  where
    go : (b : Bool) → bytes_eq word other ≡ b → bytes_eq word other ≡ false
    go true e = absurd (ne ((bytes_eq-Decides word other).0 e))
    go false e = e

-- a verb that is none of these asks for nothing
no_verb : (words : List (List ℕ)) (verb : List ℕ) (line : Line) → 1 ≤ length words → verb ≡ get_or words 0 verb
    → (verb ≡ codes "stop" → ⊥) → (verb ≡ codes "make" → ⊥) → (verb ≡ codes "show" → ⊥)
    → (verb ≡ codes "run" → ⊥) → (verb ≡ codes "recode" → ⊥) → (verb ≡ codes "elf" → ⊥)
    → (verb ≡ codes "audit" → ⊥) → (verb ≡ codes "follow" → ⊥) → Faulty ≡ verb_by words line
no_verb [] verb line some is stop make show run recode elf audit follow = absurd (omega (arith, some))
no_verb (w ∷ ws) verb line some is stop make show run recode elf audit follow =
    let a = unlike w (codes "stop") (λ e. stop (is ∙ e)) in
    let b = unlike w (codes "make") (λ e. make (is ∙ e)) in
    let c = unlike w (codes "show") (λ e. show (is ∙ e)) in
    let d = unlike w (codes "run") (λ e. run (is ∙ e)) in
    let e = unlike w (codes "recode") (λ e. recode (is ∙ e)) in
    let f = unlike w (codes "elf") (λ e. elf (is ∙ e)) in
    let g = unlike w (codes "audit") (λ e. audit (is ∙ e)) in
    let h = unlike w (codes "follow") (λ e. follow (is ∙ e)) in
    rw (a, b, c, d, e, f, g, h) refl

pub returns-in_default-text_of-clause-asked : goal.returns-in_default-text_of-clause-asked
returns-in_default-text_of-clause-asked c =
    let d = c.in_default-text_of in
    let some : 1 ≤ length c.as_slice.result.now = c.in-len1-up.len_at_least in
    let is = c.text_of.ensures in
    no_verb c.args.line.now.words c.verb-item.result c.args.line.now
    (subst (λ (xs : List (List ℕ)). 1 ≤ length xs) c.as_slice.ensures some)
    (c.verb-item.is ∙ ap (λ (xs : List (List ℕ)). get_or xs 0 c.verb-item.result) c.as_slice.ensures)
    (λ e. d.not-stop (is ∙ e)) (λ e. d.not-make (is ∙ e)) (λ e. d.not-show (is ∙ e)) (λ e. d.not-run (is ∙ e))
    (λ e. d.not-recode (is ∙ e)) (λ e. d.not-elf (is ∙ e)) (λ e. d.not-audit (is ∙ e))
    (λ e. d.not-follow (is ∙ e))

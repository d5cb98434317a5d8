use Rattle.std.proofs.Common.{ℕ, ◌+◌, ◌*◌, List, [], ◌∷◌, ◌++◌, sym, ap, ◌∙◌, append_assoc}
use Rattle.std.specs.Int.{w64}
use Rattle.std.proofs.lemmas.List.{append-nil}
use Rattle.omi_elf.specs.Header.{field, numbers_from}
use Rattle.omi_elf.proofs.Tables.{numbers_from-none, numbers_from-more}
use Rattle.omi_elf.proofs.gathering.put_words.Goals as goal

pub loop-index-init : goal.loop-index-init
loop-index-init c =
    sym (ap (λ (ws : List ℕ). c.args.words.now ++ ws) (numbers_from-none c.args.order c.args.bytes.now c.args.at) ∙ append-nil c.args.words.now)

pub loop-index-preserved : goal.loop-index-preserved
loop-index-preserved c =
    let one : ℕ = field w64 c.args.order c.args.bytes.now (c.args.at + 8 * c.loop-index.index) in
    c.in_ok-push.ensures.added
    ∙ ap (λ (n : ℕ). c.loop-index.words ++ n ∷ []) c.number64.ensures
    ∙ ap (λ (ws : List ℕ). ws ++ one ∷ []) c.loop-index.invariant
    ∙ append_assoc c.args.words.now (numbers_from c.args.order c.args.bytes.now c.args.at c.loop-index.index) (one ∷ [])
    ∙ ap (λ (ws : List ℕ). c.args.words.now ++ ws) (sym (numbers_from-more c.args.order c.args.bytes.now c.args.at c.loop-index.index))

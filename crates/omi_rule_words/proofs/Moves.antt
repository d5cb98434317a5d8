-- An actor goes on and owes the same.
use Rattle.std.proofs.Common.{◌≡◌, ℕ, refl, sym, subst}
use mathlib.Core.Path.{fun_ext}
use Rattle.omi_layout.specs.Memory.{replace_at}
use Rattle.omi_layout.proofs.Puts.{each_put}
use Rattle.omi_pc.specs.declared.actor.Actor.{Actor}
use Rattle.omi_rule_words.specs.Owes.{Owed, all_owed, owed}
use Rattle.omi_rule_words.specs.Words.{KeepsWords}
use Rattle.omi_rule_words.specs.Kinds.{MovesKeep}

pub moves_keep : MovesKeep
moves_keep =
    λ w m s actors i a keeps same. subst (λ (owes : ℕ → Owed). KeepsWords w m s owes) (sym (all actors i a same)) keeps
  where
    all : (actors : ℕ → Actor) (i : ℕ) (a : Actor) → owed a ≡ owed (actors i)
        → all_owed (replace_at actors i a) ≡ all_owed actors
    all actors i a same =
        fun_ext (λ j. each_put (λ k (x : Actor). owed x ≡ owed (actors k)) actors i a same j (λ _. refl))

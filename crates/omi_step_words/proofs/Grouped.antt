-- A task that begins or ends a group leaves the contexts of open bodies placed.
use Rattle.std.proofs.Common.{ℕ, List, [], ◌∷◌}
use Rattle.omi_pc.specs.declared.context.Context.{Context}
use Rattle.omi_pc.specs.declared.frame.Frame.{Frame}
use Rattle.omi_pc.specs.declared.frame.Opened.{Opened}
use Rattle.omi_pc.specs.declared.frame.Opened.TheVariants as opened
use Rattle.omi_pc.specs.FitLaws.{grouped}
use Rattle.omi_pc.specs.Moves.{context_under}
use Rattle.omi_step_words.specs.Placed.{AreContextsPlaced, IsContextPlaced}

module _ (w : List ℕ) (n : ℕ) (c : Context) where
  context_stays : IsContextPlaced w c → IsContextPlaced w (grouped n c)
  context_stays is = record { task = is.task; region = is.region; row = is.row }

  under_stays : (fs : List Frame) (o : Opened) → AreContextsPlaced w (context_under c o) fs
      → (AreContextsPlaced w c fs → AreContextsPlaced w (grouped n c) fs)
      → AreContextsPlaced w (context_under (grouped n c) o) fs
  under_stays fs opened.Main all more = more all
  under_stays fs opened.Worker all more = more all
  under_stays fs (opened.Master saved) all more = all
  under_stays fs (opened.Task v saved) all more = all
  under_stays fs opened.Call all more = more all
  under_stays fs (opened.Repeat left) all more = more all
  under_stays fs (opened.Critical k) all more = more all
  under_stays fs opened.Taskgroup all more = more all

  pub contexts_grouped : (fs : List Frame) → AreContextsPlaced w c fs → AreContextsPlaced w (grouped n c) fs
  contexts_grouped [] all = tt
  contexts_grouped (f ∷ fs) all = (context_stays all.0, under_stays fs f.opened all.1 (λ rest. contexts_grouped fs rest))

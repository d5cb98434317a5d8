-- What the clauses of the top call say of `follow`, from what it leaves.
use Rattle.std.proofs.Common.{◌≡◌, inl, inr, ℕ, List, Option, Some, None, Ok, Err, refl, sym, ◌∙◌, ap, subst}
use Rattle.omi_outside.specs.Outside.{Told, put_on}
use Rattle.omi_outside.specs.declared.status.Status.{Status}
use Rattle.omi_outside.specs.declared.status.Status.TheVariants as status
use Rattle.omi_corefile.specs.declared.core_image.CoreImage.{CoreImage}
use Rattle.omi_model.specs.Views.{IsViewOf}
use Rattle.omi_model.specs.declared.view.View.{View}
use Rattle.omi_script.specs.declared.program.Program.{Program}
use Rattle.omi_walk.specs.Kept.{task_names}
use Rattle.omi_frame.specs.Verb.{Answer, Gives}
use Rattle.omi_frame.specs.Statuses.{IsDoneOrFailed, ComesWhere, IsFaultStatus}
use Rattle.omi_frame.specs.Left.{IsLeft}
use Rattle.omi_top.specs.Between.{AreOfOneRun, AreStops, IsFollowedFrom, events_between, fates_after}
use Rattle.omi_top.specs.Command.{Follow}
use Rattle.omi_top.specs.declared.plan.Plan.{Plan}
use Rattle.omi_top.proofs.Between.{followed_stops}
use Rattle.omi_page.specs.CoreFiles.{IsFileOf}
use Rattle.omi_top.proofs.Files.{core_is_file}
use Rattle.omi_top.proofs.FollowVerdicts.{follow_not_refused, one_follow_answer, one_follow_refusal}
use Rattle.omi_frame.proofs.Statuses.{DidMore, DoesMore, IsDoneStatus, one_content, comes_where, never_refused, written_more}
use Rattle.omi_top.proofs.TwoStops.{by_runs, stops_of}
use Rattle.omi_commands.specs.Cores.{thread_ids}
use Rattle.omi_frame.specs.Refusal.{status_of}
use Rattle.omi_frame.specs.declared.refusal.Refusal.{Refusal}
use Rattle.omi_top.specs.CommandVerbs.{AreTold, IsAnswer, verb_of}
use Rattle.omi_top.specs.verbs.Follow.{IsFollowAnswer, IsFollowRefusal, FollowPromise}
use Rattle.omi_top.specs.verbs.Stop.{IsStopped}

-- both files have an answer
abbrev IsAnswered : Option (List ℕ) → Option (List ℕ) → Type 0
IsAnswered content others = (text : List ℕ) × IsFollowAnswer content others (Gives None (Ok text))

-- what an answer says of the cores, where their contents are told
module _ (core later : List ℕ) (told : List ℕ → Told) (content others : Option (List ℕ))
    (is : told core ≡ Some content) (also : told later ≡ Some others) where
  follow_answer : (a : Answer) → IsAnswer (Follow core later) told a → IsFollowAnswer content others a
  follow_answer a (c, here, o, there, answer) =
      subst (λ (x : Option (List ℕ)). IsFollowAnswer content x a) (one_content (told later) o others there also)
      (subst (λ (x : Option (List ℕ)). IsFollowAnswer x o a) (one_content (told core) c content here is) answer)

  refusals : (written : Option (List ℕ)) (r : Refusal)
      → IsAnswer (Follow core later) told (Gives written (Err r)) → IsFollowRefusal content others r
  refusals written r answer = go content others written (follow_answer (Gives written (Err r)) answer)
    where
      go : (c o written : Option (List ℕ)) → IsFollowAnswer c o (Gives written (Err r)) → IsFollowRefusal c o r
      go c o None said = said
      go None o (Some core) said = absurd said
      go (Some bytes) None (Some core) said = absurd said
      go (Some bytes) (Some other) (Some core) said = absurd said

  answers : (a : Answer) → DoesMore a → IsAnswer (Follow core later) told a → IsAnswered content others
  answers a more answer = go content others a more (follow_answer a answer)
    where
      go : (c o : Option (List ℕ)) (a : Answer) → DoesMore a → IsFollowAnswer c o a → IsAnswered c o
      go c o (Gives None (Err r)) more said = absurd more
      go None o (Gives None (Ok text)) more said = absurd said
      go None o (Gives (Some core) (Ok text)) more said = absurd said
      go None o (Gives (Some core) (Err r)) more said = absurd said
      go (Some bytes) None (Gives None (Ok text)) more said = absurd said
      go (Some bytes) None (Gives (Some core) (Ok text)) more said = absurd said
      go (Some bytes) None (Gives (Some core) (Err r)) more said = absurd said
      go (Some bytes) (Some other) (Gives None (Ok text)) more said = (text, said)
      go (Some bytes) (Some other) (Gives (Some core) (Ok text)) more said = absurd said
      go (Some bytes) (Some other) (Gives (Some core) (Err r)) more said = absurd said

  did : DidMore (verb_of (Follow core later)) told → IsAnswered content others
  did (inl (a, more, answer)) = answers a more answer
  did (inr (bytes, (says, answer))) = answers (Gives (Some bytes) says) (written_more bytes says) answer

-- a status that is neither success nor a fault of the outside
no_fault : (s : Status) → (IsDoneOrFailed s → ⊥) → IsFaultStatus s → ⊥
no_fault status.ReadFault none fault = none tt
no_fault status.OutOfMemory none fault = none tt
no_fault s none fault = absurd fault

no_text : (s : Status) → (IsDoneOrFailed s → ⊥) → IsDoneStatus s → ⊥
no_text status.Success none done = none tt
no_text status.WriteFault none done = none tt
no_text s none done = absurd done

module _ (core later : List ℕ) (told : List ℕ → Told) (old new : Told) (counted : Type 0)
    (out after : Option (List ℕ)) (content others : Option (List ℕ))
    (is : told core ≡ Some content) (also : told later ≡ Some others) where
  -- each other status comes exactly where there is a refusal with it
  pub refused : (s asked : Status) → (IsDoneOrFailed asked → ⊥)
      → IsLeft (verb_of (Follow core later)) told s old new counted out after
      → ComesWhere asked s ((r : Refusal) × IsFollowRefusal content others r × (status_of r ≡ asked))
  refused s asked none left =
      comes_where (verb_of (Follow core later)) told old new counted out after (IsFollowRefusal content others)
      (IsAnswered content others) (refusals core later told content others is also)
      (did core later told content others is also)
      asked s ((r : Refusal) × IsFollowRefusal content others r × (status_of r ≡ asked)) (no_fault asked none)
      (no_text asked none) (λ r refuses same. (r, refuses, same))
      (λ (one, refuses, same) r also. ap status_of (one_follow_refusal content others r one also refuses) ∙ same)
      (λ (r, refuses, same) (text, answer). follow_not_refused content others text r answer refuses) left

  -- what is answered is refused nothing
  pub follows : (s : Status) (text : List ℕ) → IsFollowAnswer content others (Gives None (Ok text))
      → IsLeft (verb_of (Follow core later)) told s old new counted out after → IsDoneOrFailed s
  follows s text answer =
      never_refused (verb_of (Follow core later)) told old new counted out after
      (λ written r said. follow_not_refused content others text r answer (refusals core later told content others is also written r said)) s

  -- what success puts
  abbrev Followed : Type 0
  Followed =
      (text : List ℕ) × IsFollowAnswer content others (Gives None (Ok text)) × (after ≡ put_on out text)

  put_by : IsLeft (verb_of (Follow core later)) told status.Success old new counted out after → Followed
  put_by (written, text, answer, held, put) = go content others written (follow_answer core later told content others is also (Gives written (Ok text)) answer)
    where
      go : (c o written : Option (List ℕ)) → IsFollowAnswer c o (Gives written (Ok text))
          → (t : List ℕ) × IsFollowAnswer c o (Gives None (Ok t)) × (after ≡ put_on out t)
      go None o None said = absurd said
      go None o (Some core) said = absurd said
      go (Some bytes) None None said = absurd said
      go (Some bytes) None (Some core) said = absurd said
      go (Some bytes) (Some other) None said = (text, said, put)
      go (Some bytes) (Some other) (Some core) said = absurd said

  pub followed : (s : Status) → s ≡ status.Success
      → IsLeft (verb_of (Follow core later)) told s old new counted out after → Followed
  followed s done left =
      put_by (subst (λ (x : Status). IsLeft (verb_of (Follow core later)) told x old new counted out after) done left)

  -- ---- two stops of one run

  module _ (bytes spelt : List ℕ) (content_is : content ≡ Some bytes) (others_is : others ≡ Some spelt)
      (image next : CoreImage) (spelled : IsFileOf bytes image) (also_spelled : IsFileOf spelt next)
      (stops : AreStops image next) where
    answer : (v : View) × IsViewOf stops.state image.contexts v
        × IsFollowAnswer content others (Gives None (Ok (fates_after stops.between (task_names v))))
    answer =
        let (v, view, follows) = followed_stops image next stops in (
          v,
          view,
          subst (λ (x : Option (List ℕ)). IsFollowAnswer x others (Gives None (Ok (fates_after stops.between (task_names v))))) (sym content_is)
              (subst (λ (x : Option (List ℕ)). IsFollowAnswer (Some bytes) x (Gives None (Ok (fates_after stops.between (task_names v))))) (sym others_is)
              (image, spelled, (next, also_spelled, follows))),
        )

    not_done : {C : Type 0} (s : Status) → (IsDoneOrFailed s → ⊥)
        → IsLeft (verb_of (Follow core later)) told s old new counted out after → C
    not_done s none left = absurd (none (follows s (fates_after stops.between (task_names answer.0)) answer.2 left))

    pub followed_from : (s : Status) → IsLeft (verb_of (Follow core later)) told s old new counted out after
        → IsFollowedFrom stops.state stops.between image.contexts s out after
    followed_from status.Success left =
        let (text, said, put) = put_by left in
        (answer.0, answer.1, put ∙ ap (put_on out) (one_follow_answer content others text (fates_after stops.between (task_names answer.0)) said answer.2))
    followed_from status.ReadFault left = tt
    followed_from status.WriteFault left = tt
    followed_from status.OutOfMemory left = tt
    followed_from status.Usage left = not_done status.Usage (λ e. e) left
    followed_from status.NoFile left = not_done status.NoFile (λ e. e) left
    followed_from status.Script left = not_done status.Script (λ e. e) left
    followed_from status.Core left = not_done status.Core (λ e. e) left
    followed_from status.Damaged left = not_done status.Damaged (λ e. e) left
    followed_from status.Incompatible left = not_done status.Incompatible (λ e. e) left

  pub followed_run : (s : Status) (bytes spelt : List ℕ) → content ≡ Some bytes → others ≡ Some spelt
      → (p : Program) (plan next : Plan) (text more : List ℕ) (a : IsStopped p plan bytes text) (b : IsStopped p next spelt more)
      → AreOfOneRun a b → IsLeft (verb_of (Follow core later)) told s old new counted out after
      → IsFollowedFrom a.state (events_between a.entries b.entries) (thread_ids p.threads) s out after
  followed_run s bytes spelt content_is others_is p plan next text more a b one left =
      subst (λ (ids : List ℕ). IsFollowedFrom a.state (events_between a.entries b.entries) ids s out after)
      a.core_of.image.contexts_are
      (by_runs p plan next bytes text spelt more a b one a.core_of.core.contexts s out after
      (followed_from bytes spelt content_is others_is a.core_of.core b.core_of.core
      (core_is_file bytes a.core_of.core a.core_of.spelled) (core_is_file spelt b.core_of.core b.core_of.spelled)
      (stops_of p plan next bytes text spelt more a b one) s left))

-- what is left keeps the promise
module _ (core later : List ℕ) (told : List ℕ → Told) (old new : Told) (counted : Type 0) (out after : Option (List ℕ)) where
  pub kept : (s : Status) → (AreTold (Follow core later) told → IsLeft (verb_of (Follow core later)) told s old new counted out after)
      → FollowPromise core later s told out after
  kept s left = record {
    refused = λ content others asked is also none.
        refused core later told old new counted out after content others is also s asked none (left ((content, is), (others, also)));
    accepts = λ content others text is also answer.
        follows core later told old new counted out after content others is also s text answer (left ((content, is), (others, also)));
    success = λ bytes others is also done.
        followed core later told old new counted out after (Some bytes) (Some others) is also s done (left ((Some bytes, is), (Some others, also)));
    stops = λ bytes others is also image next spelled also_spelled stops.
        followed_from core later told old new counted out after (Some bytes) (Some others) is also bytes others refl refl image next spelled also_spelled
        stops s (left ((Some bytes, is), (Some others, also)));
    runs = λ bytes others is also p plan next text more a b one.
        followed_run core later told old new counted out after (Some bytes) (Some others) is also s bytes others refl refl p plan next text more a b one
        (left ((Some bytes, is), (Some others, also)));
  }

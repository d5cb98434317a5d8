-- The verb `follow`: its answers, and what it promises.
use Rattle.std.specs.Prelude.{◌≡◌, ℕ, List, Option, Some, None, Ok, ◌⊎◌, [], Err, ⊤}
use Rattle.omi_outside.specs.Outside.{Told, put_on}
use Rattle.omi_outside.specs.declared.status.Status.{Status}
use Rattle.omi_outside.specs.declared.status.Status.TheVariants as status
use Rattle.omi_corefile.specs.declared.core_image.CoreImage.{CoreImage}
use Rattle.omi_script.specs.declared.program.Program.{Program}
use Rattle.omi_frame.specs.Refusal.{status_of}
use Rattle.omi_frame.specs.Statuses.{ComesWhere, IsDoneOrFailed}
use Rattle.omi_frame.specs.Verb.{Gives, Answer, Verb}
use Rattle.omi_frame.specs.declared.refusal.Refusal.{Refusal}
use Rattle.omi_commands.specs.Cores.{thread_ids}
use Rattle.omi_top.specs.Between.{AreOfOneRun, AreStops, IsFollowedFrom, events_between}
use Rattle.omi_page.specs.CoreFiles.{IsFileOf}
use Rattle.omi_top.specs.declared.plan.Plan.{Plan}
use Rattle.omi_model.specs.declared.view.View.{View}
use Rattle.omi_frame.specs.declared.refusal.Input.{Input}
use Rattle.omi_frame.specs.declared.refusal.Input.TheVariants as input
use Rattle.omi_top.specs.Cores.{IsLooked, Spells}
use Rattle.omi_top.specs.Follow.{IsFollowed, IsLaterRefusal}
use Rattle.omi_top.specs.Kinds.{IsUnwrittenBy, to_write}
use Rattle.omi_top.specs.verbs.Show.{IsShowRefusal}
use Rattle.omi_top.specs.verbs.Stop.{IsStopped}

-- why `follow` refuses, by the contents of both files: the first is refused as `show` refuses it; or it has a report, and the second is missing or
-- no core, gives no layout or another, or has lost a word of a task that is followed
abbrev pub IsFollowRefusal : Option (List ℕ) → Option (List ℕ) → Refusal → Type 0
IsFollowRefusal None content r = IsShowRefusal None r
IsFollowRefusal (Some bytes) content r =
    IsShowRefusal (Some bytes) r
    ⊎ ((v : View) × Spells bytes (λ core. IsLooked core (Ok v) × IsLaterRefusal core content r))

-- an answer of `follow`, by the contents of both files: a refusal, or what becomes of each task of the first core's report
abbrev pub IsFollowAnswer : Option (List ℕ) → Option (List ℕ) → Answer → Type 0
IsFollowAnswer content later (Gives None (Err r)) = IsFollowRefusal content later r
IsFollowAnswer (Some bytes) (Some others) (Gives None (Ok text)) =
    Spells bytes (λ core. Spells others (λ later. IsFollowed core later (Ok text)))
IsFollowAnswer content later answer = ⊥

-- the answers by what is told of both files, and the verb, which writes nothing
abbrev pub FollowAnswers : List ℕ → List ℕ → (List ℕ → Told) → Answer → Type 0
FollowAnswers core later told answer = (content : Option (List ℕ)) × (told core ≡ Some content)
    × (others : Option (List ℕ)) × (told later ≡ Some others) × IsFollowAnswer content others answer

-- it reads either of two cores
abbrev pub IsEitherCore : Input → Type 0
IsEitherCore input.Core = ⊤
IsEitherCore input.Later = ⊤
IsEitherCore read = ⊥

abbrev pub follow_verb : List ℕ → List ℕ → Verb
follow_verb core later = record {
  names = record { script = []; core = core; later = later };
  writes = None;
  are_told = λ told. ((content : Option (List ℕ)) × (told core ≡ Some content))
      × ((content : Option (List ℕ)) × (told later ≡ Some content));
  answers = FollowAnswers core later;
  is_to_write = to_write (FollowAnswers core later);
  reads_first = IsEitherCore;
  reads_back = λ read. ⊥;
  refuses_words = ⊥;
  refuses_core = λ s. ⊤;
  wrote_nothing = IsUnwrittenBy ⊤;
}

-- What `follow CORE CORE2` promises of a call that ends with the status s: told is what the files that it reads tell, and out and after what was
-- put before and behind.
pub record FollowPromise (core later : List ℕ) (s : Status) (told : List ℕ → Told) (out after : Option (List ℕ)) : Type 0 where
  -- each status that refuses comes exactly where the files are refused so: the first is judged whole before the second
  pub refused : (content others : Option (List ℕ)) (asked : Status) → told core ≡ Some content
      → told later ≡ Some others → (IsDoneOrFailed asked → ⊥)
      → ComesWhere asked s ((r : Refusal) × IsFollowRefusal content others r × (status_of r ≡ asked))
  -- what is refused in neither has an answer
  pub accepts : (content others : Option (List ℕ)) (text : List ℕ) → told core ≡ Some content
      → told later ≡ Some others → IsFollowAnswer content others (Gives None (Ok text)) → IsDoneOrFailed s
  -- with success both files are cores that give one layout, and what is put says of each task in the report of the first whether it is current
  -- in the second, or stale
  pub success : (bytes others : List ℕ) → told core ≡ Some (Some bytes)
      → told later ≡ Some (Some others) → s ≡ status.Success
      → (text : List ℕ) × IsFollowAnswer (Some bytes) (Some others) (Gives None (Ok text))
      × (after ≡ put_on out text)
  -- where the words of both cores show states of one run, and the second has each word of the records, a task is told stale exactly where an event
  -- between the two gave it back
  pub stops : (bytes others : List ℕ) → told core ≡ Some (Some bytes)
      → told later ≡ Some (Some others) → (image next : CoreImage) → IsFileOf bytes image
      → IsFileOf others next → (stops : AreStops image next)
      → IsFollowedFrom stops.state stops.between image.contexts s out after
  -- so it is of the cores that an earlier and a later stop of one run left
  pub runs : (bytes others : List ℕ) → told core ≡ Some (Some bytes)
      → told later ≡ Some (Some others) → (p : Program) (plan also : Plan) (text more : List ℕ)
      → (a : IsStopped p plan bytes text) (b : IsStopped p also others more) → AreOfOneRun a b
      → IsFollowedFrom a.state (events_between a.entries b.entries) (thread_ids p.threads) s out after

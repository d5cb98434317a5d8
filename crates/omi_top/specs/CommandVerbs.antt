-- The verb of each command, and what is promised of each.
use Rattle.std.specs.Prelude.{◌≡◌, ℕ, List, [], Option, None, Err, ⊤}
use Rattle.omi_outside.specs.Outside.{Told}
use Rattle.omi_outside.specs.declared.status.Status.{Status}
use Rattle.omi_frame.specs.Verb.{Answer, Gives, Verb}
use Rattle.omi_frame.specs.declared.refusal.Refusal.TheVariants as refusal
use Rattle.omi_top.specs.Command.{Command, Stop, Make, Show, Run, Recode, Elf, Audit, Follow, Faulty}
use Rattle.omi_top.specs.Kinds.{IsUnwrittenBy, to_write}
use Rattle.omi_top.specs.verbs.Audit.{AuditPromise, audit_verb}
use Rattle.omi_top.specs.verbs.Elf.{ElfPromise, elf_verb}
use Rattle.omi_top.specs.verbs.Follow.{FollowPromise, follow_verb}
use Rattle.omi_top.specs.verbs.Make.{MakePromise, make_verb}
use Rattle.omi_top.specs.verbs.Recode.{RecodePromise, recode_verb}
use Rattle.omi_top.specs.verbs.Run.{RunPromise, run_verb}
use Rattle.omi_top.specs.verbs.Show.{ShowPromise, show_verb}
use Rattle.omi_top.specs.verbs.Stop.{StopPromise, stop_verb}

-- words that are no command: they are refused, and nothing is read or written
abbrev pub IsNoCommand : (List ℕ → Told) → Answer → Type 0
IsNoCommand told answer = answer ≡ Gives None (Err refusal.Usage)

abbrev pub no_verb : Verb
no_verb = record {
  names = record { script = []; core = []; later = [] };
  writes = None;
  are_told = λ told. ⊤;
  answers = IsNoCommand;
  is_to_write = to_write IsNoCommand;
  reads_first = λ read. ⊥;
  reads_back = λ read. ⊥;
  refuses_words = ⊤;
  refuses_core = λ s. ⊥;
  wrote_nothing = IsUnwrittenBy ⊤;
}

abbrev pub verb_of : Command → Verb
verb_of (Stop plan script core) = stop_verb plan script core
verb_of (Make n script) = make_verb n script
verb_of (Show core) = show_verb core
verb_of (Run plan script core) = run_verb plan script core
verb_of (Recode order core copy) = recode_verb order core copy
verb_of (Elf core copy) = elf_verb core copy
verb_of (Audit core) = audit_verb core
verb_of (Follow core later) = follow_verb core later
verb_of Faulty = no_verb

-- what it says of a command: which files it reads are told, its answers, with which status it may refuse a core, and with which it wrote nothing
abbrev pub AreTold : Command → (List ℕ → Told) → Type 0
AreTold command = (verb_of command).are_told

abbrev pub IsAnswer : Command → (List ℕ → Told) → Answer → Type 0
IsAnswer command = (verb_of command).answers

abbrev pub RefusesCore : Command → Status → Type 0
RefusesCore command = (verb_of command).refuses_core

abbrev pub IsUnwritten : Command → Status → Type 0
IsUnwritten command = (verb_of command).wrote_nothing

-- What a call promises that ends with the status s, by its command: told is what the files that are read tell, old and new what the written ones hold
-- before and behind, and out and after what was put before and behind.
abbrev pub Promises : Command → Status → (List ℕ → Told) → (List ℕ → Told) → (List ℕ → Told) → Option (List ℕ)
    → Option (List ℕ) → Type 0
Promises (Stop plan script core) s told old new out after = StopPromise plan script core s told (old core) (new core) out after
Promises (Make n script) s told old new out after = MakePromise n script s (old script) (new script) out after
Promises (Show core) s told old new out after = ShowPromise core s told out after
Promises (Run plan script core) s told old new out after = RunPromise plan script core s told (old core) (new core) out after
Promises (Recode order core copy) s told old new out after = RecodePromise order core copy s told (old copy) (new copy) out after
Promises (Elf core copy) s told old new out after = ElfPromise core copy s told (old copy) (new copy) out after
Promises (Audit core) s told old new out after = AuditPromise core s told out after
Promises (Follow core later) s told old new out after = FollowPromise core later s told out after
Promises Faulty s told old new out after = ⊤
